-- A plan is a function of the transitions and the versions.
use Rattle.std.proofs.Common.{◌≡◌, ◌≢◌, Bool, true, false, List, [], ◌∷◌, map, get_or, refl, sym, ◌∙◌, ap, subst}
use Rattle.std.specs.Prelude.{IsTrue, Contains, reverse}
use Rattle.std.specs.List.{list_all}
use Rattle.std.specs.declared.cmp.Ordering.{Ordering}
use Rattle.std.specs.declared.cmp.Ordering.TheVariants.{Less, Equal, Greater}
use Rattle.std.specs.Ordering.{ordering_reverse, is_le}
use Rattle.key_names.specs.Order.{bytes_cmp-IsAntisymmetric}
use Rattle.std.proofs.lemmas.Bool.{false≢true}
use Rattle.version_links.specs.declared.version.Version.{Version}
use Rattle.release_file.specs.declared.transition.Transition.{Transition}
use Rattle.release_file.specs.declared.planning.Step.{Step}
use Rattle.version_links.specs.Versions.{version_cmp}
use Rattle.release_file.specs.Order.{is_before, is_upto}
use Rattle.release_file.specs.Release.{leads_on}
use Rattle.release_file.specs.Chain.{IsFarthest, Leads, IsMissing, is_back, lower, upper, in_order, step_of, IsPlan, HasNoPlan}
use Rattle.release_file.proofs.Versions.{version_total, before_back}
use Rattle.release_file.proofs.Farthest.{all_lead, map-reverse}

-- ---- versions that are not beyond each other

-- Versions that tie are one.
pub version_same : (v w : Version) → version_cmp v w ≡ Equal → v ≡ w
version_same v w e =
    let same : v.major ∷ v.minor ∷ v.patch ∷ [] ≡ w.major ∷ w.minor ∷ w.patch ∷ [] =
    bytes_cmp-IsAntisymmetric (v.major ∷ v.minor ∷ v.patch ∷ []) (w.major ∷ w.minor ∷ w.patch ∷ []) e in
    λ i. record { major = get_or (same i) 0 0; minor = get_or (same i) 1 0; patch = get_or (same i) 2 0 }

upto_equal : (r s : Ordering) → s ≡ ordering_reverse r → IsTrue (is_le r) → IsTrue (is_le s) → r ≡ Equal
upto_equal Less s turned le back = absurd (false≢true (sym (ap is_le turned) ∙ back))
upto_equal Equal s turned le back = refl
upto_equal Greater s turned le back = absurd (false≢true le)

upto_same : (v w : Version) → IsTrue (is_upto v w) → IsTrue (is_upto w v) → v ≡ w
upto_same v w le back = version_same v w (upto_equal (version_cmp v w) (version_cmp w v) (version_total.antisymm w v) le back)

-- ---- chains

module _ (all : List Transition) (target : Version) (lead : IsTrue (list_all leads_on all)) where
  one_farthest : (at : Version) (t u : Transition) → IsFarthest all at target t → IsFarthest all at target u → t.to ≡ u.to
  one_farthest at t u one two = upto_same t.to u.to (two.farthest t one.listed one.begins one.within) (one.farthest u two.listed two.begins two.within)

  -- No step begins at the target.
  none_behind : (t : Transition) → IsFarthest all target target t → ⊥
  none_behind t is =
      let on : IsTrue (is_before target t.to) = subst (λ v. IsTrue (is_before v t.to)) is.begins (all_lead all t lead is.listed) in
      false≢true (sym (before_back target t.to on) ∙ is.within)

  steps_same : (back : Bool) (t u : Transition) → t.from ≡ u.from → t.to ≡ u.to → step_of back t ≡ step_of back u
  steps_same false t u a b = λ i. record { from = a i; to = b i; back = false }
  steps_same true t u a b = λ i. record { from = b i; to = a i; back = true }

  chains_same : (back : Bool) (at : Version) (one other : List Transition) → Leads all target at one target → Leads all target at other target
      → map (step_of back) one ≡ map (step_of back) other
  chains_same back at [] [] a b = refl
  chains_same back at [] (u ∷ other) a b = absurd (none_behind u (subst (λ v. IsFarthest all v target u) a b.0))
  chains_same back at (t ∷ one) [] a b = absurd (none_behind t (subst (λ v. IsFarthest all v target t) b a.0))
  chains_same back at (t ∷ one) (u ∷ other) a b =
      let ends = one_farthest at t u a.0 b.0 in
      let head = steps_same back t u (a.0.begins ∙ sym b.0.begins) ends in
      let rest = chains_same back u.to one other (subst (λ v. Leads all target v one target) ends a.1) b.1 in
      ap (λ s. s ∷ map (step_of back) one) head ∙ ap (λ l. step_of back u ∷ l) rest

  chain_or_missing : (at end : Version) (one other : List Transition) → Leads all target at one target → Leads all target at other end → end ≢ target
      → ((t : Transition) → Contains all t → t.from ≡ end → IsTrue (is_upto t.to target) → ⊥) → ⊥
  chain_or_missing at end [] [] a b short ends = short (sym b ∙ a)
  chain_or_missing at end [] (u ∷ other) a b short ends = none_behind u (subst (λ v. IsFarthest all v target u) a b.0)
  chain_or_missing at end (t ∷ one) [] a b short ends = ends t a.0.listed (a.0.begins ∙ b) a.0.within
  chain_or_missing at end (t ∷ one) (u ∷ other) a b short ends = chain_or_missing u.to end one other
      (subst (λ v. Leads all target v one target) (one_farthest at t u a.0 b.0) a.1) b.1 short ends

  one_missing : (at end stop : Version) (one other : List Transition) → Leads all target at one end → Leads all target at other stop
      → ((t : Transition) → Contains all t → t.from ≡ end → IsTrue (is_upto t.to target) → ⊥)
      → ((t : Transition) → Contains all t → t.from ≡ stop → IsTrue (is_upto t.to target) → ⊥) → end ≡ stop
  one_missing at end stop [] [] a b ends stops = sym a ∙ b
  one_missing at end stop [] (u ∷ other) a b ends stops = absurd (ends u b.0.listed (b.0.begins ∙ a) b.0.within)
  one_missing at end stop (t ∷ one) [] a b ends stops = absurd (stops t a.0.listed (a.0.begins ∙ b) a.0.within)
  one_missing at end stop (t ∷ one) (u ∷ other) a b ends stops = one_missing u.to end stop one other
      (subst (λ v. Leads all target v one end) (one_farthest at t u a.0 b.0) a.1) b.1 ends stops

-- ---- plans

ordered_same : (turn back : Bool) (one other : List Transition) → map (step_of back) one ≡ map (step_of back) other
    → map (step_of back) (in_order turn one) ≡ map (step_of back) (in_order turn other)
ordered_same false back one other same = same
ordered_same true back one other same = map-reverse (step_of back) one ∙ ap reverse same ∙ sym (map-reverse (step_of back) other)

pub plans_once : (all : List Transition) (from to : Version) (one other : List Step) → IsTrue (list_all leads_on all) → IsPlan all from to one
    → IsPlan all from to other → one ≡ other
plans_once all from to one other lead a b =
    let back = is_back from to in
    a.steps_are ∙ ap (map (step_of back)) a.is_way.way_is
    ∙ ordered_same back back a.is_way.chain b.is_way.chain (chains_same all (upper back from to) lead back (lower back from to) a.is_way.chain b.is_way.chain
    a.is_way.is_chain.led b.is_way.is_chain.led)
    ∙ sym (b.steps_are ∙ ap (map (step_of back)) b.is_way.way_is)

pub plans_or_misses : (all : List Transition) (from to at target : Version) (steps : List Step) → IsTrue (list_all leads_on all) → IsPlan all from to steps
    → HasNoPlan all from to at target → ⊥
plans_or_misses all from to at target steps lead plan none =
    let back = is_back from to in
    let missing = subst (λ v. IsMissing all (lower back from to) v at) none.target_is none.missing in
    chain_or_missing all (upper back from to) lead (lower back from to) at plan.is_way.chain missing.chain plan.is_way.is_chain.led missing.led missing.short
    missing.ends

pub misses_once : (all : List Transition) (from to at target other end : Version) → IsTrue (list_all leads_on all) → HasNoPlan all from to at target
    → HasNoPlan all from to other end → at ≡ other
misses_once all from to at target other end lead a b =
    let back = is_back from to in
    let one = subst (λ v. IsMissing all (lower back from to) v at) a.target_is a.missing in
    let two = subst (λ v. IsMissing all (lower back from to) v other) b.target_is b.missing in
    one_missing all (upper back from to) lead (lower back from to) at other one.chain two.chain one.led two.led one.ends two.ends
