-- The way of a migration: its steps are transitions of the release, and where none is to be made the versions are one.
use Rattle.std.proofs.Common.{◌≡◌, Bool, true, false, ◌&&◌, List, [], ◌∷◌}
use Rattle.std.proofs.Common.{map, length, refl, sym, ◌∙◌, ap, subst, arith}
use Rattle.std.specs.Prelude.{IsTrue, Contains, reverse}
use Rattle.std.specs.List.{list_all}
use Rattle.std.proofs.lemmas.Bool.{false≢true}
use Rattle.std.proofs.lemmas.List.{length-map, length-reverse, reverse-append}
use Rattle.std.proofs.lemmas.List.Folds.{list_all_at, list_all-append}
use Rattle.version_links.specs.declared.version.Version.{Version}
use Rattle.release_file.specs.declared.transition.Transition.{Transition}
use Rattle.release_file.specs.Release.{leads_on}
use Rattle.release_file.specs.Chain.{Leads, is_back, lower, upper, in_order, step_of, IsWay}
use Rattle.release_file.proofs.Plans.{plans_once}

pub contained : (p : Transition → Bool) (all : List Transition) (t : Transition) → IsTrue (list_all p all) → Contains all t → IsTrue (p t)
contained p all t holds there = elim (p t) as (λ b. p t ≡ b → b ≡ true) [
  | true ↦ λ e. refl
  | false ↦ λ e. absurd (false≢true (sym (list_all_at p all there.0 t there.1 (ap p there.2 ∙ e)) ∙ holds))
] refl

both_true : (a b : Bool) → a ≡ true → b ≡ true → (a && b) ≡ true
both_true true true one two = refl
both_true true false one two = two
both_true false b one two = one

chain_known : (p : Transition → Bool) (all : List Transition) (target at : Version) (chain : List Transition) (end : Version) → IsTrue (list_all p all)
    → Leads all target at chain end → IsTrue (list_all p chain)
chain_known p all target at [] end holds led = refl
chain_known p all target at (t ∷ chain) end holds led = both_true (p t) (list_all p chain) (contained p all t holds led.0.listed)
    (chain_known p all target t.to chain end holds led.1)

reversed_known : (p : Transition → Bool) (ts : List Transition) → IsTrue (list_all p ts) → IsTrue (list_all p (reverse ts))
reversed_known p [] holds = refl
reversed_known p (t ∷ ts) holds =
    let parts = both_parts (p t) (list_all p ts) holds in
    ap (list_all p) (reverse-append (t ∷ []) ts) ∙ list_all-append p (reverse ts) (t ∷ [])
    ∙ both_true (list_all p (reverse ts)) (list_all p (t ∷ [])) (reversed_known p ts parts.1) (both_true (p t) true parts.0 refl)
  where
    both_parts : (a b : Bool) → (a && b) ≡ true → (a ≡ true) × (b ≡ true)
    both_parts true b e = (refl, e)
    both_parts false b e = absurd (false≢true e)

-- What is known of all steps is known of those of a way.
pub way_known : (p : Transition → Bool) (known all : List Transition) (from to : Version) (way : List Transition) → known ≡ all → IsTrue (list_all p all)
    → IsWay known from to way → IsTrue (list_all p way)
way_known p known all from to way same holds is =
    subst (λ l. IsTrue (list_all p l)) (sym is.way_is) (turned (is_back from to))
  where
    chained : IsTrue (list_all p is.chain)
    chained = chain_known p known (upper (is_back from to) from to) (lower (is_back from to) from to) is.chain (upper (is_back from to) from to)
        (ap (list_all p) same ∙ holds) is.is_chain.led

    turned : (b : Bool) → IsTrue (list_all p (in_order b is.chain))
    turned true = reversed_known p is.chain chained
    turned false = chained

-- Where no step is to be made, the versions are one.
pub no_steps : (all : List Transition) (from to : Version) (way : List Transition) → way ≡ [] → IsWay all from to way → from ≡ to
no_steps all from to way none is = by (is_back from to) is.chain is.is_chain.led (sym is.way_is ∙ none) where
  ends : (b : Bool) (chain : List Transition) → length chain ≡ 0 → Leads all (upper b from to) (lower b from to) chain (upper b from to) → from ≡ to
  ends true [] empty led = sym led
  ends false [] empty led = led
  ends b (t ∷ chain) empty led = absurd (omega arith)

  size : (b : Bool) (chain : List Transition) → in_order b chain ≡ [] → length chain ≡ 0
  size false chain e = ap length e
  size true chain e = sym (length-reverse chain) ∙ ap length e

  by : (b : Bool) (chain : List Transition) → Leads all (upper b from to) (lower b from to) chain (upper b from to) → in_order b chain ≡ [] → from ≡ to
  by b chain led e = ends b chain (size b chain e) led

-- Where the versions are one, no step is to be made.
pub no_way_on : (all : List Transition) (from to : Version) (way : List Transition) → IsTrue (list_all leads_on all) → from ≡ to → IsWay all from to way
    → length way ≡ 0
no_way_on all from to way lead same is =
    let back = is_back from to in
    let steps = map (step_of back) way in
    let none : IsWay all from to [] = record { chain = []; is_chain = record { led = meets back }; way_is = in_any back } in
    let empty : [] ≡ steps = plans_once all from to [] steps lead (record { way = []; is_way = none; steps_are = refl })
    (record { way = way; is_way = is; steps_are = refl }) in
    sym (length-map way (step_of back)) ∙ sym (ap length empty)
  where
    meets : (b : Bool) → lower b from to ≡ upper b from to
    meets true = sym same
    meets false = same

    in_any : (b : Bool) → [] ≡ in_order b []
    in_any true = refl
    in_any false = refl
