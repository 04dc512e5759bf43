-- Transitions that are listed by the names of their entries, and sorted by their versions, rise.
use Rattle.std.proofs.Common.{◌≡◌, ℕ, suc, ◌+◌, ◌<◌, ◌≤◌, Bool, true, false, ◌&&◌, cond, List}
use Rattle.std.proofs.Common.{[], ◌∷◌, ◌++◌, map, length, get_or, refl, sym, ◌∙◌, ap, subst, arith}
use Rattle.std.specs.Prelude.{IsTrue}
use Rattle.std.specs.List.{AllByRecursion, list_all, sum_by}
use Rattle.std.specs.List.Sorted.{IsPermutation, IsSortedBy, IsStrictlySortedBy}
use Rattle.std.specs.Cmp.{IsTotalOrder, IsStrictWeakOrder, on_total, tied_itself}
use Rattle.std.specs.declared.cmp.Ordering.{Ordering}
use Rattle.std.specs.declared.cmp.Ordering.TheVariants.{Less, Equal, Greater}
use Rattle.std.specs.Ordering.{ordering_then, ordering_reverse, is_lt, is_eq}
use Rattle.std.proofs.lemmas.Bool.{false≢true}
use Rattle.std.proofs.lemmas.List.Sums.{sum_by-cons}
use Rattle.std.proofs.lemmas.List.Sorted.{ranks_by, sorted_far, sum_by-IsPermutation}
use Rattle.key_names.specs.Order.{bytes_cmp, bytes_total, key_cmp, key_total}
use Rattle.toml.specs.Data.{Data}
use Rattle.version_links.specs.declared.version.Version.{Version}
use Rattle.version_links.specs.Versions.{version_cmp, version_text}
use Rattle.release_file.specs.Checks.{IsTransition}
use Rattle.release_file.specs.Reading.{AreTransitions}
use Rattle.release_file.specs.Release.{transition_cmp, are_rising}
use Rattle.release_file.specs.declared.transition.Transition.{Transition}
use Rattle.release_file.proofs.Plans.{version_same}

-- ---- the order of transitions

-- The numbers of both versions.
nums : Transition → List (List ℕ)
nums t = (t.from.major ∷ t.from.minor ∷ t.from.patch ∷ []) ∷ (t.to.major ∷ t.to.minor ∷ t.to.patch ∷ []) ∷ []

order_is : (t u : Transition) → transition_cmp t u ≡ key_cmp (nums t) (nums u)
unfolding nums
order_is t u = by (version_cmp t.from u.from) (version_cmp t.to u.to)
  where
    last : (s : Ordering) → s ≡ ordering_then s Equal
    last Less = refl
    last Equal = refl
    last Greater = refl

    by : (r s : Ordering) → ordering_then r s ≡ ordering_then r (ordering_then s Equal)
    by r s = ap (ordering_then r) (last s)

pub transition_total : IsTotalOrder transition_cmp
transition_total = subst IsTotalOrder (λ i t u. sym (order_is t u) i) (on_total nums key_total)

pub transitions_ranked : IsStrictWeakOrder (λ (t u : Transition). is_lt (transition_cmp t u))
transitions_ranked = ranks_by transition_total (λ (t : Transition). t)

both_equal : (r s : Ordering) → ordering_then r s ≡ Equal → (r ≡ Equal) × (s ≡ Equal)
both_equal Less s e = absurd (cc)
both_equal Equal s e = (refl, e)
both_equal Greater s e = absurd (cc)

-- Transitions that tie are between the same versions.
same_versions : (t u : Transition) → transition_cmp t u ≡ Equal → (t.from ≡ u.from) × (t.to ≡ u.to)
same_versions t u e =
    let both = both_equal (version_cmp t.from u.from) (version_cmp t.to u.to) e in
    (version_same t.from u.from both.0, version_same t.to u.to both.1)

-- ---- how many tie

-- One where they tie.
ties : Transition → Transition → ℕ
ties t u = cond (is_eq (transition_cmp t u)) 1 0

many : Transition → List Transition → ℕ
many t us = sum_by (ties t) us

tie_is : (r : Ordering) → is_eq r ≡ true → r ≡ Equal
tie_is Less e = absurd (false≢true e)
tie_is Equal e = refl
tie_is Greater e = absurd (false≢true e)

-- The name of the entry of two versions.
pair_text : Version → Version → List ℕ
pair_text from to = 40 ∷ (version_text from ++ 44 ∷ 32 ∷ (version_text to ++ 41 ∷ []))

-- The same pair has the same name.
one_name : (e f : List ℕ × Data) (t u : Transition) → IsTransition e t.from t.to t.names.items → IsTransition f u.from u.to u.names.items
    → transition_cmp t u ≡ Equal → e.0 ≡ f.0
unfolding pair_text
one_name e f t u is also same =
    let both = same_versions t u same in
    is.pair.text_is ∙ ap (λ (v : Version). pair_text v t.to) both.0 ∙ ap (pair_text u.from) both.1 ∙ sym also.pair.text_is

one_tie : (t u : Transition) → transition_cmp t u ≡ Equal → ties t u ≡ 1
unfolding ties
one_tie t u same = ap (λ r. cond (is_eq r) 1 0) same

no_tie : (t u : Transition) → is_eq (transition_cmp t u) ≡ false → ties t u ≡ 0
unfolding ties
no_tie t u other = ap (λ b. cond b 1 0) other

none_ties : (e : List ℕ × Data) (t u : Transition) (es : List (List ℕ × Data)) (us : List Transition) → IsTransition e u.from u.to u.names.items
    → transition_cmp t u ≡ Equal → AllByRecursion (λ n. bytes_cmp e.0 n ≡ Less) (map (λ f. f.0) es) → AreTransitions es us → many t us ≡ 0
unfolding many
none_ties e t u [] [] is same above all = refl
none_ties e t u [] (w ∷ us) is same above all = absurd all
none_ties e t u (f ∷ es) [] is same above all = absurd all
none_ties e t u (f ∷ es) (w ∷ us) is same above all =
    omega (
      arith,
      sum_by-cons (ties t) w us,
      none_ties e t u es us is same above.1 all.1,
      elim (is_eq (transition_cmp t w)) as (λ b. is_eq (transition_cmp t w) ≡ b → ties t w ≡ 0) [
        | true ↦ λ tie.
            let also : transition_cmp u w ≡ Equal = sym (transition_total.congr t u w same) ∙ tie_is (transition_cmp t w) tie in
            let names : e.0 ≡ f.0 = one_name e f u w is all.0 also in
            let clash : Equal ≡ Less = sym (tied_itself bytes_total e.0) ∙ ap (bytes_cmp e.0) names ∙ above.0 in
            absurd (cc)
        | false ↦ λ other. no_tie t w other
      ] refl,
    )

-- Of transitions whose names rise, one at most ties with another.
one_at_most : (es : List (List ℕ × Data)) (us : List Transition) → IsStrictlySortedBy bytes_cmp (map (λ e. e.0) es) → AreTransitions es us → (t : Transition)
    → many t us ≤ 1
unfolding many IsStrictlySortedBy
one_at_most [] [] rising all t = omega arith
one_at_most [] (u ∷ us) rising all t = absurd all
one_at_most (e ∷ es) [] rising all t = absurd all
one_at_most (e ∷ es) (u ∷ us) rising all t = elim (is_eq (transition_cmp t u)) as (λ b. is_eq (transition_cmp t u) ≡ b → sum_by (ties t) (u ∷ us) ≤ 1) [
  | true ↦ λ tie.
      let same = tie_is (transition_cmp t u) tie in
      omega (arith, sum_by-cons (ties t) u us, one_tie t u same, none_ties e t u es us all.0 same rising.0 all.1)
  | false ↦ λ other. omega (arith, sum_by-cons (ties t) u us, no_tie t u other, one_at_most es us rising.1 all.1 t)
] refl

-- ---- sorted transitions

less_is : (r : Ordering) → is_lt (ordering_reverse r) ≡ false → is_eq r ≡ false → is_lt r ≡ true
less_is Less back other = refl
less_is Equal back other = absurd (false≢true (sym other))
less_is Greater back other = absurd (false≢true (sym back))

both_true : (a b : Bool) → a ≡ true → b ≡ true → (a && b) ≡ true
both_true true b one two = two
both_true false b one two = one

not_tied : (t u : Transition) → ties t u ≡ 0 → is_eq (transition_cmp t u) ≡ false
unfolding ties
not_tied t u none = by (is_eq (transition_cmp t u)) none
  where
    by : (b : Bool) → ◌≡◌ {A = ℕ} (cond b 1 0) 0 → b ≡ false
    by true one = absurd (omega (arith, one))
    by false one = refl

all_above : (t : Transition) (us : List Transition) → ((j : ℕ) (d : Transition) → j < length us → is_lt (transition_cmp (get_or us j d) t) ≡ false)
    → many t us ≡ 0 → list_all (λ u. is_lt (transition_cmp t u)) us ≡ true
unfolding many
all_above t [] far none = refl
all_above t (u ∷ us) far none =
    let parts = sum_by-cons (ties t) u us in
    both_true (is_lt (transition_cmp t u)) (list_all (λ u. is_lt (transition_cmp t u)) us)
    (less_is (transition_cmp t u) (ap is_lt (sym (transition_total.antisymm u t)) ∙ far 0 u (omega arith)) (not_tied t u (omega (arith, parts, none))))
    (all_above t us (λ j d within. far (suc j) d (omega (arith, within))) (omega (arith, parts, none)))

rises : (ts : List Transition) → IsSortedBy (λ (t u : Transition). is_lt (transition_cmp t u)) ts → ((t : Transition) → many t ts ≤ 1) → are_rising ts ≡ true
unfolding many
rises [] sorted one = refl
rises (t ∷ ts) sorted one =
    both_true (list_all (λ u. is_lt (transition_cmp t u)) ts) (are_rising ts)
    (all_above t ts (λ j d within. sorted_far (λ (t u : Transition). is_lt (transition_cmp t u)) transitions_ranked (t ∷ ts) sorted 0 (suc j) d (omega arith)
    (omega (arith, within)))
    (omega (arith, one t, sum_by-cons (ties t) t ts, one_tie t t (tied_itself transition_total t))))
    (rises ts (λ k d low within. next k d (sorted (suc k) d (omega arith) (omega (arith, within)))) (λ u. omega (arith, one u, sum_by-cons (ties u) t ts)))
  where
    next : (k : ℕ) (d : Transition) → is_lt (transition_cmp (get_or (t ∷ ts) (suc k + 1) d) (get_or ts k d)) ≡ false
        → is_lt (transition_cmp (get_or ts (k + 1) d) (get_or ts k d)) ≡ false
    next k d is = let place : suc k + 1 ≡ suc (k + 1) = omega arith in subst (λ (n : ℕ). is_lt (transition_cmp (get_or (t ∷ ts) n d) (get_or ts k d)) ≡ false)
        place is

-- Listed by names that rise, and then sorted, transitions rise.
pub sorted_rise : (es : List (List ℕ × Data)) (listed sorted : List Transition) → IsStrictlySortedBy bytes_cmp (map (λ e. e.0) es) → AreTransitions es listed
    → IsPermutation listed sorted → IsSortedBy (λ (t u : Transition). is_lt (transition_cmp t u)) sorted → IsTrue (are_rising sorted)
unfolding many
sorted_rise es listed sorted rising all moved is =
    rises sorted is (λ t. omega (arith, one_at_most es listed rising all t, sum_by-IsPermutation (ties t) listed sorted moved))
