-- A query is at fault where its pairs with a name are, or its others.
use Rattle.std.proofs.Common.{◌≡◌, ℕ, zero, suc, Bool, true, false, ◌||◌, List, [], ◌∷◌, ◌++◌, codes, Contains, refl, sym, ap, ◌∙◌, arith}
use Rattle.std.specs.Prelude.{not}
use Rattle.std.specs.List.{filter}
use Rattle.std.proofs.lemmas.Bool.{false≢true}
use Rattle.std.proofs.lemmas.Slice.Eq.{bytes_eq-Decides}
use Rattle.std.specs.Str.{bytes_eq}
use Rattle.api_http.specs.Query.{Pair, named, others, is_among, QueryFault, unknown, repeated, outside, both, missing}
use Rattle.api_http.proofs.Kept.{kept, was_there, passes, around, both_kept}

either_false : (a b : Bool) → (a || b) ≡ false → (a ≡ false) × (b ≡ false)
either_false true b e = absurd (false≢true (sym e))
either_false false b e = (refl, e)

not_true : (b : Bool) → not b ≡ true → b ≡ false
not_true true e = absurd (false≢true e)
not_true false e = refl

-- two pairs of a name that are kept are two of the whole query
twice : (test : Pair → Bool) (pairs : List Pair) (allowed wanted : List (List ℕ)) (n v w : List ℕ) (front middle back : List Pair)
    → filter test pairs ≡ front ++ (n, v) ∷ (middle ++ (n, w) ∷ back) → QueryFault allowed wanted pairs
twice test pairs allowed wanted n v w front middle back at =
    let first = around test pairs front (n, v) (middle ++ (n, w) ∷ back) at in
    let second = around test first.back middle (n, w) back first.keeps in
    repeated n v w first.front second.front second.back (first.is ∙ ap (λ l. first.front ++ (n, v) ∷ l) second.is)

-- two pairs of a name that is kept are two of those that are kept
twice_kept : (test : Pair → Bool) (pairs : List Pair) (allowed wanted : List (List ℕ)) (n v w : List ℕ) (front middle back : List Pair)
    → pairs ≡ front ++ (n, v) ∷ (middle ++ (n, w) ∷ back) → test (n, v) ≡ true → test (n, w) ≡ true → QueryFault allowed wanted (filter test pairs)
twice_kept test pairs allowed wanted n v w front middle back at p q =
    repeated n v w (filter test front) (filter test middle) (filter test back)
    (ap (filter test) at ∙ both_kept test front (n, v) middle (n, w) back p q)

-- the name is wanted of the pairs with it where it is wanted of the whole query
abbrev pub WantsAlike : List ℕ → List (List ℕ) → List (List ℕ) → Type 0
WantsAlike x wanted needed = (n : List ℕ) → Contains wanted n → Contains needed n × (bytes_eq n x ≡ true)

-- none are wanted
pub none_wanted : (x : List ℕ) → WantsAlike x [] []
none_wanted x n (k, within, _) = absurd (omega (arith, within))

-- the name alone is wanted
pub one_wanted : (x : List ℕ) → WantsAlike x (x ∷ []) (x ∷ [])
one_wanted x n wants = (wants, (bytes_eq-Decides n x).1 (by wants))
  where
    by : Contains (x ∷ []) n → n ≡ x
    by (zero, within, is) = sym is
    by (suc k, within, is) = absurd (omega (arith, within))

module _ (x : List ℕ) (rest wanted needed : List (List ℕ)) (pairs : List Pair) where
  abbrev has_name : Pair → Bool
  has_name p = bytes_eq p.0 x

  abbrev has_other : Pair → Bool
  has_other p = not (bytes_eq p.0 x)

  -- a fault of the pairs with the name is one of the query
  pub named_fault : WantsAlike x needed wanted → QueryFault (x ∷ []) needed (named x pairs) → QueryFault (x ∷ rest) wanted pairs
  named_fault alike (unknown n v has strange) =
      absurd (false≢true (sym strange ∙ ap (λ b. b || false) (passes has_name pairs (n, v) has)))
  named_fault alike (repeated n v w front middle back at) = twice has_name pairs (x ∷ rest) wanted n v w front middle back at
  named_fault alike (outside n v has wrong) = outside n v (was_there has_name pairs (n, v) has) wrong
  named_fault alike (both v w has has') =
      both v w (was_there has_name pairs (codes "keys", v) has) (was_there has_name pairs (codes "prefix", w) has')
  named_fault alike (missing n needs none) =
      let like = alike n needs in
      missing n like.0 (λ v has. none v (kept has_name pairs (n, v) has like.1))

  -- a fault of the others is one of the query
  pub others_fault : QueryFault rest [] (others x pairs) → QueryFault (x ∷ rest) wanted pairs
  others_fault (unknown n v has strange) =
      let other = not_true (bytes_eq n x) (passes has_other pairs (n, v) has) in
      unknown n v (was_there has_other pairs (n, v) has) (ap (λ b. b || is_among rest n) other ∙ strange)
  others_fault (repeated n v w front middle back at) = twice has_other pairs (x ∷ rest) wanted n v w front middle back at
  others_fault (outside n v has wrong) = outside n v (was_there has_other pairs (n, v) has) wrong
  others_fault (both v w has has') =
      both v w (was_there has_other pairs (codes "keys", v) has) (was_there has_other pairs (codes "prefix", w) has')
  others_fault (missing n (k, within, _) none) = absurd (omega (arith, within))

  -- a query has no fault where neither part has one
  pub parts_sound : WantsAlike x wanted needed → bytes_eq (codes "keys") x ≡ false → bytes_eq (codes "prefix") x ≡ false
      → ¬ QueryFault (x ∷ []) needed (named x pairs) → ¬ QueryFault rest [] (others x pairs) → ¬ QueryFault (x ∷ rest) wanted pairs
  parts_sound alike keys prefix sound sound' (unknown n v has strange) =
      let apart = either_false (bytes_eq n x) (is_among rest n) strange in
      sound' (unknown n v (kept has_other pairs (n, v) has (ap not apart.0)) apart.1)
  parts_sound alike keys prefix sound sound' (repeated n v w front middle back at) = by (bytes_eq n x) refl
    where
      by : (b : Bool) → bytes_eq n x ≡ b → ⊥
      by true is = sound (twice_kept has_name pairs (x ∷ []) needed n v w front middle back at is is)
      by false is = sound' (twice_kept has_other pairs rest [] n v w front middle back at (ap not is) (ap not is))
  parts_sound alike keys prefix sound sound' (outside n v has wrong) = by (bytes_eq n x) refl
    where
      by : (b : Bool) → bytes_eq n x ≡ b → ⊥
      by true is = sound (outside n v (kept has_name pairs (n, v) has is) wrong)
      by false is = sound' (outside n v (kept has_other pairs (n, v) has (ap not is)) wrong)
  parts_sound alike keys prefix sound sound' (both v w has has') =
      sound' (both v w (kept has_other pairs (codes "keys", v) has (ap not keys)) (kept has_other pairs (codes "prefix", w) has' (ap not prefix)))
  parts_sound alike keys prefix sound sound' (missing n wants none) =
      sound (missing n (alike n wants).0 (λ v has. none v (was_there has_name pairs (n, v) has)))
