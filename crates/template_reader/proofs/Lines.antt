-- The spaces and tabs before a tag, looked for from the tag back.
use Rattle.std.proofs.Common.{◌≡◌, ℕ, ◌+◌, ◌-◌, ◌<◌, ◌≤◌, Bool, true, false, not, List, [], ◌∷◌}
use Rattle.std.proofs.Common.{length, take, drop, get_or, Some, None, refl, sym, ap, ◌∙◌, arith, ◌⊎◌, inl, inr}
use Rattle.std.specs.Prelude.{◌||◌, ◌==◌, reverse, nat_eq}
use Rattle.std.specs.List.{list_all, suffix_len}
use Rattle.std.specs.Cmp.Lexicographic.{pointwise}
use Rattle.std.proofs.Math.Bool.{and-true}
use Rattle.std.proofs.lemmas.Bool.{or_cases, or_parts, cases_lt, eqb-true, eqb-false, eq-eqb, not_from_true}
use Rattle.std.proofs.lemmas.Bool.Decides.{nat_tests}
use Rattle.std.proofs.lemmas.List.{get_or-reverse, get_or_default, get_or-take, get_or-drop, drop_more, drop_all, length-take-le, length-drop, length-reverse}
use Rattle.std.proofs.lemmas.List.Sums.{prefix_len_passes, prefix_len_stops, suffix_len-le-length, suffix_len_is, list_all-from_AllPass}
use Rattle.std.proofs.lemmas.List.Folds.{list_all_at}
use Rattle.template_reader.specs.Bytes.{is_blank, ends}
use Rattle.template_reader.specs.Taken.{line_start, line_front}

-- The byte ends no line.
abbrev no_end : ℕ → Bool
no_end b = not (b == 10)

-- The bytes of a suffix pass, and the one before it does not.
passes : (p : ℕ → Bool) (xs : List ℕ) (j : ℕ) → j < length xs → length xs - suffix_len p xs ≤ j → p (get_or xs j 0) ≡ true
passes p xs j h k =
    let back : length xs - 1 - (length xs - 1 - j) ≡ j = omega arith in
    let e = get_or-reverse xs (length xs - 1 - j) 0 (omega arith) in
    let f = prefix_len_passes p (reverse xs) (length xs - 1 - j) 0 (omega (arith, suffix_len-le-length p xs)) in
    ap (λ i. p (get_or xs i 0)) (sym back) ∙ ap p (sym e) ∙ f

-- The byte before a suffix does not pass.
stops : (p : ℕ → Bool) (xs : List ℕ) → suffix_len p xs < length xs → p (get_or xs (length xs - 1 - suffix_len p xs) 0) ≡ false
stops p xs h = ap p (sym (get_or-reverse xs (suffix_len p xs) 0 h)) ∙ prefix_len_stops p (reverse xs) 0 (omega (arith, h, length-reverse xs))

-- A blank ends no line.
blank-no_end : (b : ℕ) → is_blank b ≡ true → no_end b ≡ true
blank-no_end b e = grind (arith, nat_tests)

-- LF ends one.
end-no_end : (b : ℕ) → b ≡ 10 → no_end b ≡ false
end-no_end b e = not_from_true (b == 10) (eq-eqb b 10 e)

-- What ends a line is LF.
no_end-end : (b : ℕ) → no_end b ≡ false → b ≡ 10
no_end-end b e = grind (arith, nat_tests)

-- No blank is LF.
blank-end : (b : ℕ) → is_blank b ≡ true → b ≡ 10 → ⊥
blank-end b e f = grind (arith, nat_tests)

-- What the last byte is.
ends-last : (xs : List ℕ) → 0 < length xs → ends xs (10 ∷ []) ≡ (10 == get_or xs (length xs - 1) 0)
ends-last xs h =
    let n : length xs - 1 + 1 ≡ length xs = omega arith in
    let one : drop (length xs - 1) xs ≡ get_or xs (length xs - 1) 0 ∷ [] =
    drop_more xs (length xs - 1) 0 (omega arith) ∙ ap (λ (l : List ℕ). get_or xs (length xs - 1) 0 ∷ l) (drop_all (length xs - 1 + 1) xs (omega arith)) in
    ap (λ l. pointwise nat_eq (10 ∷ []) l) one ∙ and-true (10 == get_or xs (length xs - 1) 0)

-- Where the bytes from N on are all the blanks, and an LF is before them if anything is.
module _ (before : List ℕ) (N : ℕ) (h : N ≤ length before) (blank : (k : ℕ) → N ≤ k → k < length before → is_blank (get_or before k 0) ≡ true) where
  from_start : (0 < N → get_or before (N - 1) 0 ≡ 10) → line_front before ≡ Some (length before - N)
  unfolding line_front
  from_start ended =
      let k : suffix_len no_end before ≡ length before - N = suffix_len_is no_end before N 0 h (λ k l m. blank-no_end (get_or before k 0) (blank k l m))
      (λ some. end-no_end (get_or before (N - 1) 0) (ended some)) in
      let same : line_start before ≡ drop N before = ap (λ i. drop (length before - i) before) k ∙ ap (λ i. drop i before) (omega arith) in
      let all : list_all is_blank (drop N before) ≡ true = list_all-from_AllPass is_blank (drop N before) (λ k d l. passed k d l) in
      rw (same, all) (ap (λ (n : ℕ). Some n) (length-drop N before))
    where
      passed : (k d : ℕ) → k < length (drop N before) → is_blank (get_or (drop N before) k d) ≡ true
      passed k d l = ap is_blank (get_or-drop N before k d ∙ get_or_default before (N + k) d 0 (omega (arith, length-drop N before)))
          ∙ blank (N + k) (omega arith) (omega (arith, length-drop N before))

  not_from_start : 0 < N → is_blank (get_or before (N - 1) 0) ≡ false → (get_or before (N - 1) 0 ≡ 10 → ⊥) → line_front before ≡ None
  unfolding line_front
  not_from_start some other differs =
      let K = length before - suffix_len no_end before in
      let low : K ≤ N - 1 = farther (cases_lt (N - 1) K) in
      let inside : N - 1 - K < length (drop K before) = omega (arith, length-drop K before) in
      let back : K + (N - 1 - K) ≡ N - 1 = omega arith in
      let fails : list_all is_blank (line_start before) ≡ false =
      list_all_at is_blank (drop K before) (N - 1 - K) 0 inside (ap is_blank (get_or-drop K before (N - 1 - K) 0 ∙ ap (λ i. get_or before i 0) back) ∙ other) in
      rw fails refl
    where
      stopped : N - 1 < length before - suffix_len no_end before → get_or before (length before - 1 - suffix_len no_end before) 0 ≡ 10
      stopped l = no_end-end (get_or before (length before - 1 - suffix_len no_end before) 0) (stops no_end before (omega arith))

      farther : (N - 1 < length before - suffix_len no_end before) ⊎ (length before - suffix_len no_end before ≤ N - 1)
          → length before - suffix_len no_end before ≤ N - 1
      farther (inr l) = l
      farther (inl l) = absurd (here (cases_lt (length before - 1 - suffix_len no_end before) N))
        where
          here : (length before - 1 - suffix_len no_end before < N) ⊎ (N ≤ length before - 1 - suffix_len no_end before) → ⊥
          here (inl m) = differs (ap (λ i. get_or before i 0) (omega arith) ∙ stopped l)
          here (inr m) = blank-end (get_or before (length before - 1 - suffix_len no_end before) 0)
              (blank (length before - 1 - suffix_len no_end before) m (omega arith)) (stopped l)

-- The answer where the blanks before the tag go back to the start of a line, and where not.
pub front_found : (before front : List ℕ) (n : ℕ) (b : Bool) → n ≡ suffix_len is_blank before → front ≡ take (length before - n) before
    → b ≡ (length front == 0 || ends front (10 ∷ [])) → b ≡ true → Some n ≡ line_front before
front_found before front n b n_is front_is b_is stands =
    let fits = suffix_len-le-length is_blank before in
    let N = length before - n in
    let size : length front ≡ N = ap length front_is ∙ length-take-le N before (omega arith) in
    let blank : (k : ℕ) → N ≤ k → k < length before → is_blank (get_or before k 0) ≡ true = λ k l m. passes is_blank before k m (omega arith) in
    let ended : 0 < N → get_or before (N - 1) 0 ≡ 10 = λ some. at_end (or_cases (length front == 0) (ends front (10 ∷ [])) (sym b_is ∙ stands)) some size in
    let back : length before - N ≡ n = omega arith in
    ap (λ (k : ℕ). Some k) (sym back) ∙ sym (from_start before N (omega arith) blank ended)
  where
    at_end : ((length front == 0) ≡ true) ⊎ (ends front (10 ∷ []) ≡ true) → 0 < length before - n → length front ≡ length before - n
        → get_or before (length before - n - 1) 0 ≡ 10
    at_end (inl e) some size = absurd (let z = eqb-true (length front) 0 e in omega arith)
    at_end (inr e) some size =
        let last : 10 ≡ get_or front (length front - 1) 0 = eqb-true 10 (get_or front (length front - 1) 0) (sym (ends-last front (omega arith)) ∙ e) in
        sym (last ∙ ap (λ (l : List ℕ). get_or l (length front - 1) 0) front_is ∙ get_or-take (length before - n) before (length front - 1) 0 (omega arith)
        ∙ ap (λ i. get_or before (i - 1) 0) size)

-- Where the byte before the blanks is no LF, the tag has no front of blanks alone.
pub front_missing : (before front : List ℕ) (n : ℕ) (b : Bool) → n ≡ suffix_len is_blank before → front ≡ take (length before - n) before
    → b ≡ (length front == 0 || ends front (10 ∷ [])) → b ≡ false → None ≡ line_front before
front_missing before front n b n_is front_is b_is lacks =
    let fits = suffix_len-le-length is_blank before in
    let N = length before - n in
    let size : length front ≡ N = ap length front_is ∙ length-take-le N before (omega arith) in
    let blank : (k : ℕ) → N ≤ k → k < length before → is_blank (get_or before k 0) ≡ true = λ k l m. passes is_blank before k m (omega arith) in
    let parts = or_parts (length front == 0) (ends front (10 ∷ [])) (sym b_is ∙ lacks) in
    let some : 0 < N = not_empty (cases_lt 0 N) parts.0 size in
    let other : is_blank (get_or before (N - 1) 0) ≡ false = ap (λ i. is_blank (get_or before i 0)) (omega (arith, n_is))
    ∙ stops is_blank before (omega (arith, n_is)) in
    let last : get_or front (length front - 1) 0 ≡ get_or before (N - 1) 0 =
    ap (λ (l : List ℕ). get_or l (length front - 1) 0) front_is ∙ get_or-take N before (length front - 1) 0 (omega arith)
    ∙ ap (λ i. get_or before (i - 1) 0) size in
    let differs : get_or before (N - 1) 0 ≡ 10 → ⊥ = λ e. eqb-false 10 (get_or front (length front - 1) 0) (sym (ends-last front (omega arith)) ∙ parts.1)
    (sym (last ∙ e)) in
    sym (not_from_start before N (omega arith) blank some other differs)
  where
    not_empty : (0 < length before - n) ⊎ (length before - n ≤ 0) → (length front == 0) ≡ false → length front ≡ length before - n → 0 < length before - n
    not_empty (inl h) e size = h
    not_empty (inr h) e size = absurd (eqb-false (length front) 0 e (omega arith))
