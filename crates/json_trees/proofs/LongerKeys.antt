-- Keys that are longer by a name.
use Rattle.std.proofs.Common.{◌≡◌, ◌<◌, ◌+◌, ℕ, List, [], ◌∷◌, ◌++◌, length, take, drop, Bool}
use Rattle.std.proofs.Common.{true, false, Some, None, get_or, refl, sym, ◌∙◌, ap, arith, append_assoc, length-append}
use Rattle.std.specs.Prelude.{if◌then◌else◌}
use Rattle.std.proofs.lemmas.List.{take-append-drop, take_more}
use Rattle.std.proofs.lemmas.Bool.{both_ways, cond-false, false_from_ne_true}
use Rattle.json_trees.proofs.Segments.{is_key-first}
use Rattle.key_names.specs.Key.{is_key}

-- A key as its segments.
abbrev Path : Type 0
Path = List (List ℕ)

-- A key with one name more, of those that are to come after it.
pub one_more : (key names joined : Path) (i : ℕ) (n d : List ℕ) → i < length names → joined ≡ key ++ take i names → n ≡ get_or names i d
    → joined ++ n ∷ [] ≡ key ++ take (i + 1) names
one_more key names joined i n d low is name =
    ap (λ (l : Path). l ++ n ∷ []) is ∙ append_assoc key (take i names) (n ∷ []) ∙ ap (λ (x : List ℕ). key ++ (take i names ++ x ∷ [])) name
    ∙ ap (λ (l : Path). key ++ l) (sym (take_more names i d low))

-- Where a key with one name more is none, it is none with all names.
pub none_more : (key names longer : Path) (i : ℕ) → 0 < length longer → longer ≡ key ++ take (i + 1) names → is_key longer ≡ false
    → is_key (key ++ names) ≡ false
none_more key names longer i some is no_key =
    false_from_ne_true (is_key (key ++ names)) (λ whole. both_ways (is_key longer) no_key
    (is_key-first longer (drop (i + 1) names) some
    (ap is_key (ap (λ (l : Path). l ++ drop (i + 1) names) is ∙ append_assoc key (take (i + 1) names) (drop (i + 1) names)
    ∙ ap (λ (l : Path). key ++ l) (take-append-drop (i + 1) names)) ∙ whole)))

-- A choice that gives nothing was not taken.
pub none_if : (b : Bool) (j : Path) → None ≡ (if b then Some j else None) → b ≡ false
none_if true j is = absurd (cc is)
none_if false j is = refl

-- A path with one name more has one.
pub push_some : (l : Path) (n : List ℕ) → 0 < length (l ++ n ∷ [])
push_some l n = omega (arith, length-append l (n ∷ []))

-- The loop ends where that is no key.
pub ends : (key names joined : Path) (i : ℕ) (n d : List ℕ) → i < length names → joined ≡ key ++ take i names → n ≡ get_or names i d
    → None ≡ (if is_key (joined ++ n ∷ []) then Some (joined ++ n ∷ []) else None)
    → None ≡ (if is_key (key ++ names) then Some (key ++ names) else None)
ends key names joined i n d low is name made =
    sym (cond-false _ (Some (key ++ names)) None (none_more key names (joined ++ n ∷ []) i (push_some joined n) (one_more key names joined i n d low is name)
    (none_if _ (joined ++ n ∷ []) made)))
