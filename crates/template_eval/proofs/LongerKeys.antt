-- Keys that are made of others.
use Rattle.std.proofs.Common.{◌≡◌, ◌<◌, ◌+◌, ℕ, List, [], ◌∷◌, ◌++◌, length, take, Bool, true}
use Rattle.std.proofs.Common.{false, Some, None, IsTrue, refl, sym, ◌∙◌, ap, arith, append_assoc, append-nil, length-append}
use Rattle.std.specs.Prelude.{slice_index_or, if◌then◌else◌}
use Rattle.json_trees.proofs.Segments.{is_key-first}
use Rattle.key_names.specs.Key.{is_key, is_prefix}
use Rattle.template_eval.specs.Place.{Path}
use Rattle.template_eval.specs.Node.{os_path}
use Rattle.template_eval.specs.Steps.{name_at}
use Rattle.template_eval.proofs.NameOrder.{index-behind}
use Rattle.key_names.proofs.Prefixes.{behind}
use Rattle.json_trees.proofs.LongerKeys.{one_more, push_some}

some_if : (b : Bool) (k : Path) (j : Path) → Some k ≡ (if b then Some j else None) → (b ≡ true) × (k ≡ j)
some_if true k j is = (refl, cc is)
some_if false k j is = absurd (cc is)

-- The loop goes on with a key that is longer by a name.
pub goes_on : (key names joined k : Path) (i : ℕ) (n : List ℕ) → i < length names → joined ≡ key ++ take i names → n ≡ slice_index_or names i []
    → Some k ≡ (if is_key (joined ++ n ∷ []) then Some (joined ++ n ∷ []) else None)
    → (k ≡ key ++ take (i + 1) names) × (0 < i + 1 → IsTrue (is_key k))
goes_on key names joined k i n low is name made =
    let found = some_if (is_key (joined ++ n ∷ [])) k (joined ++ n ∷ []) made in
    (found.1 ∙ one_more key names joined i n [] low is name, λ _. ap is_key found.1 ∙ found.0)

-- A key that goes on beyond a path has a name there, and maybe more.
pub parted : (p k : Path) → is_prefix p k ≡ true → length p < length k → (rest : Path) × (k ≡ (p ++ name_at p k ∷ []) ++ rest)
parted p k begins longer = by (behind p k begins).0 (behind p k begins).1 where
  by : (rest : Path) → k ≡ p ++ rest → (more : Path) × (k ≡ (p ++ name_at p k ∷ []) ++ more)
  by [] is = absurd (omega (arith, ap length is, length-append p []))
  by (n ∷ rest) is =
      let name : name_at p k ≡ n = ap (name_at p) is ∙ index-behind p (n ∷ rest) in
      (rest, is ∙ sym (append_assoc p (n ∷ []) rest) ∙ ap (λ (x : List ℕ). (p ++ x ∷ []) ++ rest) (sym name))

-- The child of a path that a key is, or is below, is a key.
pub child_is_key : (p k : Path) → is_prefix p k ≡ true → length p < length k → is_key k ≡ true → is_key (p ++ name_at p k ∷ []) ≡ true
child_is_key p k begins longer key =
    let parts = parted p k begins longer in
    is_key-first (p ++ name_at p k ∷ []) parts.0 (push_some p (name_at p k)) (ap is_key (sym parts.1) ∙ key)

-- A key that begins with another one begins with `os` just where that does.
pub of_os : (p k : Path) → is_prefix p k ≡ true → is_key p ≡ true → is_prefix os_path k ≡ is_prefix os_path p
of_os [] k begins key = absurd (cc key)
of_os (n ∷ p) k begins key = ap (is_prefix os_path) (behind (n ∷ p) k begins).1

no_rest : (rest : Path) → length rest ≡ 0 → rest ≡ []
no_rest [] e = refl
no_rest (n ∷ rest) e = absurd (omega arith)

-- A key that goes on beyond a path by one name is its child.
pub is_child : (p k : Path) → is_prefix p k ≡ true → length k ≡ length p + 1 → k ≡ p ++ name_at p k ∷ []
is_child p k begins one =
    let parts = parted p k begins (omega arith) in
    parts.1 ∙ ap (λ (l : Path). (p ++ name_at p k ∷ []) ++ l) (no_rest parts.0
    (omega (arith, ap length parts.1, length-append (p ++ name_at p k ∷ []) parts.0, length-append p (name_at p k ∷ []))))
    ∙ append-nil (p ++ name_at p k ∷ [])
