-- Names that are added to a path one by one.
use Rattle.std.proofs.Common.{arith, ◌≡◌, ◌<◌, ◌+◌, ◌-◌, ℕ, zero, suc, List, [], ◌∷◌}
use Rattle.std.proofs.Common.{◌++◌, length, take, slice_index_or, append_assoc, Bool, refl, sym, ap, ◌∙◌, subst}
use Rattle.std.specs.Prelude.{IsTrue}
use Rattle.std.specs.List.{list_all}
use Rattle.std.proofs.lemmas.Bool.{and_parts}
use Rattle.std.proofs.lemmas.List.{take_more, map-append}
use Rattle.outside.specs.Names.{Names}
use Rattle.key_names.specs.Key.{is_key}
use Rattle.key_names.specs.Segment.{file_name, has_short_name}
use Rattle.fs_datastore.specs.Places.{names_of, meta_names}
use Rattle.fs_datastore.proofs.FileNames.{key_segments}

all_at : {X : Type 0} (p : X → Bool) (xs : List X) (i : ℕ) (d : X) → IsTrue (list_all p xs) → i < length xs → IsTrue (p (slice_index_or xs i d))
all_at p [] i d all low = absurd (omega arith)
all_at p (x ∷ xs) zero d all low = (and_parts (p x) (list_all p xs) all).0
all_at p (x ∷ xs) (suc i) d all low = all_at p xs i d (and_parts (p x) (list_all p xs) all).1 (omega arith)

-- a segment of a key has a short name
pub short_at : (key : List (List ℕ)) (i : ℕ) (segment : List ℕ) → IsTrue (is_key key) → i < length key → segment ≡ slice_index_or key i []
    → IsTrue (has_short_name segment)
short_at key i segment valid low is = subst (λ (s : List ℕ). IsTrue (has_short_name s)) (sym is) (all_at has_short_name key i [] (key_segments key valid).1 low)

-- one more name
pub names_more : (start path now : Names) (key : List (List ℕ)) (i : ℕ) (segment : List ℕ) → i < length key → segment ≡ slice_index_or key i []
    → path ≡ start ++ names_of (take i key) → now ≡ path ++ file_name segment ∷ [] → now ≡ start ++ names_of (take (i + 1) key)
names_more start path now key i segment low at so_far is =
    is ∙ ap (λ (p : Names). p ++ file_name segment ∷ []) so_far ∙ append_assoc start (names_of (take i key)) (file_name segment ∷ [])
    ∙ ap (λ (p : Names). start ++ p) (sym (ap names_of (take_more key i [] low) ∙ map-append file_name (take i key) (slice_index_or key i [] ∷ [])
    ∙ ap (λ (s : List ℕ). names_of (take i key) ++ file_name s ∷ []) (sym at)))

-- metadata's names are those of the first segments, and the last with the name
pub meta_last : (key : List (List ℕ)) (name : List ℕ) → 0 < length key → meta_names key name ≡ names_of (take (length key - 1) key) ++
    (file_name (slice_index_or key (length key - 1) []) ++ 46 ∷ name) ∷ []
meta_last [] name some = absurd (omega arith)
meta_last (x ∷ []) name some = refl
meta_last (x ∷ y ∷ key) name some =
    let e : length (x ∷ y ∷ key) - 1 ≡ suc (length (y ∷ key) - 1) = omega arith in
    ap (λ (p : Names). file_name x ∷ p) (meta_last (y ∷ key) name (omega arith))
    ∙ ap (λ (n : ℕ). names_of (take n (x ∷ y ∷ key)) ++ (file_name (slice_index_or (x ∷ y ∷ key) n []) ++ 46 ∷ name) ∷ []) (sym e)

-- all of a key's segments
pub names_all : (start path : Names) (key : List (List ℕ)) (n : ℕ) → n ≡ length key → path ≡ start ++ names_of (take n key) → path ≡ start ++ names_of key
names_all start path key n is so_far = so_far ∙ ap (λ (m : ℕ). start ++ names_of (take m key)) is
    ∙ ap (λ (k : List (List ℕ)). start ++ names_of k) (whole key) where
      whole : (k : List (List ℕ)) → take (length k) k ≡ k
      whole [] = refl
      whole (x ∷ k) = ap (λ (r : List (List ℕ)). x ∷ r) (whole k)
