-- Printed paths, read in one way.
use Rattle.std.proofs.Common.{◌≡◌, ◌≢◌, ◌⊎◌, inl, inr, Bool, true, false, ◌&&◌, cond, ◌==◌, nat_le, nat_lt, ℕ, ◌+◌}
use Rattle.std.proofs.Common.{◌≤◌, List, [], ◌∷◌, ◌++◌, length, length-append, append_assoc, Result, Ok, Err, refl, sym, ◌∙◌, ap, arith}
use Rattle.std.specs.Prelude.{All}
use Rattle.std.proofs.lemmas.Bool.{false≢true, and_parts, and_from, not-true}
use Rattle.std.proofs.lemmas.Bool.Decides.{nat_tests}
use Rattle.std.proofs.lemmas.List.{append-nil}
use Rattle.std.proofs.lemmas.List.Elements.{All-nil, All-cons}
use Rattle.std.proofs.lemmas.List.Folds.{list_all-append}
use Rattle.std.proofs.lemmas.List.Splits.{slice_split_none, slice_split_at}
use Rattle.std.proofs.lemmas.Slice.Eq.{bytes_eq-Decides}
use Rattle.std.specs.List.{list_all, slice_split}
use Rattle.std.specs.Str.{bytes_eq}
use Rattle.outside.specs.Names.{Names, is_name_byte, is_name, are_names}
use Rattle.outside.specs.PathText.{behind_slashes, joined, without_slash, parts_in, added, and_then, with_parts, path_of}
use Rattle.outside.specs.declared.path_error.PathError.{PathError}
use Rattle.outside.specs.declared.path_error.PathError.TheVariants.{BadName, TooDeep}
use Rattle.commit_journal.specs.Entries.{has_first_name, is_entry_path}
use Rattle.commit_journal.specs.Parts.{Lacks, IsPathText}
use Rattle.commit_journal.proofs.Cutting.{Lacks-append}

-- ---- bytes that no path has

-- a byte that no name has is in no list of bytes of names
lacks_byte : (c : ℕ) → is_name_byte c ≡ false → (xs : List ℕ) → list_all is_name_byte xs ≡ true → Lacks c xs
lacks_byte c other [] all = tt
lacks_byte c other (x ∷ xs) all =
    let parts = and_parts (is_name_byte x) (list_all is_name_byte xs) all in
    (λ here. false≢true (sym other ∙ ap is_name_byte (sym here) ∙ parts.0), lacks_byte c other xs parts.1)

-- the bytes of a name are those of names
name_bytes : (name : List ℕ) → is_name name ≡ true → list_all is_name_byte name ≡ true
name_bytes name valid = (and_parts _ _ (and_parts _ _ valid).0).1

-- nor is it after the slashes
behind_lacks : (c : ℕ) → is_name_byte c ≡ false → 47 ≢ c → (names : Names) → are_names names ≡ true → Lacks c (behind_slashes names)
behind_lacks c other slash [] valid = tt
behind_lacks c other slash (name ∷ names) valid =
    let parts = and_parts (is_name name) (are_names names) valid in
    (slash, Lacks-append c name (behind_slashes names) (lacks_byte c other name (name_bytes name parts.0)) (behind_lacks c other slash names parts.1))

-- a byte that no name has, and that is no slash, is in no printed path
pub path_lacks : (c : ℕ) → is_name_byte c ≡ false → 47 ≢ c → (path : Names) → are_names path ≡ true → Lacks c (joined path)
path_lacks c other slash [] valid = tt
path_lacks c other slash (name ∷ names) valid =
    let parts = and_parts (is_name name) (are_names names) valid in
    Lacks-append c name (behind_slashes names) (lacks_byte c other name (name_bytes name parts.0)) (behind_lacks c other slash names parts.1)

-- ---- a printed path is read as itself

-- the byte is a slash
abbrev is_slash : ℕ → Bool
is_slash c = c == 47

-- a byte of a name is no slash
not_slash : (b : ℕ) → is_name_byte b ≡ true → is_slash b ≡ false
not_slash b valid = not-true (is_slash b) (and_parts _ _ valid).1

-- nor is any
no_slash : (name : List ℕ) → list_all is_name_byte name ≡ true → All (λ x. is_slash x ≡ false) name
no_slash [] all = All-nil (λ x. is_slash x ≡ false)
no_slash (x ∷ xs) all =
    let parts = and_parts (is_name_byte x) (list_all is_name_byte xs) all in
    All-cons (λ x. is_slash x ≡ false) x xs (not_slash x parts.0) (no_slash xs parts.1)

-- the parts between the slashes are the names
parts_joined : (name : List ℕ) (names : Names) → are_names (name ∷ names) ≡ true → slice_split is_slash (joined (name ∷ names)) ≡ name ∷ names
parts_joined name [] valid =
    ap (λ (l : List ℕ). slice_split is_slash l) (append-nil name) ∙ slice_split_none is_slash name
    (no_slash name (name_bytes name (and_parts (is_name name) true valid).0))
parts_joined name (following ∷ names) valid =
    let parts = and_parts (is_name name) (are_names (following ∷ names)) valid in
    slice_split_at is_slash name 47 (joined (following ∷ names)) (no_slash name (name_bytes name parts.0)) refl
    ∙ ap (λ (l : Names). name ∷ l) (parts_joined following names parts.1)

-- a name is added where there is room
added_name : (path : Names) (name : List ℕ) → is_name name ≡ true → nat_lt (length path) 40 ≡ true → added path name ≡ Ok (path ++ name ∷ [])
added_name path name valid room =
    ap (λ b. cond b (cond (nat_lt (length path) 40) (Ok (path ++ name ∷ [])) (Err TooDeep)) (Err BadName)) valid
    ∙ ap (λ b. cond b (Ok (path ++ name ∷ [])) (Err TooDeep)) room

-- so are all names
with_names : (path names : Names) → are_names names ≡ true → length path + length names ≤ 40 → with_parts path names ≡ Ok (path ++ names)
with_names path [] valid room = ap (λ (p : Names). Ok p) (sym (append-nil path))
with_names path (name ∷ names) valid room =
    let parts = and_parts (is_name name) (are_names names) valid in
    let one = length-append path (name ∷ []) in
    ap (λ r. and_then r (λ longer. with_parts longer names)) (added_name path name parts.0 (grind (arith, nat_tests)))
    ∙ with_names (path ++ name ∷ []) names parts.1 (omega (arith, one))
    ∙ ap (λ (p : Names). Ok p) (append_assoc path (name ∷ []) names)

-- a slash before the path would be skipped, but there is none
pub path_of-joined : (path : Names) → path ≢ [] → are_names path ≡ true → length path ≤ 40 → path_of (joined path) ≡ Ok path
path_of-joined [] some valid room = absurd (some refl)
path_of-joined ([] ∷ names) some valid room = absurd (false≢true (and_parts (is_name []) (are_names names) valid).0)
path_of-joined ((b ∷ bs) ∷ names) some valid room =
    let text = bs ++ behind_slashes names in
    let bytes = name_bytes (b ∷ bs) (and_parts (is_name (b ∷ bs)) (are_names names) valid).0 in
    let first = not_slash b (and_parts (is_name_byte b) (list_all is_name_byte bs) bytes).0 in
    ap (λ t. with_parts [] (parts_in (cond t text (b ∷ text)))) first
    ∙ ap (λ (parts : Names). with_parts [] parts) (parts_joined (b ∷ bs) names valid)
    ∙ with_names [] ((b ∷ bs) ∷ names) valid (omega (arith, room))

-- ---- what is read has names

-- a test passes or fails
bool_cases : (b : Bool) → (b ≡ true) ⊎ (b ≡ false)
bool_cases true = inl refl
bool_cases false = inr refl

-- a path with a name more has names
names_more : (path : Names) (name : List ℕ) → are_names path ≡ true → is_name name ≡ true → are_names (path ++ name ∷ []) ≡ true
names_more path name named here = list_all-append is_name path (name ∷ []) ∙ and_from (are_names path) (is_name name && true) named
    (and_from (is_name name) true here refl)

-- two paths that are answered are one
ok_same : (p q : Names) → Path (Result Names PathError) (Ok p) (Ok q) → p ≡ q
ok_same p q e = cc

-- a refusal is no answer
no_ok : (e : PathError) (p : Names) → Path (Result Names PathError) (Err e) (Ok p) → ⊥
no_ok e p same = cc

-- a name that is added is one
added_named : (path longer : Names) (name : List ℕ) → added path name ≡ Ok longer → (is_name name ≡ true) × (longer ≡ path ++ name ∷ [])
added_named path longer name is = go (bool_cases (is_name name)) (bool_cases (nat_lt (length path) 40))
  where
    go : (is_name name ≡ true) ⊎ (is_name name ≡ false) → (nat_lt (length path) 40 ≡ true) ⊎ (nat_lt (length path) 40 ≡ false)
        → (is_name name ≡ true) × (longer ≡ path ++ name ∷ [])
    go (inr other) any = absurd (no_ok BadName longer (sym (ap (λ b. cond b (cond (nat_lt (length path) 40) (Ok (path ++ name ∷ [])) (Err TooDeep))
        (Err BadName)) other) ∙ is))
    go (inl here) (inr full) = absurd (no_ok TooDeep longer (sym (ap (λ b. cond b (cond (nat_lt (length path) 40) (Ok (path ++ name ∷ [])) (Err TooDeep))
        (Err BadName)) here ∙ ap (λ b. cond b (Ok (path ++ name ∷ [])) (Err TooDeep)) full) ∙ is))
    go (inl here) (inl room) = (here, ok_same longer (path ++ name ∷ []) (sym is ∙ added_name path name here room))

-- what is made of parts has names
parts_named : (path names found : Names) → with_parts path names ≡ Ok found → are_names path ≡ true → are_names found ≡ true
parts_named path [] found is named = ap are_names (ok_same found path (sym is)) ∙ named
parts_named path (name ∷ names) found is named = go (added path name) refl is (λ longer more valid. parts_named longer names found more valid)
  where
    go : (r : Result Names PathError) → added path name ≡ r → and_then r (λ longer. with_parts longer names) ≡ Ok found
        → ((longer : Names) → with_parts longer names ≡ Ok found → are_names longer ≡ true → are_names found ≡ true) → are_names found ≡ true
    go (Err e) made refused later = absurd (no_ok e found refused)
    go (Ok longer) made more later = let one = added_named path longer name made in later longer more (ap are_names one.1 ∙ names_more path name named one.0)

-- ---- the path of an entry

-- the path of an entry has names, at least one and at most 38
pub entry_names : (path : Names) → is_entry_path path ≡ true → (path ≢ []) × (are_names path ≡ true) × (length path ≤ 38)
entry_names [] valid = absurd (false≢true valid)
entry_names (name ∷ names) valid =
    let parts = and_parts _ _ (and_parts (has_first_name (name ∷ names)) _ valid).1 in
    (λ e. cc, parts.0, grind (arith, nat_tests, parts))

-- its text is read as the path
spelled : (path : Names) (text : List ℕ) → IsPathText path text → path_of text ≡ Ok path
spelled path text is =
    let parts = entry_names path is.valid in
    ap path_of is.text_is ∙ path_of-joined path parts.0 parts.1 (omega (arith, parts.2))

-- a text is that of one path
pub one_path : (p q : Names) → is_entry_path p ≡ true → is_entry_path q ≡ true → joined p ≡ joined q → p ≡ q
one_path p q vp vq same = ok_same p q (sym (spelled p (joined p) (record { valid = vp; text_is = refl }))
    ∙ spelled q (joined p) (record { valid = vq; text_is = same }))

-- a text that spells no path
pub path_none : (text : List ℕ) → ((path : Names) → path_of text ≢ Ok path) → (path : Names) → IsPathText path text → ⊥
path_none text none path is = none path (spelled path text is)

-- a path that no entry has
pub path_refused : (text : List ℕ) (found : Names) → path_of text ≡ Ok found → (has_first_name found && nat_le (length found) 38) ≡ false → (path : Names)
    → IsPathText path text → ⊥
path_refused text found read other path is =
    let e : found ≡ path = ok_same found path (sym read ∙ spelled path text is) in
    let parts = and_parts (has_first_name path) (are_names path && nat_le (length path) 38) is.valid in
    false≢true (sym other ∙ ap (λ (p : Names). has_first_name p && nat_le (length p) 38) e
    ∙ and_from (has_first_name path) (nat_le (length path) 38) parts.0 (and_parts (are_names path) (nat_le (length path) 38) parts.1).1)

-- a path that is spelled in another way
pub path_other : (text printed : List ℕ) (found : Names) → path_of text ≡ Ok found → printed ≡ joined found → bytes_eq printed text ≡ false → (path : Names)
    → IsPathText path text → ⊥
path_other text printed found read is_printed other path is =
    let e : found ≡ path = ok_same found path (sym read ∙ spelled path text is) in
    false≢true (sym other ∙ (bytes_eq-Decides printed text).1 (is_printed ∙ ap joined e ∙ sym is.text_is))

-- a path that is read
pub path_made : (text printed : List ℕ) (found : Names) → path_of text ≡ Ok found → printed ≡ joined found
    → (has_first_name found && nat_le (length found) 38) ≡ true → bytes_eq printed text ≡ true → IsPathText found text
path_made text printed found read is_printed fits same =
    let parts = and_parts (has_first_name found) (nat_le (length found) 38) fits in
    record {
      valid = and_from (has_first_name found) _ parts.0 (and_from (are_names found) (nat_le (length found) 38)
          (parts_named [] (parts_in (without_slash text)) found read refl) parts.1);
      text_is = sym ((bytes_eq-Decides printed text).0 same) ∙ is_printed;
    }

pub ruleset paths = (path_none, path_refused, path_other, path_made)
