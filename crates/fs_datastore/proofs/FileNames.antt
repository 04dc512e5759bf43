-- The names of files as names of a path, and what they tell of the segments and names that they are made of.
use Rattle.std.proofs.Common.{arith, ◌≡◌, ◌<◌, ◌≤◌, ◌+◌, ℕ, zero, suc, List, [], ◌∷◌, ◌++◌, length, length-append, append-nil, map}
use Rattle.std.proofs.Common.{Bool, true, false, not, ◌&&◌, ◌==◌, nat_le, nat_lt, if◌then◌else◌, cond, inl, inr, refl, sym, ap, ◌∙◌, subst}
use Rattle.std.specs.Prelude.{IsTrue}
use Rattle.std.specs.List.{list_all, flat_map}
use Rattle.std.proofs.lemmas.Bool.{false≢true, and_parts, leb-true, le-leb, cases_eq}
use Rattle.std.proofs.lemmas.List.Folds.{list_all-append}
use Rattle.percent_encoding.specs.Percent.{percent_encode_byte}
use Rattle.outside.specs.Names.{is_name_byte, is_dots, is_name}
use Rattle.key_names.specs.Segment.{is_bare, is_quotable, is_segment, glyph, file_name, has_short_name, IsFileNameOf}
use Rattle.key_names.specs.Key.{is_key}
use Rattle.key_names.proofs.FileNames.{percent_decode-file_name, length-le-file_name}
use Rattle.key_names.proofs.Segments.{both, bare_all_quotable}
use Rattle.key_names.proofs.KeyLimits.{IsKey-from}
use Rattle.settings_maps.specs.TxName.{is_name as is_bare_name}
use Rattle.commit_journal.specs.Parts.{Lacks}

-- a byte of a file name is one of a path's name, and no dot
abbrev pub is_file_byte : ℕ → Bool
is_file_byte b = is_name_byte b && not (b == 46)

abbrev glyphs_below : ℕ → Bool
glyphs_below zero = true
glyphs_below (suc n) = list_all is_file_byte (glyph n) && glyphs_below n

-- so are the bytes of each glyph
all_glyphs : glyphs_below 256 ≡ true
unfolding percent_encode_byte
all_glyphs = refl

glyph_at : (n : ℕ) → glyphs_below n ≡ true → (b : ℕ) → b < n → list_all is_file_byte (glyph b) ≡ true
glyph_at zero e b h = absurd (omega arith)
glyph_at (suc n) e b h =
    let p = and_parts (list_all is_file_byte (glyph n)) _ e in
    elim (cases_eq b n) [ inl same ↦ rw same p.0 | inr other ↦ glyph_at n p.1 b (omega arith) ]

small : (b : ℕ) → is_quotable b ≡ true → b < 256
small b h = let p = and_parts (nat_le 32 b && nat_le b 126) _ h in let q = and_parts (nat_le 32 b) _ p.0 in omega (arith, leb-true b 126 q.1)

-- each byte of a segment's file name is such
pub file_bytes : (s : List ℕ) → list_all is_quotable s ≡ true → list_all is_file_byte (file_name s) ≡ true
unfolding file_name
file_bytes [] good = refl
file_bytes (b ∷ s) good =
    let p = and_parts (is_quotable b) (list_all is_quotable s) good in
    list_all-append is_file_byte (glyph b) (flat_map glyph s) ∙ both _ _ (glyph_at 256 all_glyphs b (small b p.0)) (file_bytes s p.1)

abbrev bare_below : ℕ → Bool
bare_below zero = true
bare_below (suc n) = (if is_bare n then is_file_byte n else true) && bare_below n

all_bare : bare_below 256 ≡ true
all_bare = refl

bare_at : (n : ℕ) → bare_below n ≡ true → (b : ℕ) → b < n → is_bare b ≡ true → is_file_byte b ≡ true
bare_at zero e b h bare = absurd (omega arith)
bare_at (suc n) e b h bare =
    let p = and_parts (if is_bare n then is_file_byte n else true) _ e in
    elim (cases_eq b n) [ inl same ↦ at same p.0 | inr other ↦ bare_at n p.1 b (omega arith) bare ]
  where
    at : b ≡ n → cond (is_bare n) (is_file_byte n) true ≡ true → is_file_byte b ≡ true
    at same is = ap is_file_byte same ∙ ap (λ (t : Bool). cond t (is_file_byte n) true) (sym (sym (ap is_bare same) ∙ bare)) ∙ is

-- each byte of a bare name is such
pub bare_bytes : (s : List ℕ) → list_all is_bare s ≡ true → list_all is_file_byte s ≡ true
bare_bytes [] good = refl
bare_bytes (b ∷ s) good =
    let p = and_parts (is_bare b) (list_all is_bare s) good in
    let q = and_parts (is_quotable b) true (bare_all_quotable (b ∷ []) (both (is_bare b) true p.0 refl)) in
    both (is_file_byte b) _ (bare_at 256 all_bare b (small b q.0) p.0) (bare_bytes s p.1)

-- names of such bytes have no dot
pub lacks_dot : (s : List ℕ) → list_all is_file_byte s ≡ true → Lacks 46 s
lacks_dot [] good = tt
lacks_dot (b ∷ s) good =
    let p = and_parts (is_file_byte b) (list_all is_file_byte s) good in
    let q = and_parts (is_name_byte b) (not (b == 46)) p.0 in
    ((λ is. let dot : not (46 == 46) ≡ true = subst (λ (n : ℕ). not (n == 46) ≡ true) is q.1 in absurd (false≢true dot)), lacks_dot s p.1)

-- and are bytes of a name
pub name_bytes : (s : List ℕ) → list_all is_file_byte s ≡ true → list_all is_name_byte s ≡ true
name_bytes [] good = refl
name_bytes (b ∷ s) good =
    let p = and_parts (is_file_byte b) (list_all is_file_byte s) good in
    both (is_name_byte b) _ (and_parts (is_name_byte b) (not (b == 46)) p.0).0 (name_bytes s p.1)

-- a first byte that is no dot makes a name neither `.` nor `..`
no_dots : (b : ℕ) (s : List ℕ) → b == 46 ≡ false → is_dots (b ∷ s) ≡ false
no_dots b [] other = other
no_dots b (c ∷ []) other = ap (λ (t : Bool). t && c == 46) other
no_dots b (c ∷ d ∷ s) other = refl

not_is : (b : Bool) → not b ≡ true → b ≡ false
not_is true e = absurd (false≢true e)
not_is false e = refl

-- a name of such bytes, with bytes of a name after it
pub is_name-from : (s t : List ℕ) → list_all is_file_byte s ≡ true → list_all is_name_byte t ≡ true → 0 < length s → length s + length t ≤ 255
    → IsTrue (is_name (s ++ t))
is_name-from [] t good rest some short = absurd (omega arith)
is_name-from (b ∷ s) t good rest some short =
    let p = and_parts (is_file_byte b) (list_all is_file_byte s) good in
    let q = and_parts (is_name_byte b) (not (b == 46)) p.0 in
    let whole : length (b ∷ (s ++ t)) ≡ length (b ∷ s) + length t = length-append (b ∷ s) t in
    both (nat_le 1 (length (b ∷ s ++ t)) && nat_le (length (b ∷ s ++ t)) 255 && list_all is_name_byte (b ∷ s ++ t)) (not (is_dots (b ∷ s ++ t)))
    (both (nat_le 1 (length (b ∷ s ++ t)) && nat_le (length (b ∷ s ++ t)) 255) (list_all is_name_byte (b ∷ s ++ t))
    (both (nat_le 1 (length (b ∷ s ++ t))) (nat_le (length (b ∷ s ++ t)) 255) (le-leb 1 (length (b ∷ s ++ t)) (omega arith))
    (le-leb (length (b ∷ s ++ t)) 255 (omega (arith, whole))))
    (list_all-append is_name_byte (b ∷ s) t ∙ both (list_all is_name_byte (b ∷ s)) (list_all is_name_byte t) (name_bytes (b ∷ s) good) rest))
    (ap not (no_dots b (s ++ t) (not_is (b == 46) q.1)))

-- ---- segments

-- a segment with a short file name has it
pub file_named : (s : List ℕ) → IsTrue (is_segment s) → IsTrue (has_short_name s) → IsFileNameOf (file_name s) s
file_named s valid short = record {
  valid = valid;
  spelled = refl;
  some = omega (arith, length-le-file_name s, leb-true 1 (length s) (and_parts (nat_lt 0 (length s)) _ valid).0);
  short = leb-true (length (file_name s)) 127 short;
}

-- a file name is that of one segment
pub segment_one : (name s t : List ℕ) → IsFileNameOf name s → IsFileNameOf name t → s ≡ t
segment_one name s t one other = sym (percent_decode-file_name name s one) ∙ percent_decode-file_name name t other

-- its bytes
pub segment_bytes : (s : List ℕ) → IsTrue (is_segment s) → list_all is_file_byte (file_name s) ≡ true
segment_bytes s valid = file_bytes s (and_parts (nat_lt 0 (length s)) (list_all is_quotable s) valid).1

-- it is a name of a path
pub file_name-is_name : (s : List ℕ) → IsTrue (is_segment s) → IsTrue (has_short_name s) → IsTrue (is_name (file_name s))
file_name-is_name s valid short =
    let named = file_named s valid short in
    subst (λ (l : List ℕ). IsTrue (is_name l)) (append-nil (file_name s))
    (is_name-from (file_name s) [] (segment_bytes s valid) refl named.some (omega (arith, named.short)))

-- ---- bare names

pub record IsBare (most : ℕ) (name : List ℕ) : Type 0 where
  pub some : 0 < length name
  pub short : length name ≤ most
  pub bare : list_all is_bare name ≡ true

pub IsBare-from : (most : ℕ) (name : List ℕ) → IsTrue (is_bare_name most name) → IsBare most name
IsBare-from most name is =
    let p = and_parts (nat_lt 0 (length name) && nat_le (length name) most) (list_all is_bare name) is in
    let q = and_parts (nat_lt 0 (length name)) (nat_le (length name) most) p.0 in
    record { some = leb-true 1 (length name) q.0; short = leb-true (length name) most q.1; bare = p.1 }

-- a bare name is a name of a path
pub bare-is_name : (most : ℕ) (name : List ℕ) → IsTrue (is_bare_name most name) → most ≤ 255 → IsTrue (is_name name)
bare-is_name most name is bound =
    let b = IsBare-from most name is in
    subst (λ (l : List ℕ). IsTrue (is_name l)) (append-nil name) (is_name-from name [] (bare_bytes name b.bare) refl b.some (omega (arith, b.short)))

-- so is a file name with a dot and a bare name after it
pub dotted-is_name : (s name : List ℕ) → IsTrue (is_segment s) → IsTrue (has_short_name s) → IsTrue (is_bare_name 127 name)
    → IsTrue (is_name (file_name s ++ 46 ∷ name))
dotted-is_name s name valid short is =
    let named = file_named s valid short in
    let b = IsBare-from 127 name is in
    is_name-from (file_name s) (46 ∷ name) (segment_bytes s valid) (name_bytes name (bare_bytes name b.bare)) named.some (omega (arith, named.short, b.short))

-- ---- keys

-- what holds of each segment of a key
pub key_segments : (key : List (List ℕ)) → IsTrue (is_key key) → IsTrue (list_all is_segment key) × IsTrue (list_all has_short_name key)
key_segments key valid = let k = IsKey-from key valid in (k.valid, k.fits.short)

-- a key has a segment, and few
pub key_length : (key : List (List ℕ)) → IsTrue (is_key key) → (0 < length key) × (length key ≤ 32)
key_length key valid = let k = IsKey-from key valid in (k.some, k.fits.few)

-- names are the file names of one list of segments
pub names_one : (key other : List (List ℕ)) → IsTrue (list_all is_segment key) → IsTrue (list_all has_short_name key) → IsTrue (list_all is_segment other)
    → IsTrue (list_all has_short_name other) → map file_name key ≡ map file_name other → key ≡ other
names_one [] [] v s w t is = refl
names_one [] (y ∷ ys) v s w t is = absurd (cc is)
names_one (x ∷ xs) [] v s w t is = absurd (cc is)
names_one (x ∷ xs) (y ∷ ys) v s w t is =
    let vs = and_parts (is_segment x) (list_all is_segment xs) v in
    let ss = and_parts (has_short_name x) (list_all has_short_name xs) s in
    let ws = and_parts (is_segment y) (list_all is_segment ys) w in
    let ts = and_parts (has_short_name y) (list_all has_short_name ys) t in
    let head : file_name x ≡ file_name y = cc is in
    let tail : map file_name xs ≡ map file_name ys = cc is in
    let first : x ≡ y = segment_one (file_name x) x y (file_named x vs.0 ss.0) (subst (λ (l : List ℕ). IsFileNameOf l y) (sym head) (file_named y ws.0 ts.0)) in
    let rest : xs ≡ ys = names_one xs ys vs.1 ss.1 ws.1 ts.1 tail in
    λ i. first i ∷ rest i
