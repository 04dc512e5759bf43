-- Keys that are read from the names of their files.
use Rattle.std.proofs.Common.{arith, ◌≡◌, ◌<◌, ◌+◌, ℕ, zero, suc, List, [], ◌∷◌, ◌++◌, length, take, get_or, append_assoc}
use Rattle.std.proofs.Common.{append-nil, Option, Some, None, Result, Ok, Err, Bool, true, false, inl, refl, sym, ap, ◌∙◌, subst}
use Rattle.std.specs.Prelude.{IsTrue}
use Rattle.std.specs.List.{list_all, flat_map}
use Rattle.std.proofs.lemmas.Bool.{false≢true, and_parts}
use Rattle.std.proofs.lemmas.List.{take_more}
use Rattle.outside.specs.Names.{Names}
use Rattle.key_names.specs.Joined.{Joins}
use Rattle.key_names.specs.Segment.{quoted, file_name, is_segment, has_short_name, IsFileNameOf}
use Rattle.key_names.specs.Spelling.{IsSpelling, Spells, SpellsKey}
use Rattle.key_names.proofs.OneParting.{one_joined}
use Rattle.key_names.proofs.OneReading.{one_segment}
use Rattle.key_names.proofs.KeyLimits.{IsKey-from, fits-from}
use Rattle.fs_datastore.specs.Places.{names_of}
use Rattle.fs_datastore.specs.FoundFiles.{AreFileNames, Quotes, QuotesOne, IsKeyOf}
use Rattle.fs_datastore.specs.Texts.{Finds}
use Rattle.fs_datastore.proofs.FileNames.{segment_one, file_named, key_segments}
use Rattle.key_names.proofs.SpelledKeys.{spelled_key}

-- ---- texts of segments in quotes

abbrev behind : List (List ℕ) → List ℕ
behind segments = flat_map (λ s. quoted s ++ 46 ∷ []) segments

in_quotes : (x : List ℕ) → IsTrue (is_segment x) → IsSpelling (quoted x) x
in_quotes x valid = record { valid = valid; form = inl refl }

cut_first : (s : List ℕ) (rest q : List ℕ) → ((quoted s ++ 46 ∷ []) ++ rest) ++ q ≡ quoted s ++ 46 ∷ (rest ++ q)
cut_first s rest q = append_assoc (quoted s ++ 46 ∷ []) rest q ∙ append_assoc (quoted s) (46 ∷ []) (rest ++ q)

-- segments with dots after them and a last one are spelled by their quoted texts
spells_quoted : (segments : List (List ℕ)) (x : List ℕ) → IsTrue (list_all is_segment segments) → IsTrue (is_segment x)
    → Spells (behind segments ++ quoted x) (segments ++ x ∷ [])
unfolding Joins
spells_quoted [] x valid last = in_quotes x last
spells_quoted (s ∷ []) x valid last = (quoted s, quoted x, cut_first s [] (quoted x), in_quotes s (and_parts (is_segment s) true valid).0, in_quotes x last)
spells_quoted (s ∷ t ∷ segments) x valid last =
    let p = and_parts (is_segment s) (list_all is_segment (t ∷ segments)) valid in
    (quoted s, behind (t ∷ segments) ++ quoted x, cut_first s (behind (t ∷ segments)) (quoted x), in_quotes s p.0, spells_quoted (t ∷ segments) x p.1 last)

-- ---- file names

-- names are the file names of one list of segments
names_alike : (names : Names) (segments others : List (List ℕ)) → AreFileNames names segments → AreFileNames names others → segments ≡ others
names_alike [] [] [] a b = refl
names_alike [] [] (y ∷ ys) a b = absurd b
names_alike [] (x ∷ xs) others a b = absurd a
names_alike (n ∷ names) [] others a b = absurd a
names_alike (n ∷ names) (x ∷ xs) [] a b = absurd b
names_alike (n ∷ names) (x ∷ xs) (y ∷ ys) a b =
    let first : x ≡ y = segment_one n x y a.0 b.0 in
    let rest : xs ≡ ys = names_alike names xs ys a.1 b.1 in
    λ i. first i ∷ rest i

segments_valid : (names : Names) (segments : List (List ℕ)) → AreFileNames names segments → IsTrue (list_all is_segment segments)
segments_valid [] [] a = refl
segments_valid [] (x ∷ xs) a = absurd a
segments_valid (n ∷ names) [] a = absurd a
segments_valid (n ∷ names) (x ∷ xs) a = grind (arith, a.0.valid, segments_valid names xs a.1)

names_are : (names : Names) (segments : List (List ℕ)) → AreFileNames names segments → names ≡ names_of segments
names_are [] [] a = refl
names_are [] (x ∷ xs) a = absurd a
names_are (n ∷ names) [] a = absurd a
names_are (n ∷ names) (x ∷ xs) a =
    let first : n ≡ file_name x = a.0.spelled in
    let rest : names ≡ names_of xs = names_are names xs a.1 in
    λ i. first i ∷ rest i

-- one more name
pub file_names_more : (names : Names) (segments : List (List ℕ)) (name segment : List ℕ) → AreFileNames names segments → IsFileNameOf name segment
    → AreFileNames (names ++ name ∷ []) (segments ++ segment ∷ [])
file_names_more [] [] name segment a is = (is, tt)
file_names_more [] (x ∷ xs) name segment a is = absurd a
file_names_more (n ∷ names) [] name segment a is = absurd a
file_names_more (n ∷ names) (x ∷ xs) name segment a is = (a.0, file_names_more names xs name segment a.1 is)

flat_more : (segments : List (List ℕ)) (segment : List ℕ) → behind (segments ++ segment ∷ []) ≡ behind segments ++ (quoted segment ++ 46 ∷ [])
flat_more [] segment = append-nil (quoted segment ++ 46 ∷ [])
flat_more (s ∷ segments) segment = ap (λ (l : List ℕ). (quoted s ++ 46 ∷ []) ++ l) (flat_more segments segment)
    ∙ sym (append_assoc (quoted s ++ 46 ∷ []) (behind segments) (quoted segment ++ 46 ∷ []))

-- one more name in quotes, with a dot after it
pub quotes_more : (names : Names) (i : ℕ) (name segment text added now : List ℕ) → i < length names → name ≡ get_or names i name → Quotes (take i names) text
    → IsFileNameOf name segment → added ≡ text ++ quoted segment → now ≡ added ++ 46 ∷ [] → Quotes (take (i + 1) names) now
quotes_more names i name segment text added now low at q is was dotted = record {
  segments = q.segments ++ segment ∷ [];
  named = subst (λ (p : Names). AreFileNames p (q.segments ++ segment ∷ []))
      (sym (take_more names i name low ∙ ap (λ (n : List ℕ). take i names ++ n ∷ []) (sym at)))
      (file_names_more (take i names) q.segments name segment q.named is);
  text_is = dotted ∙ ap (λ (l : List ℕ). l ++ 46 ∷ []) was ∙ append_assoc text (quoted segment) (46 ∷ [])
      ∙ ap (λ (l : List ℕ). l ++ (quoted segment ++ 46 ∷ [])) q.text_is ∙ sym (flat_more q.segments segment);
}

-- a name that is that of no segment
pub no_names : (names : Names) (i : ℕ) (name : List ℕ) → i < length names → name ≡ get_or names i name → ((segment : List ℕ) → IsFileNameOf name segment → ⊥)
    → (segments : List (List ℕ)) → AreFileNames names segments → ⊥
no_names [] i name low at none segments a = omega arith
no_names (n ∷ names) i name low at none [] a = a
no_names (n ∷ names) zero name low at none (x ∷ xs) a = none x (subst (λ (l : List ℕ). IsFileNameOf l x) (sym at) a.0)
no_names (n ∷ names) (suc i) name low at none (x ∷ xs) a = no_names names i name (omega arith) at none xs a.1

-- ---- keys

-- a key's segments have its names
segments_named : (key : List (List ℕ)) → IsTrue (list_all is_segment key) → IsTrue (list_all has_short_name key) → AreFileNames (names_of key) key
segments_named [] v s = tt
segments_named (x ∷ key) v s =
    let vs = and_parts (is_segment x) (list_all is_segment key) v in
    let ss = and_parts (has_short_name x) (list_all has_short_name key) s in
    (file_named x vs.0 ss.0, segments_named key vs.1 ss.1)

pub key_named : (names : Names) (key : List (List ℕ)) → IsKeyOf names key → AreFileNames names key
key_named names key is = let v = key_segments key is.valid in subst (λ (p : Names). AreFileNames p key) (sym is.names_are) (segments_named key v.0 v.1)

module _ (names : Names) (last : List ℕ) (text whole segment : List ℕ) (q : Quotes names text) (is : IsFileNameOf last segment)
    (text_is : whole ≡ text ++ quoted segment) where
  spells_whole : Spells whole (q.segments ++ segment ∷ [])
  spells_whole = subst (λ (l : List ℕ). Spells l (q.segments ++ segment ∷ [])) (sym (text_is ∙ ap (λ (l : List ℕ). l ++ quoted segment) q.text_is))
      (spells_quoted q.segments segment (segments_valid names q.segments q.named) is.valid)

  named_whole : AreFileNames (names ++ last ∷ []) (q.segments ++ segment ∷ [])
  named_whole = file_names_more names q.segments last segment q.named is

  -- the key that the text spells has the names
  pub key_read : (key : List (List ℕ)) → SpellsKey whole key → IsKeyOf (names ++ last ∷ []) key
  key_read key spells = record {
    valid = spelled_key whole key spells;
    names_are = names_are (names ++ last ∷ []) (q.segments ++ segment ∷ []) named_whole
        ∙ ap names_of (one_joined IsSpelling 46 one_segment (q.segments ++ segment ∷ []) key whole spells_whole spells.spells);
  }

  -- and where it spells none, no key has them
  pub no_key_read : ((key : List (List ℕ)) → SpellsKey whole key → ⊥) → (key : List (List ℕ)) → IsKeyOf (names ++ last ∷ []) key → ⊥
  no_key_read none key of =
      let same : key ≡ q.segments ++ segment ∷ [] = names_alike (names ++ last ∷ []) key (q.segments ++ segment ∷ []) (key_named (names ++ last ∷ []) key of)
      named_whole in
      none key (record {
        spells = subst (λ (k : List (List ℕ)). Spells whole k) (sym same) spells_whole;
        within =
            fits-from key (IsKey-from key of.valid).fits;
      })

-- no key has names of which the first or the last are those of no segments
pub no_first : (names : Names) (last : List ℕ) → ((segments : List (List ℕ)) → AreFileNames names segments → ⊥) → (key : List (List ℕ))
    → IsKeyOf (names ++ last ∷ []) key → ⊥
no_first names last none key of = cut names key (key_named (names ++ last ∷ []) key of) none where
  cut : (names : Names) (key : List (List ℕ)) → AreFileNames (names ++ last ∷ []) key → ((segments : List (List ℕ)) → AreFileNames names segments → ⊥) → ⊥
  cut [] key a none = none [] tt
  cut (n ∷ names) [] a none = a
  cut (n ∷ names) (x ∷ xs) a none = cut names xs a.1 (λ segments b. none (x ∷ segments) (a.0, b))

pub no_last : (names : Names) (last : List ℕ) → ((segment : List ℕ) → IsFileNameOf last segment → ⊥) → (key : List (List ℕ)) → IsKeyOf (names ++ last ∷ []) key
    → ⊥
no_last names last none key of = cut names key (key_named (names ++ last ∷ []) key of) where
  cut : (names : Names) (key : List (List ℕ)) → AreFileNames (names ++ last ∷ []) key → ⊥
  cut [] [] a = a
  cut [] (x ∷ xs) a = none x a.0
  cut (n ∷ names) [] a = a
  cut (n ∷ names) (x ∷ xs) a = cut names xs a.1

-- ---- the loop

pub quotes_false : (name old now : List ℕ) (b : Bool) → QuotesOne name old now b → b ≡ false → (segment : List ℕ) → IsFileNameOf name segment → ⊥
quotes_false name old now false none is = none
quotes_false name old now true some is = absurd (false≢true (sym is))

pub no_names_at : (names : Names) (i : ℕ) (item name old now : List ℕ) (b : Bool) → i < length names → item ≡ get_or names i item → name ≡ item
    → QuotesOne name old now b → b ≡ false → (segments : List (List ℕ)) → AreFileNames names segments → ⊥
no_names_at names i item name old now b low at same one is =
    no_names names i item low at (λ segment of. quotes_false name old now b one is segment (subst (λ (l : List ℕ). IsFileNameOf l segment) (sym same) of))

pub quotes_step : (names : Names) (i : ℕ) (item name text added now : List ℕ) (b : Bool) → i < length names → item ≡ get_or names i item → name ≡ item
    → Quotes (take i names) text → QuotesOne name text added b → b ≡ true → now ≡ added ++ 46 ∷ [] → Quotes (take (i + 1) names) now
quotes_step names i item name text added now true low at same q (segment, is, was) so dotted =
    quotes_more names i item segment text added now low at q (subst (λ (l : List ℕ). IsFileNameOf l segment) same is) was dotted
quotes_step names i item name text added now false low at same q none so dotted = absurd (false≢true so)

-- ---- what is found

pub finds_map : {X E : Type 0} (R Q : X → Type 0) (r : Result (Option X) E) → ((x : X) → R x → Q x) → (((x : X) → R x → ⊥) → (x : X) → Q x → ⊥) → Finds R r
    → Finds Q r
finds_map R Q (Ok None) to none f = record { found = none f.found }
finds_map R Q (Ok (Some x)) to none f = record { found = to x f.found }
finds_map R Q (Err e) to none f = record { found = tt }

pub key_found : {E : Type 0} (names : Names) (last text whole read : List ℕ) (b : Bool) (r : Result (Option (List (List ℕ))) E) → Quotes names text
    → QuotesOne last text whole b → b ≡ true → read ≡ whole → Finds (SpellsKey read) r → Finds (IsKeyOf (names ++ last ∷ [])) r
key_found names last text whole read true r q (segment, is, was) so same f =
    finds_map (SpellsKey read) (IsKeyOf (names ++ last ∷ [])) r (key_read names last text read segment q is (same ∙ was))
    (no_key_read names last text read segment q is (same ∙ was)) f
key_found names last text whole read false r q none so same f = absurd (false≢true so)

pub no_key_last : {E : Type 0} (names : Names) (last text whole : List ℕ) (b : Bool) → QuotesOne last text whole b → b ≡ false
    → Finds {E = E} (IsKeyOf (names ++ last ∷ [])) (Ok None)
no_key_last names last text whole b one is = record { found = no_last names last (quotes_false last text whole b one is) }

pub no_key_first : {E : Type 0} (names : Names) (last : List ℕ) → ((segments : List (List ℕ)) → AreFileNames names segments → ⊥)
    → Finds {E = E} (IsKeyOf (names ++ last ∷ [])) (Ok None)
no_key_first names last none = record { found = no_first names last none }
