-- Which place a path is that of, by its first and its last name.
use Rattle.std.proofs.Common.{arith, ◌≡◌, ◌==◌, ℕ, List, [], ◌∷◌, ◌++◌, codes, Some, Result, Ok, Err, Bool, true, false, refl, sym, ap, ◌∙◌, subst}
use Rattle.std.specs.Prelude.{IsTrue, IfOk}
use Rattle.std.specs.List.{list_all}
use Rattle.std.specs.Str.{IsUtf8, bytes_eq}
use Rattle.std.proofs.lemmas.Slice.Eq.{bytes_eq-Decides}
use Rattle.std.proofs.lemmas.Bool.{false≢true, and_parts, false_from_ne_true}
use Rattle.outside.specs.Names.{Names}
use Rattle.outside.specs.Tree.{Node, file}
use Rattle.commit_journal.specs.Files.{Files, with_node}
use Rattle.key_names.specs.Key.{is_key}
use Rattle.key_names.specs.Segment.{is_bare, is_segment, file_name}
use Rattle.key_names.proofs.Segments.{both}
use Rattle.commit_journal.specs.Parts.{Lacks}
use Rattle.commit_journal.proofs.Cutting.{lacks_none, split_one}
use Rattle.settings_maps.specs.TxName.{is_tx_name, is_meta_name}
use Rattle.settings_tree.specs.Change.{Place}
use Rattle.settings_tree.specs.Change.{Live, Meta, Pend, TheOwed, TheImage, TheWeak}
use Rattle.fs_datastore.specs.Places.{names_of, meta_names, path_of, is_place, format_path}
use Rattle.fs_datastore.specs.Damage.{Takes, Fits, format, place}
use Rattle.fs_datastore.specs.FoundFiles.{IsKeyOf, IsPlaceOf, place_of, Says, Reads, ReadsAt}
use Rattle.fs_datastore.specs.declared.found.Found.{Found}
use Rattle.fs_datastore.specs.declared.place.FilePlace.{FilePlace}
use Rattle.fs_datastore.specs.declared.place.FilePlace.TheVariants as named
use Rattle.fs_datastore.proofs.Places.{one_place, meta_valid}
use Rattle.fs_datastore.proofs.FileNames.{segment_bytes, lacks_dot, key_segments, key_length}
use Rattle.key_names.proofs.Ascii.{bare_text}

-- ---- names of metadata

-- bytes that are no text are no name of metadata
pub no_text : (bytes : List ℕ) → ¬ (IsUtf8 bytes) → is_meta_name bytes ≡ false
no_text bytes broken = false_from_ne_true (is_meta_name bytes) (λ name. broken (bare_text bytes ((and_parts _ (list_all is_bare bytes) name).1)))

-- ---- the last name

-- the last name of metadata is a file name with a dot and the name
record IsDotted (key : List (List ℕ)) (name : List ℕ) (first : Names) (last : List ℕ) : Type 0 where
  segment : List ℕ
  valid : IsTrue (is_segment segment)
  names_are : names_of key ≡ first ++ file_name segment ∷ []
  last_is : last ≡ file_name segment ++ 46 ∷ name

meta_end : (key : List (List ℕ)) (name : List ℕ) (first : Names) (last : List ℕ) → IsTrue (list_all is_segment key) → meta_names key name ≡ first ++ last ∷ []
    → IsDotted key name first last
meta_end [] name [] last valid is = absurd (cc is)
meta_end [] name (f ∷ first) last valid is = absurd (cc is)
meta_end (x ∷ []) name [] last valid is =
    let head : file_name x ++ 46 ∷ name ≡ last = cc is in
    record { segment = x; valid = (and_parts (is_segment x) true valid).0; names_are = refl; last_is = sym head }
meta_end (x ∷ []) name (f ∷ []) last valid is = absurd (cc is)
meta_end (x ∷ []) name (f ∷ g ∷ first) last valid is = absurd (cc is)
meta_end (x ∷ y ∷ key) name [] last valid is = absurd (long y key is)
  where
    long : (y : List ℕ) (key : List (List ℕ)) → file_name x ∷ meta_names (y ∷ key) name ≡ last ∷ [] → ⊥
    long y [] is = cc is
    long y (z ∷ key) is = cc is
meta_end (x ∷ y ∷ key) name (f ∷ first) last valid is =
    let head : file_name x ≡ f = cc is in
    let tail : meta_names (y ∷ key) name ≡ first ++ last ∷ [] = cc is in
    let rest = meta_end (y ∷ key) name first last (and_parts (is_segment x) (list_all is_segment (y ∷ key)) valid).1 tail in
    let names : names_of (y ∷ key) ≡ first ++ file_name rest.segment ∷ [] = rest.names_are in
    record { segment = rest.segment; valid = rest.valid; names_are = (λ i. head i ∷ names i); last_is = rest.last_is }

-- the last name of a key has no dot
key_end : (key : List (List ℕ)) (first : Names) (last : List ℕ) → IsTrue (list_all is_segment key) → names_of key ≡ first ++ last ∷ [] → Lacks 46 last
key_end [] [] last valid is = absurd (cc is)
key_end [] (f ∷ first) last valid is = absurd (cc is)
key_end (x ∷ key) [] last valid is =
    let head : file_name x ≡ last = cc is in
    subst (λ (l : List ℕ). Lacks 46 l) head (lacks_dot (file_name x) (segment_bytes x (and_parts (is_segment x) (list_all is_segment key) valid).0))
key_end (x ∷ key) (f ∷ first) last valid is =
    let tail : names_of key ≡ first ++ last ∷ [] = cc is in
    key_end key first last (and_parts (is_segment x) (list_all is_segment key) valid).1 tail

-- ---- different first names

abbrev first_byte : Names → ℕ
first_byte [] = 0
first_byte ([] ∷ names) = 0
first_byte ((b ∷ name) ∷ names) = b

differ : (p q : Names) → first_byte p == first_byte q ≡ false → p ≡ q → ⊥
differ p q other is = false≢true (sym other ∙ ap (λ (n : ℕ). n == first_byte q) (ap first_byte is) ∙ itself (first_byte q)) where
  itself : (n : ℕ) → n == n ≡ true
  itself n = grind arith

rest_of : (a : List ℕ) (p q : Names) → a ∷ p ≡ a ∷ q → p ≡ q
rest_of a p q is = cc is

-- ---- below `live`

-- no place has this path where no key has these names and the last of them has no dot
pub no_value : (first : Names) (last : List ℕ) → Lacks 46 last → ((key : List (List ℕ)) → IsKeyOf (first ++ last ∷ []) key → ⊥) → (p : FilePlace)
    → IsPlaceOf (codes "live" ∷ first ++ last ∷ []) p → ⊥
no_value first last lacks none (named.Live k) of = none k (record {
  valid = of.valid;
  names_are =
      rest_of (codes "live") (first ++ last ∷ []) (names_of k) of.path_is;
})
no_value first last lacks none (named.Meta k n) of =
    let dotted = meta_end k n first last (key_segments k (meta_valid k n of.valid)).0
    (sym (rest_of (codes "live") (first ++ last ∷ []) (meta_names k n) of.path_is)) in
    lacks_none 46 (file_name dotted.segment) n (subst (λ (l : List ℕ). Lacks 46 l) dotted.last_is lacks)
no_value first last lacks none (named.Pending t k) of = differ (codes "live" ∷ first ++ last ∷ []) (path_of (Pend t k)) refl of.path_is
no_value first last lacks none named.Owed of = differ (codes "live" ∷ first ++ last ∷ []) (path_of TheOwed) refl of.path_is
no_value first last lacks none named.Image of = differ (codes "live" ∷ first ++ last ∷ []) (path_of TheImage) refl of.path_is
no_value first last lacks none named.Weak of = differ (codes "live" ∷ first ++ last ∷ []) (path_of TheWeak) refl of.path_is

-- with a dot in the last name it is that of metadata alone
meta_alone : (first : Names) (last name : List ℕ) → Lacks 46 last → (p : FilePlace) → IsPlaceOf (codes "live" ∷ first ++ (last ++ 46 ∷ name) ∷ []) p
    → (key : List (List ℕ)) × IsKeyOf (first ++ last ∷ []) key × IsTrue (is_meta_name name)
meta_alone first last name lacks (named.Live k) of = absurd (lacks_none 46 last name
    (key_end k first (last ++ 46 ∷ name) (key_segments k of.valid).0 (sym
    (rest_of (codes "live") (first ++ (last ++ 46 ∷ name) ∷ []) (names_of k) of.path_is))))
meta_alone first last name lacks (named.Meta k n) of =
    let dotted = meta_end k n first (last ++ 46 ∷ name) (key_segments k (meta_valid k n of.valid)).0
    (sym (rest_of (codes "live") (first ++ (last ++ 46 ∷ name) ∷ []) (meta_names k n) of.path_is)) in
    let parts = split_one 46 last (file_name dotted.segment) name n lacks (lacks_dot (file_name dotted.segment) (segment_bytes dotted.segment dotted.valid))
    dotted.last_is in (
      k,
      record { valid = meta_valid k n of.valid; names_are = ap (λ (l : List ℕ). first ++ l ∷ []) parts.0 ∙ sym dotted.names_are },
      subst (λ (l : List ℕ). IsTrue (is_meta_name l)) (sym parts.1) (and_parts (is_key k) (is_meta_name n) of.valid).1,
    )
meta_alone first last name lacks (named.Pending t k) of = absurd (differ (codes "live" ∷ first ++ (last ++ 46 ∷ name) ∷ []) (path_of (Pend t k)) refl
    of.path_is)
meta_alone first last name lacks named.Owed of = absurd (differ (codes "live" ∷ first ++ (last ++ 46 ∷ name) ∷ []) (path_of TheOwed) refl of.path_is)
meta_alone first last name lacks named.Image of = absurd (differ (codes "live" ∷ first ++ (last ++ 46 ∷ name) ∷ []) (path_of TheImage) refl of.path_is)
meta_alone first last name lacks named.Weak of = absurd (differ (codes "live" ∷ first ++ (last ++ 46 ∷ name) ∷ []) (path_of TheWeak) refl of.path_is)

pub no_meta_key : (first : Names) (last name : List ℕ) → Lacks 46 last → ((key : List (List ℕ)) → IsKeyOf (first ++ last ∷ []) key → ⊥) → (p : FilePlace)
    → IsPlaceOf (codes "live" ∷ first ++ (last ++ 46 ∷ name) ∷ []) p → ⊥
no_meta_key first last name lacks none p of = let m = meta_alone first last name lacks p of in none m.0 m.1

pub no_meta_name : (first : Names) (last name : List ℕ) → Lacks 46 last → ((n : List ℕ) → (n ≡ name) × IsTrue (is_meta_name name) → ⊥) → (p : FilePlace)
    → IsPlaceOf (codes "live" ∷ first ++ (last ++ 46 ∷ name) ∷ []) p → ⊥
no_meta_name first last name lacks none p of = let m = meta_alone first last name lacks p of in none name (refl, m.2)

-- a live value and metadata have their paths
pub value_place : (first : Names) (last : List ℕ) (key : List (List ℕ)) → IsKeyOf (first ++ last ∷ []) key
    → IsPlaceOf (codes "live" ∷ first ++ last ∷ []) (named.Live key)
value_place first last key of = record { valid = of.valid; path_is = ap (λ (p : Names). codes "live" ∷ p) of.names_are }

end_of : (key : List (List ℕ)) (first : Names) (last name : List ℕ) → first ++ last ∷ [] ≡ names_of key
    → meta_names key name ≡ first ++ (last ++ 46 ∷ name) ∷ []
end_of [] [] last name is = absurd (cc is)
end_of [] (f ∷ first) last name is = absurd (cc is)
end_of (x ∷ []) [] last name is = let head : last ≡ file_name x = cc is in ap (λ (l : List ℕ). (l ++ 46 ∷ name) ∷ []) (sym head)
end_of (x ∷ []) (f ∷ []) last name is = absurd (cc is)
end_of (x ∷ []) (f ∷ g ∷ first) last name is = absurd (cc is)
end_of (x ∷ y ∷ key) [] last name is = absurd (cc is)
end_of (x ∷ y ∷ key) (f ∷ first) last name is =
    let head : f ≡ file_name x = cc is in
    let tail : first ++ last ∷ [] ≡ names_of (y ∷ key) = cc is in
    let rest : meta_names (y ∷ key) name ≡ first ++ (last ++ 46 ∷ name) ∷ [] = end_of (y ∷ key) first last name tail in
    λ i. sym head i ∷ rest i

pub meta_place : (first : Names) (last name also : List ℕ) (key : List (List ℕ)) → IsKeyOf (first ++ last ∷ []) key → (also ≡ name) × IsTrue (is_meta_name name)
    → IsPlaceOf (codes "live" ∷ first ++ (last ++ 46 ∷ name) ∷ []) (named.Meta key also)
meta_place first last name also key of is = record {
  valid = both (is_key key) (is_meta_name also) of.valid (subst (λ (l : List ℕ). IsTrue (is_meta_name l)) (sym is.0) is.1);
  path_is = ap (λ (p : Names). codes "live" ∷ p) (sym (end_of key first last name of.names_are) ∙ ap (λ (n : List ℕ). meta_names key n) (sym is.0));
}

-- nothing is at `live` itself
no_names : (key : List (List ℕ)) → IsTrue (is_key key) → [] ≡ names_of key → ⊥
no_names [] valid is = omega (arith, (key_length [] valid).0)
no_names (x ∷ key) valid is = cc is

no_meta_names : (key : List (List ℕ)) (name : List ℕ) → IsTrue (is_key key) → [] ≡ meta_names key name → ⊥
no_meta_names [] name valid is = omega (arith, (key_length [] valid).0)
no_meta_names (x ∷ []) name valid is = cc is
no_meta_names (x ∷ y ∷ key) name valid is = cc is

pub no_live : (p : FilePlace) → IsPlaceOf (codes "live" ∷ []) p → ⊥
no_live (named.Live k) of = no_names k of.valid (rest_of (codes "live") [] (names_of k) of.path_is)
no_live (named.Meta k n) of = no_meta_names k n (meta_valid k n of.valid) (rest_of (codes "live") [] (meta_names k n) of.path_is)
no_live (named.Pending t k) of = differ (codes "live" ∷ []) (path_of (Pend t k)) refl of.path_is
no_live named.Owed of = differ (codes "live" ∷ []) (path_of TheOwed) refl of.path_is
no_live named.Image of = differ (codes "live" ∷ []) (path_of TheImage) refl of.path_is
no_live named.Weak of = differ (codes "live" ∷ []) (path_of TheWeak) refl of.path_is

-- ---- below `pending`

-- what has such a path is a pending value
pending_alone : (names : Names) (p : FilePlace) → IsPlaceOf (codes "pending" ∷ names) p → (tx : List ℕ) × (key : List (List ℕ)) × IsTrue (is_tx_name tx)
    × IsTrue (is_key key) × (names ≡ tx ∷ names_of key)
pending_alone names (named.Pending t k) of = (
  t,
  k,
  (and_parts (is_tx_name t) (is_key k) of.valid).0,
  (and_parts (is_tx_name t) (is_key k) of.valid).1,
  rest_of
      (codes "pending") names (t ∷ names_of k) of.path_is,
)
pending_alone names (named.Live k) of = absurd (differ (codes "pending" ∷ names) (path_of (Live k)) refl of.path_is)
pending_alone names (named.Meta k n) of = absurd (differ (codes "pending" ∷ names) (path_of (Meta k n)) refl of.path_is)
pending_alone names named.Owed of = absurd (differ (codes "pending" ∷ names) (path_of TheOwed) refl of.path_is)
pending_alone names named.Image of = absurd (differ (codes "pending" ∷ names) (path_of TheImage) refl of.path_is)
pending_alone names named.Weak of = absurd (differ (codes "pending" ∷ names) (path_of TheWeak) refl of.path_is)

pub no_pending : (p : FilePlace) → IsPlaceOf (codes "pending" ∷ []) p → ⊥
no_pending p of = let a = pending_alone [] p of in cc a.4

-- ---- one name alone

pub no_other_top : (name : List ℕ) (a b d : Bool) → a ≡ bytes_eq name (codes "owed") → a ≡ false → b ≡ bytes_eq name (codes "image") → b ≡ false
    → d ≡ bytes_eq name (codes "weak") → d ≡ false → (p : FilePlace) → IsPlaceOf (name ∷ []) p → ⊥
no_other_top name a b d is_a a_false is_b b_false is_d d_false (named.Live k) of = let none : [] ≡ names_of k = cc of.path_is in no_names k of.valid none
no_other_top name a b d is_a a_false is_b b_false is_d d_false (named.Meta k n) of = let none : [] ≡ meta_names k n = cc of.path_is in
    no_meta_names k n (meta_valid k n of.valid) none
no_other_top name a b d is_a a_false is_b b_false is_d d_false (named.Pending t k) of = cc of.path_is
no_other_top name a b d is_a a_false is_b b_false is_d d_false named.Owed of = let same : name ≡ codes "owed" = cc of.path_is in
    false≢true (sym a_false ∙ is_a ∙ (bytes_eq-Decides name (codes "owed")).1 same)
no_other_top name a b d is_a a_false is_b b_false is_d d_false named.Image of = let same : name ≡ codes "image" = cc of.path_is in
    false≢true (sym b_false ∙ is_b ∙ (bytes_eq-Decides name (codes "image")).1 same)
no_other_top name a b d is_a a_false is_b b_false is_d d_false named.Weak of = let same : name ≡ codes "weak" = cc of.path_is in
    false≢true (sym d_false ∙ is_d ∙ (bytes_eq-Decides name (codes "weak")).1 same)

pub no_live_names : (names : Names) → names ≡ [] → (p : FilePlace) → IsPlaceOf (codes "live" ∷ names) p → ⊥
no_live_names names none p of = no_live p (subst (λ (l : Names). IsPlaceOf (codes "live" ∷ l) p) none of)

-- ---- the file of a path

file_place : Place → FilePlace
file_place (Live k) = named.Live k
file_place (Meta k n) = named.Meta k n
file_place (Pend t k) = named.Pending t k
file_place TheOwed = named.Owed
file_place TheImage = named.Image
file_place TheWeak = named.Weak

file_place-is : (p : Place) → place_of (file_place p) ≡ p
unfolding file_place
file_place-is (Live k) = refl
file_place-is (Meta k n) = refl
file_place-is (Pend t k) = refl
file_place-is TheOwed = refl
file_place-is TheImage = refl
file_place-is TheWeak = refl

-- no file may be at a path that is that of nothing
pub no_place_fits : (names : Names) (bytes : List ℕ) (old new : Found) → (names ≡ format_path → ⊥) → ((p : FilePlace) → IsPlaceOf names p → ⊥)
    → Reads names bytes old new false
no_place_fits names bytes old new other none = λ others says fit. by others fit where
  by : (others : Files) → Fits others names (file bytes) → ⊥
  by others (format here is) = other here
  by others (place p b valid here is t) = none (file_place p) (record {
    valid =
        subst (λ (q : Place). IsTrue (is_place q)) (sym (file_place-is p)) valid;
    path_is = here ∙ ap path_of (sym (file_place-is p));
  })

bytes_in : Node → List ℕ → List ℕ
bytes_in (file bytes) d = bytes
bytes_in _ d = d

-- what is read at a place is read at its path
pub reads_place : {E : Type 0} (names : Names) (p : FilePlace) (bytes b : List ℕ) (old new : Found) (r : Result Bool E) → (names ≡ format_path → ⊥)
    → IsPlaceOf names p → b ≡ bytes → IfOk r (ReadsAt (place_of p) b old new) → IfOk r (Reads names bytes old new)
unfolding bytes_in
reads_place names p bytes b old new (Ok true) other of same reads = (
  reads.0,
  λ others says. subst
      (λ (l : Names). Says (with_node others l (Some (file bytes))) new) (sym of.path_is)
      (subst (λ (l : List ℕ). Says (with_node others (path_of (place_of p)) (Some (file l))) new) same (reads.1 others says)),
)
reads_place names p bytes b old new (Ok false) other of same reads = λ others says fit. by others says fit where
  by : (others : Files) → Says others old → Fits others names (file bytes) → ⊥
  by others says (format here is) = other here
  by others says (place q d valid here is t) =
      reads others says (subst (λ (x : Place). Takes others x b) (one_place q (place_of p) valid of.valid (sym here ∙ of.path_is))
      (subst (λ (l : List ℕ). Takes others q l) (sym (same ∙ ap (λ (n : Node). bytes_in n []) is)) t))
reads_place names p bytes b old new (Err e) other of same reads = tt

pub reads_format : (names : Names) (bytes b : List ℕ) (old new : Found) (r : Bool) → names ≡ format_path → b ≡ bytes → Reads format_path b old new r
    → Reads names bytes old new r
reads_format names bytes b old new r here same reads = subst (λ (l : Names). Reads l bytes old new r) (sym here)
    (subst (λ (l : List ℕ). Reads format_path l old new r) same reads)

pub reads_as : {E : Type 0} (r : Result Bool E) (p q : Place) (bytes b : List ℕ) (old new : Found) → p ≡ q → b ≡ bytes → IfOk r (ReadsAt q b old new)
    → IfOk r (ReadsAt p bytes old new)
reads_as r p q bytes b old new place_is same reads = subst (λ (x : Place). IfOk r (ReadsAt x bytes old new)) (sym place_is)
    (subst (λ (l : List ℕ). IfOk r (ReadsAt q l old new)) same reads)
