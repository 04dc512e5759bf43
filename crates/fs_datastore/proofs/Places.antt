-- A path is that of at most one place.
use Rattle.std.proofs.Common.{arith, ◌≡◌, ◌<◌, ◌==◌, ℕ, List, [], ◌∷◌, ◌++◌, length, codes, Bool, true, false, inl, inr, ◌⊎◌, refl, sym, ap, ◌∙◌, subst}
use Rattle.std.specs.Prelude.{IsTrue}
use Rattle.std.specs.List.{list_all}
use Rattle.std.specs.Ordering.{eq_by_cmp, is_eq}
use Rattle.std.proofs.lemmas.Bool.{false≢true, and_parts}
use Rattle.std.proofs.lemmas.Cmp.{tied_itself}
use Rattle.outside.specs.Names.{Names}
use Rattle.key_names.specs.Order.{bytes_cmp, bytes_total, key_cmp, key_total}
use Rattle.key_names.specs.Key.{is_key}
use Rattle.key_names.specs.Segment.{is_segment, has_short_name, file_name, IsFileNameOf}
use Rattle.key_names.proofs.Segments.{both}
use Rattle.key_names.proofs.Ties.{same_bytes, same_key}
use Rattle.settings_maps.specs.TxName.{is_tx_name, is_meta_name}
use Rattle.commit_journal.specs.Parts.{Lacks}
use Rattle.commit_journal.proofs.Cutting.{lacks_none, split_one}
use Rattle.settings_tree.specs.Change.{Place, is_same}
use Rattle.settings_tree.specs.Change.{Live, Meta, Pend, TheOwed, TheImage, TheWeak}
use Rattle.fs_datastore.specs.Places.{names_of, meta_names, path_of, is_place, format_path}
use Rattle.fs_datastore.specs.Laws.{NamesOne, NamesNoFormat}
use Rattle.fs_datastore.proofs.FileNames.{segment_bytes, lacks_dot, segment_one, file_named, key_segments, key_length, names_one}

-- ---- whether two places are one

bytes_same : (a b : List ℕ) → eq_by_cmp bytes_cmp a b ≡ true → a ≡ b
bytes_same a b is = (same_bytes a b _ _ refl refl).0 is

keys_same : (a b : List (List ℕ)) → eq_by_cmp key_cmp a b ≡ true → a ≡ b
keys_same a b is = (same_key a b _ _ refl refl).0 is

-- places that pass the test are one
pub same_place : (one other : Place) → is_same one other ≡ true → one ≡ other
same_place (Live k) (Live q) is = ap Live (keys_same k q is)
same_place (Meta k n) (Meta q r) is =
    let p = and_parts (eq_by_cmp key_cmp k q) (eq_by_cmp bytes_cmp n r) is in
    let key : k ≡ q = keys_same k q p.0 in
    let name : n ≡ r = bytes_same n r p.1 in
    λ i. Meta (key i) (name i)
same_place (Pend t k) (Pend u q) is =
    let p = and_parts (eq_by_cmp bytes_cmp t u) (eq_by_cmp key_cmp k q) is in
    let tx : t ≡ u = bytes_same t u p.0 in
    let key : k ≡ q = keys_same k q p.1 in
    λ i. Pend (tx i) (key i)
same_place TheOwed TheOwed is = refl
same_place TheImage TheImage is = refl
same_place TheWeak TheWeak is = refl
same_place _ _ is = absurd (false≢true is)

-- a place is itself
pub same_itself : (p : Place) → is_same p p ≡ true
same_itself (Live k) = ap is_eq (tied_itself key_total k)
same_itself (Meta k n) = both (eq_by_cmp key_cmp k k) (eq_by_cmp bytes_cmp n n) (ap is_eq (tied_itself key_total k)) (ap is_eq (tied_itself bytes_total n))
same_itself (Pend t k) = both (eq_by_cmp bytes_cmp t t) (eq_by_cmp key_cmp k k) (ap is_eq (tied_itself bytes_total t)) (ap is_eq (tied_itself key_total k))
same_itself TheOwed = refl
same_itself TheImage = refl
same_itself TheWeak = refl

-- two places are one or two
pub place_cases : (p q : Place) → ((p ≡ q) × (is_same p q ≡ true)) ⊎ (is_same p q ≡ false)
place_cases p q = by (is_same p q) refl where
  by : (b : Bool) → is_same p q ≡ b → ((p ≡ q) × (is_same p q ≡ true)) ⊎ (is_same p q ≡ false)
  by true is = inl (same_place p q is, is)
  by false is = inr is

-- ---- paths

-- the first byte of a path, which tells apart what begins with different words
abbrev first_byte : Names → ℕ
first_byte [] = 0
first_byte ([] ∷ names) = 0
first_byte ((b ∷ name) ∷ names) = b

differ : (p q : Names) → first_byte p == first_byte q ≡ false → p ≡ q → ⊥
differ p q other is = false≢true (sym other ∙ ap (λ (n : ℕ). n == first_byte q) (ap first_byte is) ∙ itself (first_byte q)) where
  itself : (n : ℕ) → n == n ≡ true
  itself n = grind arith

-- a key's names and those of metadata differ, since the last of these has a dot
no_meta : (key other : List (List ℕ)) (name : List ℕ) → IsTrue (list_all is_segment key) → 0 < length other → names_of key ≡ meta_names other name → ⊥
no_meta key [] name valid some is = omega arith
no_meta [] (s ∷ []) name valid some is = cc is
no_meta [] (s ∷ t ∷ other) name valid some is = cc is
no_meta (x ∷ key) (s ∷ []) name valid some is =
    let p = and_parts (is_segment x) (list_all is_segment key) valid in
    let head : file_name x ≡ file_name s ++ 46 ∷ name = cc is in
    lacks_none 46 (file_name s) name (subst (λ (l : List ℕ). Lacks 46 l) head (lacks_dot (file_name x) (segment_bytes x p.0)))
no_meta (x ∷ key) (s ∷ t ∷ other) name valid some is =
    let p = and_parts (is_segment x) (list_all is_segment key) valid in
    let tail : names_of key ≡ meta_names (t ∷ other) name = cc is in
    no_meta key (t ∷ other) name p.1 (omega arith) tail

record OneMeta (key other : List (List ℕ)) (name also : List ℕ) : Type 0 where
  keys : key ≡ other
  names : name ≡ also

-- metadata's names are those of one key and one name
one_meta : (key other : List (List ℕ)) (name also : List ℕ) → IsTrue (list_all is_segment key) → IsTrue (list_all has_short_name key)
    → IsTrue (list_all is_segment other) → IsTrue (list_all has_short_name other) → 0 < length key → 0 < length other
    → meta_names key name ≡ meta_names other also → OneMeta key other name also
one_meta [] other name also v s w t some more is = absurd (omega arith)
one_meta (x ∷ key) [] name also v s w t some more is = absurd (omega arith)
one_meta (x ∷ []) (y ∷ []) name also v s w t some more is =
    let vs = and_parts (is_segment x) true v in
    let ss = and_parts (has_short_name x) true s in
    let ws = and_parts (is_segment y) true w in
    let ts = and_parts (has_short_name y) true t in
    let head : file_name x ++ 46 ∷ name ≡ file_name y ++ 46 ∷ also = cc is in
    let parts = split_one 46 (file_name x) (file_name y) name also (lacks_dot (file_name x) (segment_bytes x vs.0))
    (lacks_dot (file_name y) (segment_bytes y ws.0)) head in
    let first : x ≡ y = segment_one (file_name x) x y (file_named x vs.0 ss.0) (subst (λ (l : List ℕ). IsFileNameOf l y) (sym parts.0) (file_named y ws.0 ts.0))
    in
    record { keys = ap (λ (z : List ℕ). z ∷ []) first; names = parts.1 }
one_meta (x ∷ []) (y ∷ z ∷ other) name also v s w t some more is = absurd (one_long (file_name x ++ 46 ∷ name) (file_name y) z other also is)
  where
    one_long : (a b z : List ℕ) (other : List (List ℕ)) (also : List ℕ) → a ∷ [] ≡ b ∷ meta_names (z ∷ other) also → ⊥
    one_long a b z [] also is = cc is
    one_long a b z (u ∷ other) also is = cc is
one_meta (x ∷ z ∷ key) (y ∷ []) name also v s w t some more is = absurd (long_one (file_name y ++ 46 ∷ also) (file_name x) z key name is)
  where
    long_one : (a b z : List ℕ) (key : List (List ℕ)) (name : List ℕ) → b ∷ meta_names (z ∷ key) name ≡ a ∷ [] → ⊥
    long_one a b z [] name is = cc is
    long_one a b z (u ∷ key) name is = cc is
one_meta (x ∷ a ∷ key) (y ∷ b ∷ other) name also v s w t some more is =
    let vs = and_parts (is_segment x) (list_all is_segment (a ∷ key)) v in
    let ss = and_parts (has_short_name x) (list_all has_short_name (a ∷ key)) s in
    let ws = and_parts (is_segment y) (list_all is_segment (b ∷ other)) w in
    let ts = and_parts (has_short_name y) (list_all has_short_name (b ∷ other)) t in
    let head : file_name x ≡ file_name y = cc is in
    let tail : meta_names (a ∷ key) name ≡ meta_names (b ∷ other) also = cc is in
    let first : x ≡ y = segment_one (file_name x) x y (file_named x vs.0 ss.0) (subst (λ (l : List ℕ). IsFileNameOf l y) (sym head) (file_named y ws.0 ts.0)) in
    let rest = one_meta (a ∷ key) (b ∷ other) name also vs.1 ss.1 ws.1 ts.1 (omega arith) (omega arith) tail in
    record { keys = (let k : a ∷ key ≡ b ∷ other = rest.keys in λ i. first i ∷ k i); names = rest.names }

tail_of : (a : List ℕ) (p q : Names) → a ∷ p ≡ a ∷ q → p ≡ q
tail_of a p q is = cc is

two_of : (a t u : List ℕ) (p q : Names) → a ∷ t ∷ p ≡ a ∷ u ∷ q → (t ≡ u) × (p ≡ q)
two_of a t u p q is = (cc is, cc is)

-- Metadata is at a key.
pub meta_valid : (k : List (List ℕ)) (n : List ℕ) → IsTrue (is_place (Meta k n)) → IsTrue (is_key k)
meta_valid k n valid = (and_parts (is_key k) (is_meta_name n) valid).0

pend_valid : (t : List ℕ) (k : List (List ℕ)) → IsTrue (is_place (Pend t k)) → IsTrue (is_key k)
pend_valid t k valid = (and_parts (is_tx_name t) (is_key k) valid).1

pub one_place : NamesOne
one_place (Live k) (Live q) v w is =
    let a = key_segments k v in
    let b = key_segments q w in
    ap Live (names_one k q a.0 a.1 b.0 b.1 (tail_of (codes "live") (names_of k) (names_of q) is))
one_place (Live k) (Meta q n) v w is = absurd (no_meta k q n (key_segments k v).0 (key_length q (meta_valid q n w)).0
    (tail_of (codes "live") (names_of k) (meta_names q n) is))
one_place (Meta k n) (Live q) v w is = absurd (no_meta q k n (key_segments q w).0 (key_length k (meta_valid k n v)).0
    (sym (tail_of (codes "live") (meta_names k n) (names_of q) is)))
one_place (Meta k n) (Meta q r) v w is =
    let a = key_segments k (meta_valid k n v) in
    let b = key_segments q (meta_valid q r w) in
    let one = one_meta k q n r a.0 a.1 b.0 b.1 (key_length k (meta_valid k n v)).0 (key_length q (meta_valid q r w)).0
    (tail_of (codes "live") (meta_names k n) (meta_names q r) is) in
    let key : k ≡ q = one.keys in
    let name : n ≡ r = one.names in
    λ i. Meta (key i) (name i)
one_place (Pend t k) (Pend u q) v w is =
    let a = key_segments k (pend_valid t k v) in
    let b = key_segments q (pend_valid u q w) in
    let two = two_of (codes "pending") t u (names_of k) (names_of q) is in
    let tx : t ≡ u = two.0 in
    let key : k ≡ q = names_one k q a.0 a.1 b.0 b.1 two.1 in
    λ i. Pend (tx i) (key i)
one_place TheOwed TheOwed v w is = refl
one_place TheImage TheImage v w is = refl
one_place TheWeak TheWeak v w is = refl
one_place p q v w is = absurd (differ (path_of p) (path_of q) refl is)

pub no_format : NamesNoFormat
no_format (Live k) is = differ (path_of (Live k)) format_path refl is
no_format (Meta k n) is = differ (path_of (Meta k n)) format_path refl is
no_format (Pend t k) is = differ (path_of (Pend t k)) format_path refl is
no_format TheOwed is = differ (path_of TheOwed) format_path refl is
no_format TheImage is = differ (path_of TheImage) format_path refl is
no_format TheWeak is = differ (path_of TheWeak) format_path refl is
