-- Keys below a path are ordered by the names directly below it.
use Rattle.std.proofs.Common.{◌≡◌, ◌<◌, ℕ, List, [], ◌∷◌, ◌++◌, length, Bool, true, false, cond}
use Rattle.std.proofs.Common.{Option, Some, None, refl, sym, ◌∙◌, ap, subst, arith, zero, suc, length-append}
use Rattle.std.specs.Prelude.{slice_get, slice_index_or}
use Rattle.std.specs.declared.cmp.Ordering.{Ordering}
use Rattle.std.specs.declared.cmp.Ordering.TheVariants.{Less, Equal, Greater}
use Rattle.std.specs.Ordering.{is_gt, ordering_then}
use Rattle.std.specs.BTreeMap.Range.{IsLeBy}
use Rattle.std.proofs.lemmas.Bool.{cond-true}
use Rattle.std.proofs.lemmas.Cmp.{tied_itself}
use Rattle.key_names.specs.Order.{bytes_cmp, bytes_total, bytes_cmp-IsAntisymmetric, key_cmp}
use Rattle.key_names.specs.Key.{is_prefix}
use Rattle.settings_maps.specs.Maps.{IsPast}
use Rattle.template_eval.specs.Place.{Path}
use Rattle.template_eval.specs.Children.{name_below}
use Rattle.template_eval.specs.Steps.{name_at}
use Rattle.key_names.proofs.Prefixes.{behind}

-- Keys that begin with a path are ordered by what they have after it.
pub cmp-behind : (p a b : Path) → key_cmp (p ++ a) (p ++ b) ≡ key_cmp a b
cmp-behind [] a b = refl
cmp-behind (n ∷ p) a b = ap (λ r. ordering_then r (key_cmp (p ++ a) (p ++ b))) (tied_itself bytes_total n) ∙ cmp-behind p a b

-- The first name after a path, by its index in the key.
pub get-behind : (p a : Path) → slice_get (p ++ a) (length p) ≡ slice_get a 0
get-behind [] a = refl
get-behind (n ∷ p) a = get-behind p a

-- The same, where an empty name represents none.
pub index-behind : (p a : Path) → slice_index_or (p ++ a) (length p) [] ≡ slice_index_or a 0 []
index-behind [] a = refl
index-behind (n ∷ p) a = index-behind p a

-- A key by a later name is a later key.
later_first : (a k : Path) (s : List ℕ) → IsPast bytes_cmp (slice_get a 0) s → slice_get k 0 ≡ Some s → key_cmp a k ≡ Less
later_first a [] s past has = absurd (cc has)
later_first [] (y ∷ k) s past has = refl
later_first (x ∷ a) (y ∷ k) s past has =
    let one : y ≡ s = cc has in
    ap (λ r. ordering_then r (key_cmp a k)) (ap (bytes_cmp x) one ∙ past)

not_less : (r : Ordering) → ordering_then Greater r ≡ Less → ⊥
not_less r e = cc e

-- A later key that has another name has a later one.
first_later : (a k : Path) → key_cmp a k ≡ Less → (slice_get a 0 ≡ slice_get k 0 → ⊥) → (0 < length k) × IsPast bytes_cmp (slice_get a 0)
    (slice_index_or k 0 [])
first_later [] [] less other = absurd (other refl)
first_later (x ∷ a) [] less other = absurd (cc less)
first_later [] (y ∷ k) less other = (omega arith, tt)
first_later (x ∷ a) (y ∷ k) less other = (omega arith, by (bytes_cmp x y) refl) where
  by : (r : Ordering) → bytes_cmp x y ≡ r → bytes_cmp x y ≡ Less
  by Less is = is
  by Equal is = absurd (other (ap (λ (n : List ℕ). Some n) (bytes_cmp-IsAntisymmetric x y is)))
  by Greater is = absurd (not_less (key_cmp a k) (ap (λ r. ordering_then r (key_cmp a k)) (sym is) ∙ less))

-- A key that isn't later has no later name.
first_le : (k q : Path) (s t : List ℕ) → slice_get k 0 ≡ Some s → slice_get q 0 ≡ Some t → IsLeBy key_cmp k q → IsLeBy bytes_cmp s t
first_le [] q s t has other low = absurd (cc has)
first_le (x ∷ k) [] s t has other low = absurd (cc other)
first_le (x ∷ k) (y ∷ q) s t has other low =
    let one : x ≡ s = cc has in
    let two : y ≡ t = cc other in
    subst (λ (n : List ℕ). is_gt (bytes_cmp n t) ≡ false) one (subst (λ (n : List ℕ). is_gt (bytes_cmp x n) ≡ false) two (by (bytes_cmp x y) refl))
  where
    by : (r : Ordering) → bytes_cmp x y ≡ r → is_gt (bytes_cmp x y) ≡ false
    by Less is = ap is_gt is
    by Equal is = ap is_gt is
    by Greater is = absurd (cc (sym (ap (λ r. is_gt (ordering_then r (key_cmp k q))) is) ∙ low))

-- The name below a path that a key begins with.
pub name_below-begins : (p k : Path) → is_prefix p k ≡ true → name_below p k ≡ slice_get k (length p)
name_below-begins p k begins = cond-true _ _ _ begins

-- A key that has a name below a path begins with it.
pub begins-name_below : (p k : Path) (s : List ℕ) → name_below p k ≡ Some s → is_prefix p k ≡ true
begins-name_below p k s has = by (is_prefix p k) refl where
  by : (b : Bool) → is_prefix p k ≡ b → is_prefix p k ≡ true
  by true is = is
  by false is = absurd (cc (sym has ∙ ap (λ b. cond b (slice_get k (length p)) None) is))

-- A key by a later name below a path is a later key.
pub key_later : (p a k : Path) (s : List ℕ) → is_prefix p a ≡ true → name_below p k ≡ Some s → IsPast bytes_cmp (name_below p a) s → key_cmp a k ≡ Less
key_later p a k s begins has past =
    let longer : is_prefix p k ≡ true = begins-name_below p k s has in
    let firsts = behind p a begins in
    let seconds = behind p k longer in
    let named : name_below p a ≡ slice_get firsts.0 0 = name_below-begins p a begins ∙ ap (λ (x : Path). slice_get x (length p)) firsts.1
    ∙ get-behind p firsts.0 in
    let first : slice_get seconds.0 0 ≡ Some s = sym (name_below-begins p k longer ∙ ap (λ (x : Path). slice_get x (length p)) seconds.1
    ∙ get-behind p seconds.0) ∙ has in
    ap (λ (x : Path). key_cmp x k) firsts.1 ∙ ap (key_cmp (p ++ firsts.0)) seconds.1 ∙ cmp-behind p firsts.0 seconds.0
    ∙ later_first firsts.0 seconds.0 s (subst (λ (o : Option (List ℕ)). IsPast bytes_cmp o s) named past) first

-- What is said of a key's first name after a path, said of the key.
lifted : (p a k r : Path) (o : Option (List ℕ)) → k ≡ p ++ r → o ≡ slice_get a 0 → (0 < length r) × IsPast bytes_cmp (slice_get a 0) (slice_index_or r 0 [])
    → (length p < length k) × IsPast bytes_cmp o (name_at p k)
lifted p a k r o is named found = (
  omega (arith, ap length is, length-append p r, found.0),
  subst (λ (n : List ℕ). IsPast bytes_cmp o n) (sym (ap (name_at p) is ∙ index-behind p r))
      (subst (λ (x : Option (List ℕ)). IsPast bytes_cmp x (slice_index_or r 0 [])) (sym named) found.1),
)

-- A later key that has another name below a path goes on beyond it, by a later name.
pub name_later : (p a k : Path) → is_prefix p a ≡ true → is_prefix p k ≡ true → key_cmp a k ≡ Less → (slice_get a (length p) ≡ slice_get k (length p) → ⊥)
    → (length p < length k) × IsPast bytes_cmp (name_below p a) (name_at p k)
name_later p a k begins longer less other =
    let firsts = behind p a begins in
    let seconds = behind p k longer in
    let low : key_cmp firsts.0 seconds.0 ≡ Less = sym (cmp-behind p firsts.0 seconds.0)
    ∙ sym (ap (λ (x : Path). key_cmp x k) firsts.1 ∙ ap (key_cmp (p ++ firsts.0)) seconds.1) ∙ less in
    let named : name_below p a ≡ slice_get firsts.0 0 = name_below-begins p a begins ∙ ap (λ (x : Path). slice_get x (length p)) firsts.1
    ∙ get-behind p firsts.0 in
    let apart : slice_get firsts.0 0 ≡ slice_get seconds.0 0 → ⊥ =
    λ same. other (ap (λ (x : Path). slice_get x (length p)) firsts.1 ∙ get-behind p firsts.0 ∙ same
    ∙ sym (ap (λ (x : Path). slice_get x (length p)) seconds.1 ∙ get-behind p seconds.0)) in
    lifted p firsts.0 k seconds.0 (name_below p a) seconds.1 named (first_later firsts.0 seconds.0 low apart)

-- Of two keys that go on beyond a path, one that isn't later has no later name.
pub name_le : (p k q : Path) (s t : List ℕ) → name_below p k ≡ Some s → name_below p q ≡ Some t → IsLeBy key_cmp k q → IsLeBy bytes_cmp s t
name_le p k q s t has other low =
    let longer : is_prefix p k ≡ true = begins-name_below p k s has in
    let along : is_prefix p q ≡ true = begins-name_below p q t other in
    let seconds = behind p k longer in
    let thirds = behind p q along in
    let first : slice_get seconds.0 0 ≡ Some s = sym (name_below-begins p k longer ∙ ap (λ (x : Path). slice_get x (length p)) seconds.1
    ∙ get-behind p seconds.0) ∙ has in
    let second : slice_get thirds.0 0 ≡ Some t = sym (name_below-begins p q along ∙ ap (λ (x : Path). slice_get x (length p)) thirds.1 ∙ get-behind p thirds.0)
    ∙ other in
    first_le seconds.0 thirds.0 s t first second (ap is_gt (sym (cmp-behind p seconds.0 thirds.0)
    ∙ sym (ap (λ (x : Path). key_cmp x q) seconds.1 ∙ ap (key_cmp (p ++ seconds.0)) thirds.1)) ∙ low)

get-index : (k : Path) (n : ℕ) → n < length k → slice_get k n ≡ Some (slice_index_or k n [])
get-index [] n h = absurd (omega arith)
get-index (x ∷ k) zero h = refl
get-index (x ∷ k) (suc n) h = get-index k n (omega arith)

-- The name of a key that goes on beyond a path.
pub name_there : (p k : Path) → is_prefix p k ≡ true → length p < length k → name_below p k ≡ Some (name_at p k)
name_there p k begins longer = name_below-begins p k begins ∙ get-index k (length p) longer
