-- What an opening changes in the live values, and which files that affects.
use Rattle.std.proofs.Common.{◌≡◌, ⊎_elim, ℕ, zero, suc, Bool, true, false, not, ◌&&◌, cond, if◌then◌else◌, List, [], ◌∷◌, ◌++◌, map, filter}
use Rattle.std.proofs.Common.{take, Option, Some, None, is_some, refl, sym, ◌∙◌, ap}
use Rattle.std.specs.Prelude.{unwrap_or, codes}
use Rattle.std.specs.Ordering.{eq_by_cmp}
use Rattle.std.specs.FinMap.{get, insert, contains_key, retain_keys, entries, find, get-insert, get-entries, get-retain_keys}
use Rattle.std.proofs.lemmas.Bool.{and_parts, or_cases}
use Rattle.key_names.specs.Order.{bytes_cmp, key_cmp, key_total, key_cmp-IsAntisymmetric}
use Rattle.key_names.specs.Key.{is_prefix}
use Rattle.json_trees.specs.declared.scalar.Scalar.{Scalar}
use Rattle.settings_tree.specs.Content.{settings_key}
use Rattle.settings_tree.specs.declared.entry.Owed.TheVariants.{Keys}
use Rattle.settings_tree.specs.declared.held.Held.{Held}
use Rattle.settings_maps.specs.KeyList.{has_key}
use Rattle.metadata_links.specs.Links.{files_of}
use Rattle.metadata_links.specs.Nearest.{near, near_len, list_at}
use Rattle.typed_settings.specs.Row.{IsTyped}
use Rattle.settings_machine.specs.World.{Key, Among, Image}
use Rattle.settings_machine.specs.Typed.{is_of_image, HasTypedSettings, IsTypedHeld}
use Rattle.settings_machine.specs.Opening.{Values, is_of_store, filled, opened_values, added_keys, opened_held}
use Rattle.settings_machine.specs.Paid.{IsGood}
use Rattle.settings_machine.proofs.Elements.{key_tied, among_left, among_right, among_both, among_map}
use Rattle.settings_machine.proofs.Elements.{map_among, among_filter, filter_among, among_key, name_tied, entry_among}
use Rattle.settings_machine.proofs.Coverage.{DifferOnlyAt}
use Rattle.settings_machine.proofs.Reached.{of_keys, keys_of}

-- ---- values after an opening

abbrev pub first_some : Option Scalar → Option Scalar → Option Scalar
first_some None other = other
first_some (Some v) other = Some v

none_first : (o : Option Scalar) → first_some o None ≡ o
none_first None = refl
none_first (Some v) = refl

get-filled : (es : List (Key × Scalar)) (m : Values) (q : Key) → get (filled m es) q ≡ first_some (get m q) (find key_cmp q es)
get-filled [] m q = sym (none_first (get m q))
get-filled (e ∷ es) m q =
    get-filled es (if contains_key m e.0 then m else insert m e.0 e.1) q
    ∙ by (contains_key m e.0) refl (eq_by_cmp key_cmp q e.0) refl
  where
    present : (o other more : Option Scalar) → is_some o ≡ true → first_some o other ≡ first_some o more
    present None other more some = absurd (cc some)
    present (Some v) other more some = refl

    absent : (o : Option Scalar) (v : Scalar) → is_some o ≡ false → Some v ≡ first_some o (Some v)
    absent None v none = refl
    absent (Some w) v none = absurd (cc none)

    by : (there : Bool) → contains_key m e.0 ≡ there → (tie : Bool) → eq_by_cmp key_cmp q e.0 ≡ tie
        → first_some (get (if there then m else insert m e.0 e.1) q) (find key_cmp q es) ≡ first_some (get m q) (cond tie (Some e.1) (find key_cmp q es))
    by true is true tie = present (get m q) (find key_cmp q es) (Some e.1) (ap (λ k. is_some (get m k)) (key_tied q e.0 tie) ∙ is)
    by true is false tie = refl
    by false is true tie =
        ap (λ (o : Option Scalar). first_some o (find key_cmp q es)) (get-insert key_total m e.0 e.1 q ∙ ap (λ b. cond b (Some e.1) (get m q)) tie)
        ∙ absent (get m q) e.1 (ap (λ k. is_some (get m k)) (key_tied q e.0 tie) ∙ is)
    by false is false tie =
        ap (λ (o : Option Scalar). first_some o (find key_cmp q es)) (get-insert key_total m e.0 e.1 q ∙ ap (λ b. cond b (Some e.1) (get m q)) tie)

-- What is at a key after an opening.
abbrev pub opened_at : Values → Values → Key → Option Scalar
opened_at defaults live q = if is_of_image q then get defaults q else first_some (get live q) (get defaults q)

pub get-opened : (defaults live : Values) (q : Key) → get (opened_values defaults live) q ≡ opened_at defaults live q
get-opened defaults live q =
    get-filled (entries defaults) (retain_keys live is_of_store) q
    ∙ ap (first_some (get (retain_keys live is_of_store) q)) (sym (get-entries defaults q))
    ∙ ap (λ (o : Option Scalar). first_some o (get defaults q)) (get-retain_keys live is_of_store q
    (λ x tie. ap is_of_store (sym (key_cmp-IsAntisymmetric q x tie))))
    ∙ by (is_of_image q) (get live q) (get defaults q)
  where
    by : (b : Bool) (l d : Option Scalar) → first_some (cond (not b) l None) d ≡ (if b then d else first_some l d)
    by true l d = refl
    by false l d = refl

-- ---- the settings stay typed

pub opened_typed : (I : Image) (held : Held) (boot : Bool) → HasTypedSettings I.types I.defaults → IsTypedHeld I.types held
    → IsTypedHeld I.types (opened_held I held boot)
opened_typed I held boot defaults typed = record {
  settings = record {
    typed = λ key value e not_image. by key value not_image (is_of_image key) not_image
        (sym (get-opened I.defaults.values held.live.values key) ∙ e);
  };
  pending = typed.pending;
} where
  of : (key : Key) (value : Scalar) → is_of_image key ≡ false → (l : Option Scalar) → get held.live.values key ≡ l
      → first_some l (get I.defaults.values key) ≡ Some value → IsTyped I.types key value
  of key value not_image None is e = defaults.typed key value e not_image
  of key value not_image (Some v) is e = typed.settings.typed key value (is ∙ e) not_image

  by : (key : Key) (value : Scalar) → is_of_image key ≡ false → (b : Bool) → b ≡ false
      → (if b then get I.defaults.values key else first_some (get held.live.values key) (get I.defaults.values key)) ≡ Some value → IsTyped I.types key value
  by key value not_image true no' e = absurd (cc no')
  by key value not_image false no' e = of key value not_image (get held.live.values key) refl e

-- ---- where the values differ

-- The entries of services and configuration files.
abbrev pub image_entries : Values → List (Key × Scalar)
image_entries values = filter (λ e. is_of_image e.0) (entries values)

abbrev keys_in : List (Key × Scalar) → List Key
keys_in es = map (λ e. e.0) es

-- The keys at which an opening may change a live value: those of services and files, and the added ones.
abbrev pub opened_keys : Values → Values → List Key
opened_keys defaults live = keys_in (image_entries live) ++ (keys_in (image_entries defaults) ++ added_keys defaults live)

none_of : (p : Key → Bool) (m : Values) (q : Key) → p q ≡ true → (Among (keys_in (filter (λ e. p e.0) (entries m))) q → ⊥) → get m q ≡ None
none_of p m q is no_key = by (get m q) refl where
  by : (o : Option Scalar) → get m q ≡ o → get m q ≡ None
  by None e = e
  by (Some v) e = absurd (no_key (among_map (λ (x : Key × Scalar). x.0) _ (q, v)
      (filter_among (λ (x : Key × Scalar). p x.0) (entries m) (q, v) (entry_among key_cmp-IsAntisymmetric m q v e) is)))

not_among : (keys : List Key) (q : Key) → has_key keys q ≡ false → Among keys q → ⊥
not_among keys q none at = absurd (cc (none, among_key keys q at))

added_none : (defaults live : Values) (q : Key) → is_of_image q ≡ false → (Among (added_keys defaults live) q → ⊥)
    → first_some (get live q) (get defaults q) ≡ get live q
added_none defaults live q not_image not_added = by (get live q) (get defaults q) refl refl where
  by : (l d : Option Scalar) → get live q ≡ l → get defaults q ≡ d → first_some l d ≡ l
  by (Some v) d is_l is_d = refl
  by None None is_l is_d = refl
  by None (Some v) is_l is_d = absurd (not_added (among_map (λ (x : Key × Scalar). x.0) _ (q, v)
      (filter_among (λ (x : Key × Scalar). is_of_store x.0 && not (contains_key live x.0)) (entries defaults) (q, v)
      (entry_among key_cmp-IsAntisymmetric defaults q v is_d)
      (ap (λ b. not b && not (contains_key live q)) not_image ∙ ap (λ (o : Option Scalar). not (is_some o)) is_l))))

pub opened_differs : (I : Image) (held : Held) (boot : Bool) → DifferOnlyAt (opened_keys I.defaults.values held.live.values) held.live
    (opened_held I held boot).live
opened_differs I held boot = record {
  same = λ q none. by q (not_among _ q none) (is_of_image q) refl
      ∙ sym (get-opened I.defaults.values held.live.values q);
} where
  by : (q : Key) → (Among (keys_in (image_entries held.live.values) ++
      (keys_in (image_entries I.defaults.values) ++ added_keys I.defaults.values held.live.values)) q
      → ⊥) → (b : Bool) → is_of_image q ≡ b
      → get held.live.values q ≡ opened_at I.defaults.values held.live.values q
  by q none true is =
      none_of is_of_image held.live.values q is (λ at. none (among_left _ _ q at))
      ∙ sym (none_of is_of_image I.defaults.values q is (λ at. none (among_right (keys_in (image_entries held.live.values)) _ q (among_left _ _ q at))))
      ∙ sym (ap (λ b. if b then get I.defaults.values q else first_some (get held.live.values q) (get I.defaults.values q)) is)
  by q none false is =
      sym (added_none I.defaults.values held.live.values q is
      (λ at. none (among_right (keys_in (image_entries held.live.values)) _ q (among_right (keys_in (image_entries I.defaults.values)) _ q at))))
      ∙ sym (ap (λ b. if b then get I.defaults.values q else first_some (get held.live.values q) (get I.defaults.values q)) is)

-- ---- which files that affects

first_is : (s : List ℕ) (key : Key) → is_prefix (s ∷ []) key ≡ true → (rest : Key) × (key ≡ s ∷ rest)
first_is s [] e = absurd (cc e)
first_is s (a ∷ rest) e = (rest, ap (λ (x : List ℕ). x ∷ rest) (sym (name_tied s a (and_parts (eq_by_cmp bytes_cmp s a) true e).0)))

-- A key of a service or a file begins with no key that has a list.
pub image_apart : (q : Key) (n : ℕ) → is_of_image q ≡ true → is_prefix settings_key (take (suc n) q) ≡ true → ⊥
image_apart [] n is begins = cc begins
image_apart (a ∷ rest) n is begins =
    let t = first_is (codes "settings") (a ∷ take n rest) begins in
    ⊎_elim (λ one. let u = first_is (codes "services") (a ∷ rest) one in apart_one (first_of t.1) (first_of u.1))
    (λ other. let u = first_is (codes "configuration-files") (a ∷ rest) other in apart_two (first_of t.1) (first_of u.1))
    (or_cases _ _ is)
  where
    first_of : {x y : List ℕ} {xs ys : Key} → x ∷ xs ≡ y ∷ ys → x ≡ y
    first_of e = cc

    apart_one : a ≡ codes "settings" → a ≡ codes "services" → ⊥
    apart_one p q = cc

    apart_two : a ≡ codes "settings" → a ≡ codes "configuration-files" → ⊥
    apart_two p q = cc

module _ (I : Image) (good : IsGood I) where
  near_none : (q : Key) → is_of_image q ≡ true → (service : List ℕ) → Among (near I.manifest.index q) service → ⊥
  near_none q is service at = by (near_len I.manifest.index q) at where
    here : (n : ℕ) (o : Option (List (List ℕ))) → get I.manifest.index (take (suc n) q) ≡ o → Among (unwrap_or o []) service → ⊥
    here n None e at = at
    here n (Some list) e at = image_apart q n is (good.listed (take (suc n) q) (ap is_some e))

    by : (n : ℕ) → Among (list_at I.manifest.index q n) service → ⊥
    by zero at = at
    by (suc n) at = here n (get I.manifest.index (take (suc n) q)) refl at

  image_key : (m : Values) (q : Key) → Among (keys_in (image_entries m)) q → is_of_image q ≡ true
  image_key m q at =
      let t = map_among (λ (x : Key × Scalar). x.0) (image_entries m) q at in
      ap is_of_image t.2 ∙ (among_filter (λ (x : Key × Scalar). is_of_image x.0) (entries m) t.0 t.1).1

  -- The files of the keys at which an opening may change a value are those of the added keys.
  pub opened_files : (defaults live : Values) (f : List ℕ) → Among (files_of I.manifest (Keys (opened_keys defaults live))) f
      → Among (files_of I.manifest (Keys (added_keys defaults live))) f
  opened_files defaults live f at =
      let t = of_keys I.manifest (opened_keys defaults live) f at in
      ⊎_elim (λ one. absurd (near_none t.0 (image_key live t.0 one) t.2.service t.2.named))
      (λ more. ⊎_elim (λ two. absurd (near_none t.0 (image_key defaults t.0 two) t.2.service t.2.named))
      (λ added. keys_of I.manifest (added_keys defaults live) f t.0 added t.2)
      (among_both (keys_in (image_entries defaults)) _ t.0 more))
      (among_both (keys_in (image_entries live)) _ t.0 t.1)
