-- The files for which a change is rendered again.
use Rattle.std.proofs.Common.{◌≡◌, ◌⊎◌, ℕ, List, [], ◌∷◌, ◌++◌, fold, Bool, true, false, cond, Some, unwrap_or, refl, sym, ◌∙◌, ap, subst, inl, inr}
use Rattle.std.specs.Prelude.{Contains, filter, if◌then◌else◌}
use Rattle.std.specs.List.{flat_map, list_any}
use Rattle.std.specs.Str.{bytes_eq}
use Rattle.std.specs.Ordering.{eq_by_cmp}
use Rattle.std.specs.FinMap.{get, keys, entries, contains_key-keys}
use Rattle.std.proofs.lemmas.List.Elements.{Contains-append_left, Contains-append_right, Contains-append_cases}
use Rattle.std.proofs.lemmas.Slice.Eq.{bytes_eq-Decides}
use Rattle.std.proofs.lemmas.Map.Views.{Contains-from_any, list_any-from_Contains}
use Rattle.key_names.specs.Order.{bytes_cmp, bytes_total, bytes_equal, bytes_cmp-IsAntisymmetric}
use Rattle.settings_maps.proofs.NestedMaps.{tied_by}
use Rattle.settings_tree.specs.declared.entry.Owed.TheVariants.{All, Keys}
use Rattle.metadata_links.specs.Commands.{listing}
use Rattle.metadata_links.specs.Faults.{has_name}
use Rattle.metadata_links.specs.Links.{files_of, service_named, listed, services_of, no_service}
use Rattle.metadata_links.specs.Nearest.{near, aff}
use Rattle.metadata_links.specs.Rising.{rising, set_of}
use Rattle.metadata_links.specs.declared.manifest.Manifest.{Manifest}
use Rattle.metadata_links.specs.declared.service.Service.{Service}
use Rattle.metadata_links.proofs.Sets.{contains-set_of}
use Rattle.template_eval.specs.Place.{Path}
use Rattle.depend_check.proofs.Members.{first_member, later_member, member_cases, no_member, in_flat, of_flat, in_map, of_map, of_filter, get-member}

same_bytes : (x y : List ℕ) → eq_by_cmp bytes_cmp x y ≡ true → x ≡ y
same_bytes x y is = bytes_cmp-IsAntisymmetric x y (tied_by (bytes_cmp x y) is)

-- ---- names

pub has_member : (names : List (List ℕ)) (name : List ℕ) → Contains names name → has_name names name ≡ true
has_member names name among = list_any-from_Contains bytes_equal name names among

pub member_had : (names : List (List ℕ)) (name : List ℕ) → has_name names name ≡ true → Contains names name
member_had names name has = Contains-from_any same_bytes name names has

-- The names of a list, rising, are those of the list.
has_rising : (names : List (List ℕ)) (name : List ℕ) → has_name (rising names) name ≡ has_name names name
has_rising names name = sym (contains_key-keys (set_of names) name) ∙ contains-set_of names name

pub in_rising : (names : List (List ℕ)) (name : List ℕ) → Contains names name → Contains (rising names) name
in_rising names name among = member_had (rising names) name (has_rising names name ∙ has_member names name among)

pub of_rising : (names : List (List ℕ)) (name : List ℕ) → Contains (rising names) name → Contains names name
of_rising names name among = member_had names name (sym (has_rising names name) ∙ has_member (rising names) name among)

-- ---- first occurrences

-- The names with one more, unless it is among them.
abbrev with_name : List (List ℕ) → List ℕ → List (List ℕ)
with_name names name = if list_any (bytes_eq name) names then names else names ++ name ∷ []

equal_bytes : (x y : List ℕ) → bytes_eq x y ≡ true → x ≡ y
equal_bytes x y is = (bytes_eq-Decides x y).0 is

had_before : (names : List (List ℕ)) (name : List ℕ) → list_any (bytes_eq name) names ≡ true → Contains names name
had_before names name has = Contains-from_any equal_bytes name names has

with_old : (b : Bool) (names : List (List ℕ)) (name file : List ℕ) → Contains names file → Contains (cond b names (names ++ name ∷ [])) file
with_old true names name file among = among
with_old false names name file among = Contains-append_left names (name ∷ []) file among

with_new : (b : Bool) (names : List (List ℕ)) (name : List ℕ) → list_any (bytes_eq name) names ≡ b → Contains (cond b names (names ++ name ∷ [])) name
with_new true names name is = had_before names name is
with_new false names name is = Contains-append_right names (name ∷ []) name (first_member name [])

of_with : (b : Bool) (names : List (List ℕ)) (name file : List ℕ) → Contains (cond b names (names ++ name ∷ [])) file → Contains names file ⊎ (name ≡ file)
of_with true names name file among = inl among
of_with false names name file among = by (Contains-append_cases names (name ∷ []) file among) where
  by_one : (name ≡ file) ⊎ Contains [] file → Contains names file ⊎ (name ≡ file)
  by_one (inl same) = inr same
  by_one (inr none) = absurd (no_member file none)

  by : Contains names file ⊎ Contains (name ∷ []) file → Contains names file ⊎ (name ≡ file)
  by (inl there) = inl there
  by (inr one) = by_one (member_cases name file [] one)

pub fold_old : (done names : List (List ℕ)) (file : List ℕ) → Contains done file → Contains (fold with_name done names) file
fold_old done [] file among = among
fold_old done (name ∷ names) file among = fold_old (with_name done name) names file (with_old (list_any (bytes_eq name) done) done name file among)

pub in_fold : (done names : List (List ℕ)) (file : List ℕ) → Contains names file → Contains (fold with_name done names) file
in_fold done [] file among = absurd (no_member file among)
in_fold done (name ∷ names) file among = by (member_cases name file names among) (in_fold (with_name done name) names file) where
  by : (name ≡ file) ⊎ Contains names file → (Contains names file → Contains (fold with_name (with_name done name) names) file)
      → Contains (fold with_name (with_name done name) names) file
  by (inl one) rest = fold_old (with_name done name) names file (subst (λ z. Contains (with_name done name) z) one
      (with_new (list_any (bytes_eq name) done) done name refl))
  by (inr later) rest = rest later

pub of_fold : (done names : List (List ℕ)) (file : List ℕ) → Contains (fold with_name done names) file → Contains done file ⊎ Contains names file
of_fold done [] file among = inl among
of_fold done (name ∷ names) file among = by (of_fold (with_name done name) names file among) where
  new : Contains done file ⊎ (name ≡ file) → Contains done file ⊎ Contains (name ∷ names) file
  new (inl old) = inl old
  new (inr one) = inr (subst (λ z. Contains (name ∷ names) z) one (first_member name names))

  by : Contains (with_name done name) file ⊎ Contains names file → Contains done file ⊎ Contains (name ∷ names) file
  by (inl there) = new (of_with (list_any (bytes_eq name) done) done name file there)
  by (inr later) = inr (later_member name file names later)

-- ---- services

-- A service that lists a file is one of the manifest, and the file is among its files.
pub service_lists : (m : Manifest) (file service : List ℕ) → Contains (services_of m file) service → Contains (service_named m service).files file
service_lists m file service among =
    let found = of_map (λ (e : List ℕ × Service). e.0) (filter (λ (e : List ℕ × Service). has_name e.1.files file) (entries m.services)) service among in
    let kept = of_filter (λ (e : List ℕ × Service). has_name e.1.files file) (entries m.services) found.0 found.1 in
    let there : get m.services service ≡ Some found.0.1 = ap (get m.services) (sym found.2) ∙ get-member bytes_total m.services found.0 kept.0 in
    subst (λ (s : Service). Contains s.files file) (sym (ap (λ o. unwrap_or o no_service) there)) (member_had found.0.1.files file kept.1)

-- And the service is among the keys.
known_service : (m : Manifest) (file service : List ℕ) → Contains (services_of m file) service → Contains (keys m.services) service
known_service m file service among =
    let found = of_map (λ (e : List ℕ × Service). e.0) (filter (λ (e : List ℕ × Service). has_name e.1.files file) (entries m.services)) service among in
    let kept = of_filter (λ (e : List ℕ × Service). has_name e.1.files file) (entries m.services) found.0 found.1 in
    subst (λ s. Contains (keys m.services) s) found.2 (in_map (λ (e : List ℕ × Service). e.0) (entries m.services) found.0 kept.0)

-- ---- files

-- What is rendered again for some keys is so for one of them.
pub record IsRenderedFor (m : Manifest) (file : List ℕ) (owed : List Path) : Type 0 where
  pub key : Path
  pub service : List ℕ
  pub owes : Contains owed key
  pub named : Contains (near m.index key) service
  pub lists : Contains (service_named m service).files file

pub rendered_key : (m : Manifest) (file : List ℕ) (owed : List Path) → Contains (files_of m (Keys owed)) file → IsRenderedFor m file owed
rendered_key m file owed among = by (of_fold [] (listed m (aff m.index owed) ++ []) file among) where
  from : Contains (listed m (aff m.index owed)) file → IsRenderedFor m file owed
  from listing =
      let service = of_flat (λ name. (service_named m name).files) (aff m.index owed) file listing in
      let key = of_flat (λ k. near m.index k) owed service.0 (of_rising (flat_map (λ k. near m.index k) owed) service.0 service.1) in
      record { key = key.0; service = service.0; owes = key.1; named = key.2; lists = service.2 }

  of_listed : Contains (listed m (aff m.index owed)) file ⊎ Contains [] file → IsRenderedFor m file owed
  of_listed (inl listing) = from listing
  of_listed (inr none) = absurd (no_member file none)

  by : Contains [] file ⊎ Contains (listed m (aff m.index owed) ++ []) file → IsRenderedFor m file owed
  by (inl none) = absurd (no_member file none)
  by (inr later) = of_listed (Contains-append_cases (listed m (aff m.index owed)) [] file later)

-- And what is so for one of them is so for all.
pub key_rendered : (m : Manifest) (file : List ℕ) (owed : List Path) → IsRenderedFor m file owed → Contains (files_of m (Keys owed)) file
key_rendered m file owed r =
    let affects : Contains (aff m.index owed) r.service = in_rising (flat_map (λ k. near m.index k) owed) r.service
    (in_flat (λ k. near m.index k) owed r.key r.service r.owes r.named) in
    let is_listed : Contains (listed m (aff m.index owed)) file = in_flat (λ name. (service_named m name).files) (aff m.index owed) r.service file affects
    r.lists in
    in_fold [] (listed m (aff m.index owed) ++ []) file (Contains-append_left (listed m (aff m.index owed)) [] file is_listed)

-- So more keys render no file less.
pub rendered_more : (m : Manifest) (file : List ℕ) (owed more : List Path) → ((key : Path) → Contains owed key → Contains more key)
    → Contains (files_of m (Keys owed)) file → Contains (files_of m (Keys more)) file
rendered_more m file owed more each among =
    let r = rendered_key m file owed among in
    key_rendered m file more (record { key = r.key; service = r.service; owes = each r.key r.owes; named = r.named; lists = r.lists })

-- A file is rendered again for a key where a service that lists it is in the list nearest to the key.
pub rendered_for : (m : Manifest) (file service : List ℕ) (key : Path) (owed : List Path) → Contains owed key → Contains (near m.index key) service
    → Contains (services_of m file) service → Contains (files_of m (Keys owed)) file
rendered_for m file service key owed owes named lists = key_rendered m file owed
    (record { key = key; service = service; owes = owes; named = named; lists = service_lists m file service lists })

-- Where all is owed, each file that some service lists is rendered.
pub rendered_all : (m : Manifest) (file service : List ℕ) → Contains (services_of m file) service → Contains (files_of m All) file
rendered_all m file service lists =
    let service_is : Contains (keys m.services) service = known_service m file service lists in
    let is_listed : Contains (listed m (keys m.services)) file = in_flat (λ name. (service_named m name).files) (keys m.services) service file service_is
    (service_lists m file service lists) in
    in_fold [] (listed m (keys m.services) ++ keys m.files) file (Contains-append_left (listed m (keys m.services)) (keys m.files) file is_listed)
