-- Which files are those of owed keys.
use Rattle.std.proofs.Common.{◌≡◌, ⊎_elim, ℕ, Bool, true, false, ◌||◌, List, [], ◌++◌, filter, Option, Some, None, is_some, refl, sym, ◌∙◌, ap, subst}
use Rattle.std.specs.Prelude.{unwrap_or}
use Rattle.std.specs.FinMap.{get, keys, entries}
use Rattle.std.specs.List.{flat_map}
use Rattle.std.proofs.lemmas.Bool.{or_left, or_right}
use Rattle.settings_tree.specs.declared.entry.Owed.{Owed}
use Rattle.settings_tree.specs.declared.entry.Owed.TheVariants.{All, Keys}
use Rattle.settings_maps.specs.KeyList.{has_key, joined}
use Rattle.pending_tx.specs.Transactions.{owing}
use Rattle.settings_maps.proofs.Merged.{has_key-merged}
use Rattle.metadata_links.specs.Faults.{has_name}
use Rattle.metadata_links.specs.Nearest.{near}
use Rattle.metadata_links.specs.Links.{affected, service_named, no_service, listed, files_of, services_of}
use Rattle.metadata_links.specs.declared.manifest.Manifest.{Manifest}
use Rattle.metadata_links.specs.declared.service.Service.{Service}
use Rattle.settings_machine.specs.World.{Key, Among}
use Rattle.settings_machine.specs.Paid.{IsWithin}
use Rattle.settings_machine.proofs.Elements.{among_left, among_both, among_filter, map_among, among_flat}
use Rattle.settings_machine.proofs.Elements.{flat_among, key_among, among_key, name_among, rising_among}
use Rattle.settings_machine.proofs.Elements.{among_rising, firsts_among, among_firsts, named_among, entry_stands, name_itself}
use Rattle.key_names.specs.Order.{bytes_cmp-IsAntisymmetric}

-- A file is one of a key's: a service that the key's nearest list names lists it.
pub record IsOfKey (m : Manifest) (k : Key) (f : List ℕ) : Type 0 where
  pub service : List ℕ
  pub named : Among (near m.index k) service
  pub lists : Among (service_named m service).files f

module _ (m : Manifest) where
  -- The files of some keys are those of one of them.
  pub of_keys : (ks : List Key) (f : List ℕ) → Among (files_of m (Keys ks)) f → (k : Key) × Among ks k × IsOfKey m k f
  of_keys ks f at = ⊎_elim (λ by_service.
      let s = flat_among (λ (name : List ℕ). (service_named m name).files) (affected m (Keys ks)) f by_service in
      let k = flat_among (near m.index) ks s.0 (rising_among (flat_map (near m.index) ks) s.0 s.1) in
      (k.0, k.1, record { service = s.0; named = k.2; lists = s.2 }))
      (λ more. absurd more)
      (among_both (listed m (affected m (Keys ks))) [] f (firsts_among (listed m (affected m (Keys ks)) ++ []) f at))

  -- And those of each of them.
  pub keys_of : (ks : List Key) (f : List ℕ) (k : Key) → Among ks k → IsOfKey m k f → Among (files_of m (Keys ks)) f
  keys_of ks f k at is = among_firsts _ f (among_left (listed m (affected m (Keys ks))) [] f
      (among_flat (λ (name : List ℕ). (service_named m name).files) (affected m (Keys ks)) is.service f
      (among_rising (flat_map (near m.index) ks) is.service (among_flat (near m.index) ks k is.service at is.named)) is.lists))

  -- Only a service that is there lists files.
  lists_known : (s : List ℕ) (f : List ℕ) → Among (service_named m s).files f → is_some (get m.services s) ≡ true
  lists_known s f at = by (get m.services s) at where
    by : (o : Option Service) → Among (unwrap_or o no_service).files f → is_some o ≡ true
    by None at = absurd at
    by (Some service) at = refl

  -- A file that some service lists is one of all.
  pub listed_all : (s : List ℕ) (f : List ℕ) → Among (service_named m s).files f → Among (files_of m All) f
  listed_all s f at = among_firsts _ f (among_left (listed m (keys m.services)) (keys m.files) f
      (among_flat (λ (name : List ℕ). (service_named m name).files) (keys m.services) s f (named_among m.services s (lists_known s f at)) at))

  -- The files of what is owed are among all files.
  pub owed_all : (o : Owed) (f : List ℕ) → Among (files_of m o) f → Among (files_of m All) f
  owed_all All f at = at
  owed_all (Keys ks) f at = let t = of_keys ks f at in listed_all t.2.service f t.2.lists

  -- More keys have more files.
  pub more_files : (ks ls : List Key) (f : List ℕ) → ((k : Key) → has_key ks k ≡ true → has_key ls k ≡ true) → Among (files_of m (Keys ks)) f
      → Among (files_of m (Keys ls)) f
  more_files ks ls f more at = let t = of_keys ks f at in keys_of ls f t.0 (key_among ls t.0 (more t.0 (among_key ks t.0 t.1))) t.2

  -- What is owed with more keys has the files of what was owed,
  pub owing_old : (o : Owed) (ks : List Key) (f : List ℕ) → Among (files_of m o) f → Among (files_of m (owing o ks)) f
  owing_old All ks f at = at
  owing_old (Keys os) ks f at = more_files os (joined os ks) f (λ k is. has_key-merged k os ks ∙ or_left (has_key os k) (has_key ks k) is) at

  -- and those of the keys.
  pub owing_new : (o : Owed) (ks : List Key) (f : List ℕ) → Among (files_of m (Keys ks)) f → Among (files_of m (owing o ks)) f
  owing_new All ks f at = owed_all (Keys ks) f at
  owing_new (Keys os) ks f at = more_files ks (joined os ks) f (λ k is. has_key-merged k os ks ∙ or_right (has_key os k) (has_key ks k) is) at

  -- A service that is said to list a file lists it.
  pub service_lists : (f s : List ℕ) → Among (services_of m f) s → Among (service_named m s).files f
  service_lists f s at =
      let e = map_among (λ (x : List ℕ × Service). x.0) (filter (λ (x : List ℕ × Service). has_name x.1.files f) (entries m.services)) s at in
      let t = among_filter (λ (x : List ℕ × Service). has_name x.1.files f) (entries m.services) e.0 e.1 in
      by e.0 t.0 t.1 e.2
    where
      by : (x : List ℕ × Service) → Among (entries m.services) x → has_name x.1.files f ≡ true → s ≡ x.0 → Among (service_named m s).files f
      by x among has is = subst (λ (n : List ℕ). Among (service_named m n).files f) (sym is)
          (subst (λ (o : Option Service). Among (unwrap_or o no_service).files f)
          (sym (entry_stands bytes_cmp-IsAntisymmetric m.services x.0 x.1 (name_itself x.0) among))
          (name_among x.1.files f has))

-- Noted keys that are owed are owed with more keys.
pub within_owing : (since ks : List Key) (o : Owed) → IsWithin since o → IsWithin (joined since ks) (owing o ks)
within_owing since ks All within = tt
within_owing since ks (Keys os) within = λ k is. has_key-merged k os ks ∙ by (has_key since k) (has_key os k) (has_key ks k) (within k)
    (sym (has_key-merged k since ks) ∙ is)
  where
    by : (a b c : Bool) → (a ≡ true → b ≡ true) → (a || c) ≡ true → (b || c) ≡ true
    by true b c more e = ap (λ x. x || c) (more refl)
    by false true c more e = refl
    by false false c more e = e
