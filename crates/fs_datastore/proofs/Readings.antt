-- One more file that is read, and one that is refused.
use Rattle.std.proofs.Common.{◌≡◌, ℕ, List, slice_index_or, Option, Some, None, Ok, Bool, refl, sym, subst}
use Rattle.std.specs.Prelude.{IsTrue, All, MatchOption, ⊤}
use Rattle.std.specs.FinMap.{FinMap, insert}
use Rattle.std.proofs.lemmas.Bool.{and_parts}
use Rattle.outside.specs.Tree.{file}
use Rattle.commit_journal.specs.Files.{Files, with_node}
use Rattle.key_names.specs.Order.{key_cmp, key_total, bytes_cmp, bytes_total}
use Rattle.key_names.specs.Key.{is_key}
use Rattle.json_trees.specs.declared.scalar.Scalar.{Scalar}
use Rattle.json_trees.specs.declared.pending.Pending.{Pending}
use Rattle.settings_maps.specs.Maps.{inner, with_value}
use Rattle.settings_maps.specs.TxName.{is_meta_name}
use Rattle.settings_maps.proofs.NestedMaps.{full_with}
use Rattle.settings_tree.specs.Change.{Place}
use Rattle.settings_tree.specs.Change.{Live, Meta, Pend, TheOwed, TheImage, TheWeak}
use Rattle.settings_tree.specs.Content.{MayBeWeak}
use Rattle.settings_tree.specs.Rule as rule
use Rattle.settings_tree.specs.declared.entry.Owed.{Owed}
use Rattle.settings_tree.proofs.Contents.{named_with}
use Rattle.settings_tree.proofs.PendingMaps.{put_pending}
use Rattle.settings_tree.proofs.PrefixRule.{put_free}
use Rattle.fs_datastore.specs.Places.{path_of, is_place}
use Rattle.fs_datastore.specs.Values.{Value, live, pending, owed, image, weak, Spells}
use Rattle.fs_datastore.specs.Stands.{Shows}
use Rattle.fs_datastore.specs.Batches as written
use Rattle.fs_datastore.specs.FoundFiles.{what_found, KeepsRules, Says}
use Rattle.fs_datastore.specs.declared.found.Found.{Found}
use Rattle.fs_datastore.proofs.Showing.{shows_with, shows_alike}
use Rattle.fs_datastore.proofs.Put.{put_at, put_in}
use Rattle.settings_tree.proofs.Contents.{weak_put}

-- ---- what may be weak stays so

all_weak : (m : FinMap key_cmp Scalar) (k : List (List ℕ)) (v : Scalar) (listed : Option (List (List (List ℕ))))
    → MatchOption listed ⊤ (λ keys. All (MayBeWeak m) keys) → MatchOption listed ⊤ (λ keys. All (MayBeWeak (insert m k v)) keys)
all_weak m k v None may = tt
all_weak m k v (Some keys) may = λ i d low. weak_put m k v (slice_index_or keys i d) (may i d low)

-- ---- the rules

pub value_rules : (f : Found) (k : List (List ℕ)) (v : Scalar) (now : FinMap key_cmp Scalar) → rule.Fits f.values k → now ≡ insert f.values k v → KeepsRules f
    → KeepsRules (record f { values = now })
value_rules f k v now fits is rules = subst (λ (m : FinMap key_cmp Scalar). KeepsRules (record f { values = m })) (sym is)
    (record {
      free = put_free f.values k v rules.free fits;
      full = rules.full;
      named = rules.named;
      pending = rules.pending;
      weak =
          all_weak f.values k v f.weak rules.weak;
    })

pub meta_rules : (f : Found) (k : List (List ℕ)) (name : List ℕ) (v : Scalar) (now : FinMap key_cmp (FinMap bytes_cmp Scalar)) → IsTrue (is_place (Meta k name))
    → now ≡ with_value f.metadata k name v → KeepsRules f → KeepsRules (record f { metadata = now })
meta_rules f k name v now valid is rules = subst (λ (m : FinMap key_cmp (FinMap bytes_cmp Scalar)). KeepsRules (record f { metadata = m })) (sym is)
    (record {
      free = rules.free;
      full = full_with key_total bytes_total f.metadata k name v rules.full;
      named = named_with f.metadata rules.named k name v (and_parts (is_key k) (is_meta_name name) valid).1;
      pending = rules.pending;
      weak = rules.weak;
    })

pub pending_rules : (f : Found) (tx : List ℕ) (k : List (List ℕ)) (v : Pending) (now : FinMap bytes_cmp (FinMap key_cmp Pending))
    → rule.Fits (inner f.pending tx) k → now ≡ with_value f.pending tx k v → KeepsRules f → KeepsRules (record f { pending = now })
pending_rules f tx k v now fits is rules = subst (λ (m : FinMap bytes_cmp (FinMap key_cmp Pending)). KeepsRules (record f { pending = m })) (sym is)
    (record {
      free = rules.free;
      full = rules.full;
      named = rules.named;
      pending = put_pending f.pending f.pending refl rules.pending {T = Unit {0}} {E = Unit {0}} (Ok tt) tx k v (with_value f.pending tx k v) fits refl tt;
      weak = rules.weak;
    })

pub owed_rules : (f : Found) (o : Owed) → KeepsRules f → KeepsRules (record f { owed = Some o })
owed_rules f o rules = record { free = rules.free; full = rules.full; named = rules.named; pending = rules.pending; weak = rules.weak }

pub image_rules : (f : Found) (t : List ℕ) → KeepsRules f → KeepsRules (record f { image = Some t })
image_rules f t rules = record { free = rules.free; full = rules.full; named = rules.named; pending = rules.pending; weak = rules.weak }

pub weak_rules : (f : Found) (ks : List (List (List ℕ))) → All (MayBeWeak f.values) ks → KeepsRules f → KeepsRules (record f { weak = Some ks })
weak_rules f ks may rules = record { free = rules.free; full = rules.full; named = rules.named; pending = rules.pending; weak = may }

-- ---- one more file

module _ (f : Found) (others : Files) (bytes : List ℕ) (says : Says others f) where
  more : (p : Place) → IsTrue (is_place p) → (v : Value) → Spells bytes v → (g : Found) → g.told ≡ f.told
      → ((q : Place) → written.with_value (what_found f) p (Some v) q ≡ what_found g q) → KeepsRules g
      → Says (with_node others (path_of p) (Some (file bytes))) g
  more p valid v spelled g told alike rules = record {
    shows = subst (λ (t : Bool). Shows (with_node others (path_of p) (Some (file bytes))) (what_found g) t) (sym told)
        (shows_alike (with_node others (path_of p) (Some (file bytes))) (written.with_value (what_found f) p (Some v)) (what_found g) f.told alike
        (shows_with others p valid (Some (file bytes)) (what_found f) f.told (Some v) says.shows (bytes, refl, spelled)));
    rules = rules;
  }

  pub value_read : (k : List (List ℕ)) (v : Scalar) (now : FinMap key_cmp Scalar) → IsTrue (is_key k) → Spells bytes (live v) → rule.Fits f.values k
      → now ≡ insert f.values k v → Says (with_node others (path_of (Live k)) (Some (file bytes))) (record f { values = now })
  value_read k v now valid spelled fits is = subst (λ (m : FinMap key_cmp Scalar). Says (with_node others (path_of (Live k)) (Some (file bytes)))
      (record f { values = m })) (sym is)
      (more (Live k) valid (live v) spelled (record f { values = insert f.values k v }) refl alike
      (value_rules f k v (insert f.values k v) fits refl says.rules))
    where
      alike : (q : Place) → written.with_value (what_found f) (Live k) (Some (live v)) q ≡ what_found (record f { values = insert f.values k v }) q
      alike (Live q) = sym (put_at key_total live f.values k q v)
      alike (Meta q n) = refl
      alike (Pend t q) = refl
      alike TheOwed = refl
      alike TheImage = refl
      alike TheWeak = refl

  pub meta_read : (k : List (List ℕ)) (name : List ℕ) (v : Scalar) (now : FinMap key_cmp (FinMap bytes_cmp Scalar)) → IsTrue (is_place (Meta k name))
      → Spells bytes (live v) → now ≡ with_value f.metadata k name v → Says (with_node others (path_of (Meta k name)) (Some (file bytes)))
      (record f { metadata = now })
  meta_read k name v now valid spelled is = subst (λ (m : FinMap key_cmp (FinMap bytes_cmp Scalar)). Says
      (with_node others (path_of (Meta k name)) (Some (file bytes))) (record f { metadata = m })) (sym is)
      (more (Meta k name) valid (live v) spelled (record f { metadata = with_value f.metadata k name v }) refl alike
      (meta_rules f k name v (with_value f.metadata k name v) valid refl says.rules))
    where
      alike : (q : Place) → written.with_value (what_found f) (Meta k name) (Some (live v)) q ≡ what_found
          (record f { metadata = with_value f.metadata k name v }) q
      alike (Live q) = refl
      alike (Meta q n) = sym (put_in key_total bytes_total live f.metadata k q name n v)
      alike (Pend t q) = refl
      alike TheOwed = refl
      alike TheImage = refl
      alike TheWeak = refl

  pub pending_read : (tx : List ℕ) (k : List (List ℕ)) (v : Pending) (now : FinMap bytes_cmp (FinMap key_cmp Pending)) → IsTrue (is_place (Pend tx k))
      → Spells bytes (pending v) → rule.Fits (inner f.pending tx) k → now ≡ with_value f.pending tx k v
      → Says (with_node others (path_of (Pend tx k)) (Some (file bytes))) (record f { pending = now })
  pending_read tx k v now valid spelled fits is = subst (λ (m : FinMap bytes_cmp (FinMap key_cmp Pending)). Says
      (with_node others (path_of (Pend tx k)) (Some (file bytes))) (record f { pending = m })) (sym is)
      (more (Pend tx k) valid (pending v) spelled (record f { pending = with_value f.pending tx k v }) refl alike
      (pending_rules f tx k v (with_value f.pending tx k v) fits refl says.rules))
    where
      alike : (q : Place) → written.with_value (what_found f) (Pend tx k) (Some (pending v)) q ≡ what_found (record f { pending = with_value f.pending tx k v })
          q
      alike (Live q) = refl
      alike (Meta q n) = refl
      alike (Pend t q) = sym (put_in bytes_total key_total pending f.pending tx t k q v)
      alike TheOwed = refl
      alike TheImage = refl
      alike TheWeak = refl

  pub owed_read : (o : Owed) → Spells bytes (owed o) → Says (with_node others (path_of TheOwed) (Some (file bytes))) (record f { owed = Some o })
  owed_read o spelled = more TheOwed refl (owed o) spelled (record f { owed = Some o }) refl alike (owed_rules f o says.rules) where
    alike : (q : Place) → written.with_value (what_found f) TheOwed (Some (owed o)) q ≡ what_found (record f { owed = Some o }) q
    alike (Live q) = refl
    alike (Meta q n) = refl
    alike (Pend t q) = refl
    alike TheOwed = refl
    alike TheImage = refl
    alike TheWeak = refl

  pub image_read : (t : List ℕ) → t ≡ bytes → Says (with_node others (path_of TheImage) (Some (file bytes))) (record f { image = Some t })
  image_read t is = more TheImage refl (image t) (sym is) (record f { image = Some t }) refl alike (image_rules f t says.rules) where
    alike : (q : Place) → written.with_value (what_found f) TheImage (Some (image t)) q ≡ what_found (record f { image = Some t }) q
    alike (Live q) = refl
    alike (Meta q n) = refl
    alike (Pend u q) = refl
    alike TheOwed = refl
    alike TheImage = refl
    alike TheWeak = refl

  pub weak_read : (ks : List (List (List ℕ))) → Spells bytes (weak ks) → All (MayBeWeak f.values) ks
      → Says (with_node others (path_of TheWeak) (Some (file bytes))) (record f { weak = Some ks })
  weak_read ks spelled may = more TheWeak refl (weak ks) spelled (record f { weak = Some ks }) refl alike (weak_rules f ks may says.rules) where
    alike : (q : Place) → written.with_value (what_found f) TheWeak (Some (weak ks)) q ≡ what_found (record f { weak = Some ks }) q
    alike (Live q) = refl
    alike (Meta q n) = refl
    alike (Pend u q) = refl
    alike TheOwed = refl
    alike TheImage = refl
    alike TheWeak = refl
