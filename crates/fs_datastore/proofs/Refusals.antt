-- Files that are refused may not come after the others.
use Rattle.std.proofs.Common.{◌≡◌, ℕ, List, slice_index_or, Option, Some, None, IsSome, Bool, false, refl, sym, ◌∙◌, subst, option_map}
use Rattle.std.specs.Prelude.{IsTrue, All}
use Rattle.std.specs.FinMap.{get}
use Rattle.std.proofs.lemmas.Bool.{false≢true}
use Rattle.commit_journal.specs.Files.{Files}
use Rattle.key_names.specs.Key.{is_prefix}
use Rattle.json_trees.specs.declared.scalar.Scalar.{Scalar}
use Rattle.json_trees.specs.declared.pending.Pending.{Pending}
use Rattle.settings_maps.specs.Maps.{inner}
use Rattle.settings_tree.specs.Change.{Place}
use Rattle.settings_tree.specs.Change.{Live, Pend, TheOwed, TheWeak}
use Rattle.settings_tree.specs.Content.{MayBeWeak, settings_key}
use Rattle.settings_tree.specs.Rule.{Clashes}
use Rattle.settings_tree.specs.declared.entry.Owed.{Owed}
use Rattle.fs_datastore.specs.Values.{Value, live, pending, owed, image, weak, Spells, is_for}
use Rattle.fs_datastore.specs.Stands.{node_of, IsFileOf}
use Rattle.fs_datastore.specs.Damage.{Takes, HaveFiles}
use Rattle.fs_datastore.specs.FoundFiles.{what_found, Says}
use Rattle.fs_datastore.specs.declared.found.Found.{Found}
use Rattle.fs_datastore.proofs.Sound.{none_shown}
use Rattle.fs_datastore.proofs.Spelled.{spells_one}

-- bytes that spell no value of the place's kind

pub no_live : (others : Files) (p : Place) (bytes : List ℕ) → ((v : Value) → IsTrue (is_for p v) → Spells bytes v → ⊥) → Takes others p bytes → ⊥
no_live others p bytes none t = none t.value t.kind t.spelled

pub no_pending : (bytes : List ℕ) (t : List ℕ) (k : List (List ℕ)) → ((p : Pending) → Spells bytes (pending p) → ⊥) → (v : Value) → IsTrue (is_for (Pend t k) v)
    → Spells bytes v → ⊥
no_pending bytes t k none (live s) for is = false≢true for
no_pending bytes t k none (pending p) for is = none p is
no_pending bytes t k none (owed o) for is = false≢true for
no_pending bytes t k none (image u) for is = false≢true for
no_pending bytes t k none (weak ks) for is = false≢true for

pub no_owed : (bytes : List ℕ) → ((o : Owed) → Spells bytes (owed o) → ⊥) → (v : Value) → IsTrue (is_for TheOwed v) → Spells bytes v → ⊥
no_owed bytes none (live s) for is = false≢true for
no_owed bytes none (pending p) for is = false≢true for
no_owed bytes none (owed o) for is = none o is
no_owed bytes none (image u) for is = false≢true for
no_owed bytes none (weak ks) for is = false≢true for

pub no_weak : (bytes : List ℕ) → ((ks : List (List (List ℕ))) → Spells bytes (weak ks) → ⊥) → (v : Value) → IsTrue (is_for TheWeak v) → Spells bytes v → ⊥
no_weak bytes none (live s) for is = false≢true for
no_weak bytes none (pending p) for is = false≢true for
no_weak bytes none (owed o) for is = false≢true for
no_weak bytes none (image u) for is = false≢true for
no_weak bytes none (weak ks) for is = none ks is

some_mapped : {X : Type 0} (g : X → Value) (o : Option X) → IsSome o → option_map g o ≡ None → ⊥
some_mapped g None some none = false≢true some
some_mapped g (Some x) some none = absurd (cc none)

module _ (f : Found) (others : Files) (bytes : List ℕ) (says : Says others f) where
  -- a live key that clashes with one that was found
  pub clash_live : (k : List (List ℕ)) → Clashes f.values k → Takes others (Live k) bytes → ⊥
  clash_live k clash t =
      some_mapped live (get f.values clash.key) clash.stands
      (none_shown (what_found f (Live clash.key)) (node_of others (Live clash.key)) (says.shows.places (Live clash.key))
      (t.apart (Live clash.key) ((λ (is : k ≡ clash.key). clash.differs (sym is)), clash.overlap)))

  -- a pending one
  pub clash_pending : (tx : List ℕ) (k : List (List ℕ)) → Clashes (inner f.pending tx) k → Takes others (Pend tx k) bytes → ⊥
  clash_pending tx k clash t =
      some_mapped pending (get (inner f.pending tx) clash.key) clash.stands
      (none_shown (what_found f (Pend tx clash.key)) (node_of others (Pend tx clash.key)) (says.shows.places (Pend tx clash.key))
      (t.apart (Pend tx clash.key) (refl, (λ (is : k ≡ clash.key). clash.differs (sym is)), clash.overlap)))

  may_from : (q : List (List ℕ)) → IsTrue (is_prefix settings_key q) → IsSome (node_of others (Live q)) → MayBeWeak f.values q
  may_from q begins there = record { stands = by (get f.values q) (says.shows.places (Live q)); setting = begins } where
    by : (o : Option Scalar) → IsFileOf (option_map live o) (node_of others (Live q)) → IsSome o
    by None none = absurd (false≢true (subst IsSome none there))
    by (Some s) is = refl

  -- weak keys of which one may not be weak
  pub not_weak : (ks : List (List (List ℕ))) → Spells bytes (weak ks) → (All (MayBeWeak f.values) ks → ⊥) → Takes others TheWeak bytes → ⊥
  not_weak ks spelled none t =
      none (at (subst (HaveFiles others) (spells_one TheWeak bytes t.value (weak ks) t.kind refl t.spelled spelled) t.files))
    where
      at : HaveFiles others (weak ks) → All (MayBeWeak f.values) ks
      at have = λ i d low. let h = have i d low in may_from (slice_index_or ks i d) h.0 h.1

  pub not_weak_where : (ks list : List (List (List ℕ))) (b : Bool) → Spells bytes (weak ks) → list ≡ ks → b ≡ false → (All (MayBeWeak f.values) list → IsTrue b)
      → Takes others TheWeak bytes → ⊥
  not_weak_where ks list b spelled same is tells t = not_weak ks spelled
      (λ may. false≢true (sym is ∙ tells (subst (λ (l : List (List (List ℕ))). All (MayBeWeak f.values) l) (sym same) may))) t
