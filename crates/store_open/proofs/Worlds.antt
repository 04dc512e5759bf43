-- What the links and the data directory of a tree are, while only paths below the directory are touched.
use Rattle.std.proofs.Common.{arith, ◌≡◌, inl, ℕ, List, [], ◌∷◌, codes, true, refl, sym, ◌∙◌, ap}
use Rattle.outside.specs.Names.{Names}
use Rattle.outside.specs.Tree.{Tree, node_at, file_in}
use Rattle.outside.specs.History.{History, next, synced, tree_of, EachCrashState}
use Rattle.outside.specs.Since.{EachSince, GoesOn, IsAtOrSync, Touches}
use Rattle.outside.proofs.Goes.{since_goes, tree_untouched, may_leave_untouched}
use Rattle.commit_journal.specs.Files.{files_below, IsBelow}
use Rattle.settings_tree.specs.declared.held.Held.{Held}
use Rattle.fs_datastore.proofs.Alike.{stands_without_journal}
use Rattle.fs_datastore.specs.Stands.{Stands}
use Rattle.store_image.specs.Paths.{sources_in}
use Rattle.version_links.specs.Names.{store, is_in_store}
use Rattle.version_links.specs.Chain.{Outcome, Resolves}
use Rattle.version_links.proofs.Turns.{same_outcome}
use Rattle.machine_disk.specs.Store.{HoldsIn}

-- the first byte of a path
first_byte : Names → ℕ
first_byte [] = 0
first_byte ([] ∷ names) = 0
first_byte ((b ∷ bs) ∷ names) = b

-- ---- a data directory of the store

module _ (name : List ℕ) where
  abbrev dir : Names
  dir = store name

  -- a path of the store is not below it
  pub store_apart : (p : Names) → is_in_store p ≡ true → IsBelow dir p → ⊥
  store_apart p inside (n, rest, is) = absurd (cc (sym inside ∙ ap is_in_store is))

  -- nor is a file of the image
  pub image_apart : (p : Names) → IsBelow dir (codes "image" ∷ p) → ⊥
  unfolding first_byte
  image_apart p (n, rest, is) = let same : ◌≡◌ {A = ℕ} 105 115 = ap first_byte is in absurd (omega arith)

  -- the links stay as they are, also in what a crash leaves
  pub links_kept : (old new : History) → Touches (IsBelow dir) old new → (o : Outcome) → Resolves (tree_of old) o → Resolves (tree_of new) o
  links_kept old new touches o links = same_outcome (tree_of new) (tree_of old)
      (record { same = λ p inside. tree_untouched (IsBelow dir) old new touches p (store_apart p inside) }) o links

  pub links_since : (old new : History) → Touches (IsBelow dir) (next synced old) new → (o : Outcome) → Resolves (tree_of old) o
      → EachSince (λ crashed. Resolves crashed o) (next synced old) new
  links_since old new touches o links = since_goes (λ crashed. Resolves crashed o) (IsAtOrSync (IsBelow dir)) (next synced old) new each touches where
    each : (h : History) → GoesOn (IsAtOrSync (IsBelow dir)) (next synced old) h → EachCrashState (λ crashed. Resolves crashed o) h
    each h goes crashed is = same_outcome crashed (tree_of old) (record {
      same =
          λ p inside. may_leave_untouched (IsBelow dir) (next synced old) h goes p (store_apart p inside) (node_at crashed p) (is p);
    }) o links

  -- the files of the image stay
  pub sources_kept : (old new : History) → Touches (IsBelow dir) old new → (p : Names) → sources_in (tree_of new) p ≡ sources_in (tree_of old) p
  sources_kept old new touches p = ap file_in (tree_untouched (IsBelow dir) old new touches (codes "image" ∷ p) (image_apart p))

-- the files themselves, where no journal is there
pub holds_plain : (directory : Names) (held : Held) (format : ℕ) (tree : Tree) → Stands (files_below directory tree) held format
    → HoldsIn directory held format tree
holds_plain directory held format tree means = record {
  files = files_below directory tree;
  stands_for =
      inl (stands_without_journal (files_below directory tree) held format means, refl);
  stands = means;
}
