-- What an opening can't find amiss where the tree has the store of a world.
use Rattle.std.proofs.Common.{◌≡◌, inl, inr, ℕ, List, Some, None, ap, sym, subst, ◌∙◌}
use Rattle.outside.specs.Names.{Names}
use Rattle.outside.specs.Tree.{Tree, file_in}
use Rattle.commit_journal.specs.Files.{files_below}
use Rattle.commit_journal.specs.Stands.{TreeStandsFor, StandsFor, journal}
use Rattle.commit_journal.specs.Journal.{journal_text}
use Rattle.commit_journal.specs.Recovery.{IsBad}
use Rattle.fs_datastore.specs.Damage.{IsFaultBelow}
use Rattle.fs_datastore.proofs.Faults.{faultless}
use Rattle.version_links.specs.Chain.{Resolves, nowhere, found, bad}
use Rattle.version_links.specs.declared.version.Version.{Version}
use Rattle.version_links.proofs.Chains.{resolves_one}
use Rattle.settings_machine.specs.World.{World}
use Rattle.machine_disk.specs.Store.{HasStore}
use Rattle.machine_disk.proofs.Meanings.{stands_below}

module _ (W : World) (tree : Tree) (has : HasStore W tree) where
  -- The links lead somewhere,
  pub not_nowhere : Resolves tree nowhere → ⊥
  not_nowhere none = let e : found W.version has.directory ≡ nowhere = resolves_one tree _ _ has.resolves none in cc

  -- and not to a bad link.
  pub not_bad_link : (path : Names) → Resolves tree (bad path) → ⊥
  not_bad_link path is = let e : found W.version has.directory ≡ bad path = resolves_one tree _ _ has.resolves is in cc

  module _ (version : Version) (directory : Names) (leads : Resolves tree (found version directory)) where
    one_directory : has.directory ≡ directory
    one_directory = let e : found W.version has.directory ≡ found version directory = resolves_one tree _ _ has.resolves leads in cc

    -- The journal, if there is one, is that of a batch.
    pub not_bad_journal : IsBad directory tree → ⊥
    not_bad_journal is = by (subst (λ (d : Names). TreeStandsFor d has.holds.files tree) one_directory has.holds.stands_for) where
      no_text : (text : List ℕ) → None ≡ Some text → ⊥
      no_text text e = cc

      text_of : (text own : List ℕ) → Some own ≡ Some text → text ≡ own
      text_of text own e = cc

      by : StandsFor (files_below directory tree) has.holds.files → ⊥
      by (inl (none, same)) = no_text is.0 (sym (ap file_in none) ∙ is.1)
      by (inr (entries, there, same)) = is.2 entries (record {
        text_is = text_of is.0 (journal_text entries) (sym (ap file_in there.there) ∙ is.1);
        valid = there.valid;
      })

    -- Without a journal the directory has no fault,
    pub not_damaged : files_below directory tree journal ≡ None → (path : Names) → IsFaultBelow directory tree path → ⊥
    not_damaged no_journal path fault =
        faultless (files_below directory tree) W.held W.format fault.below (stands_below W tree version directory has leads no_journal) fault.fault
