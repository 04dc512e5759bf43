-- The states of the configuration files of a core.
use Rattle.std.specs.Prelude.{◌≡◌, ℕ, Bool, List, Result, IfOk, map}
use Rattle.json_trees.specs.Collected.{result_map}
use Rattle.outside.specs.History.{History, tree_of}
use Rattle.outside.specs.Tree.{Tree}
use Rattle.outside.specs.declared.disk_error.DiskErr.{DiskErr}
use Rattle.settings_tree.specs.Content.{Contents}
use Rattle.settings_machine.specs.World.{Image, World, path_of, rendered}
use Rattle.settings_machine.specs.Paid.{IsGood}
use Rattle.settings_machine.specs.Requests.{Verify}
use Rattle.settings_machine.specs.Seen.{HoldsTemplates}
use Rattle.settings_machine.specs.Verified.{state_in, verified}
use Rattle.settings_machine.specs.VerifySeen.{marked_files}
use Rattle.settings_machine.specs.declared.states.VerifiedFile.{VerifiedFile}
use Rattle.machine_disk.specs.Kept.{Folder, CoreState, Kept}
use Rattle.machine_disk.specs.Store.{bytes_at}
use Rattle.store_open.specs.Laws.{HoldsImage}
use Rattle.api_core.specs.Cores.{core_state, IsEvent}
use Rattle.api_core.specs.declared.serving.Core.{Core}

-- A verification comes to one event of the machine, and what it answers are the files with their states.
pub record IsVerification (I : Image) (folder : Folder) (W V : World) (result : Result (List VerifiedFile) DiskErr) (old new : History) (before now : CoreState)
    : Type 0 where
  pub event : IsEvent I folder W V Verify (result_map (λ files. tt) result) old new before now
  pub files : IfOk result (λ files. files ≡ verified I W)

-- It does so by each image that the core holds, in each world at which disk and core are.
pub record Verifies (c : Core) (result : Result (List VerifiedFile) DiskErr) (now : Core) (old new : History) : Type 0 where
  pub by_image : (I : Image) → IsGood I → HoldsImage I c.image → (folder : Folder) (W V : World) → Kept I folder W V old (core_state c)
      → IsVerification I folder W V result old new (core_state c) (core_state now)

-- ---- for private clauses

-- The file with its path and its state over these live values, by what the tree has at its path.
abbrev pub verified_in : Image → Contents → Tree → List ℕ × Bool → VerifiedFile
verified_in I live tree marked = record {
  name = marked.0;
  path = path_of I marked.0;
  state = state_in (rendered I marked.0 live) (bytes_at tree (path_of I marked.0)) marked.1;
}

-- Of each image that has what the core has, it is the file with its path and its state on this disk.
pub record IsVerified (c : Core) (marked : List ℕ × Bool) (file : VerifiedFile) (h : History) : Type 0 where
  pub is : (I : Image) → c.image.model.os ≡ I.os → c.image.manifest ≡ I.manifest → HoldsTemplates I c.image.templates
      → verified_in I c.held.live (tree_of h) marked ≡ file

-- And these are all files of the manifest.
pub record AreVerified (c : Core) (files : List VerifiedFile) (h : History) : Type 0 where
  pub are : (I : Image) → c.image.model.os ≡ I.os → c.image.manifest ≡ I.manifest → HoldsTemplates I c.image.templates
      → map (verified_in I c.held.live (tree_of h)) (marked_files c.image.manifest c.held.owed) ≡ files
