-- What `check` and `check --store` come to, where a store is there.
use Rattle.std.proofs.Common.{◌≡◌, ◌⊎◌, inl, inr, ℕ, Bool, true, false, List, [], Option, Some, None, Ok, Err, refl, sym, ◌∙◌, ap, subst}
use Rattle.std.specs.Prelude.{IsSome, is_some}
use Rattle.outside.specs.History.{History, tree_of}
use Rattle.outside.specs.Names.{Names}
use Rattle.outside.specs.Told.{Moves, WhereTold}
use Rattle.outside.specs.Tree.{Tree, Node, link_in}
use Rattle.commit_journal.specs.Files.{Files, files_below}
use Rattle.commit_journal.specs.Stands.{journal, StandsFor, TreeStandsFor}
use Rattle.commit_journal.proofs.Recovering.{stands_one}
use Rattle.fs_datastore.specs.Damage.{IsFault}
use Rattle.fs_datastore.specs.Stands.{Stands}
use Rattle.fs_datastore.proofs.Faults.{faultless}
use Rattle.fs_datastore.proofs.Meaning.{one_meaning}
use Rattle.settings_tree.specs.declared.held.Held.{Held}
use Rattle.store_image.specs.Paths.{sources_in}
use Rattle.settings_machine.specs.World.{Image, World}
use Rattle.settings_machine.specs.Paid.{IsGood}
use Rattle.machine_disk.specs.Kept.{Folder}
use Rattle.machine_disk.specs.Store.{HoldsIn, HasStore}
use Rattle.machine_disk.proofs.Whole.{not_nowhere, not_bad_link, not_bad_journal}
use Rattle.version_links.specs.Chain.{found, Resolves}
use Rattle.version_links.specs.declared.version.Version.{Version}
use Rattle.store_open.specs.Laws.{IsImageOfFolder}
use Rattle.store_open.specs.Peeking.{WouldFind, TellsOf}
use Rattle.store_open.specs.declared.open_error.OpenError.{OpenError}
use Rattle.store_open.specs.declared.open_error.OpenError.TheVariants as refusal
use Rattle.store_open.proofs.Recovered.{one_place}
use Rattle.store_open.proofs.FolderImages.{disk_image, disk_unrefused}
use Rattle.command_outcome.specs.Ends.{Outcome}
use Rattle.command_outcome.specs.declared.refusal.Refusal.TheVariants as refused
use Rattle.command_words.specs.Orders.{check}
use Rattle.core_commands.specs.Handing.{not_opened}
use Rattle.settings_cmd.specs.Carried.{Carried, IsCheckedWith}
use Rattle.settings_cmd.specs.StoreChecks.{IsHeldReport, TellsOfFault, ChecksHeld, ChecksStore, IsStoreReported}
use Rattle.settings_cmd.specs.Does.{Devices}
use Rattle.settings_run.specs.Laws.{Begins}
use Rattle.settings_run.specs.Events.{ReportsOn, IsUnreported, CheckEvents}
use Rattle.settings_run.specs.Headline.{RunsOverAll}
use Rattle.settings_run.proofs.Answered.{untouched}
use Rattle.settings_run.proofs.Commands.{unmoved}

-- ---- the store

module _ (W : World) (tree : Tree) (has : HasStore W tree) where
  module _ (version : Version) (directory : Names) (leads : Resolves tree (found version directory)) where
    -- The data directory to which the links lead is the store's.
    stands_for : TreeStandsFor directory has.holds.files tree
    stands_for = subst (λ (d : Names). TreeStandsFor d has.holds.files tree)
        (one_place tree W.version version has.directory directory has.resolves leads).1 has.holds.stands_for

    -- What it holds is what the world holds, in one format.
    one_held : (held : Held) (format : ℕ) → HoldsIn directory held format tree → (W.held ≡ held) × (W.format ≡ format)
    one_held held format holds =
        let files = stands_one (files_below directory tree) has.holds.files holds.files stands_for holds.stands_for in
        one_meaning holds.files W.held held W.format format (subst (λ (f : Files). Stands f W.held W.format) files has.holds.stands) holds.stands

    -- No link is in the place of its journal,
    no_link : IsSome (link_in (files_below directory tree journal)) → ⊥
    no_link linked = by stands_for where
      by : StandsFor (files_below directory tree) has.holds.files → ⊥
      by (inl (gone, is)) = cc (sym linked ∙ ap (λ (x : Option Node). is_some (link_in x)) gone)
      by (inr (entries, there, is)) = cc (sym linked ∙ ap (λ (x : Option Node). is_some (link_in x)) there.there)

    -- and the files that an opening would find have no fault.
    no_fault : (files : Files) → WouldFind directory files tree → (below : Names) → IsFault files below → ⊥
    no_fault files (inl finds) below fault =
        let same = stands_one (files_below directory tree) has.holds.files files stands_for finds in
        faultless files W.held W.format below (subst (λ (f : Files). Stands f W.held W.format) same has.holds.stands) fault
    no_fault files (inr linked) below fault = no_link linked.0

  -- A refusal of the store tells of the world.
  refusal_tells : (e : OpenError) → TellsOf e tree → IsUnreported W (Err (not_opened e))
  refusal_tells refusal.NoStore tells = not_nowhere W tree has tells
  refusal_tells (refusal.BadLink path) tells = not_bad_link W tree has path tells
  refusal_tells (refusal.BadJournal path) tells = let t = tells in not_bad_journal W tree has t.1.version t.0 t.1.links t.2.1
  refusal_tells (refusal.Damaged path) tells =
      let t = tells in no_fault t.1.version t.0 t.1.links t.2.files t.2.finds t.2.below t.2.fault
  refusal_tells (refusal.OldFormat directory) tells = (one_held tells.0.version directory tells.0.links tells.1.0 1 tells.1.1).1
  refusal_tells (refusal.BadImage name kind at) tells = absurd tells
  refusal_tells (refusal.IllTyped key) tells = absurd tells
  refusal_tells refusal.Failed tells = tt
  refusal_tells refusal.Memory tells = tt

-- ---- the image

module _ (I : Image) (good : IsGood I) (folder : Folder) (is : IsImageOfFolder I folder) (W : World) (h : History) (at : Begins I folder W h) where
  fault_tells : (outcome : Outcome) → TellsOfFault (sources_in (tree_of h)) outcome → IsUnreported W outcome
  fault_tells (Err (refused.BadImage name kind place)) fault = absurd (disk_unrefused I good folder is W W h at.disk name kind place fault)
  fault_tells (Err refused.Disk) fault = tt
  fault_tells (Err refused.Memory) fault = tt
  fault_tells (Ok lines) fault = absurd fault
  fault_tells (Err refused.Usage) fault = absurd fault
  fault_tells (Err refused.Door) fault = absurd fault
  fault_tells (Err (refused.Spawn name)) fault = absurd fault
  fault_tells (Err refused.NoStore) fault = absurd fault
  fault_tells (Err (refused.Damaged path)) fault = absurd fault
  fault_tells (Err (refused.BadLink path)) fault = absurd fault
  fault_tells (Err (refused.BadJournal path)) fault = absurd fault
  fault_tells (Err (refused.IllTyped key)) fault = absurd fault
  fault_tells (Err (refused.HoldsIllTyped lines)) fault = absurd fault
  fault_tells (Err (refused.NotCovered lines)) fault = absurd fault
  fault_tells (Err (refused.Render file error)) fault = absurd fault
  fault_tells (Err (refused.WouldNotRender lines)) fault = absurd fault
  fault_tells (Err (refused.Status service number)) fault = absurd fault
  fault_tells (Err (refused.Missing at target)) fault = absurd fault
  fault_tells (Err (refused.Conflict key)) fault = absurd fault
  fault_tells (Err (refused.Refused reason)) fault = absurd fault
  fault_tells (Err (refused.AlreadyThere version)) fault = absurd fault
  fault_tells (Err (refused.OldFormat directory)) fault = absurd fault
  fault_tells (Err (refused.GeneratorStatus key number)) fault = absurd fault
  fault_tells (Err (refused.GeneratorOutput key)) fault = absurd fault
  fault_tells (Err (refused.UserData kind at)) fault = absurd fault
  fault_tells (Err (refused.Dump kind at)) fault = absurd fault
  fault_tells (Err (refused.MigrationStatus name number)) fault = absurd fault
  fault_tells (Err (refused.MigrationOutput name)) fault = absurd fault
  fault_tells (Err (refused.NotCurrent lines)) fault = absurd fault

  reported : (outcome : Outcome) → IsStoreReported (tree_of h) outcome → ReportsOn I W outcome ⊎ IsUnreported W outcome
  reported outcome told = by told.checks where
    one : (W.held ≡ told.stored.held) × (W.format ≡ 2)
    one = one_held W (tree_of h) at.disk.store told.stored.place.version told.stored.place.directory told.links told.stored.held 2 told.holds

    by : ChecksHeld (tree_of h) told.stored.held outcome → ReportsOn I W outcome ⊎ IsUnreported W outcome
    by (inl report) = inl (record {
      image = report.image;
      holds = disk_image I good folder is W W h at.disk report.image report.read;
      format = one.1;
      report = subst (λ (x : Held). IsHeldReport report.image x outcome) (sym one.0) report.report;
    })
    by (inr fault) = inr (fault_tells outcome fault)

  checked : (outcome : Outcome) → ChecksStore (tree_of h) outcome → ReportsOn I W outcome ⊎ IsUnreported W outcome
  checked outcome (inl told) = reported outcome told
  checked outcome (inr told) =
      inr (subst (λ (o : Outcome). IsUnreported W o) (sym told.outcome_is) (refusal_tells W (tree_of h) at.disk.store told.error told.tells))

module _ (b n : Devices) (outcome : Outcome) (no_runs : n.runs ≡ b.runs) where
  store_checks : (d d' : Option History) → d' ≡ d → WhereTold d (λ h. ChecksStore (tree_of h) outcome) → Moves d d' (RunsOverAll (check true) b n outcome)
  store_checks None d' same tells = subst (λ (x : Option History). Moves None x (RunsOverAll (check true) b n outcome)) (sym same) (record { told = tt })
  store_checks (Some h) d' same tells = subst (λ (x : Option History). Moves (Some h) x (RunsOverAll (check true) b n outcome)) (sym same) (record {
    told = λ I good folder is W at.
        inl (untouched (check true) I good folder W b n outcome h at (checked I good folder is W h at outcome tells.is, refl) no_runs);
  })

  pub checks : (store : Bool) (d d' : Option History) → Carried (IsCheckedWith store) outcome d d' → Moves d d' (RunsOverAll (check store) b n outcome)
  checks false d d' (inl is) = unmoved b n outcome (check false) d d' is.1 no_runs (λ I folder W h. refl)
  checks true d d' (inl is) = store_checks d d' is.1 is.0
  checks false d d' (inr none) = unmoved b n outcome (check false) d d' none.1 no_runs (λ I folder W h. refl)
  checks true d d' (inr none) = unmoved b n outcome (check true) d d' none.1 no_runs
      (λ I folder W h. (subst (λ (o : Outcome). ReportsOn I W o ⊎ IsUnreported W o) (sym none.0) (inr tt), refl))
