-- What an opening makes of the machine's run.
use Rattle.std.proofs.Common.{◌≡◌, inl, inr, ◌⊎◌, ℕ, List, ◌∷◌, codes, Bool, true, false, Result, Ok, Err, refl, sym, ◌∙◌, ap, subst}
use Rattle.outside.specs.Names.{Names}
use Rattle.outside.specs.Tree.{Tree, file_in}
use Rattle.outside.specs.History.{History, next as then, synced, tree_of}
use Rattle.outside.specs.Since.{EachSince}
use Rattle.outside.proofs.Since.{since_map}
use Rattle.commit_journal.specs.Files.{Files, files_below}
use Rattle.commit_journal.specs.Stands.{TreeStandsFor, ChangesOnlyBelow}
use Rattle.commit_journal.specs.Recovery.{FromSyncOn}
use Rattle.fs_datastore.specs.Stands.{Stands}
use Rattle.fs_datastore.proofs.Faults.{faultless}
use Rattle.fs_datastore.proofs.Meaning.{one_meaning}
use Rattle.settings_tree.specs.declared.held.Held.{Held}
use Rattle.typed_settings.specs.declared.row.Row.{Row}
use Rattle.store_image.specs.Paths.{Sources, sources_in}
use Rattle.store_image.specs.declared.image.Image as own
use Rattle.store_image.specs.Refused.{IsRefused}
use Rattle.fs_datastore.specs.Damage.{IsFaultBelow}
use Rattle.version_links.specs.Chain.{Outcome, Resolves, found}
use Rattle.version_links.specs.declared.version.Version.{Version}
use Rattle.version_links.specs.declared.chain.Place.{Place}
use Rattle.settings_machine.specs.World.{Image, World, is_running}
use Rattle.settings_machine.specs.Typed.{IsTypedHeld}
use Rattle.settings_machine.specs.Opening.{opened_held}
use Rattle.settings_machine.specs.Paid.{IsGood}
use Rattle.settings_machine.specs.Step.{opened as world_opened}
use Rattle.machine_disk.specs.Store.{HoldsIn, HasStore}
use Rattle.machine_disk.specs.Kept.{Folder, DiskAt}
use Rattle.machine_disk.specs.Ran.{OpensTo, OpensNot}
use Rattle.machine_disk.proofs.Apart.{dir_apart}
use Rattle.machine_disk.proofs.Recovering.{Recovered, recovered}
use Rattle.machine_disk.proofs.Opened.{opens_to, opens_not_taken, opens_taken}
use Rattle.machine_disk.proofs.Opened as disk
use Rattle.machine_disk.proofs.Whole.{not_nowhere, not_bad_link, not_bad_journal}
use Rattle.store_open.specs.World as stored
use Rattle.store_open.specs.World.{HasWorld}
use Rattle.store_open.specs.Step.{opened}
use Rattle.store_open.specs.Typed.{IsIllTyped}
use Rattle.store_open.specs.Opening.{IsImageIn, HasOpened, HasEither, IsNotTaken, IsStep, Means, MeansIllTyped, IsOnlyRecovered, Opens}
use Rattle.store_open.specs.Laws.{IsImageOfFolder, HoldsImage, IsKeptAt, HasRun, IsMachineStep, OpeningsRun, IsRefusal, RefusalsKeep}
use Rattle.store_open.specs.declared.opened.Opened.{Opened}
use Rattle.store_open.specs.declared.open_error.OpenError.{OpenError}
use Rattle.store_open.specs.declared.open_error.OpenError.TheVariants as refused
use Rattle.store_open.proofs.Recovered.{one_place}
use Rattle.store_open.proofs.FolderImages.{in_folder, folder_image, folder_unrefused}

-- With what was read of an image of the machine, the step is the machine's.
pub machine_step : IsMachineStep
unfolding opened
machine_step I image holds boot held = λ i. opened_held (record I { defaults = holds.defaults_are i; text = holds.text_is i }) held boot

-- ---- an opening that was refused

module _ (I : Image) (folder : Folder) (W V : World) (old new : History) (disk_at : DiskAt I folder W V old) where
  abbrev led_to : (directory : Names) → IsOnlyRecovered directory old new → Place
  led_to directory only = record { version = only.leads.version; directory = directory }

  only_recovered : (directory : Names) (only : IsOnlyRecovered directory old new) → Recovered I folder W V (led_to directory only) old new
  only_recovered directory only = recovered I folder W V old new disk_at (led_to directory only) only.leads.links only.journal only.recovers

  kept_at : (directory : Names) → IsOnlyRecovered directory old new → IsKeptAt I folder W V old new
  kept_at directory only = let now : Recovered I folder W V (led_to directory only) old new = only_recovered directory only in
      record { disk = now.disk; moments = now.moments; touches = now.touches }

  refusal_keeps : (boot : Bool) (e : OpenError) → IsRefusal e → Opens boot (Err e) old new → IsKeptAt I folder W V old new
  refusal_keeps boot refused.Failed is opens = absurd is
  refusal_keeps boot refused.Memory is opens = absurd is
  refusal_keeps boot refused.NoStore is opens = absurd (not_nowhere W (tree_of old) disk_at.store opens.told.0)
  refusal_keeps boot (refused.BadLink path) is opens = absurd (not_bad_link W (tree_of old) disk_at.store path opens.told.0)
  refusal_keeps boot (refused.BadJournal path) is opens =
      let t = opens.told in absurd (not_bad_journal W (tree_of old) disk_at.store t.1.version t.0 t.1.links t.3)
  refusal_keeps boot (refused.Damaged path) is opens = kept_at opens.told.0 opens.told.1
  refusal_keeps boot (refused.OldFormat directory) is opens = kept_at directory opens.told.0
  refusal_keeps boot (refused.BadImage file kind at) is opens = kept_at opens.told.0 opens.told.1
  refusal_keeps boot (refused.IllTyped key) is opens = kept_at opens.told.0 opens.told.1

-- Whatever the image is, all that a refusal has done is that a journal was carried out.
pub refusals_keep : RefusalsKeep
refusals_keep I folder W V boot e old new disk_at is opens = refusal_keeps I folder W V old new disk_at boot e is opens

module _ (I : Image) (good : IsGood I) (folder : Folder) (is : IsImageOfFolder I folder) (W V : World) (boot : Bool) (old new : History)
    (disk_at : DiskAt I folder W V old)
    (idle : is_running W.job ≡ false) where
  -- the world of the store before the opening
  abbrev before : stored.World
  before = record { version = W.version; directory = disk_at.store.directory; format = W.format; held = W.held }

  there : HasWorld before (tree_of old)
  there = record { links = disk_at.store.resolves; holds = disk_at.store.holds }

  store_before : (c : Tree) → HasWorld before c → HasStore W c
  store_before c has = record { directory = disk_at.store.directory; resolves = has.links; holds = has.holds }

  -- ---- the image

  abbrev sources : Sources
  sources path = folder (codes "image" ∷ path)

  -- What is read of a tree that has the folder's files is the image.
  module _ (tree : Tree) (alike : (name : List ℕ) (rest : Names) → sources_in tree (name ∷ rest) ≡ sources (name ∷ rest)) (image : own.Image)
      (read : IsImageIn tree image) where
    holds : HoldsImage I image
    holds = folder_image I good folder is tree alike image read

    -- so its step is the machine's
    step_is : (held : Held) → opened boot image held ≡ opened_held I held boot
    step_is held = machine_step I image holds boot held

  alike_old : (name : List ℕ) (rest : Names) → sources_in (tree_of old) (name ∷ rest) ≡ sources (name ∷ rest)
  alike_old name rest = disk_at.image (codes "image" ∷ name ∷ rest) (in_folder name rest)

  alike_new : (version : Version) (directory : Names) → Resolves (tree_of old) (found version directory) → FromSyncOn (ChangesOnlyBelow directory) old new
      → (name : List ℕ) (rest : Names) → sources_in (tree_of new) (name ∷ rest) ≡ sources (name ∷ rest)
  alike_new version directory leads (inl same) name rest = ap (λ (h : History). sources_in (tree_of h) (name ∷ rest)) same ∙ alike_old name rest
  alike_new version directory leads (inr changes) name rest =
      ap file_in (changes.tree (codes "image" ∷ name ∷ rest) ((dir_apart (tree_of old) version directory leads).image (codes "image" ∷ name ∷ rest)
      (in_folder name rest)))
      ∙ alike_old name rest

  -- ---- the stores

  store_opened : (c : Tree) → HasOpened boot (tree_of old) before c → HasStore (world_opened I W boot) c
  unfolding world_opened
  store_opened c has = record {
    directory = disk_at.store.directory;
    resolves = has.world.links;
    holds = subst (λ (h : Held). HoldsIn disk_at.store.directory h W.format c) (step_is (tree_of old) alike_old has.image has.read W.held) has.world.holds;
  }

  either_store : (c : Tree) → HasEither boot (tree_of old) before c → disk.HasEither I W boot c
  either_store c (inl has) = inl (store_before c has)
  either_store c (inr has) = inr (store_opened c has)

  from_sync : (P Q : Tree → Type 0) → ((c : Tree) → P c → Q c) → FromSyncOn (EachSince P) old new → FromSyncOn (EachSince Q) old new
  from_sync P Q each (inl same) = inl same
  from_sync P Q each (inr since) = inr (since_map P Q (then synced old) new each since)

  moments : (result : Result Opened OpenError) → Opens boot result old new → FromSyncOn (EachSince (disk.HasEither I W boot)) old new
  moments result opens = from_sync (HasEither boot (tree_of old) before) (disk.HasEither I W boot) either_store (opens.any_moment before there)

  -- ---- an opening that succeeded

  made : (store : Opened) → Opens boot (Ok store) old new → OpensTo I folder W V boot store.place store.held old new × HoldsImage I store.image
  made store opens = (
    subst (λ (h : Held). OpensTo I folder W V boot store.place h old new) (sym held_is) opens_now,
    holds (tree_of new) alike store.image
        opens.done.image,
  )
    where
      step : IsStep boot before store
      step = opens.taken before there

      leads : Resolves (tree_of old) (found store.place.version store.place.directory)
      leads = subst (λ (o : Outcome). Resolves (tree_of old) o) (λ i. found (sym step.version i) (sym step.directory i)) disk_at.store.resolves

      others : FromSyncOn (ChangesOnlyBelow store.place.directory) old new
      others = opens.others store.place.version store.place.directory leads

      alike : (name : List ℕ) (rest : Names) → sources_in (tree_of new) (name ∷ rest) ≡ sources (name ∷ rest)
      alike = alike_new store.place.version store.place.directory leads others

      held_is : store.held ≡ opened_held I W.held boot
      held_is = step.held ∙ step_is (tree_of new) alike store.image opens.done.image W.held

      typed : IsTypedHeld I.types W.held
      typed = subst (λ (t : List Row). IsTypedHeld t W.held) (holds (tree_of new) alike store.image opens.done.image).types_are step.typed

      opens_now : OpensTo I folder W V boot store.place (opened_held I W.held boot) old new
      opens_now = opens_to I good folder W V boot old new disk_at store.place leads others typed idle step.format (moments (Ok store) opens)
          opens.done.rest.links
          (subst (λ (h : Held). Stands (files_below store.place.directory (tree_of new)) h 2) held_is opens.done.rest.means) opens.done.rest.ready
          opens.done.rest.settled

  -- ---- one that failed

  -- It was taken only of a typed world.
  failed : (e : OpenError) → Opens boot (Err e) old new → OpensNot I folder W V boot old new
  failed e opens = by (opens.refused before there) where
    place : Place
    place = record { version = W.version; directory = disk_at.store.directory }

    others : FromSyncOn (ChangesOnlyBelow disk_at.store.directory) old new
    others = opens.others W.version disk_at.store.directory disk_at.store.resolves

    typed : HasOpened boot (tree_of old) before (tree_of new) → IsTypedHeld I.types W.held
    typed has = subst (λ (t : List Row). IsTypedHeld t W.held) (holds (tree_of old) alike_old has.image has.read).types_are has.typed

    by : IsNotTaken before old new ⊎ (HasOpened boot (tree_of old) before (tree_of new) × (◌≡◌ {A = Result Opened OpenError} (Err e) (Err refused.Failed)))
        → OpensNot I folder W V boot old new
    by (inl not) = opens_not_taken I good folder W V boot old new disk_at place disk_at.store.resolves others
        (store_before (tree_of new) not.tree) (from_sync (HasWorld before) (HasStore W) store_before not.crash_states)
    by (inr taken) = opens_taken I good folder W V boot old new disk_at place disk_at.store.resolves others (typed taken.0) idle
        (store_opened (tree_of new) taken.0) (moments (Err e) opens)

  -- ---- one that was refused

  module _ (directory : Names) (only : IsOnlyRecovered directory old new) where
    stands_now : Stands (files_below directory (tree_of new)) W.held W.format
    stands_now =
        let place = one_place (tree_of old) W.version only.leads.version disk_at.store.directory directory disk_at.store.resolves only.leads.links in
        let stands_for : TreeStandsFor directory disk_at.store.holds.files (tree_of old) =
        subst (λ (d : Names). TreeStandsFor d disk_at.store.holds.files (tree_of old)) place.1 disk_at.store.holds.stands_for in
        subst (λ (f : Files). Stands f W.held W.format) (sym (only.recovers.done disk_at.store.holds.files stands_for).files_are) disk_at.store.holds.stands

    now : Recovered I folder W V (record { version = only.leads.version; directory = directory }) old new
    now = only_recovered I folder W V old new disk_at directory only

    alike : (name : List ℕ) (rest : Names) → sources_in (tree_of new) (name ∷ rest) ≡ sources (name ∷ rest)
    alike name rest = now.disk.image (codes "image" ∷ name ∷ rest) (in_folder name rest)

    not_damaged : (path : Names) → IsFaultBelow directory (tree_of new) path → ⊥
    not_damaged path fault = faultless (files_below directory (tree_of new)) W.held W.format fault.below stands_now fault.fault

    kept : IsKeptAt I folder W V old new
    kept = kept_at I folder W V old new disk_at directory only

    of_format_one : Means directory 1 (tree_of new) → W.format ≡ 1
    of_format_one means = (one_meaning (files_below directory (tree_of new)) W.held means.held W.format 1 stands_now means.means).1

    not_bad_image : (file kind at : List ℕ) → IsRefused (sources_in (tree_of new)) file (kind, at) → ⊥
    not_bad_image file kind at bad = folder_unrefused I good folder is (tree_of new) alike file kind at bad

    ill_typed : (key : List (List ℕ)) → MeansIllTyped directory key (tree_of new) → IsIllTyped I.types W.held key
    ill_typed key means =
        subst (λ (h : Held). IsIllTyped I.types h key) (sym (one_meaning (files_below directory (tree_of new)) W.held means.held W.format 2 stands_now
        means.means).0)
        (subst (λ (t : List Row). IsIllTyped t means.held key) (holds (tree_of new) alike means.image means.read).types_are means.ill)

  run_of : (result : Result Opened OpenError) → Opens boot result old new → HasRun I folder W V boot result old new
  run_of (Ok store) opens = made store opens
  run_of (Err refused.Failed) opens = failed refused.Failed opens
  run_of (Err refused.Memory) opens = failed refused.Memory opens
  run_of (Err refused.NoStore) opens = not_nowhere W (tree_of old) disk_at.store opens.told.0
  run_of (Err (refused.BadLink path)) opens = not_bad_link W (tree_of old) disk_at.store path opens.told.0
  run_of (Err (refused.BadJournal path)) opens = let t = opens.told in not_bad_journal W (tree_of old) disk_at.store t.1.version t.0 t.1.links t.3
  run_of (Err (refused.Damaged path)) opens = let t = opens.told in not_damaged t.0 t.1 path t.2
  run_of (Err (refused.OldFormat directory)) opens = let t = opens.told in (of_format_one directory t.0 t.1, kept directory t.0)
  run_of (Err (refused.BadImage file kind at)) opens = let t = opens.told in not_bad_image t.0 t.1 file kind at t.3
  run_of (Err (refused.IllTyped key)) opens = let t = opens.told in (ill_typed t.0 t.1 key t.2, kept t.0 t.1)

pub openings_run : OpeningsRun
openings_run I good folder is W V boot result old new disk_at idle opens = run_of I good folder is W V boot old new disk_at idle result opens
