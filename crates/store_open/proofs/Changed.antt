-- What the opening step leaves of the world, once a journal was carried out.
use Rattle.std.proofs.Common.{◌≡◌, inl, inr, ◌⊎◌, ℕ, List, Bool, true, false, Option, Some, None, is_some, Result, Ok, Err, refl, sym, ◌∙◌, ap}
use Rattle.std.proofs.Common.{subst}
use Rattle.std.specs.Prelude.{OnOk, OnErr}
use Rattle.outside.specs.Names.{Names}
use Rattle.outside.specs.Tree.{Node, file, link, Tree, file_in, link_in}
use Rattle.outside.specs.History.{History, next, synced, tree_of}
use Rattle.outside.specs.Since.{EachSince, IsAtOrSync, Touches}
use Rattle.outside.specs.declared.disk_error.DiskErr.{DiskErr}
use Rattle.outside.specs.declared.disk_error.DiskErr.TheVariants as device
use Rattle.outside.proofs.Since.{since_map, since_both, since_joined}
use Rattle.outside.proofs.Goes.{goes_joined}
use Rattle.commit_journal.specs.Files.{Files, files_below, IsBelow}
use Rattle.commit_journal.specs.Stands.{journal, TreeStandsFor, ChangesOnlyBelow}
use Rattle.commit_journal.specs.Recovery.{Recovers, FromSyncOn}
use Rattle.commit_journal.proofs.Elsewhere.{only_below}
use Rattle.settings_tree.specs.declared.held.Held.{Held}
use Rattle.fs_datastore.specs.Stands.{Stands}
use Rattle.fs_datastore.proofs.Meaning.{one_meaning}
use Rattle.store_image.specs.declared.image.Image.{Image}
use Rattle.store_image.specs.Paths.{sources_in}
use Rattle.version_links.specs.Names.{store}
use Rattle.version_links.specs.Chain.{found, Resolves}
use Rattle.version_links.specs.declared.version.Version.{Version}
use Rattle.machine_disk.specs.Store.{HoldsIn}
use Rattle.store_open.specs.World.{World, HasWorld, IsAtRest}
use Rattle.settings_machine.specs.Typed.{IsTypedHeld}
use Rattle.store_open.specs.Step.{opened}
use Rattle.store_open.specs.Opening.{IsImageIn, HasOpened, HasEither, IsNotTaken}
use Rattle.store_open.specs.Phases.{IsReadyWith, HoldsEither, IsKept, Lays}
use Rattle.fs_datastore.proofs.Alike.{stands_without_journal}
use Rattle.store_open.proofs.Worlds.{links_kept, links_since, sources_kept}
use Rattle.store_open.proofs.Recovered.{one_place, ready_with}

-- an image of files that are the same
pub image_same : (image : Image) (one other : Tree) → ((p : Names) → sources_in one p ≡ sources_in other p) → IsImageIn other image → IsImageIn one image
image_same image one other same is = record {
  made = record {
    text = is.made.text;
    sources = is.made.sources;
    model_there = same _ ∙ is.made.model_there;
    sources_there = λ path source e. same _ ∙ is.made.sources_there path source e;
    made = is.made.made;
  };
  table = is.table;
}

module _ (boot : Bool) (name : List ℕ) (version : Version) (was : Bool) (old mid : History) (r : Recovers (store name) (Ok was) old mid)
    (links : Resolves (tree_of old) (found version (store name)))
    (held : Held) (means : Stands (files_below (store name) (tree_of mid)) held 2) where
  abbrev dir : Names
  dir = store name

  gone : files_below dir (tree_of mid) journal ≡ None
  gone = stands_without_journal (files_below dir (tree_of mid)) held 2 means

  first : Touches (IsBelow dir) (next synced old) mid
  first = r.first_synced

  pub ready : IsReadyWith dir held mid
  ready = ready_with name was old mid r held means

  -- the world in which the disk is then
  abbrev pub this : World
  this = record { version = version; directory = dir; format = 2; held = held }

  -- it is the world before
  pub the_same : (before : World) → HasWorld before (tree_of old) → before ≡ this
  the_same before has =
      let one = one_place (tree_of old) before.version version before.directory dir has.links links in
      let stands : TreeStandsFor dir has.holds.files (tree_of old) = subst (λ (d : Names). TreeStandsFor d has.holds.files (tree_of old)) one.1
      has.holds.stands_for in
      let done = r.done has.holds.files stands in
      let meant = one_meaning has.holds.files before.held held before.format 2 has.holds.stands (subst (λ (f : Files). Stands f held 2) done.files_are means) in
      λ i. record { version = one.0 i; directory = one.1 i; format = meant.1 i; held = meant.0 i }

  -- no link was in the journal's place
  no_link : link_in (files_below dir (tree_of old) journal) ≡ None
  no_link = by was refl where
    file_there : (o : Option Node) → is_some (file_in o) ≡ true → link_in o ≡ None
    file_there None is = absurd (cc is)
    file_there (Some (file bytes)) is = refl
    file_there (Some (link text)) is = absurd (cc is)

    by : (b : Bool) → was ≡ b → link_in (files_below dir (tree_of old) journal) ≡ None
    by false none = ap link_in (sym (ap (λ (h : History). files_below dir (tree_of h) journal) (r.none none)) ∙ gone)
    by true there = file_there (files_below dir (tree_of old) journal) (sym r.found ∙ there)

  -- and the world was there at the start
  pub was_there : HasWorld this (tree_of old)
  was_there = let stood = r.stood no_link in record {
    links = links;
    holds = record { files = stood.0; stands_for = stood.1; stands = subst (λ (f : Files). Stands f held 2) (r.done stood.0 stood.1).files_are means };
  }

  module _ (image : Image) (read : IsImageIn (tree_of mid) image) (typed : IsTypedHeld image.model.types held) where
    abbrev pub after : Held
    after = opened boot image held

    pub read_first : IsImageIn (tree_of old) image
    read_first = image_same image (tree_of old) (tree_of mid) (λ p. sym (sources_kept name (next synced old) mid first p)) read

    module _ (result : Result Unit DiskErr) (new : History) (lays : Lays dir held after result mid new) where
      whole : Touches (IsBelow dir) (next synced old) new
      whole = goes_joined (IsAtOrSync (IsBelow dir)) (next synced old) mid new first lays.touches

      pub changes : FromSyncOn (ChangesOnlyBelow dir) old new
      changes = inr (only_below dir (next synced old) new whole)

      links_now : EachSince (λ tree. Resolves tree (found version dir)) (next synced old) new
      links_now = links_since name old new whole (found version dir) links

      led_now : Resolves (tree_of new) (found version dir)
      led_now = links_kept name (next synced old) new whole (found version dir) links

      world_of : (tree : Tree) → Resolves tree (found version dir) → HoldsIn dir held 2 tree → HasWorld this tree
      world_of tree led holds = record { links = led; holds = holds }

      opened_of : (tree : Tree) → Resolves tree (found version dir) → HoldsIn dir after 2 tree → HasOpened boot (tree_of old) this tree
      opened_of tree led holds = record { image = image; read = read_first; typed = typed; world = record { links = led; holds = holds } }

      module _ (has : HasWorld this (tree_of old)) where
        held_first : EachSince (HoldsIn dir held 2) (next synced old) mid
        held_first = since_map (TreeStandsFor dir has.holds.files) (HoldsIn dir held 2) (next synced old) mid
            (λ tree is. record { files = has.holds.files; stands_for = is; stands = has.holds.stands }) (r.each_since has.holds.files has.holds.stands_for)

        either_now : EachSince (HoldsEither dir held after) (next synced old) new
        either_now = since_joined (HoldsEither dir held after) (next synced old) mid new
            (since_map (HoldsIn dir held 2) (HoldsEither dir held after) (next synced old) mid (λ tree is. inl is) held_first) (lays.any_moment ready)

        either_of : (tree : Tree) → Resolves tree (found version dir) → HoldsEither dir held after tree → HasEither boot (tree_of old) this tree
        either_of tree led (inl is) = inl (world_of tree led is)
        either_of tree led (inr is) = inr (opened_of tree led is)

        moments_this : FromSyncOn (EachSince (HasEither boot (tree_of old) this)) old new
        moments_this = inr (since_map (λ tree. Resolves tree (found version dir) × HoldsEither dir held after tree) (HasEither boot (tree_of old) this)
            (next synced old) new (λ tree both. either_of tree both.0 both.1)
            (since_both (λ tree. Resolves tree (found version dir)) (HoldsEither dir held after) (next synced old) new links_now either_now))

        kept_this : IsKept dir held mid new → IsNotTaken this old new
        kept_this is = record {
          tree = world_of (tree_of new) led_now is.tree;
          crash_states = inr (since_map (λ tree. Resolves tree (found version dir) × HoldsIn dir held 2 tree) (HasWorld this) (next synced old) new
              (λ tree both. world_of tree both.0 both.1)
              (since_both (λ tree. Resolves tree (found version dir)) (HoldsIn dir held 2) (next synced old) new links_now
              (since_joined (HoldsIn dir held 2) (next synced old) mid new held_first is.crash_states)));
        }

      pub moments : (before : World) → HasWorld before (tree_of old) → FromSyncOn (EachSince (HasEither boot (tree_of old) before)) old new
      moments before has = let same = the_same before has in
          subst (λ (w : World). FromSyncOn (EachSince (HasEither boot (tree_of old) w)) old new) (sym same)
          (moments_this (subst (λ (w : World). HasWorld w (tree_of old)) same has))

      -- the step failed: it is taken or not
      pub failed : (e : DiskErr) → result ≡ Err e → (before : World) → HasWorld before (tree_of old)
          → IsNotTaken before old new ⊎ (HasOpened boot (tree_of old) before (tree_of new) × (e ≡ device.Failed))
      failed e is before has = subst (λ (w : World). IsNotTaken w old new ⊎ (HasOpened boot (tree_of old) w (tree_of new) × (e ≡ device.Failed)))
          (sym (the_same before has))
          (by (subst (λ (x : Result Unit DiskErr). OnErr x (IsReadyWith dir held mid
          → IsKept dir held mid new ⊎ (HoldsIn dir after 2 (tree_of new) × (x ≡ Err device.Failed)))) is lays.failed ready))
        where
          one_err : ◌≡◌ {A = Result Unit DiskErr} (Err e) (Err device.Failed) → e ≡ device.Failed
          one_err same = cc same

          by : IsKept dir held mid new ⊎ (HoldsIn dir after 2 (tree_of new) × (◌≡◌ {A = Result Unit DiskErr} (Err e) (Err device.Failed)))
              → IsNotTaken this old new ⊎ (HasOpened boot (tree_of old) this (tree_of new) × (e ≡ device.Failed))
          by (inl kept) = inl (kept_this (subst (λ (w : World). HasWorld w (tree_of old)) (the_same before has) has) kept)
          by (inr (holds, same)) = inr (opened_of (tree_of new) led_now holds, one_err same)

      -- the step is made: the disk is at rest in the new world
      pub rests : OnOk result (IsAtRest (record { version = version; directory = dir; format = 2; held = after }) new)
      rests = by result lays.done where
        by : (x : Result Unit DiskErr) → OnOk x (IsReadyWith dir held mid → IsReadyWith dir after new)
            → OnOk x (IsAtRest (record { version = version; directory = dir; format = 2; held = after }) new)
        by (Ok made) done = let is = done ready in record { links = led_now; means = is.means; ready = is.ready; settled = is.settled }
        by (Err e) done = tt

      pub read_now : IsImageIn (tree_of new) image
      read_now = image_same image (tree_of new) (tree_of mid) (sources_kept name mid new lays.touches) read
