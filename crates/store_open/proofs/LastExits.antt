-- The last exits of an opening: the step was made, or it failed.
use Rattle.std.proofs.Common.{◌≡◌, inl, inr, ◌⊎◌, ℕ, List, Bool, Result, Ok, Err, refl, sym, ◌∙◌, ap, subst}
use Rattle.outside.specs.Names.{Names}
use Rattle.outside.specs.History.{History, tree_of}
use Rattle.outside.specs.declared.disk_error.DiskErr.{DiskErr}
use Rattle.outside.specs.declared.disk_error.DiskErr.TheVariants as device
use Rattle.commit_journal.specs.Files.{files_below}
use Rattle.commit_journal.specs.Recovery.{Recovers, FromSyncOn}
use Rattle.commit_journal.specs.Stands.{ChangesOnlyBelow}
use Rattle.settings_tree.specs.declared.held.Held.{Held}
use Rattle.fs_datastore.specs.Stands.{Stands}
use Rattle.store_image.specs.declared.image.Image.{Image}
use Rattle.version_links.specs.Names.{store}
use Rattle.version_links.specs.Chain.{found, Resolves}
use Rattle.version_links.specs.declared.chain.Place.{Place}
use Rattle.version_links.specs.declared.version.Version.{Version}
use Rattle.store_open.specs.World.{World, IsAtRest}
use Rattle.settings_machine.specs.Typed.{IsTypedHeld}
use Rattle.store_open.specs.Step.{opened}
use Rattle.store_open.specs.Opening.{IsImageIn, HasOpened, IsNotTaken, IsStep, Tells, Opens}
use Rattle.store_open.specs.Handing.{HandsOn}
use Rattle.store_open.specs.Phases.{AtFault, Lays, Ends, EndsOpen}
use Rattle.store_open.specs.declared.opened.Opened.{Opened}
use Rattle.store_open.specs.declared.open_error.OpenError.{OpenError}
use Rattle.store_open.specs.declared.open_error.OpenError.TheVariants as refused
use Rattle.store_open.proofs.Recovered.{one_place}
use Rattle.store_open.proofs.Changed.{the_same, was_there, moments, failed, rests, read_now, changes}
use Rattle.store_open.proofs.Exits.{opens_not, in_store, exit_read}

module _ (boot : Bool) (name : List ℕ) (version : Version) (was : Bool) (old mid : History) (r : Recovers (store name) (Ok was) old mid)
    (links : Resolves (tree_of old) (found version (store name)))
    (held : Held) (means : Stands (files_below (store name) (tree_of mid)) held 2) (image : Image) (read : IsImageIn (tree_of mid) image)
    (typed : IsTypedHeld image.model.types held) (new : History) where
  abbrev after : Held
  after = opened boot image held

  others : FromSyncOn (ChangesOnlyBelow (store name)) old new → (v : Version) (d : Names) → Resolves (tree_of old) (found v d)
      → FromSyncOn (ChangesOnlyBelow d) old new
  others is v d led = subst (λ (x : Names). FromSyncOn (ChangesOnlyBelow x) old new) (sym (one_place (tree_of old) v version d (store name) led links).1) is

  step_fails : (e : DiskErr) (f : OpenError) → HandsOn e f → Lays (store name) held after (Err e) mid new → Opens boot (Err f) old new
  step_fails e f hands lays = record {
    any_moment = moments boot name version was old mid r links held means image read typed (Err e) new lays;
    there = tt;
    done = tt;
    taken = tt;
    refused = λ before has. by e f hands before (failed boot name version was old mid r links held means image read typed (Err e) new lays e refl before has);
    others = others (changes boot name version was old mid r links held means image read typed (Err e) new lays);
    told = tells e f hands;
  }
    where
      by : (e : DiskErr) (f : OpenError) → HandsOn e f → (before : World)
          → IsNotTaken before old new ⊎ (HasOpened boot (tree_of old) before (tree_of new) × (e ≡ device.Failed))
          → IsNotTaken before old new ⊎ (HasOpened boot (tree_of old) before (tree_of new) × (◌≡◌ {A = Result Opened OpenError} (Err f) (Err refused.Failed)))
      by e f hands before (inl not) = inl not
      by device.Failed f hands before (inr is) = inr (is.0, ap (λ (x : OpenError). let v : Result Opened OpenError = Err x in v) hands)
      by device.Memory f hands before (inr is) = absurd (cc is.1)

      tells : (e : DiskErr) (f : OpenError) → HandsOn e f → Tells f old new
      tells device.Failed f hands = subst (λ (x : OpenError). Tells x old new) (sym hands) tt
      tells device.Memory f hands = subst (λ (x : OpenError). Tells x old new) (sym hands) tt

  step_made : (stored : Opened) → stored.place.version ≡ version → stored.place.directory ≡ store name → stored.held ≡ after → stored.image ≡ image
      → Lays (store name) held after (Ok tt) mid new → Opens boot (Ok stored) old new
  step_made stored version_is directory_is held_is image_is lays = record {
    any_moment = moments boot name version was old mid r links held means image read typed (Ok tt) new lays;
    there = (record { version = version; directory = store name; format = 2; held = held }, was_there boot name version was old mid r links held means);
    done = record {
      rest = at_rest;
      image = subst (λ (i : Image). IsImageIn (tree_of new) i) (sym image_is)
          (read_now boot name version was old mid r links held means image read typed (Ok tt) new lays);
    };
    taken = λ before has. step before (the_same boot name version was old mid r links held means before has);
    refused = tt;
    others = others (changes boot name version was old mid r links held means image read typed (Ok tt) new lays);
    told = tt;
  }
    where
      at_rest : IsAtRest (record { version = stored.place.version; directory = stored.place.directory; format = 2; held = stored.held }) new
      at_rest = subst (λ (w : World). IsAtRest w new) (λ i. record {
        version = sym version_is i;
        directory = sym directory_is i;
        format = 2;
        held =
            sym held_is i;
      })
          (rests boot name version was old mid r links held means image read typed (Ok tt) new lays)

      step : (before : World) → before ≡ record { version = version; directory = store name; format = 2; held = held } → IsStep boot before stored
      step before same = record {
        typed = subst (λ (h : Held). IsTypedHeld stored.image.model.types h) (sym (ap (λ (w : World). w.held) same))
            (subst (λ (i : Image). IsTypedHeld i.model.types held) (sym image_is) typed);
        version = version_is ∙ sym (ap (λ (w : World). w.version) same);
        directory = directory_is ∙ sym (ap (λ (w : World). w.directory) same);
        format = ap (λ (w : World). w.format) same;
        held = held_is ∙ ap (λ (i : Image). opened boot i held) (sym image_is)
            ∙ ap (opened boot stored.image) (sym (ap (λ (w : World). w.held) same));
      }

-- ---- the same for a place to which the links lead

-- what is read there is at fault
pub ends_read : (boot : Bool) (place : Place) (e : OpenError) (mid new : History) → AtFault place.directory e mid → new ≡ mid → Ends boot place (Err e) mid new
ends_read boot place e mid new fault same old links to = subst (λ (h : History). Opens boot (Err e) old h) (sym same)
    (opens_not boot e old mid (exit_read place.directory place.version to.journal e old mid fault to.recovers links))

module _ (boot : Bool) (place : Place) (held : Held) (image : Image) (mid new : History) (means : Stands (files_below place.directory (tree_of mid)) held 2)
    (read : IsImageIn (tree_of mid) image) (typed : IsTypedHeld image.model.types held) where
  -- the step failed
  pub ends_failed : (e : DiskErr) (f : OpenError) → HandsOn e f → Lays place.directory held (opened boot image held) (Err e) mid new
      → Ends boot place (Err f) mid new
  ends_failed e f hands lays old links to = let at = in_store (tree_of old) place.version place.directory links in
      subst (λ (d : Names). Resolves (tree_of old) (found place.version d) → Recovers d (Ok to.journal) old mid → Stands (files_below d (tree_of mid)) held 2
      → Lays d held (opened boot image held) (Err e) mid new → Opens boot (Err f) old new)
      (sym at.1) (λ led r stands step. step_fails boot at.0 place.version to.journal old mid r led held stands image read typed new e f hands step)
      links to.recovers means lays

  -- the step was made
  pub ends_open : (now : Held) → now ≡ opened boot image held → Lays place.directory held (opened boot image held) (Ok tt) mid new
      → EndsOpen boot place now image mid new
  ends_open now made lays stored place_is held_is image_is old links to = let at = in_store (tree_of old) place.version place.directory links in
      subst (λ (d : Names). stored.place.directory ≡ d → Resolves (tree_of old) (found place.version d) → Recovers d (Ok to.journal) old mid
      → Stands (files_below d (tree_of mid)) held 2 → Lays d held (opened boot image held) (Ok tt) mid new → Opens boot (Ok stored) old new)
      (sym at.1) (λ is led r stands step. step_made boot at.0 place.version to.journal old mid r led held stands image read typed new stored
      (ap (λ (p : Place). p.version) place_is) is (held_is ∙ made) image_is step)
      (ap (λ (p : Place). p.directory) place_is) links to.recovers means lays
