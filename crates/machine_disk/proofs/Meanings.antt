-- A tree has the stored parts of one world, and the core holds them where the store is ready.
use Rattle.std.proofs.Common.{◌≡◌, inl, false, None, refl, sym, subst}
use Rattle.outside.specs.Names.{Names}
use Rattle.outside.specs.Tree.{Tree}
use Rattle.outside.specs.History.{History, tree_of}
use Rattle.commit_journal.specs.Files.{Files as JournalFiles, files_below}
use Rattle.commit_journal.specs.Stands.{TreeStandsFor, journal}
use Rattle.commit_journal.proofs.Recovering.{stands_one}
use Rattle.fs_datastore.specs.Stands.{Stands}
use Rattle.fs_datastore.proofs.Meaning.{one_meaning}
use Rattle.version_links.specs.Chain.{Resolves, found}
use Rattle.version_links.specs.declared.version.Version.{Version}
use Rattle.version_links.specs.declared.chain.Place.{Place}
use Rattle.version_links.proofs.Chains.{resolves_one}
use Rattle.settings_tree.specs.declared.held.Held.{Held}
use Rattle.settings_machine.specs.World.{Image, World}
use Rattle.machine_disk.specs.Kept.{Folder, CoreState, Kept}
use Rattle.machine_disk.specs.Store.{HasStore, IsReadyAt}
use Rattle.machine_disk.specs.Laws.{HasOneStore, CoresHold}

-- A tree has the stored parts of one world.
pub one_store : HasOneStore
one_store W X c here there =
    let place : found W.version here.directory ≡ found X.version there.directory = resolves_one c _ _ here.resolves there.resolves in
    let dir : here.directory ≡ there.directory = cc in
    let one_files : here.holds.files ≡ there.holds.files = stands_one (files_below here.directory c) here.holds.files there.holds.files here.holds.stands_for
    (subst (λ (d : Names). TreeStandsFor d there.holds.files c) (sym dir) there.holds.stands_for) in
    let both = one_meaning here.holds.files W.held X.held W.format X.format here.holds.stands
    (subst (λ (f : JournalFiles). Stands f X.held X.format) (sym one_files) there.holds.stands) in
    record { version = cc; format = sym both.1; held = sym both.0 }

-- Where no journal is in the data directory, its files represent what the world holds.
pub stands_below : (W : World) (tree : Tree) (version : Version) (directory : Names) → HasStore W tree → Resolves tree (found version directory)
    → files_below directory tree journal ≡ None → Stands (files_below directory tree) W.held W.format
stands_below W tree version directory has leads no_journal =
    let same : found W.version has.directory ≡ found version directory = resolves_one tree _ _ has.resolves leads in
    let dirs : has.directory ≡ directory = cc in
    let files_same : has.holds.files ≡ files_below directory tree = stands_one (files_below directory tree) has.holds.files (files_below directory tree)
    (subst (λ (d : Names). TreeStandsFor d has.holds.files tree) dirs has.holds.stands_for) (inl (no_journal, refl)) in
    subst (λ (f : JournalFiles). Stands f W.held W.format) files_same has.holds.stands

-- The world has this held, at this place, in format 2.
pub record IsCores (W : World) (place : Place) (held : Held) : Type 0 where
  pub version : W.version ≡ place.version
  pub held_is : W.held ≡ held
  pub format : W.format ≡ 2

-- A store that is ready at a place is that of one world.
pub cores : (W : World) (place : Place) (was : Held) (h : History) → HasStore W (tree_of h) → IsReadyAt place was h → IsCores W place was
cores W place was h has ready =
    let same : found W.version has.directory ≡ found place.version place.directory = resolves_one (tree_of h) _ _ has.resolves ready.resolves in
    let both = one_meaning (files_below place.directory (tree_of h)) W.held was W.format 2
    (stands_below W (tree_of h) place.version place.directory has ready.resolves ready.ready.no_journal) ready.stands in
    record { version = cc; held_is = both.0; format = both.1 }

-- Where no call of the disk has failed since the last opening, the core holds what the world holds.
pub core_holds : CoresHold
core_holds I folder W V h state kept calm =
    let c : IsCores W state.place state.held = cores W state.place state.held h kept.disk.store (kept.core.ready calm) in
    c.held_is

-- And the store at the core's place is of the world's version.
pub core_version : (I : Image) (folder : Folder) (W V : World) (h : History) (state : CoreState) → Kept I folder W V h state → state.faulted ≡ false
    → W.version ≡ state.place.version
core_version I folder W V h state kept calm =
    let c : IsCores W state.place state.held = cores W state.place state.held h kept.disk.store (kept.core.ready calm) in
    c.version
