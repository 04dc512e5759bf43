-- A store is begun where none is.
use Rattle.std.proofs.Common.{◌≡◌, inl, inr, true, Option, Result, Ok, Err, OnOk, refl, sym, subst}
use Rattle.outside.specs.Names.{Names}
use Rattle.outside.specs.History.{History, tree_of}
use Rattle.outside.specs.Told.{Moves}
use Rattle.outside.proofs.Told.{moves_map, moves_same, moves_where}
use Rattle.outside.specs.Told.{WhereTold}
use Rattle.outside.specs.Tree.{node_at, file_in}
use Rattle.settings_tree.specs.declared.entry.Owed.TheVariants as owed
use Rattle.settings_tree.specs.declared.held.Held.{Held}
use Rattle.settings_machine.specs.World.{Image, World}
use Rattle.settings_machine.specs.Events.{Began, Moved, new_held, next}
use Rattle.settings_machine.specs.Paid.{IsGood}
use Rattle.version_links.specs.declared.version.Version.{Version}
use Rattle.machine_disk.specs.Store.{is_store, bytes_at}
use Rattle.machine_disk.proofs.Touched.{in_store_touched}
use Rattle.store_open.specs.Beginning.{Begins}
use Rattle.store_open.specs.declared.begin_error.InitError.{InitError}
use Rattle.store_open.specs.declared.begin_error.InitError.TheVariants as beginning
use Rattle.store_events.specs.Laws.{IsBare, HasBegun}
use Rattle.store_events.proofs.Beginnings.{beginnings_are_whole, beginnings_begin, bare_stays}
use Rattle.command_outcome.specs.Ends.{Outcome}
use Rattle.command_outcome.specs.declared.refusal.Refusal.{Refusal}
use Rattle.command_outcome.specs.declared.refusal.Refusal.TheVariants as refused
use Rattle.settings_cmd.specs.Carried.{Carried, IsBegun, AnswersBeginning}
use Rattle.settings_cmd.specs.Stores.{IsRestored, MadeDump, RestoresMade, TellsOfDump}
use Rattle.settings_run.specs.Headline.{BeginsStore, RestoresStore}
use Rattle.settings_run.proofs.Touched.{changes_only, changes_none}

-- A refusal is no good end.
refused_ends : (outcome : Outcome) (refusal : Refusal) → outcome ≡ Err refusal → OnOk outcome ⊥
refused_ends outcome refusal told = subst (λ (o : Outcome). OnOk o ⊥) (sym told) tt

-- What holds of no good end holds of this one.
none_well : (T : Type 0) (outcome : Outcome) → OnOk outcome ⊥ → OnOk outcome T
none_well T (Ok line) ends = absurd ends
none_well T (Err refusal) ends = tt

module _ (version : Version) (held : Held) (outcome : Outcome) where
  abbrev AnswersAs : Result (Unit {0}) InitError → Type 0
  AnswersAs result = AnswersBeginning version result outcome

  abbrev BeginsAs : Result (Unit {0}) InitError → History → History → Type 0
  BeginsAs result old new = Begins version (record held { owed = owed.All }) result old new

  begun : (result : Result (Unit {0}) InitError) (old new : History) → BeginsAs result old new → AnswersAs result → (I : Image) → IsGood I → (W : World)
      → IsBare W old → OnOk outcome (HasBegun I (bytes_at (tree_of old)) (next I W (Moved version held)) new)
  begun (Ok done) old new begins answers I good W bare = by outcome where
    by : (o : Outcome) → OnOk o (HasBegun I (bytes_at (tree_of old)) (next I W (Moved version held)) new)
    by (Ok line) = beginnings_begin I good W version held done old new bare begins
    by (Err e) = tt
  begun (Err (beginning.AlreadyThere other)) old new begins answers I good W bare = none_well _ outcome (refused_ends outcome _ answers)
  begun (Err (beginning.BadLink path)) old new begins answers I good W bare = none_well _ outcome (refused_ends outcome _ answers)
  begun (Err beginning.Failed) old new begins answers I good W bare = none_well _ outcome (refused_ends outcome _ answers)
  begun (Err beginning.Memory) old new begins answers I good W bare = none_well _ outcome (refused_ends outcome _ answers)

  store_begun : (result : Result (Unit {0}) InitError) (old new : History) → BeginsAs result old new → AnswersAs result
      → BeginsStore (Moved version held) outcome old new
  store_begun result old new begins answers = record {
    each = λ I good W bare. (
      beginnings_are_whole I good W version held result old new bare begins,
      begun result old new begins answers I good W bare,
    );
    elsewhere = changes_only (λ path. is_store path ≡ true) old new (in_store_touched old new begins.others.touches);
  }

  -- There is still no store.
  pub unbegun : (h : History) → OnOk outcome ⊥ → BeginsStore (Moved version held) outcome h h
  unbegun h ends = record {
    each = λ I good W bare. (bare_stays I W version held h bare, none_well _ outcome ends);
    elsewhere = changes_none (λ path. is_store path ≡ true) h;
  }

-- An `init` begins a store that holds nothing.
empty_begun : (version : Version) (outcome : Outcome) (old new : History) → BeginsStore (Moved version new_held) outcome old new
    → BeginsStore (Began version) outcome old new
empty_begun version outcome old new begins = record { each = begins.each; elsewhere = begins.elsewhere }

pub begins_store : (version : Version) (outcome : Outcome) (d d' : Option History) → Carried (IsBegun version) outcome d d'
    → Moves d d' (BeginsStore (Began version) outcome)
begins_store version outcome d d' (inl is) = moves_map (λ old new begins. empty_begun version outcome old new
    (store_begun version new_held outcome is.result old new begins is.answers)) is.begins
begins_store version outcome d d' (inr none) = moves_same none.1 (λ h. empty_begun version outcome h h
    (unbegun version new_held outcome h (refused_ends outcome refused.Memory none.0)))

-- A `restore` begins one that holds what the dump holds.
pub restores_store : (path : Names) (outcome : Outcome) (d d' : Option History) → Carried (IsRestored path) outcome d d'
    → Moves d d' (RestoresStore path outcome)
restores_store path outcome d d' (inr none) = moves_same none.1 (λ h. inr (refused_ends outcome refused.Memory none.0, refl))
restores_store path outcome d d' (inl is) = by is.made is.tells is.follows where
  by : (made : MadeDump) → WhereTold d (λ h. TellsOfDump (file_in (node_at (tree_of h) path)) made) → RestoresMade made outcome d d'
      → Moves d d' (RestoresStore path outcome)
  by (Ok dump) tells begins = moves_map (λ old new both. inl (record {
    text = both.0.text;
    version = dump.version;
    held = dump.held;
    there = both.0.there;
    spelled = both.0.spelled;
    begins = store_begun dump.version dump.held outcome begins.result old new both.1 begins.answers;
  })) (moves_where tells begins.begins)
  by (Err refusal) tells none = moves_same none.1 (λ h. inr (refused_ends outcome refusal none.0, refl))
