-- For private clauses: the steps that are borrowed from a migration.
use Rattle.migrate_helpers.specs.Step.{Step, swapped_back}
use Rattle.migrate_helpers.specs.Step.{Stays, Removes, RemovesBelow, Replaces, Renames, RemovesNames, ReplacesName, RemovesWeak}
use Rattle.migrate_helpers.specs.declared.step.Edit.{Edit}
use Rattle.migrate_helpers.specs.declared.step.Edit.TheVariants as edit
use Rattle.migrate_helpers.specs.declared.step.Step.{Step as Borrowed}
use Rattle.migrate_helpers.specs.declared.step.Step.TheVariants as borrowed

-- The step that edits.
abbrev pub step_of : Edit → Step
step_of (edit.Removes keys) = Removes keys.now
step_of (edit.RemovesBelow prefixes) = RemovesBelow prefixes.now
step_of (edit.Replaces key old new) = Replaces key.now old.now new.now
step_of (edit.Renames pairs) = Renames pairs.now
step_of (edit.RenamesBack pairs) = Renames (swapped_back pairs.now)

-- The step that a borrowed one is.
abbrev pub step : Borrowed → Step
step borrowed.Stays = Stays
step (borrowed.Edits e) = step_of e
step (borrowed.RemovesNames key names) = RemovesNames key.now names.now
step (borrowed.ReplacesName key name old new) = ReplacesName key.now name.now old.now new.now
step borrowed.RemovesWeak = RemovesWeak
