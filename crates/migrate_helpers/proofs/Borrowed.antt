-- What is held after a step that edits.
use Rattle.std.proofs.Common.{◌≡◌, refl}
use Rattle.settings_tree.specs.declared.held.Held.{Held}
use Rattle.migrate_helpers.specs.Borrowed.{step_of}
use Rattle.migrate_helpers.specs.Mapped.{after_step, held_edited}
use Rattle.migrate_helpers.specs.declared.step.Edit.{Edit}
use Rattle.migrate_helpers.specs.declared.step.Edit.TheVariants.{Removes, RemovesBelow, Replaces, Renames, RenamesBack}

-- An edit is made of the live settings and the pending maps.
pub after_edit : (edit : Edit) (h : Held) → after_step (step_of edit) h ≡ held_edited (step_of edit) h
after_edit (Removes keys) h = refl
after_edit (RemovesBelow prefixes) h = refl
after_edit (Replaces key old new) h = refl
after_edit (Renames pairs) h = refl
after_edit (RenamesBack pairs) h = refl
