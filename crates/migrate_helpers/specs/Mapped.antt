-- What a migration makes of what is held.
use Rattle.std.specs.Prelude.{ℕ, List, [], ◌∷◌, Option, Some, None, Result, Ok, Err, fold, if◌then◌else◌}
use Rattle.std.specs.Option.{option_or, option_map_or}
use Rattle.std.specs.FinMap.{FinMap, empty, entries}
use Rattle.key_names.specs.Order.{bytes_cmp, key_cmp}
use Rattle.json_trees.specs.Equal.{scalar_eq}
use Rattle.json_trees.specs.declared.scalar.Scalar.{Scalar}
use Rattle.json_trees.specs.declared.pending.Pending.{Pending}
use Rattle.settings_maps.specs.Maps.{value_at, with_inner, with_value, without_value}
use Rattle.settings_tree.specs.Content.{Contents}
use Rattle.settings_tree.specs.declared.held.Held.{Held}
use Rattle.migrate_helpers.specs.declared.map_error.MapError.{MapError}
use Rattle.migrate_helpers.specs.declared.map_error.MapError.TheVariants.{Conflict}
use Rattle.migrate_helpers.specs.declared.migration.Migration.{Migration}
use Rattle.migrate_helpers.specs.declared.setting.Setting.{Setting}
use Rattle.migrate_helpers.specs.Conflict.{conflict}
use Rattle.migrate_helpers.specs.Entries.{edited, removed}
use Rattle.migrate_helpers.specs.Settings.{content_of, pending_at, pending_replaced, setting_at, setting_replaced, settings}
use Rattle.migrate_helpers.specs.Step.{Step, backward_step, forward_step}
use Rattle.migrate_helpers.specs.Step.{Stays, Removes, RemovesBelow, Replaces, Renames, RemovesNames, ReplacesName, RemovesWeak}

-- The metadata without these names at the key.
abbrev pub without_names : FinMap key_cmp (FinMap bytes_cmp Scalar) → List (List ℕ) → List (List ℕ) → FinMap key_cmp (FinMap bytes_cmp Scalar)
without_names m key names = fold (λ n name. without_value n key name) m names

-- The metadata with the new value at the key and the name, where the old one is there.
abbrev pub name_replaced : FinMap key_cmp (FinMap bytes_cmp Scalar) → List (List ℕ) → List ℕ → Scalar → Scalar → FinMap key_cmp (FinMap bytes_cmp Scalar)
name_replaced m key name old new = option_map_or (λ v. if scalar_eq v old then with_value m key name new else m) (value_at m key name) m

-- The live settings after the step.
abbrev pub live_edited : Step → Contents → FinMap key_cmp Setting
live_edited step c = edited setting_at setting_replaced step (settings c)

-- What a transaction has pending after the step.
abbrev pub pending_edited : Step → FinMap key_cmp Pending → FinMap key_cmp Pending
pending_edited step m = edited pending_at pending_replaced step m

-- The transactions after the step. One that is left with no key vanishes.
abbrev pub transactions_edited : Step → FinMap bytes_cmp (FinMap key_cmp Pending) → FinMap bytes_cmp (FinMap key_cmp Pending)
transactions_edited step p = fold (λ m e. with_inner m e.0 (pending_edited step e.1)) empty (entries p)

-- The conflict of the first of these transactions that has one after the step.
abbrev pub first_conflict : Step → List (List ℕ × FinMap key_cmp Pending) → Option (List (List ℕ))
first_conflict step [] = None
first_conflict step (e ∷ es) = option_or (conflict (pending_edited step e.1)) (first_conflict step es)

-- The conflict is the refusal, and without one x is the answer.
abbrev pub unless_conflict : {X : Type 0} → Option (List (List ℕ)) → X → Result X MapError
unless_conflict None x = Ok x
unless_conflict (Some key) x = Err (Conflict key)

-- What is held after a step on the live settings and the pending maps, unless one of them would
-- break the prefix rule: the live settings first, then the transactions by name.
abbrev pub held_edited : Step → Held → Result Held MapError
held_edited step h = unless_conflict (option_or (conflict (live_edited step h.live)) (first_conflict step (entries h.pending)))
    (record h { live = content_of (live_edited step h.live) h.live.metadata; pending = transactions_edited step h.pending })

-- The content without its weak settings.
abbrev pub strong : Contents → Contents
strong c = record c { values = removed c.values c.weak; weak = [] }

-- What is held after a step. A step on metadata and the removal of the weak settings act on the live
-- content alone.
abbrev pub after_step : Step → Held → Result Held MapError
after_step Stays h = Ok h
after_step (Removes keys) h = held_edited (Removes keys) h
after_step (RemovesBelow prefixes) h = held_edited (RemovesBelow prefixes) h
after_step (Replaces key old new) h = held_edited (Replaces key old new) h
after_step (Renames pairs) h = held_edited (Renames pairs) h
after_step (RemovesNames key names) h = Ok (record h { live = record h.live { metadata = without_names h.live.metadata key names } })
after_step (ReplacesName key name old new) h = Ok (record h { live = record h.live { metadata = name_replaced h.live.metadata key name old new } })
after_step RemovesWeak h = Ok (record h { live = strong h.live })

-- What a migration makes of what is held on the way forward, or its refusal.
abbrev pub forward_of : Migration → Held → Result Held MapError
forward_of migration h = after_step (forward_step migration) h

-- What a migration makes of what is held on the way back, or its refusal.
abbrev pub backward_of : Migration → Held → Result Held MapError
backward_of migration h = after_step (backward_step migration) h
