-- Which values of a store the types of an image refuse, in their order.
use Rattle.std.specs.Prelude.{ℕ, List, [], ◌∷◌, ◌++◌, Option, Some, None, map, if◌then◌else◌}
use Rattle.std.specs.List.{flat_map}
use Rattle.std.specs.FinMap.{FinMap, entries}
use Rattle.key_names.specs.Order.{bytes_cmp, key_cmp}
use Rattle.json_trees.specs.declared.pending.Pending.{Pending}
use Rattle.json_trees.specs.declared.pending.Pending.TheVariants.{Put}
use Rattle.json_trees.specs.declared.scalar.Scalar.{Scalar}
use Rattle.settings_tree.specs.declared.held.Held.{Held}
use Rattle.typed_settings.specs.declared.row.Row.{Row}
use Rattle.settings_machine.specs.World.{Key}
use Rattle.settings_machine.specs.Opening.{Values}
use Rattle.settings_machine.specs.Typed.{is_of_image, row_for, Wanted, wanted_by, wanted_in}
use Rattle.store_report.specs.declared.ill_typed.IllTyped.{IllTyped}

-- What is wanted in place of a live value, if the types refuse it. At a key of a service or of a configuration file nothing is, since
-- an opening puts the image's value there.
abbrev pub wanted_live : List Row → Key × Scalar → Option Wanted
wanted_live types e = if is_of_image e.0 then None else wanted_by (row_for types e.0) e.0 (Put e.1)

-- The value of which something is wanted, live or of a transaction, if there is one.
abbrev pub told : Option (List ℕ) → Option Wanted → List IllTyped
told tx None = []
told tx (Some wanted) = record { tx = tx; key = wanted.0; wanted = wanted.1 } ∷ []

-- The live values that the types refuse, by key.
abbrev pub ill_live : List Row → Values → List IllTyped
ill_live types live = flat_map (λ e. told None (wanted_live types e)) (entries live)

-- What is pending in a transaction and refused, by key.
abbrev pub ill_of : List Row → List ℕ × FinMap key_cmp Pending → List IllTyped
ill_of types t = flat_map (λ e. told (Some t.0) (wanted_in types e)) (entries t.1)

-- What is pending and refused, by transaction and key.
abbrev pub ill_pending : List Row → FinMap bytes_cmp (FinMap key_cmp Pending) → List IllTyped
ill_pending types pending = flat_map (ill_of types) (entries pending)

-- The live values that the types refuse, and then the pending ones.
abbrev pub ill_typed : List Row → Held → List IllTyped
ill_typed types held = ill_live types held.live.values ++ ill_pending types held.pending

-- The keys of all of them.
abbrev pub told_keys : List Row → Held → List Key
told_keys types held = map (λ ill. ill.key) (ill_typed types held)

-- ---- for private clauses

-- What is wanted at the key, if something is.
abbrev pub keyed : Key → Option (List ℕ) → Option Wanted
keyed key None = None
keyed key (Some wanted) = Some (key, wanted)
