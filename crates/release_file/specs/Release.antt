-- The steps and the migrations of a release.
use Rattle.std.specs.Prelude.{ℕ, Bool, true, false, List, [], ◌∷◌, ◌&&◌, Option, Some, None, if◌then◌else◌}
use Rattle.std.specs.declared.cmp.Ordering.{Ordering}
use Rattle.std.specs.Ordering.{ordering_then, is_lt, eq_by_cmp}
use Rattle.std.specs.List.{list_all, list_any}
use Rattle.key_names.specs.Order.{bytes_cmp}
use Rattle.release_file.specs.declared.transition.Transition.{Transition}
use Rattle.release_file.specs.declared.work.Named.{Named}
use Rattle.release_file.specs.declared.work.Work.{Work}
use Rattle.release_file.specs.declared.work.Work.TheVariants.{Plain, Program}
use Rattle.version_links.specs.Versions.{version_cmp}
use Rattle.release_file.specs.Order.{is_before}

-- Steps are ordered by where they begin, and then by where they end.
abbrev pub transition_cmp : Transition → Transition → Ordering
transition_cmp one other = ordering_then (version_cmp one.from other.from) (version_cmp one.to other.to)

-- Each of the steps is below those after it.
abbrev pub are_rising : List Transition → Bool
are_rising [] = true
are_rising (t ∷ ts) = list_all (λ u. is_lt (transition_cmp t u)) ts && are_rising ts

-- The step leads to a later version.
abbrev pub leads_on : Transition → Bool
leads_on t = is_before t.from t.to

-- Each of the migrations has a name below those after it.
abbrev pub are_named_rising : List Named → Bool
are_named_rising [] = true
are_named_rising (n ∷ ns) = list_all (λ m. is_lt (bytes_cmp n.name m.name)) ns && are_named_rising ns

-- The name is that of one of the migrations.
abbrev pub is_known : List Named → List ℕ → Bool
is_known migrations name = list_any (λ n. eq_by_cmp bytes_cmp name n.name) migrations

-- Each name of the step is that of a migration.
abbrev pub names_known : List Named → Transition → Bool
names_known migrations t = list_all (is_known migrations) t.names.items

-- What the migration of this name does.
abbrev pub work_of : List Named → List ℕ → Option Work
work_of [] name = None
work_of (n ∷ ns) name = if eq_by_cmp bytes_cmp name n.name then Some n.work else work_of ns name

-- The work is a mapping, and no program.
abbrev pub is_mapping : Work → Bool
is_mapping (Plain migration) = true
is_mapping (Program words) = false

-- So is that of the migration.
abbrev pub is_plain : Named → Bool
is_plain n = is_mapping n.work
