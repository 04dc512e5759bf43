-- Generators as pairs of a key and the words of a command.
use Rattle.std.specs.Prelude.{ℕ, List}
use Rattle.std.specs.List.Sorted.{IsStrictlySortedBy}
use Rattle.std.specs.Map.{keys_of}
use Rattle.key_names.specs.Order.{key_cmp}
use Rattle.outside.specs.Spawner.{texts}
use Rattle.setting_generators.specs.declared.generator.Generator.{Generator}

-- The segments of a key.
abbrev pub Path : Type 0
Path = List (List ℕ)

-- A key, and the words of the command that gives its value.
abbrev pub Given : Type 0
Given = Path × List (List ℕ)

-- A generator as such a pair.
abbrev pub seen : Generator → Given
seen g = (g.key, texts g.words.items)

-- Each key is below those after it.
abbrev pub IsRising : List Given → Type 0
IsRising generators = IsStrictlySortedBy key_cmp (keys_of generators)
