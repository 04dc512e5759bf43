-- Trees of settings, and the one that they are together.
use Rattle.std.specs.Prelude.{ℕ, List, [], ◌∷◌, Option, Some, option_and_then}
use Rattle.std.specs.Ordering.{nat_cmp, match_ordering}
use Rattle.std.specs.Cmp.Lexicographic.{slice_cmp}
use Rattle.serde_json.specs.Data.{Data, object, Members, no_members, member}
use Rattle.serde_json.specs.Find.{as_object}
use Rattle.json_trees.specs.Json.{data_of}
use Rattle.host_client.specs.declared.reply.Got.{Got}

abbrev mutual
  -- Two objects are merged member by member; of any other two values the later one is left.
  pub merged : Data → Data → Data
  merged (object ms) (object ns) = object (merged_members ms ns)
  merged old new = new

  -- The members of both in byte order of their names, with the merged value of a name that both have.
  pub merged_members : Members → Members → Members
  merged_members no_members ns = ns
  merged_members (member k d ms) no_members = member k d ms
  merged_members (member k d ms) (member l e ns) =
      match_ordering (slice_cmp nat_cmp k l)
      (member k d (merged_members ms (member l e ns)))
      (member k (merged d e) (merged_members ms ns))
      (member l e (merged_members (member k d ms) ns))

-- The members of the JSON object that the bytes are, if they are one.
abbrev pub tree_in : List ℕ → Option Members
tree_in bytes = option_and_then as_object (data_of bytes)

-- A tree, and then those of the bodies, each merged with what is before it; none where a body is no tree.
abbrev pub with_trees : Members → List Got → Option Members
with_trees ms [] = Some ms
with_trees ms (reply ∷ replies) = option_and_then (λ ns. with_trees (merged_members ms ns) replies) (tree_in reply.body)

-- The trees of the bodies as one.
abbrev pub one_tree : List Got → Option Members
one_tree replies = with_trees no_members replies
