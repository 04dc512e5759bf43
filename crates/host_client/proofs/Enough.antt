-- An order that waits for no job has ended after as many replies as its pace says.
use Rattle.std.proofs.Common.{arith, ◌≡◌, ◌≤◌, ◌+◌, ◌==◌, ℕ, Bool, true, false, List, [], ◌∷◌, length, Option, Some, None, refl}
use Rattle.std.specs.Prelude.{if◌then◌else◌}
use Rattle.std.proofs.lemmas.Bool.Decides.{nat_tests}
use Rattle.serde_json.specs.Data.{Data, object, Members}
use Rattle.serde_json.specs.Written.{has_float}
use Rattle.json_trees.specs.Json.{data_of}
use Rattle.host_client.specs.Lines.{is_plan, is_status}
use Rattle.host_client.specs.Orders.{Order, get, set, commit, plan, try_out, show, apply, wait, verify}
use Rattle.host_client.specs.Orders as order
use Rattle.host_client.specs.Paces.{pace_of, most_of, waits, IsEnd, IsEnough}
use Rattle.host_client.specs.Steps.{is_success, is_nothing, ended_by, settings_told, settings_by, by_plan, plan_told, files_of, files_told}
use Rattle.host_client.specs.Steps.{states_told, after_try, after_status, both_told, after_nothing, after_each, after_missing, tree_told, follow}
use Rattle.host_client.specs.Trees.{tree_in, one_tree}
use Rattle.host_client.specs.declared.reply.Got.{Got}
use Rattle.host_client.specs.declared.step.Ending.{Ending}
use Rattle.host_client.specs.declared.step.Step.{Step}
use Rattle.host_client.specs.declared.step.Step.TheVariants.{End}

here : (ending : Ending) → IsEnd (End ending)
here ending = record { ending = ending; is = refl }

either : (b : Bool) {x y : Step} → IsEnd x → IsEnd y → IsEnd (if b then x else y)
either true one other = one
either false one other = other

ended_by_ends : (reply : Got) → IsEnd (ended_by reply)
ended_by_ends reply = either (is_success reply.status) (here _) (here _)

told_end : (body : List ℕ) (tree : Option Members) → IsEnd (settings_told body tree)
told_end body None = here _
told_end body (Some _) = here _

settings_end : (reply : Got) → IsEnd (settings_by reply)
settings_end reply = either (is_success reply.status) (told_end reply.body (tree_in reply.body)) (here _)

plan_ends : (value : Option Data) → IsEnd (plan_told value)
plan_ends None = here _
plan_ends (Some value) = either (is_plan value) (here _) (here _)

by_plan_ends : (reply : Got) → IsEnd (by_plan reply)
by_plan_ends reply = either (is_success reply.status) (plan_ends (data_of reply.body)) (here _)

states_end : (files : Option Members) → IsEnd (states_told files)
states_end None = here _
states_end (Some files) = here _

files_end : (value : Option Data) → IsEnd (files_told value)
files_end None = here _
files_end (Some value) = states_end (files_of value)

both_end : (store job : Option Data) → IsEnd (both_told store job)
both_end None job = here _
both_end (Some store) None = here _
both_end (Some store) (Some job) = either (is_status store job) (here _) (here _)

status_ends : (reply : Got) (replies : List Got) → 2 ≤ length (reply ∷ replies) → IsEnd (after_status reply replies)
status_ends reply [] many = absurd (omega arith)
status_ends reply (job ∷ replies) many =
    either (is_success reply.status) (either (is_success job.status) (both_end (data_of reply.body) (data_of job.body)) (here _)) (here _)

trial_ends : (body : List ℕ) (reply : Got) (replies : List Got) → 4 ≤ length (reply ∷ replies) → IsEnd (after_try body reply replies)
trial_ends body reply [] many = absurd (omega arith)
trial_ends body reply (edited ∷ []) many = absurd (omega arith)
trial_ends body reply (edited ∷ planned ∷ []) many = absurd (omega arith)
trial_ends body reply (edited ∷ planned ∷ dropped ∷ replies) many =
    either (is_success reply.status) (either (is_success edited.status) (either (is_success dropped.status) (by_plan_ends planned) (here _)) (here _)) (here _)

-- ---- the settings

tree_ends : (tree : Option Members) → IsEnd (tree_told tree)
tree_ends None = here _
tree_ends (Some members) = either (has_float (object members)) (here _) (here _)

nothing_ends : (key : List ℕ) (replies : List Got) → 1 ≤ length replies → IsEnd (after_nothing key replies)
nothing_ends key [] many = absurd (omega arith)
nothing_ends key (alone ∷ replies) many = settings_end alone

each_ends : (keys : List (List ℕ)) (replies all : List Got) → length keys + 1 ≤ length replies → IsEnd (after_each keys replies all)
each_ends [] replies all many = tree_ends (one_tree all)
each_ends (key ∷ keys) [] all many = absurd (omega arith)
each_ends (key ∷ keys) (below ∷ replies) all many =
    either (is_nothing below) (nothing_ends key replies (omega arith)) (either (is_success below.status) (each_ends keys replies all (omega arith)) (here _))

most_is : (keys : List (List ℕ)) → 2 ≤ length keys → most_of keys ≡ length keys + 2
most_is keys many = grind (arith, nat_tests)

missing_ends : (keys : List (List ℕ)) (reply : Got) (replies : List Got) → most_of keys ≤ length (reply ∷ replies)
    → IsEnd (after_missing keys reply replies)
missing_ends [] reply replies many = settings_end reply
missing_ends (key ∷ []) reply [] many = absurd (omega arith)
missing_ends (key ∷ []) reply (below ∷ replies) many = either (is_nothing below) (settings_end reply) (settings_end below)
missing_ends (key ∷ other ∷ keys) reply replies many =
    each_ends (key ∷ other ∷ keys) replies replies (omega (arith, most_is (key ∷ other ∷ keys) (omega arith)))

some_most : (keys : List (List ℕ)) → 1 ≤ most_of keys
some_most keys = grind (arith, nat_tests)

-- ---- each order

asks_some : (ordered : Order) → waits ordered ≡ false → 1 ≤ (pace_of ordered).most
asks_some (get keys) free = some_most keys
asks_some (set body) free = cc
asks_some (commit tx) free = cc
asks_some (apply all) free = cc
asks_some (wait seconds) free = cc
asks_some ordered free = omega arith

follow_ends : (ordered : Order) (reply : Got) (replies : List Got) → waits ordered ≡ false → (pace_of ordered).most ≤ length (reply ∷ replies)
    → IsEnd (follow ordered reply replies)
follow_ends (get keys) reply replies free many = either (reply.status == 404) (missing_ends keys reply replies many) (settings_end reply)
follow_ends (set body) reply replies free many = cc
follow_ends (commit tx) reply replies free many = cc
follow_ends (apply all) reply replies free many = cc
follow_ends (wait seconds) reply replies free many = cc
follow_ends (plan tx) reply replies free many = by_plan_ends reply
follow_ends (try_out body) reply replies free many = trial_ends body reply replies many
follow_ends (show file tx) reply replies free many = either (is_success reply.status) (here _) (here _)
follow_ends order.status reply replies free many = status_ends reply replies many
follow_ends verify reply replies free many = either (is_success reply.status) (files_end (data_of reply.body)) (here _)
follow_ends ordered reply replies free many = ended_by_ends reply

pub enough : (ordered : Order) → IsEnough ordered (pace_of ordered).most
enough ordered [] free many = absurd (omega (arith, asks_some ordered free))
enough ordered (reply ∷ replies) free many = follow_ends ordered reply replies free many
