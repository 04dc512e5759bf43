-- The number of the command `load`, and what its answer tells.
use Rattle.std.proofs.Common.{◌≡◌, ℕ, ◌≤◌, List, [], ◌∷◌, IfErr, refl, sym, subst}
use Rattle.std.specs.Result.{IsErrOf}
use Rattle.command_words.specs.Orders.{Spells, order_of, load}
use Rattle.command_words.specs.declared.command.Command.{Command}
use Rattle.command_words.specs.declared.command.Command.TheVariants.{Load}
use Rattle.command_outcome.specs.Ends.{Outcome}
use Rattle.command_outcome.specs.declared.refusal.Refusal.{Refusal}
use Rattle.command_outcome.specs.declared.refusal.Refusal.TheVariants as refused
use Rattle.core_commands.specs.Handing.{HasSpawnCause}
use Rattle.settings_cmd.proofs.Making.{is_none_of, spawn_none}

load_range : (words : List (List ℕ)) (count : ℕ) → Spells words (load count) → (1 ≤ count) × (count ≤ 10000)
load_range [] count spelled = absurd spelled
load_range (word ∷ words) count spelled = (spelled.1.spelled.low, spelled.1.spelled.high)

-- The number that was read is in the range.
pub load_in_range : (words : List (List ℕ)) (command : Command) (count : ℕ) → command ≡ Load count → Spells words (order_of command)
    → (1 ≤ count) × (count ≤ 10000)
load_in_range words command count is spelled = load_range words count (subst (λ (k : Command). Spells words (order_of k)) is spelled)

-- Where only memory may run out, there is no other refusal,
pub memory_alone : (outcome : Outcome) (e : Refusal) → (refused.Memory ≡ e → ⊥) → IfErr outcome (λ refusal. refusal ≡ refused.Memory) → IsErrOf outcome e → ⊥
memory_alone outcome e other memory is = is_none_of (λ refusal. refusal ≡ refused.Memory) outcome e (λ same. other (sym same)) memory is

-- and nothing failed.
pub memory_spawn : (outcome : Outcome) (x : ℕ) → IfErr outcome (λ refusal. refusal ≡ refused.Memory) → HasSpawnCause x x outcome
memory_spawn outcome x memory =
    spawn_none outcome x x refl (λ name. memory_alone outcome (refused.Spawn name) (λ clash. cc clash) memory)
    (memory_alone outcome refused.Door (λ clash. cc clash) memory)
