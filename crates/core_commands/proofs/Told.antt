-- What commands tell at their end.
use Rattle.std.proofs.Common.{◌≡◌, List, [], ◌∷◌, All, IsTrue, Option, Ok, Err, IfOk, IfErr, sym, ap, subst}
use Rattle.std.proofs.lemmas.List.Elements.{All-map}
use Rattle.outside.specs.History.{History}
use Rattle.outside.specs.Spawner.{Run}
use Rattle.key_names.specs.Key.{is_prefix}
use Rattle.json_trees.specs.declared.pending.Pending.{Pending}
use Rattle.json_trees.specs.declared.pending.Pending.TheVariants as pending
use Rattle.json_trees.specs.declared.scalar.Scalar.{Scalar}
use Rattle.settings_tree.specs.Content.{settings_key}
use Rattle.settings_tree.specs.declared.held.Held.{Held}
use Rattle.settings_machine.specs.World.{Key, World, Idle}
use Rattle.settings_machine.specs.Requests.{Request}
use Rattle.command_outcome.specs.Ends.{Outcome}
use Rattle.command_outcome.specs.declared.refusal.Refusal.{Refusal}
use Rattle.command_outcome.specs.declared.refusal.Refusal.TheVariants as refused
use Rattle.core_commands.specs.Carried.{CarriesOut, puts_of}
use Rattle.core_commands.specs.Lines.{IsTreeLine, IsSettingsLine, IsJobLine}
use Rattle.core_commands.specs.Telling.{Tells}
use Rattle.core_commands.specs.declared.telling.Telling.{Telling}
use Rattle.core_commands.proofs.Carryings.{carries_said, carries_lost}

-- The keys of what is put are those of the pairs.
pub settings_put : (pairs : List (Key × Scalar)) (puts : List (Key × Pending)) → puts ≡ puts_of pairs
    → All (λ pair. IsTrue (is_prefix settings_key pair.0)) pairs
    → All (λ pair. IsTrue (is_prefix settings_key pair.0)) puts
settings_put pairs puts is all =
    subst (λ (l : List (Key × Pending)). All (λ pair. IsTrue (is_prefix settings_key pair.0)) l) (sym is)
    (All-map (λ (p : Key × Pending). IsTrue (is_prefix settings_key p.0)) (λ (p : Key × Scalar). (p.0, pending.Put p.1)) pairs all)

-- The line that tells of the last world, or out of memory for it.
pub line_told : {A : Type 0} (qs : List Request) (P : World → A → Type 0) (said : A) (held : Held) (telling : Telling) (outcome : Outcome)
    (ran_before ran_after : Option (List Run))
    (told_before told_after : Option History) → ((W : World) → P W said → (W.held ≡ held) × (W.job ≡ Idle))
    → IfOk outcome (λ line. (W : World) → W.held ≡ held → W.job ≡ Idle → Tells telling W line) → IfErr outcome (λ refusal. refusal ≡ refused.Memory)
    → CarriesOut qs P (Ok said) ran_before ran_after told_before told_after → CarriesOut qs (Tells telling) outcome ran_before ran_after told_before told_after
line_told qs P said held telling (Ok line) ran_before ran_after told_before told_after same tells memory c =
    carries_said qs P (Tells telling) ran_before ran_after told_before told_after said line (λ W p. tells W (same W p).0 (same W p).1) c
line_told qs P said held telling (Err e) ran_before ran_after told_before told_after same tells memory c =
    subst (λ (x : Refusal). CarriesOut qs (Tells telling) (Err x) ran_before ran_after told_before told_after) (sym memory)
    (carries_lost qs P (Tells telling) ran_before ran_after told_before told_after said c)

-- A line of a part of what is held is one of a world that holds it.
pub settings_last : (held : Held) (outcome : Outcome) → IfOk outcome (IsTreeLine held.live.values (settings_key ∷ []))
    → IfOk outcome (λ line. (W : World) → W.held ≡ held → W.job ≡ Idle → IsSettingsLine W line)
settings_last held (Ok line) tells = λ W same idle. subst (λ (h : Held). IsTreeLine h.live.values (settings_key ∷ []) line) (sym same) tells
settings_last held (Err e) tells = tt

-- So is a line of the job and of what is owed.
pub job_last : (held : Held) (outcome : Outcome) → IfOk outcome (λ line. (W : World) → W.held.owed ≡ held.owed → W.job ≡ Idle → IsJobLine W line)
    → IfOk outcome (λ line. (W : World) → W.held ≡ held → W.job ≡ Idle → IsJobLine W line)
job_last held (Ok line) tells = λ W same idle. tells W (ap (λ (h : Held). h.owed) same) idle
job_last held (Err e) tells = tt
