-- What a `serve` logs is the events of its run.
use Rattle.std.proofs.Common.{◌≡◌, inl, inr, Bool, true, false, List, [], ◌∷◌, refl, sym, subst}
use Rattle.version_links.specs.declared.version.Version.{Version}
use Rattle.settings_machine.specs.World.{Image, World}
use Rattle.settings_machine.specs.Step.{opened}
use Rattle.settings_machine.specs.Events.{Event, Opened, Succeeded, Failing}
use Rattle.command_outcome.specs.Ends.{Outcome}
use Rattle.event_lines.specs.Lines.{opened_line}
use Rattle.event_lines.specs.Logs.{LogState, Logs, Tells}
use Rattle.event_lines.proofs.Logging.{logs_none, logs_then, logs_event, logs_silent}
use Rattle.settings_cmd.specs.Serving.{LogsOpened}
use Rattle.settings_run.specs.Laws.{IsUnopened, LogsAll}

-- An opening keeps the version.
kept_version : (I : Image) (W : World) (boot : Bool) → (opened I W boot).version ≡ W.version
unfolding opened
kept_version I W boot = refl

-- The opening and what follows it.
pub logs_all : (quiet : Bool) (I : Image) (W : World) (boot : Bool) (events : List Event) (l l' : LogState) → LogsOpened quiet I (opened I W boot) events l l'
    → LogsAll quiet I W (Opened boot Succeeded ∷ events) l l'
logs_all true I W boot events l l' same = same
logs_all false I W boot events l l' (m, tells, logs) =
    logs_then I W (Opened boot Succeeded ∷ []) events l m l' (logs_event I W (Opened boot Succeeded) l m
    (subst (λ (v : Version). Tells (opened_line v (opened I W boot).held.owed) l m) (kept_version I W boot) tells)) logs

silent : (I : Image) (W : World) (boot : Bool) (outcome : Outcome) (events : List Event) (l : LogState) → IsUnopened boot outcome events → Logs I W events l l
silent I W boot outcome events l (inl un) =
    subst (λ (es : List Event). Logs I W es l l) (sym un.1) (logs_silent I W (Opened boot (Failing un.0)) l refl)
silent I W boot outcome events l (inr un) = subst (λ (es : List Event). Logs I W es l l) (sym un.0) (logs_none I W l)

-- A store that was not opened logs nothing, and its event has no line.
pub logs_unopened : (quiet : Bool) (I : Image) (W : World) (boot : Bool) (outcome : Outcome) (events : List Event) (l l' : LogState) → l' ≡ l
    → IsUnopened boot outcome events → LogsAll quiet I W events l l'
logs_unopened true I W boot outcome events l l' same un = same
logs_unopened false I W boot outcome events l l' same un =
    subst (λ (m : LogState). Logs I W events l m) (sym same) (silent I W boot outcome events l un)

-- Nothing was done, and nothing logged.
pub logs_nothing : (quiet : Bool) (I : Image) (W : World) (l l' : LogState) → l' ≡ l → LogsAll quiet I W [] l l'
logs_nothing true I W l l' same = same
logs_nothing false I W l l' same = subst (λ (m : LogState). Logs I W [] l m) (sym same) (logs_none I W l)
