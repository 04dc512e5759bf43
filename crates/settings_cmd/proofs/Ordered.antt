-- What was done is what the words order.
use Rattle.std.proofs.Common.{arith, ◌≡◌, ◌≤◌, inl, inr, ℕ, Option, Err, refl, sym, ◌∙◌, ap, subst}
use Rattle.outside.specs.Door.{DoorState}
use Rattle.outside.proofs.Told.{where_all}
use Rattle.command_words.specs.Orders.{Order, order_of, init, serve, set, get, apply, verify, check, migrate, prune, load, generate, user_data}
use Rattle.command_words.specs.Orders.{dump, restore, forget}
use Rattle.command_words.specs.declared.command.Command.{Command}
use Rattle.command_outcome.specs.Ends.{Outcome}
use Rattle.command_outcome.specs.declared.refusal.Refusal.TheVariants as refused
use Rattle.api_server.specs.Serving.{wanted}
use Rattle.settings_cmd.specs.Does.{Devices, Does}
use Rattle.settings_cmd.specs.Serving.{HasAccepted}

-- The words order what the command is that was read.
pub does_read : (outcome : Outcome) (old new : Devices) (read known : Command) (order : Order) → read ≡ known → order_of read ≡ order
    → Does (order_of known) outcome old new
    → Does order outcome old new
does_read outcome old new read known order is exact did = subst (λ (o : Order). Does o outcome old new) (sym (ap order_of is) ∙ exact) did

none_accepted : (connections : Option ℕ) (door : DoorState) → door.accepted ≡ 0 → HasAccepted connections (Err refused.Memory) door door
none_accepted connections door unused =
    record {
      most = subst (λ (n : ℕ). n ≤ wanted connections) (sym unused) (omega arith);
      all = λ well. absurd (cc well);
      kept = λ other. refl;
      failed =
          λ is. absurd (cc is);
    }

-- It ran out of memory before it was known what is ordered.
pub does_nothing : (now : Devices) → now.door.accepted ≡ 0 → (order : Order) → Does order (Err refused.Memory) now now
does_nothing now unused (init version) = inr (refl, refl)
does_nothing now unused (serve boot slice while_idle connections quiet) =
    (inr (record { outcome_is = refl; no_connections = refl; no_runs = refl; no_lines = refl; same = refl }), none_accepted connections now.door unused)
does_nothing now unused (set pairs) = inr (record { result_is = refl; no_runs = refl; same = refl })
does_nothing now unused (get keys) = inr (refl, refl)
does_nothing now unused (apply all) = inr (record { result_is = refl; no_runs = refl; same = refl })
does_nothing now unused verify = inr (refl, refl)
does_nothing now unused (check store) = inr (refl, refl)
does_nothing now unused (migrate to) =
    inl (record { refusal = refused.Memory; answers = refl; tells = where_all (λ h. tt); same = refl; unasked = refl })
does_nothing now unused prune = inr (refl, refl)
does_nothing now unused (load count) = inr (refl, refl)
does_nothing now unused generate = inr (record { answers = refl; same = refl; unasked = refl })
does_nothing now unused (user_data path) = inr (refl, refl)
does_nothing now unused dump = inr (refl, refl)
does_nothing now unused (restore path) = inr (refl, refl)
does_nothing now unused (forget keys) = inr (refl, refl)
