-- Turns in which nothing fails are determined by the world.
use Rattle.std.proofs.Common.{◌≡◌, zero, suc, ℕ, List, [], ◌∷◌, refl, sym, ◌∙◌, ap, subst}
use Rattle.std.specs.Prelude.{⊤}
use Rattle.settings_machine.specs.World.{Image, World, Work, Job, Idle, Failed, Running}
use Rattle.settings_machine.specs.Step.{Answer, Fine, NoRoom, FileFault, NoSpawn, SyncFault, OwedFault, Command}
use Rattle.settings_machine.specs.Step.{file_turn, command_turn, last_turn, after_files_turn, work_turn, job_turn, turn_next}
use Rattle.settings_machine.specs.Events.{Event, Turned, after}
use Rattle.settings_machine.specs.declared.cause.Cause.TheVariants as cause
use Rattle.machine_disk.specs.Ran.{IsDriven}
use Rattle.settings_run.proofs.Calm.{stays_failed}

-- The job has not failed, or its template refused.
abbrev pub IsQuiet : Job → Type 0
IsQuiet Idle = ⊤
IsQuiet (Running work) = ⊤
IsQuiet (Failed (cause.Render file error)) = ⊤
IsQuiet (Failed _) = ⊥

module _ (I : Image) where
  file_same : (W : World) (w : Work) (f : List ℕ) (fs : List (List ℕ)) (a : Answer) → IsQuiet (file_turn I W f fs w a).job
      → file_turn I W f fs w a ≡ file_turn I W f fs w (Fine 0)
  file_same W w f fs (Fine status) quiet = refl
  file_same W w f fs NoRoom quiet = absurd quiet
  file_same W w f fs (FileFault left) quiet = absurd quiet
  file_same W w f fs NoSpawn quiet = absurd quiet
  file_same W w f fs SyncFault quiet = absurd quiet
  file_same W w f fs (OwedFault stored) quiet = absurd quiet

  command_same : (W : World) (w : Work) (c : Command) (cs : List Command) (a : Answer) → IsQuiet (command_turn W c cs w a).job
      → command_turn W c cs w a ≡ command_turn W c cs w (Fine 0)
  command_same W w c cs (Fine zero) quiet = refl
  command_same W w c cs (Fine (suc n)) quiet = absurd quiet
  command_same W w c cs NoRoom quiet = absurd quiet
  command_same W w c cs (FileFault left) quiet = absurd quiet
  command_same W w c cs NoSpawn quiet = absurd quiet
  command_same W w c cs SyncFault quiet = absurd quiet
  command_same W w c cs (OwedFault stored) quiet = absurd quiet

  last_same : (W : World) (w : Work) (a : Answer) → IsQuiet (last_turn I W w a).job → last_turn I W w a ≡ last_turn I W w (Fine 0)
  last_same W w (Fine status) quiet = refl
  last_same W w NoRoom quiet = absurd quiet
  last_same W w (FileFault left) quiet = absurd quiet
  last_same W w NoSpawn quiet = absurd quiet
  last_same W w SyncFault quiet = absurd quiet
  last_same W w (OwedFault stored) quiet = absurd quiet

  after_files_same : (W : World) (w : Work) (cs : List Command) (a : Answer) → IsQuiet (after_files_turn I W cs w a).job
      → after_files_turn I W cs w a ≡ after_files_turn I W cs w (Fine 0)
  after_files_same W w [] a quiet = last_same W w a quiet
  after_files_same W w (c ∷ cs) a quiet = command_same W w c cs a quiet

  work_same : (W : World) (w : Work) (fs : List (List ℕ)) (a : Answer) → IsQuiet (work_turn I W fs w a).job
      → work_turn I W fs w a ≡ work_turn I W fs w (Fine 0)
  work_same W w [] a quiet = after_files_same W w w.commands a quiet
  work_same W w (f ∷ fs) a quiet = file_same W w f fs a quiet

  job_same : (W : World) (j : Job) (a : Answer) → IsQuiet (job_turn I W j a).job → job_turn I W j a ≡ job_turn I W j (Fine 0)
  job_same W Idle a quiet = refl
  job_same W (Failed c) a quiet = refl
  job_same W (Running w) a quiet = work_same W w w.files a quiet

  -- One turn,
  turn_same : (W : World) (a : Answer) → IsQuiet (turn_next I W a).job → turn_next I W a ≡ turn_next I W (Fine 0)
  unfolding turn_next
  turn_same W a quiet = job_same W W.job a quiet

  quiet_before : (W : World) (es : List Event) → IsDriven I W es → IsQuiet (after I W es).job → IsQuiet W.job
  quiet_before W es driven quiet = by W.job refl where
    by : (j : Job) → W.job ≡ j → IsQuiet j
    by Idle is = tt
    by (Running work) is = tt
    by (Failed c) is = subst IsQuiet (stays_failed I W c es is driven) quiet

  -- and all of them until no job runs.
  pub one_end : (W : World) (es fs : List Event) → IsDriven I W es → IsDriven I W fs → IsQuiet (after I W es).job → IsQuiet (after I W fs).job
      → after I W es ≡ after I W fs
  one_end W [] [] d e q r = refl
  one_end W [] (Turned b ∷ fs) d e q r = absurd (cc (d, e.0))
  one_end W [] (f ∷ fs) d e q r = absurd e
  one_end W (Turned a ∷ es) [] d e q r = absurd (cc (e, d.0))
  one_end W (Turned a ∷ es) (Turned b ∷ fs) d e q r =
      let same : turn_next I W a ≡ turn_next I W b =
      turn_same W a (quiet_before (turn_next I W a) es d.2 q) ∙ sym (turn_same W b (quiet_before (turn_next I W b) fs e.2 r)) in
      one_end (turn_next I W a) es fs d.2 (subst (λ (X : World). IsDriven I X fs) (sym same) e.2) q
      (subst (λ (X : World). IsQuiet (after I X fs).job) (sym same) r)
      ∙ ap (λ (X : World). after I X fs) same
  one_end W (Turned a ∷ es) (f ∷ fs) d e q r = absurd e
  one_end W (x ∷ es) fs d e q r = absurd d
