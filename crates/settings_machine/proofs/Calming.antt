-- What calm turns make of a running job.
use Rattle.std.proofs.Common.{◌≡◌, inl, inr, ℕ, Bool, false, if◌then◌else◌, List, [], ◌∷◌, ◌++◌, map, Ok, Err, refl, sym, ◌∙◌, ap, append_assoc}
use Rattle.std.proofs.lemmas.List.{append-nil}
use Rattle.std.specs.FinMap.{insert}
use Rattle.outside.specs.Spawner.{Run}
use Rattle.metadata_links.specs.Links.{files_of, commands_of}
use Rattle.template_eval.specs.Rendered.{Rendered}
use Rattle.template_eval.specs.declared.render_error.RenderError.{RenderError}
use Rattle.settings_machine.specs.World.{Image, World, Work, Job, Idle, Failed, Running, is_running, owes_none, path_of, rendered}
use Rattle.settings_machine.specs.Requests.{Apply}
use Rattle.settings_machine.specs.Step.{Answered, Fine, with_job, begun, asked_for, applied, request_next}
use Rattle.settings_machine.specs.Step.{Command, wrote, after_files_turn, work_turn, job_turn, turn_next}
use Rattle.settings_machine.specs.Events.{Event, Asked, after}
use Rattle.settings_machine.specs.Calm.{calm_turn, turns_for, calm_turns, Renders, AllRender, bytes_of, written, run_well}
use Rattle.settings_machine.specs.Calm.{finished, stopped, CalmJobsEnd, paid_off, CalmAppliesPay}

module _ (I : Image) where
  -- The world in which the files are written, and the job has these left.
  abbrev with_written : World → Work → List (List ℕ) → List (List ℕ) → World
  with_written W w files left = record W { job = Running (record w { files = left }); etc = written I W.held.live W.etc files }

  -- The world in which the commands were run, and the job has none left.
  abbrev with_run : World → Work → List Command → World
  with_run W w commands = record W { job = Running (record w { files = []; commands = [] }); runs = W.runs ++ map run_well commands }

  -- ---- turns of a running job

  turn_is : (W : World) (w : Work) → W.job ≡ Running w → turn_next I W (Fine 0) ≡ work_turn I W w.files w (Fine 0)
  unfolding turn_next
  turn_is W w is = ap (λ (j : Job). job_turn I W j (Fine 0)) is

  file_turn_is : (W : World) (w : Work) (f : List ℕ) (fs : List (List ℕ)) (r : Rendered) → W.job ≡ Running w → w.files ≡ f ∷ fs
      → rendered I f W.held.live ≡ r → turn_next I W (Fine 0) ≡ wrote I W f fs w r
  file_turn_is W w f fs r is files renders = turn_is W w is ∙ ap (λ (l : List (List ℕ)). work_turn I W l w (Fine 0)) files ∙ ap (wrote I W f fs w) renders

  after_files_is : (W : World) (w : Work) (cs : List Command) → W.job ≡ Running w → w.files ≡ [] → w.commands ≡ cs
      → turn_next I W (Fine 0) ≡ after_files_turn I W cs w (Fine 0)
  after_files_is W w cs is files commands =
      turn_is W w is ∙ ap (λ (l : List (List ℕ)). work_turn I W l w (Fine 0)) files ∙ ap (λ (l : List Command). after_files_turn I W l w (Fine 0)) commands

  -- ---- all files, and then more

  first_renders : (W : World) (f : List ℕ) (fs : List (List ℕ)) → AllRender I W.held.live (f ∷ fs) → Renders I W.held.live f
  first_renders W f fs all = all f (inl refl)

  one_written : (W : World) (w : Work) (f : List ℕ) (fs : List (List ℕ)) → W.job ≡ Running w → w.files ≡ f ∷ fs → Renders I W.held.live f
      → turn_next I W (Fine 0) ≡ with_written W w (f ∷ []) fs
  one_written W w f fs is files has =
      file_turn_is W w f fs (Ok has.bytes) is files has.renders
      ∙ ap (λ (b : List ℕ). record W { job = Running (record w { files = fs }); etc = insert W.etc (path_of I f) b }) (ap bytes_of (sym has.renders))

  none_written : (W : World) (w : Work) (left : List (List ℕ)) → W.job ≡ Running w → w.files ≡ left → W ≡ with_written W w [] left
  none_written W w left is files = ap (λ (j : Job). record W { job = j }) (is ∙ ap (λ (l : List (List ℕ)). Running (record w { files = l })) files)

  all_written : (W : World) (w : Work) (files left : List (List ℕ)) (more : List Event) → W.job ≡ Running w → w.files ≡ files ++ left
      → AllRender I W.held.live files → after I W (turns_for files ++ more) ≡ after I (with_written W w files left) more
  all_written W w [] left more is files all = ap (λ (X : World). after I X more) (none_written W w left is files)
  all_written W w (f ∷ fs) left more is files all =
      ap (λ (X : World). after I X (turns_for fs ++ more)) (one_written W w f (fs ++ left) is files (first_renders W f fs all))
      ∙ all_written (with_written W w (f ∷ []) (fs ++ left)) (record w { files = fs ++ left }) fs left more refl refl (λ g at. all g (inr at))

  -- ---- all commands, and then more

  one_run : (W : World) (w : Work) (c : Command) (cs : List Command) → W.job ≡ Running w → w.files ≡ [] → w.commands ≡ c ∷ cs
      → turn_next I W (Fine 0) ≡ record W { job = Running (record w { commands = cs }); runs = W.runs ++ run_well c ∷ [] }
  one_run W w c cs is files commands = after_files_is W w (c ∷ cs) is files commands

  none_run : (W : World) (w : Work) → W.job ≡ Running w → w.files ≡ [] → w.commands ≡ [] → W ≡ with_run W w []
  none_run W w is files commands =
      ap (λ (j : Job). record W { job = j })
      (is ∙ ap (λ (l : List (List ℕ)). Running (record w { files = l })) files
      ∙ ap (λ (l : List Command). Running (record w { files = []; commands = l })) commands)
      ∙ ap (λ (l : List Run). record W { job = Running (record w { files = []; commands = [] }); runs = l }) (sym (append-nil W.runs))

  all_run : (W : World) (w : Work) (commands : List Command) (more : List Event) → W.job ≡ Running w → w.files ≡ [] → w.commands ≡ commands
      → after I W (turns_for commands ++ more) ≡ after I (with_run W w commands) more
  all_run W w [] more is files none = ap (λ (X : World). after I X more) (none_run W w is files none)
  all_run W w (c ∷ cs) more is files some =
      ap (λ (X : World). after I X (turns_for cs ++ more)) (one_run W w c cs is files some)
      ∙ all_run (record W { job = Running (record w { commands = cs }); runs = W.runs ++ run_well c ∷ [] }) (record w { commands = cs }) cs more refl files refl
      ∙ ap (λ (l : List Run). after I (record W { job = Running (record w { files = []; commands = [] }); runs = l }) more)
      (append_assoc W.runs (run_well c ∷ []) (map run_well cs))

  -- ---- the law

  module _ (W : World) (w : Work) (is : W.job ≡ Running w) where
    ends : AllRender I W.held.live w.files → after I W (calm_turns w.files w.commands) ≡ finished I W w
    ends all =
        all_written W w w.files [] (turns_for w.commands ++ calm_turn ∷ []) is (sym (append-nil w.files)) all
        ∙ all_run (with_written W w w.files []) (record w { files = [] }) w.commands (calm_turn ∷ []) refl refl refl
        ∙ after_files_is (with_run (with_written W w w.files []) (record w { files = [] }) w.commands) (record w { files = []; commands = [] }) []
        refl refl refl

    stops : (front rest : List (List ℕ)) (f : List ℕ) (e : RenderError) → w.files ≡ front ++ f ∷ rest → AllRender I W.held.live front
        → rendered I f W.held.live ≡ Err e → after I W (turns_for front ++ calm_turn ∷ []) ≡ stopped I W front f e
    stops front rest f e files all refused =
        all_written W w front (f ∷ rest) (calm_turn ∷ []) is files all
        ∙ file_turn_is (with_written W w front (f ∷ rest)) (record w { files = f ∷ rest }) f rest (Err e) refl refl refused

pub calm_jobs_end : CalmJobsEnd
calm_jobs_end I W w is = record { ends = ends I W w is; stops = stops I W w is }

module _ (I : Image) (W : World) (rests : is_running W.job ≡ false) (some : owes_none W.held.owed ≡ false) where
  -- The world in which a job of what is owed has begun.
  abbrev at_work : World
  at_work = with_job W (begun I W.held.owed)

  begins : (j : Job) → is_running j ≡ false → asked_for I W.held.owed j ≡ begun I W.held.owed
  begins Idle still = refl
  begins (Failed c) still = refl
  begins (Running w) still = absurd (cc still)

  -- Apply begins a job of what is owed.
  pub applied_begins : applied I W ≡ with_job W (begun I W.held.owed)
  applied_begins = ap (λ (b : Bool). with_job W (if b then Idle else asked_for I W.held.owed W.job)) some ∙ ap (with_job W) (begins W.job rests)

  applied_is : (request_next I W Apply Answered).world ≡ at_work
  unfolding request_next
  applied_is = applied_begins

  applied_pays : AllRender I W.held.live (files_of I.manifest W.held.owed)
      → after I W (Asked Apply Answered ∷ calm_turns (files_of I.manifest W.held.owed) (commands_of I.manifest W.held.owed)) ≡ paid_off I W
  applied_pays all =
      ap (λ (X : World). after I X (calm_turns (files_of I.manifest W.held.owed) (commands_of I.manifest W.held.owed))) applied_is
      ∙ ends I at_work _ refl all

pub calm_applies_pay : CalmAppliesPay
calm_applies_pay I W rests some all = applied_pays I W rests some all
