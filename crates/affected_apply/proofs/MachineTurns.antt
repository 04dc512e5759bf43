-- One call of a job is one turn of the machine.
use Rattle.std.proofs.Common.{◌≡◌, inl, inr, ⊎_elim, ℕ, zero, suc, true, List, [], ◌∷◌, ◌++◌, Option, Some, Ok, Err, refl, sym, ◌∙◌, ap, subst}
use Rattle.std.specs.FinMap.{insert}
use Rattle.outside.specs.Tree.{file, file_in}
use Rattle.outside.specs.History.{History}
use Rattle.outside.specs.Spawner.{Run}
use Rattle.outside.specs.Told.{Moves}
use Rattle.outside.proofs.Told.{moves_map}
use Rattle.settings_tree.specs.Content.{Contents}
use Rattle.template_eval.specs.Rendered.{Rendered}
use Rattle.template_eval.specs.declared.render_error.RenderError.{RenderError}
use Rattle.settings_machine.specs.World.{Image, World, Work, Job, Running, Failed, path_of, rendered}
use Rattle.settings_machine.specs.declared.cause.Cause.{Cause}
use Rattle.settings_machine.specs.declared.cause.Cause.TheVariants as cause
use Rattle.settings_machine.specs.Step.{Command, Answer, Fine, NoRoom, FileFault, NoSpawn, SyncFault, with_file, with_job, wrote, fits_work}
use Rattle.settings_machine.specs.Step.{file_turn, command_turn, after_files_turn, work_turn, job_turn, last_turn, turn_next}
use Rattle.affected_apply.specs.declared.outcome.Turn.{Turn}
use Rattle.affected_apply.specs.declared.outcome.Turn.TheVariants as turn
use Rattle.affected_apply.specs.Turning.{fine, broken, Puts, ByImage, TurnWrites, FailsFirst, TurnRuns, RunsWords, first_words}
use Rattle.affected_apply.specs.Turning.{FileDone, CommandDone, MayFail, Advances}
use Rattle.settings_machine.specs.Events.{is_disk_fault}
use Rattle.affected_apply.specs.Machine.{fails_with_disk, MakesFiles, IsOneTurn, MakesTurn}

abbrev run_of : List (List ℕ) → ℕ → Run
run_of words status = record { words = words; status = status }

-- No program was run.
no_run : (W : World) (before after : Option (List Run)) → Moves before after (λ (r s : List Run). s ≡ r) → Moves before after (λ r s. r ≡ W.runs → s ≡ W.runs)
no_run W before after same = moves_map (λ r s e is. e ∙ is) same

-- The first of the commands was run.
one_run : (W : World) (c : Command) (cs all : List Command) → all ≡ c ∷ cs → (status : ℕ) (before after : Option (List Run))
    → Moves before after (λ (r s : List Run). RunsWords (first_words all) status r s)
    → Moves before after (λ r s. r ≡ W.runs → s ≡ W.runs ++ run_of c.1.1 status ∷ [])
one_run W c cs all is status before after ran = moves_map
    (λ r s e same. e ∙ ap (λ (l : List Run). l ++ run_of (first_words all) status ∷ []) same
    ∙ ap (λ (l : List Command). W.runs ++ run_of (first_words l) status ∷ []) is)
    ran

module _ (I : Image) (live : Contents) (W : World) (w : Work) (job : W.job ≡ Running w) (lives : W.held.live ≡ live) where
  turned : (a : Answer) → turn_next I W a ≡ work_turn I W w.files w a
  unfolding turn_next
  turned a = ap (λ (j : Job). job_turn I W j a) job

  file_left : (f : List ℕ) (fs : List (List ℕ)) → w.files ≡ f ∷ fs → (a : Answer) → turn_next I W a ≡ file_turn I W f fs w a
  file_left f fs left a = turned a ∙ ap (λ (l : List (List ℕ)). work_turn I W l w a) left

  command_left : (c : Command) (cs : List Command) → w.files ≡ [] → w.commands ≡ c ∷ cs → (a : Answer) → turn_next I W a ≡ command_turn W c cs w a
  command_left c cs no_file left a = turned a ∙ ap (λ (l : List (List ℕ)). work_turn I W l w a) no_file
      ∙ ap (λ (l : List Command). after_files_turn I W l w a) left

  none_left : w.files ≡ [] → w.commands ≡ [] → (a : Answer) → turn_next I W a ≡ last_turn I W w a
  none_left no_file no_command a =
      turned a ∙ ap (λ (l : List (List ℕ)). work_turn I W l w a) no_file ∙ ap (λ (l : List Command). after_files_turn I W l w a) no_command

  -- What fits where a file is left, where a command is, and at the end.
  fits_file : (f : List ℕ) (fs : List (List ℕ)) → w.files ≡ f ∷ fs → (a : Answer) → fits_work a (f ∷ fs) w.commands ≡ true
      → fits_work a w.files w.commands ≡ true
  fits_file f fs left a is = ap (λ (l : List (List ℕ)). fits_work a l w.commands) left ∙ is

  fits_now : (fs : List (List ℕ)) (cs : List Command) → w.files ≡ fs → w.commands ≡ cs → (a : Answer) → fits_work a fs cs ≡ true
      → fits_work a w.files w.commands ≡ true
  fits_now fs cs files commands a is = ap (λ (l : List (List ℕ)). fits_work a l w.commands) files ∙ ap (λ (l : List Command). fits_work a fs l) commands ∙ is

  -- What the file renders to in the world.
  renders_now : (f : List ℕ) (r : Rendered) → rendered I f live ≡ r → rendered I f W.held.live ≡ r
  renders_now f r is = ap (rendered I f) lives ∙ is

  module _ (before after : Option (List Run)) (old new : History) where
    -- The disk and the configuration files stay.
    alone : (fs : List (List ℕ)) → new ≡ old → MakesFiles I fs W.etc W.etc old new
    alone [] same = (refl, same)
    alone (f ∷ fs) same = inl (refl, same)

    -- Nothing but the job changes, which fails.
    stopped : (a : Answer) (c : Cause) (left : Work) → fits_work a w.files w.commands ≡ true → is_disk_fault a ≡ fails_with_disk (turn.Failed c)
        → turn_next I W a ≡ with_job W (Failed c)
        → new ≡ old → Moves before after (λ (r s : List Run). s ≡ r) → IsOneTurn I W w (turn.Failed c) left before after old new
    stopped a c left fitting fault is same none = record {
      answer = a;
      fitting = fitting;
      fault = fault;
      etc = W.etc;
      runs = W.runs;
      is = is;
      disk = alone w.files same;
      spawner = no_run W before after none;
    }

    file_done : (name : List ℕ) (left : Work) → FileDone w name left → Puts I live name fine old new → Moves before after (λ (r s : List Run). s ≡ r)
        → IsOneTurn I W w (turn.Wrote name) left before after old new
    file_done name left done puts none = record {
      answer = Fine 0;
      fitting = refl;
      fault = refl;
      etc = insert W.etc (path_of I name) puts.bytes;
      runs = W.runs;
      is = file_left name left.files done.next (Fine 0)
          ∙ ap (λ (r : Rendered). wrote I W name left.files w r) (renders_now name (Ok puts.bytes) puts.is)
          ∙ ap (λ (x : Work). let X : World = record W { job = Running x; etc = insert W.etc (path_of I name) puts.bytes } in X) (sym done.others);
      disk = subst (λ (l : List (List ℕ)). MakesFiles I l W.etc (insert W.etc (path_of I name) puts.bytes) old new) (sym done.next)
          (inr (record { node = Some (file puts.bytes); on_disk = puts.wrote; files = refl }));
      spawner = no_run W before after none;
    }

    command_done : (service : List ℕ) (index : ℕ) (left : Work) → CommandDone w service index left → new ≡ old
        → Moves before after (λ (r s : List Run). RunsWords (first_words w.commands) 0 r s)
        → IsOneTurn I W w (turn.Ran service index) left before after old new
    command_done service index left done same ran =
        let c : Command = (service, (index, done.words)) in
        record {
          answer = Fine 0;
          fitting = refl;
          fault = refl;
          etc = W.etc;
          runs = W.runs ++ run_of done.words 0 ∷ [];
          is = command_left c left.commands done.no_file done.next (Fine 0)
              ∙ ap (λ (x : Work). let X : World = record W { job = Running x; runs = W.runs ++ run_of done.words 0 ∷ [] } in X) (sym done.others);
          disk = alone w.files same;
          spawner = one_run W c left.commands w.commands done.next 0 before after ran;
        }

    -- The template of the file refuses.
    render_failed : (fs : List (List ℕ)) (cs : List Command) → w.files ≡ fs → (name : List ℕ) (error : RenderError) (left : Work)
        → MayFail fs cs (cause.Render name error) → rendered I name live ≡ Err error → new ≡ old → Moves before after (λ (r s : List Run). s ≡ r)
        → IsOneTurn I W w (turn.Failed (cause.Render name error)) left before after old new
    render_failed (f ∷ fs) cs files name error left may says same none = stopped (Fine 0) (cause.Render name error) left refl refl
        (file_left f fs files (Fine 0)
        ∙ ap (λ (r : Rendered). wrote I W f fs w r) (renders_now f (Err error) (ap (λ (n : List ℕ). rendered I n live) (sym may.0) ∙ says))
        ∙ ap (λ (n : List ℕ). with_job W (Failed (cause.Render n error))) (sym may.0))
        same none
    render_failed [] (c ∷ cs) files name error left may says same none = absurd may
    render_failed [] [] files name error left may says same none = absurd (cc may)

    no_memory : (fs : List (List ℕ)) (cs : List Command) → w.files ≡ fs → w.commands ≡ cs → MayFail fs cs cause.Memory
        → turn_next I W NoRoom ≡ with_job W (Failed cause.Memory)
    no_memory (f ∷ fs) cs files commands may = file_left f fs files NoRoom
    no_memory [] (c ∷ cs) files commands may = command_left c cs files commands NoRoom
    no_memory [] [] files commands may = absurd (cc may)

    -- The write of the file failed.
    put_failed : (f : List ℕ) (fs : List (List ℕ)) → w.files ≡ f ∷ fs → (left : Work) → Puts I live f broken old new
        → Moves before after (λ (r s : List Run). s ≡ r)
        → IsOneTurn I W w (turn.Failed cause.Disk) left before after old new
    put_failed f fs files left puts none = ⊎_elim
        (λ same. stopped SyncFault cause.Disk left (fits_file f fs files SyncFault refl) refl (file_left f fs files SyncFault) same none)
        (λ changed. record {
          answer = FileFault (file_in changed.0);
          fitting = fits_file f fs files (FileFault (file_in changed.0)) refl;
          fault = refl;
          etc = with_file W.etc (path_of I f) (file_in changed.0);
          runs = W.runs;
          is = file_left f fs files (FileFault (file_in changed.0));
          disk = subst (λ (l : List (List ℕ)). MakesFiles I l W.etc (with_file W.etc (path_of I f) (file_in changed.0)) old new) (sym files)
              (inr (record { node = changed.0; on_disk = changed.2; files = refl }));
          spawner = no_run W before after none;
        })
        puts.wrote

    disk_failed : (fs : List (List ℕ)) (cs : List Command) → w.files ≡ fs → w.commands ≡ cs → (left : Work) → MayFail fs cs cause.Disk
        → FailsFirst I live fs old new → Moves before after (λ (r s : List Run). s ≡ r)
        → IsOneTurn I W w (turn.Failed cause.Disk) left before after old new
    disk_failed (f ∷ fs) cs files commands left may failed none = put_failed f fs files left failed none
    disk_failed [] (c ∷ cs) files commands left may failed none = absurd may
    disk_failed [] [] files commands left may failed none = stopped SyncFault cause.Disk left (fits_now [] [] files commands SyncFault refl) refl
        (none_left files commands SyncFault) failed none

    spawn_failed : (fs : List (List ℕ)) (cs : List Command) → w.files ≡ fs → w.commands ≡ cs → (service : List ℕ) (left : Work)
        → MayFail fs cs (cause.Spawn service) → new ≡ old → Moves before after (λ (r s : List Run). s ≡ r)
        → IsOneTurn I W w (turn.Failed (cause.Spawn service)) left before after old new
    spawn_failed (f ∷ fs) cs files commands service left may same none = absurd may
    spawn_failed [] (c ∷ cs) files commands service left may same none =
        stopped NoSpawn (cause.Spawn service) left (fits_now [] (c ∷ cs) files commands NoSpawn refl) refl
        (command_left c cs files commands NoSpawn ∙ ap (λ (n : List ℕ). with_job W (Failed (cause.Spawn n))) (sym may)) same none
    spawn_failed [] [] files commands service left may same none = absurd (cc may)

    status_failed : (fs : List (List ℕ)) (cs : List Command) → w.files ≡ fs → w.commands ≡ cs → (service : List ℕ) (number : ℕ) (left : Work)
        → MayFail fs cs (cause.Status service number) → new ≡ old → Moves before after (λ (r s : List Run). RunsWords (first_words w.commands) number r s)
        → IsOneTurn I W w (turn.Failed (cause.Status service number)) left before after old new
    status_failed (f ∷ fs) cs files commands service number left may same ran = absurd may
    status_failed [] (c ∷ cs) files commands service zero left may same ran = absurd (may.1 refl)
    status_failed [] (c ∷ cs) files commands service (suc n) left may same ran = record {
      answer = Fine (suc n);
      fitting = refl;
      fault = refl;
      etc = W.etc;
      runs = W.runs ++ run_of c.1.1 (suc n) ∷ [];
      is = command_left c cs files commands (Fine (suc n))
          ∙ ap (λ (s : List ℕ). let X : World = record W { job = Failed (cause.Status s (suc n)); runs = W.runs ++ run_of c.1.1 (suc n) ∷ [] } in X)
          (sym may.0);
      disk = alone w.files same;
      spawner = one_run W c cs w.commands commands (suc n) before after ran;
    }
    status_failed [] [] files commands service number left may same ran = absurd (cc may)

    -- A call is one turn, from what it does to what is to do, to the disk and to the programs that were run.
    pub turn_made : (t : Turn) (left : Work) → Advances w t left → ByImage I live w t → TurnWrites I live w t old new → Moves before after (TurnRuns w t)
        → MakesTurn I W w t left before after old new
    turn_made (turn.Wrote name) left done by puts none = file_done name left done puts none
    turn_made (turn.Ran service index) left done by same ran = command_done service index left done same ran
    turn_made turn.Done left done by wrote none = wrote
    turn_made (turn.Failed cause.Disk) left still by failed none = disk_failed w.files w.commands refl refl left still.may failed none
    turn_made (turn.Failed (cause.Render name error)) left still by same none = render_failed w.files w.commands refl name error left still.may by same none
    turn_made (turn.Failed (cause.Spawn service)) left still by same none = spawn_failed w.files w.commands refl refl service left still.may same none
    turn_made (turn.Failed (cause.Status service number)) left still by same ran =
        status_failed w.files w.commands refl refl service number left still.may same ran
    turn_made (turn.Failed cause.Memory) left still by same none = stopped NoRoom cause.Memory left refl refl (no_memory w.files w.commands refl refl still.may)
        same none
