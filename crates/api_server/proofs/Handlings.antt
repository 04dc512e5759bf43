-- A request that is planned, printed and committed is one event of the machine, and its reply says what the machine replies.
use Rattle.std.proofs.Common.{◌≡◌, false, [], Ok, Err, refl, sym, ◌∙◌, ap, subst}
use Rattle.outside.specs.History.{History}
use Rattle.outside.specs.declared.disk_error.DiskErr.TheVariants as disk
use Rattle.settings_machine.specs.Requests.{Request, Reply}
use Rattle.settings_machine.specs.Step.{Outcome, request_next}
use Rattle.machine_answers.specs.Replies.{reply_of}
use Rattle.machine_answers.specs.declared.answer.Answer.{Answer}
use Rattle.machine_answers.specs.declared.answer.Answer.TheVariants as answer
use Rattle.machine_disk.specs.Ran.{Reopens}
use Rattle.api_http.specs.Replies.{Sent}
use Rattle.api_http.specs.Says.{Says}
use Rattle.api_core.specs.Cores as core
use Rattle.api_core.specs.Cores.{core_state, Commits}
use Rattle.api_core.specs.declared.planned.Effect.{Effect}
use Rattle.api_core.specs.declared.serving.Core.{Core}
use Rattle.api_core.proofs.Commitments.{commits_undone}
use Rattle.api_server.specs.Handled.{sent_of, Fits, IsPrinted, Answers}
use Rattle.api_server.specs.declared.handled.Handled as handled
use Rattle.api_server.specs.declared.handled.Handled.TheVariants.{Answered as Replied, Memory, DiskFault}

-- What the machine answers is no fault of the disk, and no refused opening.
answer_fits : (a : Answer) (h : handled.Handled) → Fits (reply_of a) h
answer_fits (answer.Said body) h = tt
answer_fits (answer.File bytes) h = tt
answer_fits answer.Empty h = tt
answer_fits (answer.Refused refusal) h = tt

module _ (c now : Core) (q : Request) (old new : History) where
  -- It was committed.
  pub answers_printed : c.faulted ≡ false → (sent : Sent) (effect : Effect) → IsPrinted c q sent effect → Commits c q (Ok tt) now old new
      → Answers c q (Replied sent) now old new
  unfolding request_next
  answers_printed calm sent effect printed commits = record {
    event = λ I good holds folder W V kept.
        let e : core.IsEvent I folder W V q (Ok tt) old new (core_state c) (core_state now) = commits.event I good holds folder W V kept in
        let same : (request_next I W q e.outcome).reply ≡ reply_of printed.answer =
        ap (λ (o : Outcome). (request_next I W q o).reply) e.is ∙ printed.replies.by_image I holds folder W V old kept calm in record {
          outcome = e.outcome;
          reopens = subst (λ (o : Outcome). Reopens false o []) (sym e.is) refl;
          says = subst (λ (r : Reply). Says r sent) (sym same) printed.says;
          fits = subst (λ (r : Reply). Fits r (Replied sent)) (sym same) (answer_fits printed.answer (Replied sent));
          ran = e.ran;
        };
  }

  -- A call of the disk failed.
  pub answers_failed : Commits c q (Err disk.Failed) now old new → Answers c q DiskFault now old new
  unfolding request_next
  answers_failed commits = record {
    event = λ I good holds folder W V kept.
        let e : core.IsEvent I folder W V q (Err disk.Failed) old new (core_state c) (core_state now) = commits.event I good holds folder W V kept in record {
          outcome = e.outcome;
          reopens = subst (λ (o : Outcome). Reopens false o []) (sym e.is.1) refl;
          says = subst (λ (o : Outcome). Says (request_next I W q o).reply (sent_of DiskFault)) (sym e.is.1) refl;
          fits = subst (λ (o : Outcome). Fits (request_next I W q o).reply DiskFault) (sym e.is.1) refl;
          ran = e.ran;
        };
  }

  -- It ran out of memory.
  pub answers_memory : Commits c q (Err disk.Memory) now old new → Answers c q Memory now old new
  unfolding request_next
  answers_memory commits = record {
    event = λ I good holds folder W V kept.
        let e : core.IsEvent I folder W V q (Err disk.Memory) old new (core_state c) (core_state now) = commits.event I good holds folder W V kept in record {
          outcome = e.outcome;
          reopens = subst (λ (o : Outcome). Reopens false o []) (sym e.is) refl;
          says = subst (λ (o : Outcome). Says (request_next I W q o).reply (sent_of Memory)) (sym e.is) refl;
          fits = subst (λ (o : Outcome). Fits (request_next I W q o).reply Memory) (sym e.is) refl;
          ran = e.ran;
        };
  }

-- It ran out of memory for its plan or its reply, and nothing happened.
pub answers_unplanned : (c : Core) (q : Request) (h : History) → c.faulted ≡ false → Answers c q Memory c h h
answers_unplanned c q h calm = answers_memory c c q h h (commits_undone c q calm c h h (record { core = refl; disk = refl }))
