-- A request for the states of files is one event of the machine, and its reply says what the machine replies.
use Rattle.std.proofs.Common.{◌≡◌, ◌≢◌, List, [], false, Ok, Err, Option, refl, sym, subst}
use Rattle.outside.specs.History.{History}
use Rattle.outside.specs.Told.{Moves}
use Rattle.outside.specs.declared.disk_error.DiskErr.{DiskErr}
use Rattle.outside.proofs.Told.{moves_stay}
use Rattle.settings_machine.specs.Asked.{request_of}
use Rattle.settings_machine.specs.declared.request.Request as asked
use Rattle.settings_machine.specs.declared.request.Request.TheVariants as request
use Rattle.settings_machine.specs.declared.request.Guard.TheVariants as guard
use Rattle.settings_machine.specs.declared.states.VerifiedFile.{VerifiedFile}
use Rattle.settings_machine.specs.Requests.{Reply, Said, StatesAre, Verify, reads_files}
use Rattle.settings_machine.specs.Step.{Outcome, request_next}
use Rattle.machine_disk.specs.Ran.{Reopens}
use Rattle.api_http.specs.Replies.{Sent}
use Rattle.api_http.specs.Says.{Says}
use Rattle.api_core.specs.Cores.{Commits}
use Rattle.api_core.specs.Verifying.{Verifies}
use Rattle.api_core.specs.declared.serving.Core.{Core}
use Rattle.api_server.specs.Handled.{Fits, Answers}
use Rattle.api_server.specs.declared.handled.Handled.TheVariants.{Answered as Replied, Memory}
use Rattle.api_server.proofs.Handlings.{answers_unplanned}

-- No other request reads files.
pub reads_none : (q : asked.Request) → q ≢ request.Verify → reads_files (request_of q) ≡ false
reads_none request.Verify other = absurd (other refl)
reads_none (request.Commit tx guard.Off) other = refl
reads_none (request.Commit tx guard.Render) other = refl
reads_none (request.CommitAndApply tx guard.Off) other = refl
reads_none (request.CommitAndApply tx guard.Render) other = refl
reads_none (request.Set pairs guard.Off) other = refl
reads_none (request.Set pairs guard.Render) other = refl
reads_none _ other = refl

module _ (c now : Core) (old new : History) where
  -- The states were read and printed.
  pub answers_verified : (files : List VerifiedFile) (sent : Sent) → Says (Said (StatesAre files)) sent → Verifies c (Ok files) now old new
      → Answers c Verify (Replied sent) now old new
  unfolding request_next
  answers_verified files sent says verifies = record {
    event = λ I good holds folder W V kept.
        let done = verifies.by_image I good holds folder W V kept in
        let e = done.event in record {
          outcome = e.outcome;
          reopens = subst (λ (o : Outcome). Reopens false o []) (sym e.is) refl;
          says = subst (λ (o : Outcome). Says (request_next I W Verify o).reply sent) (sym e.is)
              (subst (λ (l : List VerifiedFile). Says (Said (StatesAre l)) sent) done.files says);
          fits = subst (λ (o : Outcome). Fits (request_next I W Verify o).reply (Replied sent)) (sym e.is) tt;
          ran = e.ran;
        };
  }

  -- They were not read.
  pub unverified : (e : DiskErr) → Verifies c (Err e) now old new → Commits c Verify (Err e) now old new
  unverified e verifies = record { event = λ I good holds folder W V kept. (verifies.by_image I good holds folder W V kept).event }

-- There was no memory to print them, and nothing has changed.
pub answers_unprinted : (c now : Core) (a b : Option History) → c.faulted ≡ false → now ≡ c → b ≡ a → Moves a b (Answers c Verify Memory now)
answers_unprinted c now a b calm unchanged same =
    subst (λ (t : Option History). Moves a t (Answers c Verify Memory now)) (sym same)
    (moves_stay (λ h. subst (λ (x : Core). Answers c Verify Memory x h h) (sym unchanged) (answers_unplanned c Verify h calm)))
