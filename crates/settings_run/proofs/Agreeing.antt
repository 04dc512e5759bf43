-- Calm runs of the same words from the same world come to the same.
use Rattle.std.proofs.Common.{◌≡◌, ◌⊎◌, inl, inr, ℕ, Bool, true, false, if◌then◌else◌, All, List, [], ◌∷◌, ◌++◌, Option, Some, None, Ok, Err}
use Rattle.std.proofs.Common.{refl, sym, ◌∙◌, ap, subst}
use Rattle.std.specs.Prelude.{IsSome}
use Rattle.std.proofs.lemmas.Bool.{false≢true}
use Rattle.std.proofs.lemmas.List.Elements.{All-head, All-tail}
use Rattle.settings_tree.specs.Below.{Values, HasBelow, IsFirstWithout, values_below}
use Rattle.settings_tree.specs.Content.{settings_key}
use Rattle.settings_machine.specs.World.{Image, World, Job, Idle, Failed}
use Rattle.settings_machine.specs.Requests as machine
use Rattle.settings_machine.specs.Requests.{Request, Reply, is_success}
use Rattle.settings_machine.specs.Step as step
use Rattle.settings_machine.specs.Step.{Answered, request_next, opened}
use Rattle.settings_machine.specs.Events.{Event, Asked, next, after}
use Rattle.settings_machine.specs.Verified.{verified}
use Rattle.settings_machine.specs.declared.cause.Cause.TheVariants as cause
use Rattle.settings_machine.specs.declared.refusal.Refusal.{Refusal as Reason}
use Rattle.settings_machine.specs.declared.refusal.Refusal.TheVariants as reason
use Rattle.settings_machine.specs.declared.states.VerifiedFile.{VerifiedFile}
use Rattle.machine_disk.specs.Kept.{Folder}
use Rattle.machine_disk.specs.Ran.{IsDriven, Reopens}
use Rattle.store_open.specs.declared.open_error.OpenError.{OpenError}
use Rattle.store_open.specs.declared.open_error.OpenError.TheVariants as opening
use Rattle.command_outcome.specs.Ends.{Outcome}
use Rattle.command_outcome.specs.declared.refusal.Refusal.TheVariants as refused
use Rattle.command_words.specs.Orders.{Order, set, get, apply, verify}
use Rattle.core_commands.specs.Asking.{asked_all, AllSucceed, Succeeds, Stops}
use Rattle.core_commands.specs.Carried.{HasEnded, Comes, set_requests, apply_requests}
use Rattle.core_commands.specs.Handing.{not_opened}
use Rattle.core_commands.specs.Lines.{IsTreeLine, IsSettingsLine, IsJobLine}
use Rattle.core_commands.specs.Verifying.{Reports, TellsStates}
use Rattle.settings_cmd.specs.Gets.{Answers, asked}
use Rattle.settings_run.specs.Agreeing.{IsCalm, is_of_store, CalmRunsAgree}
use Rattle.settings_run.specs.Events.{IsUnbegun}
use Rattle.settings_run.specs.Headline.{RunsOver}
use Rattle.settings_run.specs.Laws.{IsUnopened, RequestEvents, GetEvents, VerifyEvents}
use Rattle.settings_run.specs.Life.{Invocation, IsRunOf}
use Rattle.settings_run.proofs.Determined.{IsQuiet, one_end}
use Rattle.settings_run.proofs.Lives.{runs_over}
use Rattle.settings_run.proofs.OneTree.{nests_once}

-- ---- requests

module _ (I : Image) where
  -- The first reply to the requests that isn't of success.
  abbrev first_reply : World → List Request → Option Reply
  first_reply W [] = None
  first_reply W (q ∷ qs) =
      if is_success (request_next I W q Answered).reply then first_reply (next I W (Asked q Answered)) qs else Some (request_next I W q Answered).reply

  none_refused : (W : World) (qs : List Request) → AllSucceed I W qs → first_reply W qs ≡ None
  none_refused W [] all = refl
  none_refused W (q ∷ qs) all =
      ap (λ (b : Bool). if b then first_reply (next I W (Asked q Answered)) qs else Some (request_next I W q Answered).reply) all.0
      ∙ none_refused (next I W (Asked q Answered)) qs all.1

  refused_at : (W : World) (first left : List Request) (last : Request) → AllSucceed I W first
      → is_success (request_next I (after I W (asked_all first)) last Answered).reply ≡ false
      → first_reply W (first ++ last ∷ left) ≡ Some (request_next I (after I W (asked_all first)) last Answered).reply
  refused_at W [] left last all fails =
      ap (λ (b : Bool). if b then first_reply (next I W (Asked last Answered)) left else Some (request_next I W last Answered).reply) fails
  refused_at W (q ∷ first) left last all fails =
      ap (λ (b : Bool). if b then first_reply (next I W (Asked q Answered)) (first ++ last ∷ left) else Some (request_next I W q Answered).reply) all.0
      ∙ refused_at (next I W (Asked q Answered)) first left last all.1 fails

  stops_reply : (W : World) (qs : List Request) (r : Reason) (es : List Event) → Stops I W qs (machine.Refused r) es
      → first_reply W qs ≡ Some (machine.Refused r)
  unfolding request_next
  stops_reply W qs r es s = by s.outcome refl where
    by : (o : step.Outcome) → s.outcome ≡ o → first_reply W qs ≡ Some (machine.Refused r)
    by Answered is =
        let here : machine.Refused r ≡ (request_next I (after I W (asked_all s.first)) s.last Answered).reply =
        s.reply_is ∙ ap (λ (o : step.Outcome). (request_next I (after I W (asked_all s.first)) s.last o).reply) is in
        ap (first_reply W) s.all ∙ refused_at W s.first s.left s.last s.answered (sym (ap is_success here)) ∙ ap Some (sym here)
    by step.WithoutMemory is =
        let clash : machine.Refused r ≡ machine.NoMemory =
        s.reply_is ∙ ap (λ (o : step.Outcome). (request_next I (after I W (asked_all s.first)) s.last o).reply) is in absurd (cc clash)
    by (step.Faulted taken) is =
        let clash : machine.Refused r ≡ machine.DiskFault =
        s.reply_is ∙ ap (λ (o : step.Outcome). (request_next I (after I W (asked_all s.first)) s.last o).reply) is in absurd (cc clash)
    by (step.Unopened at) is = absurd (subst (λ (o : step.Outcome). Reopens false o []) is s.opens)

  module _ (W : World) (qs : List Request) where
    never_both : (r : Reason) (es fs : List Event) → Succeeds I W qs es → Stops I W qs (machine.Refused r) fs → ⊥
    never_both r es fs succeeds stops =
        let clash : None ≡ Some (machine.Refused r) = sym (none_refused W qs succeeds.answered) ∙ stops_reply W qs r fs stops in cc clash

    -- Turns until no job runs lead to one world,
    same_end : (j k : Job) → IsQuiet j → IsQuiet k → (es fs gs hs : List Event) → HasEnded I W qs j es fs → HasEnded I W qs k gs hs
        → after I (after I W es) fs ≡ after I (after I W gs) hs
    same_end j k quiet still es fs gs hs a b =
        let same : after I W es ≡ after I W gs = ap (after I W) (a.succeeds.events_are ∙ sym b.succeeds.events_are) in
        one_end I (after I W es) fs hs a.driven (subst (λ (X : World). IsDriven I X hs) (sym same) b.driven) (subst IsQuiet (sym a.job_is) quiet)
        (subst (λ (X : World). IsQuiet (after I X hs).job) (sym same) (subst IsQuiet (sym b.job_is) still))
        ∙ ap (λ (X : World). after I X hs) same

    -- and to one job.
    same_job : (j k : Job) → IsQuiet j → IsQuiet k → (es fs gs hs : List Event) → HasEnded I W qs j es fs → HasEnded I W qs k gs hs → j ≡ k
    same_job j k quiet still es fs gs hs a b =
        sym a.job_is ∙ ap (λ (X : World). X.job) (same_end j k quiet still es fs gs hs a b) ∙ b.job_is

    module _ (Tells : World → List ℕ → Type 0) (once : (X : World) (l m : List ℕ) → Tells X l → Tells X m → l ≡ m) where
      comes_once : (o p : Outcome) (es fs gs hs : List Event) → IsCalm o → IsCalm p → Comes I W qs Tells o es fs → Comes I W qs Tells p gs hs → o ≡ p
      comes_once (Ok l) (Ok m) es fs gs hs calm still a b =
          ap (λ (x : List ℕ). Ok x)
          (once (after I (after I W es) fs) l m a.1
          (subst (λ (X : World). Tells X m) (sym (same_end Idle Idle tt tt es fs gs hs a.0 b.0)) b.1))
      comes_once (Ok l) (Err (refused.Refused r)) es fs gs hs calm still a b = absurd (never_both r es gs a.0.succeeds b.stops)
      comes_once (Ok l) (Err (refused.Render f e)) es fs gs hs calm still a b =
          let clash = same_job Idle (Failed (cause.Render f e)) tt tt es fs gs hs a.0 b in absurd (cc clash)
      comes_once (Err (refused.Refused r)) (Ok m) es fs gs hs calm still a b = absurd (never_both r gs es b.0.succeeds a.stops)
      comes_once (Err (refused.Refused r)) (Err (refused.Refused s)) es fs gs hs calm still a b =
          let both : Some (machine.Refused r) ≡ Some (machine.Refused s) = sym (stops_reply W qs r es a.stops) ∙ stops_reply W qs s gs b.stops in
          let same : r ≡ s = cc both in ap (λ (x : Reason). Err (refused.Refused x)) same
      comes_once (Err (refused.Refused r)) (Err (refused.Render f e)) es fs gs hs calm still a b = absurd (never_both r gs es b.succeeds a.stops)
      comes_once (Err (refused.Render f e)) (Ok m) es fs gs hs calm still a b =
          let clash = same_job (Failed (cause.Render f e)) Idle tt tt es fs gs hs a b.0 in absurd (cc clash)
      comes_once (Err (refused.Render f e)) (Err (refused.Refused s)) es fs gs hs calm still a b = absurd (never_both s es gs a.succeeds b.stops)
      comes_once (Err (refused.Render f e)) (Err (refused.Render g d)) es fs gs hs calm still a b =
          let both : Failed (cause.Render f e) ≡ Failed (cause.Render g d) =
          same_job (Failed (cause.Render f e)) (Failed (cause.Render g d)) tt tt es fs gs hs a b in
          let files : f ≡ g = cc both in
          let errors : e ≡ d = cc both in
          ap (λ (x : List ℕ). Err (refused.Render x e)) files ∙ ap (λ x. Err (refused.Render g x)) errors
      comes_once (Err (refused.NotCurrent lines)) p es fs gs hs calm still a b = absurd a
      comes_once o (Err (refused.NotCurrent lines)) es fs gs hs calm still a b = absurd b
      comes_once (Ok l) (Err refusal) es fs gs hs calm still a b = absurd still
      comes_once (Err (refused.Refused r)) (Err refusal) es fs gs hs calm still a b = absurd still
      comes_once (Err (refused.Render f e)) (Err refusal) es fs gs hs calm still a b = absurd still
      comes_once (Err refusal) p es fs gs hs calm still a b = absurd calm

-- ---- lines

tree_once : (values : Values) (keys : List (List (List ℕ))) (l m : List ℕ) → IsTreeLine values keys l → IsTreeLine values keys m → l ≡ m
tree_once values keys l m a b =
    a.line_is ∙ ap (λ (text : List ℕ). text ++ 10 ∷ []) (nests_once 0 (values_below values keys) a.text b.text a.tree b.tree) ∙ sym b.line_is

settings_once : (X : World) (l m : List ℕ) → IsSettingsLine X l → IsSettingsLine X m → l ≡ m
settings_once X l m a b = tree_once X.held.live.values (settings_key ∷ []) l m a b

job_once : (X : World) (l m : List ℕ) → IsJobLine X l → IsJobLine X m → l ≡ m
job_once X l m a b = a.line_is ∙ ap (λ (text : List ℕ). text ++ 10 ∷ []) (a.job ∙ sym b.job) ∙ sym b.line_is

-- ---- what was opened

no_opening : (e : OpenError) → IsCalm (Err (not_opened e)) → ⊥
no_opening opening.NoStore calm = calm
no_opening (opening.BadLink path) calm = calm
no_opening (opening.BadJournal path) calm = calm
no_opening (opening.Damaged path) calm = calm
no_opening (opening.OldFormat directory) calm = calm
no_opening (opening.BadImage file kind at) calm = calm
no_opening (opening.IllTyped key) calm = calm
no_opening opening.Failed calm = calm
no_opening opening.Memory calm = calm

not_unopened : (o : Outcome) (es : List Event) → IsCalm o → IsUnopened false o es → ⊥
not_unopened o es calm (inl (taken, is, inl told)) = subst IsCalm told calm
not_unopened o es calm (inl (taken, is, inr told)) = subst IsCalm told calm
not_unopened o es calm (inr (is, e, refusal, told)) = no_opening e (subst IsCalm told calm)

not_unbegun : (o : Outcome) (es : List Event) → IsCalm o → IsUnbegun o es → ⊥
not_unbegun o es calm (told, is) = subst IsCalm told calm

module _ (I : Image) (W : World) (o p : Outcome) (es fs : List Event) (calm : IsCalm o) (still : IsCalm p) where
  requests_once : (qs : List Request) (Tells : World → List ℕ → Type 0) → ((X : World) (l m : List ℕ) → Tells X l → Tells X m → l ≡ m)
      → RequestEvents I W qs Tells o es ⊎ IsUnbegun o es → RequestEvents I W qs Tells p fs ⊎ IsUnbegun p fs → o ≡ p
  requests_once qs Tells once (inl (inl (asks, turned, is, comes))) (inl (inl (more, more_turned, are, come))) =
      comes_once I (opened I W false) qs Tells once o p asks turned more more_turned calm still comes come
  requests_once qs Tells once (inl (inr un)) made = absurd (not_unopened o es calm un)
  requests_once qs Tells once (inr un) made = absurd (not_unbegun o es calm un)
  requests_once qs Tells once made (inl (inr un)) = absurd (not_unopened p fs still un)
  requests_once qs Tells once made (inr un) = absurd (not_unbegun p fs still un)

-- ---- get

has_at : (values : Values) (before : List (List (List ℕ))) (key : List (List ℕ)) (after : List (List (List ℕ)))
    → All (HasBelow values) (before ++ key ∷ after) → HasBelow values key
has_at values [] key after all = All-head (HasBelow values) key after all
has_at values (k ∷ before) key after all = has_at values before key after (All-tail (HasBelow values) k (before ++ key ∷ after) all)

never_none : (values : Values) (given : List (List (List ℕ))) (key : List (List ℕ)) → HasBelow values key → IsFirstWithout values given key → ⊥
never_none values given key has first =
    absurd (false≢true (subst IsSome (first.none.none has.key tt has.begins) has.there))

first_once : (values : Values) (b c d f : List (List (List ℕ))) (k l : List (List ℕ)) → b ++ k ∷ c ≡ d ++ l ∷ f → All (HasBelow values) b
    → All (HasBelow values) d → (HasBelow values k → ⊥) → (HasBelow values l → ⊥) → k ≡ l
first_once values [] c [] f k l same one other none none' = cc same
first_once values [] c (x ∷ d) f k l same one other none none' =
    let head : k ≡ x = cc same in absurd (none (subst (HasBelow values) (sym head) (All-head (HasBelow values) x d other)))
first_once values (x ∷ b) c [] f k l same one other none none' =
    let head : x ≡ l = cc same in absurd (none' (subst (HasBelow values) head (All-head (HasBelow values) x b one)))
first_once values (x ∷ b) c (y ∷ d) f k l same one other none none' =
    let tails : b ++ k ∷ c ≡ d ++ l ∷ f = cc same in
    first_once values b c d f k l tails (All-tail (HasBelow values) x b one) (All-tail (HasBelow values) y d other) none none'

answers_once : (values : Values) (given : List (List (List ℕ))) (o p : Outcome) → IsCalm o → IsCalm p → Answers values given o → Answers values given p → o ≡ p
answers_once values given (Ok l) (Ok m) calm still a b = ap (λ (x : List ℕ). Ok x) (tree_once values (asked given) l m a.1 b.1)
answers_once values given (Ok l) (Err (refused.Refused (reason.NoKey key))) calm still a b =
    absurd (never_none values given key (has_at values b.before key b.after (subst (All (HasBelow values)) b.among a.0)) b)
answers_once values given (Err (refused.Refused (reason.NoKey key))) (Ok m) calm still a b =
    absurd (never_none values given key (has_at values a.before key a.after (subst (All (HasBelow values)) a.among b.0)) a)
answers_once values given (Err (refused.Refused (reason.NoKey k))) (Err (refused.Refused (reason.NoKey l))) calm still a b =
    ap (λ (x : List (List ℕ)). Err (refused.Refused (reason.NoKey x)))
    (first_once values a.before a.after b.before b.after k l (sym a.among ∙ b.among) a.others b.others (λ has. never_none values given k has a)
    (λ has. never_none values given l has b))
answers_once values given (Err refused.Memory) p calm still a b = absurd calm
answers_once values given o (Err refused.Memory) calm still a b = absurd still
answers_once values given (Ok l) (Err refusal) calm still a b = absurd b
answers_once values given (Err (refused.Refused (reason.NoKey key))) (Err refusal) calm still a b = absurd b
answers_once values given (Err refusal) p calm still a b = absurd a

-- ---- verify

reports_once : (files : List VerifiedFile) (o p : Outcome) → IsCalm o → IsCalm p → Reports files o → Reports files p → o ≡ p
reports_once files (Ok l) (Ok m) calm still a b = ap (λ (x : List ℕ). Ok x) (a.0 ∙ sym b.0)
reports_once files (Ok l) (Err (refused.NotCurrent m)) calm still a b = absurd (false≢true (sym b.1 ∙ a.1))
reports_once files (Err (refused.NotCurrent l)) (Ok m) calm still a b = absurd (false≢true (sym a.1 ∙ b.1))
reports_once files (Err (refused.NotCurrent l)) (Err (refused.NotCurrent m)) calm still a b = ap (λ (x : List ℕ). Err (refused.NotCurrent x)) (a.0 ∙ sym b.0)
reports_once files (Err refused.Memory) p calm still a b = absurd calm
reports_once files o (Err refused.Memory) calm still a b = absurd still
reports_once files (Ok l) (Err refusal) calm still a b = absurd b
reports_once files (Err (refused.NotCurrent l)) (Err refusal) calm still a b = absurd b
reports_once files (Err refusal) p calm still a b = absurd a

states_of : (I : Image) (X : World) (reading : step.Outcome) (o : Outcome) → IsCalm o → TellsStates I X reading o → Reports (verified I X) o
states_of I X Answered o calm tells = tells
states_of I X step.WithoutMemory o calm tells = absurd (subst IsCalm tells calm)
states_of I X (step.Faulted taken) o calm tells = absurd (subst IsCalm tells calm)
states_of I X (step.Unopened at) o calm tells = absurd tells

-- ---- the runs

module _ (I : Image) (W : World) (o p : Outcome) (es fs : List Event) (calm : IsCalm o) (still : IsCalm p) where
  gets_once : (keys : List (List (List ℕ))) → GetEvents I W keys o es ⊎ IsUnbegun o es → GetEvents I W keys p fs ⊎ IsUnbegun p fs → o ≡ p
  gets_once keys (inl (inl (is, answers))) (inl (inl (are, answer))) = answers_once (opened I W false).held.live.values keys o p calm still answers answer
  gets_once keys (inl (inr un)) made = absurd (not_unopened o es calm un)
  gets_once keys (inr un) made = absurd (not_unbegun o es calm un)
  gets_once keys made (inl (inr un)) = absurd (not_unopened p fs still un)
  gets_once keys made (inr un) = absurd (not_unbegun p fs still un)

  verifies_once : VerifyEvents I W o es ⊎ IsUnbegun o es → VerifyEvents I W p fs ⊎ IsUnbegun p fs → o ≡ p
  verifies_once (inl (inl (reading, opens, is, tells))) (inl (inl (other, reopens, are, tell))) =
      reports_once (verified I (opened I W false)) o p calm still (states_of I (opened I W false) reading o calm tells)
      (states_of I (opened I W false) other p still tell)
  verifies_once (inl (inr un)) made = absurd (not_unopened o es calm un)
  verifies_once (inr un) made = absurd (not_unbegun o es calm un)
  verifies_once made (inl (inr un)) = absurd (not_unopened p fs still un)
  verifies_once made (inr un) = absurd (not_unbegun p fs still un)

module _ (I : Image) (folder below : Folder) (W : World) (one other : Invocation) (calm : IsCalm one.promised.outcome) (still : IsCalm other.promised.outcome)
  where
    abbrev o : Outcome
    o = one.promised.outcome

    abbrev p : Outcome
    p = other.promised.outcome

    by_order : (order : Order) → is_of_store order ≡ true → IsRunOf order I folder W one → IsRunOf order I below W other → o ≡ p
    by_order (set pairs) store r s =
        requests_once I W o p r.events s.events calm still (set_requests pairs) IsSettingsLine settings_once r.machine.made s.machine.made
    by_order (apply all) store r s = requests_once I W o p r.events s.events calm still (apply_requests all) IsJobLine job_once r.machine.made s.machine.made
    by_order (get keys) store r s = gets_once I W o p r.events s.events calm still keys r.machine.made s.machine.made
    by_order verify store r s = verifies_once I W o p r.events s.events calm still r.machine.made s.machine.made
    by_order order store r s = absurd (false≢true store)

    by_runs : (order : Order) → is_of_store order ≡ true → RunsOver order I folder W one.before one.now o one.old one.new
        → RunsOver order I below W other.before other.now p other.old other.new → o ≡ p
    by_runs order store (inl r) (inl s) = by_order order store r s
    by_runs order store (inr fails) s = absurd (subst IsCalm fails.outcome_is calm)
    by_runs order store r (inr fails) = absurd (subst IsCalm fails.outcome_is still)

pub calm_runs_agree : CalmRunsAgree
calm_runs_agree order store I W one other spells spelled folder below rests rested calm still =
    by_runs I folder below W one other calm still order store (runs_over order I folder W one rests spells) (runs_over order I below W other rested spelled)
