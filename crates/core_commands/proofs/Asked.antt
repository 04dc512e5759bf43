-- Requests one after another.
use Rattle.std.proofs.Common.{◌≡◌, ℕ, ◌+◌, ◌<◌, length, get_or, take, drop, true, false, List, [], ◌∷◌, ◌++◌, Result, Ok, Err, refl, sym, ◌∙◌, ap, subst}
use Rattle.std.proofs.lemmas.List.{take_more, drop_more, map-append, take-append-drop}
use Rattle.outside.specs.Faults.{HandsOn}
use Rattle.outside.specs.History.{History}
use Rattle.outside.specs.declared.disk_error.DiskErr.{DiskErr}
use Rattle.outside.specs.declared.disk_error.DiskErr.TheVariants as disk
use Rattle.store_open.specs.Laws.{HoldsImage}
use Rattle.settings_machine.specs.World.{Image, World}
use Rattle.settings_machine.specs.Asked.{request_of}
use Rattle.settings_machine.specs.Requests as machine
use Rattle.settings_machine.specs.Requests.{Request, Reply, is_success}
use Rattle.settings_machine.specs.Step.{Outcome, Answered, request_next}
use Rattle.settings_machine.specs.Events.{Event, Asked, next, after}
use Rattle.settings_machine.specs.Paid.{IsGood}
use Rattle.settings_machine.specs.declared.refusal.Refusal.{Refusal as Reason}
use Rattle.settings_machine.specs.declared.request.Request as asked
use Rattle.machine_answers.specs.Replies.{reply_of}
use Rattle.machine_answers.specs.declared.answer.Answer.{Answer}
use Rattle.machine_answers.specs.declared.answer.Answer.TheVariants as answer
use Rattle.machine_disk.specs.Kept.{Folder, Kept}
use Rattle.machine_disk.specs.Ran.{Ran, Reopens}
use Rattle.machine_disk.proofs.Runs.{ran_none, ran_more}
use Rattle.command_outcome.specs.declared.refusal.Refusal.{Refusal}
use Rattle.command_outcome.specs.declared.refusal.Refusal.TheVariants as refused
use Rattle.api_core.specs.Cores.{core_state, IsEvent, Commits}
use Rattle.api_core.specs.Plans.{Replies}
use Rattle.api_core.specs.declared.serving.Core.{Core}
use Rattle.api_core.proofs.Commitments.{commits_undone}
use Rattle.core_commands.specs.Asking.{requests, asked_all, AllSucceed, Succeeds, Stops, AskedBy, AsksEach, AsksOne, AskedOneBy, AsksFor, TellsReply}
use Rattle.core_commands.specs.Handing.{Tells}

asked-append : (qs ps : List Request) → asked_all (qs ++ ps) ≡ asked_all qs ++ asked_all ps
asked-append [] ps = refl
asked-append (q ∷ qs) ps = ap (λ (l : List Event). Asked q Answered ∷ l) (asked-append qs ps)

-- One more request that is answered with success.
succeed_more : (I : Image) (W : World) (qs : List Request) (q : Request) → AllSucceed I W qs
    → is_success (request_next I (after I W (asked_all qs)) q Answered).reply ≡ true
    → AllSucceed I W (qs ++ q ∷ [])
succeed_more I W [] q all is = (is, tt)
succeed_more I W (p ∷ qs) q all is = (all.0, succeed_more I (next I W (Asked p Answered)) qs q all.1 is)

-- ---- one request

module _ {T : Type 0} (q : Request) (Of : Reply → T → Type 0) (c now : Core) (old new : History) (calm : c.faulted ≡ false) (image : now.image ≡ c.image) where
  -- It was planned and committed, and answered with success,
  asks_done : (a : Answer) → Replies c q a → is_success (reply_of a) ≡ true → (value : T) → Of (reply_of a) value → Commits c q (Ok tt) now old new
      → AsksFor q Of (Ok value) c now old new
  unfolding request_next
  asks_done a replies success value of commits = record {
    each = λ I good holds folder W V kept.
        let e : IsEvent I folder W V q (Ok tt) old new (core_state c) (core_state now) = commits.event I good holds folder W V kept in
        let same : (request_next I W q Answered).reply ≡ reply_of a = replies.by_image I holds folder W V old kept calm in record {
          outcome = e.outcome;
          opens = subst (λ (o : Outcome). Reopens false o []) (sym e.is) refl;
          asks = (e.is, subst (λ (r : Reply). is_success r ≡ true) (sym same) success, subst (λ (r : Reply). Of r value) (sym same) of);
          made = e.ran;
          holds = subst (HoldsImage I) (sym image) holds;
        };
  }

  -- or refused by the machine.
  asks_refused : (r : Reason) → Replies c q (answer.Refused r) → Commits c q (Ok tt) now old new → AsksFor q Of (Err (refused.Refused r)) c now old new
  unfolding request_next
  asks_refused r replies commits = record {
    each = λ I good holds folder W V kept.
        let e : IsEvent I folder W V q (Ok tt) old new (core_state c) (core_state now) = commits.event I good holds folder W V kept in
        let same : (request_next I W q e.outcome).reply ≡ machine.Refused r =
        ap (λ (o : Outcome). (request_next I W q o).reply) e.is ∙ replies.by_image I holds folder W V old kept calm in record {
          outcome = e.outcome;
          opens = subst (λ (o : Outcome). Reopens false o []) (sym e.is) refl;
          asks = (subst (λ (x : Reply). is_success x ≡ false) (sym same) refl, subst (λ (x : Reply). Tells x (refused.Refused r)) (sym same) refl);
          made = e.ran;
          holds = subst (HoldsImage I) (sym image) holds;
        };
  }

  -- A call of the disk failed.
  asks_failed : Commits c q (Err disk.Failed) now old new → AsksFor q Of (Err refused.Disk) c now old new
  unfolding request_next
  asks_failed commits = record {
    each = λ I good holds folder W V kept.
        let e : IsEvent I folder W V q (Err disk.Failed) old new (core_state c) (core_state now) = commits.event I good holds folder W V kept in record {
          outcome = e.outcome;
          opens = subst (λ (o : Outcome). Reopens false o []) (sym e.is.1) refl;
          asks = subst (λ (o : Outcome). (is_success (request_next I W q o).reply ≡ false) × Tells (request_next I W q o).reply refused.Disk) (sym e.is.1)
              (refl, refl);
          made = e.ran;
          holds = subst (HoldsImage I) (sym image) holds;
        };
  }

  -- It ran out of memory.
  pub asks_memory : Commits c q (Err disk.Memory) now old new → AsksFor q Of (Err refused.Memory) c now old new
  unfolding request_next
  asks_memory commits = record {
    each = λ I good holds folder W V kept.
        let e : IsEvent I folder W V q (Err disk.Memory) old new (core_state c) (core_state now) = commits.event I good holds folder W V kept in record {
          outcome = e.outcome;
          opens = subst (λ (o : Outcome). Reopens false o []) (sym e.is) refl;
          asks = subst (λ (o : Outcome). (is_success (request_next I W q o).reply ≡ false) × Tells (request_next I W q o).reply refused.Memory) (sym e.is)
              (refl, refl);
          made = e.ran;
          holds = subst (HoldsImage I) (sym image) holds;
        };
  }

  -- It was planned and committed, and this is reported of its answer;
  pub asks_told : (a : Answer) (result : Result T Refusal) → Replies c q a → TellsReply Of (reply_of a) result → Commits c q (Ok tt) now old new
      → AsksFor q Of result c now old new
  asks_told (answer.Said body) (Ok value) replies told commits = asks_done (answer.Said body) replies refl value told commits
  asks_told (answer.File bytes) (Ok value) replies told commits = asks_done (answer.File bytes) replies refl value told commits
  asks_told answer.Empty (Ok value) replies told commits = asks_done answer.Empty replies refl value told commits
  asks_told (answer.Refused r) (Err refusal) replies told commits =
      subst (λ (x : Refusal). AsksFor q Of (Err x) c now old new) (sym told) (asks_refused r replies commits)
  asks_told (answer.Refused r) (Ok value) replies told commits = absurd told
  asks_told (answer.Said body) (Err refusal) replies told commits = absurd told
  asks_told (answer.File bytes) (Err refusal) replies told commits = absurd told
  asks_told answer.Empty (Err refusal) replies told commits = absurd told

  -- or it was not committed.
  pub asks_uncommitted : (e : DiskErr) (refusal : Refusal) → HandsOn refused.Disk refused.Memory e refusal → Commits c q (Err e) now old new
      → AsksFor q Of (Err refusal) c now old new
  asks_uncommitted disk.Failed refusal is commits = subst (λ (x : Refusal). AsksFor q Of (Err x) c now old new) (sym is) (asks_failed commits)
  asks_uncommitted disk.Memory refusal is commits = subst (λ (x : Refusal). AsksFor q Of (Err x) c now old new) (sym is) (asks_memory commits)

-- It was not planned, because it ran out of memory.
pub asks_unplanned : {T : Type 0} (q : Request) (Of : Reply → T → Type 0) (c : Core) (h : History) → c.faulted ≡ false
    → AsksFor q Of (Err refused.Memory) c c h h
asks_unplanned q Of c h calm = asks_memory q Of c c h h calm refl (commits_undone c q calm c h h (record { core = refl; disk = refl }))

-- ---- one after another

-- Before the first request.
pub none_asked : (c : Core) (old : History) → AsksEach [] (Ok tt) c c old old
none_asked c old = record {
  each = λ I good holds folder W V kept.
      record { events = []; asks = record { events_are = refl; answered = tt }; made = ran_none I folder W V old (core_state c) kept; holds = holds };
}

-- Requests, and one more.
pub record OneMore {T : Type 0} (I : Image) (folder : Folder) (W V : World) (qs : List Request) (q : Request) (Of : Reply → T → Type 0)
    (result : Result T Refusal)
    (first now : Core) (old new : History) : Type 0 where
  pub events : List Event
  pub succeeds : Succeeds I W qs events
  pub outcome : Outcome
  pub opens : Reopens false outcome []
  pub asks : AsksOne I (after I W events) q Of result outcome
  pub made : Ran I folder W V (events ++ Asked q outcome ∷ []) old new (core_state first) (core_state now)
  pub holds : HoldsImage I now.image

pub one_more : {T : Type 0} (qs : List Request) (q : Request) (Of : Reply → T → Type 0) (result : Result T Refusal) (first mid now : Core)
    (old between new : History)
    → AsksEach qs (Ok tt) first mid old between → AsksFor q Of result mid now between new
    → (I : Image) → IsGood I → HoldsImage I first.image → (folder : Folder) (W V : World) → Kept I folder W V old (core_state first)
    → OneMore I folder W V qs q Of result first now old new
one_more qs q Of result first mid now old between new so_far asks I good holds folder W V kept =
    let a : AskedBy I folder W V qs (Ok tt) first mid old between = so_far.each I good holds folder W V kept in
    let o : AskedOneBy I folder (after I W a.events) a.made.other q Of result mid now between new =
    asks.each I good a.holds folder (after I W a.events) a.made.other a.made.kept in record {
      events = a.events;
      succeeds = a.asks;
      outcome = o.outcome;
      opens = o.opens;
      asks = o.asks;
      made = ran_more I folder W V a.events (Asked q o.outcome ∷ []) old between new (core_state first) (core_state mid) (core_state now) a.made o.made;
      holds = o.holds;
    }

module _ {T : Type 0} (I : Image) (W : World) (qs : List Request) (q : Request) (Of : Reply → T → Type 0) (events : List Event) (s : Succeeds I W qs events)
    (outcome : Outcome) where
  at_asked : after I W events ≡ after I W (asked_all qs)
  at_asked = ap (after I W) s.events_are

  -- The last one was answered with success.
  pub all_succeed : (value : T) → AsksOne I (after I W events) q Of (Ok value) outcome → Succeeds I W (qs ++ q ∷ []) (events ++ Asked q outcome ∷ [])
  all_succeed value asks = record {
    events_are = ap (λ (o : Outcome). events ++ Asked q o ∷ []) asks.0 ∙ ap (λ (l : List Event). l ++ Asked q Answered ∷ []) s.events_are
        ∙ sym (asked-append qs (q ∷ []));
    answered = succeed_more I W qs q s.answered (subst (λ (X : World). is_success (request_next I X q Answered).reply ≡ true) at_asked asks.1);
  }

  -- It was not, and the others are not asked.
  pub last_stops : (left all : List Request) → all ≡ qs ++ q ∷ left → Reopens false outcome [] → (refusal : Refusal)
      → AsksOne I (after I W events) q Of (Err refusal) outcome
      → Stops I W all (request_next I (after I W events) q outcome).reply (events ++ Asked q outcome ∷ [])
  last_stops left all whole opens refusal asks = record {
    first = qs;
    last = q;
    left = left;
    all = whole;
    answered = s.answered;
    outcome = outcome;
    opens = opens;
    reply_is = ap (λ (X : World). (request_next I X q outcome).reply) at_asked;
    refused = asks.0;
    events_are = ap (λ (l : List Event). l ++ Asked q outcome ∷ []) s.events_are;
  }

-- ---- the requests up to one of them

-- One more,
requests_more : (asks : List asked.Request) (i : ℕ) (d : asked.Request) → i < length asks → requests (take (i + 1) asks) ≡ requests (take i asks) ++ request_of
    (get_or asks i d) ∷ []
requests_more asks i d below = ap requests (take_more asks i d below) ∙ map-append request_of (take i asks) (get_or asks i d ∷ [])

-- and those after it.
requests_split : (asks : List asked.Request) (i : ℕ) (d : asked.Request) → i < length asks
    → requests asks ≡ requests (take i asks) ++ request_of (get_or asks i d) ∷ requests (drop (i + 1) asks)
requests_split asks i d below =
    ap requests (sym (take-append-drop i asks) ∙ ap (λ (l : List asked.Request). take i asks ++ l) (drop_more asks i d below))
    ∙ map-append request_of (take i asks) (get_or asks i d ∷ drop (i + 1) asks)

-- One more request of the list was answered with success.
pub asked_more : {T : Type 0} (Of : Reply → T → Type 0) (value : T) (asks : List asked.Request) (i : ℕ) (ask : asked.Request) → i < length asks
    → ask ≡ get_or asks i ask
    → (first mid now : Core) (old between new : History) → AsksEach (requests (take i asks)) (Ok tt) first mid old between
    → AsksFor (request_of ask) Of (Ok value) mid now between new → AsksEach (requests (take (i + 1) asks)) (Ok tt) first now old new
asked_more Of value asks i ask below is first mid now old between new so_far one =
    let qs = requests (take i asks) in
    let more : requests (take (i + 1) asks) ≡ qs ++ request_of ask ∷ [] =
    requests_more asks i ask below ∙ ap (λ (a : asked.Request). qs ++ request_of a ∷ []) (sym is) in
    subst (λ (l : List Request). AsksEach l (Ok tt) first now old new) (sym more) (record {
      each = λ I good holds folder W V kept.
          let m = one_more qs (request_of ask) Of (Ok value) first mid now old between new so_far one I good holds folder W V kept in record {
            events = m.events ++ Asked (request_of ask) m.outcome ∷ [];
            asks = all_succeed I W qs (request_of ask) Of m.events m.succeeds m.outcome value m.asks;
            made = m.made;
            holds = m.holds;
          };
    })

-- One was not.
pub asked_last : {T : Type 0} (Of : Reply → T → Type 0) (refusal : Refusal) (asks : List asked.Request) (i : ℕ) (ask : asked.Request) → i < length asks
    → ask ≡ get_or asks i ask
    → (first mid now : Core) (old between new : History) → AsksEach (requests (take i asks)) (Ok tt) first mid old between
    → AsksFor (request_of ask) Of (Err refusal) mid now between new → AsksEach (requests asks) (Err refusal) first now old new
asked_last Of refusal asks i ask below is first mid now old between new so_far one = record {
  each = λ I good holds folder W V kept.
      let qs = requests (take i asks) in
      let whole : requests asks ≡ qs ++ request_of ask ∷ requests (drop (i + 1) asks) =
      requests_split asks i ask below ∙ ap (λ (a : asked.Request). qs ++ request_of a ∷ requests (drop (i + 1) asks)) (sym is) in
      let m = one_more qs (request_of ask) Of (Err refusal) first mid now old between new so_far one I good holds folder W V kept in record {
        events = m.events ++ Asked (request_of ask) m.outcome ∷ [];
        asks = (
          (request_next I (after I W m.events) (request_of ask) m.outcome).reply,
          m.asks.1,
          last_stops I W qs (request_of ask) Of m.events m.succeeds m.outcome (requests (drop (i + 1) asks)) (requests asks) whole m.opens refusal m.asks,
        );
        made = m.made;
        holds = m.holds;
      };
}
