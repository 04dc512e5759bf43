-- Events that are counted, from their parts.
use Rattle.std.proofs.Common.{◌≡◌, ◌≢◌, ◌||◌, ◌&&◌, ℕ, ◌+◌, ◌≤◌, length, Bool, true, false, nat_lt}
use Rattle.std.proofs.Common.{List, [], ◌∷◌, ◌++◌, Some, inl, inr, refl, sym, ◌∙◌, ap, subst, arith}
use Rattle.std.proofs.lemmas.List.{append-nil}
use Rattle.outside.specs.Door.{LastBy}
use Rattle.outside.specs.Exchange.{Exchange, fresh}
use Rattle.outside.specs.History.{History}
use Rattle.outside.specs.Spawner.{Run}
use Rattle.api_http.specs.Replies.{Sent, is_of_success}
use Rattle.api_http.specs.Requests.{Asks}
use Rattle.api_http.specs.Says.{Says}
use Rattle.api_http.proofs.Said.{says_success}
use Rattle.event_lines.specs.Logs.{LogState}
use Rattle.api_server.specs.Handled.{Fits, IsHandled, Handles}
use Rattle.api_server.specs.Hearing.{input_of, IsHeard}
use Rattle.api_server.specs.declared.handled.Handled.TheVariants as came
use Rattle.api_server.specs.declared.hearing.Heard.TheVariants as heard
use Rattle.settings_machine.specs.Asked.{request_of}
use Rattle.settings_machine.specs.declared.request.Request as asked
use Rattle.settings_machine.specs.World.{Image, World, Work, Job, Idle, Failed, Running, is_running}
use Rattle.settings_machine.specs.Requests.{Request, Reply, is_success}
use Rattle.settings_machine.specs.declared.cause.Cause.{Cause}
use Rattle.settings_machine.specs.declared.cause.Cause.TheVariants as cause
use Rattle.settings_machine.specs.Step.{Outcome, Answered, WithoutMemory, Unopened, Faulted, request_next}
use Rattle.settings_machine.specs.Step.{Answer, Fine, NoRoom, FileFault, NoSpawn, SyncFault, OwedFault}
use Rattle.settings_machine.specs.Step.{Command, after_files_turn, work_turn, job_turn, turn_next}
use Rattle.settings_machine.specs.Events.{Event, Opened, Asked, Unread, Turned, Began, Moved, Forgot, next, after}
use Rattle.settings_machine.specs.Paid.{IsGood}
use Rattle.settings_machine.proofs.Programs.{request_runs}
use Rattle.settings_machine.proofs.Sequences.{after-append}
use Rattle.machine_disk.specs.Kept.{Folder, Kept}
use Rattle.machine_disk.specs.Ran.{Ran, Reopens, Handled, IsSlice}
use Rattle.machine_disk.proofs.Runs.{ran_none, ran_more}
use Rattle.store_open.specs.Laws.{HoldsImage}
use Rattle.affected_apply.specs.Jobs.{failed_with_disk}
use Rattle.api_core.specs.Cores.{core_state}
use Rattle.api_core.specs.Turned.{IsTurned, Turns}
use Rattle.api_core.specs.declared.serving.Core.{Core}
use Rattle.load_input.specs.declared.counts.Counts.{Counts}
use Rattle.load_input.specs.Counts.{no_counts, with_reply, with_turn, with_event, with_events}
use Rattle.load_input.specs.Counted.{IsAskedBy, AreAskedBy, requests_in, AskedIdle, IsFine, WentWell, CountedBy, Counted}
use Rattle.api_server.proofs.Lasts.{head_same}

clash : (b : Bool) → b ≡ false → b ≡ true → ⊥
clash true off on = absurd (cc off)
clash false off on = absurd (cc on)

counts-append : (I : Image) (W : World) (es fs : List Event) (n : Counts) → with_events I W (es ++ fs) n ≡ with_events I (after I W es) fs
    (with_events I W es n)
counts-append I W [] fs n = refl
counts-append I W (e ∷ es) fs n = counts-append I (next I W e) es fs (with_event I W e n)

idle-append : (I : Image) (W : World) (es fs : List Event) → AskedIdle I W es → AskedIdle I (after I W es) fs → AskedIdle I W (es ++ fs)
idle-append I W [] fs first second = second
idle-append I W (Asked q o ∷ es) fs first second = (first.0, idle-append I (next I W (Asked q o)) es fs first.1 second)
idle-append I W (Opened boot o ∷ es) fs first second = idle-append I (next I W (Opened boot o)) es fs first second
idle-append I W (Unread why ∷ es) fs first second = idle-append I (next I W (Unread why)) es fs first second
idle-append I W (Turned a ∷ es) fs first second = idle-append I (next I W (Turned a)) es fs first second
idle-append I W (Began v ∷ es) fs first second = idle-append I (next I W (Began v)) es fs first second
idle-append I W (Moved v held ∷ es) fs first second = idle-append I (next I W (Moved v held)) es fs first second
idle-append I W (Forgot keys ∷ es) fs first second = idle-append I (next I W (Forgot keys)) es fs first second

well-append : (es fs : List Event) → WentWell es → WentWell fs → WentWell (es ++ fs)
well-append [] fs first second = second
well-append (Asked q o ∷ es) fs first second = (first.0, well-append es fs first.1 second)
well-append (Turned a ∷ es) fs first second = (first.0, well-append es fs first.1 second)
well-append (Opened boot o ∷ es) fs first second = absurd first
well-append (Unread why ∷ es) fs first second = absurd first
well-append (Began v ∷ es) fs first second = absurd first
well-append (Moved v held ∷ es) fs first second = absurd first
well-append (Forgot keys ∷ es) fs first second = absurd first

requests-append : (es fs : List Event) → requests_in (es ++ fs) ≡ requests_in es ++ requests_in fs
requests-append [] fs = refl
requests-append (Asked q o ∷ es) fs = ap (λ (qs : List Request). q ∷ qs) (requests-append es fs)
requests-append (Opened boot o ∷ es) fs = requests-append es fs
requests-append (Unread why ∷ es) fs = requests-append es fs
requests-append (Turned a ∷ es) fs = requests-append es fs
requests-append (Began v ∷ es) fs = requests-append es fs
requests-append (Moved v held ∷ es) fs = requests-append es fs
requests-append (Forgot keys ∷ es) fs = requests-append es fs

both_asked : (bs cs : List (List ℕ)) (qs ps : List Request) → AreAskedBy bs qs → AreAskedBy cs ps → AreAskedBy (bs ++ cs) (qs ++ ps)
both_asked [] cs [] ps first second = second
both_asked [] cs (q ∷ qs) ps first second = absurd first
both_asked (b ∷ bs) cs [] ps first second = absurd first
both_asked (b ∷ bs) cs (q ∷ qs) ps first second = (first.0, both_asked bs cs qs ps first.1 second)

asked-append : (bs cs : List (List ℕ)) (es fs : List Event) → AreAskedBy bs (requests_in es) → AreAskedBy cs (requests_in fs)
    → AreAskedBy (bs ++ cs) (requests_in (es ++ fs))
asked-append bs cs es fs first second =
    subst (AreAskedBy (bs ++ cs)) (sym (requests-append es fs)) (both_asked bs cs (requests_in es) (requests_in fs) first second)

-- Before the first event.
pub counted_none : (c : Core) (n : Counts) (runs : List Run) (h : History) → Counted [] c c n n runs runs h h
counted_none c n runs h = record { each = by } where
  by : (I : Image) → IsGood I → HoldsImage I c.image → (folder : Folder) (W V : World) → Kept I folder W V h (core_state c) → runs ≡ W.runs
      → CountedBy I folder W V [] c c n n runs h h
  by I good of folder W V kept are = record {
    events = [];
    made = ran_none I folder W V h (core_state c) kept;
    runs = are;
    counts = refl;
    asked = tt;
    idle = tt;
    well = tt;
    image = of;
  }

-- Some, and then others.
pub counted_then : (bs cs : List (List ℕ)) (c mid now : Core) (n m k : Counts) (r s t : List Run) (old between new : History)
    → Counted bs c mid n m r s old between → Counted cs mid now m k s t between new → Counted (bs ++ cs) c now n k r t old new
counted_then bs cs c mid now n m k r s t old between new one two = record { each = by } where
  by : (I : Image) → IsGood I → HoldsImage I c.image → (folder : Folder) (W V : World) → Kept I folder W V old (core_state c) → r ≡ W.runs
      → CountedBy I folder W V (bs ++ cs) c now n k t old new
  by I good of folder W V kept are =
      let a : CountedBy I folder W V bs c mid n m s old between = one.each I good of folder W V kept are in
      let X = after I W a.events in
      let b : CountedBy I folder X a.made.other cs mid now m k t between new = two.each I good a.image folder X a.made.other a.made.kept a.runs in
      record {
        events = a.events ++ b.events;
        made = ran_more I folder W V a.events b.events old between new (core_state c) (core_state mid) (core_state now) a.made b.made;
        runs = b.runs ∙ ap (λ (Z : World). Z.runs) (sym (after-append I W a.events b.events));
        counts = b.counts ∙ ap (λ (x : Counts). with_events I X b.events x) a.counts ∙ sym (counts-append I W a.events b.events n);
        asked = asked-append bs cs a.events b.events a.asked b.asked;
        idle = idle-append I W a.events b.events a.idle b.idle;
        well = well-append a.events b.events a.well b.well;
        image = b.image;
      }

-- Where no call of the disk has failed, no opening comes before the request.
alone : (o : Outcome) (first : List Event) → Reopens false o first → (first ≡ []) × Reopens false o []
alone Answered first is = (is, refl)
alone WithoutMemory first is = (is, refl)
alone (Unopened at) first is = absurd is
alone (Faulted taken) first is = (is, refl)

-- The machine answered a request that is replied as answered.
answered_well : (I : Image) (W : World) (q : Request) (o : Outcome) (sent : Sent) → Fits (request_next I W q o).reply (came.Answered sent) → o ≡ Answered
unfolding request_next
answered_well I W q Answered sent fits = refl
answered_well I W q WithoutMemory sent fits = absurd (cc fits)
answered_well I W q (Unopened at) sent fits = absurd fits
answered_well I W q (Faulted taken) sent fits = absurd (cc fits)

-- One request, where no call of the disk has failed: its reply is one of success or not.
pub counted_reply : (bytes : List ℕ) (c now : Core) (q : Request) (sent : Sent) (fine : Bool) (n m : Counts) (runs : List Run) (log log_after : LogState)
    (old new : History) → c.faulted ≡ false
    → (core_state c).job ≡ Idle → IsAskedBy bytes q → is_of_success sent.status ≡ fine → m ≡ with_reply fine n
    → Handles c q (came.Answered sent) now log log_after old new → Counted (bytes ∷ []) c now n m runs runs old new
counted_reply bytes c now q sent fine n m runs log log_after old new calm idle by_bytes success is handles = record { each = by } where
  by : (I : Image) → IsGood I → HoldsImage I c.image → (folder : Folder) (W V : World) → Kept I folder W V old (core_state c) → runs ≡ W.runs
      → CountedBy I folder W V (bytes ∷ []) c now n m runs old new
  by I good of folder W V kept are =
      let h : IsHandled I folder W V q (came.Answered sent) c now log log_after old new =
      handles.each I good of folder (λ faulted opened. absurd (clash c.faulted calm faulted)) W V kept in
      let e : Handled I c.faulted W q h.replied h.events = h.handled_by in
      let a : (e.first ≡ []) × Reopens false e.outcome [] = alone e.outcome e.first (subst (λ (b : Bool). Reopens b e.outcome e.first) calm e.reopens) in
      let made : h.events ≡ Asked q e.outcome ∷ [] = e.made ∙ ap (λ (l : List Event). l ++ Asked q e.outcome ∷ []) a.0 in
      let replied : h.replied ≡ (request_next I W q e.outcome).reply = e.replied ∙ ap (λ (l : List Event). (request_next I (after I W l) q e.outcome).reply) a.0
      in
      let says : Says (request_next I W q e.outcome).reply sent = subst (λ (r : Reply). Says r sent) replied h.says in
      let told : fine ≡ is_success (request_next I W q e.outcome).reply = sym success ∙ says_success (request_next I W q e.outcome).reply sent says in
      record {
        events = Asked q e.outcome ∷ [];
        made = subst (λ (l : List Event). Ran I folder W V l old new (core_state c) (core_state now)) made h.made;
        runs = are ∙ sym (request_runs I W q e.outcome);
        counts = is ∙ ap (λ (b : Bool). with_reply b n) told;
        asked = (by_bytes, tt);
        idle = (ap is_running (sym kept.core.job ∙ idle), tt);
        well = (answered_well I W q e.outcome sent (subst (λ (r : Reply). Fits r (came.Answered sent)) replied h.fits), tt);
        image = h.image;
      }

-- ---- one turn

-- A turn after which the job has not failed went well.
module _ (I : Image) (W : World) where
  commands_fine : (w : Work) (cs : List Command) (a : Answer) → ((c : Cause) → (after_files_turn I W cs w a).job ≢ Failed c) → IsFine a
  commands_fine w cs (Fine status) unfailed = tt
  commands_fine w [] NoRoom unfailed = unfailed cause.Memory refl
  commands_fine w [] (FileFault left) unfailed = unfailed cause.Disk refl
  commands_fine w [] NoSpawn unfailed = unfailed cause.Disk refl
  commands_fine w [] SyncFault unfailed = unfailed cause.Disk refl
  commands_fine w [] (OwedFault stored) unfailed = unfailed cause.Disk refl
  commands_fine w (c ∷ cs) NoRoom unfailed = unfailed cause.Memory refl
  commands_fine w (c ∷ cs) (FileFault left) unfailed = unfailed cause.Disk refl
  commands_fine w (c ∷ cs) NoSpawn unfailed = unfailed (cause.Spawn c.0) refl
  commands_fine w (c ∷ cs) SyncFault unfailed = unfailed cause.Disk refl
  commands_fine w (c ∷ cs) (OwedFault stored) unfailed = unfailed cause.Disk refl

  work_fine : (w : Work) (files : List (List ℕ)) (a : Answer) → ((c : Cause) → (work_turn I W files w a).job ≢ Failed c) → IsFine a
  work_fine w [] a unfailed = commands_fine w w.commands a unfailed
  work_fine w (f ∷ fs) (Fine status) unfailed = tt
  work_fine w (f ∷ fs) NoRoom unfailed = unfailed cause.Memory refl
  work_fine w (f ∷ fs) (FileFault left) unfailed = unfailed cause.Disk refl
  work_fine w (f ∷ fs) NoSpawn unfailed = unfailed cause.Disk refl
  work_fine w (f ∷ fs) SyncFault unfailed = unfailed cause.Disk refl
  work_fine w (f ∷ fs) (OwedFault stored) unfailed = unfailed cause.Disk refl

  job_fine : (j : Job) (a : Answer) → is_running j ≡ true → ((c : Cause) → (job_turn I W j a).job ≢ Failed c) → IsFine a
  job_fine Idle a running unfailed = absurd (cc running)
  job_fine (Failed c) a running unfailed = absurd (cc running)
  job_fine (Running w) a running unfailed = work_fine w w.files a unfailed

  turn_fine : (a : Answer) → is_running W.job ≡ true → ((c : Cause) → (turn_next I W a).job ≢ Failed c) → IsFine a
  unfolding turn_next
  turn_fine a running unfailed = job_fine W.job a running unfailed

-- No call of the disk has failed, where none had and the job has not failed.
pub calm_after : (before now ran : Bool) (job : Job) → now ≡ (before || (ran && failed_with_disk job)) → before ≡ false → ((c : Cause) → job ≢ Failed c)
    → now ≡ false
calm_after before now ran job is calm unfailed = by ran job unfailed (is ∙ ap (λ (b : Bool). b || (ran && failed_with_disk job)) calm) where
  by : (r : Bool) (j : Job) → ((c : Cause) → j ≢ Failed c) → now ≡ (false || (r && failed_with_disk j)) → now ≡ false
  by false j other e = e
  by true Idle other e = e
  by true (Running w) other e = e
  by true (Failed c) other e = absurd (other c refl)

none_left : (I : Image) (W : World) (e : Event) (es : List Event) → IsSlice I 0 W (e ∷ es) → ⊥
none_left I W (Turned a) es is = let below : 1 ≤ 0 = is.0 in omega (arith, below)
none_left I W (Opened boot o) es is = is
none_left I W (Asked q o) es is = is
none_left I W (Unread why) es is = is
none_left I W (Began v) es is = is
none_left I W (Moved v held) es is = is
none_left I W (Forgot keys) es is = is

one_left : (I : Image) (W : World) (es : List Event) → is_running W.job ≡ true → IsSlice I 1 W es → (a : Answer) × (es ≡ Turned a ∷ [])
one_left I W [] running (inl none) = let is : 1 ≡ 0 = none in absurd (omega (arith, is))
one_left I W [] running (inr still) = absurd (clash (is_running W.job) still running)
one_left I W (Turned a ∷ []) running is = (a, refl)
one_left I W (Turned a ∷ e ∷ es) running is = absurd (none_left I (turn_next I W a) e es is.3)
one_left I W (Opened boot o ∷ es) running is = absurd is
one_left I W (Asked q o ∷ es) running is = absurd is
one_left I W (Unread why ∷ es) running is = absurd is
one_left I W (Began v ∷ es) running is = absurd is
one_left I W (Moved v held ∷ es) running is = absurd is
one_left I W (Forgot keys ∷ es) running is = absurd is

-- One turn of a running job: whether a program more was run, and whether the job goes on.
pub counted_turn : (c now : Core) (n m : Counts) (r s : List Run) (old new : History) → is_running (core_state c).job ≡ true
    → ((e : Cause) → (core_state now).job ≢ Failed e)
    → m ≡ with_turn (nat_lt (length r) (length s)) (is_running (core_state now).job) n → Turns c (Some 1) now (Some r) (Some s) old new
    → Counted [] c now n m r s old new
counted_turn c now n m r s old new running unfailed is turns = record { each = by } where
  by : (I : Image) → IsGood I → HoldsImage I c.image → (folder : Folder) (W V : World) → Kept I folder W V old (core_state c) → r ≡ W.runs
      → CountedBy I folder W V [] c now n m s old new
  by I good of folder W V kept are =
      let t : IsTurned I folder W V (Some 1) c now (Some r) (Some s) old new = turns.each I good of folder W V kept in
      let one : (a : Answer) × (t.turns.events ≡ Turned a ∷ []) =
      one_left I W t.turns.events (ap is_running (sym kept.core.job) ∙ running) t.turns.form in
      let X = turn_next I W one.0 in
      let made : Ran I folder W V (Turned one.0 ∷ []) old new (core_state c) (core_state now) =
      subst (λ (l : List Event). Ran I folder W V l old new (core_state c) (core_state now)) one.1 t.turns.ran in
      let were : s ≡ X.runs = t.turns.runs.told are ∙ ap (λ (l : List Event). (after I W l).runs) one.1 in
      let more : nat_lt (length r) (length s) ≡ nat_lt (length W.runs) (length X.runs) =
      ap (λ (l : List Run). nat_lt (length l) (length s)) are ∙ ap (λ (l : List Run). nat_lt (length W.runs) (length l)) were in
      record {
        events = Turned one.0 ∷ [];
        made = made;
        runs = were;
        counts = is
            ∙ ap (λ (b : Bool). with_turn b (is_running (core_state now).job) n) more
            ∙ ap (λ (j : Job). with_turn (nat_lt (length W.runs) (length X.runs)) (is_running j) n) made.kept.core.job;
        asked = tt;
        idle = tt;
        well = (turn_fine I W one.0 (ap is_running (sym kept.core.job) ∙ running) (λ e failed. unfailed e (made.kept.core.job ∙ failed)), tt);
        image = t.image;
      }

-- ---- what the code counts

-- A reply of success is counted so, and another one as refused.
pub reply_is : (fine : Bool) (n m : Counts) → (fine ≡ true → m ≡ with_reply true n) → (fine ≡ false → m ≡ with_reply false n) → m ≡ with_reply fine n
reply_is true n m ok refused = ok refl
reply_is false n m ok refused = refused refl

-- Either way there is one reply more.
pub one_reply : (fine : Bool) (n m : Counts) → m ≡ with_reply fine n → m.ok + m.refused ≡ n.ok + n.refused + 1
one_reply true n m is = let sum : m.ok + m.refused ≡ (n.ok + 1) + n.refused = ap (λ (x : Counts). x.ok + x.refused) is in omega (arith, sum)
one_reply false n m is = let sum : m.ok + m.refused ≡ n.ok + (n.refused + 1) = ap (λ (x : Counts). x.ok + x.refused) is in omega (arith, sum)

-- The numbers of programs before and after a turn, and whether the job goes on.
pub turn_is : (n m : Counts) (a b : ℕ) (goes_on : Bool) (r s : List Run) (job : Job) → m ≡ with_turn (nat_lt a b) goes_on n → a ≡ length r → b ≡ length s
    → goes_on ≡ is_running job → m ≡ with_turn (nat_lt (length r) (length s)) (is_running job) n
turn_is n m a b goes_on r s job is before after_it goes =
    is ∙ ap (λ (x : ℕ). with_turn (nat_lt x b) goes_on n) before ∙ ap (λ (x : ℕ). with_turn (nat_lt (length r) x) goes_on n) after_it
    ∙ ap (λ (x : Bool). with_turn (nat_lt (length r) (length s)) x n) goes

-- ---- what a connection asks

-- What is heard from the start of a connection is asked by its bytes.
pub heard_by : (bytes : List ℕ) (ask : asked.Request) (old new : List Exchange) → old ≡ fresh bytes ∷ [] → LastBy (IsHeard (heard.Asked ask)) old new
    → IsAskedBy bytes (request_of ask)
heard_by bytes ask old new is last =
    let start : last.before ≡ fresh bytes = head_same last.before (fresh bytes) last.others [] (sym last.old_is ∙ is) in
    let input : input_of last.now ≡ bytes = last.moved.input ∙ ap input_of start in
    let heard_it : (n : ℕ) × Asks (input_of last.now) (request_of ask) n = last.moved.hears (ap (λ (e : Exchange). e.heard) start) in
    record {
      size = heard_it.0;
      asks = subst (λ (l : List ℕ). Asks l (request_of ask) heard_it.0) input heard_it.1;
    }

-- With no bytes more, and by other words for the same bytes.
pub counted_whole : (bs cs : List (List ℕ)) (c now : Core) (n m : Counts) (r s : List Run) (old new : History) → bs ≡ cs
    → Counted (bs ++ []) c now n m r s old new
    → Counted cs c now n m r s old new
counted_whole bs cs c now n m r s old new same counted = subst (λ (l : List (List ℕ)). Counted l c now n m r s old new) (append-nil bs ∙ same) counted

-- ---- the whole run

-- From nothing, by other words for the same start.
pub counted_from : (bs cs : List (List ℕ)) (c now : Core) (n m : Counts) (r s : List Run) (old new : History) → bs ≡ cs → n ≡ no_counts
    → r ≡ [] → Counted bs c now n m r s old new → Counted cs c now no_counts m [] s old new
counted_from bs cs c now n m r s old new same none unrun counted =
    subst (λ (l : List (List ℕ)). Counted l c now no_counts m [] s old new) same
    (subst (λ (x : Counts). Counted bs c now x m [] s old new) none (subst (λ (l : List Run). Counted bs c now n m l s old new) unrun counted))

-- There are as many replies as requests.
pub all_counted : (bs cs : List (List ℕ)) (n m : Counts) → bs ≡ cs → n ≡ no_counts → m.ok + m.refused ≡ n.ok + n.refused + length bs
    → m.ok + m.refused ≡ length cs
all_counted bs cs n m same none all =
    let ok : n.ok ≡ 0 = ap (λ (x : Counts). x.ok) none in
    let refused : n.refused ≡ 0 = ap (λ (x : Counts). x.refused) none in
    let many : length bs ≡ length cs = ap length same in
    omega (arith, ok, refused, many, all)
