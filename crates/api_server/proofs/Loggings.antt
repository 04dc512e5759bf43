-- What was told of a request is its lines.
use Rattle.std.proofs.Common.{◌≡◌, ◌++◌, ℕ, Bool, false, List, [], ◌∷◌, codes, decimal, refl, sym, ◌∙◌, ap, subst, if◌then◌else◌}
use Rattle.outside.specs.History.{History}
use Rattle.settings_tree.specs.declared.held.Held.{Held}
use Rattle.settings_tree.specs.declared.entry.Owed.{Owed}
use Rattle.version_links.specs.declared.version.Version.{Version}
use Rattle.settings_machine.specs.World.{Key, Image, World, Job, is_running}
use Rattle.settings_machine.specs.Requests.{Body, Reply, Request, status}
use Rattle.settings_machine.specs.Requests.{TreeOf, PendingTreeOf, TextsByName, ListsByKey, KeyList, NameList, JobIs, PlanIs, FileIs, StoreIs, StatesAre}
use Rattle.settings_machine.specs.Requests.{Said, Empty, Refused, NoMemory, DiskFault, NotOpened}
use Rattle.settings_machine.specs.Step.{Outcome, request_next, opened}
use Rattle.settings_machine.specs.Events.{Succeeded, Opened, Asked, after}
use Rattle.machine_disk.specs.Kept.{Folder, Kept}
use Rattle.machine_disk.proofs.Meanings.{core_holds, core_version}
use Rattle.api_http.specs.Replies.{Sent}
use Rattle.api_http.specs.Says.{sent_as, Says}
use Rattle.event_lines.specs.Logfmt.{Pair, line}
use Rattle.event_lines.specs.Lines.{opened_line, target_of, subject, is_of_success, deeds, changes, request_line, job_lines}
use Rattle.event_lines.specs.Logs.{LogState, Logs, Tells}
use Rattle.event_lines.proofs.Logging.{logs_event}
use Rattle.api_core.specs.Cores.{core_state}
use Rattle.api_core.specs.declared.serving.Core.{Core}
use Rattle.api_server.specs.Handled.{sent_of, IsEvent}
use Rattle.api_server.specs.declared.handled.Handled.{Handled}

-- ---- the status

body_status : (body : Body) (text : List ℕ) → (sent_as body text).status ≡ 200
body_status (TreeOf n entries) text = refl
body_status (PendingTreeOf n entries) text = refl
body_status (TextsByName texts) text = refl
body_status (ListsByKey lists) text = refl
body_status (KeyList keys) text = refl
body_status (NameList names) text = refl
body_status (JobIs standing owed) text = refl
body_status (PlanIs plan) text = refl
body_status (FileIs bytes) text = refl
body_status (StoreIs version held) text = refl
body_status (StatesAre files) text = refl

-- The status that is sent is that of the reply.
status_sent : (reply : Reply) (sent : Sent) → Says reply sent → sent.status ≡ status reply
status_sent (Said body) sent says = ap (λ (s : Sent). s.status) says.sent_is ∙ body_status body says.text
status_sent Empty sent says = ap (λ (s : Sent). s.status) says
status_sent (Refused refusal) sent says = ap (λ (s : Sent). s.status) says
status_sent NoMemory sent says = ap (λ (s : Sent). s.status) says
status_sent DiskFault sent says = ap (λ (s : Sent). s.status) says
status_sent (NotOpened at) sent says = ap (λ (s : Sent). s.status) says

-- ---- a request

-- Its lines, with other parts that are equal.
abbrev parts : Request → Held → ℕ → Job → Job → List ℕ
parts q held number before now = request_line q (changes held q) number ++ job_lines (is_running before) now

parts_same : (q : Request) (held held' : Held) (n n' : ℕ) (before before' now now' : Job) → held ≡ held' → n ≡ n' → before ≡ before' → now ≡ now'
    → parts q held n before now ≡ parts q held' n' before' now'
parts_same q held held' n n' before before' now now' a b c d =
    ap (λ (x : Held). parts q x n before now) a ∙ ap (λ (x : ℕ). parts q held' x before now) b
    ∙ ap (λ (x : Job). parts q held' n' x now) c ∙ ap (λ (x : Job). parts q held' n' before' x) d

-- What was told, by equal parts.
pub told_by : (q : Request) (held held' : Held) (number : ℕ) (ran ran' : Bool) (now now' : Job) (log log_after : LogState)
    → held ≡ held' → ran ≡ ran' → now ≡ now'
    → Tells (request_line q (changes held q) number ++ job_lines ran now) log log_after
    → Tells (request_line q (changes held' q) number ++ job_lines ran' now') log log_after
told_by q held held' number ran ran' now now' log log_after a b c tells =
    subst (λ (x : Job). Tells (request_line q (changes held' q) number ++ job_lines ran' x) log log_after) c
    (subst (λ (x : Bool). Tells (request_line q (changes held' q) number ++ job_lines x now) log log_after) b
    (subst (λ (x : Held). Tells (request_line q (changes x q) number ++ job_lines ran now) log log_after) a tells))

-- A request that came to one event: what the core has, and what is sent, tell what the machine makes of it.
pub asked_logged : (I : Image) (folder : Folder) (W V : World) (q : Request) (handled : Handled) (c now : Core) (log log_after : LogState) (old new : History)
    → c.faulted ≡ false → Kept I folder W V old (core_state c) → (e : IsEvent I folder W V q handled old new (core_state c) (core_state now))
    → Tells (request_line q (changes (core_state c).held q) (sent_of handled).status ++ job_lines (is_running (core_state c).job) (core_state now).job)
    log log_after
    → Logs I W (Asked q e.outcome ∷ []) log log_after
asked_logged I folder W V q handled c now log log_after old new calm kept e tells =
    logs_event I W (Asked q e.outcome) log log_after
    (subst (λ (l : List ℕ). Tells l log log_after)
    (parts_same q (core_state c).held W.held (sent_of handled).status (status (request_next I W q e.outcome).reply) (core_state c).job W.job
    (core_state now).job (request_next I W q e.outcome).world.job (sym (core_holds I folder W V old (core_state c) kept calm))
    (status_sent (request_next I W q e.outcome).reply (sent_of handled) e.says) kept.core.job e.ran.kept.core.job) tells)

-- ---- a request that is given up

-- What was told of it, while no job runs: it tells no keys.
abbrev pub TellsGivenUp : Core → Request → Handled → LogState → LogState → Type 0
TellsGivenUp c q sent log log_after = Tells (request_line q [] (sent_of sent).status ++ job_lines false (core_state c).job) log log_after

-- Where a status is none of success, the line has no keys.
no_deeds : (q : Request) (changed : List Key) (number : ℕ) → is_of_success number ≡ false → request_line q [] number ≡ request_line q changed number
no_deeds q changed number not_well =
    let rest : (keys : List Key) → (if is_of_success number then deeds q keys else []) ≡ [] = λ keys.
    ap (λ (b : Bool). if b then deeds q keys else []) not_well in
    ap (λ (pairs : List Pair). line (codes "request") ((codes "method", (target_of q).0) ∷ (codes "path", (target_of q).1) ∷ subject q
    ++ (codes "status", decimal number) ∷ pairs)) (rest [] ∙ sym (rest changed))

-- What was told is its lines, where no job runs and it leaves the job.
pub unanswered_logged : (I : Image) (X : World) (q : Request) (o : Outcome) (number : ℕ) (job : Job) → is_running X.job ≡ false → job ≡ X.job
    → is_of_success number ≡ false → number ≡ status (request_next I X q o).reply → (request_next I X q o).world.job ≡ X.job → (log log_after : LogState)
    → Tells (request_line q [] number ++ job_lines false job) log log_after → Logs I X (Asked q o ∷ []) log log_after
unanswered_logged I X q o number job still job_is not_well number_is stays log log_after tells =
    let same = ap (λ (l : List ℕ). l ++ job_lines false job) (no_deeds q (changes X.held q) number not_well)
    ∙ ap (λ (b : Bool). request_line q (changes X.held q) number ++ job_lines b job) (sym still)
    ∙ parts_same q X.held X.held number (status (request_next I X q o).reply) X.job X.job job (request_next I X q o).world.job refl number_is refl
    (job_is ∙ sym stays) in
    logs_event I X (Asked q o) log log_after (subst (λ (l : List ℕ). Tells l log log_after) same tells)

-- ---- an opening

-- What was told of it, by equal parts.
pub opening_by : (version version' : Version) (held held' : Held) (log log_after : LogState) → version ≡ version' → held ≡ held'
    → Tells (opened_line version held.owed) log log_after → Tells (opened_line version' held'.owed) log log_after
opening_by version version' held held' log log_after a b tells =
    subst (λ (k : Held). Tells (opened_line version' k.owed) log log_after) b
    (subst (λ (v : Version). Tells (opened_line v held.owed) log log_after) a tells)

-- Where the core is at the opened world, what it has tells the line of the opening.
pub opening_logged : (I : Image) (folder : Folder) (W V : World) (c : Core) (log log_after : LogState) (h : History)
    → c.faulted ≡ false → Kept I folder (after I W (Opened false Succeeded ∷ [])) V h (core_state c)
    → Tells (opened_line (core_state c).place.version (core_state c).held.owed) log log_after → Logs I W (Opened false Succeeded ∷ []) log log_after
unfolding opened
opening_logged I folder W V c log log_after h calm kept tells =
    let X = after I W (Opened false Succeeded ∷ []) in
    let version : (core_state c).place.version ≡ W.version = sym (core_version I folder X V h (core_state c) kept calm) in
    let owed : (core_state c).held.owed ≡ X.held.owed = ap (λ (k : Held). k.owed) (sym (core_holds I folder X V h (core_state c) kept calm)) in
    logs_event I W (Opened false Succeeded) log log_after
    (subst (λ (o : Owed). Tells (opened_line W.version o) log log_after) owed
    (subst (λ (v : Version). Tells (opened_line v (core_state c).held.owed) log log_after) version tells))
