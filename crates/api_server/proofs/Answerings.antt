-- The request of one connection, from its parts.
use Rattle.std.proofs.Common.{◌≡◌, ◌≢◌, inl, inr, ℕ, List, [], ◌∷◌, Option, refl, sym, ◌∙◌, ap, subst}
use Rattle.outside.specs.Exchange.{Exchange}
use Rattle.outside.specs.Door.{LastBy}
use Rattle.outside.specs.Faults.{Rose}
use Rattle.outside.specs.History.{History}
use Rattle.outside.specs.Told.{Moves}
use Rattle.api_http.specs.declared.refusal.Refusal.{Refusal}
use Rattle.api_http.specs.declared.refusal.Refusal.TheVariants as refusal
use Rattle.api_http.specs.Replies.{Sent, refused}
use Rattle.settings_machine.specs.Asked.{request_of}
use Rattle.settings_machine.specs.Requests.{Request, Reply, DiskFault}
use Rattle.settings_machine.specs.declared.request.Request as asked
use Rattle.settings_machine.specs.World.{Image, World}
use Rattle.settings_machine.specs.Events as events
use Rattle.settings_machine.specs.Paid.{IsGood}
use Rattle.machine_disk.specs.Kept.{Folder, Kept}
use Rattle.machine_disk.proofs.Runs.{ran_none, ran_unread}
use Rattle.store_open.specs.Laws.{HoldsImage, IsImageOfFolder}
use Rattle.api_server.specs.Hearing.{IsHeard}
use Rattle.api_server.specs.Saying.{IsSaid}
use Rattle.api_server.specs.declared.hearing.Heard.TheVariants as heard
use Rattle.event_lines.specs.Lines.{refused_line}
use Rattle.event_lines.specs.Logs.{LogState, Tells}
use Rattle.event_lines.proofs.Logging.{logs_none, logs_event}
use Rattle.api_core.specs.Cores.{core_state}
use Rattle.api_core.specs.declared.serving.Core.{Core}
use Rattle.api_server.specs.Exchanged.{Said, Nothing, OutOfMemory, Unread, Replied, IsServed, why}
use Rattle.api_server.specs.Rounds.{AsksFor}
use Rattle.api_server.specs.Answered.{IsTold, AnsweredBy, Answers}
use Rattle.api_server.specs.Handled.{sent_of, Fits}
use Rattle.api_server.specs.declared.handled.Handled.{Handled}
use Rattle.api_server.specs.declared.handled.Handled.TheVariants as came
use Rattle.api_server.proofs.Replied.{HandlesFor, opened_again}
use Rattle.api_server.proofs.Conversations.{served_nothing, served_memory, served_unprinted, served_unread, served_replied}

nothing_well : (q : Request) → Nothing ≢ Replied q DiskFault
nothing_well q e = cc

memory_well : (q : Request) → OutOfMemory ≢ Replied q DiskFault
memory_well q e = cc

unread_well : (r : Refusal) (q : Request) → Unread r ≢ Replied q DiskFault
unread_well r q e = cc

same_reply : (p q : Request) (r s : Reply) → Replied p r ≡ Replied q s → r ≡ s
same_reply p q r s e = cc

-- Where disk and core stay.
module _ (c : Core) (n : ℕ) (told told_after : Option (List Exchange)) (log : LogState) (h : History) where
  -- No event is made.
  quiet : (said : Said) → ((q : Request) → said ≢ Replied q DiskFault) → ((I : Image) (W : World) → AsksFor I (core_state c).faulted W said [])
      → Moves told told_after (LastBy (IsServed said))
      → Answers c c n n told told_after log log h h
  quiet said well none served = record { each = by } where
    by : (I : Image) → IsGood I → HoldsImage I c.image → (folder : Folder) → IsImageOfFolder I folder → (W V : World) → Kept I folder W V h (core_state c)
        → AnsweredBy I folder W V c c n n told told_after log log h h
    by I good of folder made W V kept = record {
      said = said;
      asked = [];
      asks = none I W;
      served = served;
      cause = λ q is. absurd (well q is);
      made = ran_none I folder W V h (core_state c) kept;
      logged = logs_none I W log;
      image = of;
    }

  -- The request was refused in reading, and that is logged.
  unread : (r : Refusal) (log_after : LogState) → Tells (refused_line (why r)) log log_after → Moves told told_after (LastBy (IsServed (Unread r)))
      → Answers c c n n told told_after log log_after h h
  unread r log_after tells served = record { each = by } where
    by : (I : Image) → IsGood I → HoldsImage I c.image → (folder : Folder) → IsImageOfFolder I folder → (W V : World) → Kept I folder W V h (core_state c)
        → AnsweredBy I folder W V c c n n told told_after log log_after h h
    by I good of folder made W V kept = record {
      said = Unread r;
      asked = events.Unread (why r) ∷ [];
      asks = refl;
      served = served;
      cause = λ q is. absurd (unread_well r q is);
      made = ran_unread I (why r) folder W V h (core_state c) kept;
      logged = logs_event I W (events.Unread (why r)) log log_after tells;
      image = of;
    }

-- Nothing was asked.
pub answered_nothing : (c : Core) (n : ℕ) (told told_after : Option (List Exchange)) (log : LogState) (h : History)
    → Moves told told_after (LastBy (IsHeard heard.Ended)) → Answers c c n n told told_after log log h h
answered_nothing c n told told_after log h m = quiet c n told told_after log h Nothing nothing_well (λ I W. refl) (served_nothing told told_after m)

-- There was no memory to read it.
pub answered_memory : (c : Core) (n : ℕ) (sent : Sent) (text : List ℕ) (told mid told_after : Option (List Exchange)) (log : LogState) (h : History)
    → text ≡ sent.bytes → sent ≡ refused refusal.Memory → Moves told mid (LastBy (IsHeard heard.Memory)) → Moves mid told_after (LastBy (IsSaid text))
    → Answers c c n n told told_after log log h h
answered_memory c n sent text told mid told_after log h is memory m o = quiet c n told told_after log h OutOfMemory memory_well (λ I W. refl)
    (served_memory text (is ∙ ap (λ (s : Sent). s.bytes) memory) told mid told_after m o)

-- It was refused in reading, and its reply was printed and logged, or there was no memory for it.
pub answered_refusal : (c : Core) (n : ℕ) (r : Refusal) (sent : Sent) (text : List ℕ) (told mid told_after : Option (List Exchange))
    (log log_after : LogState) (h : History) → text ≡ sent.bytes → IsTold r sent log log_after → Moves told mid (LastBy (IsHeard (heard.Refused r)))
    → Moves mid told_after (LastBy (IsSaid text)) → Answers c c n n told told_after log log_after h h
answered_refusal c n r sent text told mid told_after log log_after h is (inl whole) m o =
    unread c n told told_after log h r log_after whole.1 (served_unread r text (is ∙ ap (λ (s : Sent). s.bytes) whole.0) told mid told_after m o)
answered_refusal c n r sent text told mid told_after log log_after h is (inr memory) m o =
    subst (λ (l : LogState). Answers c c n n told told_after log l h h) (sym memory.1)
    (quiet c n told told_after log h OutOfMemory memory_well (λ I W. refl)
    (served_unprinted r text (is ∙ ap (λ (s : Sent). s.bytes) memory.0) told mid told_after m o))

-- It was asked and handled, and then its reply was written.
pub answered_ask : (c now : Core) (faults faults_after : ℕ) (ask : asked.Request) (handled : Handled) (text : List ℕ)
    (told mid told_after : Option (List Exchange)) (log log_after : LogState) (old new : History)
    → text ≡ (sent_of handled).bytes → (handled ≡ came.DiskFault → Rose faults faults_after) → Moves told mid (LastBy (IsHeard (heard.Asked ask)))
    → Moves mid told_after (LastBy (IsSaid text))
    → HandlesFor c (request_of ask) handled now log log_after old new → Answers c now faults faults_after told told_after log log_after old new
answered_ask c now faults faults_after ask handled text told mid told_after log log_after old new is cause m n handles = record { each = by } where
  by : (I : Image) → IsGood I → HoldsImage I c.image → (folder : Folder) → IsImageOfFolder I folder → (W V : World) → Kept I folder W V old (core_state c)
      → AnsweredBy I folder W V c now faults faults_after told told_after log log_after old new
  by I good of folder made W V kept =
      let done = handles.handles.each I good of folder (λ _ _. made) W V kept in
      record {
        said = Replied (request_of ask) done.replied;
        asked = done.events;
        asks = record {
          handled = done.handled_by;
          opens = opened_again c (request_of ask) handled now log log_after old new handles I good of folder made W V kept done;
        };
        served = served_replied ask done.replied (sent_of handled) text is done.says told mid told_after m n;
        cause = λ q e. cause (subst (λ (r : Reply). Fits r handled) (same_reply (request_of ask) q done.replied DiskFault e) done.fits);
        made = done.made;
        logged = done.logged;
        image = done.image;
      }
