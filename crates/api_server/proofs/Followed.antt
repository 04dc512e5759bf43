-- Connections one after another, from their parts.
use Rattle.std.proofs.Common.{◌≡◌, ◌≤◌, ◌+◌, ◌&&◌, ℕ, Bool, List, [], ◌∷◌, ◌++◌, Option, Ok, true, false, refl, sym, ◌∙◌, ap, subst, append_assoc, arith}
use Rattle.std.proofs.lemmas.List.{append-nil}
use Rattle.outside.specs.Exchange.{Exchange, fresh}
use Rattle.outside.specs.declared.disk_error.Failed.{Failed}
use Rattle.outside.specs.Door.{DoorState, LastBy, Accepts, Opens}
use Rattle.outside.specs.History.{History}
use Rattle.outside.specs.Spawner.{Run}
use Rattle.outside.specs.Told.{Moves}
use Rattle.outside.proofs.Told.{moves_stay, moves_then, moves_map}
use Rattle.settings_machine.specs.World.{Image, World}
use Rattle.settings_machine.specs.Events.{Event, after, faulted_after}
use Rattle.settings_machine.specs.Paid.{IsGood}
use Rattle.settings_machine.proofs.Sequences.{after-append, faulted-append}
use Rattle.machine_disk.specs.Kept.{Folder, Kept}
use Rattle.machine_disk.specs.Ran.{Ran, RunsBy}
use Rattle.machine_disk.proofs.Runs.{ran_none, ran_more}
use Rattle.store_open.specs.Laws.{HoldsImage, IsImageOfFolder}
use Rattle.affected_apply.specs.Turned.{AreTurns}
use Rattle.event_lines.specs.Logs.{LogState, Logs}
use Rattle.event_lines.proofs.Logging.{logs_none, logs_then}
use Rattle.api_core.specs.Cores.{core_state}
use Rattle.api_core.specs.declared.serving.Core.{Core}
use Rattle.api_server.specs.Causes.{FaultCounts, fault_counts, AreCounted}
use Rattle.api_server.specs.declared.pace.Pace.{Pace}
use Rattle.api_server.specs.Exchanged.{Said, IsServed, IsExchanged}
use Rattle.api_server.specs.Rounds.{AsksFor, AreIdle, Round, IsRound, AreRounds, AreExchanged, events_of_round, events_of}
use Rattle.api_server.specs.Turning.{Turns}
use Rattle.api_server.specs.Answered.{Answers, ConnectionBy, ServesOne, Idles, RoundsBy, ServesAll}
use Rattle.api_server.proofs.Counted.{counted_none, counted_then, asked_counted}
use Rattle.api_server.proofs.Slices.{idle_none, idle_then}
use Rattle.api_server.proofs.Requested.{asks_runs}
use Rattle.api_server.proofs.Lasts.{head_same, tail_same}

-- ---- programs

-- Those of the first events, and then those of the others.
pub runs_more : (I : Image) (W : World) (es fs : List Event) (a b c : Option (List Run)) → RunsBy I W es a b → RunsBy I (after I W es) fs b c
    → RunsBy I W (es ++ fs) a c
runs_more I W es fs a b c m n = moves_then (λ r s t first rest is. rest (first is) ∙ ap (λ (X : World). X.runs) (sym (after-append I W es fs))) m n

-- Events that run none, and then others.
pub runs_after : (I : Image) (W : World) (es fs : List Event) (a b : Option (List Run)) → (after I W es).runs ≡ W.runs → RunsBy I (after I W es) fs a b
    → RunsBy I W (es ++ fs) a b
runs_after I W es fs a b none m = moves_map (λ r s rest is. rest (is ∙ sym none) ∙ ap (λ (X : World). X.runs) (sym (after-append I W es fs))) m

-- No event.
pub runs_none : (I : Image) (W : World) (a : Option (List Run)) → RunsBy I W [] a a
runs_none I W a = moves_stay (λ r is. is)

-- ---- one connection

-- Its request, and then a slice of turns.
pub one_connection : (slice : Option ℕ) (c mid now : Core) (d d_mid d' s s' : ℕ) (told told_after : Option (List Exchange))
    (ran_before ran_after : Option (List Run)) (log log_mid log_after : LogState) (old between new : History)
    → Answers c mid d d_mid told told_after log log_mid old between → d ≤ d_mid → d_mid ≤ d'
    → Turns slice mid now (fault_counts d_mid s) (fault_counts d' s') ran_before ran_after log_mid log_after between new
    → ServesOne slice c now (fault_counts d s) (fault_counts d' s') told told_after ran_before ran_after log log_after old new
one_connection slice c mid now d d_mid d' s s' told told_after ran_before ran_after log log_mid log_after old between new answers later later_still turns =
    record { each = by } where
      by : (I : Image) → IsGood I → HoldsImage I c.image → (folder : Folder) → IsImageOfFolder I folder → (W V : World) → Kept I folder W V old (core_state c)
          → ConnectionBy I folder W V slice c now (fault_counts d s) (fault_counts d' s') told told_after ran_before ran_after log log_after old new
      by I good of folder made W V kept =
          let one = answers.each I good of folder made W V kept in
          let X = after I W one.asked in
          let two = turns.each I good one.image folder X one.made.other one.made.kept in
          let turned = two.made.turns in
          record {
            said = one.said;
            asked = one.asked;
            turned = turned.events;
            asks = one.asks;
            turns = turned.form;
            served = one.served;
            cause = λ q is. omega (arith, one.cause q is, later_still);
            counted = counted_then one.asked turned.events (fault_counts d s) (fault_counts d_mid s) (fault_counts d' s')
                (asked_counted I W c.faulted one.said one.asked one.asks d d_mid s s later (omega arith) one.cause) two.counted;
            made = ran_more I folder W V one.asked turned.events old between new (core_state c) (core_state mid) (core_state now) one.made turned.ran;
            logged = logs_then I W one.asked turned.events log log_mid log_after one.logged two.logged;
            runs = runs_after I W one.asked turned.events ran_before ran_after (asks_runs I c.faulted W one.said one.asked one.asks) turned.runs;
            image = two.made.image;
          }

-- ---- one more connection

-- The events of one more.
events_push : (rs : List Round) (r : Round) → events_of (rs ++ r ∷ []) ≡ events_of rs ++ events_of_round r
events_push [] r = append-nil (events_of_round r)
events_push (q ∷ rs) r = ap (λ (l : List Event). events_of_round q ++ l) (events_push rs r)
    ∙ sym (append_assoc (events_of_round q) (events_of rs) (events_of_round r))

events_more : (rs : List Round) (r : Round) → events_of (rs ++ r ∷ []) ++ [] ≡ (events_of rs ++ r.idle) ++ (r.asked ++ r.turned)
events_more rs r = append-nil (events_of (rs ++ r ∷ [])) ∙ events_push rs r ∙ sym (append_assoc (events_of rs) r.idle (r.asked ++ r.turned))

-- It begins where those before it have led.
rounds_push : (I : Image) (pace : Pace) (b : Bool) (W : World) (rs : List Round) (r : Round) → AreRounds I pace b W rs
    → IsRound I pace (faulted_after b (events_of rs)) (after I W (events_of rs)) r → AreRounds I pace b W (rs ++ r ∷ [])
rounds_push I pace b W [] r are is = (is, tt)
rounds_push I pace b W (q ∷ rs) r are is = (
  are.0,
  rounds_push I pace (faulted_after b (events_of_round q)) (after I W (events_of_round q)) rs r are.1
      (subst (λ (f : Bool). IsRound I pace f (after I (after I W (events_of_round q)) (events_of rs)) r) (faulted-append b (events_of_round q) (events_of rs))
      (subst (λ (X : World). IsRound I pace (faulted_after b (events_of_round q ++ events_of rs)) X r) (after-append I W (events_of_round q) (events_of rs))
      is)),
)

-- So do the turns before it.
round_is : (I : Image) (pace : Pace) (b : Bool) (W : World) (es idle : List Event) (said : Said) (asked turned : List Event)
    → AreIdle pace.while_idle I (after I W es) idle → AsksFor I (faulted_after b (es ++ idle)) (after I W (es ++ idle)) said asked
    → AreTurns I pace.slice (after I (after I W (es ++ idle)) asked) turned
    → IsRound I pace (faulted_after b es) (after I W es) (record { idle = idle; said = said; asked = asked; turned = turned })
round_is I pace b W es idle said asked turned idles asks turns = record {
  idle = idles;
  asks = subst (λ (f : Bool). AsksFor I f (after I (after I W es) idle) said asked) (faulted-append b es idle)
      (subst (λ (X : World). AsksFor I (faulted_after b (es ++ idle)) X said asked) (after-append I W es idle) asks);
  turns = subst (λ (X : World). AreTurns I pace.slice (after I X asked) turned) (after-append I W es idle) turns;
}

-- Its bytes come last.
exchanged_push : (rs : List Round) (r : Round) (x : Exchange) (old mid : List Exchange) → AreExchanged rs old mid → IsExchanged r.said x
    → AreExchanged (rs ++ r ∷ []) old (x ∷ mid)
exchanged_push [] r x old mid are is = (x, is, ap (λ (l : List Exchange). x ∷ l) are)
exchanged_push (q ∷ rs) r x old mid are is = (are.0, are.1, exchanged_push rs r x (are.0 ∷ old) mid are.2 is)

-- A connection is accepted, and served.
one_exchanged : (rs : List Round) (r : Round) (first old opened new : List Exchange) → AreExchanged rs first old → Opens {E = Failed} (Ok true) old opened
    → LastBy (IsServed r.said) opened new → AreExchanged (rs ++ r ∷ []) first new
one_exchanged rs r first old opened new are opens served =
    let is : served.before ∷ served.others ≡ fresh opens.0 ∷ old = sym served.old_is ∙ opens.1 in
    let done = served.moved.from_start opens.0 (head_same served.before (fresh opens.0) served.others old is) in
    subst (AreExchanged (rs ++ r ∷ []) first)
    (sym (served.new_is ∙ ap (λ (l : List Exchange). served.now ∷ l) (tail_same served.before (fresh opens.0) served.others old is)))
    (exchanged_push rs r served.now first old are done.0)

exchanged_more : (rs : List Round) (r : Round) (a b c d : Option (List Exchange)) → Moves a b (AreExchanged rs) → Moves b c (Opens {E = Failed} (Ok true))
    → Moves c d (LastBy (IsServed r.said)) → Moves a d (AreExchanged (rs ++ r ∷ []))
exchanged_more rs r a b c d m n o =
    let accepted : Moves a c (λ first opened. (mid : List Exchange) × AreExchanged rs first mid × Opens {E = Failed} (Ok true) mid opened)
    = moves_then (λ first mid opened are opens. (mid, are, opens)) m n in
    moves_then (λ first opened last so_far served. one_exchanged rs r first so_far.0 opened last so_far.1 so_far.2 served) accepted o

-- What is accepted.
pub one_accepted : (came : Bool) → came ≡ true → (old new : DoorState) → Accepts {E = Failed} (Ok came) old new
    → new ≡ record { accepted = old.accepted + 1; ended = old.ended; broken = old.broken; busy = true }
one_accepted came is old new accepts = subst (λ (b : Bool). Accepts {E = Failed} (Ok b) old new) is accepts

-- Before the first connection.
pub rounds_none : (pace : Pace) (c : Core) (d s : ℕ) (told : Option (List Exchange)) (ran : Option (List Run)) (log : LogState) (h : History)
    → ServesAll pace c c (fault_counts d s) (fault_counts d s) told told ran ran log log h h
rounds_none pace c d s told ran log h = record { each = by } where
  by : (I : Image) → IsGood I → HoldsImage I c.image → (folder : Folder) → IsImageOfFolder I folder → (W V : World) → Kept I folder W V h (core_state c)
      → RoundsBy I folder W V pace c c (fault_counts d s) (fault_counts d s) told told ran ran log log h h
  by I good of folder made W V kept = record {
    rounds = [];
    idle = [];
    are = tt;
    idles = idle_none pace.while_idle I W;
    exchanged = moves_stay (λ l. refl);
    counted = counted_none d d s s (omega arith) (omega arith);
    made = ran_none I folder W V h (core_state c) kept;
    logged = logs_none I W log;
    runs = runs_none I W ran;
    image = of;
  }

-- Turns while no further client is there.
pub rounds_idle : (pace : Pace) (c mid now : Core) (counts counts_mid counts_after : FaultCounts) (told told_after : Option (List Exchange))
    (ran_before ran_mid ran_after : Option (List Run)) (log log_mid log_after : LogState) (old between new : History)
    → ServesAll pace c mid counts counts_mid told told_after ran_before ran_mid log log_mid old between
    → Idles pace.while_idle mid now counts_mid counts_after ran_mid ran_after log_mid log_after between new
    → ServesAll pace c now counts counts_after told told_after ran_before ran_after log log_after old new
rounds_idle pace c mid now counts counts_mid counts_after told told_after ran_before ran_mid ran_after log log_mid log_after old between new all idles =
    record { each = by } where
      by : (I : Image) → IsGood I → HoldsImage I c.image → (folder : Folder) → IsImageOfFolder I folder → (W V : World) → Kept I folder W V old (core_state c)
          → RoundsBy I folder W V pace c now counts counts_after told told_after ran_before ran_after log log_after old new
      by I good of folder made W V kept =
          let was = all.each I good of folder made W V kept in
          let first = events_of was.rounds in
          let es = first ++ was.idle in
          let next = idles.each I good was.image folder made (after I W es) was.made.other was.made.kept in
          let same = append_assoc first was.idle next.events in
          record {
            rounds = was.rounds;
            idle = was.idle ++ next.events;
            are = was.are;
            idles = idle_then pace.while_idle I (after I W first) was.idle next.events was.idles
                (subst (λ (X : World). AreIdle pace.while_idle I X next.events) (after-append I W first was.idle) next.are);
            exchanged = was.exchanged;
            counted = subst (λ (l : List Event). AreCounted l counts counts_after) same
                (counted_then es next.events counts counts_mid counts_after was.counted next.counted);
            made = subst (λ (l : List Event). Ran I folder W V l old new (core_state c) (core_state now)) same
                (ran_more I folder W V es next.events old between new (core_state c) (core_state mid) (core_state now) was.made next.made);
            logged = subst (λ (l : List Event). Logs I W l log log_after) same (logs_then I W es next.events log log_mid log_after was.logged next.logged);
            runs = subst (λ (l : List Event). RunsBy I W l ran_before ran_after) same
                (runs_more I W es next.events ran_before ran_mid ran_after was.runs next.runs);
            image = next.image;
          }

-- No further connection came, for none is left or the accept failed.
pub rounds_closed : (pace : Pace) (c now : Core) (counts counts_after : FaultCounts) (told told_mid told_after : Option (List Exchange))
    (ran_before ran_after : Option (List Run)) (log log_after : LogState) (old new : History) → Moves told_mid told_after (λ first last. last ≡ first)
    → ServesAll pace c now counts counts_after told told_mid ran_before ran_after log log_after old new
    → ServesAll pace c now counts counts_after told told_after ran_before ran_after log log_after old new
rounds_closed pace c now counts counts_after told told_mid told_after ran_before ran_after log log_after old new closed all = record { each = by } where
  by : (I : Image) → IsGood I → HoldsImage I c.image → (folder : Folder) → IsImageOfFolder I folder → (W V : World) → Kept I folder W V old (core_state c)
      → RoundsBy I folder W V pace c now counts counts_after told told_after ran_before ran_after log log_after old new
  by I good of folder made W V kept =
      let was = all.each I good of folder made W V kept in
      record {
        rounds = was.rounds;
        idle = was.idle;
        are = was.are;
        idles = was.idles;
        exchanged = moves_then (λ first mid last are same. subst (AreExchanged was.rounds first) (sym same) are) was.exchanged closed;
        counted = was.counted;
        made = was.made;
        logged = was.logged;
        runs = was.runs;
        image = was.image;
      }

-- What is told where none is left.
pub none_opened : (came : Bool) → came ≡ false → (a b : Option (List Exchange)) → Moves a b (Opens {E = Failed} (Ok came))
    → Moves a b (λ first last. last ≡ first)
none_opened came is a b m = subst (λ (x : Bool). Moves a b (Opens {E = Failed} (Ok x))) is m

-- One connection more, from its accept on.
pub rounds_more : (came : Bool) → came ≡ true
    → (pace : Pace) (c mid now : Core) (counts counts_mid counts_after : FaultCounts)
    (told told_mid told_opened told_after : Option (List Exchange)) (ran_before ran_mid ran_after : Option (List Run)) (log log_mid log_after : LogState)
    (old between new : History)
    → Moves told_mid told_opened (Opens {E = Failed} (Ok came))
    → ServesAll pace c mid counts counts_mid told told_mid ran_before ran_mid log log_mid old between
    → ServesOne pace.slice mid now counts_mid counts_after told_opened told_after ran_mid ran_after log_mid log_after between new
    → ServesAll pace c now counts counts_after told told_after ran_before ran_after log log_after old new
rounds_more came is pace c mid now counts counts_mid counts_after told told_mid told_opened told_after ran_before ran_mid ran_after log log_mid log_after old
    between new opens all one =
    record { each = by } where
      by : (I : Image) → IsGood I → HoldsImage I c.image → (folder : Folder) → IsImageOfFolder I folder → (W V : World) → Kept I folder W V old (core_state c)
          → RoundsBy I folder W V pace c now counts counts_after told told_after ran_before ran_after log log_after old new
      by I good of folder made W V kept =
          let was = all.each I good of folder made W V kept in
          let es = events_of was.rounds ++ was.idle in
          let X = after I W es in
          let next = one.each I good was.image folder made X was.made.other was.made.kept in
          let fs = next.asked ++ next.turned in
          let r : Round = record { idle = was.idle; said = next.said; asked = next.asked; turned = next.turned } in
          let same = sym (events_more was.rounds r) in
          record {
            rounds = was.rounds ++ r ∷ [];
            idle = [];
            are = rounds_push I pace c.faulted W was.rounds r was.are
                (round_is I pace c.faulted W (events_of was.rounds) was.idle next.said next.asked next.turned was.idles
                (subst (λ (f : Bool). AsksFor I f X next.said next.asked) was.made.flag next.asks) next.turns);
            idles = idle_none pace.while_idle I (after I W (events_of (was.rounds ++ r ∷ [])));
            exchanged = exchanged_more was.rounds r told told_mid told_opened told_after was.exchanged
                (subst (λ (b : Bool). Moves told_mid told_opened (Opens {E = Failed} (Ok b))) is opens) next.served;
            counted = subst (λ (l : List Event). AreCounted l counts counts_after) same
                (counted_then es fs counts counts_mid counts_after was.counted next.counted);
            made = subst (λ (l : List Event). Ran I folder W V l old new (core_state c) (core_state now)) same
                (ran_more I folder W V es fs old between new (core_state c) (core_state mid) (core_state now) was.made next.made);
            logged = subst (λ (l : List Event). Logs I W l log log_after) same (logs_then I W es fs log log_mid log_after was.logged next.logged);
            runs = subst (λ (l : List Event). RunsBy I W l ran_before ran_after) same
                (runs_more I W es fs ran_before ran_mid ran_after was.runs next.runs);
            image = next.image;
          }
