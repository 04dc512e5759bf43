-- What a crash at a moment of a run keeps of its events.
use Rattle.std.proofs.Common.{◌≡◌, ◌⊎◌, inl, inr, ⊎_elim, Bool, true, ℕ, zero, suc, ◌≤◌, false, List, [], ◌++◌, length, take, drop}
use Rattle.std.proofs.Common.{refl, sym, ◌∙◌, ap, subst, arith, ◌∷◌, append_assoc, take-append-drop, Ok, Err, OnOk, IsOk}
use Rattle.std.proofs.lemmas.Bool.{or_parts, false≢true}
use Rattle.std.proofs.lemmas.List.{append-nil, append_cancel_left}
use Rattle.outside.specs.Tree.{Tree}
use Rattle.outside.specs.History.{History, IsCrashState}
use Rattle.outside.specs.Since.{clock}
use Rattle.settings_machine.specs.World.{Image, World}
use Rattle.settings_machine.specs.Events.{Event, after, acknowledges_any}
use Rattle.settings_machine.proofs.Sequences.{acks-append}
use Rattle.machine_disk.specs.Kept.{Folder}
use Rattle.machine_disk.specs.Ran.{AtPrefix, KeepsFirst, Moment}
use Rattle.machine_disk.specs.Store.{Recovers}
use Rattle.command_outcome.specs.Ends.{Outcome}
use Rattle.command_words.specs.Orders.{Order}
use Rattle.settings_run.specs.Headline.{acknowledges_all}
use Rattle.settings_run.specs.Life.{Invocation, HasEndedWell, IsLater, IsRunOf, IsMadeBy, IsCut}
use Rattle.settings_run.proofs.DoorFaults.{ended_well}
use Rattle.settings_run.proofs.Instants.{clock_later, same_moment, since_at, Greatest, greatest, take_more}

at_most : (a b : ℕ) → (a ≤ b) ⊎ (a ≤ b → ⊥)
at_most zero b = inl (omega arith)
at_most (suc a) zero = inr (λ le. omega arith)
at_most (suc a) (suc b) = elim (at_most a b) [ inl less ↦ inl (omega arith) | inr more ↦ inr (λ le. more (omega arith)) ]

is_zero : (n : ℕ) → (n ≡ 0) ⊎ (n ≡ 0 → ⊥)
is_zero zero = inl refl
is_zero (suc n) = inr (λ is. omega arith)

pub of_ok : {A : Type 0} (o : Outcome) → OnOk o A → IsOk o → A
of_ok (Ok line) has ok = has
of_ok (Err refusal) has ok = absurd (false≢true ok)

-- What all events are the first of has no more.
no_more : (all lost rest : List Event) → (all ++ lost) ++ rest ≡ all → lost ≡ []
no_more all [] rest is = refl
no_more all (e ∷ lost) rest is =
    let longer : (e ∷ lost) ++ rest ≡ [] =
    append_cancel_left all ((e ∷ lost) ++ rest) [] (sym (append_assoc all (e ∷ lost) rest) ∙ is ∙ sym (append-nil all)) in
    absurd (cc longer)

module _ (order : Order) (I : Image) (folder : Folder) (W : World) (run : Invocation) (r : IsRunOf order I folder W run) (at : History) (crashed : Tree)
    (later : IsLater run.old at) (more : IsLater at run.new) (left : IsCrashState at crashed) where
  -- The events that are kept, and that the tree recovers to the world after them.
  pub record Kept : Type 0 where
    pub events : List Event
    pub cut : IsCut order I folder W run r at events
    pub recovers : Recovers I (after I W events) crashed

  -- None of the first events is acknowledged of which none is.
  front : (X : World) (lost others : List Event) → acknowledges_any I X (lost ++ others) ≡ false → acknowledges_any I X lost ≡ false
  front X lost others none = (or_parts _ _ (sym (acks-append I X lost others) ∙ none)).0

  abbrev first : ℕ → List Event
  first number = take number r.events

  abbrev moment : (number : ℕ) → Moment I W W (first number) r.events run.old run.new
  moment number = r.crashes.keeps (first number) (drop number r.events) (sym (take-append-drop number r.events))

  abbrev IsMade : ℕ → Type 0
  IsMade number = IsMadeBy order I folder W run r at number

  abbrev HasEnded : Type 0
  HasEnded = HasEndedWell order run × (clock run.new ≤ clock at)

  -- Where it had ended well by then, all are kept.
  all_kept : HasEnded → Kept
  all_kept ended = record {
    events = r.events;
    cut = record {
      rest = [];
      whole = sym (append-nil r.events);
      keeps = λ number le made lost is.
          let none : lost ≡ [] = no_more r.events lost (drop number r.events) (ap (λ (es : List Event). es ++ drop number r.events) (sym is)
          ∙ take-append-drop number r.events) in
          ap (acknowledges_any I (after I W r.events)) none;
      ended_well = λ well by. refl;
    };
    recovers = of_ok run.promised.outcome (r.crashes.ended_well ended.0.0)
        (ended_well run.promised.outcome run.status run.output_before run.output_now run.promised.ends ended.0.1) crashed
        (subst (λ (h : History). IsCrashState h crashed) (sym (same_moment (λ c. Unit {0}) at run.new more ended.1)) left);
  }

  has_ended : HasEnded ⊎ (HasEnded → ⊥)
  has_ended = by (acknowledges_all order) refl (is_zero run.status) (at_most (clock run.new) (clock at)) where
    by : (b : Bool) → acknowledges_all order ≡ b → (run.status ≡ 0) ⊎ (run.status ≡ 0 → ⊥)
        → (clock run.new ≤ clock at) ⊎ (clock run.new ≤ clock at → ⊥) → HasEnded ⊎ (HasEnded → ⊥)
    by true all (inl status) (inl later) = inl ((all, status), later)
    by true all (inl status) (inr earlier) = inr (λ ended. earlier ended.1)
    by true all (inr other) time = inr (λ ended. other ended.0.1)
    by false none status time = inr (λ ended. absurd (false≢true (sym none ∙ ended.0.0)))

  -- Of those that were made by then, the most are kept, but for some that were not acknowledged.
  of_most : (HasEnded → ⊥) → (g : Greatest IsMade (length r.events)) → KeepsFirst I W W (first g.number) r.events crashed → Kept
  of_most unended g (inl (recovers, none)) = record {
    events = [];
    cut = record {
      rest = r.events;
      whole = refl;
      keeps = λ number le made lost is.
          let others = take_more number g.number r.events (g.most number le made) in
          front W lost others.0 (subst (λ (es : List Event). acknowledges_any I W es ≡ false) (others.1 ∙ ap (λ (es : List Event). es ++ others.0) is) none);
      ended_well = λ well by. absurd (unended (well, by));
    };
    recovers = recovers;
  }
  of_most unended g (inr past) = record {
    events = past.prefix.first;
    cut = record {
      rest = past.prefix.rest;
      whole = past.prefix.whole;
      keeps = λ number le made lost is.
          let others = take_more number g.number r.events (g.most number le made) in
          front (after I W past.prefix.first) lost others.0 (past.none_lost (lost ++ others.0)
          (others.1 ∙ ap (λ (es : List Event). es ++ others.0) is ∙ append_assoc past.prefix.first lost others.0));
      ended_well = λ well by. absurd (unended (well, by));
    };
    recovers = past.prefix.recovers;
  }

  unended_kept : (HasEnded → ⊥) → Kept
  unended_kept unended = by (greatest IsMade (λ number. at_most _ _) (length r.events)) where
    by : Greatest IsMade (length r.events) ⊎ ((number : ℕ) → number ≤ length r.events → IsMade number → ⊥) → Kept
    by (inl g) = of_most unended g (since_at (KeepsFirst I W W (first g.number) r.events) (λ c. Unit {0}) (moment g.number).then_is at run.new
        (moment g.number).keeps g.has more crashed left)
    by (inr none) =
        let prefix : AtPrefix I W r.events crashed = since_at (AtPrefix I W r.events) (λ c. Unit {0}) run.old at run.new r.crashes.any_moment
        (clock_later (λ c. Unit {0}) run.old at later) more crashed left in
        record {
          events = prefix.first;
          cut = record {
            rest = prefix.rest;
            whole = prefix.whole;
            keeps = λ number le made. absurd (none number le made);
            ended_well = λ well by. absurd (unended (well, by));
          };
          recovers = prefix.recovers;
        }

  pub kept : Kept
  kept = ⊎_elim all_kept unended_kept has_ended
