-- What a transaction has pending depends on the requests on it alone.
use Rattle.std.proofs.Common.{◌≡◌, ℕ, Bool, true, false, cond, if◌then◌else◌, List, [], ◌∷◌, Option, Some, None}
use Rattle.std.proofs.Common.{Ok, Err, refl, sym, ◌∙◌, ap, subst}
use Rattle.std.specs.Prelude.{fold, unwrap_or}
use Rattle.std.specs.FinMap.{FinMap, get, insert, remove, empty, entries}
use Rattle.std.specs.Ordering.{eq_by_cmp}
use Rattle.std.specs.Str.{bytes_eq}
use Rattle.std.proofs.lemmas.Slice.Eq.{bytes_eq-Decides}
use Rattle.key_names.specs.Order.{bytes_cmp, key_cmp, bytes_total}
use Rattle.json_trees.specs.declared.pending.Pending.{Pending}
use Rattle.settings_maps.specs.Maps.{with_value}
use Rattle.settings_maps.proofs.NestedMaps.{get-insert_same, get-insert_other, get-remove_same, get-remove_other}
use Rattle.template_eval.specs.Rendered.{Rendered}
use Rattle.pending_tx.proofs.Places.{forgotten_alike}
use Rattle.settings_machine.specs.World.{Key, Image, World, Work, Job, Idle, Failed, Running, rendered}
use Rattle.settings_machine.specs.Typed.{Wanted, first_wanted}
use Rattle.settings_machine.specs.Requests.{Request, Root, OsNames, Settings, SettingsAt, SettingsBelow}
use Rattle.settings_machine.specs.Requests.{Patch, Services, ConfigurationFiles, Affected, Pends, DropTx, TxList}
use Rattle.settings_machine.specs.Requests.{Set, ApplyAll, Guarded, Plan, PlanFile, Store, Verify}
use Rattle.settings_machine.specs.Requests.{Commit, Apply, CommitAndApply, JobNow, Said, PendingTreeOf}
use Rattle.settings_machine.specs.Step.{Outcome, Answered, WithoutMemory, Unopened, Faulted, Answer, Fine, NoRoom, FileFault, NoSpawn, SyncFault, OwedFault}
use Rattle.settings_machine.specs.Step.{patch_next, commit_next, commit_and_apply_next, answered, request_next}
use Rattle.settings_machine.specs.Step.{wrote, Command, command_turn, last_turn, after_files_turn, work_turn, job_turn, turn_next, opened}
use Rattle.settings_machine.specs.Events.{Event, Opening, Succeeded, Failing, Opened, Asked, Unread, Turned, Began, Moved, Forgot, opening_next, next, after}
use Rattle.settings_machine.specs.Apart.{is_on, is_event_on, events_on, is_guarded, is_guarded_event, OthersLeaveIt, TransactionsAreApart}
use Rattle.settings_machine.specs.Step.{set_next, changed_by}
use Rattle.settings_machine.proofs.Elements.{name_tied}
use Rattle.settings_machine.proofs.Guards.{guarded_one}
use Rattle.std.specs.List.{list_any}
use Rattle.std.proofs.lemmas.Bool.{or_parts}

abbrev Maps : Type 0
Maps = FinMap bytes_cmp (FinMap key_cmp Pending)

-- ---- names

other_name : (t tx : List ℕ) → bytes_eq t tx ≡ false → eq_by_cmp bytes_cmp tx t ≡ false
other_name t tx else' = by (eq_by_cmp bytes_cmp tx t) refl where
  by : (b : Bool) → eq_by_cmp bytes_cmp tx t ≡ b → b ≡ false
  by true is = absurd (cc (else', (bytes_eq-Decides t tx).1 (sym (name_tied tx t is))))
  by false is = refl

-- ---- patches

put_same : (m n : Maps) (tx : List ℕ) (pairs : List (Key × Pending)) → get m tx ≡ get n tx
    → get (fold (λ o e. with_value o tx e.0 e.1) m pairs) tx ≡ get (fold (λ o e. with_value o tx e.0 e.1) n pairs) tx
put_same m n tx [] same = same
put_same m n tx (pair ∷ pairs) same = put_same (with_value m tx pair.0 pair.1) (with_value n tx pair.0 pair.1) tx pairs
    (get-insert_same bytes_total m tx _
    ∙ ap (λ (o : Option (FinMap key_cmp Pending)). Some (insert (unwrap_or o empty) pair.0 pair.1)) same
    ∙ sym (get-insert_same bytes_total n tx _))

put_other : (m : Maps) (t tx : List ℕ) (pairs : List (Key × Pending)) → eq_by_cmp bytes_cmp tx t ≡ false
    → get (fold (λ o e. with_value o t e.0 e.1) m pairs) tx ≡ get m tx
put_other m t tx [] apart = refl
put_other m t tx (pair ∷ pairs) apart =
    put_other (with_value m t pair.0 pair.1) t tx pairs apart ∙ get-insert_other bytes_total m t tx _ apart

module _ (I : Image) where
  -- ---- turns and openings

  wrote_keeps : (W : World) (f : List ℕ) (fs : List (List ℕ)) (w : Work) (r : Rendered) → (wrote I W f fs w r).held.pending ≡ W.held.pending
  wrote_keeps W f fs w (Ok bytes) = refl
  wrote_keeps W f fs w (Err e) = refl

  last_keeps : (W : World) (w : Work) (a : Answer) → (last_turn I W w a).held.pending ≡ W.held.pending
  last_keeps W w (Fine status) = refl
  last_keeps W w NoRoom = refl
  last_keeps W w (FileFault left) = refl
  last_keeps W w NoSpawn = refl
  last_keeps W w SyncFault = refl
  last_keeps W w (OwedFault stored) = refl

  command_keeps : (W : World) (c : Command) (cs : List Command) (w : Work) (a : Answer) → (command_turn W c cs w a).held.pending ≡ W.held.pending
  command_keeps W c cs w (Fine status) = refl
  command_keeps W c cs w NoRoom = refl
  command_keeps W c cs w (FileFault left) = refl
  command_keeps W c cs w NoSpawn = refl
  command_keeps W c cs w SyncFault = refl
  command_keeps W c cs w (OwedFault stored) = refl

  after_files_keep : (W : World) (cs : List Command) (w : Work) (a : Answer) → (after_files_turn I W cs w a).held.pending ≡ W.held.pending
  after_files_keep W [] w a = last_keeps W w a
  after_files_keep W (c ∷ cs) w a = command_keeps W c cs w a

  work_keeps : (W : World) (files : List (List ℕ)) (w : Work) (a : Answer) → (work_turn I W files w a).held.pending ≡ W.held.pending
  work_keeps W [] w a = after_files_keep W w.commands w a
  work_keeps W (f ∷ fs) w (Fine status) = wrote_keeps W f fs w (rendered I f W.held.live)
  work_keeps W (f ∷ fs) w NoRoom = refl
  work_keeps W (f ∷ fs) w (FileFault left) = refl
  work_keeps W (f ∷ fs) w NoSpawn = refl
  work_keeps W (f ∷ fs) w SyncFault = refl
  work_keeps W (f ∷ fs) w (OwedFault stored) = refl

  turn_keeps : (W : World) (a : Answer) → (turn_next I W a).held.pending ≡ W.held.pending
  unfolding turn_next
  turn_keeps W a = by W.job where
    by : (j : Job) → (job_turn I W j a).held.pending ≡ W.held.pending
    by Idle = refl
    by (Failed c) = refl
    by (Running w) = work_keeps W w.files w a

  pub opening_keeps : (W : World) (boot : Bool) (o : Opening) → (opening_next I W boot o).held.pending ≡ W.held.pending
  unfolding opened
  opening_keeps W boot Succeeded = refl
  opening_keeps W boot (Failing taken) = by taken where
    by : (b : Bool) → (if b then opened I W boot else W).held.pending ≡ W.held.pending
    by true = refl
    by false = refl

module _ (I : Image) (tx : List ℕ) where
  -- What the transaction has pending in a world.
  abbrev pending_in : World → Option (FinMap key_cmp Pending)
  pending_in W = get W.held.pending tx

  -- ---- requests on another transaction

  patch_other : (W : World) (t : List ℕ) (pairs : List (Key × Pending)) (o : Option Wanted) → bytes_eq t tx ≡ false
      → pending_in (patch_next W t pairs o).world ≡ pending_in W
  patch_other W t pairs None else' = put_other W.held.pending t tx pairs (other_name t tx else')
  patch_other W t pairs (Some wanted) else' = refl

  commit_other : (W : World) (t : List ℕ) (o : Option (FinMap key_cmp Pending)) → bytes_eq t tx ≡ false
      → pending_in (commit_next W t o).world ≡ pending_in W
  commit_other W t None else' = refl
  commit_other W t (Some p) else' = get-remove_other bytes_total W.held.pending t tx (other_name t tx else')

  commit_and_apply_other : (W : World) (t : List ℕ) (o : Option (FinMap key_cmp Pending)) → bytes_eq t tx ≡ false
      → pending_in (commit_and_apply_next I W t o).world ≡ pending_in W
  commit_and_apply_other W t None else' = refl
  commit_and_apply_other W t (Some p) else' = get-remove_other bytes_total W.held.pending t tx (other_name t tx else')

  answered_other : (W : World) (q : Request) → is_on tx q ≡ false → pending_in (answered I W q).world ≡ pending_in W
  answered_other W Root else' = refl
  answered_other W OsNames else' = refl
  answered_other W Settings else' = refl
  answered_other W (SettingsAt list) else' = refl
  answered_other W (SettingsBelow key) else' = refl
  answered_other W (Patch t pairs) else' = patch_other W t pairs (first_wanted I.types pairs) else'
  answered_other W (Services names) else' = refl
  answered_other W (ConfigurationFiles names) else' = refl
  answered_other W (Affected list) else' = refl
  answered_other W (Pends t) else' = refl
  answered_other W (DropTx t) else' = get-remove_other bytes_total W.held.pending t tx (other_name t tx else')
  answered_other W TxList else' = refl
  answered_other W (Commit t) else' = commit_other W t (get W.held.pending t) else'
  answered_other W Apply else' = refl
  answered_other W (CommitAndApply t) else' = commit_and_apply_other W t (get W.held.pending t) else'
  answered_other W JobNow else' = refl
  answered_other W (Set pairs) else' = by (first_wanted I.types pairs) where
    by : (o : Option Wanted) → pending_in (set_next I W pairs o).world ≡ pending_in W
    by None = refl
    by (Some wanted) = refl
  answered_other W ApplyAll else' = refl
  answered_other W (Guarded q) else' =
      guarded_one I (λ (X : World). pending_in X ≡ pending_in W) W (changed_by W q) (answered I W q) refl (answered_other W q else')
  answered_other W (Plan t) else' = refl
  answered_other W (PlanFile file t) else' = refl
  answered_other W Store else' = refl
  answered_other W Verify else' = refl

  request_other : (W : World) (q : Request) (o : Outcome) → is_on tx q ≡ false → pending_in (request_next I W q o).world ≡ pending_in W
  unfolding request_next
  request_other W q Answered else' = answered_other W q else'
  request_other W q WithoutMemory else' = refl
  request_other W q (Unopened at) else' = refl
  request_other W q (Faulted taken) else' = by taken where
    by : (b : Bool) → get (if b then (answered I W q).world.held else W.held).pending tx ≡ pending_in W
    by true = answered_other W q else'
    by false = refl

  -- An event that is on no transaction, or on another one.
  next_other : (W : World) (e : Event) → is_event_on tx e ≡ false → pending_in (next I W e) ≡ pending_in W
  next_other W (Opened boot o) else' = ap (λ (m : Maps). get m tx) (opening_keeps I W boot o)
  next_other W (Asked q o) else' = request_other W q o else'
  next_other W (Unread why) else' = refl
  next_other W (Turned a) else' = ap (λ (m : Maps). get m tx) (turn_keeps I W a)
  next_other W (Began version) else' = absurd (cc else')
  next_other W (Moved version held) else' = absurd (cc else')
  next_other W (Forgot keys) else' = absurd (cc else')

  -- ---- requests on the transaction

  module _ (W X : World) (same : pending_in W ≡ pending_in X) where
    patch_own : (pairs : List (Key × Pending)) (o : Option Wanted) → pending_in (patch_next W tx pairs o).world ≡ pending_in (patch_next X tx pairs o).world
    patch_own pairs None = put_same W.held.pending X.held.pending tx pairs same
    patch_own pairs (Some wanted) = same

    removed_own : get (remove W.held.pending tx) tx ≡ get (remove X.held.pending tx) tx
    removed_own = get-remove_same bytes_total W.held.pending tx ∙ sym (get-remove_same bytes_total X.held.pending tx)

    commit_own : (o : Option (FinMap key_cmp Pending)) → pending_in (commit_next W tx o).world ≡ pending_in (commit_next X tx o).world
    commit_own None = same
    commit_own (Some p) = removed_own

    commit_and_apply_own : (o : Option (FinMap key_cmp Pending))
        → pending_in (commit_and_apply_next I W tx o).world ≡ pending_in (commit_and_apply_next I X tx o).world
    commit_and_apply_own None = same
    commit_and_apply_own (Some p) = removed_own

    -- What a request on it makes of what it has pending is said by that alone.
    abbrev AreAlike : Request → Type 0
    AreAlike q = pending_in (answered I W q).world ≡ pending_in (answered I X q).world

    named : (t : List ℕ) → bytes_eq t tx ≡ true → tx ≡ t
    named t is = sym ((bytes_eq-Decides t tx).0 is)

    answered_own : (q : Request) → is_on tx q ≡ true → is_guarded q ≡ false → AreAlike q
    answered_own Root is plain = absurd (cc is)
    answered_own OsNames is plain = absurd (cc is)
    answered_own Settings is plain = absurd (cc is)
    answered_own (SettingsAt list) is plain = absurd (cc is)
    answered_own (SettingsBelow key) is plain = absurd (cc is)
    answered_own (Patch t pairs) is plain = subst (λ (u : List ℕ). AreAlike (Patch u pairs)) (named t is) (patch_own pairs (first_wanted I.types pairs))
    answered_own (Services names) is plain = absurd (cc is)
    answered_own (ConfigurationFiles names) is plain = absurd (cc is)
    answered_own (Affected list) is plain = absurd (cc is)
    answered_own (Pends t) is plain = absurd (cc is)
    answered_own (DropTx t) is plain = subst (λ (u : List ℕ). AreAlike (DropTx u)) (named t is) removed_own
    answered_own TxList is plain = absurd (cc is)
    answered_own (Commit t) is plain = subst (λ (u : List ℕ). AreAlike (Commit u)) (named t is)
        (commit_own (pending_in W) ∙ ap (λ (o : Option (FinMap key_cmp Pending)). pending_in (commit_next X tx o).world) same)
    answered_own Apply is plain = absurd (cc is)
    answered_own (CommitAndApply t) is plain = subst (λ (u : List ℕ). AreAlike (CommitAndApply u)) (named t is)
        (commit_and_apply_own (pending_in W) ∙ ap (λ (o : Option (FinMap key_cmp Pending)). pending_in (commit_and_apply_next I X tx o).world) same)
    answered_own JobNow is plain = absurd (cc is)
    answered_own (Set pairs) is plain = absurd (cc is)
    answered_own ApplyAll is plain = absurd (cc is)
    answered_own (Guarded q) is plain = absurd (cc plain)
    answered_own (Plan t) is plain = absurd (cc is)
    answered_own (PlanFile file t) is plain = absurd (cc is)
    answered_own Store is plain = absurd (cc is)
    answered_own Verify is plain = absurd (cc is)

    request_own : (q : Request) (o : Outcome) → is_on tx q ≡ true → is_guarded q ≡ false
        → pending_in (request_next I W q o).world ≡ pending_in (request_next I X q o).world
    unfolding request_next
    request_own q Answered is plain = answered_own q is plain
    request_own q WithoutMemory is plain = same
    request_own q (Unopened at) is plain = same
    request_own q (Faulted taken) is plain = by taken where
      by : (b : Bool) → get (if b then (answered I W q).world.held else W.held).pending tx
          ≡ get (if b then (answered I X q).world.held else X.held).pending tx
      by true = answered_own q is plain
      by false = same

    -- An event that is on the transaction.
    next_own : (e : Event) → is_event_on tx e ≡ true → is_guarded_event e ≡ false → pending_in (next I W e) ≡ pending_in (next I X e)
    next_own (Opened boot o) is plain = absurd (cc is)
    next_own (Asked q o) is plain = request_own q o is plain
    next_own (Unread why) is plain = absurd (cc is)
    next_own (Turned a) is plain = absurd (cc is)
    next_own (Began version) is plain = refl
    next_own (Moved version held) is plain = refl
    next_own (Forgot keys) is plain = forgotten_alike tx keys W.held X.held same

    reply_same : (o : Outcome) → (request_next I W (Pends tx) o).reply ≡ (request_next I X (Pends tx) o).reply
    unfolding request_next
    reply_same Answered = ap (λ (o : Option (FinMap key_cmp Pending)). Said (PendingTreeOf 1 (entries (unwrap_or o empty)))) same
    reply_same WithoutMemory = refl
    reply_same (Unopened at) = refl
    reply_same (Faulted taken) = refl

  -- ---- the law

  -- After these events it has the same pending as from another world after others.
  abbrev AreAlikeAfter : World → List Event → World → List Event → Type 0
  AreAlikeAfter W es X fs = pending_in (after I W es) ≡ pending_in (after I X fs)

  after_same : (W X : World) → pending_in W ≡ pending_in X → (events : List Event) → list_any is_guarded_event (events_on tx events) ≡ false
      → AreAlikeAfter W events X (events_on tx events)
  after_same W X same [] plain = same
  after_same W X same (e ∷ es) plain = by (is_event_on tx e) refl plain
      (λ is first rest. after_same (next I W e) (next I X e) (next_own W X same e is first) es rest)
      (λ else' rest. after_same (next I W e) X (next_other W e else' ∙ same) es rest)
    where
      by : (b : Bool) → is_event_on tx e ≡ b → list_any is_guarded_event (cond b (e ∷ events_on tx es) (events_on tx es)) ≡ false
          → (is_event_on tx e ≡ true → is_guarded_event e ≡ false → list_any is_guarded_event (events_on tx es) ≡ false
          → AreAlikeAfter (next I W e) es (next I X e) (events_on tx es))
          → (is_event_on tx e ≡ false → list_any is_guarded_event (events_on tx es) ≡ false → AreAlikeAfter (next I W e) es X (events_on tx es))
          → AreAlikeAfter (next I W e) es X (cond b (e ∷ events_on tx es) (events_on tx es))
      by true is plain' own other = let both = or_parts (is_guarded_event e) (list_any is_guarded_event (events_on tx es)) plain' in own is both.0 both.1
      by false is plain' own other = other is plain'

  after_others : (W : World) (events : List Event) → list_any (is_event_on tx) events ≡ false → pending_in (after I W events) ≡ pending_in W
  after_others W [] none = refl
  after_others W (e ∷ es) none =
      let both = or_parts (is_event_on tx e) (list_any (is_event_on tx) es) none in
      after_others (next I W e) es both.1 ∙ next_other W e both.0

pub others_leave_it : OthersLeaveIt
others_leave_it I tx W events none =
    let there = after_others I tx W events none in
    record { pending = there; reply = reply_same I tx (after I W events) W there }

pub transactions_are_apart : TransactionsAreApart
transactions_are_apart I tx W X same events plain =
    let there = after_same I tx W X same events plain in
    record { pending = there; reply = reply_same I tx (after I W events) (after I X (events_on tx events)) there }
