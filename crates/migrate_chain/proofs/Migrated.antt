-- A store is moved to a version, as a whole.
use Rattle.std.proofs.Common.{◌≡◌, inl, inr, ◌⊎◌, ℕ, Bool, true, false, List, [], ◌∷◌}
use Rattle.std.proofs.Common.{map, length, Option, Result, Ok, Err, refl, sym, ◌∙◌, ap, subst, codes, arith}
use Rattle.std.specs.Prelude.{OnOk, IfErr, IsErrOf}
use Rattle.std.proofs.lemmas.Result.{IfErr-weaker}
use Rattle.std.proofs.lemmas.Bool.{false≢true}
use Rattle.outside.specs.Names.{Names}
use Rattle.outside.specs.Tree.{Tree}
use Rattle.outside.specs.History.{History, next, synced, tree_of, IsCrashState}
use Rattle.outside.specs.Since.{EachSince, IsAtOrSync, Touches}
use Rattle.outside.specs.Told.{Moves}
use Rattle.outside.proofs.Crash.{settled_state, settled_synced}
use Rattle.outside.proofs.Since.{since_start, since_next, since_map, since_joined}
use Rattle.outside.proofs.Goes.{goes_stay, goes_next, goes_joined, goes_map}
use Rattle.outside.proofs.Told.{moves_map, moves_then}
use Rattle.commit_journal.specs.Files.{IsBelow}
use Rattle.commit_journal.specs.Recovery.{FromSyncOn}
use Rattle.settings_tree.specs.declared.held.Held.{Held}
use Rattle.version_links.specs.declared.version.Version.{Version}
use Rattle.version_links.specs.declared.chain.Place.{Place}
use Rattle.version_links.specs.Chain.{Resolves}
use Rattle.version_links.specs.Chain as outcome
use Rattle.outside.specs.declared.disk_error.DiskErr.{DiskErr}
use Rattle.outside.specs.declared.disk_error.DiskErr.TheVariants as device
use Rattle.release_file.specs.declared.transition.Transition.{Transition}
use Rattle.release_file.specs.declared.work.Named.{Named}
use Rattle.migrate_chain.specs.declared.start.Start.{Start}
use Rattle.migrate_chain.specs.declared.moving.Moved.{Moved}
use Rattle.release_file.specs.declared.plan_error.PlanError.{PlanError}
use Rattle.release_file.specs.declared.plan_error.PlanError.TheVariants as plan
use Rattle.migrate_chain.specs.declared.task_error.TaskError.{TaskError}
use Rattle.migrate_chain.specs.declared.task_error.TaskError.TheVariants as unmade
use Rattle.migrate_chain.specs.declared.move_error.MoveError.{MoveError}
use Rattle.migrate_chain.specs.declared.move_error.MoveError.TheVariants.{NoStore, BadLink, BadJournal, Damaged, Missing}
use Rattle.migrate_chain.specs.declared.move_error.MoveError.TheVariants.{Conflict, Status, BadAnswer, Spawn, Failed, Memory}
use Rattle.migrate_chain.specs.Errors.{of_disk, of_task, of_plan}
use Rattle.release_file.specs.Order.{is_before}
use Rattle.release_file.specs.Chain.{is_back, IsWay, HasNoPlan}
use Rattle.migrate_chain.specs.Tasks.{Task, Mapped, Refused, tasks_of}
use Rattle.migrate_chain.specs.Store.{at_place, HasStore}
use Rattle.migrate_chain.specs.Starting.{Starts, IsReady, IsFound}
use Rattle.migrate_chain.specs.Moving.{IsAtHand, HasMoved, HasOldOrNew, MovesAlong, Ends, IsAnswer, IsBehind, IsRefusal, is_early}
use Rattle.migrate_chain.specs.Migrating.{HasMigrated, IsThere, HasSome, Migrates, SinceStart}
use Rattle.migrate_chain.proofs.Stays.{standing}
use Rattle.migrate_chain.proofs.Along.{in_store}
use Rattle.std.proofs.lemmas.Result.{IfOk-weaker}

-- ---- from the start on

pub since_first : (P : Tree → Type 0) (old new : History) → P (tree_of old) → FromSyncOn (EachSince P) old new → SinceStart P old new
since_first P old new here (inl is) = subst (λ h. SinceStart P old h) (sym is) (since_start (λ crashed. IsCrashState old crashed ⊎ P crashed) old
    (λ crashed im. inl im))
since_first P old new here (inr since) =
    since_joined (λ crashed. IsCrashState old crashed ⊎ P crashed) old (next synced old) new
    (since_next (λ crashed. IsCrashState old crashed ⊎ P crashed) old old synced (since_start (λ crashed. IsCrashState old crashed ⊎ P crashed) old
    (λ crashed im. inl im))
    (λ crashed im. inr (subst P (sym (settled_state (next synced old) (settled_synced old) crashed im)) here)))
    (since_map P (λ crashed. IsCrashState old crashed ⊎ P crashed) (next synced old) new (λ crashed there. inr there) since)

-- Where each tree that has P has Q.
since_wider : (P Q : Tree → Type 0) (old new : History) → ((crashed : Tree) → P crashed → Q crashed) → SinceStart P old new → SinceStart Q old new
since_wider P Q old new wider since = since_map (λ crashed. IsCrashState old crashed ⊎ P crashed) (λ crashed. IsCrashState old crashed ⊎ Q crashed) old new
    (λ crashed either. elim either [ inl im ↦ inl im | inr there ↦ inr (wider crashed there) ]) since

pub touched_since : (Q : Names → Type 0) (old new : History) → FromSyncOn (Touches Q) old new → Touches Q old new
touched_since Q old new (inl is) = subst (λ h. Touches Q old h) (sym is) (goes_stay (IsAtOrSync Q) old)
touched_since Q old new (inr more) = goes_joined (IsAtOrSync Q) old (next synced old) new
    (goes_next (IsAtOrSync Q) old old synced (goes_stay (IsAtOrSync Q) old) tt) more

-- ---- the errors

early_disk : (e : DiskErr) → is_early (of_disk e) ≡ false
early_disk device.Failed = refl
early_disk device.Memory = refl

early_task : (e : TaskError) → is_early (of_task e) ≡ false
early_task (unmade.Conflict key) = refl
early_task (unmade.Status name number) = refl
early_task (unmade.BadAnswer name) = refl
early_task (unmade.Failed name) = refl
early_task unmade.Memory = refl

is_other : MoveError → Bool
is_other NoStore = true
is_other (BadLink path) = true
is_other (BadJournal path) = true
is_other (Damaged path) = true
is_other x = false

plan_is : (e : PlanError) → is_other (of_plan e) ≡ false
unfolding is_other
plan_is (plan.Missing at target) = refl
plan_is plan.Memory = refl

not_plan : (e : PlanError) (x : MoveError) → is_other x ≡ true → of_plan e ≡ x → ⊥
not_plan e x other is = false≢true (sym (plan_is e) ∙ ap is_other is ∙ other)

plan_told : (e : PlanError) (at target : Version) → of_plan e ≡ Missing at target → e ≡ plan.Missing at target
plan_told (plan.Missing v w) at target is = let one : v ≡ at = cc in let two : w ≡ target = cc in ap (λ x. plan.Missing x w) one
    ∙ ap (λ x. plan.Missing at x) two
plan_told plan.Memory at target is = cc

not_behind : (e : MoveError) → (IsRefusal e → ⊥) → ((at target : Version) → e ≡ Missing at target → ⊥) → IsBehind e → ⊥
not_behind NoStore quiet planned behind = behind
not_behind (BadLink path) quiet planned behind = behind
not_behind (BadJournal path) quiet planned behind = behind
not_behind (Damaged path) quiet planned behind = behind
not_behind (Missing at target) quiet planned behind = planned at target refl
not_behind (Conflict key) quiet planned behind = quiet behind
not_behind (Status name number) quiet planned behind = quiet behind
not_behind (BadAnswer name) quiet planned behind = quiet behind
not_behind (Spawn name) quiet planned behind = quiet behind
not_behind Failed quiet planned behind = behind
not_behind Memory quiet planned behind = behind

pub plan_quiet : (e : PlanError) → IsRefusal (of_plan e) → ⊥
plan_quiet (plan.Missing at target) refusal = refusal
plan_quiet plan.Memory refusal = refusal

late : (tasks : List Task) (h : Held) (a b : Option (List Mapped)) (p q : Option (List Refused)) (e : MoveError) → Ends tasks h a b p q e → is_early e ≡ false
late tasks h a b p q e (inl (inl of)) = ap is_early of.1 ∙ early_disk of.0
late tasks h a b p q e (inl (inr of)) = ap is_early of.1 ∙ early_task of.0
late tasks h a b p q e (inr (inl is, done, same)) = ap is_early is
late tasks h a b p q e (inr (inr is, done, same)) = ap is_early is

not_early : (tasks : List Task) (h : Held) (a b : Option (List Mapped)) (p q : Option (List Refused)) (r : Result Moved MoveError) (e : MoveError)
    → IfErr r (Ends tasks h a b p q) → is_early e ≡ true → IsErrOf r e → ⊥
not_early tasks h a b p q r e ends early is = false≢true (sym (late tasks h a b p q e (subst (λ x. IfErr x (Ends tasks h a b p q)) is ends)) ∙ early)

same_error : {T : Type 0} (x y : MoveError) → ◌≡◌ {A = Result T MoveError} (Err x) (Err y) → x ≡ y
same_error x y e = cc

ok_err : {T : Type 0} (v : T) (x : MoveError) → ◌≡◌ {A = Result T MoveError} (Ok v) (Err x) → ⊥
ok_err v x e = cc

-- ---- a store that was found

-- What holds of the store that was found holds of the one that was there.
for_found : (F : Place → Held → ℕ → Type 0) (start : Start) (place : Place) (held : Held) (format : ℕ) → IsFound start place held format
    → F start.place start.held start.format → F place held format
for_found F start place held format is own =
    subst (λ f. F place held f) is.format_is (subst (λ h. F place h start.format) is.held_is (subst (λ p. F p start.held start.format) is.place_is own))

-- And the other way round.
back_found : (F : Place → Held → ℕ → Type 0) (start : Start) (place : Place) (held : Held) (format : ℕ) → IsFound start place held format → F place held format
    → F start.place start.held start.format
back_found F start place held format is own =
    subst (λ p. F p start.held start.format) (sym is.place_is) (subst (λ h. F place h start.format) (sym is.held_is)
    (subst (λ f. F place held f) (sym is.format_is) own))

dir_in_store : (tree : Tree) (place : Place) → Resolves tree (at_place place) → (p : Names) → IsBelow place.directory p → IsBelow (codes "store" ∷ []) p
dir_in_store tree place (id, led, at) p below = let there = subst (λ d. IsBelow d p) at below in (_, there.0 ∷ there.1, there.2)

start_outside : (old new : History) (r : Result Start MoveError) → Starts r old new → (place : Place) → Resolves (tree_of old) (at_place place)
    → Touches (IsBelow (codes "store" ∷ [])) old new
start_outside old new r starts place led =
    goes_map (IsAtOrSync (IsBelow place.directory)) (IsAtOrSync (IsBelow (codes "store" ∷ []))) old new
    (λ change here. in_store change (IsBelow place.directory) (dir_in_store (tree_of old) place led) here)
    (touched_since (IsBelow place.directory) old new (starts.sync_first place led))

-- What holds of any answer.
pub on_ok_all : {T E X : Type 0} (r : Result T E) → X → OnOk r X
on_ok_all (Ok v) x = x
on_ok_all (Err e) x = tt

-- What holds of any error.
if_err_any : {T E : Type 0} {P : E → Type 0} (r : Result T E) → ((e : E) → P e) → IfErr r P
if_err_any (Ok v) holds = tt
if_err_any (Err e) holds = holds e

module _ (to : Version) (transitions : List Transition) (migrations : List Named) (before after : Option (List Mapped)) (p q : Option (List Refused)) where
  abbrev Moment : Place → Held → ℕ → Tree → Type 0
  Moment place held format crashed = HasStore place held format crashed ⊎ HasMigrated place held to transitions migrations before after crashed

  -- The store is not found.
  pub not_found : (e : MoveError) (a b : Option History) → after ≡ before → q ≡ p → (IsRefusal e → ⊥) → Moves a b (Starts (Err e))
      → Moves a b (Migrates to transitions migrations before after p q (Err e))
  not_found e a b mapped noted quiet m = moves_map (λ old new starts. record {
    any_moment = λ place held format store. since_wider (HasStore place held format) (Moment place held format) old new (λ crashed s. inl s)
        (since_first (HasStore place held format) old new store (starts.keeps place held format store));
    done = tt;
    answer = tt;
    found = tt;
    found_first = λ behind. absurd (not_behind e quiet (λ at target is. starts.no_plan at target (ap Err is)) behind);
    stays = λ place held store same. starts.sync_first place store.led;
    still = λ place held store same. since_first (HasStore place held 2) old new store (starts.keeps place held 2 store);
    not_refused = tt;
    kept = λ other place held format store. since_first (HasStore place held format) old new store (starts.keeps place held format store);
    ended = λ place held format store. record { ended = inl (mapped, noted, quiet) };
    outside = start_outside old new (Err e) starts;
    no_store = λ is. starts.no_store (ap Err (same_error e NoStore is));
    bad_link = λ path is. starts.bad_link path (ap Err (same_error e (BadLink path) is));
    bad_journal = λ path is. starts.bad_journal path (ap Err (same_error e (BadJournal path) is));
    damaged = λ path is. starts.damaged path (ap Err (same_error e (Damaged path) is));
    missing = λ at target is. absurd (starts.no_plan at target (ap Err (same_error e (Missing at target) is)));
  }) m

  some_store : (start : Start) (old new : History) → Starts (Ok start) old new → HasSome (tree_of old)
  some_store start old new starts = record { place = start.place; held = start.held; format = start.format; store = starts.ready.was }

  keeps_since : (r : Result Start MoveError) (old new : History) → Starts r old new → (place : Place) (held : Held) (format : ℕ)
      → HasStore place held format (tree_of old) → SinceStart (HasStore place held format) old new
  keeps_since r old new starts place held format store = since_first (HasStore place held format) old new store (starts.keeps place held format store)

  -- No way leads to the version.
  pub no_way : (start : Start) (e : PlanError) (a b : Option History) → after ≡ before → q ≡ p → Moves a b (Starts (Ok start))
      → ((at target : Version) → e ≡ plan.Missing at target → HasNoPlan transitions start.place.version to at target)
      → Moves a b (Migrates to transitions migrations before after p q (Err (of_plan e)))
  unfolding is_other
  no_way start e a b mapped noted m missing = moves_map (λ old new starts. record {
    any_moment = λ place held format store. since_wider (HasStore place held format) (Moment place held format) old new (λ crashed s. inl s)
        (keeps_since (Ok start) old new starts place held format store);
    done = tt;
    answer = tt;
    found = tt;
    found_first = λ behind. some_store start old new starts;
    stays = λ place held store same. starts.sync_first place store.led;
    still = λ place held store same. keeps_since (Ok start) old new starts place held 2 store;
    not_refused = tt;
    kept = λ other place held format store. keeps_since (Ok start) old new starts place held format store;
    ended = λ place held format store. record { ended = inl (mapped, noted, plan_quiet e) };
    outside = start_outside old new (Ok start) starts;
    no_store = λ is. absurd (not_plan e NoStore refl (same_error (of_plan e) NoStore is));
    bad_link = λ path is. absurd (not_plan e (BadLink path) refl (same_error (of_plan e) (BadLink path) is));
    bad_journal = λ path is. absurd (not_plan e (BadJournal path) refl (same_error (of_plan e) (BadJournal path) is));
    damaged = λ path is. absurd (not_plan e (Damaged path) refl (same_error (of_plan e) (Damaged path) is));
    missing = λ at target is. (start.place, starts.ready.was.led, missing at target (plan_told e at target (same_error (of_plan e) (Missing at target) is)));
  }) m

  -- The store is at the version, in format 2.
  pub is_there : (start : Start) (moved : Moved) (a b : Option History) → moved.from ≡ start.place.version → moved.to ≡ to
      → moved.directory ≡ start.place.directory → q ≡ p → Moves a b (Starts (Ok start)) → start.format ≡ 2 → start.place.version ≡ to
      → Moves a b (Migrates to transitions migrations before after p q (Ok moved))
  is_there start moved a b from_is to_is at noted m two same = moves_map (λ old new starts. record {
    any_moment = λ place held format store. since_wider (HasStore place held format) (Moment place held format) old new (λ crashed s. inl s)
        (keeps_since (Ok start) old new starts place held format store);
    done = λ place held format store. (
      starts.ready.settled,
      inl (for_found (λ p h f. IsThere p h f to (tree_of new)) start place held format (starts.found place held format store) (record {
        version_is = same;
        format_is = two;
        store = record {
          led = starts.ready.led;
          stands = standing start.place.directory start.held start.format (tree_of new) (tree_of new) (λ p below. refl)
              starts.ready.stands;
        };
      })),
    );
    answer = λ place held format store.
        for_found (λ r h f. IsAnswer moved r.version to (tree_of new)) start place held format (starts.found place held format store) (record {
          from_is = from_is;
          to_is = to_is;
          led = subst (λ (d : Names). Resolves (tree_of new) (outcome.found to d)) (sym at)
              (subst (λ (v : Version). Resolves (tree_of new) (outcome.found v start.place.directory)) same starts.ready.led);
        });
    found = some_store start old new starts;
    found_first = tt;
    stays = λ place held store same. starts.sync_first place store.led;
    still = λ place held store same. keeps_since (Ok start) old new starts place held 2 store;
    not_refused = noted;
    kept = tt;
    ended = tt;
    outside = start_outside old new (Ok start) starts;
    no_store = λ is. absurd (ok_err moved NoStore is);
    bad_link = λ path is. absurd (ok_err moved (BadLink path) is);
    bad_journal = λ path is. absurd (ok_err moved (BadJournal path) is);
    damaged = λ path is. absurd (ok_err moved (Damaged path) is);
    missing = λ at target is. absurd (ok_err moved (Missing at target) is);
  }) m

  module _ (start : Start) (way : List Transition) (is_way : IsWay transitions start.place.version to way) (back : Bool)
      (turned : back ≡ is_before to start.place.version) (result : Result Moved MoveError)
      (ends : IfErr result (Ends (tasks_of migrations back way) start.held before after p q)) (noted : OnOk result (q ≡ p))
      (needed : start.place.version ≡ to → start.format ≡ 2 → ⊥) where
    migrated_image : (crashed : Tree) → HasMoved (tasks_of migrations back way) to start.held before after crashed
        → HasMigrated start.place start.held to transitions migrations before after crashed
    migrated_image crashed moved = record {
      way = way;
      is_way = is_way;
      moved =
          subst (λ b. HasMoved (tasks_of migrations b way) to start.held before after crashed) turned moved;
    }

    hand : (old mid : History) → IsReady start old mid → IsAtHand start mid
    hand old mid ready = record { led = ready.led; stands = ready.stands; settled = ready.settled }

    refuted : (x : MoveError) → is_early x ≡ true → IsErrOf result x → ⊥
    refuted x early is = not_early (tasks_of migrations back way) start.held before after p q result x ends early is

    -- The store is moved along the way, or not.
    pub migrated : (a b c : Option History) → Moves a b (Starts (Ok start)) → Moves b c (MovesAlong start (tasks_of migrations back way) to before after result)
        → Moves a c (Migrates to transitions migrations before after p q result)
    migrated a b c m n = moves_then (λ old mid new starts along. record {
      any_moment = λ place held format store.
          let found = starts.found place held format store in
          for_found (λ q h f. SinceStart (Moment q h f) old new) start place held format found
          (since_joined (λ crashed. IsCrashState old crashed ⊎ Moment start.place start.held start.format crashed) old mid new
          (since_wider (HasStore start.place start.held start.format) (Moment start.place start.held start.format) old mid (λ crashed s. inl s)
          (keeps_since (Ok start) old mid starts start.place start.held start.format
          (back_found (λ q h f. HasStore q h f (tree_of old)) start place held format found store)))
          (since_map (HasOldOrNew start (tasks_of migrations back way) to before after)
          (λ crashed. IsCrashState old crashed ⊎ Moment start.place start.held start.format crashed) mid new
          (λ crashed either. elim either [ inl s ↦ inr (inl s) | inr m ↦ inr (inr (migrated_image crashed m)) ])
          (along.any_moment (hand old mid starts.ready))));
      done = IfOk-weaker result _ _ (λ moved done place held format store.
          let both = done (hand old mid starts.ready) in (
            both.1,
            inr (for_found (λ q h f. HasMigrated q h to transitions migrations before after (tree_of new)) start place held format
                (starts.found place held format store) (migrated_image (tree_of new) both.0)),
          )) along.done;
      answer = IfOk-weaker result _ _ (λ moved answer place held format store. for_found (λ r h f. IsAnswer moved r.version to (tree_of new)) start place held
          format (starts.found place held format store) (answer (hand old mid starts.ready))) along.answer;
      found = on_ok_all result (some_store start old mid starts);
      found_first = if_err_any result (λ e behind. some_store start old mid starts);
      stays = λ place held store same.
          let found = starts.found place held 2 store in
          absurd (needed (ap (λ (r : Place). r.version) found.place_is ∙ same) found.format_is);
      still = λ place held store same.
          let found = starts.found place held 2 store in
          absurd (needed (ap (λ (r : Place). r.version) found.place_is ∙ same) found.format_is);
      not_refused = noted;
      kept = IfErr-weaker result _ _ (λ e kept other place held format store.
          let found = starts.found place held format store in
          for_found (λ q h f. SinceStart (HasStore q h f) old new) start place held format found
          (since_joined (λ crashed. IsCrashState old crashed ⊎ HasStore start.place start.held start.format crashed) old mid new
          (keeps_since (Ok start) old mid starts start.place start.held start.format
          (back_found (λ q h f. HasStore q h f (tree_of old)) start place held format found store))
          (since_map (HasStore start.place start.held start.format)
          (λ crashed. IsCrashState old crashed ⊎ HasStore start.place start.held start.format crashed) mid new
          (λ crashed s. inr s)
          (kept other (hand old mid starts.ready))))) along.kept;
      ended = IfErr-weaker result _ _ (λ e end place held format store. record {
        ended = inr (
          way,
          for_found (λ q h f. IsWay transitions q.version to way) start place held format (starts.found place held format store) is_way,
          for_found (λ r h f. Ends (tasks_of migrations (is_back r.version to) way) h before after p q e) start place held format
              (starts.found place held format store) (subst (λ b. Ends (tasks_of migrations b way) start.held before after p q e) turned end),
        );
      }) ends;
      outside = λ place led. goes_joined (IsAtOrSync (IsBelow (codes "store" ∷ []))) old mid new (start_outside old mid (Ok start) starts place led)
          (along.outside (hand old mid starts.ready));
      no_store = λ is. absurd (refuted NoStore refl is);
      bad_link = λ path is. absurd (refuted (BadLink path) refl is);
      bad_journal = λ path is. absurd (refuted (BadJournal path) refl is);
      damaged = λ path is. absurd (refuted (Damaged path) refl is);
      missing = λ at target is. absurd (refuted (Missing at target) refl is);
    }) m n

pub none_mapped : {S T : Type 0} (f : S → T) (xs : List S) → length xs ≡ 0 → map f xs ≡ []
none_mapped f [] size = refl
none_mapped f (x ∷ xs) size = absurd (omega arith)
