-- Commits of pairs: what they come to.
use Rattle.std.proofs.Common.{arith, ◌≡◌, inl, inr, ◌++◌, ◌==◌, ℕ, true, false, length, List, [], ◌∷◌}
use Rattle.std.proofs.Common.{Option, Some, None, Ok, Err, IfOk, IfErr, codes, refl, sym, ◌∙◌, ap, subst}
use Rattle.std.specs.FinMap.{FinMap, get}
use Rattle.std.proofs.lemmas.Bool.{eqb-true}
use Rattle.outside.specs.History.{History}
use Rattle.key_names.specs.Order.{key_cmp}
use Rattle.json_trees.specs.declared.pending.Pending.{Pending}
use Rattle.json_trees.specs.declared.scalar.Scalar.{Scalar}
use Rattle.serde_json.specs.Written.{compact_text}
use Rattle.held_text.specs.HeldText.{keys_data}
use Rattle.pending_tx.specs.Transactions.{keys_of}
use Rattle.store_open.specs.Laws.{HoldsImage}
use Rattle.store_open.specs.declared.opened.Opened.{Opened}
use Rattle.settings_machine.specs.World.{Key, Image, World}
use Rattle.settings_machine.specs.Requests as machine
use Rattle.settings_machine.specs.Requests.{Request, Commit, KeyList, Reply, Said, is_success}
use Rattle.settings_machine.specs.Step.{Outcome, Answered, commit_next, request_next}
use Rattle.settings_machine.specs.Events.{Event, Asked, after}
use Rattle.settings_machine.specs.Paid.{IsGood}
use Rattle.machine_disk.specs.Kept.{Folder, CoreState, Kept}
use Rattle.machine_disk.specs.Ran.{Ran, Reopens}
use Rattle.machine_disk.proofs.Runs.{ran_none}
use Rattle.command_outcome.specs.Ends.{Outcome as Ended}
use Rattle.command_outcome.specs.declared.refusal.Refusal.{Refusal}
use Rattle.command_outcome.specs.declared.refusal.Refusal.TheVariants as refused
use Rattle.api_core.specs.Cores.{core_state}
use Rattle.api_core.specs.declared.serving.Core.{Core}
use Rattle.core_commands.specs.Asking.{Succeeds, Stops, AskedBy, AsksEach, AsksOne, AsksFor}
use Rattle.core_commands.specs.Carried.{core_over}
use Rattle.core_commands.specs.Committing.{patch_requests, commit_requests, RepliesKeys, ComesTo, IsCommitted, Commits, IsBodyLine}
use Rattle.core_commands.specs.Handing.{Tells}
use Rattle.core_commands.proofs.Asked.{one_more, all_succeed, last_stops}
use Rattle.core_commands.proofs.Stopping.{stops_before}

-- ---- the reply to the commit

-- A reply of success to a commit says its keys, and the line is their text.
keys_replied : (I : Image) (X : World) (tx line : List ℕ) → is_success (request_next I X (Commit tx) Answered).reply ≡ true
    → IsBodyLine (request_next I X (Commit tx) Answered).reply line
    → (keys : List Key) × ((request_next I X (Commit tx) Answered).reply ≡ Said (KeyList keys)) × (line ≡ compact_text (keys_data keys) ++ 10 ∷ [])
unfolding request_next
keys_replied I X tx line success says = by (get X.held.pending tx) success says where
  by : (o : Option (FinMap key_cmp Pending)) → is_success (commit_next X tx o).reply ≡ true → IsBodyLine (commit_next X tx o).reply line
      → (keys : List Key) × ((commit_next X tx o).reply ≡ Said (KeyList keys)) × (line ≡ compact_text (keys_data keys) ++ 10 ∷ [])
  by None success says = absurd (cc success)
  by (Some p) success says = (keys_of X.held tx, refl, says.2 ∙ ap (λ (l : List ℕ). l ++ 10 ∷ []) says.1)

-- ---- what it comes to

module _ (I : Image) (W : World) (tx : List ℕ) (pairs : List (Key × Scalar)) (events : List Event) where
  -- A reply without success.
  stops_come : (reply : Reply) → Stops I W (commit_requests tx pairs) reply events → (refusal : Refusal) → Tells reply refusal
      → ComesTo I W tx pairs (Err refusal) events
  stops_come (machine.Refused r) stops refusal told = subst (λ (x : Refusal). ComesTo I W tx pairs (Err x) events) (sym told) stops
  stops_come machine.NoMemory stops refusal told = subst (λ (x : Refusal). ComesTo I W tx pairs (Err x) events) (sym told) (inr stops)
  stops_come machine.DiskFault stops refusal told = subst (λ (x : Refusal). ComesTo I W tx pairs (Err x) events) (sym told) stops
  stops_come (machine.Said body) stops refusal told = absurd told
  stops_come machine.Empty stops refusal told = absurd told
  stops_come (machine.NotOpened at) stops refusal told = absurd told

-- ---- the commit

has_none : (pairs : List (Key × Scalar)) → (length pairs == 0) ≡ true → pairs ≡ []
has_none [] e = refl
has_none (pair ∷ pairs) e = absurd (omega (arith, eqb-true (length (pair ∷ pairs)) 0 e))

has_some : (pairs : List (Key × Scalar)) → (length pairs == 0) ≡ false → pairs ≡ [] → ⊥
has_some pairs e none = let clash : true ≡ false = subst (λ (l : List (Key × Scalar)). (length l == 0) ≡ false) none e in cc clash

requests_are : (tx : List ℕ) (pairs : List (Key × Scalar)) → (pairs ≡ [] → ⊥) → commit_requests tx pairs ≡ patch_requests tx pairs ++ Commit tx ∷ []
requests_are tx [] some = absurd (some refl)
requests_are tx (pair ∷ pairs) some = refl

module _ (tx : List ℕ) (pairs : List (Key × Scalar)) (store : Opened) (c : Core) (before_is : core_state c ≡ core_over store) (image_is : c.image ≡ store.image)
    (some : (length pairs == 0) ≡ false) where
  whole : commit_requests tx pairs ≡ patch_requests tx pairs ++ Commit tx ∷ []
  whole = requests_are tx pairs (has_some pairs some)

  -- The commit was asked after the others.
  pub commits_asked : (mid now : Core) (outcome : Ended) (old between new : History) → AsksEach (patch_requests tx pairs) (Ok tt) c mid old between
      → AsksFor (Commit tx) IsBodyLine outcome mid now between new → Commits tx pairs store outcome old new
  commits_asked mid now outcome old between new so_far asks = record { each = by } where
    comes : (outcome : Ended) (I : Image) (W : World) (events : List Event) → Succeeds I W (patch_requests tx pairs) events → (o : Outcome) → Reopens false o []
        → AsksOne I (after I W events) (Commit tx) IsBodyLine outcome o → ComesTo I W tx pairs outcome (events ++ Asked (Commit tx) o ∷ [])
    comes (Ok line) I W events s o opens one =
        let k = keys_replied I (after I W events) tx line one.1 one.2 in (
          subst (λ (qs : List Request). Succeeds I W qs (events ++ Asked (Commit tx) o ∷ [])) (sym whole)
              (all_succeed I W (patch_requests tx pairs) (Commit tx) IsBodyLine events s o line one),
          record { keys = k.0; replied = replied pairs (has_some pairs some) events s k.0 k.1; line_is = k.2 },
        )
      where
        replied : (ps : List (Key × Scalar)) → (ps ≡ [] → ⊥) → (es : List Event) → Succeeds I W (patch_requests tx ps) es → (keys : List Key)
            → (request_next I (after I W es) (Commit tx) Answered).reply ≡ Said (KeyList keys) → RepliesKeys I W tx ps keys
        replied [] none es s keys is = absurd (none refl)
        replied (p ∷ ps) none es s keys is = ap (λ (l : List Event). (request_next I (after I W l) (Commit tx) Answered).reply) (sym s.events_are) ∙ is
    comes (Err refusal) I W events s o opens one =
        stops_come I W tx pairs (events ++ Asked (Commit tx) o ∷ []) _
        (last_stops I W (patch_requests tx pairs) (Commit tx) IsBodyLine events s o [] (commit_requests tx pairs) whole opens refusal one) refusal one.1

    by : (I : Image) → IsGood I → HoldsImage I store.image → (folder : Folder) (W V : World) → Kept I folder W V old (core_over store)
        → IsCommitted I folder W V tx pairs outcome (core_over store) old new
    by I good holds folder W V kept =
        let m = one_more (patch_requests tx pairs) (Commit tx) IsBodyLine outcome c mid now old between new so_far asks I good
        (subst (HoldsImage I) (sym image_is) holds) folder W V
        (subst (Kept I folder W V old) (sym before_is) kept) in record {
          events = m.events ++ Asked (Commit tx) m.outcome ∷ [];
          comes = comes outcome I W m.events m.succeeds m.outcome m.opens m.asks;
          now = core_state now;
          made = subst (λ (s : CoreState). Ran I folder W V (m.events ++ Asked (Commit tx) m.outcome ∷ []) old new s (core_state now)) before_is m.made;
        }

  -- One of the others was not answered with success.
  pub commits_stopped : (now : Core) (refusal : Refusal) (old new : History) → AsksEach (patch_requests tx pairs) (Err refusal) c now old new
      → Commits tx pairs store (Err refusal) old new
  commits_stopped now refusal old new asks = record { each = by } where
    by : (I : Image) → IsGood I → HoldsImage I store.image → (folder : Folder) (W V : World) → Kept I folder W V old (core_over store)
        → IsCommitted I folder W V tx pairs (Err refusal) (core_over store) old new
    by I good holds folder W V kept =
        let a : AskedBy I folder W V (patch_requests tx pairs) (Err refusal) c now old new =
        asks.each I good (subst (HoldsImage I) (sym image_is) holds) folder W V (subst (Kept I folder W V old) (sym before_is) kept) in record {
          events = a.events;
          comes = stops_come I W tx pairs a.events a.asks.0
              (subst (λ (qs : List Request). Stops I W qs a.asks.0 a.events) (sym whole)
              (stops_before I W (patch_requests tx pairs) (Commit tx) a.asks.0 a.events a.asks.2))
              refusal a.asks.1;
          now = core_state now;
          made = subst (λ (s : CoreState). Ran I folder W V a.events old new s (core_state now)) before_is a.made;
        }

-- Nothing was asked: it ran out of memory before,
pub commits_not : (tx : List ℕ) (pairs : List (Key × Scalar)) (store : Opened) (h : History) → Commits tx pairs store (Err refused.Memory) h h
commits_not tx pairs store h = record {
  each = λ I good holds folder W V kept. record { events = []; comes = inl refl; now = core_over store; made = ran_none I folder W V h (core_over store) kept };
}

-- or there are no pairs.
pub commits_none : (tx : List ℕ) (pairs : List (Key × Scalar)) (store : Opened) (outcome : Ended) (h : History) → (length pairs == 0) ≡ true
    → IfOk outcome (λ line. line ≡ codes "[]" ++ 10 ∷ []) → IfErr outcome (λ refusal. refusal ≡ refused.Memory) → Commits tx pairs store outcome h h
commits_none tx pairs store (Ok line) h none is memory = record {
  each = λ I good holds folder W V kept.
      record {
        events = [];
        comes = subst (λ (ps : List (Key × Scalar)). ComesTo I W tx ps (Ok line) []) (sym (has_none pairs none))
            (record { events_are = refl; answered = tt }, record { keys = []; replied = refl; line_is = is });
        now = core_over store;
        made = ran_none I folder W V h (core_over store) kept;
      };
}
commits_none tx pairs store (Err refusal) h none is memory = subst (λ (x : Refusal). Commits tx pairs store (Err x) h h) (sym memory)
    (commits_not tx pairs store h)
