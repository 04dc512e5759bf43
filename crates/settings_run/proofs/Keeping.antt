-- A commit of generated pairs leaves each live value.
use Rattle.std.proofs.Common.{◌≡◌, inl, inr, ℕ, Bool, true, false, cond, not, fold, is_some, List}
use Rattle.std.proofs.Common.{[], ◌∷◌, Option, Some, None, Ok, Err, OnOk, refl, sym, ◌∙◌, ap, subst}
use Rattle.std.specs.Cmp.{eq_by_cmp_equiv}
use Rattle.std.specs.FinMap.{FinMap, empty, get, contains_key, get-empty, get_tied}
use Rattle.std.specs.List.{AllByRecursion}
use Rattle.std.specs.Ordering.{eq_by_cmp}
use Rattle.std.proofs.lemmas.List.Elements.{recursion_from_All, filter_passes}
use Rattle.outside.specs.Spawner.{Question}
use Rattle.key_names.specs.Order.{bytes_cmp, bytes_total, key_cmp, key_total}
use Rattle.json_trees.specs.declared.pending.Pending.{Pending}
use Rattle.json_trees.specs.declared.scalar.Scalar.{Scalar}
use Rattle.settings_maps.specs.Maps.{inner, value_at, with_value}
use Rattle.settings_maps.proofs.NestedMaps.{tied_by, value_at-with}
use Rattle.settings_tree.specs.Content.{Contents}
use Rattle.pending_tx.proofs.Commits.{value-committed}
use Rattle.settings_tree.proofs.Over.{over}
use Rattle.pending_tx.proofs.Ended.{inner-remove}
use Rattle.settings_machine.specs.World.{Key, Image, World}
use Rattle.settings_machine.specs.Typed.{Wanted, first_wanted}
use Rattle.settings_machine.specs.Requests.{DropTx, Patch, Commit}
use Rattle.settings_machine.specs.Step.{Answered, patch_next, commit_next, request_next, opened}
use Rattle.settings_machine.specs.Events.{Event, Asked, Opened, Succeeded, next, after}
use Rattle.machine_disk.specs.Kept.{Folder}
use Rattle.command_outcome.specs.Ends.{Outcome}
use Rattle.core_commands.specs.Asking.{asked_all}
use Rattle.core_commands.specs.Carried.{puts_of}
use Rattle.core_commands.specs.Committing.{commit_requests}
use Rattle.setting_generators.specs.Generators.{Given}
use Rattle.setting_generators.specs.Asking.{Generated, wanted, with_pair, AreAsked}
use Rattle.settings_cmd.specs.Committing.{Made}
use Rattle.settings_cmd.specs.Generators.{generate_tx, HandsAnswers}
use Rattle.settings_run.specs.Laws.{MadeEvents, GivenBy, KeepsLive}

-- ---- a transaction that has nothing for a key

abbrev Pendings : Type 0
Pendings = FinMap bytes_cmp (FinMap key_cmp Pending)

both_none : (b : Bool) (o : Option Pending) → o ≡ None → cond b o o ≡ None
both_none true o none = none
both_none false o none = none

unpatched : (m : Pendings) (tx : List ℕ) (es : List (Key × Pending)) (q : Key) → value_at m tx q ≡ None
    → AllByRecursion (λ e. eq_by_cmp key_cmp q e.0 ≡ false) es
    → value_at (fold (λ n e. with_value n tx e.0 e.1) m es) tx q ≡ None
unpatched m tx [] q none apart = none
unpatched m tx (e ∷ es) q none apart = unpatched (with_value m tx e.0 e.1) tx es q here apart.1 where
  here : value_at (with_value m tx e.0 e.1) tx q ≡ None
  here =
      value_at-with bytes_total key_total m tx tx e.0 q e.1
      ∙ ap (λ (b : Bool). cond (eq_by_cmp bytes_cmp tx tx) (cond b (Some e.1) (value_at m tx q)) (value_at m tx q)) apart.0
      ∙ both_none (eq_by_cmp bytes_cmp tx tx) (value_at m tx q) none

module _ (I : Image) (X : World) (tx : List ℕ) (q : Key) where
  -- The live values are those before, and the transaction has nothing for the key.
  record Keeps (Y : World) : Type 0 where
    live : Y.held.live ≡ X.held.live
    none : value_at Y.held.pending tx q ≡ None

  dropped_keeps : Keeps (next I X (Asked (DropTx tx) Answered))
  unfolding request_next
  dropped_keeps = record {
    live = refl;
    none = ap (λ (i : FinMap key_cmp Pending). get i q) (inner-remove X.held.pending tx tx
        ∙ ap (λ (b : Bool). cond b empty (inner X.held.pending tx)) ((eq_by_cmp_equiv bytes_total).refl tx)) ∙ get-empty key_cmp q;
  }

  patched_keeps : (Y : World) (puts : List (Key × Pending)) → Keeps Y → AllByRecursion (λ e. eq_by_cmp key_cmp q e.0 ≡ false) puts
      → Keeps (next I Y (Asked (Patch tx puts) Answered))
  unfolding request_next
  patched_keeps Y puts k apart = by (first_wanted I.types puts) where
    by : (o : Option Wanted) → Keeps (patch_next Y tx puts o).world
    by None = record { live = k.live; none = unpatched Y.held.pending tx puts q k.none apart }
    by (Some wanted) = k

  committed_keeps : (Y : World) → Keeps Y → get (next I Y (Asked (Commit tx) Answered)).held.live.values q ≡ get X.held.live.values q
  unfolding request_next
  committed_keeps Y k = by (get Y.held.pending tx) where
    by : (o : Option (FinMap key_cmp Pending)) → get (commit_next Y tx o).world.held.live.values q ≡ get X.held.live.values q
    by None = ap (λ (l : Contents). get l.values q) k.live
    by (Some p) =
        value-committed Y.held tx q ∙ ap (λ (o : Option Pending). over o (get Y.held.live.values q)) k.none ∙ ap (λ (l : Contents). get l.values q) k.live

  -- A commit of pairs for other keys.
  others_commit : (pairs : List (Key × Scalar)) → AllByRecursion (λ e. eq_by_cmp key_cmp q e.0 ≡ false) (puts_of pairs)
      → get (after I X (asked_all (commit_requests tx pairs))).held.live.values q ≡ get X.held.live.values q
  others_commit [] apart = refl
  others_commit (pair ∷ pairs) apart = committed_keeps _ (patched_keeps _ (puts_of (pair ∷ pairs)) dropped_keeps apart)

-- ---- keys without a live value

abbrev AreNew : Contents → List (Key × Scalar) → Type 0
AreNew live pairs = AllByRecursion (λ p. contains_key live.values p.0 ≡ false) pairs

none_new : (live : Contents) (pairs : List (Key × Scalar)) → ◌≡◌ {A = Generated} (Ok []) (Ok pairs) → AreNew live pairs
none_new live pairs is = let none : [] ≡ pairs = cc is in subst (AreNew live) none tt

answered_rest : (key : Key) (value : Scalar) (pairs : List (Key × Scalar)) (rest : Generated) → Ok pairs ≡ with_pair key value rest
    → (others : List (Key × Scalar)) × (rest ≡ Ok others) × ((key, value) ∷ others ≡ pairs)
answered_rest key value pairs (Ok others) is = (others, refl, cc (sym is))
answered_rest key value pairs (Err e) is = absurd (cc is)

answered_new : (live : Contents) (given : List Given) (questions : List Question) (pairs : List (Key × Scalar))
    → AllByRecursion (λ g. contains_key live.values g.0 ≡ false) given
    → AreAsked given questions (Ok pairs) → AreNew live pairs
answered_new live [] questions pairs new asked = none_new live pairs (sym asked.1)
answered_new live (g ∷ given) questions pairs new (inl on) =
    let rest = answered_rest g.0 on.value pairs on.rest on.generated_is in
    subst (AreNew live) rest.2 (new.0, answered_new live given on.others rest.0 new.1 (subst (AreAsked given on.others) rest.1 on.goes_on))
answered_new live (g ∷ given) questions pairs new (inr stops) = absurd (cc stops.generated_is)

not_true : (b : Bool) → not b ≡ true → b ≡ false
not_true true is = absurd (cc is)
not_true false is = refl

all_not : (live : Contents) (given : List Given) → AllByRecursion (λ g. not (contains_key live.values g.0) ≡ true) given
    → AllByRecursion (λ g. contains_key live.values g.0 ≡ false) given
all_not live [] all = tt
all_not live (g ∷ given) all = (not_true (contains_key live.values g.0) all.0, all_not live given all.1)

wanted_new : (live : Contents) (given : List Given) → AllByRecursion (λ g. contains_key live.values g.0 ≡ false) (wanted live given)
wanted_new live given =
    all_not live (wanted live given) (recursion_from_All (λ g. not (contains_key live.values g.0) ≡ true) (wanted live given)
    (filter_passes (λ g. not (contains_key live.values g.0)) given))

-- A live key is none of them.
apart : (live : Contents) (q k : Key) (value : Scalar) → get live.values q ≡ Some value → contains_key live.values k ≡ false → eq_by_cmp key_cmp q k ≡ false
apart live q k value has none = by (eq_by_cmp key_cmp q k) refl where
  by : (b : Bool) → eq_by_cmp key_cmp q k ≡ b → b ≡ false
  by true is = absurd (clash (get live.values k) (get_tied key_total live.values q k (tied_by (key_cmp q k) is) ∙ has) none) where
    clash : (o : Option Scalar) → o ≡ Some value → is_some o ≡ false → ⊥
    clash None some is = cc some
    clash (Some v) some is = cc is
  by false is = refl

all_apart : (live : Contents) (q : Key) (value : Scalar) → get live.values q ≡ Some value → (pairs : List (Key × Scalar)) → AreNew live pairs
    → AllByRecursion (λ e. eq_by_cmp key_cmp q e.0 ≡ false) (puts_of pairs)
all_apart live q value has [] new = tt
all_apart live q value has (p ∷ pairs) new = (apart live q p.0 value has new.0, all_apart live q value has pairs new.1)

-- ---- what generators give

given_new : (live : Contents) (given : List Given) (questions : List Question) (generated : Generated) (pairs : List (Key × Scalar))
    → AreAsked (wanted live given) questions generated
    → HandsAnswers generated (Ok pairs) → AreNew live pairs
given_new live given questions (Ok own) pairs asked hands =
    let same : own ≡ pairs = cc (sym hands) in
    subst (AreNew live) same (answered_new live (wanted live given) questions own (wanted_new live given) asked)
given_new live given questions (Err e) pairs asked hands = absurd hands

module _ (I : Image) (folder : Folder) (W : World) (a a' : Option (List Question)) where
  made_new : (pairs : List (Key × Scalar)) → GivenBy I folder (opened I W false) a a' (Ok pairs) → AreNew (opened I W false).held.live pairs
  made_new pairs (inl none) = absurd (cc none.1)
  made_new pairs (inr is) = given_new (opened I W false).held.live is.0 is.2.asks.questions is.2.generated pairs is.2.asks.outcome is.2.hands

  -- A `generate` that answers leaves each live value.
  pub keeps_live : (made : Made) (outcome : Outcome) (events : List Event) → GivenBy I folder (opened I W false) a a' made
      → MadeEvents I W generate_tx made outcome events
      → OnOk outcome (KeepsLive (opened I W false) (after I W events))
  keeps_live (Ok pairs) (Ok line) events given ends = λ key value has.
      ap (λ (es : List Event). get (after I W es).held.live.values key)
      (ends.1 ∙ ap (λ (es : List Event). Opened false Succeeded ∷ es) ends.2.0.events_are)
      ∙ others_commit I (opened I W false) generate_tx key pairs (all_apart (opened I W false).held.live key value has pairs (made_new pairs given)) ∙ has
  keeps_live (Ok pairs) (Err refusal) events given ends = tt
  keeps_live (Err e) (Ok line) events given ends = absurd (cc ends.1)
  keeps_live (Err e) (Err refusal) events given ends = tt
