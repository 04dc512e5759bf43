use Rattle.std.proofs.Common.{◌≡◌, ◌++◌, ℕ, List, [], Bool, ◌∙◌, ap, filter, map}
use Rattle.std.specs.FinMap.{FinMap, get}
use Rattle.key_names.specs.Order.{key_cmp}
use Rattle.json_trees.specs.declared.pending.Pending.{Pending}
use Rattle.settings_tree.specs.declared.held.Held.{Held}
use Rattle.settings_tree.proofs.Walks.{listed_all}
use Rattle.settings_tree.proofs.Rising.{some_rise}
use Rattle.pending_tx.specs.Transactions.{changed_in, differs}
use Rattle.pending_tx.proofs.Walked.{added_more}
use Rattle.pending_tx.proofs.live_changes.changed_in.Goals as goal

abbrev Pair : Type 0
Pair = List (List ℕ) × Pending

abbrev changes : Held → Pair → Bool
changes h e = differs e.1 (get h.live.values e.0)

abbrev keys_changed : Held → List Pair → List (List (List ℕ))
keys_changed h es = map (λ e. e.0) (filter (changes h) es)

pub loop-key-preserved : goal.loop-key-preserved
loop-key-preserved c = added_more (changes c.args.held.now) (λ e. e.0) _ c.loop-key.keys.items _ _ c.next.new.self (c.in-Some.key.now, c.in-Some.value.now)
    c.loop-key.invariant c.in-Some.ensures.steps c.in_ok-push_changed.ensures

-- Where no entry is left the keys are all.
all : (h : Held) (m : FinMap key_cmp Pending) (left : List Pair) (keys : List (List (List ℕ)))
    → keys ++ keys_changed h left ≡ changed_in h m → left ≡ [] → keys ≡ changed_in h m
all h m left keys whole none = listed_all _ keys _ whole (ap (keys_changed h) none)

pub of-requires : goal.of-requires
of-requires c = some_rise c.args.pending.now (changes c.args.held.now) c.loop-key.keys.items
    (all c.args.held.now c.args.pending.now _ c.loop-key.keys.items c.loop-key.invariant c.in-None.ensures.steps.0)

pub returns : goal.returns
returns c = c.of.ensures ∙ all c.args.held.now c.args.pending.now _ c.loop-key.keys.items c.loop-key.invariant c.in-None.ensures.steps.0
