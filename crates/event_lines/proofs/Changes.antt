-- What a commit changes.
use Rattle.std.proofs.Common.{◌≡◌, ℕ, List, [], None, map, ◌∙◌, ap, sym}
use Rattle.std.specs.Prelude.{Option, filter, unwrap_or}
use Rattle.std.specs.FinMap.{FinMap, get, empty, entries, len-empty, len-entries}
use Rattle.std.proofs.lemmas.List.{nil_from_length}
use Rattle.key_names.specs.Order.{key_cmp}
use Rattle.json_trees.specs.declared.pending.Pending.{Pending}
use Rattle.settings_tree.specs.declared.held.Held.{Held}
use Rattle.pending_tx.specs.Transactions.{changed_in, changed_keys, differs}

-- The empty map has no entries.
no_entries : entries (empty {X = Pending} {R = key_cmp}) ≡ []
no_entries = nil_from_length _ (sym (len-entries (empty {X = Pending} {R = key_cmp})) ∙ len-empty key_cmp Pending)

-- Where there is no such transaction, its commit changes nothing.
pub none_changed : (h : Held) (tx : List ℕ) → get h.pending tx ≡ None → changed_keys h tx ≡ []
none_changed h tx none =
    ap (λ (o : Option (FinMap key_cmp Pending)). changed_in h (unwrap_or o empty)) none
    ∙ ap (λ (es : List (List (List ℕ) × Pending)). map (λ e. e.0) (filter (λ e. differs e.1 (get h.live.values e.0)) es)) no_entries
