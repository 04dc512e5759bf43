-- The entries of which the calls make their changes.
use Rattle.std.specs.Prelude.{◌≡◌, ℕ, Bool, false, not, List, [], ◌∷◌, ◌++◌, Option, Some, None, is_some, filter, map, if◌then◌else◌}
use Rattle.std.specs.List.{list_any}
use Rattle.std.specs.Option.{option_to_list}
use Rattle.std.specs.FinMap.{entries}
use Rattle.json_trees.specs.Equal.{pending_eq}
use Rattle.json_trees.specs.declared.pending.Pending.{Pending}
use Rattle.json_trees.specs.declared.pending.Pending.TheVariants.{Put, Gone}
use Rattle.settings_maps.specs.KeyList.{has_key, without_keys}
use Rattle.settings_maps.specs.Maps.{value_at}
use Rattle.settings_tree.specs.declared.entry.Entry.{Entry}
use Rattle.settings_tree.specs.declared.entry.Entry.TheVariants.{LiveSet, LiveGone, PendSet, PendGone, OwedSet, WeakIs}
use Rattle.settings_tree.specs.declared.held.Held.{Held}
use Rattle.pending_tx.specs.Changes.{Tells}
use Rattle.pending_tx.specs.Transactions.{last_of, owing}

-- The entry that lays what is pending for a key over its live value.
abbrev pub live_entry : List (List ℕ) → Pending → Entry
live_entry k (Put v) = LiveSet k v
live_entry k Gone = LiveGone k

-- Whether what is pending for a key is this.
abbrev pub is_pending : Option Pending → Pending → Bool
is_pending None v = false
is_pending (Some w) v = pending_eq w v

-- Whether a pair gives the key something else than the transaction has for it.
abbrev pub is_new : Held → List ℕ → List (List ℕ) → Pending → Bool
is_new h tx k v = not (is_pending (value_at h.pending tx k) v)

-- The entry that sets a key in a transaction, none where it is set so.
abbrev pub pend_entry : Held → List ℕ → List (List ℕ) → Pending → List Entry
pend_entry h tx k v = if is_new h tx k v then PendSet tx k v ∷ [] else []

-- The entries that lay the last pair of each key over the transaction.
abbrev pub patch_entries : Held → List ℕ → List (List (List ℕ) × Pending) → List Entry
patch_entries h tx pairs = map (λ e. PendSet tx e.0 e.1) (filter (λ e. is_new h tx e.0 e.1) (entries (last_of pairs)))

-- The entries that take each of these keys from its transaction.
abbrev pub taken_by : List (List ℕ × List (List ℕ)) → List Entry
taken_by pairs = map (λ p. PendGone p.0 p.1) pairs

-- What a commit adds to some entries: those for the live values, those that take away what was pending, and one for the owed and one for the weak keys
-- where these change.
pub record CommitAdds (h : Held) (ended : List Entry) (keys changed : List (List (List ℕ))) (changes : List (List (List ℕ) × Pending))
    (old new : List Entry) : Type 0 where
  pub owed_part : Option Entry
  pub weak_part : Option Entry
  pub owed : Tells owed_part OwedSet h.owed (owing h.owed changed)
  pub weak : Tells weak_part WeakIs h.live.weak (without_keys h.live.weak keys)
  pub strong : is_some weak_part ≡ list_any (has_key h.live.weak) keys
  pub added : new ≡ old ++ (map (λ e. live_entry e.0 e.1) changes ++ ended ++ option_to_list owed_part ++ option_to_list weak_part)
