-- The held text of what is held is JSON of its value.
use Rattle.std.proofs.Common.{◌≡◌, ℕ, List, Some, IsTrue, codes, refl, sym, ap, ◌∙◌, arith}
use Rattle.std.specs.FinMap.{FinMap, entries}
use Rattle.std.specs.List.{AllByRecursion}
use Rattle.json.proofs.Printed.Tokens.{tokens-print}
use Rattle.json.proofs.Printed.Trees.{ArePrintable-json_tokens}
use Rattle.json.specs.Lex.{tokens}
use Rattle.serde_json.proofs.Texts.{print-outline}
use Rattle.serde_json.specs.Written.{outline}
use Rattle.key_names.specs.Key.{is_key, printed}
use Rattle.key_names.specs.Order.{key_cmp}
use Rattle.json_trees.proofs.Trip.{data_of-tokens}
use Rattle.json_trees.specs.Json.{data_of}
use Rattle.json_trees.specs.Nested.{IsSound}
use Rattle.json_trees.specs.Tree.{scalar_leaf, pending_leaf, pending_data}
use Rattle.json_trees.specs.Scalar.{scalar_data}
use Rattle.json_trees.specs.Written.{data_tokens, IsReadable}
use Rattle.json_trees.specs.declared.pending.Pending.{Pending}
use Rattle.json_trees.specs.declared.scalar.Scalar.{Scalar}
use Rattle.held_text.specs.HeldText.{Row, rows, key_data, keys_data, pair_data, map_data, row_data}
use Rattle.held_text.specs.HeldText.{metadata_data, transaction_data, pending_maps_data, owed_data, image_data, held_members, held_data, held_text}
use Rattle.held_text.specs.HeldRules.{IsRow, IsTransaction, IsHeld}
use Rattle.settings_tree.specs.Owed.{IsOwed}
use Rattle.settings_tree.specs.declared.entry.Owed.{Owed}
use Rattle.settings_tree.specs.declared.entry.Owed.TheVariants.{All, Keys}
use Rattle.settings_tree.specs.declared.held.Held.{Held}
use Rattle.held_text.proofs.JsonLists.{readable_within, readable_string, readable_list, readable_two, readable_three, readable_object}
use Rattle.held_text.proofs.KeysLeft.{each_valid}

-- The value of each part can be read back, and nests as deep as told at most.
readable_key : (n : ℕ) (key : List (List ℕ)) → IsReadable n (key_data key)
readable_key n key = readable_string n (printed key)

readable_keys : (keys : List (List (List ℕ))) → AllByRecursion (λ key. IsTrue (is_key key)) keys → IsReadable 1 (keys_data keys)
readable_keys keys h = readable_list key_data (λ key. IsTrue (is_key key)) 0 (λ key _. readable_key 0 key) keys h

readable_owed : (owed : Owed) → IsOwed owed → IsReadable 1 (owed_data owed)
readable_owed All h = readable_string 1 (codes "all")
readable_owed (Keys keys) h = readable_keys keys (each_valid keys h.valid)

readable_row : (row : Row) → IsRow row → IsReadable 2 (row_data row)
readable_row row h = readable_three 1 _ _ _ (readable_key 1 row.0) (readable_string 1 row.1) h.value.readable

readable_values : (m : FinMap key_cmp Scalar) → AllByRecursion (IsSound scalar_leaf scalar_data) (entries m) → IsReadable 3 (map_data scalar_data m)
readable_values m h = readable_list (pair_data scalar_data) (IsSound scalar_leaf scalar_data) 2
    (λ pair s. readable_two 1 _ _ (readable_key 1 pair.0) s.1.readable) (entries m) h

readable_pairs : (m : FinMap key_cmp Pending) → AllByRecursion (IsSound pending_leaf pending_data) (entries m) → IsReadable 3 (map_data pending_data m)
readable_pairs m h = readable_list (pair_data pending_data) (IsSound pending_leaf pending_data) 2
    (λ pair s. readable_two 1 _ _ (readable_key 1 pair.0) s.1.readable) (entries m) h

readable_transaction : (t : List ℕ × FinMap key_cmp Pending) → IsTransaction t → IsReadable 4 (transaction_data t)
readable_transaction t h = readable_two 3 _ _ (readable_string 3 t.0) (readable_pairs t.1 h.pairs)

-- The six members, and what is held as a whole.
module _ (h : Held) (is : IsHeld h) where
  image : IsReadable 5 (image_data h.image)
  image = readable_string 5 _

  live : IsReadable 5 (map_data scalar_data h.live.values)
  live = readable_within 3 5 _ (omega arith) (readable_values h.live.values is.live.values)

  meta : IsReadable 5 (metadata_data h.live.metadata)
  meta = readable_within 3 5 _ (omega arith) (readable_list row_data IsRow 2 readable_row (rows h.live.metadata) is.live.metadata)

  owed : IsReadable 5 (owed_data h.owed)
  owed = readable_within 1 5 _ (omega arith) (readable_owed h.owed is.owed)

  pend : IsReadable 5 (pending_maps_data h.pending)
  pend = readable_list transaction_data IsTransaction 4 readable_transaction (entries h.pending) is.pending.transactions

  weak : IsReadable 5 (keys_data h.live.weak)
  weak = readable_within 1 5 _ (omega arith) (readable_keys h.live.weak (each_valid h.live.weak is.live.weak.valid))

  pub readable_held : IsReadable 6 (held_data h)
  readable_held = readable_object 5 (held_members h) (image, (live, (meta, (owed, (pend, (weak, tt)))))) refl

  -- What is read of the held text is the value of what is held.
  pub held_back : data_of (held_text h) ≡ Some (held_data h)
  held_back =
      data_of-tokens (held_data h) 6 (held_text h) readable_held (omega arith) is.utf8
      (ap tokens (sym (print-outline (held_data h))) ∙ tokens-print (data_tokens (held_data h))
      (ArePrintable-json_tokens (outline (held_data h)) readable_held.numbers))
