-- What each part of a `Held` keeps to by its type, and what it means to read and write it as JSON.
use Rattle.std.specs.Prelude.{◌≡◌, ◌++◌, ℕ, List, [], ◌∷◌, codes, IsTrue, MatchResult, Option, Some, Result}
use Rattle.std.specs.FinMap.{FinMap, entries, empty}
use Rattle.std.specs.List.{AllByRecursion, flat_map}
use Rattle.std.specs.Str.{IsUtf8}
use Rattle.base64.specs.GeneralPurpose.{IsBytes}
use Rattle.json.specs.Tree.{members_tokens}
use Rattle.json.specs.Written.{Written}
use Rattle.serde_json.specs.Data.{Data, Members, no_members, member}
use Rattle.serde_json.specs.Find.{as_object}
use Rattle.serde_json.specs.Written.{members_outline}
use Rattle.key_names.specs.Order.{bytes_cmp, key_cmp}
use Rattle.key_names.specs.Key.{is_key}
use Rattle.json_trees.specs.Nested.{IsSound, IsWritable}
use Rattle.json_trees.specs.Scalar.{scalar_data}
use Rattle.json_trees.specs.Tree.{scalar_leaf, pending_leaf, pending_data}
use Rattle.json_trees.specs.Written.{data_tokens}
use Rattle.json_trees.specs.declared.pending.Pending.{Pending}
use Rattle.json_trees.specs.declared.scalar.Scalar.{Scalar}
use Rattle.settings_maps.specs.Maps.{IsFull}
use Rattle.settings_maps.specs.TxName.{is_tx_name}
use Rattle.settings_tree.specs.Content.{Contents, IsContent, IsNamed, no_content}
use Rattle.held_text.specs.HeldText.{Row, rows, keys_data, map_data, metadata_data, owed_data, pending_maps_data, image_data, held_members, held_text}
use Rattle.settings_tree.specs.Pending.{IsPending}
use Rattle.settings_tree.specs.Rule.{IsPrefixFree}
use Rattle.settings_tree.specs.declared.entry.Owed.{Owed}
use Rattle.settings_tree.specs.declared.held.Held.{Held}
use Rattle.held_text.specs.declared.held_error.HeldError.{HeldError}
use Rattle.held_text.specs.declared.held_error.HeldError.TheVariants.{Memory}
use Rattle.settings_tree.specs.Owed.{IsKeyList, IsOwed}

-- ---- what is held

-- A row has a key, and a value that can be written and reads back.
pub record IsRow (row : Row) : Type 0 where
  pub key : IsTrue (is_key row.0)
  pub value : IsWritable scalar_leaf row.2 (scalar_data row.2)

-- A transaction has a name, and keys with what is pending for them.
pub record IsTransaction (t : List ℕ × FinMap key_cmp Pending) : Type 0 where
  pub name : IsTrue (is_tx_name t.0)
  pub pairs : AllByRecursion (IsSound pending_leaf pending_data) (entries t.1)

-- A content keeps its rules, and has keys and values that are such.
pub record IsLive (c : Contents) : Type 0 where
  pub rules : IsContent c
  pub values : AllByRecursion (IsSound scalar_leaf scalar_data) (entries c.values)
  pub metadata : AllByRecursion IsRow (rows c.metadata)
  pub weak : IsKeyList c.weak

-- Pending maps keep their rules, and have transactions that are such.
pub record ArePending (m : FinMap bytes_cmp (FinMap key_cmp Pending)) : Type 0 where
  pub rules : IsPending m
  pub transactions : AllByRecursion IsTransaction (entries m)

-- What is held keeps to the rules of its types, and its texts are UTF-8. So does each `Held` of the code.
pub record IsHeld (h : Held) : Type 0 where
  pub live : IsLive h.live
  pub pending : ArePending h.pending
  pub owed : IsOwed h.owed
  pub image : IsBytes h.image
  pub utf8 : IsUtf8 (held_text h)

-- The answer is this value, unless it ran out of memory.
abbrev pub IsRead : {X : Type 0} → Result X HeldError → X → Type 0
IsRead result x = MatchResult result (λ found. found ≡ x) (λ e. e ≡ Memory)

-- ---- what is written

-- The tokens of the JSON value were written.
pub record Wrote (d : Data) (old new : Written) : Type 0 where
  pub tokens : new.tokens ≡ old.tokens ++ data_tokens d
  pub before : new.before ≡ old.before

-- ---- for private clauses: reading

-- Where the JSON value is that of some x that keeps to its rules, the answer is x.
pub record Reads {X : Type 0} (IsValid : X → Type 0) (as_data : X → Data) (d : Data) (result : Result X HeldError) : Type 0 where
  pub finds : (x : X) → IsValid x → d ≡ as_data x → IsRead result x

-- The values of the members, in their order.
abbrev pub member_values : Members → List Data
member_values no_members = []
member_values (member name d ms) = d ∷ member_values ms

-- The JSON value is an object, and these are the values of its members.
pub record HasValues (d : Data) (values : List Data) : Type 0 where
  pub members : Members
  pub is : as_object d ≡ Some members
  pub each : values ≡ member_values members

-- A map that keeps the prefix rule, with keys and values that can be written and read back.
pub record IsMap {V : Type 0} (leaf : Data → Option V) (written : V → Data) (m : FinMap key_cmp V) : Type 0 where
  pub free : IsPrefixFree m
  pub pairs : AllByRecursion (IsSound leaf written) (entries m)

-- A transaction whose keys keep the prefix rule.
pub record IsWholeTransaction (t : List ℕ × FinMap key_cmp Pending) : Type 0 where
  pub valid : IsTransaction t
  pub free : IsPrefixFree t.1

-- Metadata that keeps its rules, in rows that are such.
pub record IsMetadata (m : FinMap key_cmp (FinMap bytes_cmp Scalar)) : Type 0 where
  pub full : IsFull m
  pub named : IsNamed m
  pub valid : AllByRecursion IsRow (rows m)

-- Where the JSON value is that of some metadata, this was put into a content without any.
pub record PutsRows (d : Data) (old new : Contents) (result : Result (Unit {0}) HeldError) : Type 0 where
  pub puts :
      (m : FinMap key_cmp (FinMap bytes_cmp Scalar)) → IsMetadata m → old.metadata ≡ empty → d ≡ metadata_data m
      → MatchResult result (λ _. new ≡ record old { metadata = m }) (λ e. e ≡ Memory)

-- Where the JSON values are those of a content, the answer is this content.
pub record ReadsContent (values metadata weak : Data) (result : Result Contents HeldError) : Type 0 where
  pub finds : (c : Contents) → IsLive c → values ≡ map_data scalar_data c.values → metadata ≡ metadata_data c.metadata → weak ≡ keys_data c.weak
      → IsRead result c

-- Where the JSON values are those of the metadata and the weak keys of a content, they were put next to its values.
pub record PutsOthers (metadata weak : Data) (old new : Contents) (result : Result (Unit {0}) HeldError) : Type 0 where
  pub puts :
      (c : Contents) → IsLive c → old ≡ record no_content { values = c.values } → metadata ≡ metadata_data c.metadata → weak ≡ keys_data c.weak
      → MatchResult result (λ _. new ≡ c) (λ e. e ≡ Memory)

-- Where the JSON values are those of what is owed, of pending maps and of an image text, these are the answer.
pub record ReadsRest (owed pending image : Data) (result : Result (Owed × FinMap bytes_cmp (FinMap key_cmp Pending) × List ℕ) HeldError) : Type 0 where
  pub finds :
      (o : Owed) (p : FinMap bytes_cmp (FinMap key_cmp Pending)) (i : List ℕ) → IsOwed o → ArePending p → IsBytes i
      → owed ≡ owed_data o → pending ≡ pending_maps_data p → image ≡ image_data i → IsRead result (o, p, i)

-- Where the JSON values are those of the members of what is held, this is the answer.
pub record ReadsMembers (values : List Data) (result : Result Held HeldError) : Type 0 where
  pub finds : (h : Held) → IsHeld h → values ≡ member_values (held_members h) → IsRead result h

-- ---- for private clauses: writing

-- The tokens of each were written, one after another.
pub record WroteEach {E : Type 0} (as_data : E → Data) (es : List E) (old new : Written) : Type 0 where
  pub tokens : new.tokens ≡ old.tokens ++ flat_map (λ e. data_tokens (as_data e)) es
  pub before : new.before ≡ old.before

-- The tokens of the members and of the closing brace were written.
pub record WroteMembers (ms : Members) (old new : Written) : Type 0 where
  pub tokens : new.tokens ≡ old.tokens ++ members_tokens (members_outline ms)
  pub before : new.before ≡ old.before

-- The first three members of what is held, and others.
abbrev pub first_members : Held → Members → Members
first_members h ms =
    member (codes "image") (image_data h.image)
    (member (codes "live") (map_data scalar_data h.live.values) (member (codes "meta") (metadata_data h.live.metadata) ms))

-- The last three members, and others.
abbrev pub last_members : Held → Members → Members
last_members h ms = member (codes "owed") (owed_data h.owed) (member (codes "pending") (pending_maps_data h.pending)
    (member (codes "weak") (keys_data h.live.weak) ms))

-- Whatever members are written next, these are written before them.
pub record WroteFirst (first : Members → Members) (old new : Written) : Type 0 where
  pub leads : (ms : Members) (end : Written) → WroteMembers ms new end → WroteMembers (first ms) old end
