-- Walks through maps that save what is there.
use Rattle.std.proofs.Common.{◌≡◌, ◌&&◌, ℕ, List, [], ◌∷◌, Option, Some, None, IsSome, is_some}
use Rattle.std.proofs.Common.{unwrap_or, Bool, true, false, cond, Ok, refl, sym, ap, ◌∙◌, subst}
use Rattle.std.specs.Prelude.{option_map, option_and_then}
use Rattle.std.specs.declared.cmp.Ordering.{Ordering}
use Rattle.std.specs.Ordering.{eq_by_cmp}
use Rattle.std.specs.Cmp.{IsTotalOrder}
use Rattle.std.specs.FinMap.{FinMap, IsAntisymmetric, empty, find, get, entries, get-entries}
use Rattle.std.specs.List.{AllByRecursion}
use Rattle.outside.specs.Names.{Names}
use Rattle.outside.specs.Told.{Moves}
use Rattle.outside.specs.History.{History}
use Rattle.key_names.proofs.Ties.{same_bytes, same_key}
use Rattle.key_names.specs.Order.{bytes_cmp, key_cmp}
use Rattle.json_trees.specs.declared.pending.Pending.{Pending}
use Rattle.json_trees.specs.declared.scalar.Scalar.{Scalar}
use Rattle.settings_maps.specs.Maps.{value_at}
use Rattle.settings_maps.proofs.NestedMaps.{none_in}
use Rattle.settings_tree.specs.Change.{Place}
use Rattle.settings_tree.specs.Change.{Live, Meta, Pend}
use Rattle.settings_tree.specs.Content.{IsNamed}
use Rattle.settings_tree.specs.Walks.{entries_past}
use Rattle.settings_tree.proofs.Walks.{walk_start, first_past}
use Rattle.fs_datastore.specs.Values.{Value, live, pending}
use Rattle.fs_datastore.specs.Saving.{Values, HasBareNames, or_else, put_over, value_at_place, live_values}
use Rattle.fs_datastore.specs.Saving.{names_of_key, all_metadata, keys_of_transaction, all_pending, SavesTo}
use Rattle.fs_datastore.proofs.Savings.{saved_none, saved_alike, saved_then, none_else, either_first}

-- the values of some entries, those of each over those of the entries before it
abbrev pub values_of : {X : Type 0} → (X → Values) → List X → Values
values_of each [] q = None
values_of each (e ∷ es) q = or_else (values_of each es q) (each e q)

-- the values of the places at one key
abbrev only_at : {K : Type 0} → (K → K → Ordering) → (Place → Option K) → K → Values → Values
only_at R key_of k whole q = option_and_then (λ j. cond (eq_by_cmp R j k) (whole q) None) (key_of q)

-- the values are those of the map, at places that have a key of it, and each entry has those at its key
pub record IsOf {K X : Type 0} {R : K → K → Ordering} (key_of : Place → Option K) (m : FinMap R X) (each : K × X → Values) (whole : Values) : Type 0 where
  pub outside : (q : Place) → key_of q ≡ None → whole q ≡ None
  pub lacks : (q : Place) (k : K) → key_of q ≡ Some k → get m k ≡ None → whole q ≡ None
  pub at_entry : (e : K × X) → get m e.0 ≡ Some e.1 → (q : Place) → each e q ≡ only_at R key_of e.0 whole q

-- a value that is there already is there
joined : {X : Type 0} (o : Option X) (b : Bool) (x : X) (v : Option Value)
    → or_else (cond (is_some o) v None) (cond b v None) ≡ cond (is_some (cond b (Some x) o)) v None
joined None true x v = refl
joined None false x v = refl
joined (Some y) true x None = refl
joined (Some y) true x (Some v) = refl
joined (Some y) false x v = none_else v

module _ {K X : Type 0} {R : K → K → Ordering} (m : FinMap R X) where
  -- the map has each of the entries
  abbrev pub HasEach : List (K × X) → Type 0
  HasEach = AllByRecursion (λ e. get m e.0 ≡ Some e.1)

  module _ (total : IsTotalOrder R) (same : IsAntisymmetric R) where
    has_past : (after : Option K) (es : List (K × X)) → entries_past m after ≡ es → HasEach es
    has_past after [] is = tt
    has_past after (e ∷ es) is = let next = first_past total same m after e.0 e.1 es is in (next.0.stands, has_past (Some e.0) es (sym next.1))

    -- the map has its entries
    has_all : HasEach (entries m)
    has_all = has_past None (entries m) (walk_start total same m)

  module _ (key_of : Place → Option K) (each : K × X → Values) (whole : Values) (of : IsOf key_of m each whole) where
    -- the values of some entries are those at their keys
    at_keys : (es : List (K × X)) → HasEach es → (q : Place)
        → values_of each es q ≡ option_and_then (λ j. cond (is_some (find R j es)) (whole q) None) (key_of q)
    at_keys [] has q = by (key_of q) where
      by : (o : Option K) → None ≡ option_and_then (λ j. cond false (whole q) None) o
      by None = refl
      by (Some j) = refl
    at_keys (e ∷ es) has q =
        ap (or_else (values_of each es q)) (of.at_entry e has.0 q)
        ∙ ap (λ (v : Option Value). or_else v (only_at R key_of e.0 whole q)) (at_keys es has.1 q) ∙ by (key_of q)
      where
        by : (o : Option K) → or_else (option_and_then (λ j. cond (is_some (find R j es)) (whole q) None) o)
            (option_and_then (λ j. cond (eq_by_cmp R j e.0) (whole q) None) o)
            ≡ option_and_then (λ j. cond (is_some (find R j (e ∷ es))) (whole q) None) o
        by None = refl
        by (Some j) = joined (find R j es) (eq_by_cmp R j e.0) e.1 (whole q)

    -- those of all entries are all
    all_left : HasEach (entries m) → (q : Place) → values_of each (entries m) q ≡ whole q
    all_left has q = at_keys (entries m) has q ∙ by (key_of q) refl where
      there : (j : K) (o : Option X) → key_of q ≡ Some j → get m j ≡ o → cond (is_some o) (whole q) None ≡ whole q
      there j None at none = sym (of.lacks q j at none)
      there j (Some x) at some = refl

      by : (o : Option K) → key_of q ≡ o → option_and_then (λ j. cond (is_some (find R j (entries m))) (whole q) None) o ≡ whole q
      by None is = sym (of.outside q is)
      by (Some j) is = there j (find R j (entries m)) is (get-entries m j)

-- what is saved and what the entries that are left have is all
pub record SavedUpTo {K X : Type 0} {R : K → K → Ordering} (E : Type 0) (dir : Names) (m : FinMap R X) (each : K × X → Values) (whole : Values)
    (left : List (K × X)) (a b : Option History) : Type 0 where
  pub saved : Values
  pub moves : Moves a b (SavesTo {E = E} dir saved (Ok tt))
  pub all : (q : Place) → or_else (values_of each left q) (saved q) ≡ whole q
  pub has : HasEach m left

module _ {K X E : Type 0} {R : K → K → Ordering} {dir : Names} {m : FinMap R X} {each : K × X → Values} {whole : Values} where
  -- at first nothing is saved
  pub walk_none : {key_of : Place → Option K} → IsTotalOrder R → IsAntisymmetric R → IsOf key_of m each whole → (left : List (K × X)) (a : Option History)
      → left ≡ entries m → SavedUpTo E dir m each whole left a a
  walk_none {key_of} total same of left a is = subst (λ (l : List (K × X)). SavedUpTo E dir m each whole l a a) (sym is) (record {
    saved = λ q. None;
    moves = saved_none dir (λ q. None) a (λ q. refl);
    all = λ q. none_else (values_of each (entries m) q) ∙ all_left m key_of each whole of (has_all m total same) q;
    has = has_all m total same;
  })

  -- the map has the next entry
  pub next_there : {left rest : List (K × X)} {a b : Option History} (e : K × X) → SavedUpTo E dir m each whole left a b → left ≡ e ∷ rest
      → get m e.0 ≡ Some e.1
  next_there {left} {rest} {a} {b} e walk next = (subst (HasEach m) next walk.has).0

  -- the values of the next entry are saved
  pub walk_more : {left rest : List (K × X)} {a b c : Option History} (e : K × X) (done : Unit) → SavedUpTo E dir m each whole left a b
      → left ≡ e ∷ rest → Moves b c (SavesTo {E = E} dir (each e) (Ok done)) → SavedUpTo E dir m each whole rest a c
  walk_more {left} {rest} {a} {b} {c} e done walk next n = record {
    saved = put_over (each e) walk.saved;
    moves = saved_then dir walk.saved (each e) tt (Ok done) a b c walk.moves n;
    all = λ q. either_first (values_of each rest q) (each e q) (walk.saved q)
        ∙ ap (λ (l : List (K × X)). or_else (values_of each l q) (walk.saved q)) (sym next) ∙ walk.all q;
    has = (subst (HasEach m) next walk.has).1;
  }

  -- at the end all is saved
  pub walk_all : {left : List (K × X)} {a b : Option History} → SavedUpTo E dir m each whole left a b → left ≡ []
      → Moves a b (SavesTo {E = E} dir whole (Ok tt))
  walk_all {left} {a} {b} walk none = saved_alike dir walk.saved whole (Ok tt) a b
      (λ q. ap (λ (l : List (K × X)). or_else (values_of each l q) (walk.saved q)) (sym none) ∙ walk.all q) walk.moves

-- ---- keys of places

some_key : (j k : List (List ℕ)) → Some j ≡ Some k → j ≡ k
some_key j k is = cc is

some_name : (j k : List ℕ) → Some j ≡ Some k → j ≡ k
some_name j k is = cc is

keys_same : (a b : List (List ℕ)) → eq_by_cmp key_cmp a b ≡ true → a ≡ b
keys_same a b is = (same_key a b _ _ refl refl).0 is

names_same : (a b : List ℕ) → eq_by_cmp bytes_cmp a b ≡ true → a ≡ b
names_same a b is = (same_bytes a b _ _ refl refl).0 is

-- nothing is chosen
chosen : {Y : Type 0} (b : Bool) (n : Y) (v : Option Value) → cond b (Some n) None ≡ None → cond b v None ≡ None
chosen true n v is = absurd (cc is)
chosen false n v is = refl

-- nothing is chosen at this key, or it isn't this key
chosen_some : {Y : Type 0} (b : Bool) (n k : Y) (v : Option Value) → cond b (Some n) None ≡ Some k → (n ≡ k → v ≡ None) → cond b v None ≡ None
chosen_some true n k v is none = none (cc is)
chosen_some false n k v is none = refl

-- ---- the live values

-- the key of a live value
abbrev pub live_key : Place → Option (List (List ℕ))
live_key (Live key) = Some key
live_key place = None

-- the value of an entry
abbrev pub live_entry : List (List ℕ) × Scalar → Values
live_entry e = value_at_place (Live e.0) (live e.1)

live_step : (m : FinMap key_cmp Scalar) (k : List (List ℕ)) (x : Scalar) → get m k ≡ Some x → (q : Place)
    → value_at_place (Live k) (live x) q ≡ only_at key_cmp live_key k (live_values m) q
live_step m k x at (Live j) = by (eq_by_cmp key_cmp j k) refl where
  by : (b : Bool) → eq_by_cmp key_cmp j k ≡ b → cond b (Some (live x)) None ≡ cond b (option_map live (get m j)) None
  by true is = ap (option_map live) (sym (ap (get m) (keys_same j k is) ∙ at))
  by false is = refl
live_step m k x at _ = refl

pub live_of : (m : FinMap key_cmp Scalar) → IsOf live_key m live_entry (live_values m)
live_of m = record { outside = outside; lacks = lacks; at_entry = λ e there. live_step m e.0 e.1 there } where
  outside : (q : Place) → live_key q ≡ None → live_values m q ≡ None
  outside (Live k) is = absurd (cc is)
  outside _ is = refl

  lacks : (q : Place) (k : List (List ℕ)) → live_key q ≡ Some k → get m k ≡ None → live_values m q ≡ None
  lacks (Live j) k is none = ap (option_map live) (ap (get m) (some_key j k is) ∙ none)
  lacks _ k is none = refl

-- ---- the metadata of one key

-- the name of metadata of this key
abbrev pub name_at : List (List ℕ) → Place → Option (List ℕ)
name_at at (Meta key name) = cond (eq_by_cmp key_cmp key at) (Some name) None
name_at at place = None

-- the value of an entry of this key
abbrev pub name_entry : List (List ℕ) → List ℕ × Scalar → Values
name_entry at e = value_at_place (Meta at e.0) (live e.1)

-- one of two places at this name
step_in : {K : Type 0} (R : K → K → Ordering) (a b : Bool) (j : K) (x : Value) (v : Option Value) (at : K) → eq_by_cmp R j at ≡ b → (b ≡ true → Some x ≡ v)
    → cond (a && b) (Some x) None ≡ option_and_then (λ i. cond (eq_by_cmp R i at) (cond a v None) None) (cond a (Some j) None)
step_in R true true j x v at is same = same refl ∙ sym (ap (λ (b : Bool). cond b v None) is)
step_in R true false j x v at is same = sym (ap (λ (b : Bool). cond b v None) is)
step_in R false b j x v at is same = refl

names_step : (at : List (List ℕ)) (m : FinMap bytes_cmp Scalar) (k : List ℕ) (x : Scalar) → get m k ≡ Some x → (q : Place)
    → value_at_place (Meta at k) (live x) q ≡ only_at bytes_cmp (name_at at) k (names_of_key at m) q
names_step at m k x here (Meta j n) = step_in bytes_cmp (eq_by_cmp key_cmp j at) (eq_by_cmp bytes_cmp n k) n (live x) (option_map live (get m n)) k refl
    (λ is. ap (option_map live) (sym (ap (get m) (names_same n k is) ∙ here)))
names_step at m k x here _ = refl

pub names_of : (at : List (List ℕ)) (m : FinMap bytes_cmp Scalar) → IsOf (name_at at) m (name_entry at) (names_of_key at m)
names_of at m = record { outside = outside; lacks = lacks; at_entry = λ e there. names_step at m e.0 e.1 there } where
  outside : (q : Place) → name_at at q ≡ None → names_of_key at m q ≡ None
  outside (Meta k n) is = chosen (eq_by_cmp key_cmp k at) n (option_map live (get m n)) is
  outside _ is = refl

  lacks : (q : Place) (k : List ℕ) → name_at at q ≡ Some k → get m k ≡ None → names_of_key at m q ≡ None
  lacks (Meta j n) k is none = chosen_some (eq_by_cmp key_cmp j at) n k (option_map live (get m n)) is (λ same. ap (option_map live) (ap (get m) same ∙ none))
  lacks _ k is none = refl

-- ---- metadata by key

-- the key of metadata
abbrev pub meta_key : Place → Option (List (List ℕ))
meta_key (Meta key name) = Some key
meta_key place = None

-- the values of an entry
abbrev pub names_entry : List (List ℕ) × FinMap bytes_cmp Scalar → Values
names_entry e = names_of_key e.0 e.1

metadata_step : (m : FinMap key_cmp (FinMap bytes_cmp Scalar)) (k : List (List ℕ)) (names : FinMap bytes_cmp Scalar) → get m k ≡ Some names → (q : Place)
    → names_of_key k names q ≡ only_at key_cmp meta_key k (all_metadata m) q
metadata_step m k names at (Meta j n) = by (eq_by_cmp key_cmp j k) refl where
  by : (b : Bool) → eq_by_cmp key_cmp j k ≡ b → cond b (option_map live (get names n)) None ≡ cond b (option_map live (value_at m j n)) None
  by true is = ap (λ (i : FinMap bytes_cmp Scalar). option_map live (get i n))
      (sym (ap (λ (o : Option (FinMap bytes_cmp Scalar)). unwrap_or o empty) (ap (get m) (keys_same j k is) ∙ at)))
  by false is = refl
metadata_step m k names at _ = refl

pub metadata_of : (m : FinMap key_cmp (FinMap bytes_cmp Scalar)) → IsOf meta_key m names_entry (all_metadata m)
metadata_of m = record { outside = outside; lacks = lacks; at_entry = λ e there. metadata_step m e.0 e.1 there } where
  outside : (q : Place) → meta_key q ≡ None → all_metadata m q ≡ None
  outside (Meta k n) is = absurd (cc is)
  outside _ is = refl

  lacks : (q : Place) (k : List (List ℕ)) → meta_key q ≡ Some k → get m k ≡ None → all_metadata m q ≡ None
  lacks (Meta j n) k is none = ap (option_map live) (sym (none_in m j n (sym (ap (get m) (some_key j k is) ∙ none))))
  lacks _ k is none = refl

-- the names of each key are bare
pub bare_names : (m : FinMap key_cmp (FinMap bytes_cmp Scalar)) (k : List (List ℕ)) (names : FinMap bytes_cmp Scalar) → IsNamed m → get m k ≡ Some names
    → HasBareNames names
bare_names m k names named at = record {
  bare = λ name there. named.bare k name (subst (λ (o : Option (FinMap bytes_cmp Scalar)). IsSome (get (unwrap_or o empty) name)) (sym at) there);
}

-- ---- what one transaction has pending

-- the key of what is pending in this transaction
abbrev pub key_in : List ℕ → Place → Option (List (List ℕ))
key_in at (Pend tx key) = cond (eq_by_cmp bytes_cmp tx at) (Some key) None
key_in at place = None

-- the value of an entry of this transaction
abbrev pub pending_entry : List ℕ → List (List ℕ) × Pending → Values
pending_entry at e = value_at_place (Pend at e.0) (pending e.1)

keys_step : (at : List ℕ) (m : FinMap key_cmp Pending) (k : List (List ℕ)) (x : Pending) → get m k ≡ Some x → (q : Place)
    → value_at_place (Pend at k) (pending x) q ≡ only_at key_cmp (key_in at) k (keys_of_transaction at m) q
keys_step at m k x here (Pend t j) = step_in key_cmp (eq_by_cmp bytes_cmp t at) (eq_by_cmp key_cmp j k) j (pending x) (option_map pending (get m j)) k refl
    (λ is. ap (option_map pending) (sym (ap (get m) (keys_same j k is) ∙ here)))
keys_step at m k x here _ = refl

pub keys_of : (at : List ℕ) (m : FinMap key_cmp Pending) → IsOf (key_in at) m (pending_entry at) (keys_of_transaction at m)
keys_of at m = record { outside = outside; lacks = lacks; at_entry = λ e there. keys_step at m e.0 e.1 there } where
  outside : (q : Place) → key_in at q ≡ None → keys_of_transaction at m q ≡ None
  outside (Pend t k) is = chosen (eq_by_cmp bytes_cmp t at) k (option_map pending (get m k)) is
  outside _ is = refl

  lacks : (q : Place) (k : List (List ℕ)) → key_in at q ≡ Some k → get m k ≡ None → keys_of_transaction at m q ≡ None
  lacks (Pend t j) k is none = chosen_some (eq_by_cmp bytes_cmp t at) j k (option_map pending (get m j)) is
      (λ same. ap (option_map pending) (ap (get m) same ∙ none))
  lacks _ k is none = refl

-- ---- pending maps by transaction

-- the transaction of what is pending
abbrev pub pending_tx : Place → Option (List ℕ)
pending_tx (Pend tx key) = Some tx
pending_tx place = None

-- the values of an entry
abbrev pub keys_entry : List ℕ × FinMap key_cmp Pending → Values
keys_entry e = keys_of_transaction e.0 e.1

pending_step : (m : FinMap bytes_cmp (FinMap key_cmp Pending)) (t : List ℕ) (keys : FinMap key_cmp Pending) → get m t ≡ Some keys → (q : Place)
    → keys_of_transaction t keys q ≡ only_at bytes_cmp pending_tx t (all_pending m) q
pending_step m t keys at (Pend u k) = by (eq_by_cmp bytes_cmp u t) refl where
  by : (b : Bool) → eq_by_cmp bytes_cmp u t ≡ b → cond b (option_map pending (get keys k)) None ≡ cond b (option_map pending (value_at m u k)) None
  by true is = ap (λ (i : FinMap key_cmp Pending). option_map pending (get i k))
      (sym (ap (λ (o : Option (FinMap key_cmp Pending)). unwrap_or o empty) (ap (get m) (names_same u t is) ∙ at)))
  by false is = refl
pending_step m t keys at _ = refl

pub pending_of : (m : FinMap bytes_cmp (FinMap key_cmp Pending)) → IsOf pending_tx m keys_entry (all_pending m)
pending_of m = record { outside = outside; lacks = lacks; at_entry = λ e there. pending_step m e.0 e.1 there } where
  outside : (q : Place) → pending_tx q ≡ None → all_pending m q ≡ None
  outside (Pend t k) is = absurd (cc is)
  outside _ is = refl

  lacks : (q : Place) (k : List ℕ) → pending_tx q ≡ Some k → get m k ≡ None → all_pending m q ≡ None
  lacks (Pend t j) k is none = ap (option_map pending) (sym (none_in m t j (sym (ap (get m) (some_name t k is) ∙ none))))
  lacks _ k is none = refl
