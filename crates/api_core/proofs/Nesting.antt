-- Values by key make a tree.
use Rattle.std.proofs.Common.{arith, ◌≡◌, ℕ, ◌&&◌, List, [], ◌∷◌, Bool, true, false, cond, filter, take, IsSome, Option, Some, None}
use Rattle.std.proofs.Common.{refl, sym, ◌∙◌, ap, subst}
use Rattle.std.specs.Prelude.{AllPairs}
use Rattle.std.specs.FinMap.{FinMap, entries, get}
use Rattle.std.specs.List.{All, AllByRecursion}
use Rattle.std.specs.Map.{keys_of}
use Rattle.std.proofs.lemmas.Bool.{and_parts}
use Rattle.key_names.specs.Key.{is_prefix}
use Rattle.key_names.specs.Order.{key_cmp}
use Rattle.json_trees.specs.Apart.{AreApart}
use Rattle.json_trees.proofs.Parting.{All-from}
use Rattle.settings_tree.specs.Rule.{IsPrefixFree}
use Rattle.settings_tree.specs.Walks.{entries_below}
use Rattle.settings_tree.proofs.ApartKeys.{some_apart, all_apart, tested_stand, take_begun}
use Rattle.json_trees.specs.declared.pending.Pending.{Pending}
use Rattle.typed_settings.specs.declared.row.Row.{Row}
use Rattle.settings_tree.specs.Content.{settings_key}
use Rattle.settings_tree.specs.declared.held.Held.{Held}
use Rattle.pending_tx.specs.Transactions.{pending_of}
use Rattle.settings_machine.specs.Typed.{MayPend, IsTypedHeld}
use Rattle.settings_machine.specs.World.{Key}
use Rattle.api_core.specs.Prints.{AreAlike}

-- ---- tests

module _ {E : Type 0} where
  pub all_pass : (es : List E) → filter (λ _. true) es ≡ es
  all_pass [] = refl
  all_pass (e ∷ es) = ap (λ (l : List E). e ∷ l) (all_pass es)

  -- What passes one test and then a second passes both.
  pub filter_both : (p q : E → Bool) (es : List E) → filter q (filter p es) ≡ filter (λ e. p e && q e) es
  filter_both p q [] = refl
  filter_both p q (e ∷ es) = by (p e) (filter_both p q es) where
    by : (a : Bool) → filter q (filter p es) ≡ filter (λ e. p e && q e) es
        → filter q (cond a (e ∷ filter p es) (filter p es)) ≡ cond (a && q e) (e ∷ filter (λ e. p e && q e) es) (filter (λ e. p e && q e) es)
    by true rest = ap (λ (l : List E). cond (q e) (e ∷ l) l) rest
    by false rest = rest

-- ---- first segments

-- The keys begin with this segment.
abbrev Begin : List ℕ → List Key → Type 0
Begin first keys = All (λ key. is_prefix (first ∷ []) key ≡ true) keys

-- Then they share it.
alike_begin : (first : List ℕ) (keys : List Key) → Begin first keys → AllPairs (λ key other. take 1 key ≡ take 1 other) keys
alike_begin first keys begin = λ i j d before within. take_begun 1 (first ∷ []) _ (begin i d (omega arith)) (omega arith)
    ∙ sym (take_begun 1 (first ∷ []) _ (begin j d within) (omega arith))

module _ {X : Type 0} (m : FinMap key_cmp X) where
  module _ (first : List ℕ) where
    some_begin : (p : Key × X → Bool) → ((e : Key × X) → p e ≡ true → is_prefix (first ∷ []) e.0 ≡ true) → (es : List (Key × X))
        → AllByRecursion (λ k. is_prefix (first ∷ []) k ≡ true) (keys_of (filter p es))
    some_begin p more [] = tt
    some_begin p more (e ∷ es) = by (p e) refl (some_begin p more es) where
      by : (b : Bool) → p e ≡ b → AllByRecursion (λ k. is_prefix (first ∷ []) k ≡ true) (keys_of (filter p es))
          → AllByRecursion (λ k. is_prefix (first ∷ []) k ≡ true) (keys_of (cond b (e ∷ filter p es) (filter p es)))
      by true is rest = (more e is, rest)
      by false is rest = rest

    -- The keys of a map that pass a test, if those that do begin with this segment.
    tested_begin : (p : Key × X → Bool) → ((e : Key × X) → p e ≡ true → is_prefix (first ∷ []) e.0 ≡ true) → (list : List (Key × X))
        → list ≡ filter p (entries m) → Begin first (keys_of list)
    tested_begin p more list is = subst (λ (l : List (Key × X)). Begin first (keys_of l)) (sym is)
        (All-from (λ k. is_prefix (first ∷ []) k ≡ true) (keys_of (filter p (entries m))) (some_begin p more (entries m)))

    -- All keys of a map, if they begin with this segment.
    pub nest_kept : ((k : Key) → IsSome (get m k) → is_prefix (first ∷ []) k ≡ true) → (list : List (Key × X)) → list ≡ entries m
        → AreApart (keys_of list) → AreAlike 1 (keys_of list)
    nest_kept each list is apart = record { apart = apart; alike = alike_begin first (keys_of list) begin } where
      stand : All (λ k. IsSome (get m k)) (keys_of list)
      stand = subst (λ (l : List (Key × X)). All (λ k. IsSome (get m k)) (keys_of l)) (all_pass (entries m) ∙ sym is) (tested_stand m (λ _. true))

      begin : Begin first (keys_of list)
      begin = λ i d within. each _ (stand i d within)

  module _ (free : IsPrefixFree m) where
    -- All values,
    pub nest_all : (list : List (Key × X)) → list ≡ entries m → AreAlike 0 (keys_of list)
    nest_all list is = record { apart = all_apart m free list is; alike = λ i j d before within. refl }

    nest_first : (first : List ℕ) (p : Key × X → Bool) → ((e : Key × X) → p e ≡ true → is_prefix (first ∷ []) e.0 ≡ true) → (list : List (Key × X))
        → list ≡ filter p (entries m) → AreAlike 1 (keys_of list)
    nest_first first p more list is = record {
      apart = some_apart m free p list is;
      alike =
          alike_begin first (keys_of list) (tested_begin first p more list is);
    }

    -- those that begin with this segment,
    pub nest_below : (first : List ℕ) (list : List (Key × X)) → list ≡ entries_below m (first ∷ []) → AreAlike 1 (keys_of list)
    nest_below first list is = nest_first first (λ e. is_prefix (first ∷ []) e.0) (λ e begins. begins) list is

    -- and some of these.
    pub nest_where : (first : List ℕ) (q : Key × X → Bool) (list : List (Key × X)) → list ≡ filter q (entries_below m (first ∷ [])) → AreAlike 1 (keys_of list)
    nest_where first q list is = nest_first first (λ e. is_prefix (first ∷ []) e.0 && q e) (λ e both. (and_parts (is_prefix (first ∷ []) e.0) (q e) both).0)
        list
        (is ∙ filter_both (λ e. is_prefix (first ∷ []) e.0) q (entries m))

-- All that is pending begins with `settings`.
pub pending_settings : (types : List Row) (held : Held) → IsTypedHeld types held → (tx : List ℕ) (k : Key) → IsSome (get (pending_of held tx) k)
    → is_prefix settings_key k ≡ true
pending_settings types held typed tx k some = by (get (pending_of held tx) k) refl some where
  by : (o : Option Pending) → get (pending_of held tx) k ≡ o → IsSome o → is_prefix settings_key k ≡ true
  by None is some = absurd (cc some)
  by (Some p) is some = let may : MayPend types k p = typed.pending tx k p is in may.setting
