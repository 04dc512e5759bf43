-- Which places the entries name: none twice.
use Rattle.std.proofs.Common.{◌≡◌, ◌&&◌, ◌||◌, ℕ, List, [], ◌∷◌, ◌++◌, Bool, true, false, not, map, refl, ◌∙◌, ap}
use Rattle.std.specs.declared.cmp.Ordering.{Ordering}
use Rattle.std.specs.declared.cmp.Ordering.TheVariants.{Less, Equal, Greater}
use Rattle.std.specs.Ordering.{eq_by_cmp, is_eq, is_lt}
use Rattle.std.specs.List.{AllByRecursion, list_all}
use Rattle.std.specs.FinMap.{is_sorted}
use Rattle.std.specs.FinMap.Entries.{below_all}
use Rattle.std.proofs.lemmas.Bool.{and_parts, and_from}
use Rattle.std.proofs.lemmas.List.Folds.{list_all-append}
use Rattle.std.proofs.lemmas.Map.Keys.{sorted_head, sorted_tail}
use Rattle.key_names.specs.Order.{bytes_cmp, key_cmp}
use Rattle.json_trees.specs.declared.pending.Pending.{Pending}
use Rattle.json_trees.specs.declared.pending.Pending.TheVariants.{Put, Gone}
use Rattle.settings_maps.specs.KeyList.{IsRising}
use Rattle.settings_tree.specs.Change.{Place, place, is_same, is_unnamed, is_once, has_bare_name}
use Rattle.settings_tree.specs.Change.{Live, Pend, TheWeak}
use Rattle.settings_tree.specs.declared.entry.Entry.{Entry}
use Rattle.settings_tree.specs.declared.entry.Entry.TheVariants.{PendSet, PendGone}
use Rattle.pending_tx.specs.Entries.{live_entry}
use Rattle.settings_maps.specs.KeyList.{has_key}

Key : Type 0
Key = List (List ℕ)

-- A place is not named in two lists where it is in neither.
pub unnamed-append : (p : Place) (es fs : List Entry) → is_unnamed p es ≡ true → is_unnamed p fs ≡ true → is_unnamed p (es ++ fs) ≡ true
unnamed-append p es fs first second = list_all-append (λ e. not (is_same p (place e))) es fs ∙ and_from _ _ first second

-- Each place of the first list is not in the second.
abbrev pub are_apart : List Entry → List Entry → Bool
are_apart es fs = list_all (λ e. is_unnamed (place e) fs) es

-- What both lists leave alone the joined list leaves alone.
pub apart-append1 : (es fs gs : List Entry) → are_apart es gs ≡ true → are_apart fs gs ≡ true → are_apart (es ++ fs) gs ≡ true
apart-append1 es fs gs one two = list_all-append (λ e. is_unnamed (place e) gs) es fs ∙ and_from _ _ one two

-- Two lists that name no place twice, and none in common.
pub once-append : (es fs : List Entry) → is_once es ≡ true → is_once fs ≡ true → are_apart es fs ≡ true → is_once (es ++ fs) ≡ true
once-append [] fs first second apart = second
once-append (e ∷ es) fs first second apart =
    let one = and_parts (is_unnamed (place e) es) (is_once es) first in
    let two = and_parts (is_unnamed (place e) fs) (are_apart es fs) apart in
    and_from _ _ (unnamed-append (place e) es fs one.0 two.0) (once-append es fs one.1 second two.1)

live_place : (k : List (List ℕ)) (p : Pending) → place (live_entry k p) ≡ Live k
live_place k (Put v) = refl
live_place k Gone = refl

differ : (r : Ordering) → is_lt r ≡ true → not (is_eq r) ≡ true
differ Less l = refl
differ Equal l = absurd (cc l)
differ Greater l = refl

not_both : (a b : Bool) → not b ≡ true → not (a && b) ≡ true
not_both true b e = e
not_both false b e = refl

-- Entries for the live values at rising keys.
live_unnamed : (k : List (List ℕ)) (es : List (List (List ℕ) × Pending)) → below_all key_cmp k es ≡ true
    → is_unnamed (Live k) (map (λ e. live_entry e.0 e.1) es) ≡ true
live_unnamed k [] below = refl
live_unnamed k (e ∷ es) below =
    let both = and_parts (is_lt (key_cmp k e.0)) (below_all key_cmp k es) below in
    and_from _ _ (ap (λ (p : Place). not (is_same (Live k) p)) (live_place e.0 e.1) ∙ differ (key_cmp k e.0) both.0) (live_unnamed k es both.1)

pub live_once : (es : List (List (List ℕ) × Pending)) → is_sorted key_cmp es ≡ true → is_once (map (λ e. live_entry e.0 e.1) es) ≡ true
live_once [] rises = refl
live_once (e ∷ es) rises =
    let both = and_parts (below_all key_cmp e.0 es) (is_sorted key_cmp es) rises in
    and_from _ _ (ap (λ (p : Place). is_unnamed p (map (λ e. live_entry e.0 e.1) es)) (live_place e.0 e.1) ∙ live_unnamed e.0 es both.0) (live_once es both.1)

pub live_bare : (es : List (List (List ℕ) × Pending)) → list_all has_bare_name (map (λ e. live_entry e.0 e.1) es) ≡ true
live_bare [] = refl
live_bare (e ∷ es) = and_from _ _ (by e.1) (live_bare es) where
  by : (p : Pending) → has_bare_name (live_entry e.0 p) ≡ true
  by (Put v) = refl
  by Gone = refl

-- A key that is none of theirs.
pub live_other : (k : List (List ℕ)) (es : List (List (List ℕ) × Pending)) → has_key (map (λ e. e.0) es) k ≡ false
    → is_unnamed (Live k) (map (λ e. live_entry e.0 e.1) es) ≡ true
live_other k [] none = refl
live_other k (e ∷ es) none = by (eq_by_cmp key_cmp k e.0) refl none (live_other k es) where
  by : (b : Bool) → eq_by_cmp key_cmp k e.0 ≡ b → (b || has_key (map (λ e. e.0) es) k) ≡ false
      → (has_key (map (λ e. e.0) es) k ≡ false → is_unnamed (Live k) (map (λ e. live_entry e.0 e.1) es) ≡ true)
      → is_unnamed (Live k) (map (λ e. live_entry e.0 e.1) (e ∷ es)) ≡ true
  by true is none rest = absurd (cc none)
  by false is none rest = and_from _ _ (ap (λ (p : Place). not (is_same (Live k) p)) (live_place e.0 e.1) ∙ ap not is) (rest none)

-- Entries that take rising keys from a transaction.
gone_unnamed : (tx : List ℕ) (k : List (List ℕ)) (ks : List (List (List ℕ))) → AllByRecursion (λ q. key_cmp k q ≡ Less) ks
    → is_unnamed (Pend tx k) (map (λ k. PendGone tx k) ks) ≡ true
gone_unnamed tx k [] below = refl
gone_unnamed tx k (q ∷ ks) below = and_from _ _ (not_both (eq_by_cmp bytes_cmp tx tx) (eq_by_cmp key_cmp k q) (ap (λ (r : Ordering). not (is_eq r)) below.0))
    (gone_unnamed tx k ks below.1)

pub gone_once : (tx : List ℕ) (ks : List (List (List ℕ))) → IsRising ks → is_once (map (λ k. PendGone tx k) ks) ≡ true
gone_once tx [] rises = refl
gone_once tx (k ∷ ks) rises = and_from _ _ (gone_unnamed tx k ks (sorted_head key_cmp k ks rises)) (gone_once tx ks (sorted_tail key_cmp k ks rises))

pub gone_bare : (tx : List ℕ) (ks : List (List (List ℕ))) → list_all has_bare_name (map (λ k. PendGone tx k) ks) ≡ true
gone_bare tx [] = refl
gone_bare tx (k ∷ ks) = gone_bare tx ks

-- They name no live key, and not the weak keys.
pub gone_no_live : (tx : List ℕ) (ks : List (List (List ℕ))) (k : List (List ℕ)) → is_unnamed (Live k) (map (λ k. PendGone tx k) ks) ≡ true
gone_no_live tx [] k = refl
gone_no_live tx (q ∷ ks) k = gone_no_live tx ks k

pub gone_no_weak : (tx : List ℕ) (ks : List (List (List ℕ))) → is_unnamed TheWeak (map (λ k. PendGone tx k) ks) ≡ true
gone_no_weak tx [] = refl
gone_no_weak tx (q ∷ ks) = gone_no_weak tx ks

-- Entries that set rising keys in a transaction.
set_unnamed : (tx : List ℕ) (k : List (List ℕ)) (es : List (List (List ℕ) × Pending)) → below_all key_cmp k es ≡ true
    → is_unnamed (Pend tx k) (map (λ e. PendSet tx e.0 e.1) es) ≡ true
set_unnamed tx k [] below = refl
set_unnamed tx k (e ∷ es) below =
    let both = and_parts (is_lt (key_cmp k e.0)) (below_all key_cmp k es) below in
    and_from _ _ (not_both (eq_by_cmp bytes_cmp tx tx) (eq_by_cmp key_cmp k e.0) (differ (key_cmp k e.0) both.0)) (set_unnamed tx k es both.1)

pub set_once : (tx : List ℕ) (es : List (List (List ℕ) × Pending)) → is_sorted key_cmp es ≡ true → is_once (map (λ e. PendSet tx e.0 e.1) es) ≡ true
set_once tx [] rises = refl
set_once tx (e ∷ es) rises =
    let both = and_parts (below_all key_cmp e.0 es) (is_sorted key_cmp es) rises in
    and_from _ _ (set_unnamed tx e.0 es both.0) (set_once tx es both.1)

pub set_bare : (tx : List ℕ) (es : List (List (List ℕ) × Pending)) → list_all has_bare_name (map (λ e. PendSet tx e.0 e.1) es) ≡ true
set_bare tx [] = refl
set_bare tx (e ∷ es) = set_bare tx es

pub set_no_live : (tx : List ℕ) (es : List (List (List ℕ) × Pending)) (k : List (List ℕ)) → is_unnamed (Live k) (map (λ e. PendSet tx e.0 e.1) es) ≡ true
set_no_live tx [] k = refl
set_no_live tx (e ∷ es) k = set_no_live tx es k

pub set_no_weak : (tx : List ℕ) (es : List (List (List ℕ) × Pending)) → is_unnamed TheWeak (map (λ e. PendSet tx e.0 e.1) es) ≡ true
set_no_weak tx [] = refl
set_no_weak tx (e ∷ es) = set_no_weak tx es

-- Entries whose places are not in a list.
pub live_apart : (es : List (List (List ℕ) × Pending)) (fs : List Entry) → ((k : List (List ℕ)) → is_unnamed (Live k) fs ≡ true)
    → are_apart (map (λ e. live_entry e.0 e.1) es) fs ≡ true
live_apart [] fs none = refl
live_apart (e ∷ es) fs none = and_from _ _ (ap (λ (p : Place). is_unnamed p fs) (live_place e.0 e.1) ∙ none e.0) (live_apart es fs none)

pub gone_apart : (tx : List ℕ) (ks : List (List (List ℕ))) (fs : List Entry) → ((k : List (List ℕ)) → is_unnamed (Pend tx k) fs ≡ true)
    → are_apart (map (λ k. PendGone tx k) ks) fs ≡ true
gone_apart tx [] fs none = refl
gone_apart tx (k ∷ ks) fs none = and_from _ _ (none k) (gone_apart tx ks fs none)

-- Entries for the live values do not name the weak keys.
pub live_no_weak : (es : List (List (List ℕ) × Pending)) → is_unnamed TheWeak (map (λ e. live_entry e.0 e.1) es) ≡ true
live_no_weak [] = refl
live_no_weak (e ∷ es) = and_from _ _ (ap (λ (p : Place). not (is_same TheWeak p)) (live_place e.0 e.1)) (live_no_weak es)
