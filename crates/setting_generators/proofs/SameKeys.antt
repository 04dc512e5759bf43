-- Lists that have the same keys, so that the same keys are new after them.
use Rattle.std.proofs.Common.{◌≡◌, ◌||◌, ◌++◌, ℕ, List, [], ◌∷◌, Bool, true, false, cond, refl, sym, ap, ◌∙◌}
use Rattle.std.specs.BTreeSet as tree
use Rattle.std.specs.List.{list_any}
use Rattle.std.specs.Ordering.{eq_by_cmp}
use Rattle.std.proofs.lemmas.List.Folds.{list_any-append}
use Rattle.key_names.specs.Order.{key_cmp, keys_equal}
use Rattle.typed_settings.specs.declared.row.Row.{Row}
use Rattle.setting_generators.specs.Generators.{Path, Given}
use Rattle.setting_generators.specs.Reading.{Entry, SpellsNew, IsGenerator, IsBad, no_key, unknown, no_word}
use Rattle.setting_generators.specs.declared.generators_error.GeneratorsKind.{GeneratorsKind}

-- A key is in the one list where it is in the other.
abbrev pub IsSame : List Path → List Path → Type 0
IsSame one other = (q : Path) → list_any (eq_by_cmp key_cmp q) one ≡ list_any (eq_by_cmp key_cmp q) other

-- What is new after the one list is new after the other.
pub same_new : (one other : List Path) → IsSame one other → (text : List ℕ) (key : Path) → SpellsNew one text key → SpellsNew other text key
same_new one other same text key own = record { spelled = own.spelled; begins = own.begins; new = sym (same key) ∙ own.new }

module _ (table : List Row) (one other : List Path) (same : IsSame one other) (entry : Entry) where
  -- So is a generator.
  pub same_generator : (g : Given) → IsGenerator table one entry g → IsGenerator table other entry g
  same_generator g own = record { key = same_new one other same entry.0 g.0 own.key; known = own.known; words = own.words; some = own.some }

  -- So is a fault.
  pub same_bad : (kind : GeneratorsKind) → IsBad table one entry kind → IsBad table other entry kind
  same_bad _ (no_key none) = no_key (λ key own. none key (same_new other one (λ q. sym (same q)) entry.0 key own))
  same_bad _ (unknown key own none) = unknown key (same_new one other same entry.0 key own) none
  same_bad _ (no_word key own known none) = no_word key (same_new one other same entry.0 key own) known none

-- A key more in the set and in the list.
pub same_more : (s n : tree.BTreeSet Path) (keys : List Path) (k : Path) → IsSame s.keys keys → tree.Updates key_cmp s n k true → IsSame n.keys (keys ++ k ∷ [])
same_more s n keys k same updates q =
    updates.0 q ∙ ap (λ b. cond b true (list_any (eq_by_cmp key_cmp q) s.keys)) (keys_equal.symm k q) ∙ ap (λ b. cond (eq_by_cmp key_cmp q k) true b) (same q)
    ∙ by (eq_by_cmp key_cmp q k) (list_any (eq_by_cmp key_cmp q) keys) ∙ sym (list_any-append (eq_by_cmp key_cmp q) keys (k ∷ []))
  where
    by : (b has : Bool) → cond b true has ≡ (has || (b || false))
    by true true = refl
    by true false = refl
    by false true = refl
    by false false = refl
