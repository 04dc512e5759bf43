-- What a migration does forward and then back.
use Rattle.std.specs.Prelude.{◌≡◌, ℕ, List, Vec, None, Some, Ok, IsTrue, map}
use Rattle.std.specs.declared.alloc.Global.{Global}
use Rattle.std.specs.List.{IsDistinct, list_any}
use Rattle.std.specs.Ordering.{eq_by_cmp}
use Rattle.std.specs.FinMap.{get}
use Rattle.key_names.specs.Order.{key_cmp}
use Rattle.key_names.specs.Key.{is_prefix}
use Rattle.json_trees.specs.declared.scalar.Scalar.TheVariants as scalar
use Rattle.json_trees.specs.declared.pending.Pending.TheVariants as pending
use Rattle.settings_maps.specs.KeyList.{IsRising}
use Rattle.settings_maps.specs.Maps.{value_at}
use Rattle.settings_tree.specs.Content.{IsContent, settings_key}
use Rattle.settings_tree.specs.Pending.{IsPending}
use Rattle.settings_tree.specs.declared.held.Held.{Held}
use Rattle.migrate_helpers.specs.Mapped.{backward_of, forward_of}
use Rattle.migrate_helpers.specs.declared.migration.Migration.TheVariants.{RenameSettings, ReplaceString}

-- The second keys of pairs.
abbrev pub seconds : List (List (List ℕ) × List (List ℕ)) → List (List (List ℕ))
seconds pairs = map (λ p. p.1) pairs

-- q is a second key of the pairs.
abbrev pub IsSecond : List (List (List ℕ) × List (List ℕ)) → List (List ℕ) → Type 0
IsSecond pairs q = IsTrue (list_any (eq_by_cmp key_cmp q) (seconds pairs))

-- The second keys of the pairs are all different, begin with `settings`, and are in none of the maps.
pub record AreNew (pairs : List (List (List ℕ) × List (List ℕ))) (h : Held) : Type 0 where
  pub distinct : IsDistinct (eq_by_cmp key_cmp) (seconds pairs)
  pub begin : (q : List (List ℕ)) → IsSecond pairs q → IsTrue (is_prefix settings_key q)
  pub live : (q : List (List ℕ)) → IsSecond pairs q → get h.live.values q ≡ None
  pub pending : (tx : List ℕ) (q : List (List ℕ)) → IsSecond pairs q → value_at h.pending tx q ≡ None

-- No map holds the text at the key.
pub record HasNoText (k : List (List ℕ)) (text : List ℕ) (h : Held) : Type 0 where
  pub live : get h.live.values k ≡ Some (scalar.Text text) → ⊥
  pub pending : (tx : List ℕ) → value_at h.pending tx k ≡ Some (pending.Put (scalar.Text text)) → ⊥

-- What is held keeps the rules of its types.
pub record IsLawful (h : Held) : Type 0 where
  pub content : IsContent h.live
  pub waiting : IsPending h.pending
  pub rises : IsRising h.live.weak

-- A rename to such keys that is not refused is taken back whole by the way back.
abbrev pub RenamesBack : Type 0
RenamesBack = (pairs : Vec (List (List ℕ) × List (List ℕ)) Global) (h g : Held) → IsLawful h → AreNew pairs.items h
    → forward_of (RenameSettings pairs) h ≡ Ok g → backward_of (RenameSettings pairs) g ≡ Ok h

-- A replaced string, where no map held the new one at the key, is taken back whole by the way back.
abbrev pub ReplacesBack : Type 0
ReplacesBack = (k : List (List ℕ)) (old new : List ℕ) (h g : Held) → IsLawful h → HasNoText k new h → forward_of (ReplaceString k old new) h ≡ Ok g
    → backward_of (ReplaceString k old new) g ≡ Ok h
