-- The keys that words spell for `set` begin with `settings`.
use Rattle.std.proofs.Common.{◌≡◌, ℕ, IsTrue, List, [], ◌∷◌, codes, All, slice_index_or, refl, sym, subst}
use Rattle.std.proofs.lemmas.List.Elements.{All-nil, All-cons}
use Rattle.key_names.specs.Key.{is_prefix}
use Rattle.json_trees.specs.declared.scalar.Scalar.{Scalar}
use Rattle.settings_tree.specs.Content.{settings_key}
use Rattle.command_words.specs.Orders.{Spells, set}
use Rattle.command_words.specs.Values.{SpellsPair, Each}

begins : (key : List (List ℕ)) → slice_index_or key 0 [] ≡ codes "settings" → IsTrue (is_prefix settings_key key)
begins [] e = absurd (cc e)
begins (s ∷ rest) e = subst (λ (t : List ℕ). IsTrue (is_prefix settings_key (t ∷ rest))) (sym e) refl

each : (texts : List (List ℕ)) (pairs : List (List (List ℕ) × Scalar)) → Each SpellsPair texts pairs
    → All (λ pair. IsTrue (is_prefix settings_key pair.0)) pairs
each [] [] spelled = All-nil (λ (pair : List (List ℕ) × Scalar). IsTrue (is_prefix settings_key pair.0))
each [] (pair ∷ pairs) spelled = absurd spelled
each (text ∷ texts) [] spelled = absurd spelled
each (text ∷ texts) (pair ∷ pairs) spelled = All-cons (λ (pair : List (List ℕ) × Scalar). IsTrue (is_prefix settings_key pair.0)) pair pairs
    (begins pair.0 spelled.0.setting.first) (each texts pairs spelled.1)

-- So it is of each pair.
pub setting_pairs : (words : List (List ℕ)) (pairs : List (List (List ℕ) × Scalar)) → Spells words (set pairs)
    → All (λ pair. IsTrue (is_prefix settings_key pair.0)) pairs
setting_pairs [] pairs spelled = absurd spelled
setting_pairs (word ∷ words) pairs spelled = each _ pairs spelled.1.spelled
