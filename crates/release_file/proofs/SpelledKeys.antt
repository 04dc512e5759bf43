-- Lists of texts that spell keys of settings.
use Rattle.std.proofs.Common.{◌≡◌, ◌<◌, ◌≤◌, ◌+◌, ℕ, zero, suc, List, [], ◌∷◌, ◌++◌, length, get_or, take, Some, sym, ◌∙◌, ap, subst, arith}
use Rattle.std.proofs.lemmas.List.{take_more, take_all}
use Rattle.toml.specs.Data.{Members}
use Rattle.release_file.specs.Fields.{text_at, texts_at, HasKey, HasKeys, SpellsSetting, SpellSettings}

push : (least : ℕ) (ts : List (List ℕ)) (ks : List (List (List ℕ))) (t : List ℕ) (k : List (List ℕ)) → SpellSettings least ts ks → SpellsSetting least t k
    → SpellSettings least (ts ++ t ∷ []) (ks ++ k ∷ [])
push least [] [] t k all one = (one, tt)
push least [] (l ∷ ks) t k all one = absurd all
push least (s ∷ ts) [] t k all one = absurd all
push least (s ∷ ts) (l ∷ ks) t k all one = (all.0, push least ts ks t k all.1 one)

-- One text more spells a key.
pub one_spelled : (least : ℕ) (ts : List (List ℕ)) (ks more : List (List (List ℕ))) (i : ℕ) (t : List ℕ) (k : List (List ℕ)) → i < length ts → t ≡ get_or ts i t
    → more ≡ ks ++ k ∷ [] → SpellsSetting least t k → SpellSettings least (take i ts) ks → SpellSettings least (take (i + 1) ts) more
one_spelled least ts ks more i t k within next is one so_far =
    subst (SpellSettings least (take (i + 1) ts)) (sym is)
    (subst (λ (l : List (List ℕ)). SpellSettings least l (ks ++ k ∷ [])) (ap (λ (x : List ℕ). take i ts ++ x ∷ []) next ∙ sym (take_more ts i t within))
    (push least (take i ts) ks t k so_far one))

-- All texts spell keys.
pub all_spelled : (least : ℕ) (ts : List (List ℕ)) (ks : List (List (List ℕ))) (i : ℕ) → length ts ≤ i → SpellSettings least (take i ts) ks
    → SpellSettings least ts ks
all_spelled least ts ks i all so_far = subst (λ (l : List (List ℕ)). SpellSettings least l ks) (take_all i ts all) so_far

-- Where one text spells none, not all do.
pub none_spelled : (least : ℕ) (ts : List (List ℕ)) (ks : List (List (List ℕ))) (i : ℕ) (t : List ℕ) → i < length ts → t ≡ get_or ts i t
    → ((k : List (List ℕ)) → SpellsSetting least t k → ⊥) → SpellSettings least ts ks → ⊥
none_spelled least [] ks i t within next none all = omega (arith, within)
none_spelled least (s ∷ ts) [] i t within next none all = all
none_spelled least (s ∷ ts) (k ∷ ks) zero t within next none all = none k (subst (λ (x : List ℕ). SpellsSetting least x k) (sym next) all.0)
none_spelled least (s ∷ ts) (k ∷ ks) (suc i) t within next none all = none_spelled least ts ks i t (omega (arith, within)) next none all.1

same_long : (least : ℕ) (ts : List (List ℕ)) (ks : List (List (List ℕ))) → SpellSettings least ts ks → length ts ≡ length ks
same_long least [] [] all = omega arith
same_long least [] (k ∷ ks) all = absurd all
same_long least (t ∷ ts) [] all = absurd all
same_long least (t ∷ ts) (k ∷ ks) all = omega (arith, same_long least ts ks all.1)

pub ruleset keys = (one_spelled, all_spelled, none_spelled)

-- ---- fields

module _ (least : ℕ) (name : List ℕ) (ms : Members) where
  some_same : {T : Type 0} (x y : T) → Some x ≡ Some y → x ≡ y
  some_same x y e = cc

  -- A field has as many keys in each reading.
  pub same_size : (keys other : List (List (List ℕ))) → HasKeys least name ms keys → HasKeys least name ms other → length keys ≡ length other
  same_size keys other one two =
      let same : length one.texts ≡ length two.texts = ap length (some_same one.texts two.texts (sym one.at ∙ two.at)) in
      omega (arith, same, same_long least one.texts keys one.spelled, same_long least two.texts other two.spelled)

  -- A field that is no such key.
  pub no_key : (text : List ℕ) → Some text ≡ text_at name ms → ((key : List (List ℕ)) → SpellsSetting least text key → ⊥) → (key : List (List ℕ))
      → HasKey least name ms key → ⊥
  no_key text is none key has = none key (subst (λ (t : List ℕ). SpellsSetting least t key) (some_same has.text text (sym has.at ∙ sym is)) has.spelled)

  pub no_keys : (texts : List (List ℕ)) → Some texts ≡ texts_at name ms → ((keys : List (List (List ℕ))) → SpellSettings least texts keys → ⊥)
      → (keys : List (List (List ℕ))) → HasKeys least name ms keys → ⊥
  no_keys texts is none keys has = none keys (subst (λ (t : List (List ℕ)). SpellSettings least t keys) (some_same has.texts texts (sym has.at ∙ sym is))
      has.spelled)
