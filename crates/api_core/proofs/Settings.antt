-- Which live settings begin with a key.
use Rattle.std.proofs.Common.{arith, ◌≡◌, ◌<◌, ⊎_elim, length, List, [], ◌∷◌, Bool, true, false, cond, filter, refl, sym, ◌∙◌, ap}
use Rattle.std.specs.FinMap.{entries}
use Rattle.std.proofs.lemmas.Bool.{cases_Bool}
use Rattle.key_names.specs.Key.{is_prefix, is_key}
use Rattle.settings_tree.specs.Content.{settings_key}
use Rattle.settings_tree.specs.Walks.{entries_below}
use Rattle.settings_machine.specs.World.{Key}
use Rattle.settings_machine.specs.Opening.{Values}
use Rattle.settings_machine.specs.Answers.{settings_where}
use Rattle.key_names.proofs.Prefixes.{behind}

module _ {E : Type 0} (p q : E → Bool) where
  one_more : (e : E) (es : List E) → (q e ≡ true → p e ≡ true) → filter q (filter p es) ≡ filter q es → filter q (filter p (e ∷ es)) ≡ filter q (e ∷ es)
  one_more e es more rest = by (p e) (q e) refl refl where
    by : (a b : Bool) → p e ≡ a → q e ≡ b → filter q (cond a (e ∷ filter p es) (filter p es)) ≡ cond b (e ∷ filter q es) (filter q es)
    by true true is_p is_q = ap (λ c. cond c (e ∷ filter q (filter p es)) (filter q (filter p es))) is_q ∙ ap (λ (l : List E). e ∷ l) rest
    by true false is_p is_q = ap (λ c. cond c (e ∷ filter q (filter p es)) (filter q (filter p es))) is_q ∙ rest
    by false true is_p is_q = absurd (cc (more is_q, is_p))
    by false false is_p is_q = rest

  -- What passes a second test passes the first.
  pub filter_more : ((e : E) → q e ≡ true → p e ≡ true) → (es : List E) → filter q (filter p es) ≡ filter q es
  filter_more more [] = refl
  filter_more more (e ∷ es) = one_more e es (more e) (filter_more more es)

  one_none : (e : E) (es : List E) → (p e ≡ true → q e ≡ false) → filter q (filter p es) ≡ [] → filter q (filter p (e ∷ es)) ≡ []
  one_none e es apart rest = by (p e) refl where
    by : (a : Bool) → p e ≡ a → filter q (cond a (e ∷ filter p es) (filter p es)) ≡ []
    by true is_p = ap (λ c. cond c (e ∷ filter q (filter p es)) (filter q (filter p es))) (apart is_p) ∙ rest
    by false is_p = rest

  -- What passes one test passes not the other.
  pub filter_none : ((e : E) → p e ≡ true → q e ≡ false) → (es : List E) → filter q (filter p es) ≡ []
  filter_none apart [] = refl
  filter_none apart (e ∷ es) = one_none e es (apart e) (filter_none apart es)

-- What begins with a key begins with `settings` where the key does.
settings_begin : (p k : Key) → 0 < length p → is_prefix p k ≡ true → is_prefix settings_key k ≡ is_prefix settings_key p
settings_begin [] k some begins = absurd (omega (arith, some))
settings_begin (a ∷ p) k some begins = let b = behind (a ∷ p) k begins in ap (is_prefix settings_key) b.1

module _ (values : Values) (p : Key) (some : 0 < length p) where
  -- The settings below a setting are the values below it,
  pub below_setting : is_prefix settings_key p ≡ true → entries_below values p ≡ settings_where (is_prefix p) values
  below_setting setting =
      sym (filter_more (λ e. is_prefix settings_key e.0) (λ e. is_prefix p e.0) (λ e begins. settings_begin p e.0 some begins ∙ setting) (entries values))

  -- and below another key there are none.
  pub below_other : is_prefix settings_key p ≡ false → settings_where (is_prefix p) values ≡ []
  below_other other = filter_none (λ e. is_prefix settings_key e.0) (λ e. is_prefix p e.0)
      (λ e setting. ⊎_elim (λ begins. absurd (cc (settings_begin p e.0 some begins, setting, other))) (λ none. none) (cases_Bool (is_prefix p e.0)))
      (entries values)

-- A key has a segment.
pub key_some : (key : Key) → is_key key ≡ true → 0 < length key
key_some [] valid = absurd (cc valid)
key_some (a ∷ key) valid = omega arith
