-- The values that queries give, from what the code saw of them.
use Rattle.std.proofs.Common.{◌≡◌, ℕ, ◌<◌, ◌≤◌, false, List, [], ◌∷◌, length, map, get_or, Bor, inl}
use Rattle.std.proofs.Common.{inr, refl, ap, ◌∙◌, arith, Option, Some, None, IfSome, Result, Ok, Err, String, IfOk}
use Rattle.std.specs.Prelude.{IfNone}
use Rattle.std.specs.Global.{Global}
use Rattle.std.specs.List.{list_all}
use Rattle.std.proofs.lemmas.List.Folds.{list_all-map, list_all_at}
use Rattle.settings_maps.specs.TxName.{is_meta_name}
use Rattle.api_http.specs.Query.{Pair, texts, HasSeveral}
use Rattle.settings_machine.specs.Requests as machine
use Rattle.api_http.specs.Spelled.{GivesKeysOrPrefix, by_keys, by_prefix, IsGivenEither}

-- what follows from three facts on the value of an `Ok`
pub if_all : {T E : Type 0} (r : Result T E) (P Q R S : T → Type 0) → ((v : T) → P v → Q v → R v → S v) → IfOk r P → IfOk r Q → IfOk r R → IfOk r S
if_all (Ok v) P Q R S more p q s = more v p q s
if_all (Err e) P Q R S more p q s = tt

-- what follows from the value of a `Some`
pub if_some : {T : Type 0} (o : Option T) (P Q : T → Type 0) → ((v : T) → P v → Q v) → IfSome o P → IfSome o Q
if_some (Some v) P Q more p = more v p
if_some None P Q more p = tt

-- what follows where there is no value
pub if_none : {T : Type 0} (o : Option T) (P Q : Type 0) → (P → Q) → IfNone o P → IfNone o Q
if_none (Some v) P Q more p = tt
if_none None P Q more p = more p

-- two texts or more are several pairs
pub two_texts : (pairs : List (String Global × String Global)) → 2 ≤ length pairs → HasSeveral (texts pairs)
two_texts [] h = absurd (omega arith)
two_texts (p ∷ []) h = absurd (omega arith)
two_texts (p ∷ q ∷ ps) h = (_, _, _, refl)

-- a piece that is no name spoils the list
pub no_name : (pieces : List (Bor (List ℕ))) (i : ℕ) (d : Bor (List ℕ)) → i < length pieces → is_meta_name (get_or pieces i d).now ≡ false
    → list_all is_meta_name (map (λ p. p.now) pieces) ≡ false
no_name pieces i d within bad = list_all-map is_meta_name (λ p. p.now) pieces ∙ list_all_at (λ p. is_meta_name p.now) pieces i d within bad

-- the one pair gives the keys or the prefix
pub either_given : (pairs : List Pair) (name value : List ℕ) (q : machine.Request) → pairs ≡ (name, value) ∷ [] → IsGivenEither name value q
    → GivesKeysOrPrefix pairs q
either_given pairs name value q is (inl (listed, named, lists, q_is)) =
    rw q_is (by_keys listed (record { value = value; given = is ∙ ap (λ n. (n, value) ∷ []) named; lists = lists }))
either_given pairs name value q is (inr (key, named, spells, q_is)) =
    rw q_is (by_prefix value key (is ∙ ap (λ n. (n, value) ∷ []) named) spells)
