-- The first word of an order is that of its verb, or a method.
use Rattle.std.proofs.Common.{◌≡◌, ℕ, Bool, true, false, ◌||◌, ◌&&◌, List, [], ◌∷◌, Option, Some, None, refl, sym, ap, ◌∙◌, subst}
use Rattle.std.specs.Prelude.{codes, Result, Ok, Err, IfOk, MatchOption}
use Rattle.std.specs.Str.{bytes_eq}
use Rattle.std.proofs.lemmas.Bool.{false≢true}
use Rattle.std.proofs.lemmas.Slice.Eq.{bytes_eq-Decides}
use Rattle.change_words.specs.Said.{Says}
use Rattle.change_words.specs.declared.form.Form.TheVariants.{Values, Texts, Removals}
use Rattle.host_client.specs.Question.{is_method, is_target, is_body}
use Rattle.host_client.specs.Words.{AsksFor}
use Rattle.host_client.specs.Orders.{Order, Spells, SpellsNone, SaysChanges, values, as_text, SaysSet, changes, removals}
use Rattle.host_client.specs.Orders as order

-- the word begins the order
abbrev is_first : Order → List ℕ → Bool
is_first (order.plain method target body) word = is_method word
is_first (order.get keys) word = bytes_eq word (codes "get")
is_first (order.set body) word = bytes_eq word (codes "set") || bytes_eq word (codes "unset")
is_first (order.edit tx body) word = bytes_eq word (codes "edit")
is_first (order.pending tx) word = bytes_eq word (codes "pending")
is_first (order.discard tx) word = bytes_eq word (codes "drop")
is_first order.transactions word = bytes_eq word (codes "transactions")
is_first (order.commit tx) word = bytes_eq word (codes "commit")
is_first (order.plan tx) word = bytes_eq word (codes "plan")
is_first (order.try_out body) word = bytes_eq word (codes "plan")
is_first (order.show file tx) word = bytes_eq word (codes "show")
is_first (order.apply all) word = bytes_eq word (codes "apply")
is_first (order.wait seconds) word = bytes_eq word (codes "wait")
is_first order.status word = bytes_eq word (codes "status")
is_first order.verify word = bytes_eq word (codes "verify")

head_is : (a b : List ℕ) (k l : List (List ℕ)) → a ∷ k ≡ b ∷ l → bytes_eq a b ≡ true
head_is a b k l e = let same : a ≡ b = cc in (bytes_eq-Decides a b).1 same

rest_is : (a b : List ℕ) (k l : List (List ℕ)) → a ∷ k ≡ b ∷ l → k ≡ l
rest_is a b k l e = cc

either_one : (a b : Bool) → a ≡ true → (a || b) ≡ true
either_one true b e = refl
either_one false b e = absurd (false≢true e)

either_other : (a b : Bool) → b ≡ true → (a || b) ≡ true
either_other true b e = refl
either_other false b e = e

first_one : (a b c : Bool) → (a && b && c) ≡ true → a ≡ true
first_one true b c e = refl
first_one false b c e = absurd (false≢true e)

method_is : (word : List ℕ) (rest : List (List ℕ)) (m t : List ℕ) (b : Option (List ℕ)) → AsksFor (word ∷ rest) m t b → is_method word ≡ true
method_is word rest m t None asks =
    let same : word ≡ m = (let e = asks.spelled in cc) in ap is_method same ∙ first_one (is_method m) (is_target t) (is_body None) asks.sound
method_is word rest m t (Some b) asks =
    let same : word ≡ m = (let e = asks.spelled in cc) in ap is_method same ∙ first_one (is_method m) (is_target t) (is_body (Some b)) asks.sound

-- what spells an order begins with its word
pub first_is : (word : List ℕ) (rest : List (List ℕ)) (order : Order) → Spells (word ∷ rest) order → is_first order word ≡ true
first_is word rest (order.plain m t b) said = method_is word rest m t b said
first_is word rest (order.get keys) said = head_is word (codes "get") rest keys said
first_is word rest (order.set body) (changes more e says) = either_one _ _ (head_is word (codes "set") rest more e)
first_is word rest (order.set body) (removals keys e says) = either_other _ _ (head_is word (codes "unset") rest keys e)
first_is word rest (order.edit tx body) said = head_is word (codes "edit") rest (tx ∷ said.0) said.1
first_is word rest (order.pending None) said = head_is word (codes "pending") rest [] said
first_is word rest (order.pending (Some tx)) said = head_is word (codes "pending") rest (tx ∷ []) said
first_is word rest (order.discard tx) said = head_is word (codes "drop") rest (tx ∷ []) said
first_is word rest order.transactions said = head_is word (codes "transactions") rest [] said
first_is word rest (order.commit tx) said = head_is word (codes "commit") rest (tx ∷ []) said
first_is word rest (order.plan None) said = head_is word (codes "plan") rest [] said
first_is word rest (order.plan (Some tx)) said = head_is word (codes "plan") rest (tx ∷ []) said.0
first_is word rest (order.try_out body) said = head_is word (codes "plan") rest said.0 said.1
first_is word rest (order.show file None) said = head_is word (codes "show") rest (file ∷ []) said
first_is word rest (order.show file (Some tx)) said = head_is word (codes "show") rest (file ∷ tx ∷ []) said
first_is word rest (order.apply false) said = head_is word (codes "apply") rest [] said
first_is word rest (order.apply true) said = head_is word (codes "apply") rest (codes "--all" ∷ []) said
first_is word rest (order.wait None) said = head_is word (codes "wait") rest [] said
first_is word rest (order.wait (Some seconds)) said = head_is word (codes "wait") rest (said.0 ∷ []) said.1
first_is word rest order.status said = head_is word (codes "status") rest [] said
first_is word rest order.verify said = head_is word (codes "verify") rest [] said

-- ---- words that say no changes

pub set_none : (rest : List (List ℕ)) → ((body : List ℕ) → SaysChanges rest body → ⊥) → SpellsNone (codes "set" ∷ rest)
set_none rest none (order.set body) (changes more e says) = none body (subst (λ (ws : List (List ℕ)). SaysChanges ws body) (sym (rest_is _ _ rest more e)) says)
set_none rest none (order.set body) (removals keys e says) = false≢true (head_is (codes "set") (codes "unset") rest keys e)
set_none rest none other said = false≢true (first_is (codes "set") rest other said)

pub unset_none : (rest : List (List ℕ)) → ((body : List ℕ) → Says Removals rest body → ⊥) → SpellsNone (codes "unset" ∷ rest)
unset_none rest none (order.set body) (changes more e says) = false≢true (head_is (codes "unset") (codes "set") rest more e)
unset_none rest none (order.set body) (removals keys e says) = none body
    (subst (λ (ws : List (List ℕ)). Says Removals ws body) (sym (rest_is _ _ rest keys e)) says)
unset_none rest none other said = false≢true (first_is (codes "unset") rest other said)

pub edit_none : (tx : List ℕ) (rest : List (List ℕ)) → ((body : List ℕ) → SaysChanges rest body → ⊥) → SpellsNone (codes "edit" ∷ tx ∷ rest)
edit_none tx rest none (order.edit other body) said =
    let tail = rest_is _ _ (tx ∷ rest) (other ∷ said.0) said.1 in
    none body (subst (λ (ws : List (List ℕ)). SaysChanges ws body) (sym (rest_is tx other rest said.0 tail)) said.2)
edit_none tx rest none other said = false≢true (first_is (codes "edit") (tx ∷ rest) other said)

-- after `plan` there is no transaction and there are no changes
pub plan_none : (rest : List (List ℕ)) → ((body : List ℕ) → SaysChanges rest body → ⊥) → (rest ≡ [] → ⊥) → ((tx : List ℕ) → rest ≡ tx ∷ [] → ⊥)
    → SpellsNone (codes "plan" ∷ rest)
plan_none rest none some more (order.plan None) said = some (rest_is _ _ rest [] said)
plan_none rest none some more (order.plan (Some tx)) said = more tx (rest_is _ _ rest (tx ∷ []) said.0)
plan_none rest none some more (order.try_out body) said =
    none body (subst (λ (ws : List (List ℕ)). SaysChanges ws body) (sym (rest_is _ _ rest said.0 said.1)) said.2)
plan_none rest none some more other said = false≢true (first_is (codes "plan") rest other said)

-- ---- words that say changes

module _ {E : Type 0} (r : Result (Option (List ℕ)) E) where
  -- after `--text` the pairs say texts
  pub texts_said : (word : List ℕ) (pairs words : List (List ℕ)) → words ≡ word ∷ pairs → word ≡ codes "--text"
      → IfOk r (λ o. MatchOption o ((body : List ℕ) → Says Texts pairs body → ⊥) (Says Texts pairs))
      → IfOk r (λ o. MatchOption o ((others : List (List ℕ)) (body : List ℕ) → words ≡ codes "--text" ∷ others → Says Texts others body → ⊥)
      (SaysChanges words))
  texts_said word pairs words is first said = by r said
    where
      by : (r : Result (Option (List ℕ)) E) → IfOk r (λ o. MatchOption o ((body : List ℕ) → Says Texts pairs body → ⊥) (Says Texts pairs))
          → IfOk r (λ o. MatchOption o ((others : List (List ℕ)) (body : List ℕ) → words ≡ codes "--text" ∷ others → Says Texts others body → ⊥)
          (SaysChanges words))
      by (Err e) said = tt
      by (Ok None) said = λ others body same says. said body
          (subst (λ (ws : List (List ℕ)). Says Texts ws body) (rest_is _ _ others pairs (sym same ∙ is)) says)
      by (Ok (Some body)) said = as_text pairs (is ∙ ap (λ (w : List ℕ). w ∷ pairs) first) said

module _ {E : Type 0} (r : Result (Option (List ℕ)) E) where
  -- words that say no values say changes as texts, or none
  pub changes_said : (words : List (List ℕ)) → ((body : List ℕ) → Says Values words body → ⊥)
      → IfOk r (λ o. MatchOption o ((others : List (List ℕ)) (body : List ℕ) → words ≡ codes "--text" ∷ others → Says Texts others body → ⊥)
      (SaysChanges words))
      → IfOk r (λ o. MatchOption o ((body : List ℕ) → SaysChanges words body → ⊥) (SaysChanges words))
  changes_said words none said = by r said
    where
      neither : (body : List ℕ) → ((others : List (List ℕ)) (body : List ℕ) → words ≡ codes "--text" ∷ others → Says Texts others body → ⊥)
          → SaysChanges words body → ⊥
      neither body texts (values says) = none body says
      neither body texts (as_text pairs is says) = texts pairs body is says

      by : (r : Result (Option (List ℕ)) E)
          → IfOk r (λ o. MatchOption o ((others : List (List ℕ)) (body : List ℕ) → words ≡ codes "--text" ∷ others → Says Texts others body → ⊥)
          (SaysChanges words))
          → IfOk r (λ o. MatchOption o ((body : List ℕ) → SaysChanges words body → ⊥) (SaysChanges words))
      by (Err e) said = tt
      by (Ok None) said = λ body says. neither body said says
      by (Ok (Some body)) said = said
