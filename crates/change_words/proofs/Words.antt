-- Words say one tree of changes at most, and one body says it.
use Rattle.std.proofs.Common.{◌≡◌, ◌≢◌, ◌==◌, ℕ, length, String, Global, List, [], ◌∷◌, Bool, true}
use Rattle.std.proofs.Common.{false, take, refl, sym, ap, ◌∙◌, subst, Option, Some, None, Result, Ok, Err}
use Rattle.std.specs.Prelude.{codes, IfOk, MatchOption}
use Rattle.std.specs.List.Sorted.{IsPermutation}
use Rattle.std.specs.List.{All}
use Rattle.std.specs.Map.{keys_of}
use Rattle.std.proofs.lemmas.Bool.{both_ways}
use Rattle.key_names.proofs.OneReading.{one_key}
use Rattle.outside.specs.Spawner.{texts}
use Rattle.json_trees.specs.Nested.{NestsAs, FlattensBack}
use Rattle.json_trees.specs.Scalar.{scalar_read}
use Rattle.json_trees.specs.Tree.{Path, pending_leaf, pending_data}
use Rattle.json_trees.specs.declared.pending.Pending.{Pending}
use Rattle.json_trees.specs.declared.pending.Pending.TheVariants.{Put}
use Rattle.json_trees.specs.declared.scalar.Scalar.{Scalar}
use Rattle.json_trees.specs.declared.scalar.Scalar.TheVariants as scalar
use Rattle.command_words.specs.Values.{Each, SpellsSetting}
use Rattle.command_words.proofs.Lists.{Each-one}
use Rattle.command_words.proofs.Pairs.{one_pair, one_split}
use Rattle.change_words.specs.Said.{Change, spells, is_tree, IsBody, Says}
use Rattle.change_words.specs.declared.form.Form.{Form}
use Rattle.change_words.specs.declared.form.Form.TheVariants.{Values, Texts, Removals}

same_change : (a b : Change) → a.0 ≡ b.0 → a.1 ≡ b.1 → a ≡ b
same_change a b keys values = ap (λ (k : Path). let c : Change = (k, a.1) in c) keys ∙ ap (λ (v : Pending). let c : Change = (b.0, v) in c) values

-- a word says one change at most
pub one_change : (form : Form) (word : List ℕ) (a b : Change) → spells form word a → spells form word b → a ≡ b
one_change Values word a b x y =
    let same = one_pair word (a.0, x.value) (b.0, y.value) x.pair y.pair in
    same_change a b (ap (λ (p : Path × Scalar). p.0) same) (x.put ∙ ap (λ (p : Path × Scalar). Put p.1) same ∙ sym y.put)
one_change Texts word a b x y =
    let same = one_split word x.key x.text y.key y.text x.splits y.splits in
    same_change a b (one_key (subst (λ (k : List ℕ). SpellsSetting k a.0) same.0 x.setting).spells y.setting.spells)
    (x.put ∙ ap (λ (t : List ℕ). Put (scalar.Text t)) same.1 ∙ sym y.put)
one_change Removals word a b x y = same_change a b (one_key x.setting.spells y.setting.spells) (x.gone ∙ sym y.gone)

-- the body of changes in their order
pub is_body : {E : Type 0} (changes sorted lent : List Change) (r : Result (List ℕ) E) → lent ≡ sorted → IsPermutation changes sorted
    → All (λ (k : Path). take 1 k ≡ codes "settings" ∷ []) (keys_of sorted) → IfOk r (NestsAs pending_data 1 lent) → IfOk r (FlattensBack pending_leaf 1 lent)
    → IfOk r (IsBody changes)
is_body changes sorted lent (Err e) same moved below nests back = tt
is_body changes sorted lent (Ok text) same moved below nests back = record {
  rising = lent;
  same = subst (λ (cs : List Change). IsPermutation changes cs) (sym same) moved;
  nests = nests;
  reads_back = back (codes "settings" ∷ []) (subst (λ (cs : List Change). All (λ (k : Path). take 1 k ≡ codes "settings" ∷ []) (keys_of cs)) (sym same) below);
}

-- words that say changes say the body for them, or none
pub says : {E : Type 0} (form : Form) (words : List (List ℕ)) (changes : List Change) (r : Result (Option (List ℕ)) E)
    → words ≢ [] → Each (spells form) words changes
    → IfOk r (λ o. MatchOption o (is_tree changes ≡ false) (λ body. (is_tree changes ≡ true) × IsBody changes body))
    → IfOk r (λ o. MatchOption o ((body : List ℕ) → Says form words body → ⊥) (Says form words))
says form words changes (Err e) some each body = tt
says form words changes (Ok None) some each body = λ text said.
    let same = Each-one (spells form) (one_change form) words said.changes changes said.each each in
    both_ways (is_tree changes) body (ap is_tree (sym same) ∙ said.tree)
says form words changes (Ok (Some text)) some each body = record { some = some; changes = changes; each = each; tree = body.0; is_body = body.1 }

-- a list that isn't empty has a word
pub some_words : (words : List (String Global)) (empty : Bool) → empty ≡ (length words == 0) → empty ≡ false → texts words ≢ []
some_words [] empty is not = λ e. both_ways empty not is
some_words (word ∷ words) empty is not = λ e. cc
