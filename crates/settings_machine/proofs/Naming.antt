-- A set of names, made one name after another.
use Rattle.std.proofs.Common.{◌≡◌, ℕ, Bool, true, false, cond, List, [], ◌∷◌, refl, sym, ◌∙◌, ap}
use Rattle.std.specs.Prelude.{◌||◌}
use Rattle.std.specs.BTreeSet as tree
use Rattle.std.specs.Ordering.{eq_by_cmp}
use Rattle.key_names.specs.Order.{bytes_cmp, bytes_equal}
use Rattle.metadata_links.specs.Faults.{has_name}
use Rattle.settings_machine.specs.VerifySeen.{HasNames}

-- The set has all of these names but those that are still to come.
pub record HasAndAwaits (names : List (List ℕ)) (set : tree.BTreeSet (List ℕ)) (rest : List (List ℕ)) : Type 0 where
  pub are : (name : List ℕ) → (tree.contains bytes_cmp set name || has_name rest name) ≡ has_name names name

pub none_yet : (names : List (List ℕ)) (set : tree.BTreeSet (List ℕ)) → tree.IsEmpty set → HasAndAwaits names set names
none_yet names set none = record {
  are = λ name. ap (λ (l : List (List ℕ)). has_name l name || has_name names name) none;
}

pub one_more : (names rest : List (List ℕ)) (n : List ℕ) (old new : tree.BTreeSet (List ℕ)) (more : List (List ℕ)) → HasAndAwaits names old more
    → more ≡ n ∷ rest → tree.Updates bytes_cmp old new n true → HasAndAwaits names new rest
one_more names rest n old new more so_far is updates = record {
  are = λ name.
      ap (λ (b : Bool). b || has_name rest name) (updates.0 name ∙ ap (λ (b : Bool). cond b true (tree.contains bytes_cmp old name)) (bytes_equal.symm n name))
      ∙ by (eq_by_cmp bytes_cmp name n) (tree.contains bytes_cmp old name) (has_name rest name)
      ∙ ap (λ (l : List (List ℕ)). tree.contains bytes_cmp old name || has_name l name) (sym is) ∙ so_far.are name;
} where
  by : (same before later : Bool) → (cond same true before || later) ≡ (before || (same || later))
  by true true later = refl
  by true false later = refl
  by false true later = refl
  by false false later = refl

pub all_named : (names : List (List ℕ)) (set : tree.BTreeSet (List ℕ)) (rest : List (List ℕ)) → HasAndAwaits names set rest → rest ≡ [] → HasNames names set
all_named names set rest so_far none name =
    by (tree.contains bytes_cmp set name)
    ∙ ap (λ (l : List (List ℕ)). tree.contains bytes_cmp set name || has_name l name) (sym none) ∙ so_far.are name
  where
    by : (b : Bool) → b ≡ (b || false)
    by true = refl
    by false = refl

pub ruleset naming = (none_yet, one_more, all_named)
