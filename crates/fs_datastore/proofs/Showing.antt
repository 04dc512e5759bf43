-- Files that show values: one more file, and values that are alike.
use Rattle.std.proofs.Common.{◌≡◌, ℕ, List, ◌∷◌, Option, None, IsSome, Bool, true, false, cond, inl, inr, refl, sym, ap, ◌∙◌, subst}
use Rattle.std.specs.Prelude.{IsTrue}
use Rattle.std.specs.Ordering.{eq_by_cmp}
use Rattle.std.proofs.lemmas.Bool.{false≢true}
use Rattle.outside.specs.Names.{Names, path_cmp}
use Rattle.outside.specs.Tree.{Node}
use Rattle.outside.proofs.Trees.{path_cases}
use Rattle.commit_journal.specs.Files.{Files, with_node}
use Rattle.commit_journal.proofs.Laid.{with_node_here, with_node_other}
use Rattle.settings_tree.specs.Change.{Place, is_same}
use Rattle.settings_tree.specs.Change.{Live, Meta, Pend, TheOwed, TheImage, TheWeak}
use Rattle.fs_datastore.specs.Places.{path_of, is_place, format_path}
use Rattle.fs_datastore.specs.Values.{Value}
use Rattle.fs_datastore.specs.Stands.{node_of, IsFileOf, Shows}
use Rattle.fs_datastore.specs.Batches.{with_value}
use Rattle.fs_datastore.proofs.Places.{one_place, no_format, place_cases, same_itself}

-- a path that is not this one
pub other_path : (p q : Names) → (p ≡ q → ⊥) → eq_by_cmp path_cmp p q ≡ false
other_path p q apart = elim (path_cases p q) [ inl is ↦ absurd (apart is) | inr is ↦ is ]

-- a place of which this is a test has its path
pub node_there : (files : Files) (p : Place) → IsTrue (is_place p) → node_of files p ≡ files (path_of p)
node_there files p valid = ap (λ (b : Bool). cond b (files (path_of p)) None) valid

module _ (files : Files) (p : Place) (valid : IsTrue (is_place p)) (node : Option Node) where
  abbrev more : Files
  more = with_node files (path_of p) node

  -- the node of the place
  pub node_here : node_of more p ≡ node
  node_here = node_there more p valid ∙ with_node_here files (path_of p) node (path_of p) refl

  -- the nodes of the others
  pub node_other : (q : Place) → is_same q p ≡ false → node_of more q ≡ node_of files q
  node_other q apart = by (is_place q) refl where
    by : (b : Bool) → is_place q ≡ b → cond b (more (path_of q)) None ≡ cond b (files (path_of q)) None
    by false is = refl
    by true is = with_node_other files (path_of p) node (path_of q) (other_path (path_of q) (path_of p)
        (λ same. false≢true (sym apart ∙ ap (λ (r : Place). is_same r p) (one_place q p is valid same) ∙ same_itself p)))

  -- files with one more, which is that of a value, or without it
  pub shows_with : (what : Place → Option Value) (told : Bool) (value : Option Value) → Shows files what told → IsFileOf value node
      → Shows more (with_value what p value) told
  shows_with what told value shows is = record {
    named = λ name rest there. elim (path_cases (name ∷ rest) (path_of p)) [
      | inl here ↦ inr (p, valid, here)
      | inr apart ↦ shows.named name rest (subst IsSome (with_node_other files (path_of p) node (name ∷ rest) apart) there)
    ];
    places = λ q. elim (place_cases q p) [
      | inl same ↦ here q same.0 same.1
      | inr apart ↦ there q apart
    ];
    format = with_node_other files (path_of p) node format_path (other_path format_path (path_of p) (λ same. no_format p (sym same))) ∙ shows.format;
  }
    where
      here : (q : Place) → q ≡ p → is_same q p ≡ true → IsFileOf (with_value what p value q) (node_of more q)
      here q same is_one =
          subst (λ (v : Option Value). IsFileOf v (node_of more q)) (sym (ap (λ (b : Bool). cond b value (what q)) is_one))
          (subst (λ (n : Option Node). IsFileOf value n) (sym (ap (node_of more) same ∙ node_here)) is)

      there : (q : Place) → is_same q p ≡ false → IsFileOf (with_value what p value q) (node_of more q)
      there q apart =
          subst (λ (v : Option Value). IsFileOf v (node_of more q)) (sym (ap (λ (b : Bool). cond b value (what q)) apart))
          (subst (λ (n : Option Node). IsFileOf (what q) n) (sym (node_other q apart)) (shows.places q))

-- values that are alike are shown alike
pub shows_alike : (files : Files) (what other : Place → Option Value) (told : Bool) → ((p : Place) → what p ≡ other p) → Shows files what told
    → Shows files other told
shows_alike files what other told same shows = record {
  named = shows.named;
  places = λ p. subst (λ (v : Option Value). IsFileOf v (node_of files p)) (same p) (shows.places p);
  format = shows.format;
}

-- so are files that are alike below the directory
pub shows_below : (files others : Files) (what : Place → Option Value) (told : Bool)
    → ((name : List ℕ) (rest : Names) → files (name ∷ rest) ≡ others (name ∷ rest)) → Shows files what told → Shows others what told
shows_below files others what told same shows = record {
  named = λ name rest there. shows.named name rest (subst IsSome (sym (same name rest)) there);
  places = λ p. subst (λ (n : Option Node). IsFileOf (what p) n) (nodes p) (shows.places p);
  format = sym (same _ _) ∙ shows.format;
}
  where
    at : (p : Place) → files (path_of p) ≡ others (path_of p)
    at (Live key) = same _ _
    at (Meta key name) = same _ _
    at (Pend tx key) = same _ _
    at TheOwed = same _ _
    at TheImage = same _ _
    at TheWeak = same _ _

    nodes : (p : Place) → node_of files p ≡ node_of others p
    nodes p = ap (λ (n : Option Node). cond (is_place p) n None) (at p)
