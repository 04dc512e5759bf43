-- The file that tells the format.
use Rattle.std.proofs.Common.{arith, ◌≡◌, ℕ, List, [], ◌∷◌, length, get_or, codes, Option, Some, None}
use Rattle.std.proofs.Common.{IsSome, Bool, true, false, cond, inl, inr, refl, sym, ap, ◌∙◌, subst}
use Rattle.std.specs.Prelude.{IsTrue}
use Rattle.std.specs.Str.{bytes_eq}
use Rattle.std.proofs.lemmas.Bool.{false≢true}
use Rattle.std.proofs.lemmas.Slice.Eq.{bytes_eq-Decides}
use Rattle.outside.specs.Names.{Names}
use Rattle.outside.specs.Tree.{Node, file}
use Rattle.outside.proofs.Trees.{path_cases}
use Rattle.commit_journal.specs.Files.{Files, with_node}
use Rattle.commit_journal.proofs.Laid.{with_node_here, with_node_other}
use Rattle.settings_tree.specs.Change.{Place}
use Rattle.fs_datastore.specs.Places.{path_of, is_place, format_path}
use Rattle.fs_datastore.specs.Stands.{IsFileOf}
use Rattle.fs_datastore.specs.Damage.{format}
use Rattle.fs_datastore.specs.FoundFiles.{what_found, Says, Reads}
use Rattle.fs_datastore.specs.declared.found.Found.{Found}
use Rattle.fs_datastore.proofs.Places.{no_format}
use Rattle.fs_datastore.proofs.Showing.{other_path}

module _ (f : Found) (others : Files) (bytes : List ℕ) (says : Says others f) where
  more : Files
  more = with_node others format_path (Some (file bytes))

  apart : (p : Place) → more (path_of p) ≡ others (path_of p)
  unfolding more
  apart p = with_node_other others format_path (Some (file bytes)) (path_of p) (other_path (path_of p) format_path (no_format p))

  -- it is read
  pub format_read : bytes ≡ codes "2" → Says (with_node others format_path (Some (file bytes))) (record f { told = true })
  unfolding more
  format_read is = record {
    shows = record {
      named = λ name rest there. elim (path_cases (name ∷ rest) format_path) [
        | inl here ↦ inl here
        | inr other ↦ says.shows.named name rest (subst IsSome (with_node_other others format_path (Some (file bytes)) (name ∷ rest) other) there)
      ];
      places = λ p. subst (λ (n : Option Node). IsFileOf (what_found f p) n) (ap (λ (n : Option Node). cond (is_place p) n None) (sym (apart p)))
          (says.shows.places p);
      format = with_node_here others format_path (Some (file bytes)) format_path refl ∙ ap (λ (b : List ℕ). Some (file b)) is;
    };
    rules = record { free = says.rules.free; full = says.rules.full; named = says.rules.named; pending = says.rules.pending; weak = says.rules.weak };
  }

pub format_answer : (f : Found) (bytes : List ℕ) (fits : Bool) → fits ≡ bytes_eq bytes (codes "2") → fits ≡ true
    → Reads format_path bytes f (record f { told = true }) fits
format_answer f bytes true is so = (
  (λ rules. record { free = rules.free; full = rules.full; named = rules.named; pending = rules.pending; weak = rules.weak }),
  λ others says. format_read f others bytes says ((bytes_eq-Decides bytes (codes "2")).0 (sym is)),
)
format_answer f bytes false is so = absurd (false≢true so)

first_of : Names → List ℕ
first_of [] = []
first_of (n ∷ names) = n

-- a path of one name
pub one_name : (names : Names) (name : List ℕ) (b : Bool) → length names ≡ 1 → name ≡ get_or names 0 name → b ≡ bytes_eq name (codes "format")
    → (IsTrue b → names ≡ format_path) × (names ≡ format_path → IsTrue b)
unfolding first_of
one_name [] name b one is test = absurd (omega (arith, one))
one_name (n ∷ m ∷ names) name b one is test = absurd (omega (arith, one))
one_name (n ∷ []) name b one is test = (
  (λ yes. ap (λ (l : List ℕ). l ∷ []) (sym is ∙ (bytes_eq-Decides name (codes "format")).0 (sym test ∙ yes))),
  (λ same. test ∙ (bytes_eq-Decides name (codes "format")).1 (is ∙ ap first_of same)),
)

pub one_name_of : (names : Names) (name bytes : List ℕ) (b : Bool) → length names ≡ 1 → name ≡ get_or names 0 name → bytes ≡ name
    → b ≡ bytes_eq bytes (codes "format") → (IsTrue b → names ≡ format_path) × (names ≡ format_path → IsTrue b)
one_name_of names name bytes b one is same test = one_name names name b one is (test ∙ ap (λ (l : List ℕ). bytes_eq l (codes "format")) same)
