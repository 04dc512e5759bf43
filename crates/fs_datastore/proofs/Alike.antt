-- Files that are alike represent the same, and have no journal where they represent something.
use Rattle.std.proofs.Common.{◌≡◌, inl, inr, ℕ, [], ◌∷◌, codes, cond, Option, Some, None, IsSome, refl, sym, ◌∙◌, ap, subst, arith}
use Rattle.outside.specs.Names.{Names}
use Rattle.outside.specs.Tree.{Node}
use Rattle.commit_journal.specs.Files.{Files}
use Rattle.commit_journal.specs.Stands.{journal}
use Rattle.settings_tree.specs.Change.{Place, Live, Meta, Pend, TheOwed, TheImage, TheWeak}
use Rattle.fs_datastore.specs.Laws.{AreAlike, StandAlike, StandsWithoutJournal}
use Rattle.fs_datastore.specs.Places.{path_of, is_place, IsNamed}
use Rattle.fs_datastore.specs.Stands.{IsFileOf}
use Rattle.fs_datastore.specs.Values.{value_in}

-- They have the same at the path of a place.
at_place : (one other : Files) → AreAlike one other → (p : Place) → one (path_of p) ≡ other (path_of p)
at_place one other same (Live k) = same _ _
at_place one other same (Meta k n) = same _ _
at_place one other same (Pend t k) = same _ _
at_place one other same TheOwed = same _ _
at_place one other same TheImage = same _ _
at_place one other same TheWeak = same _ _

-- They represent the same.
pub stand_alike : StandAlike
stand_alike one other held format same s = record {
  told = s.told;
  listed = s.listed;
  shows = record {
    named = λ name rest there. s.shows.named name rest (subst IsSome (sym (same name rest)) there);
    places = λ p. subst (IsFileOf (value_in held s.listed p)) (ap (λ (n : Option Node). cond (is_place p) n None) (at_place one other same p))
        (s.shows.places p);
    format = sym (same _ _) ∙ s.shows.format;
  };
  format_is = s.format_is;
  weak_is = s.weak_is;
  content = s.content;
  pending = s.pending;
}

-- The first byte of a path.
first_byte : Names → ℕ
first_byte [] = 0
first_byte ([] ∷ names) = 0
first_byte ((b ∷ bs) ∷ names) = b

-- The journal's path is that of no place.
no_place : (p : Place) → journal ≡ path_of p → ⊥
unfolding first_byte
no_place (Live k) is = let same : ◌≡◌ {A = ℕ} 106 108 = ap first_byte is in absurd (omega arith)
no_place (Meta k n) is = let same : ◌≡◌ {A = ℕ} 106 108 = ap first_byte is in absurd (omega arith)
no_place (Pend t k) is = let same : ◌≡◌ {A = ℕ} 106 112 = ap first_byte is in absurd (omega arith)
no_place TheOwed is = let same : ◌≡◌ {A = ℕ} 106 111 = ap first_byte is in absurd (omega arith)
no_place TheImage is = let same : ◌≡◌ {A = ℕ} 106 105 = ap first_byte is in absurd (omega arith)
no_place TheWeak is = let same : ◌≡◌ {A = ℕ} 106 119 = ap first_byte is in absurd (omega arith)

-- Nor is it that of the format.
not_named : IsNamed journal → ⊥
unfolding first_byte
not_named (inl is) = let same : ◌≡◌ {A = ℕ} 106 102 = ap first_byte is in absurd (omega arith)
not_named (inr (p, valid, is)) = no_place p is

-- Files that represent something have no journal among them.
pub stands_without_journal : StandsWithoutJournal
stands_without_journal files held format stands = by (files journal) refl where
  by : (o : Option Node) → files journal ≡ o → o ≡ None
  by None is = refl
  by (Some n) is = absurd (not_named (stands.shows.named (codes "journal") [] (subst IsSome (sym is) refl)))
