-- Printed segments and keys are spellings.
use Rattle.std.proofs.Common.{◌≡◌, ◌<◌, ℕ, List, [], ◌∷◌, true, false, if◌then◌else◌, length, refl, arith, inl, inr}
use Rattle.std.specs.Prelude.{IsTrue, ◌⊎◌}
use Rattle.std.specs.List.{list_all}
use Rattle.std.proofs.lemmas.Bool.{and_parts}
use Rattle.key_names.specs.Segment.{is_bare, is_segment, quoted, printed_segment}
use Rattle.key_names.specs.Key.{printed}
use Rattle.key_names.specs.Joined.{Joins}
use Rattle.key_names.specs.Spelling.{IsSpelling, Spells}
use Rattle.key_names.proofs.Segments.{both}

-- a printed segment is a spelling of it
IsSpelling-printed_segment : (segment : List ℕ) → IsTrue (is_segment segment) → IsSpelling (printed_segment segment) segment
IsSpelling-printed_segment segment valid = record {
  valid = valid;
  form =
      elim (list_all is_bare segment) as (λ t. list_all is_bare segment ≡ t → ((if t then segment else quoted segment) ≡ quoted segment)
      ⊎ (((if t then segment else quoted segment) ≡ segment) × IsTrue (list_all is_bare segment))) [
        | true ↦ λ bare. inr (refl, bare)
        | false ↦ λ other. inl refl
      ] refl;
}

-- what is printed of a key spells it
pub Spells-printed : (segments : List (List ℕ)) → 0 < length segments → IsTrue (list_all is_segment segments) → Spells (printed segments) segments
unfolding Joins printed
Spells-printed [] some valid = absurd (omega arith)
Spells-printed (segment ∷ []) some valid = IsSpelling-printed_segment segment (and_parts (is_segment segment) true valid).0
Spells-printed (segment ∷ next ∷ segments) some valid =
    let parts = and_parts (is_segment segment) (list_all is_segment (next ∷ segments)) valid in (
      printed_segment segment,
      printed (next ∷ segments),
      refl,
      IsSpelling-printed_segment segment parts.0,
      Spells-printed (next ∷ segments) (omega arith)
          parts.1,
    )

-- a text spells one segment or more
pub Spells_some : (segments : List (List ℕ)) (text : List ℕ) → Spells text segments → 0 < length segments
unfolding Joins
Spells_some [] text none = absurd none
Spells_some (segment ∷ segments) text spells = omega arith

-- what a text spells are segments
pub Spells_valid : (segments : List (List ℕ)) (text : List ℕ) → Spells text segments → IsTrue (list_all is_segment segments)
unfolding Joins
Spells_valid [] text none = refl
Spells_valid (segment ∷ []) text spelled = both (is_segment segment) true spelled.valid refl
Spells_valid (segment ∷ next ∷ segments) text (spelling, rest, is, spelled, more) =
    both (is_segment segment) (list_all is_segment (next ∷ segments)) spelled.valid (Spells_valid (next ∷ segments) rest more)
