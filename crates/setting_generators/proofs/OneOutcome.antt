-- Entries are read to one outcome, so that a text spells generators or has one fault.
use Rattle.std.proofs.Common.{◌≡◌, ◌++◌, ℕ, List, [], ◌∷◌, length, Option, Some, None, Ok, Err, inl, inr, refl, sym, ap, ◌∙◌, subst, arith}
use Rattle.key_names.proofs.OneReading.{one_key}
use Rattle.toml.specs.Data.{Members}
use Rattle.toml_values.specs.Document.{named}
use Rattle.typed_settings.specs.Row.{IsKnown}
use Rattle.typed_settings.specs.declared.row.Row.{Row}
use Rattle.setting_generators.specs.Generators.{Path, Given}
use Rattle.setting_generators.specs.Reading.{Entry, Outcome, fault_at, SpellsNew, IsGenerator, IsBad, no_key}
use Rattle.setting_generators.specs.Reading.{unknown, no_word, with_first, Reads, Spells, HasFault, IsFault}
use Rattle.setting_generators.specs.declared.generators_error.GeneratorsError.{GeneratorsError}
use Rattle.setting_generators.specs.declared.generators_error.GeneratorsKind.{GeneratorsKind}

module _ (table : List Row) (keys : List Path) (entry : Entry) where
  same_key : (key other : Path) → SpellsNew keys entry.0 key → SpellsNew keys entry.0 other → key ≡ other
  same_key key other one two = one_key one.spelled two.spelled

  -- An entry is one generator.
  one_generator : (g h : Given) → IsGenerator table keys entry g → IsGenerator table keys entry h → g ≡ h
  one_generator g h one two =
      let key = same_key g.0 h.0 one.key two.key in
      let words = one.words ∙ sym two.words in
      ap (λ (k : Path). (k, g.1)) key ∙ ap (λ (w : List (List ℕ)). (h.0, w)) words

  -- Or it is none.
  not_both : (g : Given) (kind : GeneratorsKind) → IsGenerator table keys entry g → IsBad table keys entry kind → ⊥
  not_both g _ is (no_key none) = none g.0 is.key
  not_both g _ is (unknown key spelled none) = none (subst (IsKnown table) (same_key g.0 key is.key spelled) is.known)
  not_both g _ is (no_word key spelled known none) = let some : length g.1 ≡ 0 = ap length (is.words ∙ none) in omega (arith, is.some, some)

  -- For one cause.
  one_cause : (a b : GeneratorsKind) → IsBad table keys entry a → IsBad table keys entry b → a ≡ b
  one_cause _ _ (no_key none) (no_key other) = refl
  one_cause _ _ (no_key none) (unknown key spelled other) = absurd (none key spelled)
  one_cause _ _ (no_key none) (no_word key spelled known other) = absurd (none key spelled)
  one_cause _ _ (unknown key spelled none) (no_key other) = absurd (other key spelled)
  one_cause _ _ (unknown key spelled none) (unknown key' spelled' other) = refl
  one_cause _ _ (unknown key spelled none) (no_word key' spelled' known other) =
      absurd (none (subst (IsKnown table) (same_key key' key spelled' spelled) known))
  one_cause _ _ (no_word key spelled known none) (no_key other) = absurd (other key spelled)
  one_cause _ _ (no_word key spelled known none) (unknown key' spelled' other) =
      absurd (other (subst (IsKnown table) (same_key key key' spelled spelled') known))
  one_cause _ _ (no_word key spelled known none) (no_word key' spelled' known' other) = refl

-- Entries are read to one outcome.
pub one_outcome : (table : List Row) (keys : List Path) (entries : List Entry) (o p : Outcome) → Reads table keys entries o → Reads table keys entries p → o ≡ p
one_outcome table keys [] o p one two = one ∙ sym two
one_outcome table keys (e ∷ es) o p (inl one) (inl two) =
    let same = one_generator table keys e one.generator two.generator one.is two.is in
    let others = subst (λ (g : Given). Reads table (keys ++ g.0 ∷ []) es one.rest) same one.others in
    one.outcome_is ∙ ap (λ (g : Given). with_first g one.rest) same ∙ ap (with_first two.generator)
    (one_outcome table (keys ++ two.generator.0 ∷ []) es one.rest two.rest others two.others) ∙ sym two.outcome_is
one_outcome table keys (e ∷ es) o p (inl one) (inr two) = absurd (not_both table keys e one.generator two.kind one.is two.bad)
one_outcome table keys (e ∷ es) o p (inr one) (inl two) = absurd (not_both table keys e two.generator one.kind two.is one.bad)
one_outcome table keys (e ∷ es) o p (inr one) (inr two) =
    one.outcome_is ∙ ap (λ (k : GeneratorsKind). Err (fault_at k e.0)) (one_cause table keys e one.kind two.kind one.bad two.bad) ∙ sym two.outcome_is

-- Generators that a text spells have no fault.
pub never_both : (table : List Row) (text : List ℕ) (generators : List Given) (kind : GeneratorsKind) (at : List ℕ) → Spells table text generators
    → IsFault table text kind at → ⊥
never_both table text generators kind at spells fault =
    let there : HasFault table (Some spells.document) (fault_at kind at) =
    subst (λ (o : Option Members). HasFault table o (fault_at kind at)) spells.read fault in
    let clash : Ok spells.listed ≡ Err (fault_at kind at) = one_outcome table [] (named spells.document) (Ok spells.listed) (Err (fault_at kind at))
    spells.entries there in
    cc

one_error : (a b : GeneratorsError) → ◌≡◌ {A = Outcome} (Err a) (Err b) → a ≡ b
one_error a b same = cc

-- A text has one fault.
pub one_fault : (table : List Row) (found : Option Members) (a b : GeneratorsError) → HasFault table found a → HasFault table found b → a ≡ b
one_fault table None a b one two = one ∙ sym two
one_fault table (Some document) a b one two = one_error a b (one_outcome table [] (named document) (Err a) (Err b) one two)
