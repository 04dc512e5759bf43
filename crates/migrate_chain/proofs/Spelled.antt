-- What a text spells is what its compact text is the print of.
use Rattle.std.proofs.Common.{◌≡◌, ◌∙◌, ℕ, List, Option, Some, None, Bool, true, false, if◌then◌else◌, Result, Ok, Err, refl, sym, ap, subst}
use Rattle.std.specs.Prelude.{IfErr, IfOk}
use Rattle.std.specs.Str.{is_utf8, IsUtf8}
use Rattle.std.proofs.lemmas.Str.{is_utf8-from_IsUtf8, IsUtf8-from_is_utf8}
use Rattle.serde_json.specs.Data.{Data}
use Rattle.serde_json.specs.Read.{read}
use Rattle.serde_json.specs.Written.{compact_text, has_float}
use Rattle.json_trees.specs.Json.{data_of}
use Rattle.settings_tree.specs.declared.held.Held.{Held}
use Rattle.held_text.specs.HeldText.{held_data, held_text}
use Rattle.held_text.specs.HeldRules.{IsHeld, IsRead}
use Rattle.held_text.specs.declared.held_error.HeldError.{HeldError}
use Rattle.held_text.specs.declared.held_error.HeldError.TheVariants.{BadHeld, Memory}
use Rattle.held_text.proofs.HeldBack.{held_back}
use Rattle.held_text.proofs.Readings.{some_same}
use Rattle.migrate_chain.specs.Spelling.{SpellsHeld, IsCompact}
use Rattle.migrate_chain.proofs.NoFloats.{no_float}

-- JSON in bytes is JSON.
read_of : (b : Bool) (found : Option Data) (d : Data) → (if b then found else None) ≡ Some d → found ≡ Some d
read_of true found d is = is
read_of false found d is = cc

-- Text that is JSON is JSON in bytes.
pub json_read : (text : List ℕ) (d : Data) → IsUtf8 text → read text ≡ Some d → data_of text ≡ Some d
json_read text d utf8 is = by (is_utf8 text) (is_utf8-from_IsUtf8 text utf8)
  where
    by : (b : Bool) → b ≡ true → (if b then read text else None) ≡ Some d
    by true told = is
    by false told = cc

-- What is none, or no text, is none.
pub json_none : (text : List ℕ) → (IsUtf8 text → read text ≡ None) → data_of text ≡ None
json_none text none = by (is_utf8 text) (λ told. none (IsUtf8-from_is_utf8 text told))
  where
    by : (b : Bool) → (b ≡ true → read text ≡ None) → (if b then read text else None) ≡ None
    by true told = told refl
    by false told = refl

-- What both say of an answer is said together.
pub both_ok : {E : Type 0} {P Q W : Held → Type 0} (r : Result Held E) → IfOk r P → IfOk r Q → ((h : Held) → P h → Q h → W h) → IfOk r W
both_ok (Ok h) p q f = f h p q
both_ok (Err e) p q f = tt

-- The compact text is the print of all that the text spells.
pub compact_prints : (text compact : List ℕ) (h : Held) → IsCompact text compact → SpellsHeld text h → held_text h ≡ compact
compact_prints text compact h is spells =
    let same : is.value ≡ held_data h = some_same is.value (held_data h) (sym is.value_is ∙ spells.value_is) in
    sym (is.compact_is (ap has_float same ∙ no_float h) ∙ ap compact_text same)

-- And the text spells what its compact text is the print of.
pub print_spelled : (text compact : List ℕ) (h : Held) → IsCompact text compact → IsHeld h → held_text h ≡ compact → SpellsHeld text h
print_spelled text compact h is valid prints =
    let back : read compact ≡ Some (held_data h) = subst (λ (t : List ℕ). read t ≡ Some (held_data h)) prints
    (read_of (is_utf8 (held_text h)) (read (held_text h)) (held_data h) (held_back h valid)) in
    record { valid = valid; value_is = is.value_is ∙ sym is.reads_back ∙ back }

-- A refusal says that nothing is spelled.
pub none_spelled : (text : List ℕ) (r : Result Held HeldError) → ((h : Held) → SpellsHeld text h → IsRead r h)
    → IfErr r (λ e. e ≡ BadHeld → (h : Held) → SpellsHeld text h → ⊥)
none_spelled text (Ok held) exact = tt
none_spelled text (Err e) exact = λ bad h spells. let memory : e ≡ Memory = exact h spells in cc (bad, memory)
