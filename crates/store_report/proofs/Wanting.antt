-- What the types want in place of a value, by what the table says of it.
use Rattle.std.proofs.Common.{◌≡◌, ℕ, Bool, true, false, List, Option, Some, None, refl, sym, ◌∙◌, ap}
use Rattle.std.specs.Prelude.{codes, if◌then◌else◌}
use Rattle.key_names.specs.Key.{is_prefix}
use Rattle.json_trees.specs.declared.pending.Pending.{Pending}
use Rattle.json_trees.specs.declared.pending.Pending.TheVariants.{Put, Gone}
use Rattle.json_trees.specs.declared.scalar.Scalar.{Scalar}
use Rattle.settings_tree.specs.Content.{settings_key}
use Rattle.typed_settings.specs.Row.{IsKnown, IsTyped, IsRefusedFor, HasOneRow}
use Rattle.typed_settings.specs.Takes.{takes}
use Rattle.typed_settings.specs.declared.row.Row.{Row}
use Rattle.settings_machine.specs.World.{Key}
use Rattle.settings_machine.specs.Typed.{row_for, Wanted, wanted_unless, wanted_by, wanted_in}
use Rattle.settings_machine.proofs.Typing.{row_has}
use Rattle.settings_machine.proofs.Matching.{row_found, none_found}
use Rattle.store_report.specs.IllTyped.{keyed}

module _ (table : List Row) (key : Key) where
  at_row : (o : Option Row) → row_for table key ≡ o → (p : Pending) → wanted_by (row_for table key) key p ≡ wanted_by o key p
  at_row o is p = ap (λ (x : Option Row). wanted_by x key p) is

  -- A value that the types take.
  pub typed_wants : (value : Scalar) → HasOneRow table key → IsTyped table key value → wanted_by (row_for table key) key (Put value) ≡ None
  typed_wants value one typed = at_row (Some typed.row) (row_found table key one typed.row typed.has) (Put value)
      ∙ ap (λ b. wanted_unless b (key, typed.row.text)) typed.taken

  -- A value that the row refuses.
  pub refused_wants : (value : Scalar) (wanted : List ℕ) → HasOneRow table key → IsRefusedFor table key value wanted
      → let w : Wanted = (key, wanted) in wanted_by (row_for table key) key (Put value) ≡ Some w
  refused_wants value wanted one refused = at_row (Some refused.row) (row_found table key one refused.row refused.has) (Put value)
      ∙ ap (λ b. wanted_unless b (key, refused.row.text)) refused.refused ∙ ap (λ (t : List ℕ). let w : Wanted = (key, t) in Some w) (sym refused.wanted_is)

  -- Whatever is at a key that no row matches.
  pub unknown_wants : (p : Pending) (text : List ℕ) → text ≡ codes "nothing" → (IsKnown table key → ⊥)
      → keyed key (Some text) ≡ wanted_by (row_for table key) key p
  unknown_wants p text nothing unknown = ap (λ (t : List ℕ). keyed key (Some t)) nothing ∙ sym (at_row None (none_found table key unknown) p)

  -- What is pending at a key that is none of a setting.
  pub other_wants : (p : Pending) (text : List ℕ) → text ≡ codes "nothing" → is_prefix settings_key key ≡ false
      → keyed key (Some text) ≡ wanted_in table (key, p)
  other_wants p text nothing other = ap (λ (t : List ℕ). keyed key (Some t)) nothing
      ∙ sym (ap (λ b. wanted_by (if b then row_for table key else None) key p) other)

  -- What is pending at the key of a setting.
  pub setting_wants : (p q : Pending) → is_prefix settings_key key ≡ true → p ≡ q → wanted_by (row_for table key) key q ≡ wanted_in table (key, p)
  setting_wants p q setting same = ap (wanted_by (row_for table key) key) (sym same)
      ∙ sym (ap (λ b. wanted_by (if b then row_for table key else None) key p) setting)

  -- A removal at a key that some row matches.
  pub known_wants : HasOneRow table key → IsKnown table key → wanted_by (row_for table key) key Gone ≡ None
  known_wants one known = at_row (Some known.0) (row_found table key one known.0 known.1) Gone

  -- Where nothing is wanted in place of a value, the types take it.
  pub wants_typed : (value : Scalar) → wanted_by (row_for table key) key (Put value) ≡ None → IsTyped table key value
  wants_typed value none = by (row_for table key) refl none where
    by : (o : Option Row) → row_for table key ≡ o → wanted_by o key (Put value) ≡ None → IsTyped table key value
    by None is e = absurd (cc e)
    by (Some row) is e = taken (takes row.word value) refl e where
      taken : (b : Bool) → takes row.word value ≡ b → wanted_unless b (key, row.text) ≡ None → IsTyped table key value
      taken true yes' e = record { row = row; has = row_has table key row is; taken = yes' }
      taken false no' e = absurd (cc e)

-- What is wanted is wanted at the key.
pub wanted_key : (o : Option Row) (key : Key) (p : Pending) (w : Wanted) → wanted_by o key p ≡ Some w → w.0 ≡ key
wanted_key None key p w e = cc e
wanted_key (Some row) key (Put value) w e = by (takes row.word value) e where
  by : (b : Bool) → wanted_unless b (key, row.text) ≡ Some w → w.0 ≡ key
  by true e = absurd (cc e)
  by false e = cc e
wanted_key (Some row) key Gone w e = absurd (cc e)
