-- The tests of types find the row that matches a key.
use Rattle.std.proofs.Common.{arith, ◌≡◌, ◌<◌, ℕ, zero, suc, Bool, true, false, cond, if◌then◌else◌, List, [], ◌∷◌, length, get_or, Option, Some, None}
use Rattle.std.proofs.Common.{refl, sym, ◌∙◌, ap, subst}
use Rattle.std.specs.Prelude.{Contains, find, codes}
use Rattle.std.proofs.lemmas.Bool.{and_from}
use Rattle.std.proofs.lemmas.Slice.Eq.{bytes_eq-Decides}
use Rattle.key_names.specs.Key.{is_prefix}
use Rattle.json_trees.specs.declared.pending.Pending.{Pending}
use Rattle.json_trees.specs.declared.pending.Pending.TheVariants.{Put, Gone}
use Rattle.json_trees.specs.declared.scalar.Scalar.{Scalar}
use Rattle.settings_tree.specs.Content.{settings_key}
use Rattle.typed_settings.specs.Pattern.{Fits, Matches}
use Rattle.typed_settings.specs.Row.{HasRow, IsKnown, IsTyped, IsRefusedFor, HasOneRow}
use Rattle.typed_settings.specs.declared.place.Place.{Place}
use Rattle.typed_settings.specs.declared.place.Place.TheVariants.{Any, Plain}
use Rattle.typed_settings.specs.declared.row.Row.{Row}
use Rattle.settings_machine.specs.World.{Key}
use Rattle.settings_machine.specs.Typed.{is_fit, is_match, row_for, Wanted, wanted_unless, wanted_by, wanted_in}
use Rattle.settings_machine.proofs.Typing.{matches, row_has}

fits_fit : (p : Place) (s : List ℕ) → Fits p s → is_fit p s ≡ true
fits_fit Any s fits = refl
fits_fit (Plain own) s fits = (bytes_eq-Decides own s).1 fits

match_all : (pattern : List Place) (key : Key) → length key ≡ length pattern → ((i : ℕ) → i < length key → Fits (get_or pattern i Any) (get_or key i []))
    → is_match pattern key ≡ true
match_all [] [] same fits = refl
match_all [] (s ∷ key) same fits = absurd (omega arith)
match_all (p ∷ pattern) [] same fits = absurd (omega arith)
match_all (p ∷ pattern) (s ∷ key) same fits = and_from _ _ (fits_fit p s (fits 0 (omega arith)))
    (match_all pattern key (omega arith) (λ i low. fits (suc i) (omega arith)))

pub matched : (pattern : List Place) (key : Key) → Matches pattern key → is_match pattern key ≡ true
matched pattern key m = match_all pattern key m.same_length m.reaches.fits

-- A search finds the first element that passes.
found_at : {X : Type 0} (p : X → Bool) (xs : List X) (k : ℕ) (d : X) → k < length xs → p (get_or xs k d) ≡ true → (i : ℕ) × (i < length xs)
    × (find p xs ≡ Some (get_or xs i d)) × (p (get_or xs i d) ≡ true)
found_at p [] k d low is = absurd (omega arith)
found_at {X} p (x ∷ xs) zero d low is = (0, omega arith, by (p x) is, is) where
  by : (b : Bool) → b ≡ true → cond b (Some x) (find p xs) ≡ Some x
  by true e = refl
  by false e = absurd (cc e)
found_at {X} p (x ∷ xs) (suc k) d low is = by (p x) refl (found_at p xs k d (omega arith) is) where
  by : (b : Bool) → p x ≡ b → (i : ℕ) × (i < length xs) × (find p xs ≡ Some (get_or xs i d)) × (p (get_or xs i d) ≡ true)
      → (i : ℕ) × (i < length (x ∷ xs)) × (cond b (Some x) (find p xs) ≡ Some (get_or (x ∷ xs) i d)) × (p (get_or (x ∷ xs) i d) ≡ true)
  by true e rest = (0, omega arith, refl, e)
  by false e rest = (suc rest.0, later rest.0 rest.1, rest.2, rest.3) where
    later : (i : ℕ) → i < length xs → suc i < length (x ∷ xs)
    later i l = omega arith

module _ (table : List Row) (key : Key) (one : HasOneRow table key) where
  pub row_found : (row : Row) → HasRow table key row → row_for table key ≡ Some row
  row_found row has =
      let at : Contains table row = has.among in
      let f = found_at (λ r. is_match r.pattern key) table at.0 row at.1 (ap (λ (r : Row). is_match r.pattern key) at.2 ∙ matched row.pattern key has.matches)
      in
      let same : f.0 ≡ at.0 = one.one f.0 at.0 row f.1 at.1 (matches _ key f.3) (subst (λ (r : Row). Matches r.pattern key) (sym at.2) has.matches) in
      f.2 ∙ ap (λ n. Some (get_or table n row)) same ∙ ap (λ (r : Row). Some r) at.2

pub none_found : (table : List Row) (key : Key) → (IsKnown table key → ⊥) → row_for table key ≡ None
none_found table key unknown = by (row_for table key) refl where
  by : (o : Option Row) → row_for table key ≡ o → o ≡ None
  by None e = refl
  by (Some row) e = absurd (unknown (row, row_has table key row e))

-- ---- what is wanted

module _ (table : List Row) (key : Key) (setting : is_prefix settings_key key ≡ true) where
  as_row : (o : Option Row) → row_for table key ≡ o → (p : Pending) → wanted_in table (key, p) ≡ wanted_by o key p
  as_row o is p = ap (λ b. wanted_by (if b then row_for table key else None) key p) setting ∙ ap (λ (x : Option Row). wanted_by x key p) is

  pub wanted_typed : (value : Scalar) → HasOneRow table key → IsTyped table key value → None ≡ wanted_in table (key, Put value)
  wanted_typed value one typed = sym (as_row (Some typed.row) (row_found table key one typed.row typed.has) (Put value)
      ∙ ap (λ b. wanted_unless b (key, typed.row.text)) typed.taken)

  pub wanted_refused : (value : Scalar) (wanted : List ℕ) (k : Key) → HasOneRow table key → k ≡ key → IsRefusedFor table key value wanted
      → let w : Wanted = (k, wanted) in Some w ≡ wanted_in table (key, Put value)
  wanted_refused value wanted k one same refused = sym (as_row (Some refused.row) (row_found table key one refused.row refused.has) (Put value)
      ∙ ap (λ b. wanted_unless b (key, refused.row.text)) refused.refused ∙ ap (λ (t : List ℕ). let w : Wanted = (key, t) in Some w) (sym refused.wanted_is)
      ∙ ap (λ (q : Key). let w : Wanted = (q, wanted) in Some w) (sym same))

  pub wanted_unknown : (p : Pending) (k : Key) (wanted : List ℕ) → k ≡ key → wanted ≡ codes "nothing" → (IsKnown table key → ⊥)
      → let w : Wanted = (k, wanted) in Some w ≡ wanted_in table (key, p)
  wanted_unknown p k wanted same nothing unknown = sym (as_row None (none_found table key unknown) p
      ∙ ap (λ (t : List ℕ). let w : Wanted = (key, t) in Some w) (sym nothing) ∙ ap (λ (q : Key). let w : Wanted = (q, wanted) in Some w) (sym same))

  pub wanted_gone : HasOneRow table key → IsKnown table key → None ≡ wanted_in table (key, Gone)
  wanted_gone one known = sym (as_row (Some known.0) (row_found table key one known.0 known.1) Gone)
