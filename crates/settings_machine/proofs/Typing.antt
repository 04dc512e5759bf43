-- The tests of types say what the table says, and requests keep what is held typed.
use Rattle.std.proofs.Common.{arith, ◌≡◌, ◌<◌, ◌⊎◌, inl, inr, ⊎_elim, ℕ, zero, suc, Bool, true, false, cond, if◌then◌else◌, List, [], ◌∷◌}
use Rattle.std.proofs.Common.{length, get_or, Option, Some, None, refl, sym, ◌∙◌, ap, subst}
use Rattle.std.specs.Prelude.{Contains, fold, find, unwrap_or}
use Rattle.std.specs.Ordering.{eq_by_cmp, is_lt}
use Rattle.std.specs.FinMap.{FinMap, get, insert, remove, empty, get-insert, get-empty}
use Rattle.std.proofs.lemmas.Bool.{and_parts}
use Rattle.std.proofs.lemmas.Slice.Eq.{bytes_eq-Decides}
use Rattle.key_names.specs.Order.{bytes_cmp, key_cmp, bytes_total, key_total}
use Rattle.key_names.specs.Key.{is_prefix}
use Rattle.json_trees.specs.declared.pending.Pending.{Pending}
use Rattle.json_trees.specs.declared.pending.Pending.TheVariants.{Put, Gone}
use Rattle.json_trees.specs.declared.scalar.Scalar.{Scalar}
use Rattle.settings_maps.specs.Maps.{inner, value_at, with_value}
use Rattle.settings_tree.specs.Content.{settings_key}
use Rattle.settings_tree.specs.declared.held.Held.{Held}
use Rattle.pending_tx.specs.Transactions.{pending_of, last_of, overlaid, committed, dropped, patched, set_at_once}
use Rattle.settings_tree.proofs.Over.{over, get-laid_over}
use Rattle.pending_tx.proofs.Ended.{inner-remove}
use Rattle.typed_settings.specs.Pattern.{Fits, Matches}
use Rattle.typed_settings.specs.Row.{HasRow, IsTyped}
use Rattle.typed_settings.specs.Takes.{takes}
use Rattle.typed_settings.specs.declared.place.Place.{Place}
use Rattle.typed_settings.specs.declared.place.Place.TheVariants.{Any, Plain}
use Rattle.typed_settings.specs.declared.row.Row.{Row}
use Rattle.settings_machine.specs.World.{Key, Among}
use Rattle.settings_machine.specs.Typed.{is_fit, is_match, row_for, Wanted, wanted_unless, wanted_by}
use Rattle.settings_machine.specs.Typed.{wanted_in, lesser, first_wanted, is_of_image, HasTypedSettings, IsTaken}
use Rattle.settings_machine.specs.Typed.{MayPend, IsTypedHeld}
use Rattle.settings_machine.proofs.Elements.{key_tied, name_tied}

-- ---- matching

fit_fits : (p : Place) (s : List ℕ) → is_fit p s ≡ true → Fits p s
fit_fits Any s e = tt
fit_fits (Plain own) s e = (bytes_eq-Decides own s).0 e

match_length : (pattern : List Place) (key : Key) → is_match pattern key ≡ true → length key ≡ length pattern
match_length [] [] e = refl
match_length [] (s ∷ key) e = absurd (cc e)
match_length (p ∷ pattern) [] e = absurd (cc e)
match_length (p ∷ pattern) (s ∷ key) e = ap suc (match_length pattern key (and_parts (is_fit p s) _ e).1)

match_fits : (pattern : List Place) (key : Key) → is_match pattern key ≡ true → (i : ℕ) → i < length key → Fits (get_or pattern i Any) (get_or key i [])
match_fits [] [] e i low = absurd (omega arith)
match_fits [] (s ∷ key) e i low = absurd (cc e)
match_fits (p ∷ pattern) [] e i low = absurd (omega arith)
match_fits (p ∷ pattern) (s ∷ key) e zero low = fit_fits p s (and_parts (is_fit p s) _ e).0
match_fits (p ∷ pattern) (s ∷ key) e (suc i) low = match_fits pattern key (and_parts (is_fit p s) _ e).1 i (omega arith)

pub matches : (pattern : List Place) (key : Key) → is_match pattern key ≡ true → Matches pattern key
matches pattern key e =
    let same : length key ≡ length pattern = match_length pattern key e in
    record { same_length = same; reaches = record { long = omega arith; fits = match_fits pattern key e } }

found_has : {X : Type 0} (p : X → Bool) (xs : List X) (x : X) → find p xs ≡ Some x → Contains xs x × (p x ≡ true)
found_has p [] x e = absurd (cc e)
found_has p (y ∷ xs) x e = by (p y) refl (found_has p xs x) e where
  later : (k : ℕ) → k < length xs → suc k < length (y ∷ xs)
  later k low = omega arith

  by : (b : Bool) → p y ≡ b → (find p xs ≡ Some x → Contains xs x × (p x ≡ true)) → cond b (Some y) (find p xs) ≡ Some x → Contains (y ∷ xs) x
      × (p x ≡ true)
  by true is rest e = let same : y ≡ x = cc in ((0, omega arith, same), ap p (sym same) ∙ is)
  by false is rest e = let t = rest e in ((suc t.0.0, later t.0.0 t.0.1, t.0.2), t.1)

pub row_has : (table : List Row) (key : Key) (row : Row) → row_for table key ≡ Some row → HasRow table key row
row_has table key row e =
    let t = found_has (λ r. is_match r.pattern key) table row e in
    record { among = t.0; matches = matches row.pattern key t.1 }

-- ---- refused pairs

-- A pair at which nothing is wanted may pend.
may_pend : (table : List Row) (key : Key) (p : Pending) → wanted_in table (key, p) ≡ None → MayPend table key p
may_pend table key p e = by (is_prefix settings_key key) refl e where
  at_row : (o : Option Row) (q : Pending) → row_for table key ≡ o → wanted_by o key q ≡ None → IsTaken table key q
  at_row None q is e = absurd (cc e)
  at_row (Some row) (Put value) is e = taken (takes row.word value) refl e where
    taken : (b : Bool) → takes row.word value ≡ b → wanted_unless b (key, row.text) ≡ None → IsTyped table key value
    taken true yes' e = record { row = row; has = row_has table key row is; taken = yes' }
    taken false no' e = absurd (cc e)
  at_row (Some row) Gone is e = (row, row_has table key row is)

  by : (b : Bool) → is_prefix settings_key key ≡ b → wanted_by (if b then row_for table key else None) key p ≡ None → MayPend table key p
  by true is e = record { setting = is; taken = at_row (row_for table key) p refl e }
  by false is e = absurd (cc e)

lesser_none : (a b : Option Wanted) → lesser a b ≡ None → (a ≡ None) × (b ≡ None)
lesser_none None b e = (refl, e)
lesser_none (Some x) None e = absurd (cc e)
lesser_none (Some x) (Some y) e = by (is_lt (key_cmp y.0 x.0)) e where
  by : (c : Bool) → (if c then Some y else Some x) ≡ None → (Some x ≡ None) × (Some y ≡ None)
  by true e = absurd (cc e)
  by false e = absurd (cc e)

-- Where no pair is refused, each may pend.
pub all_may : (table : List Row) (pairs : List (Key × Pending)) → first_wanted table pairs ≡ None → (e : Key × Pending) → Among pairs e → MayPend table e.0 e.1
all_may table [] none e at = absurd at
all_may table (pair ∷ pairs) none e (inl here) =
    subst (λ (x : Key × Pending). MayPend table x.0 x.1) (sym here) (may_pend table pair.0 pair.1 (lesser_none _ _ none).0)
all_may table (pair ∷ pairs) none e (inr there) = all_may table pairs (lesser_none _ _ none).1 e there

-- ---- what is held stays typed

abbrev Maps : Type 0
Maps = FinMap bytes_cmp (FinMap key_cmp Pending)

inner-put : (m : Maps) (tx t : List ℕ) (i : FinMap key_cmp Pending) → inner (insert m tx i) t ≡ cond (eq_by_cmp bytes_cmp t tx) i (inner m t)
inner-put m tx t i = ap (λ (o : Option (FinMap key_cmp Pending)). unwrap_or o empty) (get-insert bytes_total m tx i t) ∙ by (eq_by_cmp bytes_cmp t tx) where
  by : (b : Bool) → unwrap_or (cond b (Some i) (get m t)) empty ≡ cond b i (inner m t)
  by true = refl
  by false = refl

-- What is pending after one more is put there is that, or was there before.
put_or_old : (m : Maps) (tx t : List ℕ) (k q : Key) (v p : Pending) → value_at (with_value m tx k v) t q ≡ Some p
    → ((q ≡ k) × (p ≡ v)) ⊎ (value_at m t q ≡ Some p)
put_or_old m tx t k q v p e = by (eq_by_cmp bytes_cmp t tx) refl (ap (λ (i : FinMap key_cmp Pending). get i q)
    (sym (inner-put m tx t (insert (inner m tx) k v))) ∙ e) where
      here : (b : Bool) → eq_by_cmp key_cmp q k ≡ b → t ≡ tx → cond b (Some v) (get (inner m tx) q) ≡ Some p → ((q ≡ k) × (p ≡ v)) ⊎ (value_at m t q ≡ Some p)
      here true is same e = inl (key_tied q k is, cc)
      here false is same e = inr (ap (λ (n : List ℕ). get (inner m n) q) same ∙ e)

      by : (b : Bool) → eq_by_cmp bytes_cmp t tx ≡ b → get (cond b (insert (inner m tx) k v) (inner m t)) q ≡ Some p → ((q ≡ k) × (p ≡ v))
          ⊎ (value_at m t q ≡ Some p)
      by true is e = here (eq_by_cmp key_cmp q k) refl (name_tied t tx is) (sym (get-insert key_total (inner m tx) k v q) ∙ e)
      by false is e = inr e

AllMay : List Row → Maps → Type 0
AllMay table m = (t : List ℕ) (q : Key) (p : Pending) → value_at m t q ≡ Some p → MayPend table q p

patched_may : (table : List Row) (tx : List ℕ) (pairs : List (Key × Pending)) (m : Maps) → ((e : Key × Pending) → Among pairs e → MayPend table e.0 e.1)
    → AllMay table m → AllMay table (fold (λ n e. with_value n tx e.0 e.1) m pairs)
unfolding AllMay
patched_may table tx [] m each before t q p e = before t q p e
patched_may table tx (pair ∷ pairs) m each before t q p e =
    patched_may table tx pairs (with_value m tx pair.0 pair.1) (λ x at. each x (inr at)) (λ u r o f. ⊎_elim
    (λ new. by u r o new) (λ old. before u r o old) (put_or_old m tx u pair.0 r pair.1 o f)) t q p e
  where
    by : (u : List ℕ) (r : Key) (o : Pending) → (r ≡ pair.0) × (o ≡ pair.1) → MayPend table r o
    by u r o new = subst (λ (k : Key). MayPend table k o) (sym new.0) (subst (λ (x : Pending). MayPend table pair.0 x) (sym new.1) (each pair (inl refl)))

-- What the last pair of a key gives it may pend where each pair may.
pub last_may : (table : List Row) (pairs : List (Key × Pending)) (m : FinMap key_cmp Pending) → ((e : Key × Pending) → Among pairs e → MayPend table e.0 e.1)
    → ((q : Key) (p : Pending) → get m q ≡ Some p → MayPend table q p)
    → (q : Key) (p : Pending) → get (fold (λ n e. insert n e.0 e.1) m pairs) q ≡ Some p → MayPend table q p
last_may table [] m each before q p e = before q p e
last_may table (pair ∷ pairs) m each before q p e =
    last_may table pairs (insert m pair.0 pair.1) (λ x at. each x (inr at))
    (λ r o f. by r o (eq_by_cmp key_cmp r pair.0) refl (sym (get-insert key_total m pair.0 pair.1 r) ∙ f)) q p e
  where
    by : (r : Key) (o : Pending) (b : Bool) → eq_by_cmp key_cmp r pair.0 ≡ b → cond b (Some pair.1) (get m r) ≡ Some o → MayPend table r o
    by r o true is f =
        let same : pair.1 ≡ o = cc in
        subst (λ (k : Key). MayPend table k o) (sym (key_tied r pair.0 is)) (subst (λ (x : Pending). MayPend table pair.0 x) same (each pair (inl refl)))
    by r o false is f = before r o f

module _ (table : List Row) (h : Held) (typed : IsTypedHeld table h) where
  pub patched_typed : (tx : List ℕ) (pairs : List (Key × Pending)) → first_wanted table pairs ≡ None → IsTypedHeld table (patched h tx pairs)
  unfolding AllMay
  patched_typed tx pairs none = record { settings = typed.settings; pending = patched_may table tx pairs h.pending (all_may table pairs none) typed.pending }

  removed_may : (tx t : List ℕ) (q : Key) (p : Pending) → value_at (remove h.pending tx) t q ≡ Some p → MayPend table q p
  removed_may tx t q p e = by (eq_by_cmp bytes_cmp t tx) (ap (λ (i : FinMap key_cmp Pending). get i q) (sym (inner-remove h.pending tx t)) ∙ e) where
    by : (b : Bool) → get (cond b empty (inner h.pending t)) q ≡ Some p → MayPend table q p
    by true e = absurd (cc (get-empty {X = Pending} key_cmp q, e))
    by false e = typed.pending t q p e

  pub dropped_typed : (tx : List ℕ) → IsTypedHeld table (dropped h tx)
  dropped_typed tx = record { settings = typed.settings; pending = removed_may tx }

  overlaid_settings : (m : FinMap key_cmp Pending) → ((key : Key) (p : Pending) → get m key ≡ Some p → MayPend table key p)
      → HasTypedSettings table (overlaid h m).live
  overlaid_settings m may = record {
    typed = λ key value e not_image. by key value not_image (get m key) refl (sym (get-laid_over h.live m key) ∙ e);
  } where
    by : (key : Key) (value : Scalar) → is_of_image key ≡ false → (o : Option Pending) → get m key ≡ o
        → over o (get h.live.values key) ≡ Some value → IsTyped table key value
    by key value not_image None is e = typed.settings.typed key value e not_image
    by key value not_image (Some (Put v)) is e =
        let same : v ≡ value = cc in
        subst (λ (x : Scalar). IsTyped table key x) same (may key (Put v) is).taken
    by key value not_image (Some Gone) is e = absurd (cc e)

  pub committed_typed : (tx : List ℕ) → IsTypedHeld table (committed h tx)
  committed_typed tx = record { settings = overlaid_settings (pending_of h tx) (typed.pending tx); pending = removed_may tx }

  pub set_typed : (pairs : List (Key × Pending)) → first_wanted table pairs ≡ None → IsTypedHeld table (set_at_once h pairs)
  set_typed pairs none = record {
    settings = overlaid_settings (last_of pairs)
        (last_may table pairs empty (all_may table pairs none) (λ q p e. absurd (cc (get-empty {X = Pending} key_cmp q, e))));
    pending = typed.pending;
  }
