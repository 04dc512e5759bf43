-- What is reported of the values that are held.
use Rattle.std.proofs.Common.{arith, ◌≡◌, ℕ, zero, suc, Bool, true, false, List, [], ◌∷◌, ◌++◌}
use Rattle.std.proofs.Common.{length, map, Option, Some, None, refl, sym, ◌∙◌, ap, subst, inl, inr}
use Rattle.std.specs.Prelude.{unwrap_or, not, ◌==◌, nat_lt, Vec, if◌then◌else◌}
use Rattle.std.specs.Vec.{vec_len}
use Rattle.std.specs.List.{flat_map}
use Rattle.std.specs.FinMap.{FinMap, get, empty, entries, get-empty}
use Rattle.std.proofs.Math.Dec.{eqb-suc-zero}
use Rattle.std.proofs.lemmas.Bool.{cond-false, lt-ltb, ltb-false}
use Rattle.std.proofs.lemmas.List.{nil_from_length}
use Rattle.std.proofs.lemmas.List.Concat.{flat_map-append}
use Rattle.key_names.specs.Order.{key_cmp, bytes_cmp-IsAntisymmetric, key_cmp-IsAntisymmetric}
use Rattle.key_names.specs.Key.{is_prefix}
use Rattle.json_trees.specs.declared.pending.Pending.{Pending}
use Rattle.json_trees.specs.declared.pending.Pending.TheVariants.{Put, Gone}
use Rattle.json_trees.specs.declared.scalar.Scalar.{Scalar}
use Rattle.settings_maps.specs.KeyList.{has_key}
use Rattle.settings_maps.specs.Maps.{value_at}
use Rattle.settings_tree.specs.Content.{settings_key}
use Rattle.settings_tree.specs.declared.held.Held.{Held}
use Rattle.typed_settings.specs.Order.{IsTable}
use Rattle.typed_settings.specs.Row.{IsTyped}
use Rattle.typed_settings.proofs.Apart.{one_row}
use Rattle.typed_settings.specs.declared.row.Row.{Row}
use Rattle.template_eval.specs.declared.render_error.RenderError.{RenderError}
use Rattle.store_image.specs.declared.image.Image as own
use Rattle.settings_machine.specs.World.{Key, Among}
use Rattle.settings_machine.specs.Typed.{is_of_image, row_for, Wanted, wanted_by, wanted_in, lesser, MayPend, IsTypedHeld}
use Rattle.settings_machine.proofs.Elements.{among_left, among_right, among_map, among_flat, among_key, key_itself, name_itself, entry_among, entry_stands}
use Rattle.settings_machine.proofs.Matching.{wanted_typed, wanted_gone}
use Rattle.settings_machine.proofs.Typing.{all_may}
use Rattle.store_report.specs.declared.ill_typed.IllTyped.{IllTyped}
use Rattle.store_report.specs.IllTyped.{wanted_live, told, ill_live, ill_of, ill_pending, ill_typed, told_keys}
use Rattle.store_report.specs.Lines.{ill_typed_line, render_line}
use Rattle.store_report.specs.Report.{AreRefusedBy, IsStoreReport}
use Rattle.store_report.specs.declared.reporting.StoreReport.{StoreReport}
use Rattle.store_report.specs.Laws.{UntoldIsTyped, TypedIsUntold, ToldMendsTypes}
use Rattle.store_report.proofs.Wanting.{typed_wants, wants_typed, wanted_key}

-- ---- what isn't reported is typed

-- Where something is wanted at a key, it is told.
told_among : (tx : Option (List ℕ)) (w : Wanted) → let ill : IllTyped = record { tx = tx; key = w.0; wanted = w.1 } in Among (told tx (Some w)) ill
told_among tx w = inl refl

-- At a key that isn't told nothing is wanted.
unwanted : (keys : List Key) (key : Key) (o : Option Wanted) → ((w : Wanted) → o ≡ Some w → (w.0 ≡ key) × Among keys w.0) → has_key keys key ≡ false
    → o ≡ None
unwanted keys key None at untold = refl
unwanted keys key (Some w) at untold =
    let here = at w refl in
    absurd (cc (untold, among_key keys key (subst (Among keys) here.0 here.1)))

module _ (types : List Row) (held : Held) where
  keys_of : (ill : IllTyped) → Among (ill_typed types held) ill → Among (told_keys types held) ill.key
  keys_of ill at = among_map (λ (i : IllTyped). i.key) (ill_typed types held) ill at

  -- A live value at a key that isn't told.
  untold_live : (key : Key) (value : Scalar) → get held.live.values key ≡ Some value → is_of_image key ≡ false → has_key (told_keys types held) key ≡ false
      → IsTyped types key value
  untold_live key value is own untold =
      wants_typed types key value (unwanted (told_keys types held) key (wanted_by (row_for types key) key (Put value)) at untold)
    where
      f : Key × Scalar → List IllTyped
      f e = told None (wanted_live types e)

      at : (w : Wanted) → wanted_by (row_for types key) key (Put value) ≡ Some w → (w.0 ≡ key) × Among (told_keys types held) w.0
      at w e =
          let ill : IllTyped = record { tx = None; key = w.0; wanted = w.1 } in
          let here : Among (f (key, value)) ill = subst (λ (o : Option Wanted). Among (told None o) ill) (sym (cond-false _ _ _ own
          ∙ e)) (told_among None w) in (
            wanted_key (row_for types key) key (Put value) w e,
            keys_of ill (among_left (ill_live types held.live.values) (ill_pending types held.pending) ill
                (among_flat f (entries held.live.values) (key, value) ill (entry_among key_cmp-IsAntisymmetric held.live.values key value is) here)),
          )

  -- What is pending at a key that isn't told.
  untold_pending : (tx : List ℕ) (key : Key) (p : Pending) → value_at held.pending tx key ≡ Some p → has_key (told_keys types held) key ≡ false
      → MayPend types key p
  untold_pending tx key p is untold = by (get held.pending tx) refl is where
    g : Key × Pending → List IllTyped
    g e = told (Some tx) (wanted_in types e)

    at_key : (w : Wanted) (b : Bool) → wanted_by (if b then row_for types key else None) key p ≡ Some w → w.0 ≡ key
    at_key w true e = wanted_key (row_for types key) key p w e
    at_key w false e = wanted_key None key p w e

    there : (m : FinMap key_cmp Pending) → get held.pending tx ≡ Some m → get m key ≡ Some p → (w : Wanted) → wanted_in types (key, p) ≡ Some w
        → (w.0 ≡ key) × Among (told_keys types held) w.0
    there m at here w e =
        let ill : IllTyped = record { tx = Some tx; key = w.0; wanted = w.1 } in
        let one : Among (g (key, p)) ill = subst (λ (o : Option Wanted). Among (told (Some tx) o) ill) (sym e) (told_among (Some tx) w) in
        let of : Among (ill_of types (tx, m)) ill = among_flat g (entries m) (key, p) ill (entry_among key_cmp-IsAntisymmetric m key p here) one in (
          at_key w (is_prefix settings_key key) e,
          keys_of ill (among_right (ill_live types held.live.values) (ill_pending types held.pending) ill
              (among_flat (ill_of types) (entries held.pending) (tx, m) ill (entry_among bytes_cmp-IsAntisymmetric held.pending tx m at) of)),
        )

    by : (o : Option (FinMap key_cmp Pending)) → get held.pending tx ≡ o → get (unwrap_or o empty) key ≡ Some p → MayPend types key p
    by None at here = absurd (cc (get-empty {X = Pending} key_cmp key, here))
    by (Some m) at here =
        let none = unwanted (told_keys types held) key (wanted_in types (key, p)) (there m at here) untold in
        all_may types ((key, p) ∷ []) (ap (λ (o : Option Wanted). lesser o None) none) (key, p) (inl refl)

pub told_mends : ToldMendsTypes
told_mends I held = record { settings = untold_live I.types held; pending = untold_pending I.types held }

-- Where nothing is told, what is held is typed.
pub untold_typed : (types : List Row) (held : Held) → ill_typed types held ≡ [] → IsTypedHeld types held
untold_typed types held none = record {
  settings = record { typed = λ key value is own. untold_live types held key value is own (no_key key) };
  pending = λ tx key p is. untold_pending types held tx key p is (no_key key);
} where
  no_key : (key : Key) → has_key (told_keys types held) key ≡ false
  no_key key = ap (λ (ills : List IllTyped). has_key (map (λ (i : IllTyped). i.key) ills) key) none

-- ---- what is typed isn't reported

none_flat : {X Y : Type 0} (f : X → List Y) (xs : List X) → ((x : X) → Among xs x → f x ≡ []) → flat_map f xs ≡ []
none_flat f [] none = refl
none_flat {Y = Y} f (x ∷ xs) none = ap (λ (l : List Y). l ++ flat_map f xs) (none x (inl refl)) ∙ none_flat f xs (λ y at. none y (inr at))

module _ (types : List Row) (table : IsTable types) (held : Held) (typed : IsTypedHeld types held) where
  none_live : ill_live types held.live.values ≡ []
  none_live = none_flat (λ e. told None (wanted_live types e)) (entries held.live.values)
      (λ e at. ap (told None) (by e.0 e.1 (entry_stands key_cmp-IsAntisymmetric held.live.values e.0 e.1 (key_itself e.0) at) (is_of_image e.0) refl))
    where
      by : (key : Key) (value : Scalar) → get held.live.values key ≡ Some value → (b : Bool) → is_of_image key ≡ b
          → (if b then None else wanted_by (row_for types key) key (Put value)) ≡ None
      by key value is true own = refl
      by key value is false own = typed_wants types key value (one_row types table.apart key) (typed.settings.typed key value is own)

  none_pending : ill_pending types held.pending ≡ []
  none_pending = none_flat (ill_of types) (entries held.pending)
      (λ t at. each t.0 t.1 (entry_stands bytes_cmp-IsAntisymmetric held.pending t.0 t.1 (name_itself t.0) at))
    where
      wants : (key : Key) (p : Pending) → MayPend types key p → wanted_in types (key, p) ≡ None
      wants key (Put value) may = sym (wanted_typed types key may.setting value (one_row types table.apart key) may.taken)
      wants key Gone may = sym (wanted_gone types key may.setting (one_row types table.apart key) may.taken)

      each : (tx : List ℕ) (m : FinMap key_cmp Pending) → get held.pending tx ≡ Some m → ill_of types (tx, m) ≡ []
      each tx m at = none_flat (λ e. told (Some tx) (wanted_in types e)) (entries m)
          (λ e in_it. ap (told (Some tx)) (wants e.0 e.1 (typed.pending tx e.0 e.1
          (ap (λ (o : Option (FinMap key_cmp Pending)). get (unwrap_or o empty) e.0) at
          ∙ entry_stands key_cmp-IsAntisymmetric m e.0 e.1 (key_itself e.0) in_it))))

  pub typed_untold : ill_typed types held ≡ []
  typed_untold = ap (λ (l : List IllTyped). l ++ ill_pending types held.pending) none_live ∙ none_pending

-- ---- reports

no_ill : (ills : List IllTyped) → nat_lt 0 (length ills) ≡ false → ills ≡ []
no_ill ills none = nil_from_length ills (omega (arith, ltb-false 0 (length ills) none))

-- Where none is found, what is held is typed.
pub found_typed : (types : List Row) (held : Held) (ills : List IllTyped) → ills ≡ ill_typed types held → nat_lt 0 (length ills) ≡ false
    → IsTypedHeld types held
found_typed types held ills is none = untold_typed types held (sym is ∙ no_ill ills none)

-- Whether a list that is kept has one or more.
pub counted : {X Z : Type 0} (v : Vec X Z) (none : Bool) → none ≡ (vec_len v == 0) → not none ≡ nat_lt 0 (length v.items)
counted v none is = ap not is ∙ ap (λ n. not (n == 0)) v.ok.0 ∙ by (length v.items) where
  by : (n : ℕ) → not (n == 0) ≡ nat_lt 0 n
  by zero = refl
  by (suc n) = ap not (eqb-suc-zero n) ∙ sym (lt-ltb 0 (suc n) (omega arith))

-- The parts of a report.
pub reported : (image : own.Image) (held : Held) (ills : List IllTyped) (refused : List (List ℕ × RenderError)) (report : StoreReport)
    → ills ≡ ill_typed image.model.types held → report.lines ≡ flat_map ill_typed_line ills ++ flat_map render_line refused
    → report.ill_typed ≡ nat_lt 0 (length ills) → report.refuses ≡ nat_lt 0 (length refused) → AreRefusedBy report.ill_typed image held refused
    → IsStoreReport image held report
reported image held ills refused report is lines ill refuses files = record {
  refused = refused;
  lines_are = lines ∙ ap (λ (l : List ℕ). l ++ flat_map render_line refused) (ap (flat_map ill_typed_line) is
      ∙ flat_map-append ill_typed_line (ill_live image.model.types held.live.values) (ill_pending image.model.types held.pending));
  ill_typed_is = ill ∙ ap (λ (l : List IllTyped). nat_lt 0 (length l)) is;
  refuses_is = refuses;
  files_are = files;
}

pub untold_is_typed : UntoldIsTyped
untold_is_typed I image holds held report is untold =
    subst (λ (types : List Row). IsTypedHeld types held) holds.types_are
    (untold_typed image.model.types held (no_ill (ill_typed image.model.types held) (sym is.ill_typed_is ∙ untold)))

pub typed_is_untold : TypedIsUntold
typed_is_untold I table image holds held report is typed =
    is.ill_typed_is ∙ ap (λ (types : List Row). nat_lt 0 (length (ill_typed types held))) holds.types_are
    ∙ ap (λ (ills : List IllTyped). nat_lt 0 (length ills)) (typed_untold I.types table held typed)
