-- A source that is put into the map is found there, and the others stay.
use Rattle.std.proofs.Common.{◌≡◌, ℕ, Bool, true, false, List, [], ◌∷◌, Option, Some, refl, sym, ap, ◌∙◌, cond, if◌then◌else◌}
use Rattle.std.specs.Option.{option_map}
use Rattle.std.specs.Str.{bytes_eq}
use Rattle.std.specs.Ordering.{is_eq, match_ordering}
use Rattle.std.specs.declared.cmp.Ordering.{Ordering}
use Rattle.std.specs.declared.cmp.Ordering.TheVariants.{Less, Equal, Greater}
use Rattle.std.specs.Map.{lookup}
use Rattle.std.specs.BTreeMap.{insert_entry}
use Rattle.std.proofs.lemmas.Map.Text.{is_eq-slice_cmp}
use Rattle.std.proofs.lemmas.Cmp.{tied_itself}
use Rattle.key_names.specs.Order.{bytes_cmp, bytes_total, bytes_cmp-IsAntisymmetric}

-- What is_eq takes is Equal.
equal : (r : Ordering) → is_eq r ≡ true → r ≡ Equal
equal Less e = absurd (cc)
equal Equal e = refl
equal Greater e = absurd (cc)

-- The same test again changes nothing.
same-cond : {T : Type 0} (b : Bool) (x y z : T) → cond b x z ≡ cond b x (cond b y z)
same-cond true x y z = refl
same-cond false x y z = refl

-- Two tests that never hold together may change places.
turned-cond : {T : Type 0} (a b : Bool) (x y z : T) → (a ≡ true → b ≡ true → ⊥) → cond a x (cond b y z) ≡ cond b y (cond a x z)
turned-cond true true x y z never = absurd (never refl refl)
turned-cond true false x y z never = refl
turned-cond false true x y z never = refl
turned-cond false false x y z never = refl

-- A mapped choice is the choice of what is mapped.
mapped-if : {X Y : Type 0} (f : X → Y) (b : Bool) (x : X) (o : Option X) → option_map f (if b then Some x else o) ≡ (if b then Some (f x) else option_map f o)
mapped-if f true x o = refl
mapped-if f false x o = refl

module _ {K : Type 0} (name : K → List ℕ) where
  abbrev at : List ℕ → K → Bool
  at q k = is_eq (bytes_cmp q (name k))

  abbrev order : K → K → Ordering
  order j k = bytes_cmp (name j) (name k)

  never_both : (q : List ℕ) (j k : K) → order k j ≡ Greater → at q j ≡ true → at q k ≡ true → ⊥
  never_both q j k h a b =
      let e : name k ≡ name j =
      sym (bytes_cmp-IsAntisymmetric q (name k) (equal (bytes_cmp q (name k)) b)) ∙ bytes_cmp-IsAntisymmetric q (name j) (equal (bytes_cmp q (name j)) a) in
      let tie : bytes_cmp (name k) (name j) ≡ Equal = ap (bytes_cmp (name k)) (sym e) ∙ tied_itself bytes_total (name k) in
      let clash : Greater ≡ Equal = sym h ∙ tie in cc

module _ {K X : Type 0} (name : K → List ℕ) where
  abbrev placed : K × X → List (K × X) → K → X → Ordering → List (K × X)
  placed e es k x r = match_ordering r ((k, x) ∷ e ∷ es) ((e.0, x) ∷ es) (e ∷ insert_entry (order name) es k x)

  lookup-insert : (q : List ℕ) (es : List (K × X)) (k : K) (x : X) → lookup (at name q) (insert_entry (order name) es k x) ≡ cond (at name q k) (Some x)
      (lookup (at name q) es)
  lookup-insert q [] k x = refl
  lookup-insert q (e ∷ es) k x = by (order name k e.0) refl (lookup-insert q es k x)
    where
      by : (r : Ordering) → order name k e.0 ≡ r → lookup (at name q) (insert_entry (order name) es k x) ≡ cond (at name q k) (Some x) (lookup (at name q) es)
          → lookup (at name q) (insert_entry (order name) (e ∷ es) k x) ≡ cond (at name q k) (Some x) (lookup (at name q) (e ∷ es))
      by Less h again = ap (λ r. lookup (at name q) (placed e es k x r)) h
      by Equal h again =
          ap (λ r. lookup (at name q) (placed e es k x r)) h ∙ same-cond (at name q e.0) (Some x) (Some e.1) (lookup (at name q) es)
          ∙ ap (λ b. cond b (Some x) (lookup (at name q) (e ∷ es))) (ap (λ n. is_eq (bytes_cmp q n)) (sym (bytes_cmp-IsAntisymmetric (name k) (name e.0) h)))
      by Greater h again =
          ap (λ r. lookup (at name q) (placed e es k x r)) h ∙ ap (cond (at name q e.0) (Some e.1)) again
          ∙ turned-cond (at name q e.0) (at name q k) (Some e.1) (Some x) (lookup (at name q) es) (λ a b. never_both name q e.0 k h a b)

  pub found_after : {Y : Type 0} (f : X → Y) (q file : List ℕ) (es fs : List (K × X)) (k : K) (x : X) → fs ≡ insert_entry (order name) es k x → name k ≡ file
      → option_map f (lookup (at name q) fs) ≡ (if bytes_eq q file then Some (f x) else option_map f (lookup (at name q) es))
  found_after f q file es fs k x put is =
      ap (λ l. option_map f (lookup (at name q) l)) put ∙ ap (option_map f) (lookup-insert q es k x)
      ∙ ap (λ b. option_map f (cond b (Some x) (lookup (at name q) es))) (is_eq-slice_cmp q (name k) ∙ ap (bytes_eq q) is)
      ∙ mapped-if f (bytes_eq q file) x (lookup (at name q) es)
