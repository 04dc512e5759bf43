-- The set of the names that keys have directly below a path.
use Rattle.std.proofs.Common.{◌≡◌, ℕ, List, [], ◌∷◌, Bool, true, false, cond, Option, Some, None, IsSome, refl, sym, ◌∙◌, ap, subst, arith}
use Rattle.std.specs.Option.{option_map}
use Rattle.std.specs.List.{filter_map, cons_option}
use Rattle.std.specs.Ordering.{eq_by_cmp, is_eq}
use Rattle.std.specs.FinMap.{FinMap, find, entries, get, get-entries, get-from_entries}
use Rattle.std.proofs.lemmas.Bool.{cond-true}
use Rattle.std.proofs.lemmas.Cmp.{tied_itself}
use Rattle.key_names.specs.Order.{bytes_cmp, bytes_total, bytes_cmp-IsAntisymmetric, key_cmp, key_total, key_cmp-IsAntisymmetric}
use Rattle.settings_maps.proofs.NestedMaps.{tied_by}
use Rattle.template_eval.specs.Place.{Path}
use Rattle.template_eval.specs.Children.{name_below, names_below}

either : (b : Bool) (o : Option (Unit {0})) → o ≡ Some tt → cond b (Some tt) o ≡ Some tt
either true o is = refl
either false o is = is

module _ {X : Type 0} (p : Path) where
  -- The names of these entries.
  abbrev names : List (Path × X) → List (List ℕ × Unit {0})
  names es = filter_map (λ (e : Path × X). option_map (λ (name : List ℕ). (name, tt)) (name_below p e.0)) es

  there : (b : Bool) (x : X) (o : Option X) → IsSome o → IsSome (cond b (Some x) o)
  there true x o has = refl
  there false x o has = has

  -- A key of these entries that has the name.
  abbrev Named : List (Path × X) → List ℕ → Type 0
  Named es q = (k : Path) × IsSome (find key_cmp k es) × (name_below p k ≡ Some q)

  later : (e : Path × X) (es : List (Path × X)) (q : List ℕ) → Named es q → Named (e ∷ es) q
  later e es q found = (found.0, there (eq_by_cmp key_cmp found.0 e.0) e.1 (find key_cmp found.0 es) found.1, found.2)

  here : (e : Path × X) (es : List (Path × X)) (q s : List ℕ) (b : Bool) → name_below p e.0 ≡ Some s → eq_by_cmp bytes_cmp q s ≡ b
      → IsSome (cond b (Some tt) (find bytes_cmp q (names es)))
      → (IsSome (find bytes_cmp q (names es)) → Named es q) → Named (e ∷ es) q
  here e es q s true is same has rest = (
    e.0,
    subst IsSome (sym (cond-true _ (Some e.1) (find key_cmp e.0 es) (ap is_eq (tied_itself key_total e.0)))) refl,
    is ∙ ap (λ (n : List ℕ). Some n) (sym (bytes_cmp-IsAntisymmetric q s (tied_by (bytes_cmp q s) same))),
  )
  here e es q s false is same has rest = later e es q (rest has)

  first_or_later : (e : Path × X) (es : List (Path × X)) (q : List ℕ) (o : Option (List ℕ)) → name_below p e.0 ≡ o
      → IsSome (find bytes_cmp q (cons_option (option_map (λ (name : List ℕ). (name, tt)) o) (names es))) → (IsSome (find bytes_cmp q (names es)) → Named es q)
      → Named (e ∷ es) q
  first_or_later e es q None is has rest = later e es q (rest has)
  first_or_later e es q (Some s) is has rest = here e es q s (eq_by_cmp bytes_cmp q s) is refl has rest

  -- Each name comes from a key.
  from_key : (es : List (Path × X)) (q : List ℕ) → IsSome (find bytes_cmp q (names es)) → Named es q
  from_key [] q has = absurd (grind arith)
  from_key (e ∷ es) q has = first_or_later e es q (name_below p e.0) refl has (from_key es q)

  first_name : (es : List (Path × X)) (s : List ℕ) (o : Option (List ℕ)) → o ≡ Some s
      → find bytes_cmp s (cons_option (option_map (λ (name : List ℕ). (name, tt)) o) (names es)) ≡ Some tt
  first_name es s None is = absurd (cc is)
  first_name es s (Some t) is =
      let one : t ≡ s = cc is in
      cond-true _ (Some tt) (find bytes_cmp s (names es)) (ap (eq_by_cmp bytes_cmp s) one ∙ ap is_eq (tied_itself bytes_total s))

  skipped : (es : List (Path × X)) (s : List ℕ) (o : Option (List ℕ)) → find bytes_cmp s (names es) ≡ Some tt
      → find bytes_cmp s (cons_option (option_map (λ (name : List ℕ). (name, tt)) o) (names es)) ≡ Some tt
  skipped es s None is = is
  skipped es s (Some t) is = either (eq_by_cmp bytes_cmp s t) _ is

  name_in : (e : Path × X) (es : List (Path × X)) (k : Path) (x : X) (s : List ℕ) (b : Bool) → eq_by_cmp key_cmp k e.0 ≡ b
      → cond b (Some e.1) (find key_cmp k es) ≡ Some x → name_below p k ≡ Some s
      → (find key_cmp k es ≡ Some x → find bytes_cmp s (names es) ≡ Some tt) → find bytes_cmp s (names (e ∷ es)) ≡ Some tt
  name_in e es k x s true same has named rest =
      first_name es s (name_below p e.0) (ap (name_below p) (sym (key_cmp-IsAntisymmetric k e.0 (tied_by (key_cmp k e.0) same))) ∙ named)
  name_in e es k x s false same has named rest = skipped es s (name_below p e.0) (rest has)

  -- Each key gives its name.
  to_name : (es : List (Path × X)) (k : Path) (x : X) (s : List ℕ) → find key_cmp k es ≡ Some x → name_below p k ≡ Some s
      → find bytes_cmp s (names es) ≡ Some tt
  to_name [] k x s has named = absurd (cc has)
  to_name (e ∷ es) k x s has named = name_in e es k x s (eq_by_cmp key_cmp k e.0) refl has named (λ rest. to_name es k x s rest named)

  -- A name of the set comes from a key.
  pub key_of_name : (values : FinMap key_cmp X) (q : List ℕ) → IsSome (get (names_below values p) q)
      → (k : Path) × IsSome (get values k) × (name_below p k ≡ Some q)
  key_of_name values q has =
      let found = from_key (entries values) q (subst IsSome (get-from_entries bytes_total (names (entries values)) q) has) in
      (found.0, subst IsSome (sym (get-entries values found.0)) found.1, found.2)

  -- The name of a key is in the set.
  pub name_of_key : (values : FinMap key_cmp X) (k : Path) (x : X) (s : List ℕ) → get values k ≡ Some x → name_below p k ≡ Some s
      → get (names_below values p) s ≡ Some tt
  name_of_key values k x s has named =
      get-from_entries bytes_total (names (entries values)) s ∙ to_name (entries values) k x s (sym (get-entries values k) ∙ has) named
