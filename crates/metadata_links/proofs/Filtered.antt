-- Lists of what is made of entries, one after another.
use Rattle.std.proofs.Common.{◌≡◌, ◌++◌, ℕ, List, [], ◌∷◌, map, filter, not, Option, Some, None, Result, Ok, Err, true, ◌&&◌, refl, sym, ◌∙◌, ap}
use Rattle.std.specs.declared.cmp.Ordering.{Ordering}
use Rattle.std.specs.Ordering.{is_lt}
use Rattle.std.specs.List.{filter_map, flat_map, cons_option}
use Rattle.std.specs.Option.{option_map}
use Rattle.std.specs.FinMap.{is_sorted}
use Rattle.std.specs.FinMap.Entries.{below_all}
use Rattle.std.proofs.lemmas.Bool.{and_parts, and_from}
use Rattle.metadata_links.proofs.Rests.{filter_map_next}
use Rattle.metadata_links.specs.Files.{file_of, files_from}
use Rattle.metadata_links.specs.declared.fields.Fields.{Fields}
use Rattle.metadata_links.specs.declared.file_row.FileRow.{FileRow}
use Rattle.metadata_links.specs.Faults.{first_of, faults_in, values_in, names_of, list_faults, is_among}
use Rattle.metadata_links.specs.declared.manifest_error.ManifestError.TheVariants.{UnknownService}
use Rattle.metadata_links.specs.declared.manifest_error.ManifestError.{ManifestError}

module _ {K X Y : Type 0} (R : K → K → Ordering) (h : K × X → Option Y) where
  below_kept : (k : K) (es : List (K × X)) → below_all R k es ≡ true → below_all R k (filter_map (λ e. option_map (λ y. (e.0, y)) (h e)) es) ≡ true
  below_kept k [] below = refl
  below_kept k (e ∷ es) below =
      let both = and_parts (is_lt (R k e.0)) (below_all R k es) below in
      by (h e) both.0 (below_kept k es both.1)
    where
      by : (o : Option Y) → is_lt (R k e.0) ≡ true → below_all R k (filter_map (λ e. option_map (λ y. (e.0, y)) (h e)) es) ≡ true
          → below_all R k (cons_option (option_map (λ y. (e.0, y)) o) (filter_map (λ e. option_map (λ y. (e.0, y)) (h e)) es)) ≡ true
      by None here rest = rest
      by (Some y) here rest = and_from _ _ here rest

  -- What is kept of entries in order is in order.
  pub kept_sorted : (es : List (K × X)) → is_sorted R es ≡ true → is_sorted R (filter_map (λ e. option_map (λ y. (e.0, y)) (h e)) es) ≡ true
  kept_sorted [] rises = refl
  kept_sorted (e ∷ es) rises =
      let both = and_parts (below_all R e.0 es) (is_sorted R es) rises in
      by (h e) (below_kept e.0 es both.0) (kept_sorted es both.1)
    where
      by : (o : Option Y) → below_all R e.0 (filter_map (λ e. option_map (λ y. (e.0, y)) (h e)) es) ≡ true
          → is_sorted R (filter_map (λ e. option_map (λ y. (e.0, y)) (h e)) es) ≡ true
          → is_sorted R (cons_option (option_map (λ y. (e.0, y)) o) (filter_map (λ e. option_map (λ y. (e.0, y)) (h e)) es)) ≡ true
      by None here rest = rest
      by (Some y) here rest = and_from _ _ here rest

module _ {K T : Type 0} where
  -- The entries, each as it is without a fault.
  abbrev pub sound : List (K × T) → List (K × Result T ManifestError)
  sound es = map (λ e. (e.0, Ok e.1)) es

  below_sound : (R : K → K → Ordering) (k : K) (es : List (K × T)) → below_all R k (sound es) ≡ below_all R k es
  below_sound R k [] = refl
  below_sound R k (e ∷ es) = ap (λ b. is_lt (R k e.0) && b) (below_sound R k es)

  -- They are in order where these are.
  pub sorted_sound : (R : K → K → Ordering) (es : List (K × T)) → is_sorted R (sound es) ≡ is_sorted R es
  sorted_sound R [] = refl
  sorted_sound R (e ∷ es) = (λ i. below_sound R e.0 es i && sorted_sound R es i)

  -- They have no fault.
  pub faults_sound : (es : List (K × T)) → faults_in (sound es) ≡ []
  faults_sound [] = refl
  faults_sound (e ∷ es) = faults_sound es

  -- After them the first fault is that of the next.
  pub first_fault : (es : List (K × T)) (k : K) (f : ManifestError) (rest all : List (K × Result T ManifestError)) → sound es ++ (k, Err f) ∷ rest ≡ all
      → first_of (faults_in all) ≡ Some f
  first_fault es k f rest all is = sym (ap (λ l. first_of (faults_in l)) is) ∙ by es where
    by : (es : List (K × T)) → first_of (faults_in (sound es ++ (k, Err f) ∷ rest)) ≡ Some f
    by [] = refl
    by (e ∷ es) = by es

  -- Their values are those of the entries.
  pub values_sound : (es : List (K × T)) → values_in (sound es) ≡ map (λ e. e.1) es
  values_sound [] = refl
  values_sound (e ∷ es) = ap (λ l. e.1 ∷ l) (values_sound es)

-- And their names.
pub names_sound : {T : Type 0} (es : List (List ℕ × T)) → names_of (sound es) ≡ names_of es
names_sound [] = refl
names_sound (e ∷ es) = ap (λ (l : List (List ℕ)). e.0 ∷ l) (names_sound es)

-- A walk through entries begins with nothing made.
pub walk_begun : {X E : Type 0} (F : List X → List E) (new : List E) (it es all : List X) → new ≡ [] → it ≡ es → es ≡ all → new ++ F it ≡ F all
walk_begun F new it es all none same whole = ap (λ l. l ++ F it) none ∙ ap F (same ∙ whole)

-- The file that is read is the first at fault, where it is at fault and those before it aren't.
pub fault_of_next : (done : List (List ℕ × FileRow)) (left rest : List (List ℕ × Fields)) (x : List ℕ × Fields) (k : List ℕ) (f : ManifestError)
    (all : List (List ℕ × Result FileRow ManifestError))
    → left ≡ x ∷ rest → sound done ++ files_from left ≡ all → files_from (x ∷ []) ≡ (k, Err f) ∷ [] → first_of (faults_in all) ≡ Some f
fault_of_next done left rest x k f all is whole one = first_fault done k f (files_from rest) all
    (ap (λ l. sound done ++ l) (sym (ap files_from is ∙ filter_map_next (λ e. option_map (λ r. (e.0, r)) (file_of e.0 e.1)) x rest
    ∙ ap (λ l. l ++ files_from rest) one)) ∙ whole)

-- Where any service is taken, the faults of lists are those of each by itself.
pub faults_alone : (xs : List (List (List ℕ) × Result (List (List ℕ)) ManifestError)) → flat_map (list_faults (is_among None)) xs ≡ faults_in xs
faults_alone [] = refl
faults_alone ((key, Err e) ∷ xs) = ap (λ l. e ∷ l) (faults_alone xs)
faults_alone ((key, Ok names) ∷ xs) = ap (λ (l : List (List ℕ)). map (UnknownService key) l ++ flat_map (list_faults (is_among None)) xs) (none_taken names)
    ∙ faults_alone xs where
      none_taken : (names : List (List ℕ)) → filter (λ name. not (is_among None name)) names ≡ []
      none_taken [] = refl
      none_taken (name ∷ names) = none_taken names
