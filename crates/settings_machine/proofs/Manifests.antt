-- What holds of a manifest that has no fault: listed files are there, and files have different paths.
use Rattle.std.proofs.Common.{arith, ◌≡◌, ◌⊎◌, inl, inr, ⊎_elim, ℕ, Bool, true, false, not, List, [], ◌∷◌, ◌++◌, map, Option, Some, None, is_some}
use Rattle.std.proofs.Common.{Result, Ok, Err, refl, sym, ◌∙◌, ap, subst}
use Rattle.std.specs.Prelude.{unwrap_or, codes, if◌then◌else◌}
use Rattle.std.specs.Option.{option_map}
use Rattle.std.specs.List.{cons_option}
use Rattle.std.proofs.lemmas.Slice.Eq.{bytes_eq-Decides}
use Rattle.std.specs.Ordering.{eq_by_cmp}
use Rattle.std.specs.List.{flat_map}
use Rattle.std.specs.FinMap.{get, keys, entries}
use Rattle.std.proofs.lemmas.Bool.{cases_Bool, and_from, lt-ltb}
use Rattle.outside.specs.Names.{path_cmp}
use Rattle.key_names.specs.Order.{bytes_cmp-IsAntisymmetric}
use Rattle.settings_tree.specs.Content.{Contents}
use Rattle.metadata_links.specs.Faults.{faults, faults_in, values_in, names_of, pairs_of}
use Rattle.metadata_links.specs.Faults.{is_same, same_paths, nested_paths, has_name, unknown_files, empty_commands}
use Rattle.metadata_links.specs.Faults.{service_faults}
use Rattle.metadata_links.specs.Fields.{fields_below}
use Rattle.metadata_links.specs.Files.{is_etc_path, is_template_path, passing, row_with, row_of, file_with, file_of, files_from, files_in}
use Rattle.metadata_links.specs.declared.fields.Fields.{Fields}
use Rattle.outside.specs.PathText.{path_of}
use Rattle.outside.specs.declared.path_error.PathError.{PathError}
use Rattle.metadata_links.specs.Services.{services_in}
use Rattle.metadata_links.specs.Links.{service_named, no_service}
use Rattle.metadata_links.specs.Manifest.{IsManifestOf}
use Rattle.metadata_links.specs.declared.file_row.FileRow.{FileRow}
use Rattle.metadata_links.specs.declared.manifest.Manifest.{Manifest}
use Rattle.metadata_links.specs.declared.manifest_error.ManifestError.{ManifestError}
use Rattle.metadata_links.specs.declared.manifest_error.ManifestError.TheVariants.{SamePath, UnknownFile}
use Rattle.metadata_links.specs.declared.service.Service.{Service}
use Rattle.metadata_links.proofs.Filtered.{values_sound, names_sound}
use Rattle.settings_machine.specs.World.{Among, path_in, is_etc}
use Rattle.settings_machine.proofs.Elements.{among_left, among_right, among_map, filter_among, among_flat, name_among, path_itself, entry_among, among_named}

-- Listed files are there, and files that are there have different paths, below the folder `etc`.
pub record HasGoodFiles (m : Manifest) : Type 0 where
  pub known : (s f : List ℕ) → Among (service_named m s).files f → is_some (get m.files f) ≡ true
  pub apart : (f g : List ℕ) → is_some (get m.files f) ≡ true → is_some (get m.files g) ≡ true → path_in (get m.files f) ≡ path_in (get m.files g) → f ≡ g
  pub etc : (f : List ℕ) → is_some (get m.files f) ≡ true → is_etc (path_in (get m.files f)) ≡ true

nil_left : {X : Type 0} (xs ys : List X) → xs ++ ys ≡ [] → xs ≡ []
nil_left [] ys e = refl
nil_left (x ∷ xs) ys e = absurd (cc e)

nil_right : {X : Type 0} (xs ys : List X) → xs ++ ys ≡ [] → ys ≡ []
nil_right [] ys e = e
nil_right (x ∷ xs) ys e = absurd (cc e)

none_among : {X : Type 0} (xs : List X) (x : X) → xs ≡ [] → Among xs x → ⊥
none_among xs x e at = subst (λ (l : List _). Among l x) e at

-- The pairs that begin with an element.
abbrev headed : {X Y : Type 0} → (X → Y) → X → List X → List (Y × Y)
headed f z xs = map (λ w. (f z, w)) (map f xs)

-- Two elements are one, or a pair one way or the other.
among_pairs : {X Y : Type 0} (f : X → Y) (xs : List X) (x y : X) → Among xs x → Among xs y → (x ≡ y)
    ⊎ (Among {X = Y × Y} (pairs_of (map f xs)) (f x, f y) ⊎ Among {X = Y × Y} (pairs_of (map f xs)) (f y, f x))
among_pairs f [] x y a b = absurd a
among_pairs {X} {Y} f (z ∷ xs) x y (inl a) (inl b) = inl (a ∙ sym b)
among_pairs {X} {Y} f (z ∷ xs) x y (inl a) (inr b) = inr (inl (among_left (headed f z xs) (pairs_of (map f xs)) (f x, f y)
    (subst (λ (v : X). Among {X = Y × Y} (headed f z xs) (f v, f y)) (sym a) (among_map (λ (w : Y). (f z, w)) (map f xs) (f y) (among_map f xs y b)))))
among_pairs {X} {Y} f (z ∷ xs) x y (inr a) (inl b) = inr (inr (among_left (headed f z xs) (pairs_of (map f xs)) (f y, f x)
    (subst (λ (v : X). Among {X = Y × Y} (headed f z xs) (f v, f x)) (sym b) (among_map (λ (w : Y). (f z, w)) (map f xs) (f x) (among_map f xs x a)))))
among_pairs {X} {Y} f (z ∷ xs) x y (inr a) (inr b) = ⊎_elim (λ same. inl same)
    (⊎_elim (λ one. inr (inl (among_right (headed f z xs) (pairs_of (map f xs)) (f x, f y) one)))
    (λ other. inr (inr (among_right (headed f z xs) (pairs_of (map f xs)) (f y, f x) other))))
    (among_pairs f xs x y a b)

-- ---- the paths of files

below_etc : (path : List (List ℕ)) → is_etc_path path ≡ true → is_etc path ≡ true
below_etc [] e = absurd (cc e)
below_etc (first ∷ []) e = absurd (cc e)
below_etc (first ∷ second ∷ rest) e =
    let same : first ≡ codes "etc" = (bytes_eq-Decides first (codes "etc")).0 e in
    subst (λ (x : List ℕ). is_etc (x ∷ second ∷ rest) ≡ true) (sym same) (below rest)
  where
    below : (more : List (List ℕ)) → is_etc (codes "etc" ∷ second ∷ more) ≡ true
    below more = and_from _ _ (lt-ltb 1 _ (omega arith)) refl

passing_passes : (test : List (List ℕ) → Bool) (r : Result (List (List ℕ)) PathError) (path : List (List ℕ)) → passing test r ≡ Some path → test path ≡ true
passing_passes test (Err error) path e = absurd (cc e)
passing_passes test (Ok found) path e = by (test found) refl e where
  by : (b : Bool) → test found ≡ b → (if b then Some found else None) ≡ Some path → test path ≡ true
  by true is e = let same : found ≡ path = cc in ap test (sym same) ∙ is
  by false is e = absurd (cc e)

row_etc : (name : List ℕ) (a b : Option (List (List ℕ))) (row : FileRow) → ((path : List (List ℕ)) → a ≡ Some path → is_etc_path path ≡ true)
    → row_with name a b ≡ Ok row → is_etc_path row.path ≡ true
row_etc name None b row passes e = absurd (cc e)
row_etc name (Some path) None row passes e = absurd (cc e)
row_etc name (Some path) (Some template) row passes e = let same : path ≡ row.path = ap (λ (r : Result FileRow ManifestError). path_or path r) e in
    ap is_etc_path
    (sym same) ∙ passes path refl
  where
    path_or : List (List ℕ) → Result FileRow ManifestError → List (List ℕ)
    path_or other (Ok r) = r.path
    path_or other (Err error) = other

file_etc : (name : List ℕ) (a b : Option (List ℕ)) (row : FileRow) → file_with name a b ≡ Some (Ok row) → is_etc_path row.path ≡ true
file_etc name None None row e = absurd (cc e)
file_etc name None (Some b) row e = absurd (cc e)
file_etc name (Some a) None row e = absurd (cc e)
file_etc name (Some a) (Some b) row e =
    let same : row_of name a b ≡ Ok row = cc in
    row_etc name (passing is_etc_path (path_of a)) (passing is_template_path (path_of b)) row (λ path is. passing_passes is_etc_path (path_of a) path is) same

found_etc : (es : List (List ℕ × Fields)) (name : List ℕ) (row : FileRow) → Among {X = List ℕ × Result FileRow ManifestError} (files_from es) (name, Ok row)
    → is_etc_path row.path ≡ true
found_etc [] name row at = absurd at
found_etc (x ∷ es) name row at = by (file_of x.0 x.1) refl (found_etc es name row) at where
  by : (o : Option (Result FileRow ManifestError)) → file_of x.0 x.1 ≡ o
      → (Among {X = List ℕ × Result FileRow ManifestError} (files_from es) (name, Ok row) → is_etc_path row.path ≡ true)
      → Among {X = List ℕ × Result FileRow ManifestError} (cons_option (option_map (λ r. (x.0, r)) o) (files_from es)) (name, Ok row)
      → is_etc_path row.path ≡ true
  by None is rest at = rest at
  by (Some r) is rest (inl here) =
      let same : Ok row ≡ r = ap (λ (p : List ℕ × Result FileRow ManifestError). p.1) here in
      file_etc x.0 _ _ row (is ∙ ap (λ (q : Result FileRow ManifestError). Some q) (sym same))
  by (Some r) is rest (inr there) = rest there

module _ (content : Contents) (m : Manifest) (is : IsManifestOf content m) where
  no_pairs : faults content ≡ [] → same_paths (values_in (files_in content)) ++ nested_paths (values_in (files_in content)) ≡ []
  no_pairs e = nil_left _ _ (nil_right (faults_in (files_in content)) _ e)

  no_services : faults content ≡ [] → flat_map (service_faults (names_of (files_in content))) (services_in content) ≡ []
  no_services e = nil_left _ _ (nil_right _ _ (nil_right (faults_in (files_in content)) _ e))

  -- the rows
  rows : values_in (files_in content) ≡ map (λ (e : List ℕ × FileRow). e.1) (entries m.files)
  rows = ap values_in (sym is.files) ∙ values_sound (entries m.files)

  names : names_of (files_in content) ≡ keys m.files
  names = ap names_of (sym is.files) ∙ names_sound (entries m.files)

  no_same : same_paths (map (λ (e : List ℕ × FileRow). e.1) (entries m.files)) ≡ []
  no_same = subst (λ (l : List FileRow). same_paths l ≡ []) rows (nil_left _ _ (no_pairs is.sound))

  pair_apart : (r s : FileRow) → Among {X = FileRow × FileRow} (pairs_of (map (λ (e : List ℕ × FileRow). e.1) (entries m.files))) (r, s) → r.path ≡ s.path → ⊥
  pair_apart r s at same =
      none_among _ _ no_same (among_map (λ (p : FileRow × FileRow). SamePath p.0.name p.1.name) _ (r, s)
      (filter_among (λ (p : FileRow × FileRow). is_same p.0 p.1) _ (r, s) at (ap (eq_by_cmp path_cmp r.path) (sym same) ∙ path_itself r.path)))

  rows_apart : (f g : List ℕ) (r s : FileRow) → get m.files f ≡ Some r → get m.files g ≡ Some s → r.path ≡ s.path → f ≡ g
  rows_apart f g r s at_f at_g same = ⊎_elim (λ e. ap (λ (p : List ℕ × FileRow). p.0) e)
      (⊎_elim (λ one. absurd (pair_apart r s one same)) (λ other. absurd (pair_apart s r other (sym same))))
      (among_pairs (λ (e : List ℕ × FileRow). e.1) (entries m.files) (f, r) (g, s) (entry_among bytes_cmp-IsAntisymmetric m.files f r at_f)
      (entry_among bytes_cmp-IsAntisymmetric m.files g s at_g))

  no_unknown : (s f : List ℕ) (service : Service) → get m.services s ≡ Some service → Among service.files f → has_name (keys m.files) f ≡ true
  no_unknown s f service at lists = ⊎_elim (λ yes. yes) (λ none. absurd (bad none)) (cases_Bool (has_name (keys m.files) f))
    where
      bad : has_name (keys m.files) f ≡ false → ⊥
      bad none = none_among _ (UnknownFile s f)
          (ap (λ (l : List (List ℕ)). flat_map (service_faults l) (services_in content)) (sym names) ∙ no_services is.sound)
          (among_flat (service_faults (keys m.files)) (services_in content) (s, service) (UnknownFile s f)
          (subst (λ (l : List (List ℕ × Service)). Among l (s, service)) is.services (entry_among bytes_cmp-IsAntisymmetric m.services s service at))
          (among_left (unknown_files (keys m.files) s service.files) (empty_commands s service.commands) (UnknownFile s f)
          (among_map (UnknownFile s) _ f (filter_among (λ (file : List ℕ). not (has_name (keys m.files) file)) service.files f lists (ap not none)))))

  -- A manifest without a fault has good files.
  pub good_files : HasGoodFiles m
  good_files = record {
    known = λ s f lists. by_service s f (get m.services s) refl lists;
    apart = λ f g has_f has_g same. by_rows f g (get m.files f) (get m.files g) refl refl has_f has_g same;
    etc = λ f has_f. below_etc (path_in (get m.files f)) (by_row f (get m.files f) refl has_f);
  } where
    by_row : (f : List ℕ) (o : Option FileRow) → get m.files f ≡ o → is_some o ≡ true → is_etc_path (path_in o) ≡ true
    by_row f None e has_f = absurd (cc has_f)
    by_row f (Some row) e has_f = found_etc (fields_below content.values (codes "configuration-files") (codes "path") (codes "template-path")) f row
        (subst (λ (l : List (List ℕ × Result FileRow ManifestError)). Among l (f, Ok row)) is.files
        (among_map (λ (x : List ℕ × FileRow). let y : List ℕ × Result FileRow ManifestError = (x.0, Ok x.1) in y) (entries m.files) (f, row)
        (entry_among bytes_cmp-IsAntisymmetric m.files f row e)))

    by_service : (s f : List ℕ) (o : Option Service) → get m.services s ≡ o → Among (unwrap_or o no_service).files f → is_some (get m.files f) ≡ true
    by_service s f None e lists = absurd lists
    by_service s f (Some service) e lists = among_named m.files f (name_among (keys m.files) f (no_unknown s f service e lists))

    by_rows : (f g : List ℕ) (o p : Option FileRow) → get m.files f ≡ o → get m.files g ≡ p → is_some o ≡ true → is_some p ≡ true → path_in o ≡ path_in p
        → f ≡ g
    by_rows f g None p at_f at_g has_f has_g same = absurd (cc has_f)
    by_rows f g (Some r) None at_f at_g has_f has_g same = absurd (cc has_g)
    by_rows f g (Some r) (Some s) at_f at_g has_f has_g same = rows_apart f g r s at_f at_g same
