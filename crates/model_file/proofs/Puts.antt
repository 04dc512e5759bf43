-- Values and metadata that are put one after the other.
use Rattle.std.proofs.Common.{◌≡◌, ℕ, ◌+◌, ◌<◌, List, [], ◌∷◌, ◌++◌, length, get_or, take, refl, sym, ap, ◌∙◌}
use Rattle.std.specs.FinMap.{FinMap, insert}
use Rattle.std.proofs.lemmas.List.Concat.{flat_map-append}
use Rattle.key_names.specs.Order.{bytes_cmp, key_cmp}
use Rattle.json_trees.specs.declared.scalar.Scalar.{Scalar}
use Rattle.settings_maps.specs.Maps.{with_value}
use Rattle.settings_tree.specs.Content.{Contents}
use Rattle.model_file.specs.Checks.{all_but_last, last_name}
use Rattle.model_file.specs.Contents.{with_found, with_values, with_metadata, scalars}
use Rattle.model_file.specs.Entries.{Path, scalar_found}
use Rattle.model_file.specs.declared.found.Found.{Found}
use Rattle.model_file.proofs.EntryChecks.{grown}

-- The scalars of one entry more.
scalars_more : (xs : List (Path × Found)) (i : ℕ) (x : Path × Found) → i < length xs → x ≡ get_or xs i x
    → scalars (take (i + 1) xs) ≡ scalars (take i xs) ++ scalars (x ∷ [])
scalars_more xs i x within is = ap scalars (grown xs i x within is) ∙ flat_map-append (λ (entry : Path × Found). with_found entry.0 (scalar_found entry.1))
    (take i xs) (x ∷ [])

values_both : (name : List ℕ) (xs ys : List (Path × Scalar)) (values : FinMap key_cmp Scalar)
    → with_values name (xs ++ ys) values ≡ with_values name ys (with_values name xs values)
values_both name [] ys values = refl
values_both name (x ∷ xs) ys values = values_both name xs ys (insert values (name ∷ x.0) x.1)

metadata_both : (xs ys : List (Path × Scalar)) (metadata : FinMap key_cmp (FinMap bytes_cmp Scalar))
    → with_metadata (xs ++ ys) metadata ≡ with_metadata ys (with_metadata xs metadata)
metadata_both [] ys metadata = refl
metadata_both (x ∷ xs) ys metadata = metadata_both xs ys (with_value metadata (all_but_last x.0) (last_name x.0) x.1)

-- A content with the values of these entries.
abbrev pub valued : List ℕ → List (Path × Found) → Contents → Contents
valued name xs c = record c { values = with_values name (scalars xs) c.values }

-- A content with the metadata of these entries.
abbrev pub noted : List (Path × Found) → Contents → Contents
noted xs c = record c { metadata = with_metadata (scalars xs) c.metadata }

-- The values of one entry more.
pub valued_more : (name : List ℕ) (xs : List (Path × Found)) (i : ℕ) (x : Path × Found) (start before after : Contents) → i < length xs → x ≡ get_or xs i x
    → before ≡ valued name (take i xs) start → after ≡ valued name (x ∷ []) before → after ≡ valued name (take (i + 1) xs) start
valued_more name xs i x start before after within is front here =
    here ∙ ap (valued name (x ∷ [])) front
    ∙ ap (λ (v : FinMap key_cmp Scalar). record start { values = v }) (sym
    (ap (λ (l : List (Path × Scalar)). with_values name l start.values) (scalars_more xs i x within is)
    ∙ values_both name (scalars (take i xs)) (scalars (x ∷ [])) start.values))

-- The metadata of one entry more.
pub noted_more : (xs : List (Path × Found)) (i : ℕ) (x : Path × Found) (start before after : Contents) → i < length xs → x ≡ get_or xs i x
    → before ≡ noted (take i xs) start → after ≡ noted (x ∷ []) before → after ≡ noted (take (i + 1) xs) start
noted_more xs i x start before after within is front here =
    here ∙ ap (noted (x ∷ [])) front
    ∙ ap (λ (m : FinMap key_cmp (FinMap bytes_cmp Scalar)). record start { metadata = m })
    (sym (ap (λ (l : List (Path × Scalar)). with_metadata l start.metadata) (scalars_more xs i x within is)
    ∙ metadata_both (scalars (take i xs)) (scalars (x ∷ [])) start.metadata))
