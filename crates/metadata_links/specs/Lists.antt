-- The metadata `affected-services` of a content.
use Rattle.std.specs.Prelude.{◌≡◌, ℕ, List, [], ◌∷◌, Option, Some, None, Result, Ok, codes, ok_or, map}
use Rattle.std.specs.List.{flat_map}
use Rattle.std.specs.FinMap.{FinMap, get, entries}
use Rattle.key_names.specs.Order.{bytes_cmp, key_cmp}
use Rattle.json_trees.specs.declared.scalar.Scalar.{Scalar}
use Rattle.metadata_links.specs.Texts.{texts_in}
use Rattle.metadata_links.specs.declared.manifest_error.ManifestError.{ManifestError}
use Rattle.metadata_links.specs.declared.manifest_error.ManifestError.TheVariants.{BadMeta}

-- The name of the metadata.
abbrev pub affected_services : List ℕ
affected_services = codes "affected-services"

-- The list of services that the value at a key is, or that it is none.
abbrev pub list_of : List (List ℕ) → Scalar → Result (List (List ℕ)) ManifestError
list_of key value = ok_or (texts_in value) (BadMeta key)

-- The list at a key, as it is or with its fault, if the key has one.
abbrev pub lists_at : List (List ℕ) → Option Scalar → List (List (List ℕ) × Result (List (List ℕ)) ManifestError)
lists_at key None = []
lists_at key (Some value) = (key, list_of key value) ∷ []

-- The lists of some keys' metadata.
abbrev pub lists_of : List (List (List ℕ) × FinMap bytes_cmp Scalar) → List (List (List ℕ) × Result (List (List ℕ)) ManifestError)
lists_of es = flat_map (λ e. lists_at e.0 (get e.1 affected_services)) es

-- The lists by key.
abbrev pub lists_in : FinMap key_cmp (FinMap bytes_cmp Scalar) → List (List (List ℕ) × Result (List (List ℕ)) ManifestError)
lists_in metadata = lists_of (entries metadata)

-- The index has exactly the lists of the metadata, which are all lists of texts.
abbrev pub IsIndexOf : FinMap key_cmp (FinMap bytes_cmp Scalar) → FinMap key_cmp (List (List ℕ)) → Type 0
IsIndexOf metadata index = map (λ e. (e.0, Ok e.1)) (entries index) ≡ lists_in metadata
