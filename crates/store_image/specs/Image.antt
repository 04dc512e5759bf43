-- Which image the files below `image` are.
use Rattle.std.specs.Prelude.{◌≡◌, ◌⊎◌, ℕ, List, [], ◌∷◌, codes, Some, None, IsSome, IsTrue, option_and_then}
use Rattle.std.specs.FinMap.{FinMap, get}
use Rattle.outside.specs.Names.{Names, path_cmp}
use Rattle.key_names.specs.Key.{is_prefix}
use Rattle.key_names.specs.Order.{key_cmp}
use Rattle.json_trees.specs.declared.scalar.Scalar.{Scalar}
use Rattle.settings_tree.specs.Content.{settings_key}
use Rattle.model_file.specs.Model.{Spells}
use Rattle.model_file.specs.declared.model.Model.{Model}
use Rattle.metadata_links.specs.Manifest.{IsManifestOf}
use Rattle.metadata_links.specs.declared.file_row.FileRow.{FileRow}
use Rattle.metadata_links.specs.declared.manifest.Manifest.{Manifest}
use Rattle.template_reader.specs.Kept.{source_of}
use Rattle.template_reader.specs.Parses.{fault}
use Rattle.template_reader.specs.declared.templates.Templates.{Templates}
use Rattle.store_image.specs.Paths.{Sources, model_path, template_path}
use Rattle.store_image.specs.Text.{image_text}

-- Some file of the manifest has its template at this path.
pub record IsTemplate (manifest : Manifest) (path : Names) : Type 0 where
  pub file : List ℕ
  pub row : FileRow
  pub there : get manifest.files file ≡ Some row
  pub path_is : path ≡ row.template

-- The sources are those of the manifest's templates, by path, and none of them has a fault.
pub record AreSources (manifest : Manifest) (sources : FinMap path_cmp (List ℕ)) : Type 0 where
  pub each : (path : Names) → IsTemplate manifest path → IsSome (get sources path)
  pub only : (path : Names) → IsSome (get sources path) → IsTemplate manifest path
  pub faultless : (path : Names) (source : List ℕ) → get sources path ≡ Some source → fault source ≡ None

-- Each file of the manifest has the source at its template's path, and no other file has one.
pub record KeepsSources (manifest : Manifest) (sources : FinMap path_cmp (List ℕ)) (templates : Templates) : Type 0 where
  pub kept : (file : List ℕ) → source_of templates file ≡ option_and_then (λ row. get sources row.template) (get manifest.files file)

-- The parts of an image: what the model's text spells, its manifest, the templates of its files, and the image text.
pub record IsMadeOf (text : List ℕ) (sources : FinMap path_cmp (List ℕ)) (model : Model) (manifest : Manifest) (templates : Templates) (image : List ℕ) : Type
    0 where
  pub spelled : Spells text model
  pub linked : IsManifestOf model.content manifest
  pub read : AreSources manifest sources
  pub kept : KeepsSources manifest sources templates
  pub told : image ≡ image_text text sources

-- Some text and some sources make these parts of an image.
pub record IsImage (model : Model) (manifest : Manifest) (templates : Templates) (image : List ℕ) : Type 0 where
  pub text : List ℕ
  pub sources : FinMap path_cmp (List ℕ)
  pub made : IsMadeOf text sources model manifest templates image

-- The files make these parts of an image.
pub record IsImageOf (files : Sources) (model : Model) (manifest : Manifest) (templates : Templates) (image : List ℕ) : Type 0 where
  pub text : List ℕ
  pub sources : FinMap path_cmp (List ℕ)
  pub model_there : files model_path ≡ Some text
  pub sources_there : (path : Names) (source : List ℕ) → get sources path ≡ Some source → files (template_path path) ≡ Some source
  pub made : IsMadeOf text sources model manifest templates image

-- ---- what follows

-- Each value is at the key of a setting, of a service or of a configuration file.
abbrev pub AreSections : FinMap key_cmp Scalar → Type 0
AreSections values = (key : List (List ℕ)) → IsSome (get values key)
    → IsTrue (is_prefix settings_key key) ⊎ (IsTrue (is_prefix (codes "services" ∷ []) key) ⊎ IsTrue (is_prefix (codes "configuration-files" ∷ []) key))
