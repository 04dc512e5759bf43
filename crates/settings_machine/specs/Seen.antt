-- What the program holds of an image.
use Rattle.std.specs.Prelude.{◌≡◌, ℕ, List, Some}
use Rattle.std.specs.Option.{option_map}
use Rattle.std.specs.FinMap.{get}
use Rattle.settings_tree.specs.Content.{Contents}
use Rattle.settings_tree.specs.declared.os.OsName.{OsName}
use Rattle.typed_settings.specs.declared.row.Row.{Row}
use Rattle.metadata_links.specs.declared.manifest.Manifest.{Manifest}
use Rattle.template_reader.specs.Kept as kept
use Rattle.template_reader.specs.Parses.{Parses}
use Rattle.template_reader.specs.declared.templates.Templates.{Templates}
use Rattle.template_eval.specs.Rendered.{Rendered}
use Rattle.settings_machine.specs.World.{Image, Source, rendered}

-- The templates that are kept are those of the image, each with the tree that its source is.
pub record HoldsTemplates (I : Image) (templates : Templates) : Type 0 where
  pub sources : (f : List ℕ) → kept.source_of templates f ≡ option_map (λ s. s.text) (get I.templates f)
  pub trees : (f : List ℕ) (s : Source) → get I.templates f ≡ Some s → Parses s.text s.tree

-- The parts are those of the image.
pub record Holds (I : Image) (types : List Row) (os : List OsName) (defaults : Contents) (manifest : Manifest) (templates : Templates) (text : List ℕ) : Type
    0 where
  pub types_are : types ≡ I.types
  pub os_is : os ≡ I.os
  pub defaults_are : defaults ≡ I.defaults
  pub manifest_is : manifest ≡ I.manifest
  pub templates_are : HoldsTemplates I templates
  pub text_is : text ≡ I.text

-- Of each image whose templates and whose names of the operating system these are, the file renders so.
pub record IsRenderedAs (templates : Templates) (os : List OsName) (f : List ℕ) (live : Contents) (r : Rendered) : Type 0 where
  pub renders : (I : Image) → HoldsTemplates I templates → os ≡ I.os → rendered I f live ≡ r
