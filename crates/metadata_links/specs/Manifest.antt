-- What a manifest is made of.
use Rattle.std.specs.Prelude.{◌≡◌, [], Ok, map}
use Rattle.std.specs.FinMap.{entries}
use Rattle.settings_tree.specs.Content.{Contents}
use Rattle.metadata_links.specs.Faults.{faults}
use Rattle.metadata_links.specs.Files.{files_in}
use Rattle.metadata_links.specs.Lists.{IsIndexOf}
use Rattle.metadata_links.specs.Services.{services_in}
use Rattle.metadata_links.specs.declared.manifest.Manifest.{Manifest}

-- The content has no fault, and the manifest has exactly its services, its files and its lists.
pub record IsManifestOf (content : Contents) (m : Manifest) : Type 0 where
  pub sound : faults content ≡ []
  pub services : entries m.services ≡ services_in content
  pub files : map (λ e. (e.0, Ok e.1)) (entries m.files) ≡ files_in content
  pub index : IsIndexOf content.metadata m.index
