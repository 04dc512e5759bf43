-- An image as a whole, and its first fault.
use Rattle.std.proofs.Common.{◌≡◌, ℕ, List, Option, Some, IsSome}
use Rattle.std.specs.FinMap.{FinMap, get}
use Rattle.outside.specs.Names.{Names, path_cmp}
use Rattle.outside.specs.History.{History, tree_of}
use Rattle.outside.specs.Told.{WhereTold}
use Rattle.outside.proofs.Told.{where_map}
use Rattle.model_file.specs.Model.{Spells}
use Rattle.model_file.specs.declared.model.Model.{Model}
use Rattle.metadata_links.specs.Manifest.{IsManifestOf}
use Rattle.metadata_links.specs.declared.manifest.Manifest.{Manifest}
use Rattle.template_reader.specs.declared.templates.Templates.{Templates}
use Rattle.store_image.specs.Paths.{Sources, sources_in, model_path}
use Rattle.store_image.specs.Image.{IsTemplate, IsMadeOf, IsImage, IsImageOf}
use Rattle.store_image.specs.Refused.{Fault, IsRefused, bad_model, bad_manifest, bad_template}
use Rattle.store_image.specs.Reading.{IsUnlinked, no_model, no_manifest, IsFirstBadOf, IsBadTemplate, AreReadFrom}

pub refused_linking : (files : Sources) (text file : List ℕ) (found : Fault) → files model_path ≡ Some text → IsUnlinked text file found
    → IsRefused files file found
refused_linking files text file found there (no_model e fault bad) = bad_model text e.kind e.at there fault bad.file_is bad.found_is
refused_linking files text file found there (no_manifest m e spelled first bad) = bad_manifest text m e there spelled first bad.file_is bad.found_is

-- of all templates the first that is bad is that of the paths
pub bad_of_paths : (manifest : Manifest) (paths : FinMap path_cmp (Unit {0})) → ((q : Names) → IsSome (get paths q) → IsTemplate manifest q)
    → ((q : Names) → IsTemplate manifest q → IsSome (get paths q)) → (h : History) (file : List ℕ) (found : Fault) → IsFirstBadOf paths file found h
    → IsBadTemplate manifest file found h
bad_of_paths manifest paths only each h file found bad = record {
  path = bad.path;
  first = record { is_template = only bad.path bad.among; faulty = bad.bad.faulty; first = λ q is less. bad.first q (each q is) less };
  file_is = bad.bad.file_is;
}

-- what was read makes an image
module _ (text : List ℕ) (model : Model) (manifest : Manifest) (spelled : Spells text model) (linked : IsManifestOf model.content manifest) where
  pub refused_template : (h : History) (file : List ℕ) (found : Fault) → IsBadTemplate manifest file found h → sources_in (tree_of h) model_path ≡ Some text
      → IsRefused (sources_in (tree_of h)) file found
  refused_template h file found bad there = bad_template text model manifest bad.path there spelled linked bad.first bad.file_is

  module _ (told : Option History) (templates : Templates) (image : List ℕ) (from : AreReadFrom told text manifest templates image) where
    made : IsMadeOf text from.sources model manifest templates image
    made = record { spelled = spelled; linked = linked; read = from.read; kept = from.kept; told = from.told_is }

    pub whole : IsImage model manifest templates image
    whole = record { text = text; sources = from.sources; made = made }

    pub image_there : WhereTold told (λ h. sources_in (tree_of h) model_path ≡ Some text → IsImageOf (sources_in (tree_of h)) model manifest templates image)
    image_there = where_map (λ h there first. record { text = text; sources = from.sources; model_there = first; sources_there = there.there; made = made })
        from.there
