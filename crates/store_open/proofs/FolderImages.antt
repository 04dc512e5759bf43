-- What is read of the folder of the image is the machine's image.
use Rattle.std.proofs.Common.{arith, ◌≡◌, ℕ, List, ◌∷◌, codes, true, refl, sym, ◌∙◌, subst}
use Rattle.std.proofs.lemmas.Bool.{and_from, lt-ltb}
use Rattle.outside.specs.Names.{Names}
use Rattle.outside.specs.Tree.{Tree}
use Rattle.outside.specs.History.{History, tree_of}
use Rattle.typed_settings.specs.Order.{IsTable}
use Rattle.store_image.specs.Paths.{Sources, sources_in}
use Rattle.store_image.specs.declared.image.Image as own
use Rattle.store_image.specs.Refused.{IsRefused}
use Rattle.store_image.proofs.OneOutcome.{makes_unrefused}
use Rattle.settings_machine.specs.World.{Image, World}
use Rattle.settings_machine.specs.Paid.{IsGood}
use Rattle.machine_disk.specs.Store.{is_image}
use Rattle.machine_disk.specs.Kept.{Folder, DiskAt}
use Rattle.store_open.specs.Opening.{IsImageIn}
use Rattle.store_open.specs.Laws.{IsImageOfFolder, HoldsImage}
use Rattle.store_open.proofs.OneImage.{models_same, manifests_same, texts_same, templates_same, image_alike}

-- A path after the folder's name is in the folder of the image.
pub in_folder : (name : List ℕ) (rest : Names) → is_image (codes "image" ∷ name ∷ rest) ≡ true
in_folder name rest = and_from _ _ (lt-ltb 1 _ (omega arith)) refl

module _ (I : Image) (good : IsGood I) (folder : Folder) (is : IsImageOfFolder I folder) where
  abbrev sources : Sources
  sources path = folder (codes "image" ∷ path)

  table : IsTable is.model.types
  table = subst IsTable (sym is.holds.types_are) good.table

  -- of a tree that has the folder's files,
  module _ (tree : Tree) (alike : (name : List ℕ) (rest : Names) → sources_in tree (name ∷ rest) ≡ sources (name ∷ rest)) (image : own.Image)
      (read : IsImageIn tree image) where
    pub folder_image : HoldsImage I image
    folder_image =
        let models = models_same (sources_in tree) sources alike image.model is.model image.manifest is.manifest image.templates is.templates image.text I.text
        read.made
        is.made read.table table in
        record {
          types_are = models.types ∙ is.holds.types_are;
          os_is = models.os ∙ is.holds.os_is;
          defaults_are = models.content ∙ is.holds.defaults_are;
          manifest_is = manifests_same (sources_in tree) sources alike image.model is.model image.manifest is.manifest image.templates is.templates image.text
              I.text
              read.made is.made read.table table ∙ is.holds.manifest_is;
          templates_are = record {
            sources = λ f. templates_same (sources_in tree) sources alike image.model is.model image.manifest is.manifest image.templates is.templates
                image.text I.text
                read.made is.made read.table table f ∙ is.holds.templates_are.sources f;
            trees = is.holds.templates_are.trees;
          };
          text_is = texts_same (sources_in tree) sources alike image.model is.model image.manifest is.manifest image.templates is.templates image.text I.text
              read.made
              is.made read.table table;
        }

  -- Its files have no fault.
  pub folder_unrefused : (tree : Tree) → ((name : List ℕ) (rest : Names) → sources_in tree (name ∷ rest) ≡ sources (name ∷ rest)) → (file kind at : List ℕ)
      → IsRefused (sources_in tree) file (kind, at) → ⊥
  folder_unrefused tree alike file kind at refused = makes_unrefused (sources_in tree) is.model is.manifest is.templates I.text file (kind, at)
      (image_alike (sources_in tree) sources alike is.model is.manifest is.templates I.text is.made) refused

  -- So it is of a disk that has them.
  pub disk_image : (W V : World) (h : History) → DiskAt I folder W V h → (image : own.Image) → IsImageIn (tree_of h) image → HoldsImage I image
  disk_image W V h disk_at image read =
      folder_image (tree_of h) (λ name rest. disk_at.image (codes "image" ∷ name ∷ rest) (in_folder name rest)) image read

  pub disk_unrefused : (W V : World) (h : History) → DiskAt I folder W V h → (file kind at : List ℕ) → IsRefused (sources_in (tree_of h)) file (kind, at) → ⊥
  disk_unrefused W V h disk_at file kind at refused =
      folder_unrefused (tree_of h) (λ name rest. disk_at.image (codes "image" ∷ name ∷ rest) (in_folder name rest)) file kind at refused
