-- Each configuration file of an image has a template.
use Rattle.std.proofs.Common.{get_or, ◌≡◌, ℕ, List, Option, Some, None, IsSome, refl, sym, ◌∙◌, ap, subst}
use Rattle.std.specs.FinMap.{FinMap, get, keys, contains_key-keys}
use Rattle.std.specs.List.{All}
use Rattle.std.specs.Ordering.{eq_by_cmp, is_eq}
use Rattle.std.proofs.lemmas.Cmp.{tied_itself}
use Rattle.std.proofs.lemmas.List.Folds.{list_any_at}
use Rattle.key_names.specs.Order.{bytes_cmp, bytes_total}
use Rattle.std.specs.Option.{option_and_then}
use mathlib.Core.Logic.{∥∥₁_elim}
use Rattle.outside.specs.Names.{path_cmp}
use Rattle.metadata_links.specs.declared.file_row.FileRow.{FileRow}
use Rattle.metadata_links.specs.declared.manifest.Manifest.{Manifest}
use Rattle.model_file.specs.declared.model.Model.{Model}
use Rattle.template_reader.specs.Kept.{source_of}
use Rattle.template_reader.specs.declared.templates.Templates.{Templates}
use Rattle.store_image.specs.Image.{IsImage, IsMadeOf}

lacks : {A : Type 0} (o : Option A) → IsSome o → o ≡ None → ⊥
lacks None some none = absurd (cc some)
lacks (Some a) some none = cc none

pub is_kept : (model : Model) (manifest : Manifest) (templates : Templates) (text file : List ℕ) → ∥ IsImage model manifest templates text ∥₁
    → IsSome (get manifest.files file) → source_of templates file ≡ None → ⊥
is_kept model manifest templates text file whole there none = ∥∥₁_elim whole (λ a b. absurd a) (λ image. made image.text image.sources image.made) where
  made : (text_of : List ℕ) (sources : FinMap path_cmp (List ℕ)) → IsMadeOf text_of sources model manifest templates text → ⊥
  made text_of sources m = by (get manifest.files file) refl there where
    by : (o : Option FileRow) → get manifest.files file ≡ o → IsSome o → ⊥
    by None is some = lacks {A = FileRow} None some refl
    by (Some row) is some =
        let here : IsSome (get sources row.template) = m.read.each row.template (record { file = file; row = row; there = is; path_is = refl }) in
        let lost : get sources row.template ≡ None = ap (option_and_then (λ (r : FileRow). get sources r.template)) (sym is) ∙ sym (m.kept.kept file) ∙ none in
        lacks (get sources row.template) here lost

-- Each name of a file of the manifest has a row.
pub all_known : (manifest : Manifest) (names : List (List ℕ)) → names ≡ keys manifest.files → All (λ file. IsSome (get manifest.files file)) names
all_known manifest names same = subst (All (λ file. IsSome (get manifest.files file))) (sym same)
    (λ i d within. contains_key-keys manifest.files (get_or (keys manifest.files) i d) ∙ list_any_at (eq_by_cmp bytes_cmp (get_or (keys manifest.files) i d))
    (keys manifest.files) i d within (ap is_eq (tied_itself bytes_total (get_or (keys manifest.files) i d))))
