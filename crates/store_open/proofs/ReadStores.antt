-- What the refusals of a data directory and of an image tell.
use Rattle.std.proofs.Common.{◌≡◌, ◌≢◌, ◌⊎◌, inl, inr, ℕ, List, Option, Err, Bool, true, false, refl, sym, subst}
use Rattle.std.specs.Prelude.{IsErrOf, if◌then◌else◌}
use Rattle.outside.specs.Names.{Names}
use Rattle.outside.specs.History.{History, tree_of}
use Rattle.outside.specs.Told.{WhereTold}
use Rattle.outside.proofs.Told.{where_all, where_map, where_both}
use Rattle.commit_journal.specs.Files.{files_below}
use Rattle.fs_datastore.specs.declared.load_error.LoadError.{LoadError}
use Rattle.fs_datastore.specs.declared.load_error.LoadError.TheVariants as load
use Rattle.settings_tree.specs.declared.held.Held.{Held}
use Rattle.fs_datastore.specs.Damage.{IsFaultBelow}
use Rattle.fs_datastore.specs.Stands.{Stands}
use Rattle.store_image.specs.Paths.{sources_in}
use Rattle.store_image.specs.Image.{IsImageOf}
use Rattle.store_image.specs.Refused.{IsRefused}
use Rattle.store_image.specs.declared.image.Image.{Image}
use Rattle.store_image.specs.declared.image_error.ImageError.{ImageError}
use Rattle.store_image.specs.declared.image_error.ImageError.TheVariants as image
use Rattle.typed_settings.specs.Order.{IsTable}
use Rattle.store_open.specs.Opening.{IsImageIn}
use Rattle.store_open.specs.Handing.{HandsLoad, HandsImage}
use Rattle.store_open.specs.Phases.{AtFault, TellsIllTyped}
use Rattle.store_open.specs.declared.open_error.OpenError.{OpenError}
use Rattle.store_open.specs.declared.open_error.OpenError.TheVariants as refused

-- the image that was read, with what its table is
pub told_image : (a : Option History) (i : Image) → IsTable i.model.types
    → WhereTold a (λ h. IsImageOf (sources_in (tree_of h)) i.model i.manifest i.templates i.text)
    → WhereTold a (λ h. IsImageIn (tree_of h) i)
told_image a i table made = where_map (λ h is. record { made = is; table = table }) made

module _ (dir : Names) (a : Option History) where
  abbrev Fault : OpenError → Type 0
  Fault e = WhereTold a (AtFault dir e)

  pub at_load : {T : Type 0} (e : LoadError) (f : OpenError) → HandsLoad e f
      → ((path : Names) → IsErrOf {T = T} (Err e) (load.Damaged path) → WhereTold a (λ h. IsFaultBelow dir (tree_of h) path)) → WhereTold a (AtFault dir f)
  at_load load.Failed f hands damaged = subst Fault (sym hands) (where_all (λ h. tt))
  at_load (load.Damaged path) f hands damaged = subst Fault (sym hands) (damaged path refl)
  at_load load.Memory f hands damaged = subst Fault (sym hands) (where_all (λ h. tt))

  one_format : (b : Bool) (n : ℕ) → n ≡ (if b then 2 else 1) → n ≢ 2 → n ≡ 1
  one_format true n is other = absurd (other is)
  one_format false n is other = is

  pub at_format : (held : Held) (format : ℕ) (f : OpenError) → WhereTold a (λ h. Stands (files_below dir (tree_of h)) held format)
      → (f ≡ refused.Memory) ⊎ ((f ≡ refused.OldFormat dir) × (format ≢ 2)) → WhereTold a (AtFault dir f)
  at_format held format f means (inl is) = subst Fault (sym is) (where_all (λ h. tt))
  at_format held format f means (inr is) = subst Fault (sym is.0)
      (where_map (λ h s. (
        refl,
        record {
          held = held;
          means = subst (λ n. Stands (files_below dir (tree_of h)) held n)
              (one_format s.told format s.format_is is.1) s;
        },
      )) means)

  pub at_image : {T : Type 0} (held : Held) (e : ImageError) (f : OpenError) → HandsImage e f → WhereTold a (λ h. Stands (files_below dir (tree_of h)) held 2)
      → ((file kind at : List ℕ) → IsErrOf {T = T} (Err e) (image.Bad file kind at) → WhereTold a (λ h. IsRefused (sources_in (tree_of h)) file (kind, at)))
      → WhereTold a (AtFault dir f)
  at_image held image.Failed f hands means bad = subst Fault (sym hands) (where_all (λ h. tt))
  at_image held (image.Bad file kind at) f hands means bad = subst Fault (sym hands)
      (where_map (λ h both. (record { held = held; means = both.0 }, both.1)) (where_both means (bad file kind at refl)))
  at_image held image.Memory f hands means bad = subst Fault (sym hands) (where_all (λ h. tt))

  pub at_types : (held : Held) (i : Image) (e : OpenError) → TellsIllTyped i.model.types held e → WhereTold a (λ h. Stands (files_below dir (tree_of h)) held 2)
      → WhereTold a (λ h. IsImageIn (tree_of h) i) → WhereTold a (AtFault dir e)
  at_types held i refused.NoStore ill means read = absurd ill
  at_types held i (refused.BadLink path) ill means read = absurd ill
  at_types held i (refused.BadJournal path) ill means read = absurd ill
  at_types held i (refused.Damaged path) ill means read = absurd ill
  at_types held i (refused.OldFormat path) ill means read = absurd ill
  at_types held i (refused.BadImage file kind at) ill means read = absurd ill
  at_types held i (refused.IllTyped key) ill means read = where_map (λ h both. record { held = held; image = i; means = both.0; read = both.1; ill = ill })
      (where_both means read)
  at_types held i refused.Failed ill means read = absurd ill
  at_types held i refused.Memory ill means read = where_all (λ h. tt)
