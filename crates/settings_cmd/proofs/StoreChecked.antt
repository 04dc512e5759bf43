-- What `check --store` tells, by what it read.
use Rattle.std.proofs.Common.{◌≡◌, inl, inr, ℕ, List, Option, Some, None, Result, Ok, Err, refl, sym, subst}
use Rattle.std.specs.Result.{IsErrOf}
use Rattle.outside.specs.History.{History, tree_of}
use Rattle.outside.specs.Told.{WhereTold}
use Rattle.outside.proofs.Told.{where_map, where_all}
use Rattle.settings_tree.specs.declared.held.Held.{Held}
use Rattle.typed_settings.specs.Order.{IsTable}
use Rattle.store_image.specs.Image.{IsImageOf}
use Rattle.store_image.specs.Paths.{sources_in}
use Rattle.store_image.specs.Refused.{IsRefused}
use Rattle.store_image.specs.declared.image.Image.{Image}
use Rattle.store_image.specs.declared.image_error.ImageError.{ImageError}
use Rattle.store_image.specs.declared.image_error.ImageError.TheVariants as image
use Rattle.version_links.specs.Chain.{found, Resolves}
use Rattle.machine_disk.specs.Store.{HoldsIn}
use Rattle.store_open.proofs.ReadStores.{told_image}
use Rattle.store_open.specs.declared.stored.Stored.{Stored}
use Rattle.command_outcome.specs.Ends.{Outcome}
use Rattle.command_outcome.specs.declared.refusal.Refusal.TheVariants as refused
use Rattle.settings_cmd.specs.Handing.{HandsImage}
use Rattle.settings_cmd.specs.StoreChecks.{ReportsHeld, ChecksHeld, ChecksStore}

-- What is told of the files of a disk and of what is held.
abbrev pub Told : Held → Outcome → Option History → Type 0
Told held outcome d = WhereTold d (λ h. ChecksHeld (tree_of h) held outcome)

-- The report with an image that was read.
pub held_report : (image : Image) (held : Held) (outcome : Outcome) (d : Option History) → IsTable image.model.types
    → WhereTold d (λ h. IsImageOf (sources_in (tree_of h)) image.model image.manifest image.templates image.text)
    → ReportsHeld image held outcome → Told held outcome d
held_report image held outcome d table read (inl report) =
    where_map (λ h there. inl (record { image = image; read = there; report = report })) (told_image d image table read)
held_report image held outcome d table read (inr memory) = subst (λ (o : Outcome). Told held o d) (sym memory) (where_all (λ h. inr tt))

-- Why none was read.
pub held_refusal : (read : Result Image ImageError) (e : ImageError) (held : Held) (outcome : Outcome) (d : Option History) → read ≡ Err e
    → HandsImage e outcome
    → ((file kind at : List ℕ) → IsErrOf read (image.Bad file kind at) → WhereTold d (λ h. IsRefused (sources_in (tree_of h)) file (kind, at)))
    → Told held outcome d
held_refusal read (image.Bad file kind at) held outcome d is hands bad =
    subst (λ (o : Outcome). Told held o d) (sym hands)
    (where_map (λ h told. inr told) (bad file kind at (subst (λ (r : Result Image ImageError). IsErrOf r (image.Bad file kind at)) (sym is) refl)))
held_refusal read image.Failed held outcome d is hands bad = subst (λ (o : Outcome). Told held o d) (sym hands) (where_all (λ h. inr tt))
held_refusal read image.Memory held outcome d is hands bad = subst (λ (o : Outcome). Told held o d) (sym hands) (where_all (λ h. inr tt))

-- The report on a store that was read.
pub store_report : (stored : Stored) (outcome : Outcome) (d : Option History)
    → WhereTold d (λ h. Resolves (tree_of h) (found stored.place.version stored.place.directory) × HoldsIn stored.place.directory stored.held 2 (tree_of h))
    → Told stored.held outcome d → WhereTold d (λ h. ChecksStore (tree_of h) outcome)
store_report stored outcome None read checks = record { is = tt }
store_report stored outcome (Some h) read checks =
    record { is = inl (record { stored = stored; links = read.is.0; holds = read.is.1; checks = checks.is }) }
