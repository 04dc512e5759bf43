-- What `check` tells, by what it read.
use Rattle.std.proofs.Common.{◌≡◌, ℕ, List, Option, Some, None, Result, Ok, Err, refl, sym, subst}
use Rattle.std.specs.Result.{IsErrOf}
use Rattle.outside.specs.History.{History, tree_of}
use Rattle.outside.specs.Told.{WhereTold}
use Rattle.outside.proofs.Told.{where_map}
use Rattle.store_image.specs.Image.{IsImageOf}
use Rattle.store_image.specs.Paths.{Sources, sources_in}
use Rattle.store_image.specs.Refused.{IsRefused}
use Rattle.store_image.specs.declared.image.Image.{Image}
use Rattle.store_image.specs.declared.image_error.ImageError.{ImageError}
use Rattle.store_image.specs.declared.image_error.ImageError.TheVariants as image
use Rattle.command_outcome.specs.Ends.{Outcome}
use Rattle.command_outcome.specs.declared.refusal.Refusal.TheVariants as refused
use Rattle.settings_cmd.specs.Checks.{Reports, TellsOfImage}
use Rattle.settings_cmd.specs.Handing.{HandsImage}

told : (files : Sources) (image : Image) (outcome : Outcome) → IsImageOf files image.model image.manifest image.templates image.text → Reports image outcome
    → TellsOfImage files outcome
told files image (Ok lines) read reports = record { image = image; read = read; report = reports }
told files image (Err refused.Memory) read reports = tt
told files image (Err refused.Usage) read reports = absurd reports
told files image (Err refused.Disk) read reports = absurd reports
told files image (Err refused.NoStore) read reports = absurd reports
told files image (Err (refused.Damaged path)) read reports = absurd reports
told files image (Err (refused.BadLink path)) read reports = absurd reports
told files image (Err (refused.BadJournal path)) read reports = absurd reports
told files image (Err (refused.BadImage file kind at)) read reports = absurd reports
told files image (Err (refused.IllTyped key)) read reports = absurd reports
told files image (Err (refused.NotCovered lines)) read reports = record { image = image; read = read; report = reports }
told files image (Err (refused.Refused refusal)) read reports = absurd reports
told files image (Err (refused.AlreadyThere version)) read reports = absurd reports
told files image (Err (refused.OldFormat directory)) read reports = absurd reports
told files image (Err refused.Door) read reports = absurd reports
told files image (Err (refused.Spawn name)) read reports = absurd reports
told files image (Err (refused.Render file error)) read reports = absurd reports
told files image (Err (refused.Status service number)) read reports = absurd reports
told files image (Err (refused.Missing at target)) read reports = absurd reports
told files image (Err (refused.Conflict key)) read reports = absurd reports
told files image (Err (refused.GeneratorStatus key number)) read reports = absurd reports
told files image (Err (refused.GeneratorOutput key)) read reports = absurd reports
told files image (Err (refused.UserData kind at)) read reports = absurd reports
told files image (Err (refused.Dump kind at)) read reports = absurd reports
told files image (Err (refused.MigrationStatus name number)) read reports = absurd reports
told files image (Err (refused.MigrationOutput name)) read reports = absurd reports
told files image (Err (refused.NotCurrent lines)) read reports = absurd reports
told files image (Err (refused.HoldsIllTyped lines)) read reports = absurd reports
told files image (Err (refused.WouldNotRender lines)) read reports = absurd reports

-- The report on an image that was read.
pub report_tells : (image : Image) (outcome : Outcome) (d : Option History)
    → WhereTold d (λ h. IsImageOf (sources_in (tree_of h)) image.model image.manifest image.templates image.text)
    → Reports image outcome → WhereTold d (λ h. TellsOfImage (sources_in (tree_of h)) outcome)
report_tells image outcome d read reports = where_map (λ h there. told (sources_in (tree_of h)) image outcome there reports) read

always : (outcome : Outcome) (d : Option History) → ((files : Sources) → TellsOfImage files outcome)
    → WhereTold d (λ h. TellsOfImage (sources_in (tree_of h)) outcome)
always outcome None each = record { is = tt }
always outcome (Some h) each = record { is = each (sources_in (tree_of h)) }

-- Why none was read.
pub refusal_tells : (read : Result Image ImageError) (e : ImageError) (outcome : Outcome) (d : Option History) → read ≡ Err e → HandsImage e outcome
    → ((file kind at : List ℕ) → IsErrOf read (image.Bad file kind at) → WhereTold d (λ h. IsRefused (sources_in (tree_of h)) file (kind, at)))
    → WhereTold d (λ h. TellsOfImage (sources_in (tree_of h)) outcome)
refusal_tells read (image.Bad file kind at) outcome d is hands bad =
    subst (λ (o : Outcome). WhereTold d (λ h. TellsOfImage (sources_in (tree_of h)) o)) (sym hands)
    (where_map (λ h told. told) (bad file kind at (subst (λ (r : Result Image ImageError). IsErrOf r (image.Bad file kind at)) (sym is) refl)))
refusal_tells read image.Failed outcome d is hands bad = subst (λ (o : Outcome). WhereTold d (λ h. TellsOfImage (sources_in (tree_of h)) o)) (sym hands)
    (always (Err refused.Disk) d (λ files. tt))
refusal_tells read image.Memory outcome d is hands bad = subst (λ (o : Outcome). WhereTold d (λ h. TellsOfImage (sources_in (tree_of h)) o)) (sym hands)
    (always (Err refused.Memory) d (λ files. tt))
