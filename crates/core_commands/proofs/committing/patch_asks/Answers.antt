use Rattle.std.proofs.Common.{[], ◌∷◌, refl, arith}
use Rattle.std.proofs.lemmas.List.Elements.{All-cons}
use Rattle.settings_machine.specs.Asked.{request_of}
use Rattle.settings_machine.specs.declared.request.Request.{Request}
use Rattle.settings_machine.specs.declared.request.Request.TheVariants.{DropTx, Patch}
use Rattle.core_commands.specs.Asking.{IsPlannable}
use Rattle.core_commands.proofs.Told.{settings_put}
use Rattle.core_commands.proofs.committing.patch_asks.Goals as goal

pub returns-clause-plannable : goal.returns-clause-plannable
returns-clause-plannable c =
    let put = settings_put c.args.pairs.now c.in_ok-puts.puts.items c.in_ok-puts.ensures c.requires.settings in
    let patch = Patch c.in_ok-copy-2.field-0 c.in_ok-puts.puts in
    All-cons (λ (ask : Request). IsPlannable (request_of ask)) (DropTx c.in_ok-copy.field-0) (patch ∷ []) (record { proper = tt; no_files = refl })
    (All-cons (λ (ask : Request). IsPlannable (request_of ask)) patch [] (record { proper = put; no_files = refl })
    (λ k d below. absurd (omega (arith, below))))
