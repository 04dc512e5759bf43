use Rattle.std.proofs.Common.{◌≡◌, List, true, sym, subst}
use Rattle.std.specs.Prelude.{All}
use Rattle.key_names.specs.Key.{is_prefix}
use Rattle.json_trees.specs.declared.pending.Pending.{Pending}
use Rattle.settings_tree.specs.Content.{settings_key}
use Rattle.settings_machine.specs.World.{Key}
use Rattle.settings_machine.specs.Asked.{guarded_by, request_of}
use Rattle.settings_machine.specs.Requests as machine
use Rattle.settings_machine.specs.Requests.{IsProper}
use Rattle.settings_machine.specs.declared.request.Guard.{Guard}
use Rattle.settings_machine.specs.declared.request.Guard.TheVariants as guard
use Rattle.settings_machine.specs.declared.request.Request.{Request}
use Rattle.machine_replies.proofs.host.Host.ask.Goals as goal

-- A guarded request is proper as it is without its guard.
proper_of : (g : Guard) (q : machine.Request) → IsProper (guarded_by g q) → IsProper q
proper_of guard.Off q proper = proper
proper_of guard.Render q proper = proper

pub patch-requires-clause-settings : goal.patch-requires-clause-settings
patch-requires-clause-settings c =
    let P : List (Key × Pending) → Type 0 = λ pairs. All (λ e. is_prefix settings_key e.0 ≡ true) pairs in
    subst P (sym c.as_slice.ensures.value) (subst (λ (a : Request). IsProper (request_of a)) c.in-Patch.is c.requires)

pub set-requires : goal.set-requires
set-requires c =
    let P : List (Key × Pending) → Type 0 = λ pairs. All (λ e. is_prefix settings_key e.0 ≡ true) pairs in
    subst P (sym c.as_slice-in-Set.ensures.value) (proper_of c.in-Set.guard (machine.Set c.in-Set.pairs.items)
    (subst (λ (a : Request). IsProper (request_of a)) c.in-Set.is c.requires))
