use Rattle.std.proofs.Common.{◌≡◌, List, true, sym, subst}
use Rattle.std.specs.Prelude.{All}
use Rattle.key_names.specs.Key.{is_prefix}
use Rattle.json_trees.specs.declared.pending.Pending.{Pending}
use Rattle.settings_tree.specs.Content.{settings_key}
use Rattle.settings_machine.specs.World.{Key}
use Rattle.settings_machine.specs.Asked.{request_of}
use Rattle.settings_machine.specs.Requests.{IsProper}
use Rattle.settings_machine.specs.declared.request.Guard.{Guard}
use Rattle.settings_machine.specs.declared.request.Request.{Request}
use Rattle.settings_machine.specs.declared.request.Request.TheVariants.{Set}
use Rattle.api_core.proofs.serving.Core.make.Goals as goal

pub plan_patch-requires-clause-settings : goal.plan_patch-requires-clause-settings
plan_patch-requires-clause-settings c =
    let P : List (Key × Pending) → Type 0 = λ pairs. All (λ e. is_prefix settings_key e.0 ≡ true) pairs in
    subst P (sym c.as_slice.ensures.value) (subst (λ (a : Request). IsProper (request_of a)) c.in-Patch.is c.requires.proper)

pub plan_set-requires-clause-settings : goal.plan_set-requires-clause-settings
plan_set-requires-clause-settings c =
    let P : List (Key × Pending) → Type 0 = λ pairs. All (λ e. is_prefix settings_key e.0 ≡ true) pairs in
    subst P (sym c.as_slice-in-Off-guard-2.ensures.value) (subst (λ (g : Guard). IsProper (request_of (Set c.in-Set.pairs g))) c.in-Off-guard-2.is
    (subst (λ (a : Request). IsProper (request_of a)) c.in-Set.is c.requires.proper))

pub plan_guarded_set-requires-clause-settings : goal.plan_guarded_set-requires-clause-settings
plan_guarded_set-requires-clause-settings c =
    let P : List (Key × Pending) → Type 0 = λ pairs. All (λ e. is_prefix settings_key e.0 ≡ true) pairs in
    subst P (sym c.as_slice-in-Render-guard-2.ensures.value) (subst (λ (g : Guard). IsProper (request_of (Set c.in-Set.pairs g))) c.in-Render-guard-2.is
    (subst (λ (a : Request). IsProper (request_of a)) c.in-Set.is c.requires.proper))
