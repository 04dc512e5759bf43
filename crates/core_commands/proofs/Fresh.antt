-- Requests that are answered fail no job.
use Rattle.std.proofs.Common.{ℕ, Bool, true, false, if◌then◌else◌, List, [], ◌∷◌, Option, Some, None}
use Rattle.std.specs.FinMap.{FinMap, get}
use Rattle.key_names.specs.Order.{key_cmp}
use Rattle.json_trees.specs.declared.pending.Pending.{Pending}
use Rattle.settings_tree.specs.declared.entry.Owed.{Owed}
use Rattle.settings_tree.specs.declared.entry.Owed.TheVariants as owed
use Rattle.metadata_links.specs.Links.{files_of}
use Rattle.template_eval.specs.declared.render_error.RenderError.{RenderError}
use Rattle.pending_tx.specs.Transactions.{changed_keys}
use Rattle.settings_machine.specs.World.{Key, Image, World, Job, Idle, Failed, Running, owes_none}
use Rattle.settings_machine.specs.Typed.{Wanted, first_wanted}
use Rattle.settings_machine.specs.Requests.{Request, Root, OsNames, Settings, SettingsAt, SettingsBelow, Patch, Services, ConfigurationFiles}
use Rattle.settings_machine.specs.Requests.{Affected, Pends, DropTx, TxList, Commit, Apply, CommitAndApply, JobNow}
use Rattle.settings_machine.specs.Requests.{Set, ApplyAll, Guarded, Plan, PlanFile, Store, Verify, is_success}
use Rattle.settings_machine.specs.Plans.{first_refusing}
use Rattle.settings_machine.specs.Step.{Next, Answered, noting, asked_for, applied, committed_world, set_world, owing_all, changed_by}
use Rattle.settings_machine.specs.Step.{patch_next, commit_next, commit_and_apply_next, set_next, unless_refusing, guarded_next, answered, request_next}
use Rattle.settings_machine.specs.Events.{Asked, next, after}
use Rattle.core_commands.specs.Asking.{asked_all}

-- The job didn't fail.
abbrev pub IsFresh : Job → Type 0
IsFresh Idle = Unit {0}
IsFresh (Failed c) = ⊥
IsFresh (Running work) = Unit {0}

noting_fresh : (job : Job) (keys : List Key) → IsFresh job → IsFresh (noting job keys)
noting_fresh Idle keys fresh = tt
noting_fresh (Failed c) keys fresh = fresh
noting_fresh (Running work) keys fresh = tt

asked_for_fresh : (I : Image) (owed : Owed) (job : Job) → IsFresh (asked_for I owed job)
asked_for_fresh I owed Idle = tt
asked_for_fresh I owed (Failed c) = tt
asked_for_fresh I owed (Running work) = tt

applied_fresh : (I : Image) (W : World) → IsFresh (applied I W).job
applied_fresh I W = by (owes_none W.held.owed) where
  by : (b : Bool) → IsFresh (if b then Idle else asked_for I W.held.owed W.job)
  by true = tt
  by false = asked_for_fresh I W.held.owed W.job

guarded_fresh : (I : Image) (W : World) (changed : List Key) (n : Next) → IsFresh W.job → IsFresh n.world.job → IsFresh (guarded_next I W changed n).world.job
guarded_fresh I W changed n fresh made = by (is_success n.reply) where
  unless : (o : Option (List ℕ × RenderError)) → IsFresh (unless_refusing W n o).world.job
  unless None = made
  unless (Some refusal) = fresh

  by : (b : Bool) → IsFresh (if b then unless_refusing W n (first_refusing I n.world.held.live (files_of I.manifest (owed.Keys changed))) else n).world.job
  by true = unless (first_refusing I n.world.held.live (files_of I.manifest (owed.Keys changed)))
  by false = made

answered_fresh : (I : Image) (W : World) (q : Request) → IsFresh W.job → IsFresh (answered I W q).world.job
answered_fresh I W Root fresh = fresh
answered_fresh I W OsNames fresh = fresh
answered_fresh I W Settings fresh = fresh
answered_fresh I W (SettingsAt list) fresh = fresh
answered_fresh I W (SettingsBelow key) fresh = fresh
answered_fresh I W (Patch tx pairs) fresh = by (first_wanted I.types pairs) where
  by : (o : Option Wanted) → IsFresh (patch_next W tx pairs o).world.job
  by None = fresh
  by (Some wanted) = fresh
answered_fresh I W (Services names) fresh = fresh
answered_fresh I W (ConfigurationFiles names) fresh = fresh
answered_fresh I W (Affected list) fresh = fresh
answered_fresh I W (Pends tx) fresh = fresh
answered_fresh I W (DropTx tx) fresh = fresh
answered_fresh I W TxList fresh = fresh
answered_fresh I W (Commit tx) fresh = by (get W.held.pending tx) where
  by : (o : Option (FinMap key_cmp Pending)) → IsFresh (commit_next W tx o).world.job
  by None = fresh
  by (Some p) = noting_fresh W.job (changed_keys W.held tx) fresh
answered_fresh I W Apply fresh = applied_fresh I W
answered_fresh I W (CommitAndApply tx) fresh = by (get W.held.pending tx) where
  by : (o : Option (FinMap key_cmp Pending)) → IsFresh (commit_and_apply_next I W tx o).world.job
  by None = fresh
  by (Some p) = applied_fresh I (committed_world W tx)
answered_fresh I W JobNow fresh = fresh
answered_fresh I W (Set pairs) fresh = by (first_wanted I.types pairs) where
  by : (o : Option Wanted) → IsFresh (set_next I W pairs o).world.job
  by None = applied_fresh I (set_world W pairs)
  by (Some wanted) = fresh
answered_fresh I W ApplyAll fresh = applied_fresh I (owing_all W)
answered_fresh I W (Guarded q) fresh = guarded_fresh I W (changed_by W q) (answered I W q) fresh (answered_fresh I W q fresh)
answered_fresh I W (Plan tx) fresh = fresh
answered_fresh I W (PlanFile file tx) fresh = fresh
answered_fresh I W Store fresh = fresh
answered_fresh I W Verify fresh = fresh

request_fresh : (I : Image) (W : World) (q : Request) → IsFresh W.job → IsFresh (request_next I W q Answered).world.job
unfolding request_next
request_fresh I W q fresh = answered_fresh I W q fresh

pub asked_fresh : (I : Image) (W : World) (qs : List Request) → IsFresh W.job → IsFresh (after I W (asked_all qs)).job
asked_fresh I W [] fresh = fresh
asked_fresh I W (q ∷ qs) fresh = asked_fresh I (next I W (Asked q Answered)) qs (request_fresh I W q fresh)
