-- Once a job was asked for, an idle job owes nothing.
use Rattle.std.proofs.Common.{◌≡◌, ◌⊎◌, inl, inr, ⊎_elim, ℕ, zero, suc, Bool, true, false, not, ◌&&◌, if◌then◌else◌, List, [], ◌∷◌, Option, Some, None}
use Rattle.std.proofs.Common.{Ok, Err, refl, sym, ◌∙◌, ap, subst}
use Rattle.std.specs.FinMap.{FinMap, get}
use Rattle.std.specs.List.{list_any}
use Rattle.std.proofs.lemmas.Bool.{or_parts, not-false}
use Rattle.key_names.specs.Order.{key_cmp}
use Rattle.json_trees.specs.declared.pending.Pending.{Pending}
use Rattle.settings_tree.specs.declared.entry.Owed.{Owed}
use Rattle.settings_tree.specs.declared.entry.Owed.TheVariants as owed
use Rattle.template_eval.specs.Rendered.{Rendered}
use Rattle.settings_machine.specs.declared.cause.Cause.{Cause}
use Rattle.settings_machine.specs.declared.cause.Cause.TheVariants as cause
use Rattle.settings_machine.specs.World.{Key, Image, World, Work, Job, Idle, Failed, Running, owes_none, rendered}
use Rattle.settings_machine.specs.Typed.{Wanted, first_wanted}
use Rattle.settings_machine.specs.Requests.{Request, Root, OsNames, Settings, SettingsAt, SettingsBelow}
use Rattle.settings_machine.specs.Requests.{Patch, Services, ConfigurationFiles, Affected, Pends, DropTx, TxList}
use Rattle.settings_machine.specs.Requests.{Commit, Apply, CommitAndApply, JobNow, Set, ApplyAll, Guarded, Plan, PlanFile, Store, Verify, is_success}
use Rattle.settings_machine.specs.Step.{Outcome, Answered, WithoutMemory, Unopened, Faulted, Answer, Fine, NoRoom, FileFault, NoSpawn, SyncFault, OwedFault}
use Rattle.settings_machine.specs.Step.{failing, patch_next, committed_world, begun, asked_for, applied, commit_and_apply_next, answered, request_next}
use Rattle.settings_machine.specs.Step.{wrote, file_turn, Command, ended, command_turn, last_turn, after_files_turn, work_turn, job_turn, turn_next}
use Rattle.settings_machine.specs.Events.{Event, Opened, Asked, Unread, Turned, Began, Moved, Forgot, next, after}
use Rattle.settings_machine.specs.Plans.{first_refusing}
use Rattle.settings_machine.specs.Step.{Next, set_world, set_next, owing_all, changed_by, unless_refusing, guarded_next}
use Rattle.settings_machine.proofs.Guards.{guarded_one}
use Rattle.metadata_links.specs.Links.{files_of}
use Rattle.template_eval.specs.declared.render_error.RenderError.{RenderError}
use Rattle.settings_machine.specs.Settling.{is_applying, commits_alone, leaves_owed, IdleOwesNothing}

-- An idle job owes nothing, and a running one will not when it is idle: it was asked for again, or it noted nothing.
abbrev Settles : Owed → Job → Type 0
Settles o Idle = owes_none o ≡ true
Settles o (Failed c) = Unit {0}
Settles o (Running w) = (w.again ≡ true) ⊎ (w.since ≡ [])

abbrev WillSettle : World → Type 0
WillSettle W = Settles W.held.owed W.job

module _ (I : Image) where
  -- ---- requests for a job

  asked_settles : (o : Owed) (j : Job) → Settles o (asked_for I o j)
  asked_settles o Idle = inr refl
  asked_settles o (Failed c) = inr refl
  asked_settles o (Running w) = inl refl

  applied_settles : (W : World) → WillSettle (applied I W)
  applied_settles W = by (owes_none W.held.owed) refl where
    by : (b : Bool) → owes_none W.held.owed ≡ b → Settles W.held.owed (if b then Idle else asked_for I W.held.owed W.job)
    by true none = none
    by false some = asked_settles W.held.owed W.job

  guarded_first : (W : World) (changed : List Key) (n : Next) → (is_success n.reply ≡ true → WillSettle n.world)
      → is_success (guarded_next I W changed n).reply ≡ true → WillSettle (guarded_next I W changed n).world
  guarded_first W changed n settles well = by (is_success n.reply) refl well where
    unless : (o : Option (List ℕ × RenderError)) → is_success n.reply ≡ true → is_success (unless_refusing W n o).reply ≡ true
        → WillSettle (unless_refusing W n o).world
    unless None is well' = settles is
    unless (Some refusal) is well' = absurd (cc well')

    by : (b : Bool) → is_success n.reply ≡ b
        → is_success (if b then unless_refusing W n (first_refusing I n.world.held.live (files_of I.manifest (owed.Keys changed))) else n).reply ≡ true
        → WillSettle (if b then unless_refusing W n (first_refusing I n.world.held.live (files_of I.manifest (owed.Keys changed))) else n).world
    by true is well' = unless (first_refusing I n.world.held.live (files_of I.manifest (owed.Keys changed))) is well'
    by false is well' = settles well'

  set_settles : (W : World) (pairs : List (Key × Pending)) (o : Option Wanted) → (is_success (set_next I W pairs o).reply ≡ true ⊎ WillSettle W)
      → WillSettle (set_next I W pairs o).world
  set_settles W pairs None either = applied_settles (set_world W pairs)
  set_settles W pairs (Some wanted) (inl well) = absurd (cc well)
  set_settles W pairs (Some wanted) (inr settles) = settles

  first_settles : (W : World) (q : Request) → is_applying q ≡ true → is_success (answered I W q).reply ≡ true → WillSettle (answered I W q).world
  first_settles W Root applies well = absurd (cc applies)
  first_settles W OsNames applies well = absurd (cc applies)
  first_settles W Settings applies well = absurd (cc applies)
  first_settles W (SettingsAt list) applies well = absurd (cc applies)
  first_settles W (SettingsBelow key) applies well = absurd (cc applies)
  first_settles W (Patch tx pairs) applies well = absurd (cc applies)
  first_settles W (Services names) applies well = absurd (cc applies)
  first_settles W (ConfigurationFiles names) applies well = absurd (cc applies)
  first_settles W (Affected list) applies well = absurd (cc applies)
  first_settles W (Pends tx) applies well = absurd (cc applies)
  first_settles W (DropTx tx) applies well = absurd (cc applies)
  first_settles W TxList applies well = absurd (cc applies)
  first_settles W (Commit tx) applies well = absurd (cc applies)
  first_settles W Apply applies well = applied_settles W
  first_settles W (CommitAndApply tx) applies well = by (get W.held.pending tx) well where
    by : (o : Option (FinMap key_cmp Pending)) → is_success (commit_and_apply_next I W tx o).reply ≡ true → WillSettle (commit_and_apply_next I W tx o).world
    by None well' = absurd (cc well')
    by (Some p) well' = applied_settles (committed_world W tx)
  first_settles W JobNow applies well = absurd (cc applies)
  first_settles W (Set pairs) applies well = set_settles W pairs (first_wanted I.types pairs) (inl well)
  first_settles W ApplyAll applies well = applied_settles (owing_all W)
  first_settles W (Guarded q) applies well = guarded_first W (changed_by W q) (answered I W q) (λ well'. first_settles W q applies well') well
  first_settles W (Plan tx) applies well = absurd (cc applies)
  first_settles W (PlanFile file tx) applies well = absurd (cc applies)
  first_settles W Store applies well = absurd (cc applies)
  first_settles W Verify applies well = absurd (cc applies)

  -- ---- other requests

  patch_settles : (W : World) (tx : List ℕ) (pairs : List (Key × Pending)) (o : Option Wanted) → WillSettle W → WillSettle (patch_next W tx pairs o).world
  patch_settles W tx pairs None settles = settles
  patch_settles W tx pairs (Some wanted) settles = settles

  answered_settles : (W : World) (q : Request) → commits_alone q Answered ≡ false → WillSettle W → WillSettle (answered I W q).world
  answered_settles W Root else' settles = settles
  answered_settles W OsNames else' settles = settles
  answered_settles W Settings else' settles = settles
  answered_settles W (SettingsAt list) else' settles = settles
  answered_settles W (SettingsBelow key) else' settles = settles
  answered_settles W (Patch tx pairs) else' settles = patch_settles W tx pairs (first_wanted I.types pairs) settles
  answered_settles W (Services names) else' settles = settles
  answered_settles W (ConfigurationFiles names) else' settles = settles
  answered_settles W (Affected list) else' settles = settles
  answered_settles W (Pends tx) else' settles = settles
  answered_settles W (DropTx tx) else' settles = settles
  answered_settles W TxList else' settles = settles
  answered_settles W (Commit tx) else' settles = absurd (cc else')
  answered_settles W Apply else' settles = applied_settles W
  answered_settles W (CommitAndApply tx) else' settles = by (get W.held.pending tx) where
    by : (o : Option (FinMap key_cmp Pending)) → WillSettle (commit_and_apply_next I W tx o).world
    by None = settles
    by (Some p) = applied_settles (committed_world W tx)
  answered_settles W JobNow else' settles = settles
  answered_settles W (Set pairs) else' settles = set_settles W pairs (first_wanted I.types pairs) (inr settles)
  answered_settles W ApplyAll else' settles = applied_settles (owing_all W)
  answered_settles W (Guarded q) else' settles = guarded_one I WillSettle W (changed_by W q) (answered I W q) settles (answered_settles W q else' settles)
  answered_settles W (Plan tx) else' settles = settles
  answered_settles W (PlanFile file tx) else' settles = settles
  answered_settles W Store else' settles = settles
  answered_settles W Verify else' settles = settles

  -- A request that commits nothing leaves what is owed.
  same_owed : (W : World) (taken : Bool) (q : Request) → commits_alone q (Faulted taken) ≡ false → (answered I W q).world.held.owed ≡ W.held.owed
  same_owed W taken Root else' = refl
  same_owed W taken OsNames else' = refl
  same_owed W taken Settings else' = refl
  same_owed W taken (SettingsAt list) else' = refl
  same_owed W taken (SettingsBelow key) else' = refl
  same_owed W taken (Patch tx pairs) else' = by (first_wanted I.types pairs) where
    by : (o : Option Wanted) → (patch_next W tx pairs o).world.held.owed ≡ W.held.owed
    by None = refl
    by (Some wanted) = refl
  same_owed W taken (Services names) else' = refl
  same_owed W taken (ConfigurationFiles names) else' = refl
  same_owed W taken (Affected list) else' = refl
  same_owed W taken (Pends tx) else' = refl
  same_owed W taken (DropTx tx) else' = refl
  same_owed W taken TxList else' = refl
  same_owed W taken (Commit tx) else' = absurd (cc else')
  same_owed W taken Apply else' = refl
  same_owed W taken (CommitAndApply tx) else' = absurd (cc else')
  same_owed W taken JobNow else' = refl
  same_owed W taken (Set pairs) else' = absurd (cc else')
  same_owed W taken ApplyAll else' = absurd (cc else')
  same_owed W taken (Guarded q) else' =
      guarded_one I (λ (X : World). X.held.owed ≡ W.held.owed) W (changed_by W q) (answered I W q) refl (same_owed W taken q else')
  same_owed W taken (Plan tx) else' = refl
  same_owed W taken (PlanFile file tx) else' = refl
  same_owed W taken Store else' = refl
  same_owed W taken Verify else' = refl

  failing_settles : (o p : Owed) (j : Job) (c : Cause) → p ≡ o → Settles o j → Settles p (failing j c)
  failing_settles o p Idle c same settles = ap owes_none same ∙ settles
  failing_settles o p (Failed d) c same settles = tt
  failing_settles o p (Running w) c same settles = tt

  faulted_settles : (W : World) (q : Request) (taken : Bool) → commits_alone q (Faulted taken) ≡ false → WillSettle W
      → Settles (if taken then (answered I W q).world.held else W.held).owed (failing W.job cause.Disk)
  faulted_settles W q true else' settles = failing_settles W.held.owed _ W.job cause.Disk (same_owed W true q else') settles
  faulted_settles W q false else' settles = failing_settles W.held.owed _ W.job cause.Disk refl settles

  request_settles : (W : World) (q : Request) (o : Outcome) → commits_alone q o ≡ false → WillSettle W → WillSettle (request_next I W q o).world
  unfolding request_next
  request_settles W q Answered else' settles = answered_settles W q else' settles
  request_settles W q WithoutMemory else' settles = settles
  request_settles W q (Unopened at) else' settles = settles
  request_settles W q (Faulted taken) else' settles = faulted_settles W q taken else' settles

  -- ---- turns

  module _ (W : World) (w : Work) (settles : (w.again ≡ true) ⊎ (w.since ≡ [])) where
    wrote_settles : (f : List ℕ) (fs : List (List ℕ)) (r : Rendered) → WillSettle (wrote I W f fs w r)
    wrote_settles f fs (Ok bytes) = settles
    wrote_settles f fs (Err e) = tt

    file_settles : (f : List ℕ) (fs : List (List ℕ)) (a : Answer) → WillSettle (file_turn I W f fs w a)
    file_settles f fs (Fine status) = wrote_settles f fs (rendered I f W.held.live)
    file_settles f fs NoRoom = tt
    file_settles f fs (FileFault left) = tt
    file_settles f fs NoSpawn = tt
    file_settles f fs SyncFault = tt
    file_settles f fs (OwedFault stored) = tt

    command_settles : (c : Command) (cs : List Command) (a : Answer) → WillSettle (command_turn W c cs w a)
    command_settles c cs (Fine status) = by status where
      by : (n : ℕ) → Settles W.held.owed (ended c cs w n)
      by zero = settles
      by (suc n) = tt
    command_settles c cs NoRoom = tt
    command_settles c cs (FileFault left) = tt
    command_settles c cs NoSpawn = tt
    command_settles c cs SyncFault = tt
    command_settles c cs (OwedFault stored) = tt

    -- A job that was not asked for again, or noted nothing, noted nothing.
    noted_none : (w.again && not (owes_none (owed.Keys w.since))) ≡ false → owes_none (owed.Keys w.since) ≡ true
    noted_none else' = ⊎_elim
        (λ again. not-false (owes_none (owed.Keys w.since)) (sym (ap (λ b. b && not (owes_none (owed.Keys w.since))) again) ∙ else'))
        (λ none. ap (λ (l : List Key). owes_none (owed.Keys l)) none)
        settles

    last_settles : (a : Answer) → WillSettle (last_turn I W w a)
    last_settles (Fine status) = by (w.again && not (owes_none (owed.Keys w.since))) refl where
      by : (b : Bool) → (w.again && not (owes_none (owed.Keys w.since))) ≡ b → Settles (owed.Keys w.since) (if b then begun I (owed.Keys w.since) else Idle)
      by true is = inr refl
      by false is = noted_none is
    last_settles NoRoom = tt
    last_settles (FileFault left) = tt
    last_settles NoSpawn = tt
    last_settles SyncFault = tt
    last_settles (OwedFault stored) = tt

    after_files_settle : (cs : List Command) (a : Answer) → WillSettle (after_files_turn I W cs w a)
    after_files_settle [] a = last_settles a
    after_files_settle (c ∷ cs) a = command_settles c cs a

    work_settles : (files : List (List ℕ)) (a : Answer) → WillSettle (work_turn I W files w a)
    work_settles [] a = after_files_settle w.commands a
    work_settles (f ∷ fs) a = file_settles f fs a

  turn_settles : (W : World) (a : Answer) → WillSettle W → WillSettle (turn_next I W a)
  unfolding turn_next
  turn_settles W a settles = by W.job settles where
    by : (j : Job) → Settles W.held.owed j → WillSettle (job_turn I W j a)
    by Idle s = settles
    by (Failed c) s = settles
    by (Running w) s = work_settles W w s w.files a

  -- ---- the law

  next_settles : (W : World) (e : Event) → leaves_owed e ≡ false → WillSettle W → WillSettle (next I W e)
  next_settles W (Opened boot o) else' settles = absurd (cc else')
  next_settles W (Asked q o) else' settles = request_settles W q o else' settles
  next_settles W (Unread why) else' settles = settles
  next_settles W (Turned a) else' settles = turn_settles W a settles
  next_settles W (Began version) else' settles = absurd (cc else')
  next_settles W (Moved version held) else' settles = absurd (cc else')
  next_settles W (Forgot keys) else' settles = absurd (cc else')

  after_settles : (W : World) (events : List Event) → list_any leaves_owed events ≡ false → WillSettle W → WillSettle (after I W events)
  after_settles W [] else' settles = settles
  after_settles W (e ∷ es) else' settles =
      let both = or_parts (leaves_owed e) (list_any leaves_owed es) else' in
      after_settles (next I W e) es both.1 (next_settles W e both.0 settles)

  asked_first : (W : World) (q : Request) → is_applying q ≡ true → is_success (request_next I W q Answered).reply ≡ true
      → WillSettle (request_next I W q Answered).world
  unfolding request_next
  asked_first W q applies well = first_settles W q applies well

pub idle_owes_nothing : IdleOwesNothing
idle_owes_nothing I W q applies well events else' idle =
    let X = after I W (Asked q Answered ∷ events) in
    subst (Settles X.held.owed) idle (after_settles I (request_next I W q Answered).world events else' (asked_first I W q applies well))
