-- A job that is begun, and for which no key is noted, pays what is owed.
use Rattle.std.proofs.Common.{◌≡◌, ◌&&◌, ℕ, zero, suc, Bool, true, false, not, if◌then◌else◌, List, [], ◌∷◌, Option, Some, None, Ok, Err, refl, sym, ap, subst}
use Rattle.std.specs.FinMap.{FinMap, get}
use Rattle.key_names.specs.Order.{key_cmp}
use Rattle.json_trees.specs.declared.pending.Pending.{Pending}
use Rattle.settings_tree.specs.declared.entry.Owed.{Owed}
use Rattle.settings_tree.specs.declared.entry.Owed.TheVariants as owed
use Rattle.template_eval.specs.Rendered.{Rendered}
use Rattle.pending_tx.specs.Transactions.{changed_keys}
use Rattle.settings_machine.specs.World.{Key, Image, World, Work, Job, Idle, Failed, Running, owes_none, rendered}
use Rattle.settings_machine.specs.Typed.{Wanted, first_wanted}
use Rattle.settings_machine.specs.Requests.{Request, DropTx, Patch, CommitAndApply, is_success}
use Rattle.settings_machine.specs.Step.{Answered, Answer, Fine, NoRoom, FileFault, NoSpawn, SyncFault, OwedFault, Command}
use Rattle.settings_machine.specs.Step.{noting, begun, asked_for, applied, owing_all, committed_world, patch_next, commit_and_apply_next, request_next}
use Rattle.settings_machine.specs.Step.{wrote, file_turn, ran, command_turn, resting, last_turn, after_files_turn, work_turn, job_turn, turn_next}
use Rattle.settings_machine.specs.Events.{Event, Opened, Asked, Unread, Turned, Began, Moved, Forgot, next, after}
use Rattle.machine_disk.specs.Ran.{IsDriven}
use Rattle.core_commands.specs.Asking.{asked_all}
use Rattle.core_commands.specs.Carried.{HasEnded, set_tx, puts_of, set_requests, apply_requests}
use Rattle.core_commands.specs.Laws.{SetPays, ApplyPays}

-- An idle job owes nothing, and a running one has noted no key.
abbrev Pays : Job → Owed → Type 0
Pays Idle o = owes_none o ≡ true
Pays (Failed c) o = Unit {0}
Pays (Running w) o = w.since ≡ []

-- ---- turns

module _ (I : Image) (W : World) (w : Work) (none : w.since ≡ []) where
  wrote_pays : (f : List ℕ) (fs : List (List ℕ)) (r : Rendered) → Pays (wrote I W f fs w r).job (wrote I W f fs w r).held.owed
  wrote_pays f fs (Ok bytes) = none
  wrote_pays f fs (Err e) = tt

  file_pays : (f : List ℕ) (fs : List (List ℕ)) (a : Answer) → Pays (file_turn I W f fs w a).job (file_turn I W f fs w a).held.owed
  file_pays f fs (Fine status) = wrote_pays f fs (rendered I f W.held.live)
  file_pays f fs NoRoom = tt
  file_pays f fs (FileFault left) = tt
  file_pays f fs NoSpawn = tt
  file_pays f fs SyncFault = tt
  file_pays f fs (OwedFault stored) = tt

  ran_pays : (c : Command) (cs : List Command) (status : ℕ) → Pays (ran W c cs w status).job (ran W c cs w status).held.owed
  ran_pays c cs zero = none
  ran_pays c cs (suc n) = tt

  command_pays : (c : Command) (cs : List Command) (a : Answer) → Pays (command_turn W c cs w a).job (command_turn W c cs w a).held.owed
  command_pays c cs (Fine status) = ran_pays c cs status
  command_pays c cs NoRoom = tt
  command_pays c cs (FileFault left) = tt
  command_pays c cs NoSpawn = tt
  command_pays c cs SyncFault = tt
  command_pays c cs (OwedFault stored) = tt

  since_none : owes_none (owed.Keys w.since) ≡ true
  since_none = ap (λ (l : List Key). owes_none (owed.Keys l)) none

  rests : resting I w ≡ Idle
  rests = by w.again (owes_none (owed.Keys w.since)) since_none where
    by : (again b : Bool) → b ≡ true → (if again && not b then begun I (owed.Keys w.since) else Idle) ≡ Idle
    by true true is = refl
    by false true is = refl
    by true false is = absurd (cc is)
    by false false is = refl

  last_pays : (a : Answer) → Pays (last_turn I W w a).job (last_turn I W w a).held.owed
  last_pays (Fine status) = subst (λ (j : Job). Pays j (owed.Keys w.since)) (sym rests) since_none
  last_pays NoRoom = tt
  last_pays (FileFault left) = tt
  last_pays NoSpawn = tt
  last_pays SyncFault = tt
  last_pays (OwedFault stored) = tt

  after_files_pays : (cs : List Command) (a : Answer) → Pays (after_files_turn I W cs w a).job (after_files_turn I W cs w a).held.owed
  after_files_pays [] a = last_pays a
  after_files_pays (c ∷ cs) a = command_pays c cs a

  work_pays : (fs : List (List ℕ)) (a : Answer) → Pays (work_turn I W fs w a).job (work_turn I W fs w a).held.owed
  work_pays [] a = after_files_pays w.commands a
  work_pays (f ∷ fs) a = file_pays f fs a

job_pays : (I : Image) (W : World) (j : Job) (a : Answer) → W.job ≡ j → Pays j W.held.owed → Pays (job_turn I W j a).job (job_turn I W j a).held.owed
job_pays I W Idle a is pays = subst (λ (x : Job). Pays x W.held.owed) (sym is) pays
job_pays I W (Failed c) a is pays = subst (λ (x : Job). Pays x W.held.owed) (sym is) pays
job_pays I W (Running w) a is pays = work_pays I W w pays w.files a

turn_pays : (I : Image) (W : World) (a : Answer) → Pays W.job W.held.owed → Pays (turn_next I W a).job (turn_next I W a).held.owed
unfolding turn_next
turn_pays I W a pays = job_pays I W W.job a refl pays

turns_pay : (I : Image) (W : World) (events : List Event) → IsDriven I W events → Pays W.job W.held.owed
    → Pays (after I W events).job (after I W events).held.owed
turns_pay I W [] driven pays = pays
turns_pay I W (Turned a ∷ es) driven pays = turns_pay I (turn_next I W a) es driven.2 (turn_pays I W a pays)
turns_pay I W (Opened boot o ∷ es) driven pays = absurd driven
turns_pay I W (Asked q o ∷ es) driven pays = absurd driven
turns_pay I W (Unread why ∷ es) driven pays = absurd driven
turns_pay I W (Began v ∷ es) driven pays = absurd driven
turns_pay I W (Moved v h ∷ es) driven pays = absurd driven
turns_pay I W (Forgot keys ∷ es) driven pays = absurd driven

-- ---- requests

applied_pays : (I : Image) (W : World) → W.job ≡ Idle → Pays (applied I W).job (applied I W).held.owed
applied_pays I W idle = by (owes_none W.held.owed) refl where
  by : (b : Bool) → owes_none W.held.owed ≡ b → Pays (if b then Idle else asked_for I W.held.owed W.job) W.held.owed
  by true is = is
  by false is = subst (λ (j : Job). Pays (asked_for I W.held.owed j) W.held.owed) (sym idle) refl

apply_pays : (I : Image) (W : World) → W.job ≡ Idle → (all : Bool) → Pays (after I W (asked_all (apply_requests all))).job
    (after I W (asked_all (apply_requests all))).held.owed
unfolding request_next
apply_pays I W idle true = applied_pays I (owing_all W) idle
apply_pays I W idle false = applied_pays I W idle

commit_pays : (I : Image) (W : World) (tx : List ℕ) → W.job ≡ Idle → is_success (request_next I W (CommitAndApply tx) Answered).reply ≡ true
    → Pays (request_next I W (CommitAndApply tx) Answered).world.job (request_next I W (CommitAndApply tx) Answered).world.held.owed
unfolding request_next
commit_pays I W tx idle fine = by (get W.held.pending tx) fine where
  by : (o : Option (FinMap key_cmp Pending)) → is_success (commit_and_apply_next I W tx o).reply ≡ true
      → Pays (commit_and_apply_next I W tx o).world.job (commit_and_apply_next I W tx o).world.held.owed
  by None is = absurd (cc is)
  by (Some p) is = applied_pays I (committed_world W tx) (ap (λ (j : Job). noting j (changed_keys W.held tx)) idle)

drop_idle : (I : Image) (W : World) (tx : List ℕ) → W.job ≡ Idle → (request_next I W (DropTx tx) Answered).world.job ≡ Idle
unfolding request_next
drop_idle I W tx idle = idle

patch_idle : (I : Image) (W : World) (tx : List ℕ) (pairs : List (Key × Pending)) → W.job ≡ Idle → (request_next I W (Patch tx pairs) Answered).world.job ≡ Idle
unfolding request_next
patch_idle I W tx pairs idle = by (first_wanted I.types pairs) where
  by : (o : Option Wanted) → (patch_next W tx pairs o).world.job ≡ Idle
  by None = idle
  by (Some wanted) = idle

ends_paid : (I : Image) (W : World) (qs : List Request) (asked turned : List Event) → HasEnded I W qs Idle asked turned
    → Pays (after I W (asked_all qs)).job (after I W (asked_all qs)).held.owed → owes_none (after I (after I W asked) turned).held.owed ≡ true
ends_paid I W qs asked turned ends pays =
    let start : Pays (after I W asked).job (after I W asked).held.owed =
    subst (λ (es : List Event). Pays (after I W es).job (after I W es).held.owed) (sym ends.succeeds.events_are) pays in
    subst (λ (j : Job). Pays j (after I (after I W asked) turned).held.owed) ends.job_is (turns_pay I (after I W asked) turned ends.driven start)

pub set_pays : SetPays
set_pays I W idle pairs asked turned ends =
    let X = next I W (Asked (DropTx set_tx) Answered) in
    let Y = next I X (Asked (Patch set_tx (puts_of pairs)) Answered) in
    ends_paid I W (set_requests pairs) asked turned ends
    (commit_pays I Y set_tx (patch_idle I X set_tx (puts_of pairs) (drop_idle I W set_tx idle)) ends.succeeds.answered.1.1.0)

pub apply_pays_all : ApplyPays
apply_pays_all I W idle all asked turned ends = ends_paid I W (apply_requests all) asked turned ends (apply_pays I W idle all)
