-- What a request leaves alone: the version, the format, the configuration files, and what was due.
use Rattle.std.proofs.Common.{◌≡◌, ℕ, Bool, true, false, if◌then◌else◌, List, Option, Some, None, refl, sym, ◌∙◌, ap, subst}
use Rattle.std.specs.Str.{bytes_eq}
use Rattle.std.specs.FinMap.{FinMap, get}
use Rattle.outside.specs.Names.{Names}
use Rattle.key_names.specs.Order.{key_cmp}
use Rattle.json_trees.specs.declared.pending.Pending.{Pending}
use Rattle.settings_tree.specs.declared.entry.Owed.{Owed}
use Rattle.settings_tree.specs.declared.entry.Owed.TheVariants as owed
use Rattle.settings_tree.specs.declared.held.Held.{Held}
use Rattle.pending_tx.specs.Transactions.{pending_of, last_of, overlaid, committed, changed_in, owing}
use Rattle.metadata_links.specs.Links.{files_of}
use Rattle.settings_machine.specs.declared.cause.Cause.TheVariants as cause
use Rattle.settings_machine.specs.World.{Key, Among, Image, World, due}
use Rattle.settings_machine.specs.Typed.{Wanted, first_wanted}
use Rattle.settings_machine.specs.Requests.{Request, Root, OsNames, Settings, SettingsAt, SettingsBelow}
use Rattle.settings_machine.specs.Requests.{Patch, Services, ConfigurationFiles, Affected, Pends, DropTx, TxList}
use Rattle.settings_machine.specs.Requests.{Commit, Apply, CommitAndApply, JobNow}
use Rattle.settings_machine.specs.Requests.{Set, ApplyAll, Guarded, Plan, PlanFile, Store, Verify}
use Rattle.settings_machine.specs.Step.{Outcome, Answered, WithoutMemory, Unopened, Faulted}
use Rattle.settings_machine.specs.Step.{failing, patch_next, commit_next, commit_and_apply_next, set_next, changed_by}
use Rattle.settings_machine.specs.Step.{answered, request_next}
use Rattle.settings_machine.specs.Paid.{IsDuePath}
use Rattle.settings_machine.proofs.Guards.{guarded_one}
use Rattle.settings_machine.proofs.Reached.{owed_all, owing_old}

-- N has the version, the format and the configuration files of W, and what is due in W is due in N.
pub record Keeps (I : Image) (W N : World) : Type 0 where
  pub version : N.version ≡ W.version
  pub format : N.format ≡ W.format
  pub etc : N.etc ≡ W.etc
  pub due : (path : Names) → IsDuePath I W.held path → IsDuePath I N.held path

module _ (I : Image) where
  same_due : (h k : Held) (path : Names) → k.image ≡ h.image → k.owed ≡ h.owed → IsDuePath I h path → IsDuePath I k path
  same_due h k path image o due' = record {
    file = due'.file;
    due = subst (λ (x : Owed). Among (files_of I.manifest x) due'.file) same due'.due;
    path_is =
        due'.path_is;
  } where
    same : due I h ≡ due I k
    same = sym (ap (λ (t : List ℕ). if bytes_eq t I.text then k.owed else owed.All) image ∙ ap (λ (x : Owed). if bytes_eq h.image I.text then x else owed.All)
        o)

  overlaid_due : (h : Held) (m : FinMap key_cmp Pending) (path : Names) → IsDuePath I h path → IsDuePath I (overlaid h m) path
  overlaid_due h m path due' = record { file = due'.file; due = by (bytes_eq h.image I.text) due'.due; path_is = due'.path_is } where
    by : (b : Bool) → Among (files_of I.manifest (if b then h.owed else owed.All)) due'.file
        → Among (files_of I.manifest (if b then owing h.owed (changed_in h m) else owed.All)) due'.file
    by true at = owing_old I.manifest h.owed (changed_in h m) due'.file at
    by false at = at

  commit_due : (h : Held) (tx : List ℕ) (path : Names) → IsDuePath I h path → IsDuePath I (committed h tx) path
  commit_due h tx path due' =
      let then' : IsDuePath I (overlaid h (pending_of h tx)) path = overlaid_due h (pending_of h tx) path due' in
      record { file = then'.file; due = then'.due; path_is = then'.path_is }

  all_due : (h : Held) (path : Names) → IsDuePath I h path → IsDuePath I (record h { owed = owed.All }) path
  all_due h path due' = record { file = due'.file; due = by (bytes_eq h.image I.text) due'.due; path_is = due'.path_is } where
    by : (b : Bool) → Among (files_of I.manifest (if b then h.owed else owed.All)) due'.file
        → Among (files_of I.manifest (if b then owed.All else owed.All)) due'.file
    by true at = owed_all I.manifest h.owed due'.file at
    by false at = at

  keeps_all : (W N : World) → N.version ≡ W.version → N.format ≡ W.format → N.etc ≡ W.etc → N.held.image ≡ W.held.image → N.held.owed ≡ W.held.owed
      → Keeps I W N
  keeps_all W N version format etc image o = record {
    version = version;
    format = format;
    etc = etc;
    due =
        λ path due'. same_due W.held N.held path image o due';
  }

  stays_all : (W : World) → Keeps I W W
  stays_all W = keeps_all W W refl refl refl refl refl

  patch_keeps : (W : World) (tx : List ℕ) (pairs : List (Key × Pending)) (o : Option Wanted) → Keeps I W (patch_next W tx pairs o).world
  patch_keeps W tx pairs None = keeps_all W (patch_next W tx pairs None).world refl refl refl refl refl
  patch_keeps W tx pairs (Some wanted) = stays_all W

  commit_keeps : (W : World) (tx : List ℕ) (o : Option (FinMap key_cmp Pending)) → Keeps I W (commit_next W tx o).world
  commit_keeps W tx None = stays_all W
  commit_keeps W tx (Some p) = record { version = refl; format = refl; etc = refl; due = commit_due W.held tx }

  commit_and_apply_keeps : (W : World) (tx : List ℕ) (o : Option (FinMap key_cmp Pending)) → Keeps I W (commit_and_apply_next I W tx o).world
  commit_and_apply_keeps W tx None = stays_all W
  commit_and_apply_keeps W tx (Some p) = record { version = refl; format = refl; etc = refl; due = commit_due W.held tx }

  set_keeps : (W : World) (pairs : List (Key × Pending)) (o : Option Wanted) → Keeps I W (set_next I W pairs o).world
  set_keeps W pairs None = record { version = refl; format = refl; etc = refl; due = overlaid_due W.held (last_of pairs) }
  set_keeps W pairs (Some wanted) = stays_all W

  pub answered_keeps : (W : World) (q : Request) → Keeps I W (answered I W q).world
  answered_keeps W Root = stays_all W
  answered_keeps W OsNames = stays_all W
  answered_keeps W Settings = stays_all W
  answered_keeps W (SettingsAt list) = stays_all W
  answered_keeps W (SettingsBelow key) = stays_all W
  answered_keeps W (Patch tx pairs) = patch_keeps W tx pairs (first_wanted I.types pairs)
  answered_keeps W (Services names) = stays_all W
  answered_keeps W (ConfigurationFiles names) = stays_all W
  answered_keeps W (Affected list) = stays_all W
  answered_keeps W (Pends tx) = stays_all W
  answered_keeps W (DropTx tx) = keeps_all W (answered I W (DropTx tx)).world refl refl refl refl refl
  answered_keeps W TxList = stays_all W
  answered_keeps W (Commit tx) = commit_keeps W tx (get W.held.pending tx)
  answered_keeps W Apply = keeps_all W (answered I W Apply).world refl refl refl refl refl
  answered_keeps W (CommitAndApply tx) = commit_and_apply_keeps W tx (get W.held.pending tx)
  answered_keeps W JobNow = stays_all W
  answered_keeps W (Set pairs) = set_keeps W pairs (first_wanted I.types pairs)
  answered_keeps W ApplyAll = record { version = refl; format = refl; etc = refl; due = all_due W.held }
  answered_keeps W (Guarded q) = guarded_one I (Keeps I W) W (changed_by W q) (answered I W q) (stays_all W) (answered_keeps W q)
  answered_keeps W (Plan tx) = stays_all W
  answered_keeps W (PlanFile file tx) = stays_all W
  answered_keeps W Store = stays_all W
  answered_keeps W Verify = stays_all W

  -- A request that was answered, or taken at a fault.
  pub request_keeps : (W : World) (q : Request) (o : Outcome) → Keeps I W (request_next I W q o).world
  unfolding request_next
  request_keeps W q Answered = answered_keeps W q
  request_keeps W q WithoutMemory = stays_all W
  request_keeps W q (Unopened at) = stays_all W
  request_keeps W q (Faulted taken) = by taken where
    by : (b : Bool) → Keeps I W (record W { held = if b then (answered I W q).world.held else W.held; job = failing W.job cause.Disk })
    by true = let k : Keeps I W (answered I W q).world = answered_keeps W q in record { version = refl; format = refl; etc = refl; due = k.due }
    by false = keeps_all W _ refl refl refl refl refl
