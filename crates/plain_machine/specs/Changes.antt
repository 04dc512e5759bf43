-- Changes of the live settings that would be made, in the machine's words.
use Rattle.std.specs.Prelude.{◌≡◌, ℕ, List, [], Option, Some, None, Result, Ok, Err}
use Rattle.std.specs.Option.{option_map}
use Rattle.std.specs.FinMap.{FinMap, get, keys}
use Rattle.key_names.specs.Order.{key_cmp}
use Rattle.json_trees.specs.declared.pending.Pending.{Pending}
use Rattle.settings_tree.specs.Content.{Contents}
use Rattle.settings_tree.specs.declared.entry.Owed.TheVariants.{Keys}
use Rattle.settings_tree.specs.declared.held.Held.{Held}
use Rattle.pending_tx.specs.Transactions.{keys_of, changed_keys, committed, last_of, changed_in, set_at_once}
use Rattle.metadata_links.specs.Links.{files_of}
use Rattle.settings_machine.specs.World.{Key, Image, World, rendered}
use Rattle.settings_machine.specs.Plans.{first_refusing, rendered_reply}
use Rattle.settings_machine.specs.Requests.{Request, Guarded, FileIs, Refused}
use Rattle.settings_machine.specs.Step.{Next, stays, noting, applied, answered}
use Rattle.settings_machine.specs.JobSeen.{job_seen}
use Rattle.settings_machine.specs.declared.refusal.Refusal.{Refusal}
use Rattle.settings_machine.specs.declared.refusal.Refusal.TheVariants.{NoPending, NotRendered}
use Rattle.plain_machine.specs.Plain.{reply_by}
use Rattle.plain_machine.specs.Steps.{HoldsImage}
use Rattle.plain_machine.specs.Worlds.{world_of}
use Rattle.plain_machine.specs.declared.after.After.{After}
use Rattle.plain_machine.specs.declared.image.PlainImage.{PlainImage}
use Rattle.plain_machine.specs.declared.machine.PlainMachine.{PlainMachine}

-- ---- what would be held

-- What would be held after the commit of a transaction, if it is there.
abbrev pub after_pending : Held → List ℕ → Option (FinMap key_cmp Pending) → Option After
after_pending held tx None = None
after_pending held tx (Some pending) = Some (record { held = committed held tx; keys = keys_of held tx; changed = changed_keys held tx })

abbrev pub after_commit : Held → List ℕ → Option After
after_commit held tx = after_pending held tx (get held.pending tx)

-- What would be held after pairs are set at once.
abbrev pub after_set : Held → List (Key × Pending) → After
after_set held pairs = record { held = set_at_once held pairs; keys = keys (last_of pairs); changed = changed_in held (last_of pairs) }

-- The same where there is such a transaction, and that it isn't there.
abbrev pub unless_missing : List ℕ → Option After → Result After Refusal
unless_missing tx None = Err (NoPending tx)
unless_missing tx (Some after) = Ok after

-- What is held, or would be after the commit of a transaction.
abbrev pub after_of : Held → Option (List ℕ) → Result After Refusal
after_of held None = Ok (record { held = held; keys = []; changed = [] })
after_of held (Some tx) = unless_missing tx (after_commit held tx)

-- What would be held was taken, and applied.
abbrev pub IsTaken : PlainImage → PlainMachine → After → PlainMachine → Type 0
IsTaken image old after new = (I : Image) → HoldsImage I image
    → world_of new ≡ applied I (record (world_of old) { held = after.held; job = noting (job_seen old.job) after.changed })

-- ---- guards

-- Why a change is refused after which this would be held: the template of a file of the changed keys refuses.
abbrev pub IsRefusedOver : PlainImage → After → Option Refusal → Type 0
IsRefusedOver image after refusal = (I : Image) → HoldsImage I image
    → refusal ≡ option_map (λ r. NotRendered r.0 r.1) (first_refusing I after.held.live (files_of I.manifest (Keys after.changed)))

-- What was to come next, unless the request is refused for this.
abbrev pub unless_refused : World → Next → Option Refusal → Next
unless_refused W n None = n
unless_refused W n (Some refusal) = stays W (Refused refusal)

-- Its guard refuses the request for this, or lets it be made.
abbrev pub IsGuardedBy : PlainImage → PlainMachine → Request → Option Refusal → Type 0
IsGuardedBy image m q refusal = (I : Image) → HoldsImage I image
    → answered I (world_of m) (Guarded q) ≡ unless_refused (world_of m) (answered I (world_of m) q) refusal

-- ---- files

-- The file over these live values, or why its template refuses.
abbrev pub IsFileOver : PlainImage → Contents → List ℕ → Result (List ℕ) Refusal → Type 0
IsFileOver image live file told = (I : Image) → HoldsImage I image → rendered_reply file (rendered I file live) ≡ reply_by FileIs told
