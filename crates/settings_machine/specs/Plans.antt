-- Plans: what a job would do, and what it would write.
use Rattle.std.specs.Prelude.{ℕ, List, [], ◌∷◌, ◌++◌, Option, Some, None, is_some, map, Ok, Err, if◌then◌else◌}
use Rattle.std.specs.FinMap.{FinMap, get}
use Rattle.key_names.specs.Order.{key_cmp}
use Rattle.json_trees.specs.declared.pending.Pending.{Pending}
use Rattle.settings_tree.specs.Content.{Contents}
use Rattle.settings_tree.specs.declared.held.Held.{Held}
use Rattle.pending_tx.specs.Transactions.{changed_keys, committed}
use Rattle.metadata_links.specs.Links.{files_of, commands_of}
use Rattle.template_eval.specs.Rendered.{Rendered}
use Rattle.template_eval.specs.declared.render_error.RenderError.{RenderError}
use Rattle.settings_machine.specs.declared.refusal.Refusal.TheVariants.{NoName, NoPending, NotRendered}
use Rattle.settings_machine.specs.World.{Key, Image, path_of, rendered}
use Rattle.settings_machine.specs.Requests.{Planned, PlanIs, FileIs, Reply, Said, Refused}

-- ---- files whose templates refuse

-- Why the template of a file refuses, if it does.
abbrev pub refusal_in : List ℕ → Rendered → List (List ℕ × RenderError)
refusal_in file (Ok bytes) = []
refusal_in file (Err error) = (file, error) ∷ []

-- Those of the files whose templates refuse on these live values, each with why.
abbrev pub refusing : Image → Contents → List (List ℕ) → List (List ℕ × RenderError)
refusing I live [] = []
refusing I live (file ∷ files) = refusal_in file (rendered I file live) ++ refusing I live files

-- The first of a list.
abbrev pub first_in : {X : Type 0} → List X → Option X
first_in [] = None
first_in (x ∷ xs) = Some x

-- The first of them.
abbrev pub first_refusing : Image → Contents → List (List ℕ) → Option (List ℕ × RenderError)
first_refusing I live files = first_in (refusing I live files)

-- ---- plans

-- The plan of a job that pays what is owed, where these keys are changed before.
abbrev pub plan_of : Image → List Key → Held → Planned
plan_of I changed held = record {
  changed = changed;
  owed = held.owed;
  files = map (λ file. (file, path_of I file)) (files_of I.manifest held.owed);
  commands = commands_of I.manifest held.owed;
  refused = refusing I held.live (files_of I.manifest held.owed);
}

-- The plan after the commit of a transaction that is there.
abbrev pub committed_plan : Image → Held → List ℕ → Option (FinMap key_cmp Pending) → Reply
committed_plan I held tx None = Refused (NoPending tx)
committed_plan I held tx (Some pending) = Said (PlanIs (plan_of I (changed_keys held tx) (committed held tx)))

-- The plan now, or after the commit of a transaction.
abbrev pub plan_reply : Image → Held → Option (List ℕ) → Reply
plan_reply I held None = Said (PlanIs (plan_of I [] held))
plan_reply I held (Some tx) = committed_plan I held tx (get held.pending tx)

-- ---- files as they would be

-- The bytes of a file, or why its template refuses.
abbrev pub rendered_reply : List ℕ → Rendered → Reply
rendered_reply file (Ok bytes) = Said (FileIs bytes)
rendered_reply file (Err error) = Refused (NotRendered file error)

-- The file after the commit of a transaction that is there.
abbrev pub committed_file : Image → Held → List ℕ → List ℕ → Option (FinMap key_cmp Pending) → Reply
committed_file I held file tx None = Refused (NoPending tx)
committed_file I held file tx (Some pending) = rendered_reply file (rendered I file (committed held tx).live)

-- The file now, or after the commit of a transaction.
abbrev pub planned_file : Image → Held → List ℕ → Option (List ℕ) → Reply
planned_file I held file None = rendered_reply file (rendered I file held.live)
planned_file I held file (Some tx) = committed_file I held file tx (get held.pending tx)

-- The same, unless the manifest has no such file.
abbrev pub file_reply : Image → Held → List ℕ → Option (List ℕ) → Reply
file_reply I held file tx = if is_some (get I.manifest.files file) then planned_file I held file tx else Refused (NoName file)
