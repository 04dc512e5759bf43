-- The laws of changes at once, of guarded changes and of plans.
use Rattle.std.specs.Prelude.{◌≡◌, ◌≢◌, ◌↔◌, ℕ, Bool, true, false, List, [], ◌∷◌, ◌++◌, Option, Some, None, Err, map}
use Rattle.std.specs.FinMap.{get}
use Rattle.outside.specs.Names.{Names}
use Rattle.json_trees.specs.declared.pending.Pending.{Pending}
use Rattle.settings_tree.specs.Content.{Contents}
use Rattle.settings_tree.specs.declared.entry.Owed.TheVariants as owed
use Rattle.metadata_links.specs.Links.{files_of}
use Rattle.template_eval.specs.declared.render_error.RenderError.{RenderError}
use Rattle.settings_machine.specs.declared.cause.Cause.TheVariants as cause
use Rattle.settings_machine.specs.declared.refusal.Refusal.TheVariants.{NotRendered}
use Rattle.settings_machine.specs.World.{Key, Among, Image, World, Idle, Failed, Running, is_running, owes_none, path_of, rendered}
use Rattle.settings_machine.specs.Requests.{Request, Patch, Apply, CommitAndApply, Set, Guarded, Plan, PlanFile}
use Rattle.settings_machine.specs.Requests.{Planned, PlanIs, FileIs, Said, Refused, is_success}
use Rattle.settings_machine.specs.Step.{stays, changed_by, answered}
use Rattle.settings_machine.specs.Events.{after}
use Rattle.settings_machine.specs.Calm.{calm_turn, turns_for, calm_turns, AllRender, run_well}
use Rattle.settings_machine.specs.Paid.{IsGood}

-- ---- changes at once

-- To set pairs at once is what it is to begin a transaction with them, and to commit and apply it.
pub record IsOneChange (I : Image) (W : World) (tx : List ℕ) (pairs : List (Key × Pending)) : Type 0 where
  -- where the transaction takes the pairs, its commit with apply has the world and the reply of setting them at once;
  pub taken : is_success (answered I W (Patch tx pairs)).reply ≡ true
      → answered I (answered I W (Patch tx pairs)).world (CommitAndApply tx) ≡ answered I W (Set pairs)
  -- where it refuses them, they are refused at once with the same reply
  pub refused : is_success (answered I W (Patch tx pairs)).reply ≡ false → answered I W (Patch tx pairs) ≡ answered I W (Set pairs)

-- So it is with each transaction that isn't there, and with each list of pairs that isn't empty.
abbrev pub SetIsOneChange : Type 0
SetIsOneChange = (I : Image) (W : World) (tx : List ℕ) (pairs : List (Key × Pending)) → get W.held.pending tx ≡ None → pairs ≢ [] → IsOneChange I W tx pairs

-- ---- guarded changes

-- The contents have other values at these keys, and at no others.
pub record DifferAt (keys : List Key) (one other : Contents) : Type 0 where
  pub each : (key : Key) → Among keys key → get one.values key ≢ get other.values key
  pub alone : (key : Key) → (Among keys key → ⊥) → get one.values key ≡ get other.values key

-- The file is the first of the list whose template refuses, and this is why.
pub record IsFirstRefusal (I : Image) (live : Contents) (files : List (List ℕ)) (f : List ℕ) (e : RenderError) : Type 0 where
  pub front : List (List ℕ)
  pub rest : List (List ℕ)
  pub listed : files ≡ front ++ f ∷ rest
  pub before : AllRender I live front
  pub refuses : rendered I f live ≡ Err e

-- Whether the request is a guarded one.
abbrev pub is_guarded : Request → Bool
is_guarded (Guarded q) = true
is_guarded _ = false

-- The files of the keys that a request changes, in the order of a job.
abbrev pub guarded_files : Image → World → Request → List (List ℕ)
guarded_files I W q = files_of I.manifest (owed.Keys (changed_by W q))

-- Each of them renders on what is live after the request.
abbrev pub GuardedRender : Image → World → Request → Type 0
GuardedRender I W q = AllRender I (answered I W q).world.held.live (guarded_files I W q)

-- One of them is the first that doesn't.
abbrev pub GuardRefuses : Image → World → Request → List ℕ → RenderError → Type 0
GuardRefuses I W q f e = IsFirstRefusal I (answered I W q).world.held.live (guarded_files I W q) f e

-- What a guard makes of a request.
pub record IsGuarded (I : Image) (W : World) (q : Request) : Type 0 where
  -- the keys whose files count are those at which a request that is answered with success changes the live values, and no others;
  pub changed : is_guarded q ≡ false → is_success (answered I W q).reply ≡ true
      → DifferAt (changed_by W q) W.held.live (answered I W q).world.held.live
  -- what is answered with success is what the request does by itself,
  pub taken : is_success (answered I W (Guarded q)).reply ≡ true → answered I W (Guarded q) ≡ answered I W q
  -- and then each of these files renders on what is live since;
  pub renders : is_success (answered I W (Guarded q)).reply ≡ true → GuardedRender I W q
  -- where each of them renders, the guard changes nothing;
  pub passes : GuardedRender I W q → answered I W (Guarded q) ≡ answered I W q
  -- nor does it where the request is refused by itself;
  pub alike : is_success (answered I W q).reply ≡ false → answered I W (Guarded q) ≡ answered I W q
  -- where one of the files of a request that would succeed refuses, the world stays, and the reply has the first of them, and why;
  pub stops : is_success (answered I W q).reply ≡ true → (f : List ℕ) (e : RenderError) → GuardRefuses I W q f e
      → answered I W (Guarded q) ≡ stays W (Refused (NotRendered f e))
  -- and the file that the reply has is the first of them that refuses
  pub first : is_success (answered I W q).reply ≡ true → (f : List ℕ) (e : RenderError) → (answered I W (Guarded q)).reply ≡ Refused (NotRendered f e)
      → GuardRefuses I W q f e

-- Each request is guarded so in each world.
abbrev pub GuardsHold : Type 0
GuardsHold = (I : Image) (W : World) (q : Request) → IsGuarded I W q

-- ---- plans

-- The request that carries a plan out: apply now, or after the commit of a transaction.
abbrev pub carrying_out : Option (List ℕ) → Request
carrying_out None = Apply
carrying_out (Some tx) = CommitAndApply tx

-- A file with its path.
abbrev pub Placed : Type 0
Placed = List ℕ × Names

-- The files of a list, without their paths.
abbrev pub named : List Placed → List (List ℕ)
named files = map (λ x. x.0) files

-- What X is, which W became when a plan began to be carried out.
pub record BeginsAsPlanned (I : Image) (W X : World) (plan : Planned) : Type 0 where
  -- its live values are others than those of W at the keys of the plan, and at no others;
  pub changed : DifferAt plan.changed W.held.live X.held.live
  -- it owes what the plan says;
  pub owes : X.held.owed ≡ plan.owed
  -- where that is nothing, its job is idle,
  pub idle : owes_none plan.owed ≡ true → X.job ≡ Idle
  -- and else it runs, with the files and the commands of the plan to do, in order, and has noted nothing and wasn't asked for again;
  pub runs : owes_none plan.owed ≡ false → X.job ≡ Running (record { files = named plan.files; commands = plan.commands; since = []; again = false })
  -- each file of the plan has the path at which the job writes it;
  pub paths : (f : List ℕ) (path : Names) → Among plan.files (f, path) → path ≡ path_of I f
  -- no file is written yet, and no program was run
  pub etc : X.etc ≡ W.etc
  pub ran : X.runs ≡ W.runs

-- At the path in Y are the bytes that W answers of the file.
pub record IsWrittenAsPlanned (I : Image) (W Y : World) (tx : Option (List ℕ)) (f : List ℕ) (path : Names) : Type 0 where
  pub bytes : List ℕ
  pub planned : (answered I W (PlanFile f tx)).reply ≡ Said (FileIs bytes)
  pub written : get Y.etc path ≡ Some bytes

-- From W to Y each of these files was written with the bytes that W answers of it, and every other path has what it had.
pub record AreWrittenAsPlanned (I : Image) (W Y : World) (tx : Option (List ℕ)) (files : List Placed) : Type 0 where
  pub each : (f : List ℕ) (path : Names) → Among files (f, path) → IsWrittenAsPlanned I W Y tx f path
  pub others : (path : Names) → ((f : List ℕ) → Among files (f, path) → ⊥) → get Y.etc path ≡ get W.etc path

-- What Y is, to which the job of a plan has led from X, where no template refused.
pub record EndsAsPlanned (I : Image) (W X Y : World) (tx : Option (List ℕ)) (plan : Planned) : Type 0 where
  -- it owes nothing, and holds else what X does;
  pub held : Y.held ≡ record X.held { owed = owed.Keys [] }
  -- its job is idle;
  pub idle : Y.job ≡ Idle
  -- the files of the plan were written as planned, and no others;
  pub files : AreWrittenAsPlanned I W Y tx plan.files
  -- the programs that were run are the commands of the plan, in order, each with exit status 0
  pub programs : Y.runs ≡ W.runs ++ map run_well plan.commands

-- The world after a calm turn for each of some files, and one more.
abbrev pub one_beyond : Image → World → List Placed → World
one_beyond I X files = after I X (turns_for files ++ calm_turn ∷ [])

-- Where the job of a plan stops that began in X, since the template of a file refuses.
pub record StopsAsPlanned (I : Image) (W X : World) (tx : Option (List ℕ)) (plan : Planned) (f : List ℕ) (e : RenderError) : Type 0 where
  -- the file is one of the plan, after some others;
  pub front : List Placed
  pub rest : List Placed
  pub listed : plan.files ≡ front ++ (f, path_of I f) ∷ rest
  -- W answers of it that it doesn't render, and why;
  pub planned : (answered I W (PlanFile f tx)).reply ≡ Refused (NotRendered f e)
  -- a turn after those for the files before, the job has failed for that;
  pub fails : (one_beyond I X front).job ≡ Failed (cause.Render f e)
  -- all is held as before, so what was owed still is;
  pub held : (one_beyond I X front).held ≡ X.held
  -- the files before were written as planned, and no others;
  pub files : AreWrittenAsPlanned I W (one_beyond I X front) tx front
  -- no program was run
  pub programs : (one_beyond I X front).runs ≡ W.runs

-- What becomes of a plan that W answers, where X is the world once it was asked to be carried out.
pub record ComesTrue (I : Image) (W X : World) (tx : Option (List ℕ)) (plan : Planned) : Type 0 where
  -- its job begins as planned;
  pub begins : BeginsAsPlanned I W X plan
  -- the files that it says to refuse are those of its files of which W answers that they don't render, each with why;
  pub refused : IsGood I → (f : List ℕ) (e : RenderError) → Among plan.refused (f, e) ↔
      (Among (named plan.files) f × ((answered I W (PlanFile f tx)).reply ≡ Refused (NotRendered f e)))
  -- where there are none, and something is owed, the calm turns of the job end as planned;
  pub ends : IsGood I → plan.refused ≡ [] → owes_none plan.owed ≡ false
      → EndsAsPlanned I W X (after I X (calm_turns (named plan.files) plan.commands)) tx plan
  -- and else they stop at the first of them
  pub stops : IsGood I → (f : List ℕ) (e : RenderError) (rest : List (List ℕ × RenderError)) → plan.refused ≡ (f, e) ∷ rest
      → StopsAsPlanned I W X tx plan f e

-- A plan that is answered while no job runs comes true.
abbrev pub PlansComeTrue : Type 0
PlansComeTrue = (I : Image) (W : World) (tx : Option (List ℕ)) (plan : Planned) → is_running W.job ≡ false
    → (answered I W (Plan tx)).reply ≡ Said (PlanIs plan)
    → ComesTrue I W (answered I W (carrying_out tx)).world tx plan
