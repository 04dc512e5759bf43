-- What a running job comes to while nothing fails.
use Rattle.std.specs.Prelude.{◌≡◌, ℕ, false, List, [], ◌∷◌, ◌++◌, Ok, Err, fold, map}
use Rattle.std.specs.FinMap.{insert}
use Rattle.outside.specs.Spawner.{Run}
use Rattle.settings_tree.specs.Content.{Contents}
use Rattle.settings_tree.specs.declared.entry.Owed.TheVariants as owed
use Rattle.metadata_links.specs.Links.{files_of, commands_of}
use Rattle.template_eval.specs.Rendered.{Rendered}
use Rattle.template_eval.specs.declared.render_error.RenderError.{RenderError}
use Rattle.settings_machine.specs.declared.cause.Cause.TheVariants as cause
use Rattle.settings_machine.specs.World.{Among, Image, World, Files, Work, Idle, Failed, Running, is_running, owes_none, path_of, rendered}
use Rattle.settings_machine.specs.Requests.{Apply}
use Rattle.settings_machine.specs.Step.{Answered, Fine, Command, resting}
use Rattle.settings_machine.specs.Events.{Event, Asked, Turned, after}

-- A turn in which nothing fails: a program that is run ends with exit status 0.
abbrev pub calm_turn : Event
calm_turn = Turned (Fine 0)

-- Such a turn for each of these.
abbrev pub turns_for : {X : Type 0} → List X → List Event
turns_for xs = map (λ x. calm_turn) xs

-- The calm turns of a job with these files and commands to do: one for each file, one for each command and one.
abbrev pub calm_turns : List (List ℕ) → List Command → List Event
calm_turns files commands = turns_for files ++ (turns_for commands ++ calm_turn ∷ [])

-- The file's template renders.
pub record Renders (I : Image) (live : Contents) (f : List ℕ) : Type 0 where
  pub bytes : List ℕ
  pub renders : rendered I f live ≡ Ok bytes

-- So do those of all these files.
abbrev pub AllRender : Image → Contents → List (List ℕ) → Type 0
AllRender I live files = (f : List ℕ) → Among files f → Renders I live f

-- The bytes that were rendered, and none where the template refused.
abbrev pub bytes_of : Rendered → List ℕ
bytes_of (Ok bytes) = bytes
bytes_of (Err e) = []

-- The configuration files, with each of these as it renders now.
abbrev pub written : Image → Contents → Files → List (List ℕ) → Files
written I live etc files = fold (λ m f. insert m (path_of I f) (bytes_of (rendered I f live))) etc files

-- The command was run, with exit status 0.
abbrev pub run_well : Command → Run
run_well c = record { words = c.1.1; status = 0 }

-- The world in which a running job has done all: its files are written, its commands were run, and what it noted is owed.
abbrev pub finished : Image → World → Work → World
finished I W w = record W {
  held = record W.held { owed = owed.Keys w.since };
  job = resting I w;
  etc = written I W.held.live W.etc w.files;
  runs = W.runs ++ map run_well w.commands;
}

-- The world in which a running job has written these files, and failed since the template of one more refused.
abbrev pub stopped : Image → World → List (List ℕ) → List ℕ → RenderError → World
stopped I W files f e = record W { job = Failed (cause.Render f e); etc = written I W.held.live W.etc files }

-- What calm turns make of a running job: where all its files render they end it, and at the first file that doesn't it stops.
pub record EndsCalmly (I : Image) (W : World) (w : Work) : Type 0 where
  pub ends : AllRender I W.held.live w.files → after I W (calm_turns w.files w.commands) ≡ finished I W w
  pub stops : (front rest : List (List ℕ)) (f : List ℕ) (e : RenderError) → w.files ≡ front ++ f ∷ rest → AllRender I W.held.live front
      → rendered I f W.held.live ≡ Err e → after I W (turns_for front ++ calm_turn ∷ []) ≡ stopped I W front f e

-- Each running job does, in every world: the end is a function of the world.
abbrev pub CalmJobsEnd : Type 0
CalmJobsEnd = (I : Image) (W : World) (w : Work) → W.job ≡ Running w → EndsCalmly I W w

-- The world in which all that is owed was paid: its files are written, its commands were run, nothing is owed and the job is idle.
abbrev pub paid_off : Image → World → World
paid_off I W = record W {
  held = record W.held { owed = owed.Keys [] };
  job = Idle;
  etc = written I W.held.live W.etc (files_of I.manifest W.held.owed);
  runs = W.runs ++ map run_well (commands_of I.manifest W.held.owed);
}

-- Where no job runs, something is owed and the templates of its files render, apply and the calm turns of its job pay it.
abbrev pub CalmAppliesPay : Type 0
CalmAppliesPay = (I : Image) (W : World) → is_running W.job ≡ false → owes_none W.held.owed ≡ false
    → AllRender I W.held.live (files_of I.manifest W.held.owed)
    → after I W (Asked Apply Answered ∷ calm_turns (files_of I.manifest W.held.owed) (commands_of I.manifest W.held.owed)) ≡ paid_off I W
