-- How the machine sees a plan that a program has.
use Rattle.std.specs.Prelude.{◌≡◌, ℕ, List, [], ◌∷◌, Option, Some, None, map}
use Rattle.std.specs.FinMap.{get}
use Rattle.outside.specs.Names.{Names}
use Rattle.settings_tree.specs.Content.{Contents}
use Rattle.settings_tree.specs.declared.entry.Owed.{Owed}
use Rattle.settings_tree.specs.declared.held.Held.{Held}
use Rattle.settings_tree.specs.declared.os.OsName.{OsName}
use Rattle.metadata_links.specs.Commands.{seen}
use Rattle.metadata_links.specs.declared.manifest.Manifest.{Manifest}
use Rattle.template_eval.specs.declared.render_error.RenderError.{RenderError}
use Rattle.template_reader.specs.declared.templates.Templates.{Templates}
use Rattle.settings_machine.specs.World.{Key, Image, path_in, rendered}
use Rattle.settings_machine.specs.Seen.{HoldsTemplates}
use Rattle.settings_machine.specs.Requests.{Planned}
use Rattle.settings_machine.specs.Plans.{refusal_in, refusing, first_refusing, plan_of}
use Rattle.settings_machine.specs.declared.plan.Plan.{Plan}

-- Its lists are those of the vectors.
abbrev pub planned_of : Plan → Planned
planned_of plan = record {
  changed = plan.changed;
  owed = plan.owed;
  files = plan.files.items;
  commands = map seen plan.commands.items;
  refused = plan.refused.items;
}

-- Where a file of the manifest is written.
abbrev pub path_seen : Manifest → List ℕ → Names
path_seen manifest file = path_in (get manifest.files file)

-- Of each image with these templates and names it is the plan of a job that pays what is owed over these live values.
pub record IsPlanOf (manifest : Manifest) (templates : Templates) (os : List OsName) (live : Contents) (owed : Owed) (changed : List Key) (plan : Plan) : Type
    0 where
  pub is : (I : Image) → HoldsTemplates I templates → os ≡ I.os → manifest ≡ I.manifest → (held : Held) → held.live ≡ live → held.owed ≡ owed
      → plan_of I changed held ≡ planned_of plan

-- Of each such image these are the files whose templates refuse.
pub record AreRefusing (templates : Templates) (os : List OsName) (live : Contents) (files : List (List ℕ)) (refused : List (List ℕ × RenderError)) : Type
    0 where
  pub are : (I : Image) → HoldsTemplates I templates → os ≡ I.os → refusing I live files ≡ refused

-- Of each such image this is the first file whose template refuses.
pub record IsFirstRefusing (templates : Templates) (os : List OsName) (live : Contents) (files : List (List ℕ)) (first : Option (List ℕ × RenderError)) : Type
    0 where
  pub is : (I : Image) → HoldsTemplates I templates → os ≡ I.os → first_refusing I live files ≡ first

-- ---- for private clauses

-- The file with why its template refuses, if it does.
abbrev pub with_file : List ℕ → Option RenderError → List (List ℕ × RenderError)
with_file file None = []
with_file file (Some error) = (file, error) ∷ []

-- Of each such image the template of the file refuses so.
pub record AddsRefusal (templates : Templates) (os : List OsName) (live : Contents) (file : List ℕ) (error : Option RenderError) : Type 0 where
  pub adds : (I : Image) → HoldsTemplates I templates → os ≡ I.os → refusal_in file (rendered I file live) ≡ with_file file error
