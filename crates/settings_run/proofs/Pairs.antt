-- `generate` and `user-data` are runs of the machine.
use Rattle.std.proofs.Common.{◌≡◌, inl, inr, false, codes, ℕ, List, [], ◌∷◌, Option, Some, None, Result, Ok, Err, refl, sym, ◌∙◌, ap, subst}
use Rattle.outside.specs.History.{History, tree_of}
use Rattle.outside.specs.Names.{Names}
use Rattle.outside.specs.Spawner.{Run, Question}
use Rattle.outside.specs.Told.{Moves}
use Rattle.outside.proofs.Told.{moves_same}
use Rattle.settings_tree.specs.declared.held.Held.{Held}
use Rattle.settings_machine.specs.World.{Image, World, is_running}
use Rattle.settings_machine.specs.Step.{opened}
use Rattle.settings_machine.specs.Events.{Event, Opened, Succeeded, after}
use Rattle.settings_machine.specs.Paid.{IsGood}
use Rattle.machine_disk.specs.Kept.{Folder, Kept}
use Rattle.machine_disk.specs.Touched.{TouchesOwn}
use Rattle.machine_disk.specs.Ran.{RunsTo, OpensTo}
use Rattle.machine_disk.proofs.Runs.{ran_none}
use Rattle.machine_disk.proofs.Prefixes.{runs_touch, runs_to}
use Rattle.machine_disk.proofs.Meanings.{core_holds}
use Rattle.store_image.specs.Paths.{sources_in}
use Rattle.typed_settings.specs.declared.row.Row.{Row}
use Rattle.store_open.specs.Laws.{IsImageOfFolder, HoldsImage}
use Rattle.store_open.specs.Opening.{Opens}
use Rattle.store_open.specs.declared.opened.Opened as answer
use Rattle.store_open.specs.declared.open_error.OpenError.{OpenError}
use Rattle.command_outcome.specs.Ends.{Outcome}
use Rattle.command_outcome.specs.declared.refusal.Refusal.{Refusal}
use Rattle.core_commands.specs.Carried.{core_over}
use Rattle.core_commands.specs.Committing.{IsCommitted, Commits}
use Rattle.setting_generators.specs.Asking.{wanted}
use Rattle.setting_generators.specs.Generators.{Given}
use Rattle.settings_cmd.specs.Carried.{GeneratesAfter, ProvidesAfter}
use Rattle.settings_cmd.specs.Committing.{Made, CommitsMade}
use Rattle.settings_cmd.specs.Generators.{generate_tx, generators_path, AreGeneratorsIn, TellsOfGenerators, IsGenerated, Answers as AnsweredBy}
use Rattle.settings_cmd.specs.UserData.{data_tx}
use Rattle.settings_run.specs.Laws.{Begins, IsRun, MadeEvents, GivenBy, GenerateEvents, GeneratesRun, ProvisionEvents, ProvisionsRun}
use Rattle.settings_run.proofs.CommandRuns.{opening_run, open_kept, opened_runs, unopened_run}
use Rattle.settings_run.proofs.Keeping.{keeps_live}
use Rattle.settings_run.proofs.Served.{ArePlain, commits_plain}

module _ (I : Image) (good : IsGood I) (folder : Folder) (is : IsImageOfFolder I folder) (W : World) (old between : History) (begins : Begins I folder W old)
    (store : answer.Opened) (opens : Opens false (Ok store) old between) where
  run : OpensTo I folder W W false store.place store.held old between × HoldsImage I store.image
  run = opening_run I good folder is W old between begins false store between opens

  kept : Kept I folder (opened I W false) (opened I W false) between (core_over store)
  kept = open_kept I good folder is W old between begins false store between run.0

  -- What the store holds is what the opened world holds.
  pub opened_held : (opened I W false).held ≡ store.held
  opened_held = core_holds I folder (opened I W false) (opened I W false) between (core_over store) kept refl

  -- What the pairs that were made come to.
  pub record Ended (tx : List ℕ) (made : Made) (outcome : Outcome) (new : History) : Type 0 where
    pub events : List Event
    pub form_is : MadeEvents I W tx made outcome events
    pub runs_to : RunsTo I folder W events old new
    pub touches : TouchesOwn I events old new
    pub runs : (after I W events).runs ≡ W.runs

  opened_same : (opened I W false).runs ≡ W.runs
  opened_same = opened_runs I good folder is W old between begins false

  opening_alone : RunsTo I folder W (Opened false Succeeded ∷ []) old between
  opening_alone = runs_to I good folder W false [] old between between store.place store.held (core_over store) (core_over store) (ap is_running begins.idle)
      run.0 refl refl
      (ran_none I folder (opened I W false) (opened I W false) between (core_over store) kept)

  pub made_ends : (tx : List ℕ) (made : Made) (outcome : Outcome) (new : History) → CommitsMade tx store made outcome (Some between) (Some new)
      → Ended tx made outcome new
  made_ends tx (Ok pairs) outcome new commits =
      let told : Commits tx pairs store outcome between new = commits.told in
      let c : IsCommitted I folder (opened I W false) (opened I W false) tx pairs outcome (core_over store) between new =
      told.each I good run.1 folder (opened I W false) (opened I W false) kept in
      let plain : ArePlain I (opened I W false) c.events = commits_plain I (opened I W false) tx pairs outcome c.events c.comes in
      record {
        events = Opened false Succeeded ∷ c.events;
        form_is = (c.events, refl, c.comes);
        runs_to = runs_to I good folder W false c.events old between new store.place store.held (core_over store) c.now (ap is_running begins.idle) run.0 refl
            plain.served c.made;
        touches = runs_touch I folder W false c.events old between new store.place store.held (core_over store) c.now run.0 c.made;
        runs = plain.runs ∙ opened_same;
      }
  made_ends tx (Err refusal) outcome new ends =
      let same : between ≡ new = cc (sym ends.1) in
      record {
        events = Opened false Succeeded ∷ [];
        form_is = (refl, ends.0);
        runs_to = subst (λ (h : History). RunsTo I folder W (Opened false Succeeded ∷ []) old h) same opening_alone;
        touches = subst (TouchesOwn I (Opened false Succeeded ∷ []) old) same run.0.touches;
        runs = opened_same;
      }

  -- ---- what generators give

  file_is : sources_in (tree_of between) generators_path ≡ folder (codes "image" ∷ generators_path)
  file_is = kept.disk.image (codes "image" ∷ generators_path) refl

  types_are : store.image.model.types ≡ I.types
  types_are = run.1.types_are

  read_by : (given : List Given) → AreGeneratorsIn store.image.model.types (sources_in (tree_of between) generators_path) given
      → AreGeneratorsIn I.types (folder (codes "image" ∷ generators_path)) given
  read_by given read =
      subst (λ (o : Option (List ℕ)). AreGeneratorsIn I.types o given) file_is
      (subst (λ (t : List Row). AreGeneratorsIn t (sources_in (tree_of between) generators_path) given) types_are read)

  refused_by : (refusal : Refusal) → TellsOfGenerators store.image.model.types (sources_in (tree_of between) generators_path) refusal
      → TellsOfGenerators I.types (folder (codes "image" ∷ generators_path)) refusal
  refused_by refusal tells =
      subst (λ (o : Option (List ℕ)). TellsOfGenerators I.types o refusal) file_is
      (subst (λ (t : List Row). TellsOfGenerators t (sources_in (tree_of between) generators_path) refusal) types_are tells)

  -- They give it by the image, to the opened world.
  pub given_by : (a a' : Option (List Question)) (made : Made) → IsGenerated a a' store made (Some between) → GivenBy I folder (opened I W false) a a' made
  given_by a a' made (inl none) = inl (none.refusal, none.refuses, refused_by none.refusal none.tells.is, none.unasked)
  given_by a a' made (inr has) =
      inr (has.given, read_by has.given has.read.is, subst (λ (h : Held). AnsweredBy (wanted h.live has.given) a a' made) (sym opened_held) has.answers)

-- ---- generate

module _ (I : Image) (good : IsGood I) (folder : Folder) (is : IsImageOfFolder I folder) (W : World) (a a' : Option (List Question)) (outcome : Outcome)
    (r : Option (List Run))
    (old new : History) (begins : Begins I folder W old) where
  generated : (result : Result answer.Opened OpenError) (between : Option History) → Moves (Some old) between (Opens false result)
      → GeneratesAfter a a' result outcome between (Some new) → IsRun I folder W (GenerateEvents I folder W a a' outcome) r r old new
  generated result None opens follows = absurd opens.told
  generated (Ok store) (Some between) opens follows =
      let e : Ended I good folder is W old between begins store opens.told generate_tx follows.made outcome new =
      made_ends I good folder is W old between begins store opens.told generate_tx follows.made outcome new follows.ends in
      let given : GivenBy I folder (opened I W false) a a' follows.made =
      given_by I good folder is W old between begins store opens.told a a' follows.made follows.gives in
      record {
        events = e.events;
        form_is = inl (follows.made, given, e.form_is, keeps_live I folder W a a' follows.made outcome e.events given e.form_is);
        runs_to = e.runs_to;
        touches = e.touches;
        ran = moves_same refl (λ s was. was ∙ sym e.runs);
      }
  generated (Err e) (Some between) opens follows =
      let same : between ≡ new = cc (sym follows.1) in
      unopened_run I good folder is W old new begins (GenerateEvents I folder W a a' outcome) r r false outcome (λ events un. inr (un, follows.2)) refl e
      follows.0
      (subst (λ (h : History). Opens false (Err e) old h) same opens.told)

pub generates_run : GeneratesRun
generates_run I good folder is W a a' outcome r old new begins generates =
    generated I good folder is W a a' outcome r old new begins generates.opening generates.between generates.opens generates.follows

-- ---- user-data

module _ (I : Image) (good : IsGood I) (folder : Folder) (is : IsImageOfFolder I folder) (W : World) (path : Names) (outcome : Outcome) (r : Option (List Run))
    (old new : History) (begins : Begins I folder W old) where
  provided : (result : Result answer.Opened OpenError) (between : Option History) → Moves (Some old) between (Opens false result)
      → ProvidesAfter path result outcome between (Some new)
      → IsRun I folder W (ProvisionEvents I W path outcome old) r r old new
  provided result None opens follows = absurd opens.told
  provided (Ok store) (Some between) opens follows =
      let e : Ended I good folder is W old between begins store opens.told data_tx follows.made outcome new =
      made_ends I good folder is W old between begins store opens.told data_tx follows.made outcome new follows.ends in
      record {
        events = e.events;
        form_is = inl (record {
          store = store;
          between = between;
          opens = opens.told;
          made = follows.made;
          gives = follows.gives.is;
          ends = e.form_is;
        });
        runs_to = e.runs_to;
        touches = e.touches;
        ran = moves_same refl (λ s was. was ∙ sym e.runs);
      }
  provided (Err e) (Some between) opens follows =
      let same : between ≡ new = cc (sym follows.1) in
      unopened_run I good folder is W old new begins (ProvisionEvents I W path outcome old) r r false outcome (λ events un. inr un) refl e follows.0
      (subst (λ (h : History). Opens false (Err e) old h) same opens.told)

pub provisions_run : ProvisionsRun
provisions_run I good folder is W path outcome r old new begins provides =
    provided I good folder is W path outcome r old new begins provides.opening provides.between provides.opens provides.follows
