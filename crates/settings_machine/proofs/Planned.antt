-- The law of plans.
use Rattle.std.proofs.Common.{◌≡◌, ◌↔◌, inl, ℕ, Bool, true, false, if◌then◌else◌, List, [], ◌∷◌, ◌++◌, map, Option, Some, None, is_some, Ok, Err}
use Rattle.std.proofs.Common.{refl, sym, ◌∙◌, ap, subst}
use Rattle.std.proofs.lemmas.List.{map-append}
use Rattle.std.specs.FinMap.{FinMap, get}
use Rattle.outside.specs.Names.{Names}
use Rattle.outside.specs.Spawner.{Run}
use Rattle.key_names.specs.Order.{key_cmp}
use Rattle.json_trees.specs.declared.pending.Pending.{Pending}
use Rattle.pending_tx.specs.Transactions.{changed_keys, pending_of}
use Rattle.metadata_links.specs.Links.{files_of}
use Rattle.template_eval.specs.Rendered.{Rendered}
use Rattle.template_eval.specs.declared.render_error.RenderError.{RenderError}
use Rattle.settings_machine.specs.declared.refusal.Refusal.TheVariants.{NoName, NotRendered}
use Rattle.settings_machine.specs.World.{Key, Among, Image, World, Files, Work, Job, Idle, Failed, Running, is_running, owes_none, path_of, rendered}
use Rattle.settings_machine.specs.Requests.{PlanFile, Planned, PlanIs, Reply, Said, Refused}
use Rattle.settings_machine.specs.Plans.{plan_of, committed_plan, rendered_reply, committed_file, planned_file}
use Rattle.settings_machine.specs.Step.{with_job, noting, committed_world, asked_for, applied, commit_and_apply_next, answered}
use Rattle.settings_machine.specs.Events.{Event, after}
use Rattle.settings_machine.specs.Calm.{calm_turn, turns_for, calm_turns, Renders, AllRender, bytes_of, written, run_well, finished, stopped, EndsCalmly}
use Rattle.settings_machine.specs.Paid.{IsGood}
use Rattle.settings_machine.specs.PlanLaws.{IsFirstRefusal, DifferAt, Placed, named, BeginsAsPlanned, AreWrittenAsPlanned}
use Rattle.settings_machine.specs.PlanLaws.{EndsAsPlanned, StopsAsPlanned, ComesTrue, PlansComeTrue}
use Rattle.settings_machine.proofs.Elements.{among_left, among_right, among_map, map_among}
use Rattle.settings_machine.proofs.Manifests.{HasGoodFiles, good_files}
use Rattle.settings_machine.proofs.Lasting.{owed_known}
use Rattle.settings_machine.proofs.PaidLaws.{no_file}
use Rattle.settings_machine.proofs.Calming.{calm_jobs_end, applied_begins}
use Rattle.settings_machine.proofs.RefusedFiles.{all_render, first_refuses, refusing_among, among_refusing}
use Rattle.settings_machine.proofs.Changed.{none_changed, overlaid_changed}
use Rattle.settings_machine.proofs.Written.{written_other, written_here}

-- ---- files with their paths

module _ (I : Image) where
  -- The files of a list, each with its path.
  abbrev placed : List (List ℕ) → List Placed
  placed files = map (λ file. (file, path_of I file)) files

  named_placed : (files : List (List ℕ)) → named (placed files) ≡ files
  named_placed [] = refl
  named_placed (f ∷ fs) = ap (λ (l : List (List ℕ)). f ∷ l) (named_placed fs)

  turns_placed : (files : List (List ℕ)) → turns_for (placed files) ≡ turns_for files
  turns_placed [] = refl
  turns_placed (f ∷ fs) = ap (λ (l : List Event). calm_turn ∷ l) (turns_placed fs)

  among_placed : (files : List (List ℕ)) (f : List ℕ) (path : Names) → Among (placed files) (f, path) → Among files f × (path ≡ path_of I f)
  among_placed files f path at =
      let x = map_among {Y = Placed} (λ (g : List ℕ). (g, path_of I g)) files (f, path) at in
      let file : f ≡ x.0 = ap (λ (p : Placed). p.0) x.2 in
      (subst (λ (g : List ℕ). Among files g) (sym file) x.1, ap (λ (p : Placed). p.1) x.2 ∙ ap (path_of I) (sym file))

  placed_among : (files : List (List ℕ)) (f : List ℕ) (path : Names) → Among files f → path ≡ path_of I f → Among (placed files) (f, path)
  placed_among files f path at same = subst (λ (p : Names). Among (placed files) (f, p)) (sym same)
      (among_map {Y = Placed} (λ (g : List ℕ). (g, path_of I g)) files f at)

-- ---- the job of a plan

-- In V the change of the plan is made and nothing else, no job runs, and W answers of each file what it renders to in V.
record IsReady (I : Image) (W V : World) (tx : Option (List ℕ)) (changed : List Key) : Type 0 where
  rests : is_running V.job ≡ false
  differ : DifferAt changed W.held.live V.held.live
  etc : V.etc ≡ W.etc
  runs : V.runs ≡ W.runs
  answers : (f : List ℕ) → planned_file I W.held f tx ≡ rendered_reply f (rendered I f V.held.live)

module _ (I : Image) (W V : World) (tx : Option (List ℕ)) (changed : List Key) (ready : IsReady I W V tx changed) where
  abbrev files : List (List ℕ)
  files = files_of I.manifest V.held.owed

  abbrev plan : Planned
  plan = plan_of I changed V.held

  -- The job of the plan, and the worlds in which it was asked for and has begun.
  abbrev work : Work
  work = record { files = files; commands = plan.commands; since = []; again = false }

  abbrev asked : World
  asked = applied I V

  abbrev at_work : World
  at_work = with_job V (Running work)

  asked_is : owes_none V.held.owed ≡ false → asked ≡ at_work
  asked_is some = applied_begins I V ready.rests some

  begins : BeginsAsPlanned I W asked plan
  begins = record {
    changed = ready.differ;
    owes = refl;
    idle = λ none. ap (λ (b : Bool). if b then Idle else asked_for I V.held.owed V.job) none;
    runs = λ some. ap (λ (Y : World). Y.job) (asked_is some)
        ∙ ap (λ (l : List (List ℕ)). Running (record { files = l; commands = plan.commands; since = []; again = false })) (sym (named_placed I files));
    paths = λ f path at. let p = among_placed I files f path at in p.1;
    etc = ready.etc;
    ran = ready.runs;
  }

  calmly : EndsCalmly I at_work work
  calmly = calm_jobs_end I at_work work refl

  module _ (good : IsGood I) where
    known : (f : List ℕ) → Among files f → is_some (get I.manifest.files f) ≡ true
    known f at = owed_known I good V.held.owed f at

    apart : (f g : List ℕ) → Among files f → Among files g → path_of I f ≡ path_of I g → f ≡ g
    apart f g at at' same = let k : HasGoodFiles I.manifest = good_files I.defaults I.manifest good.manifest in k.apart f g (known f at) (known g at') same

    answer_of : (f : List ℕ) (r : Rendered) → Among files f → rendered I f V.held.live ≡ r → (answered I W (PlanFile f tx)).reply ≡ rendered_reply f r
    answer_of f r at is = ap (λ (b : Bool). if b then planned_file I W.held f tx else Refused (NoName f)) (known f at) ∙ ready.answers f
        ∙ ap (rendered_reply f) is

    -- A file of which W answers that it doesn't render doesn't.
    refuses_so : (f : List ℕ) (e : RenderError) (r : Rendered) → Among files f → rendered I f V.held.live ≡ r
        → (answered I W (PlanFile f tx)).reply ≡ Refused (NotRendered f e) → rendered I f V.held.live ≡ Err e
    refuses_so f e r at is refused' = is ∙ by r (sym (answer_of f r at is) ∙ refused') where
      by : (r : Rendered) → rendered_reply f r ≡ Refused (NotRendered f e) → r ≡ Err e
      by (Ok bytes) said = absurd (cc said)
      by (Err d) said = cc said

    refused : (f : List ℕ) (e : RenderError) → Among plan.refused (f, e) ↔
        (Among (named plan.files) f × ((answered I W (PlanFile f tx)).reply ≡ Refused (NotRendered f e)))
    refused f e = (
      λ at.
          let t = refusing_among I V.held.live files f e at in
          (subst (λ (l : List (List ℕ)). Among l f) (sym (named_placed I files)) t.0, answer_of f (Err e) t.0 t.1),
      λ both.
          let at : Among files f = subst (λ (l : List (List ℕ)). Among l f) (named_placed I files) both.0 in
          among_refusing I V.held.live files f e at (refuses_so f e (rendered I f V.held.live) at refl both.1),
    )

    -- Some of the files that were written have the bytes that W answers of them.
    written_planned : (Y : World) (done : List (List ℕ)) → ((f : List ℕ) → Among done f → Among files f) → AllRender I V.held.live done
        → Y.etc ≡ written I V.held.live V.etc done → AreWrittenAsPlanned I W Y tx (placed I done)
    written_planned Y done within all etc = record {
      each = λ f path at.
          let p = among_placed I done f path at in
          let r : Renders I V.held.live f = all f p.0 in
          record {
            bytes = r.bytes;
            planned = answer_of f (Ok r.bytes) (within f p.0) r.renders;
            written = ap (λ (m : Files). get m path) etc ∙ ap (get (written I V.held.live V.etc done)) p.1
                ∙ written_here I V.held.live done V.etc f (λ g at' same. apart f g (within f p.0) (within g at') same) (inl p.0)
                ∙ ap (λ (x : Rendered). Some (bytes_of x)) r.renders;
          };
      others = λ path none.
          ap (λ (m : Files). get m path) etc
          ∙ written_other I V.held.live done V.etc path (λ f at same. none f (placed_among I done f path at same))
          ∙ ap (λ (m : Files). get m path) ready.etc;
    }

    -- ---- where no template refuses

    module _ (none : plan.refused ≡ []) (some : owes_none V.held.owed ≡ false) where
      all : AllRender I V.held.live files
      all = all_render I V.held.live files none

      led_to_end : after I asked (calm_turns (named plan.files) plan.commands) ≡ finished I at_work work
      led_to_end =
          ap (λ (l : List (List ℕ)). after I asked (calm_turns l plan.commands)) (named_placed I files)
          ∙ ap (λ (Y : World). after I Y (calm_turns files plan.commands)) (asked_is some)
          ∙ calmly.ends all

      ends : EndsAsPlanned I W asked (after I asked (calm_turns (named plan.files) plan.commands)) tx plan
      ends = subst (λ (Y : World). EndsAsPlanned I W asked Y tx plan) (sym led_to_end) (record {
        held = refl;
        idle = refl;
        files = written_planned (finished I at_work work) files (λ f at. at) all refl;
        programs = ap (λ (l : List Run). l ++ map run_well plan.commands) ready.runs;
      })

    -- ---- where one refuses

    module _ (f : List ℕ) (e : RenderError) (first : IsFirstRefusal I V.held.live files f e) where
      listed : Among files f
      listed = subst (λ (l : List (List ℕ)). Among l f) (sym first.listed) (among_right first.front (f ∷ first.rest) f (inl refl))

      before : (g : List ℕ) → Among first.front g → Among files g
      before g at = subst (λ (l : List (List ℕ)). Among l g) (sym first.listed) (among_left first.front (f ∷ first.rest) g at)

      some_owed : owes_none V.held.owed ≡ false
      some_owed = by (owes_none V.held.owed) refl where
        by : (b : Bool) → owes_none V.held.owed ≡ b → b ≡ false
        by true none = absurd (no_file I f V.held.owed none listed)
        by false some = refl

      led_to_stop : after I asked (turns_for (placed I first.front) ++ calm_turn ∷ []) ≡ stopped I at_work first.front f e
      led_to_stop =
          ap (λ (l : List Event). after I asked (l ++ calm_turn ∷ [])) (turns_placed I first.front)
          ∙ ap (λ (Y : World). after I Y (turns_for first.front ++ calm_turn ∷ [])) (asked_is some_owed)
          ∙ calmly.stops first.front first.rest f e first.listed first.before first.refuses

      stops : StopsAsPlanned I W asked tx plan f e
      stops = record {
        front = placed I first.front;
        rest = placed I first.rest;
        listed = ap (λ (l : List (List ℕ)). placed I l) first.listed ∙ map-append {B = Placed} (λ (g : List ℕ). (g, path_of I g)) first.front (f ∷ first.rest);
        planned = answer_of f (Err e) listed first.refuses;
        fails = ap (λ (Y : World). Y.job) led_to_stop;
        held = ap (λ (Y : World). Y.held) led_to_stop;
        files = written_planned (after I asked (turns_for (placed I first.front) ++ calm_turn ∷ [])) first.front before first.before
            (ap (λ (Y : World). Y.etc) led_to_stop);
        programs = ap (λ (Y : World). Y.runs) led_to_stop ∙ ready.runs;
      }

  comes_true : ComesTrue I W asked tx plan
  comes_true = record {
    begins = begins;
    refused = λ good f e. refused good f e;
    ends = λ good none some. ends good none some;
    stops = λ good f e rest is. stops good f e (first_refuses I V.held.live files f e rest is);
  }

-- ---- plans as they are answered

-- The plan that a reply is, or this.
abbrev plan_in : Planned → Reply → Planned
plan_in other (Said (PlanIs plan)) = plan
plan_in other _ = other

module _ (I : Image) (W : World) (rests : is_running W.job ≡ false) where
  ready_now : IsReady I W W None []
  ready_now = record {
    rests = rests;
    differ = none_changed W.held.live;
    etc = refl;
    runs = refl;
    answers = λ f. refl;
  }

  still_rests : (j : Job) (keys : List Key) → is_running j ≡ false → is_running (noting j keys) ≡ false
  still_rests Idle keys still = refl
  still_rests (Failed c) keys still = refl
  still_rests (Running w) keys still = absurd (cc still)

  ready_after : (t : List ℕ) (p : FinMap key_cmp Pending) → get W.held.pending t ≡ Some p
      → IsReady I W (committed_world W t) (Some t) (changed_keys W.held t)
  ready_after t p there = record {
    rests = still_rests W.job (changed_keys W.held t) rests;
    differ = overlaid_changed W.held (pending_of W.held t);
    etc = refl;
    runs = refl;
    answers = λ f. ap (committed_file I W.held f t) there;
  }

  committed_true : (t : List ℕ) (plan : Planned) (o : Option (FinMap key_cmp Pending)) → get W.held.pending t ≡ o
      → committed_plan I W.held t o ≡ Said (PlanIs plan) → ComesTrue I W (commit_and_apply_next I W t o).world (Some t) plan
  committed_true t plan None gone is = absurd (cc is)
  committed_true t plan (Some p) there is = subst (λ (x : Planned). ComesTrue I W (applied I (committed_world W t)) (Some t) x) (ap (plan_in plan) is)
      (comes_true I W (committed_world W t) (Some t) (changed_keys W.held t) (ready_after t p there))

pub plans_come_true : PlansComeTrue
plans_come_true I W None plan rests is = subst (λ (x : Planned). ComesTrue I W (applied I W) None x) (ap (plan_in plan) is)
    (comes_true I W W None [] (ready_now I W rests))
plans_come_true I W (Some t) plan rests is = committed_true I W rests t plan (get W.held.pending t) refl is
