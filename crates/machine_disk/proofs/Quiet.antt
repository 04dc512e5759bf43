-- Events that change neither the store nor a configuration file.
use Rattle.std.proofs.Common.{◌≡◌, inl, inr, ⊎_elim, true, false, [], ◌∷◌, refl, sym, ◌∙◌, ap, subst}
use Rattle.std.specs.FinMap.{get}
use Rattle.outside.specs.Names.{Names}
use Rattle.outside.specs.Tree.{Tree, node_at}
use Rattle.outside.specs.History.{History, tree_of, EachCrashState}
use Rattle.outside.proofs.Since.{since_start}
use Rattle.fs_datastore.specs.Stands.{Stands}
use Rattle.version_links.specs.Chain.{Resolves, found}
use Rattle.version_links.specs.declared.version.Version.{Version}
use Rattle.settings_tree.specs.declared.held.Held.{Held}
use Rattle.settings_machine.specs.World.{Image, World, Files, is_running}
use Rattle.settings_machine.specs.Events.{Event, next, acknowledges, faulted_next}
use Rattle.settings_machine.specs.Paid.{IsDuePath, IsFit}
use Rattle.settings_machine.proofs.Sequences.{or_false}
use Rattle.machine_disk.specs.Store.{HasFiles, HasStore, Recovers, IsReadyAt}
use Rattle.machine_disk.specs.Kept.{Folder, CoreState, Kept}
use Rattle.machine_disk.specs.Ran.{Before, Within, OnTheWay, Ran}
use Rattle.machine_disk.proofs.Runs.{at_start, recovers_now, stepped}
use Rattle.machine_disk.proofs.Settled.{settled_store}
use Rattle.machine_disk.proofs.Touched.{own_none}

-- N has the stored parts and the configuration files of W.
pub record IsAlike (W N : World) : Type 0 where
  pub version : N.version ≡ W.version
  pub format : N.format ≡ W.format
  pub held : N.held ≡ W.held
  pub etc : N.etc ≡ W.etc

pub alike_store : (W N : World) (c : Tree) → IsAlike W N → HasStore W c → HasStore N c
alike_store W N c alike has = record {
  directory = has.directory;
  resolves = subst (λ (v : Version). Resolves c (found v has.directory)) (sym alike.version) has.resolves;
  holds = record {
    files = has.holds.files;
    stands_for = has.holds.stands_for;
    stands = subst (λ (h : Held). Stands has.holds.files h N.format) (sym alike.held)
        (subst (Stands has.holds.files W.held) (sym alike.format) has.holds.stands);
  };
}

module _ (I : Image) (folder : Folder) (W V : World) (h : History) (before : CoreState) (kept : Kept I folder W V h before) (e : Event) (now : CoreState)
    (alike : IsAlike W (next I W e)) (fit : IsFit I (next I W e)) (job : now.job ≡ (next I W e).job) (place : now.place ≡ before.place)
    (held : now.held ≡ before.held) where
  due_now : (path : Names) → IsDuePath I W.held path → IsDuePath I (next I W e).held path
  due_now path due = subst (λ (x : Held). IsDuePath I x path) (sym alike.held) due

  same_files : HasFiles (next I W e).etc (tree_of h)
  same_files = record { each = λ path is. kept.disk.etc.each path is ∙ sym (ap (λ (m : Files). get m path) alike.etc) }

  same_ready : IsReadyAt before.place before.held h → IsReadyAt now.place now.held h
  same_ready r = subst (λ p. IsReadyAt p now.held h) (sym place) (subst (λ (x : Held). IsReadyAt before.place x h) (sym held) r)

  -- Where no call of the disk has failed since the last opening: acknowledged or not, whether one fails at it or not.
  pub ran_first : before.faulted ≡ false → now.faulted ≡ faulted_next false e → (now.faulted ≡ true → is_running now.job ≡ false)
      → Ran I folder W V (e ∷ []) h h before now
  ran_first calm flag still = stepped I folder W V e h h before now kept.disk (record {
    other = next I W e;
    late = Within (e ∷ []) [] refl refl refl;
    kept = record {
      fit = fit;
      format = alike.format ∙ kept.format;
      disk = record {
        store = alike_store W (next I W e) (tree_of h) alike kept.disk.store;
        etc = same_files;
        image = kept.disk.image;
        crash_states = λ c left. inl (alike_store W (next I W e) c alike
            (settled_store W h (let r : IsReadyAt before.place before.held h = kept.core.ready calm in r.settled) kept.disk.store c left));
        same_etc = refl;
        unsettled = λ path node is left. ⊎_elim
            (λ same. inl (same ∙ sym (ap (λ (m : Files). get m path) alike.etc)))
            (λ due. inr (due_now path due.0, due_now path due.0))
            (kept.disk.unsettled path node is left);
      };
      core = record { job = job; ready = λ _. same_ready (kept.core.ready calm); still = still };
    };
    flag = flag ∙ sym (ap (λ b. faulted_next b e) calm);
    moments = since_start (OnTheWay I W V (e ∷ [])) h (λ c left. ⊎_elim (λ r. inr (at_start I W (e ∷ []) c r)) (λ r. inl r)
        (recovers_now I folder W V h kept.disk c left));
    touches = own_none I (e ∷ []) h;
  })

  -- And where none fails at it.
  pub ran_calm : before.faulted ≡ false → now.faulted ≡ false → faulted_next false e ≡ false → Ran I folder W V (e ∷ []) h h before now
  ran_calm calm still_calm quiet = ran_first calm (still_calm ∙ sym quiet) (λ faulted. absurd (cc (faulted, still_calm)))

  -- While a call of the disk has failed: not acknowledged.
  pub ran_unsaid : now.faulted ≡ before.faulted → faulted_next before.faulted e ≡ before.faulted → acknowledges I W e ≡ false
      → (before.faulted ≡ true → is_running now.job ≡ false) → Ran I folder W V (e ∷ []) h h before now
  ran_unsaid same_flag quiet unsaid still = stepped I folder W V e h h before now kept.disk (record {
    other = V;
    late = Before refl (or_false _ _ unsaid refl);
    kept = record {
      fit = fit;
      format = alike.format ∙ kept.format;
      disk = record {
        store = alike_store W (next I W e) (tree_of h) alike kept.disk.store;
        etc = same_files;
        image = kept.disk.image;
        crash_states = λ c left. ⊎_elim (λ w. inl (alike_store W (next I W e) c alike w)) (λ v. inr v) (kept.disk.crash_states c left);
        same_etc = kept.disk.same_etc ∙ sym alike.etc;
        unsettled = λ path node is left. ⊎_elim
            (λ same. inl (same ∙ sym (ap (λ (m : Files). get m path) alike.etc)))
            (λ due. inr (due_now path due.0, due.1))
            (kept.disk.unsettled path node is left);
      };
      core = record { job = job; ready = λ calm. same_ready (kept.core.ready (sym same_flag ∙ calm)); still = λ faulted. still (sym same_flag ∙ faulted) };
    };
    flag = same_flag ∙ sym quiet;
    moments = since_start (OnTheWay I W V (e ∷ [])) h (λ c left. ⊎_elim (λ r. inr (at_start I W (e ∷ []) c r)) (λ r. inl r)
        (recovers_now I folder W V h kept.disk c left));
    touches = own_none I (e ∷ []) h;
  })

-- Where no call of the disk has failed since an opening each crash state recovers to the world.
pub calm_images : (I : Image) (folder : Folder) (W V : World) (h : History) (core : CoreState) → core.faulted ≡ false → Kept I folder W V h core
    → EachCrashState (Recovers I W) h
calm_images I folder W V h core calm kept c left = record {
  store = settled_store W h (kept.core.ready calm).settled kept.disk.store c left;
  etc = λ path is. ⊎_elim (λ same. inl same) (λ due. inr due.0) (kept.disk.unsettled path (node_at c path) is (left path));
}
