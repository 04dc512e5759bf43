-- What the calls of a turn make of the machine's run: the sync, and the write of a file.
use Rattle.std.proofs.Common.{◌≡◌, ◌≢◌, ◌⊎◌, inl, inr, ⊎_elim, ℕ, true, false, List, [], ◌∷◌, Option, refl, sym, ◌∙◌, ap, subst}
use Rattle.std.proofs.lemmas.Bool.{cases_Bool}
use Rattle.std.specs.Ordering.{eq_by_cmp}
use Rattle.std.specs.FinMap.{get}
use Rattle.std.specs.Prelude.{codes}
use Rattle.outside.specs.Names.{Names, path_cmp, is_below}
use Rattle.outside.specs.Tree.{Node, node_at, set_node, file_in, AgreeOn}
use Rattle.outside.specs.Since.{EachSince}
use Rattle.outside.specs.History.{scribbled, synced, History, next as then, tree_of, MayLeave, IsSettledOn}
use Rattle.outside.proofs.Crash.{settled_state, settled_synced}
use Rattle.outside.proofs.Since.{since_start, since_next}
use Rattle.outside.proofs.Trees.{node_at-set_same, node_at-set_other, path_cases, path_itself}
use Rattle.outside.proofs.Parts.{settled_on_synced, scribbled_elsewhere, same_elsewhere}
use Rattle.version_links.specs.Chain.{Resolves, found}
use Rattle.version_links.specs.declared.version.Version.{Version}
use Rattle.fs_datastore.specs.Stands.{Stands}
use Rattle.settings_tree.specs.declared.held.Held.{Held}
use Rattle.settings_machine.specs.World.{Image, World, Files, is_running, is_etc}
use Rattle.settings_machine.specs.Step.{with_file}
use Rattle.settings_machine.specs.Events.{Event, next, acknowledges, faulted_next}
use Rattle.settings_machine.specs.Paid.{IsDuePath, IsFit}
use Rattle.settings_machine.proofs.Sequences.{or_false}
use Rattle.settings_machine.proofs.Lasting.{put_here, put_other}
use Rattle.machine_disk.specs.Store.{is_store, bytes_at, HasStore, Recovers, IsReadyAt}
use Rattle.machine_disk.specs.Kept.{Folder, CoreState, Kept}
use Rattle.machine_disk.specs.Touched.{HasTurn}
use Rattle.machine_disk.specs.Ran.{Before, Within, OnTheWay, Ran}
use Rattle.machine_disk.proofs.Moments.{none_moments}
use Rattle.machine_disk.proofs.Runs.{at_start, recovers_now, stepped}
use Rattle.machine_disk.proofs.Quiet.{IsAlike, alike_store}
use Rattle.machine_disk.proofs.Apart.{first_name}
use Rattle.machine_disk.proofs.Touched.{own_none, own_synced, own_written}
use Rattle.machine_disk.proofs.Settled.{settled_store, store_same, ready_elsewhere}

-- ---- a sync

-- A sync that answered Ok makes no event. It leaves the world on the disk alone.
pub ran_synced : (I : Image) (folder : Folder) (W V : World) (h : History) (core : CoreState) → Kept I folder W V h core
    → Ran I folder W V [] h (then synced h) core core
ran_synced I folder W V h core kept = record {
  other = V;
  late = Before refl refl;
  kept = record {
    fit = kept.fit;
    format = kept.format;
    disk = record {
      store = kept.disk.store;
      etc = kept.disk.etc;
      image = kept.disk.image;
      crash_states = λ c left. inl (subst (HasStore W) (sym (settled_state (then synced h) (settled_synced h) c left)) kept.disk.store);
      same_etc = kept.disk.same_etc;
      unsettled = λ path node is left. inl (ap file_in left ∙ kept.disk.etc.each path is);
    };
    core = record {
      job = kept.core.job;
      ready = λ calm. let r : IsReadyAt core.place core.held h = kept.core.ready calm in record {
        settled = settled_on_synced is_store h;
        resolves = r.resolves;
        ready = record { no_journal = r.ready.no_journal; settled = λ path node left. left };
        stands = r.stands;
      };
      still = kept.core.still;
    };
  };
  flag = refl;
  moments = way;
  keeps = none_moments I W V h (then synced h) kept.disk.store kept.disk.etc way;
  touches = own_synced I [] h;
} where
  way : EachSince (OnTheWay I W V []) h (then synced h)
  way = since_next (OnTheWay I W V []) h h synced
      (since_start (OnTheWay I W V []) h (λ c left. ⊎_elim (λ r. inr (at_start I W [] c r)) (λ r. inl r) (recovers_now I folder W V h kept.disk c left)))
      (λ c left. inr (at_start I W [] c (subst (Recovers I W) (sym (settled_state (then synced h) (settled_synced h) c left))
      (record { store = kept.disk.store; etc = λ path is. inl (kept.disk.etc.each path is) }))))

-- ---- a call that failed and changed nothing, as a sync

pub ran_failed : (I : Image) (folder : Folder) (W V : World) (h : History) (before : CoreState) → Kept I folder W V h before → (e : Event) (now : CoreState)
    → IsAlike W (next I W e) → IsFit I (next I W e)
    → now.job ≡ (next I W e).job → now.faulted ≡ true → faulted_next before.faulted e ≡ true → acknowledges I W e ≡ false → is_running now.job ≡ false
    → Ran I folder W V (e ∷ []) h h before now
ran_failed I folder W V h before kept e now alike fit job faulted fault unsaid stopped = stepped I folder W V e h h before now kept.disk (record {
  other = V;
  late = Before refl (or_false _ _ unsaid refl);
  kept = record {
    fit = fit;
    format = alike.format ∙ kept.format;
    disk = record {
      store = alike_store W (next I W e) (tree_of h) alike kept.disk.store;
      etc = record { each = λ path is. kept.disk.etc.each path is ∙ sym (ap (λ (m : Files). get m path) alike.etc) };
      image = kept.disk.image;
      crash_states = λ c left. ⊎_elim (λ w. inl (alike_store W (next I W e) c alike w)) (λ v. inr v) (kept.disk.crash_states c left);
      same_etc = kept.disk.same_etc ∙ sym alike.etc;
      unsettled = λ path node is left. ⊎_elim
          (λ same. inl (same ∙ sym (ap (λ (m : Files). get m path) alike.etc)))
          (λ due. inr (subst (λ (x : Held). IsDuePath I x path) (sym alike.held) due.0, due.1))
          (kept.disk.unsettled path node is left);
    };
    core = record { job = job; ready = λ calm. absurd (cc (faulted, calm)); still = λ _. stopped };
  };
  flag = faulted ∙ sym fault;
  moments = since_start (OnTheWay I W V (e ∷ [])) h (λ c left. ⊎_elim (λ r. inr (at_start I W (e ∷ []) c r)) (λ r. inl r)
      (recovers_now I folder W V h kept.disk c left));
  touches = own_none I (e ∷ []) h;
})

-- ---- a write of a file

-- A path of another folder is another path.
apart : (folder other : List ℕ) (p q : Names) → is_below (folder ∷ []) q ≡ true → is_below (other ∷ []) p ≡ true → folder ≢ other
    → eq_by_cmp path_cmp q p ≡ false
apart folder other p q in_folder in_other differ = ⊎_elim (λ same. absurd (differ (clash same))) (λ not_same. not_same) (path_cases q p) where
  clash : q ≡ p → folder ≡ other
  clash same =
      let a = first_name folder q in_folder in
      let b = first_name other p in_other in
      let e : folder ∷ a.0 ≡ other ∷ b.0 = sym a.1 ∙ same ∙ b.1 in
      cc e

module _ (I : Image) (folder : Folder) (W V : World) (old : History) (before : CoreState) (kept : Kept I folder W V old before) (calm : before.faulted ≡ false)
    (e : Event) (turn : HasTurn (e ∷ [])) (path : Names) (below : is_etc path ≡ true) (due : IsDuePath I W.held path) (node : Option Node)
    (version : (next I W e).version ≡ W.version) (format : (next I W e).format ≡ W.format) (held : (next I W e).held ≡ W.held)
    (etc : (next I W e).etc ≡ with_file W.etc path (file_in node))
    (fit : IsFit I (next I W e)) where
  wrote : History
  wrote = then (scribbled path node) old

  no_store : is_store path ≡ false
  no_store = ⊎_elim (λ yes'. absurd (by yes')) (λ no'. no') (cases_Bool (is_store path)) where
    by : is_store path ≡ true → ⊥
    by yes' = let t = apart (codes "store") (codes "etc") path path yes' below (λ same. cc) in absurd (cc (path_itself path, t))

  agree : AgreeOn is_store (tree_of wrote) (tree_of old)
  unfolding wrote
  agree = same_elsewhere is_store (tree_of old) path node no_store

  settled : IsSettledOn is_store wrote
  unfolding wrote
  settled = let r : IsReadyAt before.place before.held old = kept.core.ready calm in scribbled_elsewhere is_store old path node no_store r.settled

  old_store : HasStore W (tree_of wrote)
  old_store = store_same W (tree_of wrote) (tree_of old) agree kept.disk.store

  new_store : HasStore (next I W e) (tree_of wrote)
  new_store = record {
    directory = old_store.directory;
    resolves = subst (λ (v : Version). Resolves (tree_of wrote) (found v old_store.directory)) (sym version) old_store.resolves;
    holds = record {
      files = old_store.holds.files;
      stands_for = old_store.holds.stands_for;
      stands = subst (λ (h : Held). Stands old_store.holds.files h (next I W e).format) (sym held)
          (subst (Stands old_store.holds.files W.held) (sym format) old_store.holds.stands);
    };
  }

  due_next : (q : Names) → IsDuePath I W.held q → IsDuePath I (next I W e).held q
  due_next q d = subst (λ (x : Held). IsDuePath I x q) (sym held) d

  due_at : (q : Names) → q ≡ path → IsDuePath I W.held q
  due_at q same = subst (IsDuePath I W.held) (sym same) due

  here : (q : Names) → q ≡ path → bytes_at (tree_of wrote) q ≡ get (next I W e).etc q
  unfolding wrote
  here q same = ap file_in (ap (node_at (set_node (tree_of old) path node)) same ∙ node_at-set_same (tree_of old) path node)
      ∙ sym (put_here W.etc path q (file_in node) same) ∙ ap (λ (m : Files). get m q) (sym etc)

  there : (q : Names) → eq_by_cmp path_cmp q path ≡ false → is_etc q ≡ true → bytes_at (tree_of wrote) q ≡ get (next I W e).etc q
  unfolding wrote
  there q other is = ap file_in (node_at-set_other (tree_of old) path node q other) ∙ kept.disk.etc.each q is
      ∙ sym (put_other W.etc path q (file_in node) other)
      ∙ ap (λ (m : Files). get m q) (sym etc)

  -- At each path below `etc` a crash leaves what is there in W, or the path is due.
  still_due : (q : Names) (n : Option Node) → is_etc q ≡ true → MayLeave wrote q n → (file_in n ≡ get W.etc q) ⊎ IsDuePath I W.held q
  unfolding wrote
  still_due q n is (inl before') = ⊎_elim (λ same. inl same) (λ d. inr d.0) (kept.disk.unsettled q n is before')
  still_due q n is (inr at) = inr (due_at q at.0)

  next_due : (q : Names) (n : Option Node) → is_etc q ≡ true → MayLeave wrote q n → (file_in n ≡ get (next I W e).etc q)
      ⊎ (IsDuePath I (next I W e).held q × IsDuePath I (next I W e).held q)
  next_due q n is left = ⊎_elim
      (λ same. let d = due_next q (due_at q same) in inr (d, d))
      (λ other. ⊎_elim
      (λ same. inl (same ∙ sym (put_other W.etc path q (file_in node) other) ∙ ap (λ (m : Files). get m q) (sym etc)))
      (λ d. let n' = due_next q d in inr (n', n'))
      (still_due q n is left))
      (path_cases q path)

  -- A write, that went well or failed: the path has this node, and a crash may leave any bytes there.
  pub ran_wrote : (now : CoreState) → now.place ≡ before.place → now.held ≡ before.held → now.job ≡ (next I W e).job → now.faulted ≡ faulted_next false e
      → (now.faulted ≡ true → is_running now.job ≡ false)
      → Ran I folder W V (e ∷ []) old (then (scribbled path node) old) before now
  unfolding wrote
  ran_wrote now place held' job flag still = stepped I folder W V e old (then (scribbled path node) old) before now kept.disk (record {
    other = next I W e;
    late = Within (e ∷ []) [] refl refl refl;
    kept = record {
      fit = fit;
      format = format ∙ kept.format;
      disk = record {
        store = new_store;
        etc = record { each = λ q is. ⊎_elim (λ same. here q same) (λ other. there q other is) (path_cases q path) };
        image = λ q is. ap file_in (node_at-set_other (tree_of old) path node q (apart (codes "image") (codes "etc") path q is below (λ same. cc)))
            ∙ kept.disk.image q is;
        crash_states = λ c left. inl (settled_store (next I W e) wrote settled new_store c left);
        same_etc = refl;
        unsettled = next_due;
      };
      core = record {
        job = job;
        still = still;
        ready = λ _. subst (λ p. IsReadyAt p now.held wrote) (sym place)
            (subst (λ (x : Held). IsReadyAt before.place x wrote) (sym held')
            (ready_elsewhere before.place before.held old wrote agree settled (kept.core.ready calm)));
      };
    };
    flag = flag ∙ sym (ap (λ b. faulted_next b e) calm);
    moments = since_next (OnTheWay I W V (e ∷ [])) old old (scribbled path node)
        (since_start (OnTheWay I W V (e ∷ [])) old (λ c left. ⊎_elim (λ r. inr (at_start I W (e ∷ []) c r)) (λ r. inl r)
        (recovers_now I folder W V old kept.disk c left)))
        (λ c left. inr (at_start I W (e ∷ []) c (record {
          store = settled_store W wrote settled old_store c left;
          etc =
              λ q is. still_due q (node_at c q) is (left q);
        })));
    touches = own_written I (e ∷ []) turn path node old (record { file = due.file; path_is = due.path_is; below = below });
  })
