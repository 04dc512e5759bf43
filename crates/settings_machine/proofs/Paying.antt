-- Requests keep worlds fit, and files paid.
use Rattle.std.proofs.Common.{◌≡◌, ◌⊎◌, inl, inr, ⊎_elim, ℕ, Bool, true, false, not, if◌then◌else◌, List, []}
use Rattle.std.proofs.Common.{Option, Some, None, refl, sym, ◌∙◌, ap, subst}
use Rattle.std.specs.FinMap.{FinMap, get, entries, keys}
use Rattle.std.proofs.lemmas.Bool.{cases_Bool, not-false}
use Rattle.key_names.specs.Order.{key_cmp, key_cmp-IsAntisymmetric}
use Rattle.json_trees.specs.Equal.{scalar_eq}
use Rattle.json_trees.specs.EqualLaws.{scalar_eq-Decides}
use Rattle.json_trees.specs.declared.pending.Pending.{Pending}
use Rattle.json_trees.specs.declared.pending.Pending.TheVariants.{Put, Gone}
use Rattle.json_trees.specs.declared.scalar.Scalar.{Scalar}
use Rattle.settings_tree.specs.declared.entry.Owed.{Owed}
use Rattle.settings_tree.specs.declared.entry.Owed.TheVariants as owed
use Rattle.settings_tree.specs.declared.held.Held.{Held}
use Rattle.settings_maps.specs.KeyList.{has_key, joined}
use Rattle.pending_tx.specs.Transactions.{last_of, changes_in, changed_in, changed_keys, differs, overlaid, dropped}
use Rattle.pending_tx.specs.Transactions.{patched, owing, pending_of}
use Rattle.settings_tree.proofs.Over.{over, get-laid_over}
use Rattle.metadata_links.specs.Links.{files_of}
use Rattle.settings_machine.specs.declared.cause.Cause.{Cause}
use Rattle.settings_machine.specs.declared.cause.Cause.TheVariants as cause
use Rattle.settings_machine.specs.World.{Key, Among, Image, World, Files, Job, Idle, Failed, Running, owes_none, path_of, rendered}
use Rattle.settings_machine.specs.Typed.{Wanted, first_wanted, IsTypedHeld}
use Rattle.settings_machine.specs.Requests.{Request, Root, OsNames, Settings, SettingsAt, SettingsBelow}
use Rattle.settings_machine.specs.Requests.{Patch, Services, ConfigurationFiles, Affected, Pends, DropTx, TxList}
use Rattle.settings_machine.specs.Requests.{Commit, Apply, CommitAndApply, JobNow}
use Rattle.settings_machine.specs.Requests.{Set, ApplyAll, Guarded, Plan, PlanFile, Store, Verify}
use Rattle.settings_machine.specs.Step.{Outcome, Answered, WithoutMemory, Unopened, Faulted, with_held}
use Rattle.settings_machine.specs.Step.{with_job, noting, failing, patch_next, committed_world}
use Rattle.settings_machine.specs.Step.{commit_next, begun, asked_for, applied, commit_and_apply_next, answered}
use Rattle.settings_machine.specs.Step.{set_world, set_next, owing_all, changed_by}
use Rattle.settings_machine.specs.Step.{request_next}
use Rattle.settings_machine.specs.Covered.{IsCovered}
use Rattle.settings_machine.proofs.Coverage.{DifferOnlyAt, seen}
use Rattle.settings_machine.specs.Paid.{IsCurrent, IsWithin, RunningOwes, RunningPays, IsFit}
use Rattle.settings_machine.proofs.Elements.{among_map, filter_among, among_key, entry_among}
use Rattle.settings_machine.proofs.Reached.{owed_all, owing_old, owing_new, within_owing}
use Rattle.settings_machine.proofs.Guards.{guarded_one}
use Rattle.settings_machine.proofs.Typing.{patched_typed, dropped_typed, committed_typed, set_typed}

-- ---- what a commit changes

-- A key that values and removals don't change has its old value.
pub overlaid_differs : (h : Held) (m : FinMap key_cmp Pending) → DifferOnlyAt (changed_in h m) h.live (overlaid h m).live
overlaid_differs h m = record { same = λ q none. by q none (get m q) refl ∙ sym (get-laid_over h.live m q) } where
  changed : (q : Key) (p : Pending) → get m q ≡ Some p → differs p (get h.live.values q) ≡ true → has_key (changed_in h m) q ≡ true
  changed q p is d = among_key (changed_in h m) q (among_map (λ (x : Key × Pending). x.0) (changes_in h m) (q, p)
      (filter_among (λ (x : Key × Pending). differs x.1 (get h.live.values x.0)) (entries m) (q, p)
      (entry_among key_cmp-IsAntisymmetric m q p is) d))

  same_value : (v l : Scalar) → not (scalar_eq v l) ≡ false → Some l ≡ Some v
  same_value v l e = ap (λ (x : Scalar). Some x) (sym ((scalar_eq-Decides v l).0 (not-false (scalar_eq v l) e)))

  kept : (p : Pending) (l : Option Scalar) → differs p l ≡ false → l ≡ over (Some p) l
  kept (Put v) None e = absurd (cc e)
  kept (Put v) (Some l) e = same_value v l e
  kept Gone None e = refl
  kept Gone (Some l) e = absurd (cc e)

  by : (q : Key) → has_key (changed_in h m) q ≡ false → (o : Option Pending) → get m q ≡ o
      → get h.live.values q ≡ over (get m q) (get h.live.values q)
  by q none None is = ap (λ (o : Option Pending). over o (get h.live.values q)) (sym is)
  by q none (Some p) is =
      kept p (get h.live.values q) (⊎_elim (λ yes'. absurd (cc (none, changed q p is yes'))) (λ no'. no') (cases_Bool (differs p (get h.live.values q))))
      ∙ ap (λ (o : Option Pending). over o (get h.live.values q)) (sym is)

-- ---- more is owed

-- Besides what was owed some keys are owed.
pub record OwesMore (I : Image) (noted : List Key) (o p : Owed) : Type 0 where
  pub old : (f : List ℕ) → Among (files_of I.manifest o) f → Among (files_of I.manifest p) f
  pub new : (f : List ℕ) → Among (files_of I.manifest (owed.Keys noted)) f → Among (files_of I.manifest p) f
  pub within : (since : List Key) → IsWithin since o → IsWithin (joined since noted) p

pub owing_more : (I : Image) (noted : List Key) (o : Owed) → OwesMore I noted o (owing o noted)
owing_more I noted o = record {
  old = owing_old I.manifest o noted;
  new = owing_new I.manifest o noted;
  within = λ since within. within_owing since noted o within;
}

pub all_more : (I : Image) (noted : List Key) (o : Owed) → OwesMore I noted o owed.All
all_more I noted o = record {
  old = owed_all I.manifest o;
  new = owed_all I.manifest (owed.Keys noted);
  within = λ since within. tt;
}

module _ (I : Image) where
  pub same_current : (W X : World) (f : List ℕ) → X.held.live ≡ W.held.live → get X.etc (path_of I f) ≡ get W.etc (path_of I f) → IsCurrent I W f
      → IsCurrent I X f
  same_current W X f live etc current = record { bytes = current.bytes; renders = ap (rendered I f) live ∙ current.renders; stands = etc ∙ current.stands }

  -- A current file stays current, or is one of the keys at which the live values differ.
  still_current : (W X : World) (keys : List Key) (f : List ℕ) → IsCovered I f → DifferOnlyAt keys W.held.live X.held.live → X.etc ≡ W.etc → IsCurrent I W f
      → IsCurrent I X f ⊎ Among (files_of I.manifest (owed.Keys keys)) f
  still_current W X keys f covered differ etc current = ⊎_elim
      (λ same. inl (record {
        bytes = current.bytes;
        renders = sym same ∙ current.renders;
        stands = ap (λ (m : Files). get m (path_of I f)) etc
            ∙ current.stands;
      }))
      (λ at. inr at)
      (seen I f covered W.held.live X.held.live keys differ)

  patch_etc : (W : World) (tx : List ℕ) (pairs : List (Key × Pending)) (o : Option Wanted) → (patch_next W tx pairs o).world.etc ≡ W.etc
  patch_etc W tx pairs None = refl
  patch_etc W tx pairs (Some wanted) = refl

  commit_etc : (W : World) (tx : List ℕ) (o : Option (FinMap key_cmp Pending)) → (commit_next W tx o).world.etc ≡ W.etc
  commit_etc W tx None = refl
  commit_etc W tx (Some p) = refl

  commit_and_apply_etc : (W : World) (tx : List ℕ) (o : Option (FinMap key_cmp Pending)) → (commit_and_apply_next I W tx o).world.etc ≡ W.etc
  commit_and_apply_etc W tx None = refl
  commit_and_apply_etc W tx (Some p) = refl

  set_etc : (W : World) (pairs : List (Key × Pending)) (o : Option Wanted) → (set_next I W pairs o).world.etc ≡ W.etc
  set_etc W pairs None = refl
  set_etc W pairs (Some wanted) = refl

  -- A request leaves the configuration files alone.
  pub answered_etc : (W : World) (q : Request) → (answered I W q).world.etc ≡ W.etc
  answered_etc W Root = refl
  answered_etc W OsNames = refl
  answered_etc W Settings = refl
  answered_etc W (SettingsAt list) = refl
  answered_etc W (SettingsBelow key) = refl
  answered_etc W (Patch tx pairs) = patch_etc W tx pairs (first_wanted I.types pairs)
  answered_etc W (Services names) = refl
  answered_etc W (ConfigurationFiles names) = refl
  answered_etc W (Affected list) = refl
  answered_etc W (Pends tx) = refl
  answered_etc W (DropTx tx) = refl
  answered_etc W TxList = refl
  answered_etc W (Commit tx) = commit_etc W tx (get W.held.pending tx)
  answered_etc W Apply = refl
  answered_etc W (CommitAndApply tx) = commit_and_apply_etc W tx (get W.held.pending tx)
  answered_etc W JobNow = refl
  answered_etc W (Set pairs) = set_etc W pairs (first_wanted I.types pairs)
  answered_etc W ApplyAll = refl
  answered_etc W (Guarded q) = guarded_one I (λ (X : World). X.etc ≡ W.etc) W (changed_by W q) (answered I W q) refl (answered_etc W q)
  answered_etc W (Plan tx) = refl
  answered_etc W (PlanFile file tx) = refl
  answered_etc W Store = refl
  answered_etc W Verify = refl

-- ---- worlds that are fit, with some files that are paid

-- The files that are spoken of are some of those that are covered: none, where it is asked only whether a world stays fit, or one.
module _ (I : Image) (S : List ℕ → Type 0) (are_covered : (f : List ℕ) → S f → IsCovered I f) where
  -- What is due in a fit world is what is owed.
  pub record FilesPaid (W : World) : Type 0 where
    pub each : (f : List ℕ) → S f → IsCurrent I W f ⊎ Among (files_of I.manifest W.held.owed) f

  -- A running job does only what is owed, and pays the files.
  pub record JobGood (W : World) (j : Job) : Type 0 where
    pub owes : RunningOwes I W j
    pub pays : (f : List ℕ) → S f → RunningPays I W f j

  -- The world is fit, and the files are paid.
  pub record Good (W : World) : Type 0 where
    pub fit : IsFit I W
    pub files : FilesPaid W
    pub pays : (f : List ℕ) → S f → RunningPays I W f W.job

  pub good_job : (W : World) → Good W → JobGood W W.job
  good_job W good = record { owes = good.fit.job; pays = good.pays }

  pub idle_good : (W : World) → JobGood W Idle
  idle_good W = record { owes = tt; pays = λ f some. tt }

  pub failed_good : (W : World) (c : Cause) → JobGood W (Failed c)
  failed_good W c = record { owes = tt; pays = λ f some. tt }

  -- A world is good where it is typed, has the image's text, and its files and its job are good.
  pub is_good : (X : World) → IsTypedHeld I.types X.held → X.held.image ≡ I.text → FilesPaid X → JobGood X X.job → Good X
  is_good X typed image files job = record { fit = record { typed = typed; image = image; job = job.owes }; files = files; pays = job.pays }

  pub same_files : (W X : World) → X.held.live ≡ W.held.live → X.etc ≡ W.etc → X.held.owed ≡ W.held.owed → FilesPaid W → FilesPaid X
  same_files W X live etc o files = record {
    each = λ f some. ⊎_elim
        (λ current. inl (same_current I W X f live (ap (λ (m : Files). get m (path_of I f)) etc) current))
        (λ due'. inr (subst (λ (p : Owed). Among (files_of I.manifest p) f) (sym o) due'))
        (files.each f some);
  }

  pub same_job : (W X : World) (j : Job) → X.held.live ≡ W.held.live → X.etc ≡ W.etc → X.held.owed ≡ W.held.owed → JobGood W j → JobGood X j
  same_job W X Idle live etc o job = idle_good X
  same_job W X (Failed c) live etc o job = failed_good X c
  same_job W X (Running w) live etc o job = record {
    owes = record {
      to_do = λ f at. subst (λ (p : Owed). Among (files_of I.manifest p) f) (sym o) (job.owes.to_do f at);
      since = subst (IsWithin w.since) (sym o) job.owes.since;
    };
    pays = λ f some. ⊎_elim
        (λ current. inl (same_current I W X f live (ap (λ (m : Files). get m (path_of I f)) etc) current))
        (λ later. inr later)
        (job.pays f some);
  }

  failing_good : (X : World) (j : Job) (c : Cause) → JobGood X (failing j c)
  failing_good X Idle c = idle_good X
  failing_good X (Failed d) c = failed_good X d
  failing_good X (Running w) c = failed_good X c

  -- ---- requests that change what is pending

  held_good : (W : World) (h : Held) → IsTypedHeld I.types h → h.live ≡ W.held.live → h.owed ≡ W.held.owed → h.image ≡ W.held.image → Good W
      → Good (with_held W h)
  held_good W h typed live o image good = is_good (with_held W h) typed (image ∙ good.fit.image) (same_files W (with_held W h) live refl o good.files)
      (same_job W (with_held W h) W.job live refl o (good_job W good))

  pub job_good : (W : World) (j : Job) → Good W → JobGood (with_job W j) j → Good (with_job W j)
  job_good W j good job = is_good (with_job W j) good.fit.typed good.fit.image (same_files W (with_job W j) refl refl refl good.files) job

  -- ---- apply

  none_within : (o : Owed) → IsWithin [] o
  none_within owed.All = tt
  none_within (owed.Keys os) = λ k is. absurd (cc is)

  pub begun_good : (X : World) → FilesPaid X → JobGood X (begun I X.held.owed)
  begun_good X files = record {
    owes = record { to_do = λ f at. at; since = none_within X.held.owed };
    pays = λ f some. ⊎_elim (λ current. inl current) (λ due'. inr (inl due')) (files.each f some);
  }

  asked_good : (W : World) (j : Job) → Good W → JobGood W j → JobGood (with_job W (asked_for I W.held.owed j)) (asked_for I W.held.owed j)
  asked_good W Idle good job = begun_good (with_job W (begun I W.held.owed)) (same_files W (with_job W (begun I W.held.owed)) refl refl refl good.files)
  asked_good W (Failed c) good job = begun_good (with_job W (begun I W.held.owed)) (same_files W (with_job W (begun I W.held.owed)) refl refl refl good.files)
  asked_good W (Running w) good job = same_job W (with_job W (asked_for I W.held.owed (Running w))) (Running (record w { again = true })) refl refl refl
      (record { owes = record { to_do = job.owes.to_do; since = job.owes.since }; pays = job.pays })

  applied_good : (W : World) → Good W → Good (applied I W)
  applied_good W good = by (owes_none W.held.owed) where
    by : (b : Bool) → Good (with_job W (if b then Idle else asked_for I W.held.owed W.job))
    by true = job_good W Idle good (idle_good (with_job W Idle))
    by false = job_good W (asked_for I W.held.owed W.job) good (asked_good W W.job good (good_job W good))

  -- ---- faults

  -- What is held is that of a world that is good and has the same files, and no job runs.
  faulted_good : (W X : World) → X.etc ≡ W.etc → Good X → Good (record W { held = X.held; job = failing W.job cause.Disk })
  faulted_good W X etc good = is_good (record W { held = X.held; job = failing W.job cause.Disk }) good.fit.typed good.fit.image
      (same_files X (record W { held = X.held; job = failing W.job cause.Disk }) refl (sym etc) refl good.files) (failing_good _ W.job cause.Disk)

  -- ---- commit

  -- The live values differ at some keys, and besides what was owed those that are noted are owed, whose files are all that are of those.
  pub record Notes (W X : World) (differing noted : List Key) : Type 0 where
    pub differ : DifferOnlyAt differing W.held.live X.held.live
    pub narrow : (f : List ℕ) → Among (files_of I.manifest (owed.Keys differing)) f → Among (files_of I.manifest (owed.Keys noted)) f
    pub etc : X.etc ≡ W.etc
    pub more : OwesMore I noted W.held.owed X.held.owed

  module _ (W X : World) (differing noted : List Key) (notes : Notes W X differing noted) where
    -- The files stay paid, and so does a running job that notes the keys.
    pub noted_files : FilesPaid W → FilesPaid X
    noted_files files = record {
      each = λ f some. ⊎_elim
          (λ current. ⊎_elim (λ still. inl still) (λ hit. inr (notes.more.new f (notes.narrow f hit)))
          (still_current I W X differing f (are_covered f some) notes.differ notes.etc current))
          (λ due'. inr (notes.more.old f due'))
          (files.each f some);
    }

    pub noted_pays : (j : Job) → ((f : List ℕ) → S f → RunningPays I W f j) → (f : List ℕ) → S f → RunningPays I X f (noting j noted)
    noted_pays Idle pays f some = tt
    noted_pays (Failed c) pays f some = tt
    noted_pays (Running w) pays f some = ⊎_elim
        (λ current. ⊎_elim (λ still. inl still)
        (λ hit. inr (inr (owing_new I.manifest (owed.Keys w.since) noted f (notes.narrow f hit))))
        (still_current I W X differing f (are_covered f some) notes.differ notes.etc current))
        (λ later. inr (⊎_elim (λ to_do. inl to_do) (λ since. inr (owing_old I.manifest (owed.Keys w.since) noted f since)) later))
        (pays f some)

    pub noted_owes : (j : Job) → RunningOwes I W j → RunningOwes I X (noting j noted)
    noted_owes Idle owes = tt
    noted_owes (Failed c) owes = tt
    noted_owes (Running w) owes = record { to_do = λ f at. notes.more.old f (owes.to_do f at); since = notes.more.within w.since owes.since }

  commit_good : (W : World) (tx : List ℕ) → Good W → Good (committed_world W tx)
  commit_good W tx good =
      let notes : Notes W (committed_world W tx) (changed_keys W.held tx) (changed_keys W.held tx) = record {
        differ = overlaid_differs W.held (pending_of W.held tx);
        narrow = λ f at. at;
        etc = refl;
        more = owing_more I (changed_keys W.held tx) W.held.owed;
      } in
      is_good (committed_world W tx) (committed_typed I.types W.held good.fit.typed tx) good.fit.image
      (noted_files W (committed_world W tx) (changed_keys W.held tx) (changed_keys W.held tx) notes good.files)
      (record {
        owes = noted_owes W (committed_world W tx) (changed_keys W.held tx) (changed_keys W.held tx) notes W.job good.fit.job;
        pays = noted_pays W (committed_world W tx) (changed_keys W.held tx) (changed_keys W.held tx) notes W.job good.pays;
      })

  set_good : (W : World) (pairs : List (Key × Pending)) → first_wanted I.types pairs ≡ None → Good W → Good (set_world W pairs)
  set_good W pairs none good =
      let notes : Notes W (set_world W pairs) (changed_in W.held (last_of pairs)) (changed_in W.held (last_of pairs)) = record {
        differ = overlaid_differs W.held (last_of pairs);
        narrow = λ f at. at;
        etc = refl;
        more = owing_more I (changed_in W.held (last_of pairs)) W.held.owed;
      } in
      is_good (set_world W pairs) (set_typed I.types W.held good.fit.typed pairs none) good.fit.image
      (noted_files W (set_world W pairs) (changed_in W.held (last_of pairs)) (changed_in W.held (last_of pairs)) notes good.files)
      (record {
        owes = noted_owes W (set_world W pairs) (changed_in W.held (last_of pairs)) (changed_in W.held (last_of pairs)) notes W.job good.fit.job;
        pays = noted_pays W (set_world W pairs) (changed_in W.held (last_of pairs)) (changed_in W.held (last_of pairs)) notes W.job good.pays;
      })

  -- ---- all is owed

  all_owed_good : (W : World) → Good W → Good (owing_all W)
  all_owed_good W good = is_good (owing_all W) (record { settings = good.fit.typed.settings; pending = good.fit.typed.pending }) good.fit.image
      (record {
        each = λ f some. ⊎_elim
            (λ current. inl (same_current I W (owing_all W) f refl refl current))
            (λ due'. inr (owed_all I.manifest W.held.owed f due'))
            (good.files.each f some);
      })
      (by W.job (good_job W good))
    where
      by : (j : Job) → JobGood W j → JobGood (owing_all W) j
      by Idle job = idle_good (owing_all W)
      by (Failed c) job = failed_good (owing_all W) c
      by (Running w) job = record {
        owes = record { to_do = λ f at. owed_all I.manifest W.held.owed f (job.owes.to_do f at); since = tt };
        pays = λ f some. ⊎_elim (λ current. inl (same_current I W (owing_all W) f refl refl current)) (λ later. inr later) (job.pays f some);
      }

  -- ---- requests

  set_next_good : (W : World) (pairs : List (Key × Pending)) (o : Option Wanted) → first_wanted I.types pairs ≡ o → Good W
      → Good (set_next I W pairs o).world
  set_next_good W pairs None none good = applied_good (set_world W pairs) (set_good W pairs none good)
  set_next_good W pairs (Some wanted) is good = good

  patch_good : (W : World) (tx : List ℕ) (pairs : List (Key × Pending)) (o : Option Wanted) → first_wanted I.types pairs ≡ o → Good W
      → Good (patch_next W tx pairs o).world
  patch_good W tx pairs None none good = held_good W (patched W.held tx pairs) (patched_typed I.types W.held good.fit.typed tx pairs none) refl refl refl good
  patch_good W tx pairs (Some wanted) is good = good

  commit_next_good : (W : World) (tx : List ℕ) (o : Option (FinMap key_cmp Pending)) → Good W → Good (commit_next W tx o).world
  commit_next_good W tx None good = good
  commit_next_good W tx (Some p) good = commit_good W tx good

  commit_and_apply_good : (W : World) (tx : List ℕ) (o : Option (FinMap key_cmp Pending)) → Good W → Good (commit_and_apply_next I W tx o).world
  commit_and_apply_good W tx None good = good
  commit_and_apply_good W tx (Some p) good = applied_good (committed_world W tx) (commit_good W tx good)

  answered_good : (W : World) (q : Request) → Good W → Good (answered I W q).world
  answered_good W Root good = good
  answered_good W OsNames good = good
  answered_good W Settings good = good
  answered_good W (SettingsAt list) good = good
  answered_good W (SettingsBelow key) good = good
  answered_good W (Patch tx pairs) good = patch_good W tx pairs (first_wanted I.types pairs) refl good
  answered_good W (Services names) good = good
  answered_good W (ConfigurationFiles names) good = good
  answered_good W (Affected list) good = good
  answered_good W (Pends tx) good = good
  answered_good W (DropTx tx) good = held_good W (dropped W.held tx) (dropped_typed I.types W.held good.fit.typed tx) refl refl refl good
  answered_good W TxList good = good
  answered_good W (Commit tx) good = commit_next_good W tx (get W.held.pending tx) good
  answered_good W Apply good = applied_good W good
  answered_good W (CommitAndApply tx) good = commit_and_apply_good W tx (get W.held.pending tx) good
  answered_good W JobNow good = good
  answered_good W (Set pairs) good = set_next_good W pairs (first_wanted I.types pairs) refl good
  answered_good W ApplyAll good = applied_good (owing_all W) (all_owed_good W good)
  answered_good W (Guarded q) good = guarded_one I Good W (changed_by W q) (answered I W q) good (answered_good W q good)
  answered_good W (Plan tx) good = good
  answered_good W (PlanFile file tx) good = good
  answered_good W Store good = good
  answered_good W Verify good = good

  pub request_good : (W : World) (q : Request) (o : Outcome) → Good W → Good (request_next I W q o).world
  unfolding request_next
  request_good W q Answered good = answered_good W q good
  request_good W q WithoutMemory good = good
  request_good W q (Unopened at) good = good
  request_good W q (Faulted taken) good = by taken where
    by : (b : Bool) → Good (record W { held = if b then (answered I W q).world.held else W.held; job = failing W.job cause.Disk })
    by true = faulted_good W (answered I W q).world (answered_etc I W q) (answered_good W q good)
    by false = faulted_good W W refl good
