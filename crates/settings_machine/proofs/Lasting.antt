-- Turns and openings keep worlds fit, and files paid.
use Rattle.std.proofs.Common.{◌≡◌, inl, inr, ⊎_elim, ℕ, zero, suc, Bool, true, false, not, ◌&&◌, ◌||◌, if◌then◌else◌, List, [], ◌∷◌}
use Rattle.std.proofs.Common.{Option, Some, None, is_some, Ok, Err, refl, sym, ◌∙◌, ap, subst}
use Rattle.std.specs.Ordering.{eq_by_cmp}
use Rattle.std.specs.Str.{bytes_eq}
use Rattle.std.specs.FinMap.{get, keys, get-insert, get-remove}
use Rattle.std.proofs.lemmas.Bool.{and_parts, cases_Bool, cond-true, cond-false}
use Rattle.outside.specs.Names.{Names, path_cmp}
use Rattle.outside.specs.Order.{path_total}
use Rattle.settings_tree.specs.declared.entry.Owed.{Owed}
use Rattle.settings_tree.specs.declared.entry.Owed.TheVariants as owed
use Rattle.settings_tree.specs.declared.held.Held.{Held}
use Rattle.pending_tx.specs.Transactions.{owing}
use Rattle.metadata_links.specs.Links.{files_of, listed, service_named}
use Rattle.template_eval.specs.Rendered.{Rendered}
use Rattle.settings_machine.specs.declared.cause.Cause.{Cause}
use Rattle.settings_machine.specs.declared.cause.Cause.TheVariants as cause
use Rattle.settings_machine.specs.World.{Among, Image, World, Files, Work, Job, Idle, Failed, Running, owes_none, path_of, rendered}
use Rattle.settings_machine.specs.Typed.{IsTypedHeld}
use Rattle.settings_machine.specs.Opening.{added_keys, opened_held}
use Rattle.settings_machine.specs.Step.{Answer, Fine, NoRoom, FileFault, NoSpawn, SyncFault, OwedFault}
use Rattle.settings_machine.specs.Step.{with_job, begun}
use Rattle.settings_machine.specs.Step.{with_file, wrote, file_turn, Command, ended, ran}
use Rattle.settings_machine.specs.Step.{command_turn, last_turn, after_files_turn, work_turn, job_turn, turn_next, opened}
use Rattle.settings_machine.specs.Events.{Event, Opening, Succeeded, Failing, Opened, Asked, Unread}
use Rattle.settings_machine.specs.Events.{Turned, Began, Moved, Forgot, opening_next, next, after, is_served, are_served}
use Rattle.settings_machine.specs.Covered.{IsCovered}
use Rattle.settings_machine.proofs.Coverage.{covered_service}
use Rattle.settings_machine.specs.Paid.{IsCurrent, IsGood}
use Rattle.settings_machine.proofs.Elements.{path_tied, path_itself, flat_among, among_both, firsts_among, among_named}
use Rattle.settings_machine.proofs.Reached.{owed_all, service_lists, listed_all}
use Rattle.settings_machine.proofs.Manifests.{HasGoodFiles, good_files}
use Rattle.settings_machine.proofs.Openings.{opened_keys, opened_typed, opened_differs, opened_files}
use Rattle.settings_machine.proofs.Paying.{OwesMore, owing_more, all_more, same_current, FilesPaid, JobGood}
use Rattle.settings_machine.proofs.Paying.{Good, good_job, idle_good, failed_good, is_good, same_files}
use Rattle.settings_machine.proofs.Paying.{same_job, job_good, begun_good, Notes, noted_files, noted_pays, noted_owes, request_good}

-- ---- turns

pub put_here : (etc : Files) (p q : Names) (left : Option (List ℕ)) → q ≡ p → get (with_file etc p left) q ≡ left
put_here etc p q (Some bytes) same = get-insert path_total etc p bytes q ∙ cond-true _ _ _ (ap (λ (x : Names). eq_by_cmp path_cmp x p) same ∙ path_itself p)
put_here etc p q None same = get-remove path_total etc p q ∙ cond-true _ _ _ (ap (λ (x : Names). eq_by_cmp path_cmp x p) same ∙ path_itself p)

pub put_other : (etc : Files) (p q : Names) (left : Option (List ℕ)) → eq_by_cmp path_cmp q p ≡ false → get (with_file etc p left) q ≡ get etc q
put_other etc p q (Some bytes) other = get-insert path_total etc p bytes q ∙ cond-false _ _ _ other
put_other etc p q None other = get-remove path_total etc p q ∙ cond-false _ _ _ other

module _ (I : Image) (image : IsGood I) where
  files_known : HasGoodFiles I.manifest
  files_known = good_files I.defaults I.manifest image.manifest

  -- A covered file is there, and so is a file of what is owed.
  pub covered_known : (f : List ℕ) → IsCovered I f → is_some (get I.manifest.files f) ≡ true
  covered_known f covered = let k : HasGoodFiles I.manifest = files_known in let s = covered_service I f covered in
      k.known s.0 f (service_lists I.manifest f s.0 s.1)

  pub covered_all : (f : List ℕ) → IsCovered I f → Among (files_of I.manifest owed.All) f
  covered_all f covered = let s = covered_service I f covered in listed_all I.manifest s.0 f (service_lists I.manifest f s.0 s.1)

  -- Two files that are there with one path are one.
  one_file : (f g : List ℕ) → is_some (get I.manifest.files f) ≡ true → is_some (get I.manifest.files g) ≡ true
      → eq_by_cmp path_cmp (path_of I g) (path_of I f) ≡ true → g ≡ f
  one_file f g has_f has_g same = let k : HasGoodFiles I.manifest = files_known in k.apart g f has_g has_f (path_tied _ _ same)

  pub owed_known : (o : Owed) (f : List ℕ) → Among (files_of I.manifest o) f → is_some (get I.manifest.files f) ≡ true
  owed_known o f at =
      let k : HasGoodFiles I.manifest = files_known in
      ⊎_elim (λ by_service. let t = flat_among (λ (s : List ℕ). (service_named I.manifest s).files) (keys I.manifest.services) f by_service in
      k.known t.0 f t.2)
      (λ by_name. among_named I.manifest.files f by_name)
      (among_both (listed I.manifest (keys I.manifest.services)) (keys I.manifest.files) f (firsts_among _ f (owed_all I.manifest o f at)))

  -- A file whose path isn't that of the one that was touched stays current.
  other_current : (W X : World) (f g : List ℕ) (left : Option (List ℕ)) → X.held.live ≡ W.held.live → X.etc ≡ with_file W.etc (path_of I f) left
      → eq_by_cmp path_cmp (path_of I g) (path_of I f) ≡ false → IsCurrent I W g → IsCurrent I X g
  other_current W X f g left live etc other current = same_current I W X g live
      (ap (λ (m : Files). get m (path_of I g)) etc ∙ put_other W.etc (path_of I f) (path_of I g) left other) current

-- ---- turns of a fit world, in which some files are paid

module _ (I : Image) (image : IsGood I) (S : List ℕ → Type 0) (are_covered : (f : List ℕ) → S f → IsCovered I f) where
  abbrev IsGoodWorld : World → Type 0
  IsGoodWorld W = Good I S are_covered W

  abbrev IsGoodJob : World → Job → Type 0
  IsGoodJob W j = JobGood I S are_covered W j

  abbrev AreFilesPaid : World → Type 0
  AreFilesPaid W = FilesPaid I S are_covered W

  is_good_world : (X : World) → IsTypedHeld I.types X.held → X.held.image ≡ I.text → AreFilesPaid X → IsGoodJob X X.job → IsGoodWorld X
  is_good_world = is_good I S are_covered

  stays_paid : (W X : World) → X.held.live ≡ W.held.live → X.etc ≡ W.etc → X.held.owed ≡ W.held.owed → AreFilesPaid W → AreFilesPaid X
  stays_paid = same_files I S are_covered

  stop_good : (W : World) (c : Cause) → IsGoodWorld W → IsGoodWorld (with_job W (Failed c))
  stop_good W c good = job_good I S are_covered W (Failed c) good (failed_good I S are_covered (with_job W (Failed c)) c)

  module _ (W : World) (w : Work) (f : List ℕ) (fs : List (List ℕ)) (is : w.files ≡ f ∷ fs) (good : IsGoodWorld W) (job : IsGoodJob W (Running w)) where
    to_do_owed : Among (files_of I.manifest W.held.owed) f
    to_do_owed = job.owes.to_do f (subst (λ (l : List (List ℕ)). Among l f) (sym is) (inl refl))

    same_file : (g : List ℕ) → S g → eq_by_cmp path_cmp (path_of I g) (path_of I f) ≡ true → g ≡ f
    same_file g some same = one_file I image f g (owed_known I image W.held.owed f to_do_owed) (covered_known I image g (are_covered g some)) same

    file_fault_good : (left : Option (List ℕ)) → IsGoodWorld (record W { job = Failed cause.Disk; etc = with_file W.etc (path_of I f) left })
    file_fault_good left =
        is_good_world (record W { job = Failed cause.Disk; etc = with_file W.etc (path_of I f) left }) good.fit.typed good.fit.image
        (record {
          each = λ g some. ⊎_elim
              (λ same. inr (subst (Among (files_of I.manifest W.held.owed)) (sym (same_file g some same)) to_do_owed))
              (λ other. ⊎_elim
              (λ current. inl (other_current I image W (record W { job = Failed cause.Disk; etc = with_file W.etc (path_of I f) left }) f g left refl refl other
              current))
              (λ due'. inr due')
              (good.files.each g some))
              (cases_Bool (eq_by_cmp path_cmp (path_of I g) (path_of I f)));
        })
        (failed_good I S are_covered _ cause.Disk)

    wrote_good : (r : Rendered) → rendered I f W.held.live ≡ r → IsGoodWorld (wrote I W f fs w r)
    wrote_good (Err e) renders = stop_good W (cause.Render f e) good
    wrote_good (Ok bytes) renders = is_good_world (wrote I W f fs w (Ok bytes)) good.fit.typed good.fit.image
        (record {
          each = λ g some. ⊎_elim
              (λ same. inl (here g (same_file g some same)))
              (λ other. ⊎_elim (λ current. inl (still g other current)) (λ due'. inr due') (good.files.each g some))
              (cases_Bool (eq_by_cmp path_cmp (path_of I g) (path_of I f)));
        })
        (record {
          owes = record {
            to_do = λ g at. job.owes.to_do g (subst (λ (l : List (List ℕ)). Among l g) (sym is) (inr at));
            since = job.owes.since;
          };
          pays = λ g some. ⊎_elim
              (λ same. inl (here g (same_file g some same)))
              (λ other. ⊎_elim
              (λ current. inl (still g other current))
              (⊎_elim (λ to_do. inr (inl (left_to_do g other to_do))) (λ since. inr (inr since)))
              (job.pays g some))
              (cases_Bool (eq_by_cmp path_cmp (path_of I g) (path_of I f)));
        })
      where
        here : (g : List ℕ) → g ≡ f → IsCurrent I (wrote I W f fs w (Ok bytes)) g
        here g same = record {
          bytes = bytes;
          renders = ap (λ (h : List ℕ). rendered I h W.held.live) same ∙ renders;
          stands = put_here W.etc (path_of I f) (path_of I g) (Some bytes) (ap (path_of I) same);
        }

        still : (g : List ℕ) → eq_by_cmp path_cmp (path_of I g) (path_of I f) ≡ false → IsCurrent I W g → IsCurrent I (wrote I W f fs w (Ok bytes)) g
        still g other current = other_current I image W (wrote I W f fs w (Ok bytes)) f g (Some bytes) refl refl other current

        left_to_do : (g : List ℕ) → eq_by_cmp path_cmp (path_of I g) (path_of I f) ≡ false → Among w.files g → Among fs g
        left_to_do g other at = ⊎_elim
            (λ same. absurd (cc (other, ap (λ (h : List ℕ). eq_by_cmp path_cmp (path_of I h) (path_of I f)) same ∙ path_itself (path_of I f))))
            (λ rest. rest)
            (subst (λ (l : List (List ℕ)). Among l g) is at)

    file_turn_good : (a : Answer) → IsGoodWorld (file_turn I W f fs w a)
    file_turn_good (Fine status) = wrote_good (rendered I f W.held.live) refl
    file_turn_good NoRoom = stop_good W cause.Memory good
    file_turn_good (FileFault left) = file_fault_good left
    file_turn_good NoSpawn = stop_good W cause.Disk good
    file_turn_good SyncFault = stop_good W cause.Disk good
    file_turn_good (OwedFault stored) = stop_good W cause.Disk good

  -- Only the job's commands and the programs that were run change.
  ran_good : (W : World) (c : Command) (cs : List Command) (w : Work) (status : ℕ) → IsGoodWorld W → IsGoodJob W (Running w) → IsGoodWorld (ran W c cs w status)
  ran_good W c cs w status good job =
      is_good_world (ran W c cs w status) good.fit.typed good.fit.image (stays_paid W (ran W c cs w status) refl refl refl good.files) (by status)
    where
      by : (n : ℕ) → IsGoodJob (ran W c cs w status) (ended c cs w n)
      by zero = same_job I S are_covered W (ran W c cs w status) (Running (record w { commands = cs })) refl refl refl
          (record { owes = record { to_do = job.owes.to_do; since = job.owes.since }; pays = job.pays })
      by (suc n) = failed_good I S are_covered (ran W c cs w status) (cause.Status c.0 (suc n))

  command_turn_good : (W : World) (c : Command) (cs : List Command) (w : Work) (a : Answer) → IsGoodWorld W → IsGoodJob W (Running w)
      → IsGoodWorld (command_turn W c cs w a)
  command_turn_good W c cs w (Fine status) good job = ran_good W c cs w status good job
  command_turn_good W c cs w NoRoom good job = stop_good W cause.Memory good
  command_turn_good W c cs w (FileFault left) good job = stop_good W cause.Disk good
  command_turn_good W c cs w NoSpawn good job = stop_good W (cause.Spawn c.0) good
  command_turn_good W c cs w SyncFault good job = stop_good W cause.Disk good
  command_turn_good W c cs w (OwedFault stored) good job = stop_good W cause.Disk good

  -- Once the job is done, what is owed is what it noted.
  done_files : (W X : World) (w : Work) → w.files ≡ [] → IsGoodJob W (Running w) → X.held.live ≡ W.held.live → X.etc ≡ W.etc → X.held.owed ≡ owed.Keys w.since
      → AreFilesPaid X
  done_files W X w is job live etc o = record {
    each = λ g some. ⊎_elim
        (λ current. inl (same_current I W X g live (ap (λ (m : Files). get m (path_of I g)) etc) current))
        (⊎_elim
        (λ to_do. absurd (subst (λ (l : List (List ℕ)). Among l g) is to_do))
        (λ since. inr (subst (λ (p : Owed). Among (files_of I.manifest p) g) (sym o) since)))
        (job.pays g some);
  }

  typed_owed : (h : Held) (o : Owed) → IsTypedHeld I.types h → IsTypedHeld I.types (record h { owed = o })
  typed_owed h o typed = record { settings = typed.settings; pending = typed.pending }

  last_turn_good : (W : World) (w : Work) (a : Answer) → w.files ≡ [] → IsGoodWorld W → IsGoodJob W (Running w) → IsGoodWorld (last_turn I W w a)
  last_turn_good W w (Fine status) is good job =
      is_good_world (last_turn I W w (Fine status)) (typed_owed W.held (owed.Keys w.since) good.fit.typed) good.fit.image
      (done_files W (last_turn I W w (Fine status)) w is job refl refl refl) (by (w.again && not (owes_none (owed.Keys w.since))))
    where
      by : (b : Bool) → IsGoodJob (last_turn I W w (Fine status)) (if b then begun I (owed.Keys w.since) else Idle)
      by true = begun_good I S are_covered (last_turn I W w (Fine status)) (done_files W (last_turn I W w (Fine status)) w is job refl refl refl)
      by false = idle_good I S are_covered (last_turn I W w (Fine status))
  last_turn_good W w (OwedFault stored) is good job = by stored where
    by : (b : Bool) → IsGoodWorld (record W { held = record W.held { owed = if b then owed.Keys w.since else W.held.owed }; job = Failed cause.Disk })
    by true = is_good_world (record W { held = record W.held { owed = owed.Keys w.since }; job = Failed cause.Disk })
        (typed_owed W.held (owed.Keys w.since) good.fit.typed) good.fit.image
        (done_files W (record W { held = record W.held { owed = owed.Keys w.since }; job = Failed cause.Disk }) w is job refl refl refl)
        (failed_good I S are_covered _ cause.Disk)
    by false = is_good_world (record W { held = record W.held { owed = W.held.owed }; job = Failed cause.Disk })
        (typed_owed W.held W.held.owed good.fit.typed) good.fit.image
        (stays_paid W (record W { held = record W.held { owed = W.held.owed }; job = Failed cause.Disk }) refl refl refl good.files)
        (failed_good I S are_covered _ cause.Disk)
  last_turn_good W w NoRoom is good job = stop_good W cause.Memory good
  last_turn_good W w (FileFault left) is good job = stop_good W cause.Disk good
  last_turn_good W w NoSpawn is good job = stop_good W cause.Disk good
  last_turn_good W w SyncFault is good job = stop_good W cause.Disk good

  after_files_good : (W : World) (cs : List Command) (w : Work) (a : Answer) → w.files ≡ [] → IsGoodWorld W → IsGoodJob W (Running w)
      → IsGoodWorld (after_files_turn I W cs w a)
  after_files_good W [] w a is good job = last_turn_good W w a is good job
  after_files_good W (c ∷ cs) w a is good job = command_turn_good W c cs w a good job

  work_good : (W : World) (todo : List (List ℕ)) (w : Work) (a : Answer) → w.files ≡ todo → IsGoodWorld W → IsGoodJob W (Running w)
      → IsGoodWorld (work_turn I W todo w a)
  work_good W [] w a is good job = after_files_good W w.commands w a is good job
  work_good W (f ∷ fs) w a is good job = file_turn_good W w f fs is good job a

  turn_good : (W : World) (a : Answer) → IsGoodWorld W → IsGoodWorld (turn_next I W a)
  unfolding turn_next
  turn_good W a good = by W.job (good_job I S are_covered W good) where
    by : (j : Job) → IsGoodJob W j → IsGoodWorld (job_turn I W j a)
    by Idle job = good
    by (Failed c) job = good
    by (Running w) job = work_good W w.files w a refl good job

  -- ---- openings

  opened_more : (h : Held) (boot : Bool) → OwesMore I (added_keys I.defaults.values h.live.values) h.owed (opened_held I h boot).owed
  opened_more h boot = by (boot || not (bytes_eq h.image I.text)) where
    by : (b : Bool) → OwesMore I (added_keys I.defaults.values h.live.values) h.owed
        (if b then owed.All else owing h.owed (added_keys I.defaults.values h.live.values))
    by true = all_more I (added_keys I.defaults.values h.live.values) h.owed
    by false = owing_more I (added_keys I.defaults.values h.live.values) h.owed

  abbrev pub OpeningNotes : World → Bool → Type 0
  OpeningNotes W boot = Notes I S are_covered W (opened I W boot) (opened_keys I.defaults.values W.held.live.values)
      (added_keys I.defaults.values W.held.live.values)

  pub opening_notes : (W : World) (boot : Bool) → OpeningNotes W boot
  unfolding opened
  opening_notes W boot = record {
    differ = opened_differs I W.held boot;
    narrow = opened_files I image I.defaults.values W.held.live.values;
    etc = refl;
    more = opened_more W.held boot;
  }

  pub opened_good : (W : World) (boot : Bool) → IsGoodWorld W → IsGoodWorld (opened I W boot)
  unfolding opened
  opened_good W boot good =
      let notes : OpeningNotes W boot = opening_notes W boot in
      let from = opened_keys I.defaults.values W.held.live.values in
      let to = added_keys I.defaults.values W.held.live.values in
      is_good_world (opened I W boot) (opened_typed I W.held boot image.defaults good.fit.typed) refl
      (noted_files I S are_covered W (opened I W boot) from to notes good.files)
      (record {
        owes = noted_owes I S are_covered W (opened I W boot) from to notes W.job good.fit.job;
        pays = noted_pays I S are_covered W (opened I W boot) from to notes W.job good.pays;
      })

  -- ---- the law

  opening_good : (W : World) (boot : Bool) (o : Opening) → IsGoodWorld W → IsGoodWorld (opening_next I W boot o)
  opening_good W boot Succeeded good = opened_good W boot good
  opening_good W boot (Failing taken) good = by taken where
    by : (b : Bool) → IsGoodWorld (if b then opened I W boot else W)
    by true = opened_good W boot good
    by false = good

  pub next_good : (W : World) (e : Event) → is_served e ≡ true → IsGoodWorld W → IsGoodWorld (next I W e)
  next_good W (Opened boot o) served good = opening_good W boot o good
  next_good W (Asked q o) served good = request_good I S are_covered W q o good
  next_good W (Unread why) served good = good
  next_good W (Turned a) served good = turn_good W a good
  next_good W (Began version) served good = absurd (cc served)
  next_good W (Moved version held) served good = absurd (cc served)
  next_good W (Forgot keys) served good = absurd (cc served)

  pub after_good : (W : World) (events : List Event) → are_served events ≡ true → IsGoodWorld W → IsGoodWorld (after I W events)
  after_good W [] served good = good
  after_good W (e ∷ es) served good =
      let both = and_parts (is_served e) (are_served es) served in
      after_good (next I W e) es both.1 (next_good W e both.0 good)
