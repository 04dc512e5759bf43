-- A move is one event of the machine, or none, where a store is there.
use Rattle.std.proofs.Common.{◌≡◌, ◌≢◌, inl, inr, ⊎_elim, ◌++◌, true, false, List, [], ◌∷◌, codes, Option, Some, Result, Ok, Err}
use Rattle.std.proofs.Common.{refl, sym, ◌∙◌, ap, subst}
use Rattle.outside.specs.History.{History, tree_of}
use Rattle.outside.specs.Told.{Moves}
use Rattle.outside.proofs.Since.{since_map}
use Rattle.outside.proofs.Told.{moves_same, moves_map, moves_where}
use Rattle.settings_machine.specs.World.{Image, World}
use Rattle.settings_machine.specs.Events.{Event, Moved, after, faulted_after}
use Rattle.settings_machine.specs.Paid.{IsGood}
use Rattle.machine_disk.specs.Kept.{Folder}
use Rattle.machine_disk.specs.Store.{is_store}
use Rattle.machine_disk.proofs.Touched.{in_store_touched}
use Rattle.version_links.specs.Versions.{version_text}
use Rattle.version_links.specs.declared.version.Version.{Version}
use Rattle.store_image.specs.Paths.{sources_in}
use Rattle.release_file.specs.declared.release.Release.{Release}
use Rattle.migrate_chain.specs.Migrating.{Migrates}
use Rattle.migrate_chain.specs.Tasks.{Mapped, Refused}
use Rattle.migrate_chain.specs.declared.moving.Moved as answer
use Rattle.migrate_chain.specs.declared.move_error.MoveError.{MoveError}
use Rattle.migrate_chain.specs.declared.move_error.MoveError.TheVariants as moving
use Rattle.store_events.specs.Laws.{IsMoving, MoveEvents, HasMoved, HasStayed}
use Rattle.store_events.proofs.Moves.{moves_are_whole, moves_move, refused_moves_stay}
use Rattle.command_outcome.specs.Ends.{Outcome}
use Rattle.command_outcome.specs.declared.refusal.Refusal.{Refusal}
use Rattle.command_outcome.specs.declared.refusal.Refusal.TheVariants as refused
use Rattle.command_words.specs.Orders.{migrate}
use Rattle.settings_cmd.specs.Carried.{IsMigrated, AnswersMoving}
use Rattle.settings_cmd.specs.Handing.{HandsMoving}
use Rattle.settings_cmd.specs.Releases.{IsReleaseIn, release_path}
use Rattle.settings_cmd.specs.Does.{Devices}
use Rattle.settings_run.specs.Laws.{Begins}
use Rattle.settings_run.specs.Events.{MovesBy}
use Rattle.settings_run.specs.Headline.{RunsOver, RunsOverAll}
use Rattle.settings_run.proofs.Answered.{run_of, stays, untouched}
use Rattle.settings_run.specs.Touched.{StaysElsewhere}
use Rattle.settings_run.proofs.PaidFiles.{leaves_files}
use Rattle.settings_run.proofs.Touched.{changes_only}

-- An error other than a failure of the disk is reported as some refusal.
told_as : (e : MoveError) (outcome : Outcome) → HandsMoving e outcome → (refusal : Refusal) × (outcome ≡ Err refusal)
told_as moving.NoStore outcome told = (_, told)
told_as (moving.BadLink path) outcome told = (_, told)
told_as (moving.BadJournal path) outcome told = (_, told)
told_as (moving.Damaged path) outcome told = (_, told)
told_as (moving.Missing at target) outcome told = (_, told)
told_as (moving.Conflict key) outcome told = (_, told)
told_as (moving.Status name number) outcome told = (_, told)
told_as (moving.BadAnswer name) outcome told = (_, told)
told_as (moving.Spawn name) outcome told = (_, told)
told_as moving.Failed outcome told = (_, told)
told_as moving.Memory outcome told = (_, told)

module _ (b n : Devices) (no_runs : n.runs ≡ b.runs) (to : Version) where
  module _ (I : Image) (good : IsGood I) (folder : Folder) (W : World) (old new : History) (at : Begins I folder W old) where
    -- A refusal of a disk that stayed is no event.
    stayed_as : (outcome : Outcome) (refusal : Refusal) → outcome ≡ Err refusal → HasStayed I folder W old new
        → StaysElsewhere (migrate to) I [] old new
        → RunsOver (migrate to) I folder W b n outcome old new
    stayed_as outcome refusal told stayed elsewhere = subst (λ (o : Outcome). RunsOver (migrate to) I folder W b n o old new) (sym told)
        (inl (stays (migrate to) I good folder W b n (Err refusal) old new at refl no_runs stayed elsewhere))

    module _ (release : Release) (read : IsReleaseIn (sources_in (tree_of old)) release) (mapped : List Mapped) (p q : Option (List Refused)) where
      -- The release of the tree is that of the folder.
      moves_by : (events : List Event) → MoveEvents W to release.transitions.items release.migrations.items (Some []) (Some mapped) events
          → MovesBy folder W to events
      moves_by events form = record {
        release = release;
        read = record { text = read.text; there = sym (at.disk.image (codes "image" ∷ release_path) refl) ∙ read.there; spelled = read.spelled };
        mapped = mapped;
        events_are = form;
      }

      no_program : (events : List Event) → MoveEvents W to release.transitions.items release.migrations.items (Some []) (Some mapped) events
          → (after I W events).runs ≡ W.runs
      no_program events (inl is) = ap (λ (es : List Event). (after I W es).runs) is.2
      no_program events (inr is) = ap (λ (es : List Event). (after I W es).runs) is.2

      -- No call of the disk failed.
      quiet : (events : List Event) → MoveEvents W to release.transitions.items release.migrations.items (Some []) (Some mapped) events
          → faulted_after false events ≡ false
      quiet events (inl is) = ap (faulted_after false) is.2
      quiet events (inr is) = ap (faulted_after false) is.2

      -- Only what is in the folder `store` is touched.
      stores_touched : (events : List Event) (result : Result answer.Moved MoveError)
          → Migrates to release.transitions.items release.migrations.items (Some []) (Some mapped) p q result old new
          → StaysElsewhere (migrate to) I events old new
      stores_touched events result migrates version directory leads = changes_only (λ path. is_store path ≡ true) old new
          (in_store_touched old new (migrates.outside (record { version = version; directory = directory }) leads))

      module _ (outcome : Outcome) where
        answered : (done : answer.Moved) → Migrates to release.transitions.items release.migrations.items (Some []) (Some mapped) p q (Ok done) old new
            → outcome ≡ Ok (version_text to ++ 10 ∷ []) → RunsOver (migrate to) I folder W b n outcome old new
        answered done migrates told =
            let has : HasMoved I folder W to release.transitions.items release.migrations.items (Some []) (Some mapped) old new =
            moves_move I good folder W to release.transitions.items release.migrations.items [] (Some mapped) p q done old new at.disk migrates in
            subst (λ (o : Outcome). RunsOver (migrate to) I folder W b n o old new) (sym told)
            (inl (run_of (migrate to) I good folder W b n (Ok (version_text to ++ 10 ∷ [])) old new at has.events
            (refl, moves_by has.events has.form) has.runs
            (moves_same no_runs (λ s was. was ∙ sym (no_program has.events has.form))) (stores_touched has.events (Ok done) migrates)
            (λ all. quiet has.events has.form)))

        stopped : (e : MoveError) → e ≢ moving.Failed → Migrates to release.transitions.items release.migrations.items (Some []) (Some mapped) p q (Err e) old
            new
            → HandsMoving e outcome → RunsOver (migrate to) I folder W b n outcome old new
        stopped e other migrates told =
            let refusal = told_as e outcome told in
            stayed_as outcome refusal.0 refusal.1
            (refused_moves_stay I good folder W to release.transitions.items release.migrations.items (Some []) (Some mapped) p q e old new other at.disk
            migrates)
            (stores_touched [] (Err e) migrates)

        failed : Migrates to release.transitions.items release.migrations.items (Some []) (Some mapped) p q (Err moving.Failed) old new
            → outcome ≡ Err refused.Disk
            → RunsOver (migrate to) I folder W b n outcome old new
        failed migrates told =
            let moves : IsMoving I W to release.transitions.items release.migrations.items (Some []) (Some mapped) old new =
            moves_are_whole I good folder W to release.transitions.items release.migrations.items (Some []) (Some mapped) p q (Err moving.Failed) old new
            at.disk migrates in
            inr (record {
              at_once = refl;
              outcome_is = told;
              any_moment = since_map _ _ old new (λ c either. ⊎_elim
                  (λ was. inl (leaves_files I W [] c was))
                  (λ m. inr (Moved to m.0 ∷ [], moves_by (Moved to m.0 ∷ []) (inr (m.0, m.1, refl)), leaves_files I W (Moved to m.0 ∷ []) c m.2)) either)
                  moves.any_moment;
              no_runs = no_runs;
              elsewhere = stores_touched [] (Err moving.Failed) migrates;
            })

        by_result : (result : Result answer.Moved MoveError) → Migrates to release.transitions.items release.migrations.items (Some []) (Some mapped) p q result
            old new
            → AnswersMoving to result outcome → RunsOver (migrate to) I folder W b n outcome old new
        by_result (Ok done) migrates told = answered done migrates told
        by_result (Err moving.Failed) migrates told = failed migrates told
        by_result (Err moving.NoStore) migrates told = stopped moving.NoStore (λ is. cc is) migrates told
        by_result (Err (moving.BadLink path)) migrates told = stopped (moving.BadLink path) (λ is. cc is) migrates told
        by_result (Err (moving.BadJournal path)) migrates told = stopped (moving.BadJournal path) (λ is. cc is) migrates told
        by_result (Err (moving.Damaged path)) migrates told = stopped (moving.Damaged path) (λ is. cc is) migrates told
        by_result (Err (moving.Missing from target)) migrates told = stopped (moving.Missing from target) (λ is. cc is) migrates told
        by_result (Err (moving.Conflict key)) migrates told = stopped (moving.Conflict key) (λ is. cc is) migrates told
        by_result (Err (moving.Status name number)) migrates told = stopped (moving.Status name number) (λ is. cc is) migrates told
        by_result (Err (moving.BadAnswer name)) migrates told = stopped (moving.BadAnswer name) (λ is. cc is) migrates told
        by_result (Err (moving.Spawn name)) migrates told = stopped (moving.Spawn name) (λ is. cc is) migrates told
        by_result (Err moving.Memory) migrates told = stopped moving.Memory (λ is. cc is) migrates told

  pub migrates : (outcome : Outcome) (d d' : Option History) → IsMigrated to b.asked n.asked outcome d d'
      → Moves d d' (RunsOverAll (migrate to) b n outcome)
  migrates outcome d d' (inl none) = moves_same none.same (λ h I good folder image W at.
      subst (λ (o : Outcome). RunsOver (migrate to) I folder W b n o h h) (sym none.answers)
      (inl (untouched (migrate to) I good folder W b n (Err none.refusal) h at refl no_runs)))
  migrates outcome d d' (inr is) = moves_map (λ old new both I good folder image W at.
      by_result I good folder W old new at is.release both.0 is.moves.mapped (Some []) (Some is.moves.refused) outcome is.result both.1 is.answers)
      (moves_where is.read is.moves.migrates)
