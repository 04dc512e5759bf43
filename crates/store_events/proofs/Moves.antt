-- A move is an event of the machine, or none.
use Rattle.std.proofs.Common.{◌≡◌, inl, inr, ◌⊎◌, ⊎_elim, ℕ, List, [], ◌∷◌, Option, Some, Result, Ok, Err, refl, sym, ◌∙◌, ap, subst}
use Rattle.std.proofs.lemmas.List.{append_cancel_left}
use Rattle.outside.specs.Tree.{Tree, file_in}
use Rattle.outside.specs.History.{History, tree_of, IsCrashState, IsSettled}
use Rattle.outside.specs.Since.{EachSince, Touches}
use Rattle.outside.proofs.Crash.{settled_state}
use Rattle.outside.proofs.Since.{since_map, since_both}
use Rattle.settings_tree.specs.declared.held.Held.{Held}
use Rattle.version_links.specs.declared.version.Version.{Version}
use Rattle.version_links.specs.declared.chain.Place.{Place}
use Rattle.release_file.specs.declared.transition.Transition.{Transition}
use Rattle.release_file.specs.declared.work.Named.{Named}
use Rattle.settings_machine.specs.World.{Image, World}
use Rattle.settings_machine.specs.Events.{Moved, next}
use Rattle.settings_machine.specs.Paid.{IsGood}
use Rattle.settings_machine.proofs.PaidLaws.{still_due, migrations_pay}
use Rattle.machine_disk.specs.Store as disk
use Rattle.machine_disk.specs.Store.{HasFiles, Recovers}
use Rattle.machine_disk.specs.Kept.{Folder, DiskAt}
use Rattle.machine_disk.specs.Ran.{IsLate, Within, OnTheWay, LeavesPaid}
use Rattle.machine_disk.proofs.Runs.{disk_moments}
use Rattle.machine_disk.proofs.Prefixes.{start_paid, one_paid, leaves_paid, whole}
use Rattle.migrate_chain.specs.Store.{HasStore}
use Rattle.migrate_chain.specs.Tasks.{Task, Mapped, Refused, AreDone}
use Rattle.migrate_chain.specs.Moving.{IsCarried}
use Rattle.migrate_chain.specs.Migrating.{SinceStart, HasMigrated, IsThere, Migrates}
use Rattle.migrate_chain.specs.declared.moving.Moved as answer
use Rattle.migrate_chain.specs.declared.move_error.MoveError.{MoveError}
use Rattle.store_events.specs.Laws.{IsMade, IsMoving, HasMoved, HasStayed, MovesAreWhole, MovesMove, RefusedMovesStay}
use Rattle.store_events.proofs.Elsewhere.{IsInStore, HasLeft, files_stand, due_left, image_stands}
use Rattle.store_events.proofs.Stays.{place_in, to_move, from_place, store_stays}

-- ---- what the migrations made is one

-- What was made last, or what was held where nothing was made.
last_made : Held → List Mapped → Held
last_made held [] = held
last_made held (m ∷ ms) = last_made m.output ms

made_last : (tasks : List Task) (held : Held) (gained : List Mapped) (made : Held) → AreDone tasks held gained made → made ≡ last_made held gained
unfolding last_made
made_last [] held [] made done = done
made_last [] held (m ∷ ms) made done = absurd done
made_last (t ∷ ts) held [] made done = absurd done
made_last (t ∷ ts) held (m ∷ ms) made done = made_last ts m.output ms made done.3

-- What a mapper has kept of two ways tells that both made the same.
one_made : (first second : List Task) (held : Held) (kept : List Mapped) (now : Option (List Mapped)) (made other : Held)
    → IsCarried first held (Some kept) now made
    → IsCarried second held (Some kept) now other → made ≡ other
one_made first second held kept now made other one two =
    made_last first held one.gained made one.done
    ∙ ap (last_made held) (append_cancel_left kept one.gained two.gained (same_some (sym one.after_is ∙ two.after_is)))
    ∙ sym (made_last second held two.gained other two.done)
  where
    same_some : {T : Type 0} {a b : T} → Some a ≡ Some b → a ≡ b
    same_some e = cc e

-- ---- moves

module _ (I : Image) (good : IsGood I) (folder : Folder) (W : World) (to : Version) (transitions : List Transition) (migrations : List Named)
    (before now : Option (List Mapped))
    (p q : Option (List Refused)) (result : Result answer.Moved MoveError) (old new : History) (disk_at : DiskAt I folder W W old)
    (migrates : Migrates to transitions migrations before now p q result old new) where
  abbrev place : Place
  place = place_in W (tree_of old) disk_at.store

  abbrev Made : Held → Type 0
  Made made = IsMade W to transitions migrations before now made

  abbrev N : Held → World
  N made = next I W (Moved to made)

  was : HasStore place W.held W.format (tree_of old)
  was = to_move W (tree_of old) disk_at.store

  touches : Touches IsInStore old new
  touches = migrates.outside place was.led

  -- What has moved has the store of the world after the move.
  moved_store : (c : Tree) (has : HasMigrated place W.held to transitions migrations before now c) → disk.HasStore (N has.moved.made) c
  moved_store c has = from_place (N has.moved.made) _ _ 2 c has.moved.version_is refl refl has.moved.store

  made_of : (c : Tree) (has : HasMigrated place W.held to transitions migrations before now c) → Made has.moved.made
  made_of c has = record { way = has.way; is_way = has.is_way; carried = has.moved.carried }

  recovers_was : (c : Tree) → disk.HasStore W c → HasLeft I W c → Recovers I W c
  recovers_was c store left = record { store = store; etc = left }

  recovers_moved : (c : Tree) (has : HasMigrated place W.held to transitions migrations before now c) → HasLeft I W c → Recovers I (N has.moved.made) c
  recovers_moved c has left = record {
    store = moved_store c has;
    etc = λ path e. ⊎_elim (λ same. inl same) (λ due. inr (still_due I W.held (N has.moved.made).held refl path due)) (left path e);
  }

  abbrev Moment : Tree → Type 0
  Moment c = Recovers I W c ⊎ ((made : Held) × Made made × Recovers I (N made) c)

  abbrev Stored : Tree → Type 0
  Stored c = HasStore place W.held W.format c ⊎ HasMigrated place W.held to transitions migrations before now c

  moment : (c : Tree) → (IsCrashState old c ⊎ Stored c) × HasLeft I W c → Moment c
  moment c (inl im, left) = inl (recovers_was c (⊎_elim (λ has. has) (λ has. has) (disk_at.crash_states c im)) left)
  moment c (inr (inl has), left) = inl (recovers_was c (from_place W place W.held W.format c refl refl refl has) left)
  moment c (inr (inr has), left) = inr (has.moved.made, made_of c has, recovers_moved c has left)

  moments : EachSince Moment old new
  moments = since_map (λ c. (IsCrashState old c ⊎ Stored c) × HasLeft I W c) Moment old new moment
      (since_both (λ c. IsCrashState old c ⊎ Stored c) (HasLeft I W) old new (migrates.any_moment place W.held W.format was)
      (due_left I folder W old new touches disk_at))

  moving_whole : IsMoving I W to transitions migrations before now old new
  moving_whole = record {
    any_moment = since_map Moment (λ c. LeavesPaid I W [] c ⊎ ((made : Held) × Made made × LeavesPaid I W (Moved to made ∷ []) c)) old new
        (λ c either. ⊎_elim (λ r. inl (leaves_paid I good W [] c r (start_paid I W)))
        (λ m. inr (m.0, m.1, leaves_paid I good W (Moved to m.0 ∷ []) c m.2 (λ f covered moved. migrations_pay I good W to m.0 f covered))) either) moments;
  }

  -- The store is as it was at every moment.
  keeps : SinceStart (HasStore place W.held W.format) old new → HasStayed I folder W old new
  keeps kept = store_stays I good folder W old new disk_at touches kept

pub moves_are_whole : MovesAreWhole
moves_are_whole I good folder W to transitions migrations before now p q result old new disk_at migrates =
    moving_whole I good folder W to transitions migrations before now p q result old new disk_at migrates

pub refused_moves_stay : RefusedMovesStay
refused_moves_stay I good folder W to transitions migrations before now p q error old new other disk_at migrates =
    keeps I good folder W to transitions migrations before now p q (Err error) old new disk_at migrates
    (migrates.kept other (place_in W (tree_of old) disk_at.store) W.held W.format (to_move W (tree_of old) disk_at.store))

module _ (I : Image) (good : IsGood I) (folder : Folder) (W : World) (to : Version) (transitions : List Transition) (migrations : List Named)
    (log : List Mapped)
    (now : Option (List Mapped)) (p q : Option (List Refused)) (answered : answer.Moved) (old new : History) (disk_at : DiskAt I folder W W old)
    (migrates : Migrates to transitions migrations (Some log) now p q (Ok answered) old new) where
  abbrev at : Place
  at = place_in W (tree_of old) disk_at.store

  abbrev N_of : Held → World
  N_of made = next I W (Moved to made)

  was_there : HasStore at W.held W.format (tree_of old)
  was_there = to_move W (tree_of old) disk_at.store

  outside : Touches IsInStore old new
  outside = migrates.outside at was_there.led

  there : IsThere at W.held W.format to (tree_of new) → HasMoved I folder W to transitions migrations (Some log) now old new
  there is =
      let two : HasStore at W.held 2 (tree_of old) = subst (λ (n : ℕ). HasStore at W.held n (tree_of old)) is.format_is was_there in
      let still = migrates.still at W.held two is.version_is in
      record {
        events = [];
        form = inl (is.version_is, is.format_is, refl);
        runs = keeps I good folder W to transitions migrations (Some log) now p q (Ok answered) old new disk_at migrates
            (subst (λ (n : ℕ). SinceStart (HasStore at W.held n) old new) (sym is.format_is) still);
      }

  away : IsSettled new → HasMigrated at W.held to transitions migrations (Some log) now (tree_of new)
      → HasMoved I folder W to transitions migrations (Some log) now old new
  away settled has =
      record {
        events = Moved to made ∷ [];
        form = inr (made, is_made, refl);
        runs = whole I good folder W (Moved to made ∷ []) old new (N_of made) here late
            (one_paid I W (Moved to made) (λ f covered was. migrations_pay I good W to made f covered)) way
            (disk_moments I folder W W (Moved to made) old new (N_of made) disk_at here late way)
            (λ calm. here);
      }
    where
      made : Held
      made = has.moved.made

      is_made : IsMade W to transitions migrations (Some log) now made
      is_made = made_of I good folder W to transitions migrations (Some log) now p q (Ok answered) old new disk_at migrates (tree_of new) has

      store : disk.HasStore (N_of made) (tree_of new)
      store = moved_store I good folder W to transitions migrations (Some log) now p q (Ok answered) old new disk_at migrates (tree_of new) has

      files : HasFiles W.etc (tree_of new)
      files = files_stand W.etc old new outside disk_at.etc

      here : DiskAt I folder (N_of made) (N_of made) new
      here = record {
        store = store;
        etc = files;
        image = image_stands I folder W old new outside disk_at;
        crash_states = λ c left. inl (subst (disk.HasStore (N_of made)) (sym (settled_state new settled c left)) store);
        same_etc = refl;
        unsettled = λ path node e left. inl (ap file_in (settled path node left) ∙ files.each path e);
      }

      same_world : (c : Tree) (other : Held) → IsMade W to transitions migrations (Some log) now made → IsMade W to transitions migrations (Some log) now other
          → Recovers I (N_of other) c → Recovers I (N_of made) c
      same_world c other one two r =
          subst (λ (h : Held). Recovers I (N_of h) c) (one_made _ _ W.held log now other made two.carried one.carried) r

      late : IsLate I W W (Moved to made ∷ []) (N_of made)
      late = Within (Moved to made ∷ []) [] refl refl refl

      way : EachSince (OnTheWay I W W (Moved to made ∷ [])) old new
      way = since_map (λ c. Recovers I W c ⊎ ((other : Held) × IsMade W to transitions migrations (Some log) now other × Recovers I (N_of other) c))
          (OnTheWay I W W (Moved to made ∷ [])) old new
          (λ c either. ⊎_elim (λ r. inl r) (λ m. inr (record {
            first = Moved to made ∷ [];
            rest = [];
            whole = refl;
            recovers =
                same_world c m.0 is_made m.1 m.2;
          })) either)
          (moments I good folder W to transitions migrations (Some log) now p q (Ok answered) old new disk_at migrates)

  moved_well : HasMoved I folder W to transitions migrations (Some log) now old new
  moved_well =
      let both = migrates.done at W.held W.format was_there in
      ⊎_elim (λ is. there is) (λ has. away both.0 has) both.1

pub moves_move : MovesMove
moves_move I good folder W to transitions migrations log now p q answered old new disk_at migrates =
    moved_well I good folder W to transitions migrations log now p q answered old new disk_at migrates
