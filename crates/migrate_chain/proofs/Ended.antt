-- What a move comes to, by what was carried out and what was asked.
use Rattle.std.proofs.Common.{◌≡◌, ◌∙◌, ◌++◌, inl, inr, [], List, Option, Some, Result, Ok, Err, refl, sym, append-nil, subst}
use Rattle.std.specs.Prelude.{IfOk, IfErr, OnOk}
use Rattle.outside.specs.History.{History}
use Rattle.outside.specs.Spawner.{Question}
use Rattle.outside.specs.Told.{Moves}
use Rattle.outside.proofs.Told.{moves_stay, moves_map}
use Rattle.outside.specs.declared.disk_error.Failed.{Failed as Failure}
use Rattle.settings_tree.specs.declared.held.Held.{Held}
use Rattle.version_links.specs.declared.version.Version.{Version}
use Rattle.version_links.specs.Names.{Target, directory}
use Rattle.version_links.specs.Flip.{Flips}
use Rattle.release_file.specs.declared.release.Release.{Release}
use Rattle.migrate_chain.specs.Tasks.{Task, Mapped, AreDone, refusals_of}
use Rattle.migrate_chain.specs.Store.{TouchesOthers, owing_all}
use Rattle.migrate_chain.specs.Asking.{HasAskedFor}
use Rattle.migrate_chain.specs.Moving.{IsCarried, IsRefusal, IsSaved, FallsShort}
use Rattle.migrate_chain.specs.Migrating.{Migrates}
use Rattle.migrate_chain.specs.ByPrograms.{AsksLast, HasAskedAll, MovesByPrograms}
use Rattle.migrate_chain.specs.Carrying.{IsDone, StopsEarly, MovesBy}
use Rattle.migrate_chain.specs.declared.start.Start.{Start}
use Rattle.migrate_chain.specs.declared.moving.Moved.{Moved}
use Rattle.migrate_chain.specs.declared.move_error.MoveError.{MoveError}
use Rattle.migrate_chain.proofs.Asked.{asked_none}
use Rattle.migrate_chain.proofs.Causes.{disk_quiet}
use Rattle.migrate_chain.proofs.Along.{along_unmoved, along_led, short_ends, short_quiet}
use Rattle.migrate_chain.proofs.Migrated.{on_ok_all}

-- No migration was refused, so no further program was asked.
asked_quiet : {mapped : List Mapped} {a a' : Option (List Question)} (r : Result Moved MoveError) → IfErr r (λ e. IsRefusal e → ⊥)
    → Moves a a' (HasAskedFor mapped) → Moves a a' (HasAskedAll mapped [] r)
asked_quiet r quiet m = moves_map (λ old new has. record {
  asked = has.asked;
  last = [];
  new_is = has.new_is
      ∙ sym (append-nil (old ++ has.asked));
  are = has.are;
  ends = last r quiet;
}) m
  where
    last : (r : Result Moved MoveError) → IfErr r (λ e. IsRefusal e → ⊥) → AsksLast [] r []
    last (Ok moved) quiet = refl
    last (Err e) quiet = inl (record { quiet = quiet; none = refl })

-- No migration was carried out.
pub unasked : {to : Version} {release : Release} {d d' : Option History} {a : Option (List Question)} (r : Result Moved MoveError)
    → IfErr r (λ e. IsRefusal e → ⊥)
    → Moves d d' (Migrates to release.transitions.items release.migrations.items (Some []) (Some []) (Some []) (Some []) r)
    → MovesByPrograms to release r d d' a a
unasked r quiet migrates = record { mapped = []; refused = []; migrates = migrates; asked = asked_quiet r quiet (moves_stay asked_none) }

all_carried : (tasks : List Task) (held : Held) (mapped : List Mapped) (made : Held) → AreDone tasks held mapped made
    → IsCarried tasks held (Some []) (Some mapped) made
all_carried tasks held mapped made done = record { gained = mapped; after_is = refl; done = done }

module _ (start : Start) (tasks : List Task) (to : Version) {d d' : Option History} {a a' : Option (List Question)} where
  -- A task met an error, or the disk failed after some of them.
  pub stopped_early : (e : MoveError) → Moves d d' TouchesOthers → StopsEarly tasks start.held a a' e → MovesBy start tasks to (Err e) d d' a a'
  stopped_early e others (inl (failure, is, partly)) = record {
    mapped = partly.done.mapped;
    refused = [];
    moves = along_unmoved start tasks to (Some []) (Some partly.done.mapped) e d d' others;
    not_refused = tt;
    ends = inl (inl (
      failure,
      is,
      record {
        first = partly.first;
        left = partly.left;
        are = partly.are;
        reached = partly.reached;
        carried =
            all_carried _ _ _ _ partly.done.done;
      },
      refl,
    ));
    asked = asked_quiet (Err e) (subst (λ x. IsRefusal x → ⊥) (sym is) (disk_quiet failure)) partly.done.asked;
  }
  stopped_early e others (inr (why, is, stops)) = record {
    mapped = stops.mapped;
    refused = refusals_of stops.task stops.reached why;
    moves = along_unmoved start tasks to (Some []) (Some stops.mapped) e d d' others;
    not_refused = tt;
    ends = inl (inr (
      why,
      is,
      record {
        first = stops.first;
        task = stops.task;
        left = stops.left;
        are = stops.are;
        reached = stops.reached;
        carried =
            all_carried _ _ _ _ stops.done;
        noted = refl;
        refused = stops.refused;
      },
    ));
    asked = moves_map (λ old new has. record {
      asked = has.asked;
      last = has.last;
      new_is = has.new_is;
      are = has.are;
      ends = inr (record { task = stops.task; input = stops.reached; why = why; error_is = is; refused_are = refl; asks = has.ends });
    }) stops.asked;
  }

  -- All tasks were carried out, and the links are pointed to the copy, or not.
  pub led_along : {b : Option History} (result : Result Moved MoveError) (made : Held) (target : Target) → IsDone tasks start.held made a a'
      → IfOk result (λ moved. (moved.from ≡ start.place.version) × (moved.to ≡ to) × (moved.directory ≡ directory target))
      → Moves d b TouchesOthers → Moves d b (IsSaved to (owing_all made) target) → OnOk result (Moves b d' (Flips {E = Failure} target (Ok tt)))
      → IfErr result (FallsShort target b d') → MovesBy start tasks to result d d' a a'
  led_along {b = b} result made target done answer others saved turned short =
      let carried = all_carried tasks start.held done.mapped made done.done in
      record {
        mapped = done.mapped;
        refused = [];
        moves = along_led start tasks to (Some []) (Some done.mapped) made carried target result d b d' answer others saved turned short;
        not_refused = on_ok_all result refl;
        ends = short_ends tasks start.held made target (Some []) (Some done.mapped) (Some []) b d' result carried short;
        asked = asked_quiet result (short_quiet target b d' result short) done.asked;
      }
