use Rattle.std.proofs.Common.{◌≡◌, true}
use Rattle.std.specs.List.{list_all}
use Rattle.outside.specs.Names.{are_names}
use Rattle.commit_journal.specs.Entries.{fits_below}
use Rattle.commit_journal.specs.Placed.{ArePlaced}
use Rattle.commit_journal.proofs.placed_entry.place_all.Given as goal

abbrev pub invariant-loop-relative : goal.invariant-loop-relative
invariant-loop-relative l = record {
  placed : ArePlaced l.dir l.yielded l.all.items;
  named : list_all (λ e. are_names e.0) l.yielded ≡ true;
  fit : list_all (fits_below l.dir) l.yielded ≡ true;
}
