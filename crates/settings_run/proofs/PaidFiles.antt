-- Files are paid after each prefix of a run, and in what a crash leaves.
use Rattle.std.proofs.Common.{◌≡◌, ⊎_elim, ℕ, List, ◌++◌}
use Rattle.outside.specs.Tree.{Tree}
use Rattle.outside.specs.History.{History}
use Rattle.outside.proofs.Since.{since_map}
use Rattle.settings_machine.specs.World.{Image, World, due}
use Rattle.settings_machine.specs.Events.{Event}
use Rattle.settings_machine.specs.Paid.{IsPaid}
use Rattle.settings_machine.proofs.PaidLaws.{no_file}
use Rattle.machine_disk.specs.Kept.{Folder}
use Rattle.machine_disk.specs.Ran.{LeavesPaid, AtPaidPrefix, RunsTo}
use Rattle.settings_run.specs.Headline.{StandsPaid, LeavesFiles, FilesArePaid}

-- Where nothing is due the file isn't, so it is current.
pub stands_paid : (I : Image) (X : World) (file : List ℕ) → IsPaid I X file → StandsPaid I X file
stands_paid I X file paid = record {
  paid = paid;
  current = λ none. ⊎_elim (λ current. current) (λ is. absurd (no_file I file (due I X.held) none is)) paid.now;
}

pub leaves_files : (I : Image) (W : World) (events : List Event) (crashed : Tree) → LeavesPaid I W events crashed → LeavesFiles I W events crashed
leaves_files I W events crashed leaves = record {
  recovers = leaves.recovers;
  stand = λ file covered was X is. stands_paid I X file (leaves.paid file covered was X is);
}

pub files_paid : (I : Image) (folder : Folder) (W : World) (events : List Event) (old new : History) → RunsTo I folder W events old new
    → FilesArePaid I W events old new
files_paid I folder W events old new runs = record {
  any_prefix = λ first rest whole file covered was. stands_paid I _ file (runs.paid first rest whole file covered was);
  any_moment = since_map (AtPaidPrefix I W events) (λ crashed. (first : List Event) × (rest : List Event) × (events ≡ first ++ rest)
      × LeavesFiles I W first crashed) old new
      (λ crashed at. (at.first, at.rest, at.whole, leaves_files I W at.first crashed at.leaves)) runs.crash_paid;
}
