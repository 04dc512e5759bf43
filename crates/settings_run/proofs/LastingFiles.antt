-- Files stay paid over a life.
use Rattle.std.proofs.Common.{◌⊎◌, inl, inr, ℕ, List, [], ◌∷◌}
use Rattle.settings_machine.specs.World.{Image, World}
use Rattle.settings_machine.specs.Covered.{IsCovered}
use Rattle.settings_machine.specs.Paid.{IsPaid}
use Rattle.machine_disk.specs.Kept.{Folder}
use Rattle.settings_run.specs.Headline.{StandsPaid}
use Rattle.settings_run.specs.Life.{Passage, Ran, Misused, Laid, Part, led, world_after, LivesBy, LaysNone, HasBooted, FilesLast}
use Rattle.settings_run.proofs.PaidFiles.{stands_paid}

module _ (I : Image) (folder : Folder) (file : List ℕ) (covered : IsCovered I file) where
  last : (W : World) (passages : List Passage) (parts : List Part) → LivesBy I folder W passages parts → LaysNone passages
      → IsPaid I W file ⊎ HasBooted I W parts → StandsPaid I (led I W parts) file
  last W [] [] lives none (inl paid) = stands_paid I W file paid
  last W [] [] lives none (inr booted) = absurd booted
  last W [] (part ∷ parts) lives none was = absurd lives
  last W (Ran run order ending ∷ rest) [] lives none was = absurd lives
  last W (Ran run order ending ∷ rest) (part ∷ parts) lives none (inl paid) =
      last (world_after I W part) rest parts lives.1 none (inl (lives.0.paid file covered (inl paid)).paid)
  last W (Ran run order ending ∷ rest) (part ∷ parts) lives none (inr (inl booted)) =
      last (world_after I W part) rest parts lives.1 none (inl (lives.0.paid file covered (inr booted)).paid)
  last W (Ran run order ending ∷ rest) (part ∷ parts) lives none (inr (inr later)) =
      last (world_after I W part) rest parts lives.1 none (inr later)
  last W (Misused run ∷ rest) parts lives none was = last W rest parts lives.1 none was
  last W (Laid J below new ∷ rest) parts lives none was = absurd none

pub files_last : FilesLast
files_last I folder W passages parts lives none file covered was = last I folder file covered W passages parts lives none was
