-- What it does to a disk to forget keys of its store.
use Rattle.std.specs.Prelude.{◌≡◌, ◌⊎◌, List, Result, Ok, Err, Option, Some, None, not, find}
use Rattle.outside.specs.History.{History}
use Rattle.outside.specs.declared.disk_error.DiskErr.{DiskErr}
use Rattle.outside.specs.declared.disk_error.DiskErr.TheVariants as device
use Rattle.settings_tree.specs.declared.held.Held.{Held}
use Rattle.pending_tx.specs.Transactions.{is_held, rising, forgotten}
use Rattle.settings_machine.specs.World.{Key}
use Rattle.store_open.specs.Reading.{Reads}
use Rattle.store_open.specs.Phases.{Lays}
use Rattle.store_open.specs.declared.stored.Stored.{Stored}
use Rattle.store_open.specs.declared.open_error.OpenError.{OpenError}
use Rattle.store_open.specs.declared.open_error.OpenError.TheVariants as refused
use Rattle.store_open.specs.declared.forget_error.ForgetError.{ForgetError}
use Rattle.store_open.specs.declared.forget_error.ForgetError.TheVariants as forget

-- The first of the keys that has no value, live or pending.
abbrev pub first_unheld : Held → List Key → Option Key
first_unheld held keys = find (λ k. not (is_held held k)) keys

-- Why a change of the disk was not made.
abbrev pub of_disk : DiskErr → ForgetError
of_disk device.Failed = forget.Store refused.Failed
of_disk device.Memory = forget.Store refused.Memory

-- What the change of the disk came to.
abbrev pub of_change : Result (Unit {0}) DiskErr → Result (Unit {0}) ForgetError
of_change (Ok done) = Ok tt
of_change (Err e) = Err (of_disk e)

-- The keys are forgotten in one change of the directory.
pub record LaysForgotten (stored : Stored) (keys : List Key) (result : Result (Unit {0}) ForgetError) (mid new : History) : Type 0 where
  pub change : Result (Unit {0}) DiskErr
  pub lays : Lays stored.place.directory stored.held (forgotten stored.held (rising keys)) change mid new
  pub result_is : result ≡ of_change change

-- Where a key has no value it is answered, and nothing is changed; else the keys are forgotten, or memory ran out before.
abbrev pub ForgetsIn : Stored → List Key → Option Key → Result (Unit {0}) ForgetError → History → History → Type 0
ForgetsIn stored keys (Some key) result mid new = ((result ≡ Err (forget.NotHeld key)) ⊎ (result ≡ Err (forget.Store refused.Memory))) × (new ≡ mid)
ForgetsIn stored keys None result mid new = LaysForgotten stored keys result mid new ⊎ ((result ≡ Err (forget.Store refused.Memory)) × (new ≡ mid))

-- What follows when the store was read, or not.
abbrev pub ForgetsAfter : List Key → Result Stored OpenError → Result (Unit {0}) ForgetError → History → History → Type 0
ForgetsAfter keys (Ok stored) result mid new = ForgetsIn stored keys (first_unheld stored.held keys) result mid new
ForgetsAfter keys (Err e) result mid new = (result ≡ Err (forget.Store e)) × (new ≡ mid)

-- The store is read, and its keys are forgotten.
pub record Forgets (keys : List Key) (result : Result (Unit {0}) ForgetError) (old new : History) : Type 0 where
  pub reading : Result Stored OpenError
  pub between : History
  pub reads : Reads reading old between
  pub follows : ForgetsAfter keys reading result between new
