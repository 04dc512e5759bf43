-- The exits of forgetting keys.
use Rattle.std.proofs.Common.{◌≡◌, inl, List, None, Result, subst}
use Rattle.outside.specs.History.{History}
use Rattle.outside.specs.declared.disk_error.DiskErr.{DiskErr}
use Rattle.pending_tx.specs.Transactions.{rising, forgotten}
use Rattle.settings_tree.specs.declared.held.Held.{Held}
use Rattle.settings_machine.specs.World.{Key}
use Rattle.store_open.specs.Forgetting.{of_change, ForgetsIn}
use Rattle.store_open.specs.Phases.{Lays}
use Rattle.store_open.specs.declared.stored.Stored.{Stored}
use Rattle.store_open.specs.declared.forget_error.ForgetError.{ForgetError}

-- The change was made, or it failed.
pub changed : (stored : Stored) (keys named : List Key) (result : Result Unit ForgetError) (mid new : History) (change : Result Unit DiskErr) (after : Held)
    → named ≡ rising keys → after ≡ forgotten stored.held named → Lays stored.place.directory stored.held after change mid new → result ≡ of_change change
    → ForgetsIn stored keys None result mid new
changed stored keys named result mid new change after named_is after_is lays told = inl (record {
  change = change;
  lays = subst (λ (ks : List Key). Lays stored.place.directory stored.held (forgotten stored.held ks) change mid new) named_is
      (subst (λ (h : Held). Lays stored.place.directory stored.held h change mid new) after_is lays);
  result_is = told;
})
