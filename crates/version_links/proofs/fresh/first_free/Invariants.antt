use Rattle.std.proofs.Common.{◌≡◌, ℕ, ◌<◌}
use Rattle.outside.specs.History.{tree_of}
use Rattle.outside.specs.Told.{WhereTold}
use Rattle.version_links.specs.Fresh.{IsFree}
use Rattle.version_links.proofs.fresh.first_free.Given as goal

-- nothing has changed, and no smaller id is free
abbrev pub invariant-loop-id : goal.invariant-loop-id
invariant-loop-id g l = record {
  same : g.D.Disk.told l.disk ≡ g.D.Disk.told l.fn.disk;
  count : g.D.Disk.faults l.disk ≡ g.D.Disk.faults l.fn.disk;
  taken : (k : ℕ) → k < l.id → WhereTold (g.D.Disk.told l.fn.disk) (λ h. IsFree (tree_of h) (record { version = l.version; id = k }) → ⊥);
}
