use Rattle.std.proofs.Common.{subst}
use Rattle.outside.specs.Told.{Moves}
use Rattle.settings_tree.specs.declared.held.Held.{Held}
use Rattle.store_open.specs.Beginning.{Begins}
use Rattle.store_open.proofs.beginning.init.Goals as goal

pub returns-clause-begins : goal.returns-clause-begins
returns-clause-begins g c =
    subst (λ (h : Held). Moves (g.D.Disk.told c.args.disk.now) (g.D.Disk.told c.begin.new.disk) (Begins c.args.version.now h c.begin.result))
    c.nothing-held.ensures c.begin.ensures.begins
