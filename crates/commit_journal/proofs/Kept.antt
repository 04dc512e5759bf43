-- The parts of a change, each with its sync.
use Rattle.std.proofs.Common.{◌≡◌, inr, Option, Result, Ok, Err, List, sym, ◌∙◌, ap, subst}
use Rattle.outside.specs.Names.{Names}
use Rattle.outside.specs.Tree.{Node}
use Rattle.outside.specs.History.{replaced, synced, History, next}
use Rattle.outside.specs.DiskCalls.{Puts, Syncs}
use Rattle.outside.specs.Told.{Moves}
use Rattle.outside.proofs.Told.{moves_map, moves_then}
use Rattle.commit_journal.specs.Entries.{Entry}
use Rattle.commit_journal.specs.Install.{Installs}
use Rattle.commit_journal.specs.Change.{PutsKept, InstallsKept}

-- a node that is not put is not kept
pub put_fails : {E : Type 0} (path : Names) (node : Option Node) (e : E) (a b : Option History) → Moves a b (Puts path node (Err e))
    → Moves a b (PutsKept path node (Err e))
put_fails path now e a b m = moves_map (λ old new is. is) m

-- a node that is put is kept once it is synced
put_synced : {E : Type 0} (path : Names) (node : Option Node) (result : Result Unit E) (old mid new : History) → mid ≡ next (replaced path node) old
    → Syncs result mid new → PutsKept path node result old new
put_synced path now (Ok done) old mid new put is = is ∙ ap (λ h. next synced h) put
put_synced path now (Err e) old mid new put is = inr (is ∙ put)

-- what a device tells of that
pub put_syncs : {E : Type 0} (path : Names) (node : Option Node) (done : Unit) (result : Result Unit E) (a b c : Option History)
    → Moves a b (Puts {E = E} path node (Ok done)) → Moves b c (Syncs result) → Moves a c (PutsKept path node result)
put_syncs path node done result a b c m n = moves_then (λ old mid new put is. put_synced path node result old mid new put is) m n

-- entries that are not in their places are not kept
pub install_fails : {E : Type 0} (all : List Entry) (e : E) (a b : Option History) → Moves a b (Installs all (Err e)) → Moves a b (InstallsKept all (Err e))
install_fails all e a b m = moves_map (λ old new is. is.goes) m

-- entries that are in their places are kept once they are synced
install_synced : {E : Type 0} (all : List Entry) (done : Unit) (result : Result Unit E) (old mid new : History) → Installs {E = E} all (Ok done) old mid
    → Syncs result mid new → InstallsKept all result old new
install_synced all done (Ok then) old mid new put is = (mid, put.goes, put.done, is)
install_synced all done (Err e) old mid new put is = subst (λ h. InstallsKept all (Err e) old h) (sym is) put.goes

-- what a device tells of that
pub install_syncs : {E : Type 0} (all : List Entry) (done : Unit) (result : Result Unit E) (a b c : Option History) → Moves a b (Installs {E = E} all (Ok done))
    → Moves b c (Syncs result) → Moves a c (InstallsKept all result)
install_syncs all done result a b c m n = moves_then (λ old mid new put is. install_synced all done result old mid new put is) m n

pub ruleset puts = (put_fails, put_syncs)

pub ruleset installs = (install_fails, install_syncs)
