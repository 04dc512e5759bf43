use Rattle.outside.specs.History.{tree_of}
use Rattle.outside.specs.Told.{WhereTold}
use Rattle.outside.proofs.Results.{handed_on}
use Rattle.store_open.specs.Peeking.{TellsOf}
use Rattle.store_open.proofs.Peeked.{told_of}
use Rattle.store_open.proofs.peeking.peek_at.Goals as goal

pub returns-in_err-held-clause-refused : goal.returns-in_err-held-clause-refused
returns-in_err-held-clause-refused g c =
    let a = g.D.Disk.told c.args.disk.now in
    let e = c.in_err-held.field-0.0 in
    handed_on c.from_residual.result e (λ e. WhereTold a (λ h. TellsOf e (tree_of h))) c.from_residual.ensures.1
    (told_of c.args.place.directory c.args.place.version a e c.requires.led c.in_err-held.ensures.refused)
