use Rattle.key_names.proofs.KeyLimits.{IsKey-from, fits-from}
use Rattle.key_names.proofs.Spellings.{Spells-printed}
use Rattle.key_names.proofs.key.Key.print.Goals as goal

pub returns-clause-reads_back : goal.returns-clause-reads_back
returns-clause-reads_back c =
    let key = IsKey-from c.args.self.now c.packed.ensures.valid in
    rw (c.of.ensures, c.in_ok-text.ensures, c.packed.ensures.parts)
    (record { spells = Spells-printed c.args.self.now key.some key.valid; within = fits-from c.args.self.now key.fits })
