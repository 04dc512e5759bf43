use Rattle.std.proofs.Common.{sym, ◌∙◌}
use Rattle.std.proofs.lemmas.Bool.{false≢true}
use Rattle.std.specs.Option.{option_copied}
use Rattle.release_file.proofs.Farthest.{fits_more, fits_less}
use Rattle.release_file.proofs.chain.farthest.Goals as goal
use Rattle.release_file.proofs.chain.farthest.Goals.{then-fits, else-fits}

pub loop-t-preserved : goal.loop-t-preserved
loop-t-preserved c = elim c.if-fits.branch [
  | then-fits w ↦ rw w.best-is (fits_more c.args.all.now c.loop-t.t-index c.args.at.now c.args.target.now (option_copied c.loop-t.best) c.t-item.result
      w.farther.result.now c.loop-t-test.true c.t-item.is (c.fits.ensures.0 w.if-fits.true) w.farther.ensures.one w.farther.ensures.other w.farther.ensures.best
      c.loop-t.invariant)
  | else-fits w ↦ rw w.best-is (fits_less c.args.all.now c.loop-t.t-index c.args.at.now c.args.target.now (option_copied c.loop-t.best) c.t-item.result
      c.loop-t-test.true c.t-item.is (λ fit. false≢true (sym w.if-fits.false ∙ c.fits.ensures.1 fit)) c.loop-t.invariant)
]
