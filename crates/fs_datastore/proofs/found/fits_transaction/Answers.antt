use Rattle.settings_tree.proofs.PendingMaps.{fits_missing}
use Rattle.fs_datastore.proofs.found.fits_transaction.Goals as goal

pub returns-in-None-clause-fits : goal.returns-in-None-clause-fits
returns-in-None-clause-fits c = λ so. fits_missing c.args.transactions.now c.args.tx.now c.args.key.now c.in-None.ensures
