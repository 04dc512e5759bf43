use Rattle.std.proofs.Common.{◌≡◌, ◌++◌, append-nil, sym, ap, ◌∙◌, subst}
use Rattle.std.specs.Prelude.{IsTrue}
use Rattle.commit_journal.specs.Entries.{are_rising}
use Rattle.fs_datastore.proofs.Filing.{rising_of}
use Rattle.fs_datastore.proofs.batch.listed.Goals as goal

pub returns-clause-rising : goal.returns-clause-rising
returns-clause-rising c =
    let l = c.loop-file in
    let items : l.list.items ≡ c.args.files.entries = sym (append-nil l.list.items) ∙ ap (λ (xs : _). l.list.items ++ xs) (sym c.in-None.ensures.steps.0)
    ∙ l.invariant.2 in
    subst (λ (xs : _). IsTrue (are_rising xs)) (sym items) (rising_of c.args.files.entries c.into_iter-file-iterator.ensures.into_iter_gives.5)

pub returns-clause-ordered : goal.returns-clause-ordered
returns-clause-ordered c = c.into_iter-file-iterator.ensures.into_iter_gives.5
