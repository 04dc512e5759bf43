use Rattle.std.proofs.Common.{sym, ◌∙◌, ap, Err}
use Rattle.release_file.proofs.Farthest.{way_back, way_on, no_way_back, no_way_on, handed}
use Rattle.release_file.proofs.chain.way.Goals as goal
use Rattle.std.proofs.lemmas.Result.{IfOk-weaker}

pub returns-in_err-chain-clause-missing : goal.returns-in_err-chain-clause-missing
returns-in_err-chain-clause-missing c =
    handed c.from_residual.result c.in_err-chain.field-0.0 _ c.from_residual.ensures.1
    (λ at end is. no_way_back c.args.all.now c.args.from.now c.args.to.now at end (sym c.if-is_before.true ∙ c.is_before.ensures)
    (c.in_err-chain.ensures.missing at end (ap Err is)))

pub returns-in_ok-chain-clause-ok : goal.returns-in_ok-chain-clause-ok
returns-in_ok-chain-clause-ok c =
    way_back (λ t. t.now) c.args.all.now c.args.from.now c.args.to.now c.in_ok-chain.chain.items c.reverse.new.self.items
    (sym c.if-is_before.true ∙ c.is_before.ensures) c.in_ok-chain.ensures.ok c.reverse.ensures.items

pub returns-else-is_before-clause-ok : goal.returns-else-is_before-clause-ok
returns-else-is_before-clause-ok c =
    IfOk-weaker c.chain_of-else-is_before.result _ _ (λ way is. way_on c.args.all.now c.args.from.now c.args.to.now _
    (sym c.if-is_before.false ∙ c.is_before.ensures) is) c.chain_of-else-is_before.ensures.ok

pub returns-else-is_before-clause-missing : goal.returns-else-is_before-clause-missing
returns-else-is_before-clause-missing c =
    λ at end told. no_way_on c.args.all.now c.args.from.now c.args.to.now at end (sym c.if-is_before.false ∙ c.is_before.ensures)
    (c.chain_of-else-is_before.ensures.missing at end told)
