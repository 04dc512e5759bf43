use Rattle.api_server.proofs.Servings.{whole_told}
use Rattle.api_server.proofs.running.serve.Goals as goal

pub returns-clause-serves : goal.returns-clause-serves
returns-clause-serves g c =
    whole_told c.args.pace c.args.boot c.serve_all-fine.result c.args.core.now c.boot_up.new.core c.serve_all-fine.new.core c.drive.new.core _ _ _ _ _ _ _ _ _
    _ _ _ _ _ _ _ _ _
    c.boot_up.ensures.boots c.serve_all-fine.ensures.serves c.drive.ensures.ends
