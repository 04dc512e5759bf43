use Rattle.metadata_links.proofs.Sets.{told_new, told_old, kept_old, put_new}
use Rattle.metadata_links.proofs.name_set.NameSet.add.Goals as goal

pub returns-then-contains-clause-added : goal.returns-then-contains-clause-added
returns-then-contains-clause-added c = told_old c.self.inside.names c.args.self.now c.args.name.now c.contains.result c.self.view_is c.contains.ensures
    c.if-contains.true

pub returns-then-contains-clause-ok : goal.returns-then-contains-clause-ok
returns-then-contains-clause-ok c = kept_old c.self.inside.names c.args.self.now c.args.name.now c.contains.result c.self.view_is c.contains.ensures
    c.if-contains.true

pub returns-clause-added : goal.returns-clause-added
returns-clause-added c = told_new c.self.inside.names c.args.self.now c.args.name.now c.contains.result c.self.view_is c.contains.ensures c.if-contains.false

pub returns-clause-ok : goal.returns-clause-ok
returns-clause-ok c = put_new c.self.inside.names c.insert.new.self c.args.self.now c.in_ok-copy.field-0 c.args.name.now c.self.view_is c.in_ok-copy.ensures
    c.in_ok-insert.ensures.updates
