use Rattle.std.proofs.Common.{◌∙◌}
use Rattle.metadata_links.proofs.Named.{first_put}
use Rattle.metadata_links.proofs.firsts.Firsts.add.Goals as goal

pub returns : goal.returns
returns c = first_put c.self.inside.all.keys c.insert.new.self.keys c.in_ok-from_str.field-0 c.args.self.now c.args.name.now c.self.view_is
    c.in_ok-insert.ensures.keys (c.in_ok-from_str.ensures.ok ∙ c.as_str.ensures)
