use Rattle.machine_replies.proofs.host.Host.begin.Goals as goal

pub invariant_of-self : goal.invariant_of-self
invariant_of-self c = record {
  table = c.self.invariant.table;
  defaults = c.self.invariant.defaults;
  settings = c.self.invariant.settings;
  typed = c.new.ensures.typed c.self.inside.image.types;
  kept = c.self.invariant.kept;
}
