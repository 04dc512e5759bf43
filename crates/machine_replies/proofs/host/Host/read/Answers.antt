use Rattle.machine_replies.proofs.host.Host.read.Goals as goal

pub invariant_of-result : goal.invariant_of-result
invariant_of-result g c = record {
  table = c.in_ok-image.ensures.table;
  defaults = c.in_ok-image.ensures.typed;
  settings = c.in_ok-image.ensures.settings;
  typed = c.new.ensures.typed c.in_ok-image.image.types;
  kept = c.new-2.ensures.typed c.in_ok-image.image.types;
}
