use Rattle.store_image.proofs.reading.read_templates.Goals as goal

pub returns-clause-ok : goal.returns-clause-ok
returns-clause-ok g c = record {
  sources = c.in_ok-sources.sources;
  there = c.in_ok-sources.ensures.there;
  read = c.in_ok-sources.ensures.read;
  kept = c.in_ok-templates.ensures;
  told_is = c.in_ok-text.ensures;
}
