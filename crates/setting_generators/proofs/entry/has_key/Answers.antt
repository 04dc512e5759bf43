use Rattle.setting_generators.proofs.entry.has_key.Goals as goal

pub returns : goal.returns
returns c = c.contains.ensures
