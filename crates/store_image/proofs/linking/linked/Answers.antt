use Rattle.store_image.proofs.Sections.{sections}
use Rattle.store_image.proofs.linking.linked.Goals as goal

pub returns-clause-sections : goal.returns-clause-sections
returns-clause-sections c = sections c.args.text.now c.in_ok-model.model c.in_ok-model.ensures.ok
