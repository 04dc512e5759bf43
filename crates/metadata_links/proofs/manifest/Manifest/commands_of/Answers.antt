use Rattle.std.proofs.Common.{List, ℕ, ◌∙◌, ap}
use Rattle.std.specs.List.{flat_map}
use Rattle.std.proofs.lemmas.Result.{IfOk-weaker}
use Rattle.metadata_links.specs.Links.{commands_in, service_named}
use Rattle.metadata_links.proofs.Linking.{words_there}
use Rattle.metadata_links.proofs.manifest.Manifest.commands_of.Goals as goal

pub returns-clause-worded : goal.returns-clause-worded
returns-clause-worded c = IfOk-weaker c.commands_named.result _ _ (λ commands is. words_there c.args.self.now c.args.owed.now commands.items
    c.args.self.now.worded
    (is ∙ ap (λ (names : List (List ℕ)). flat_map (λ name. commands_in name (service_named c.args.self.now name)) names)
    (c.deref.ensures.value ∙ c.in_ok-names.ensures))) c.commands_named.ensures
