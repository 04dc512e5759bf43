use Rattle.std.proofs.Common.{rules, of_calls}
use Rattle.std.proofs.lemmas.Fn.{always_returns_same}
use Rattle.key_names.specs.Order.{bytes_cmp}
use Rattle.settings_maps.proofs.SortedEntries.{found, missing}
use Rattle.settings_maps.proofs.named_values.search.Goals as goal

pub returns-clause-found : goal.returns-clause-found
returns-clause-found c = found c.args.entries.now c.args.name.now _ c.binary_search_by.ensures.bound
    (c.binary_search_by.ensures.position (λ e. bytes_cmp e.0 c.args.name.now) (always_returns_same _ _ _ (λ a r f k. search (rules, of_calls))))

pub returns-clause-missing : goal.returns-clause-missing
returns-clause-missing c = missing c.args.entries.now c.args.name.now _ c.requires c.binary_search_by.ensures.bound
    (c.binary_search_by.ensures.position (λ e. bytes_cmp e.0 c.args.name.now) (always_returns_same _ _ _ (λ a r f k. search (rules, of_calls))))
