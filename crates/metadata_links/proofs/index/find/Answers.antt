use Rattle.std.proofs.Common.{rules, of_calls, take}
use Rattle.std.proofs.lemmas.Fn.{always_returns_same}
use Rattle.key_names.specs.Order.{key_cmp, key_total, key_cmp-IsAntisymmetric}
use Rattle.metadata_links.proofs.Sorted.{hit, miss}
use Rattle.metadata_links.proofs.index.find.Goals as goal

pub returns-in-Ok : goal.returns-in-Ok
returns-in-Ok c = hit key_total key_cmp-IsAntisymmetric c.args.entries.now (take c.args.len c.args.key.now) c.in-Ok.index c.index-entries-index.result
    c.requires.rises c.in-Ok.ensures.bound
    (c.in-Ok.ensures.position (λ e. key_cmp e.0 (take c.args.len c.args.key.now)) (always_returns_same _ _ _ (λ a r f k. search (rules, of_calls))))

pub returns-in-Err : goal.returns-in-Err
returns-in-Err c = miss key_total c.args.entries.now (take c.args.len c.args.key.now) c.in-Err.field-0 c.requires.rises
    (c.in-Err.ensures.position (λ e. key_cmp e.0 (take c.args.len c.args.key.now)) (always_returns_same _ _ _ (λ a r f k. search (rules, of_calls))))
