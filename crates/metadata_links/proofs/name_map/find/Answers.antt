use Rattle.std.proofs.Common.{rules, of_calls}
use Rattle.std.proofs.lemmas.Fn.{always_returns_same}
use Rattle.key_names.specs.Order.{bytes_cmp, bytes_total, bytes_cmp-IsAntisymmetric}
use Rattle.metadata_links.proofs.Sorted.{hit, miss}
use Rattle.metadata_links.proofs.name_map.find.Goals as goal

pub returns-in-Ok : goal.returns-in-Ok
returns-in-Ok g c = hit bytes_total bytes_cmp-IsAntisymmetric c.args.entries.now c.args.name.now c.in-Ok.index c.index-entries-index.result c.requires
    c.in-Ok.ensures.bound
    (c.in-Ok.ensures.position (λ e. bytes_cmp e.0 c.args.name.now) (always_returns_same _ _ _ (λ a r f k. search (rules, of_calls))))

pub returns-in-Err : goal.returns-in-Err
returns-in-Err g c = miss bytes_total c.args.entries.now c.args.name.now c.in-Err.field-0 c.requires
    (c.in-Err.ensures.position (λ e. bytes_cmp e.0 c.args.name.now) (always_returns_same _ _ _ (λ a r f k. search (rules, of_calls))))
