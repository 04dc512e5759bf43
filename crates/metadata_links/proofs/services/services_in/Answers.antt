use Rattle.std.proofs.Common.{rules, ◌≡◌, codes, IsTrue, sym, subst, refl}
use Rattle.std.specs.FinMap.{is_sorted}
use Rattle.key_names.specs.Order.{bytes_cmp}
use Rattle.metadata_links.specs.Services.{service_of, services_from, services_in}
use Rattle.metadata_links.specs.Fields.{fields_below}
use Rattle.metadata_links.proofs.Filtered.{kept_sorted, walk_begun}
use Rattle.metadata_links.proofs.Gatherings.{fields_rise, tree_entries}
use Rattle.metadata_links.proofs.Rests.{taken_all}
use Rattle.metadata_links.proofs.services.services_in.Goals as goal

pub loop-name-init : goal.loop-name-init
loop-name-init c = walk_begun services_from c.new-services.result.items c.into_iter-name-iterator.result c.in_ok-found.found.entries _
    c.new-services.ensures.items (search rules) (tree_entries c.in_ok-found.found.entries _ c.iter-name-items.ensures.ordered c.in_ok-found.ensures)

pub of-requires : goal.of-requires
of-requires c =
    let made : c.loop-name.services.items ≡ services_in c.args.content.now =
    taken_all services_from refl c.loop-name.name-iterator _ c.loop-name.services.items (search rules) c.loop-name.invariant in
    subst (λ l. IsTrue (is_sorted bytes_cmp l)) (sym made) (kept_sorted bytes_cmp (λ e. service_of e.1)
    (fields_below c.args.content.now.values (codes "services") (codes "configuration-files") (codes "restart-commands"))
    (fields_rise c.args.content.now.values (codes "services") (codes "configuration-files") (codes "restart-commands")))
