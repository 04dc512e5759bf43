use Rattle.std.proofs.Common.{rules, tests}
use Rattle.std.specs.Ordering.{eq_by_cmp}
use Rattle.std.proofs.lemmas.Iterator.{YieldsList-from_slice}
use Rattle.std.proofs.lemmas.Iterator.Search.{any_from_yields_List}
use Rattle.key_names.specs.Order.{bytes_cmp}
use Rattle.metadata_links.proofs.service.Service.lists.Goals as goal

pub returns : goal.returns
returns c = any_from_yields_List (eq_by_cmp bytes_cmp c.args.file.now) _ _ _ c.any.ensures.ran (YieldsList-from_slice c.args.self.now.files cc)
    (λ x b q k. search (rules, tests))
