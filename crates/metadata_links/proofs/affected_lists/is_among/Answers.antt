use Rattle.std.proofs.Common.{◌∙◌, sym, ap}
use Rattle.std.specs.Option.{option_copied}
use Rattle.metadata_links.specs.Faults.{is_among}
use Rattle.metadata_links.proofs.Named.{found_known}
use Rattle.metadata_links.proofs.affected_lists.is_among.Goals as goal

pub returns-in-Some : goal.returns-in-Some
returns-in-Some c = found_known c.in-Some.services.now _ c.args.name.now c.get.result c.is_some.result c.get.ensures c.is_some.ensures
    (c.as_bytes.ensures.value ∙ c.as_str.ensures)
    ∙ sym (ap (λ o. is_among (option_copied o) c.args.name.now) c.in-Some.is)
