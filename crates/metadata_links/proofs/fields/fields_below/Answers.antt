use Rattle.std.proofs.Common.{List, ℕ, fold, ap, ◌∙◌}
use Rattle.std.specs.FinMap.{from_entries, empty}
use Rattle.std.proofs.lemmas.Result.{IfOk-weaker}
use Rattle.key_names.specs.Order.{bytes_cmp}
use Rattle.settings_tree.specs.Walks.{entries_below}
use Rattle.metadata_links.specs.Gathered.{with_value}
use Rattle.metadata_links.proofs.Gatherings.{gathered}
use Rattle.metadata_links.proofs.fields.fields_below.Goals as goal

pub returns : goal.returns
returns c = IfOk-weaker c.gather.result _ _ (λ found is. gathered c.args.content.now.values c.args.first.now c.args.one.now c.args.other.now c.requires.apart
    (from_entries {R = bytes_cmp} found.entries)
    (is ∙ ap (λ (p : List (List ℕ)). fold (with_value c.args.one.now c.args.other.now) empty (entries_below c.args.content.now.values p))
    c.in_ok-prefix.ensures)) c.gather.ensures
