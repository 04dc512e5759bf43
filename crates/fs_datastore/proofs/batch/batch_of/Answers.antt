use Rattle.std.proofs.Common.{rules, ◌≡◌, List, false, sym, ap, ◌∙◌, subst}
use Rattle.std.specs.Prelude.{IsTrue}
use Rattle.std.specs.List.{list_all}
use Rattle.std.proofs.lemmas.Bool.{false≢true}
use Rattle.commit_journal.specs.Entries.{Changes, fits_below}
use Rattle.settings_tree.specs.Change.{has_bare_name}
use Rattle.settings_tree.specs.declared.entry.Entry.{Entry}
use Rattle.fs_datastore.specs.Batches.{WritesDown, Follows}
use Rattle.fs_datastore.proofs.Batching.{first_names, all_fit, writes_down, follows}
use Rattle.fs_datastore.proofs.batch.batch_of.Goals as goal

pub of-requires-clause-first_names : goal.of-requires-clause-first_names
of-requires-clause-first_names c = first_names c.as_slice.result.now c.in_ok-files.files c.in_ok-entries.entries.items c.in_ok-files.ensures
    c.in_ok-entries.ensures.items c.in_ok-entries.ensures.ordered

pub unreachable-requires : goal.unreachable-requires
unreachable-requires c =
    let broken : list_all (fits_below c.args.dir.now) c.in_ok-entries.entries.items ≡ false = search rules in
    false≢true (sym broken ∙ all_fit c.as_slice.result.now c.in_ok-files.files c.in_ok-entries.entries.items c.in_ok-files.ensures c.in_ok-entries.ensures.items
    c.in_ok-entries.ensures.ordered c.args.dir.now c.requires)

pub returns-in-Ok-clause-written : goal.returns-in-Ok-clause-written
returns-in-Ok-clause-written c =
    subst (λ (es : List Entry). WritesDown es c.in-Ok.batch.entries) c.as_slice.ensures.entries
    (writes_down c.as_slice.result.now c.in_ok-files.files c.in_ok-entries.entries.items c.in_ok-files.ensures c.in_ok-entries.ensures.items
    c.in_ok-entries.ensures.ordered c.in-Ok.batch.entries (ap (λ (b : Changes). b.entries) c.in-Ok.ensures.ok))

pub returns-in-Ok-clause-laid : goal.returns-in-Ok-clause-laid
returns-in-Ok-clause-laid c =
    subst (λ (es : List Entry). Follows es c.in-Ok.batch.entries) c.as_slice.ensures.entries
    (follows c.as_slice.result.now c.in_ok-files.files c.in_ok-entries.entries.items c.in_ok-files.ensures c.in_ok-entries.ensures.items
    c.in_ok-entries.ensures.ordered c.in-Ok.batch.entries (ap (λ (b : Changes). b.entries) c.in-Ok.ensures.ok)
    (subst (λ (es : List Entry). IsTrue (list_all has_bare_name es)) (sym c.as_slice.ensures.entries) c.as_slice.ensures.names))
