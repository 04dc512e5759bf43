use Rattle.std.proofs.Common.{◌≡◌, ◌++◌, take, drop, true}
use Rattle.std.specs.List.{list_all}
use Rattle.commit_journal.specs.Entries.{fits_memory}
use Rattle.commit_journal.specs.Journal.{journal_text}
use Rattle.commit_journal.proofs.printing.journal_text.Given as goal

abbrev pub invariant-loop-path : goal.invariant-loop-path
invariant-loop-path l = record {
  text : l.text.items ++ journal_text (drop l.path-index l.entries) ≡ journal_text l.entries;
  fits : list_all (λ e. fits_memory e.1) (take l.path-index l.entries) ≡ true;
}
