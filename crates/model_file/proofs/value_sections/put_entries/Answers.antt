use Rattle.std.proofs.Common.{◌≡◌, ◌<◌, ◌∷◌, [], length, arith, rules}
use Rattle.std.proofs.lemmas.Result.{err_from_is_err_and}
use Rattle.model_file.specs.Checks.{value_checks}
use Rattle.model_file.proofs.EntryChecks.{passes_more, refuses_at}
use Rattle.model_file.proofs.Puts.{valued, valued_more}
use Rattle.model_file.proofs.value_sections.put_entries.Goals as goal

pub returns-in_err-put_entry-clause-refused : goal.returns-in_err-put_entry-clause-refused
returns-in_err-put_entry-clause-refused c =
    let within : c.loop-entry.entry-index < length c.args.entries.now = omega arith in
    let p = err_from_is_err_and c.from_residual.result c.from_residual.ensures.1 in
    λ rows of_rows. rw (p.1, p.2) (refuses_at (value_checks c.args.name.now) rows c.args.entries.now c.loop-entry.entry-index c.entry-item.result _ within
    c.entry-item.is (c.loop-entry.invariant.passes rows of_rows) (c.in_err-put_entry.ensures.refused rows of_rows))

pub loop-entry-preserved : goal.loop-entry-preserved
loop-entry-preserved c =
    let within : c.loop-entry.entry-index < length c.args.entries.now = omega arith in
    let put : c.put_entry.new.content ≡ valued c.args.name.now (c.entry-item.result ∷ []) c.loop-entry.content = search rules in
    record {
      passes = λ rows of_rows. passes_more (value_checks c.args.name.now) rows c.args.entries.now c.loop-entry.entry-index c.entry-item.result within
          c.entry-item.is (c.loop-entry.invariant.passes rows of_rows) (c.in_ok-put_entry.ensures.passes rows of_rows);
      put = valued_more c.args.name.now c.args.entries.now c.loop-entry.entry-index c.entry-item.result c.args.content.now c.loop-entry.content
          c.put_entry.new.content within c.entry-item.is c.loop-entry.invariant.put put;
      typed = search rules;
      strong = cc;
    }
