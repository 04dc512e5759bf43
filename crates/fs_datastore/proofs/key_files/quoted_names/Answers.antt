use Rattle.std.proofs.Common.{rules, ◌≡◌, true, false}
use Rattle.fs_datastore.proofs.KeyFiles.{no_names_at, quotes_step}
use Rattle.fs_datastore.proofs.key_files.quoted_names.Goals as goal

pub returns-then-not-branch : goal.returns-then-not-branch
returns-then-not-branch c =
    let no : c.in_ok-push_quoted.field-0 ≡ false = search rules in
    no_names_at c.args.names.now c.loop-name.name-index c.name-item.result c.as_slice.result.now _ _ c.in_ok-push_quoted.field-0 c.loop-name-test.true
    c.name-item.is c.as_slice.ensures.bytes c.in_ok-push_quoted.ensures no

pub loop-name-preserved : goal.loop-name-preserved
loop-name-preserved c =
    let yes : c.in_ok-push_quoted.field-0 ≡ true = search rules in
    quotes_step c.args.names.now c.loop-name.name-index c.name-item.result c.as_slice.result.now c.loop-name.text.items c.push_quoted.new.text.items
    c.push.new.self.items c.in_ok-push_quoted.field-0 c.loop-name-test.true c.name-item.is c.as_slice.ensures.bytes c.loop-name.invariant
    c.in_ok-push_quoted.ensures yes c.in_ok-push.ensures.items
