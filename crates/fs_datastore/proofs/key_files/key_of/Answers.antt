use Rattle.std.proofs.Common.{rules, ◌≡◌, ℕ, List, true, false}
use Rattle.fs_datastore.specs.FoundFiles.{AreFileNames, Quotes}
use Rattle.fs_datastore.proofs.KeyFiles.{key_found, no_key_last, no_key_first}
use Rattle.fs_datastore.proofs.key_files.key_of.Goals as goal

pub returns-in_default : goal.returns-in_default
returns-in_default c =
    let none : (segments : List (List ℕ)) → AreFileNames c.args.first.now segments → ⊥ = search rules in
    no_key_first c.args.first.now c.args.last.now none

pub returns-then-not-branch : goal.returns-then-not-branch
returns-then-not-branch c =
    let no : c.in_ok-push_quoted.field-0 ≡ false = search rules in
    no_key_last c.args.first.now c.args.last.now _ _ c.in_ok-push_quoted.field-0 c.in_ok-push_quoted.ensures no

pub returns : goal.returns
returns c =
    let yes : c.in_ok-push_quoted.field-0 ≡ true = search rules in
    let q : Quotes c.args.first.now c.in-Some.text.items = search rules in
    key_found c.args.first.now c.args.last.now c.in-Some.text.items c.push_quoted.new.text.items c.deref.result.now c.in_ok-push_quoted.field-0
    c.read_key.result q c.in_ok-push_quoted.ensures yes c.deref.ensures.value c.read_key.ensures
