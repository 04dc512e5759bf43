use Rattle.std.proofs.Common.{rules, ◌≡◌, ℕ, List, Some, None}
use Rattle.std.specs.Prelude.{IsTrue}
use Rattle.key_names.specs.Key.{is_key, printed}
use Rattle.json_trees.specs.declared.item.Item.TheVariants as kind
use Rattle.fs_datastore.proofs.KeyTexts.{so_far_more, no_key_at}
use Rattle.fs_datastore.proofs.scalar_texts.keys_of.Goals as goal

pub returns-in_default : goal.returns-in_default
returns-in_default c =
    let reads : (k : List (List ℕ)) → IsTrue (is_key k) → c.item-item.result ≡ kind.Text (printed k) → c.in_ok-key.field-0 ≡ Some k = search rules in
    let none : c.in_ok-key.field-0 ≡ None = search rules in
    no_key_at c.args.items.now c.loop-item.item-index c.item-item.result c.in_ok-key.field-0 c.loop-item-test.true c.item-item.is reads none

pub loop-item-preserved : goal.loop-item-preserved
loop-item-preserved c =
    let reads : (k : List (List ℕ)) → IsTrue (is_key k) → c.item-item.result ≡ kind.Text (printed k) → c.in-Some.key ≡ k = search rules in
    so_far_more c.args.items.now c.loop-item.item-index c.item-item.result c.loop-item.keys.items c.push.new.self.items c.in-Some.key c.loop-item-test.true
    c.item-item.is reads c.loop-item.invariant c.in_ok-push.ensures.items
