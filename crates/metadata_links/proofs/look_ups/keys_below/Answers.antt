use Rattle.std.proofs.Common.{List, ℕ, [], ◌∷◌, ◌++◌, ◌∙◌, ap, sym}
use Rattle.metadata_links.proofs.Runs.{walk_more, walk_end}
use Rattle.metadata_links.proofs.look_ups.keys_below.Goals as goal

pub returns-then-not-is_prefix : goal.returns-then-not-is_prefix
returns-then-not-is_prefix c =
    walk_end c.args.path.now c.args.entries.now c.requires.rises c.requires.above c.loop-key.key-index c.loop-key-item.result c.loop-key-test.true
    c.loop-key-item.is
    c.loop-key.keys.items _ (sym c.is_prefix.ensures ∙ c.if-not-is_prefix.true) c.loop-key.invariant

pub loop-key-preserved : goal.loop-key-preserved
loop-key-preserved c =
    walk_more c.args.path.now c.args.entries.now c.requires.rises c.requires.above c.loop-key.key-index c.loop-key-item.result c.loop-key-test.true
    c.loop-key-item.is
    c.loop-key.keys.items c.push.new.self.items _ (sym c.is_prefix.ensures ∙ c.if-not-is_prefix.false) c.loop-key.invariant
    (c.in_ok-push.ensures.items ∙ ap (λ (k : List (List ℕ)). c.loop-key.keys.items ++ k ∷ []) c.in_ok-copy.ensures)
