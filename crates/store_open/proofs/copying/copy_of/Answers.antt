use Rattle.std.proofs.Common.{◌≡◌, List, Option, ◌++◌, ◌∷◌, [], ap, ◌∙◌, subst}
use Rattle.outside.specs.History.{History, tree_of}
use Rattle.outside.specs.Names.{Names}
use Rattle.outside.specs.Told.{WhereTold}
use Rattle.disk_memory.specs.Disk.{history_of}
use Rattle.disk_memory.specs.Nodes.{tree_of_last}
use Rattle.store_open.specs.Copying.{HasOnly}
use Rattle.store_open.proofs.Copied.{copied_files}
use Rattle.store_open.proofs.copying.copy_of.Goals as goal

joined : (whole all paths : List Names) (last dir : Names) → whole ≡ all → all ≡ paths ++ last ∷ [] → last ≡ dir → whole ≡ paths ++ dir ∷ []
joined whole all paths last dir one two is = one ∙ two ∙ ap (λ (p : Names). paths ++ p ∷ []) is

pub returns-clause-copies : goal.returns-clause-copies
returns-clause-copies g c =
    let paths = c.in_ok-paths.paths.items in
    let nodes = c.in_ok-nodes.nodes.items in
    copied_files (g.D.Disk.told c.args.disk.now) c.args.dir.now paths c.deref.result.now nodes (history_of c.in_ok-of_tree.field-0)
    (joined c.deref.result.now c.push.new.self.items paths c.in_ok-copy.field-0 c.args.dir.now c.deref.ensures.value c.in_ok-push.ensures.items
    c.in_ok-copy.ensures) c.in_ok-of_tree.ensures.history
    c.in_ok-paths.ensures.paths
    (subst (λ (t : Option History). WhereTold t (λ h. HasOnly c.deref.result.now (tree_of h) (tree_of_last nodes))) c.list.ensures.same
    c.in_ok-nodes.ensures.copies)
