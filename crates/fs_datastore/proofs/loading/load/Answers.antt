use Rattle.std.proofs.Common.{◌≡◌, Option, List, sym, ap, subst}
use Rattle.std.specs.Option.{option_copied}
use Rattle.outside.specs.History.{History, tree_of}
use Rattle.outside.specs.Names.{Names}
use Rattle.outside.specs.Told.{WhereTold}
use Rattle.outside.specs.Tree.{paths_below}
use Rattle.fs_datastore.specs.Loading.{FindsFault}
use Rattle.fs_datastore.proofs.FilesRead.{absent_where}
use Rattle.fs_datastore.proofs.loading.load.Goals as goal

pub returns-clause-damaged : goal.returns-clause-damaged
returns-clause-damaged g c =
    let dir = c.args.dir.now in
    let a = g.D.Disk.told c.args.disk.now in
    let paths = c.deref.result.now in
    let listed : WhereTold a (λ h. paths ≡ paths_below dir (tree_of h)) =
    subst (λ (ps : List Names). WhereTold a (λ h. ps ≡ paths_below dir (tree_of h))) (sym c.deref.ensures.value) c.in_ok-paths.ensures.paths in
    let finds : WhereTold a (FindsFault paths c.new-found.result c.first_fault.new.found (option_copied c.in_ok-path.field-0)) =
    subst (λ (t : Option History). WhereTold t (FindsFault paths c.new-found.result c.first_fault.new.found (option_copied c.in_ok-path.field-0)))
    c.list.ensures.same c.in_ok-path.ensures.finds in
    λ path is.
    let same : c.in_ok-absent_path-in-Err.field-0 ≡ path = cc is in
    absent_where paths dir c.requires c.new-found.result c.first_fault.new.found a listed c.new-found.ensures (option_copied c.in_ok-path.field-0) finds
    (ap option_copied c.in_default.is) c.in-Err.absent c.in-Err.ensures.absent c.in_ok-absent_path-in-Err.field-0 path c.in_ok-absent_path-in-Err.ensures
    same
