use Rattle.std.proofs.Common.{arith, rules, ◌≡◌, drop, Option, true, false, ◌∙◌, subst, refl}
use Rattle.outside.specs.History.{History, tree_of}
use Rattle.outside.specs.Told.{WhereTold}
use Rattle.outside.specs.Tree.{node_at}
use Rattle.fs_datastore.specs.Loading.{ReadsNode}
use Rattle.fs_datastore.proofs.FilesRead.{read_none, read_more, read_fault, read_all}
use Rattle.fs_datastore.proofs.loading.first_fault.Goals as goal

pub loop-path-init : goal.loop-path-init
loop-path-init g c = record {
  same = refl;
  faults = refl;
  rules = c.requires;
  read =
      read_none c.args.paths.now c.args.found.now (g.D.Disk.told c.args.disk.now);
}

pub loop-path-preserved : goal.loop-path-preserved
loop-path-preserved g c =
    let so : c.in_ok-read_file.field-0 ≡ true = search rules in
    let p = c.path-item.result in
    record {
      same = c.read_file.ensures.same ∙ c.loop-path.invariant.same;
      faults = c.in_ok-read_file.ensures.cause.kept ∙ c.loop-path.invariant.faults;
      rules = c.in_ok-read_file.ensures.rules so;
      read = read_more c.args.paths.now c.loop-path.path-index p c.loop-path-test.true c.path-item.is c.args.found.now c.loop-path.found c.read_file.new.found
          (g.D.Disk.told c.args.disk.now) c.loop-path.invariant.read c.in_ok-read_file.field-0 so
          (subst (λ (a : Option History). WhereTold a (λ h. ReadsNode (drop 2 p) (node_at (tree_of h) p) c.loop-path.found c.read_file.new.found
          c.in_ok-read_file.field-0)) c.loop-path.invariant.same c.in_ok-read_file.ensures.reads);
    }

pub returns-then-not-branch-clause-finds : goal.returns-then-not-branch-clause-finds
returns-then-not-branch-clause-finds g c =
    let no : c.in_ok-read_file.field-0 ≡ false = search rules in
    let p = c.path-item.result in
    read_fault c.args.paths.now c.loop-path.path-index p c.loop-path-test.true c.path-item.is c.args.found.now c.loop-path.found c.read_file.new.found
    (g.D.Disk.told c.args.disk.now) c.loop-path.invariant.read c.in_ok-read_file.field-0 no
    (subst (λ (a : Option History). WhereTold a (λ h. ReadsNode (drop 2 p) (node_at (tree_of h) p) c.loop-path.found c.read_file.new.found
    c.in_ok-read_file.field-0)) c.loop-path.invariant.same c.in_ok-read_file.ensures.reads)

pub returns-clause-finds : goal.returns-clause-finds
returns-clause-finds g c =
    read_all c.args.paths.now c.loop-path.path-index c.args.found.now c.loop-path.found (g.D.Disk.told c.args.disk.now)
    (omega (arith, c.loop-path-test.false, c.loop-path.auto.path-index-end)) c.loop-path.invariant.read
