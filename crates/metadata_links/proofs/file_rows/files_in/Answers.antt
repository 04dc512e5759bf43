use Rattle.std.proofs.Common.{rules, ◌≡◌, codes, IsTrue, sym, ◌∙◌, ap, subst, refl}
use Rattle.std.specs.FinMap.{is_sorted}
use Rattle.key_names.specs.Order.{bytes_cmp}
use Rattle.metadata_links.specs.Files.{file_of, files_from, files_in}
use Rattle.metadata_links.specs.Fields.{fields_below}
use Rattle.metadata_links.proofs.Filtered.{kept_sorted, walk_begun, fault_of_next, sound, sorted_sound}
use Rattle.metadata_links.proofs.Gatherings.{fields_rise, tree_entries}
use Rattle.metadata_links.proofs.Rests.{taken_all}
use Rattle.metadata_links.proofs.file_rows.files_in.Goals as goal
use Rattle.outside.proofs.Results.{handed_on}

pub loop-name-init : goal.loop-name-init
loop-name-init c = walk_begun files_from (sound c.new-files.result.items) c.into_iter-name-iterator.result c.in_ok-found.found.entries _
    (ap sound c.new-files.ensures.items) (search rules) (tree_entries c.in_ok-found.found.entries _ c.iter-name-items.ensures.ordered c.in_ok-found.ensures)

pub of-requires : goal.of-requires
of-requires c =
    let made : sound c.loop-name.files.items ≡ files_in c.args.content.now =
    taken_all files_from refl c.loop-name.name-iterator _ (sound c.loop-name.files.items) (search rules) c.loop-name.invariant in
    sym (sorted_sound bytes_cmp c.loop-name.files.items) ∙ subst (λ l. IsTrue (is_sorted bytes_cmp l)) (sym made)
    (kept_sorted bytes_cmp (λ e. file_of e.0 e.1) (fields_below c.args.content.now.values (codes "configuration-files") (codes "path")
    (codes "template-path")) (fields_rise c.args.content.now.values (codes "configuration-files") (codes "path") (codes "template-path")))

pub returns-in_err-push_file-clause-err : goal.returns-in_err-push_file-clause-err
returns-in_err-push_file-clause-err c =
    handed_on c.from_residual-in_err-push_file.result c.in_err-push_file.field-0.0 _ c.from_residual-in_err-push_file.ensures.1
    (λ other. fault_of_next c.loop-name.files.items c.loop-name.name-iterator c.next.new.self (c.in-Some.name.now, c.in-Some.fields.now) c.in-Some.name.now
    c.in_err-push_file.field-0.0 _ (search rules) c.loop-name.invariant (c.in_err-push_file.ensures.err other))
