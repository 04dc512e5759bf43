use Rattle.std.proofs.Common.{◌∙◌}
use Rattle.std.proofs.lemmas.Result.{IfOk-weaker}
use Rattle.metadata_links.proofs.Linking.{files_gathered, rows_there}
use Rattle.metadata_links.proofs.manifest.Manifest.files_of.Goals as goal

pub returns-clause-known : goal.returns-clause-known
returns-clause-known c = IfOk-weaker c.into_vec.result _ _ (λ files is. rows_there c.args.self.now c.args.owed.now files.items c.args.self.now.filed
    (is ∙ files_gathered c.args.self.now c.args.owed.now c.deref.result.now c.in_ok-files.files _ (c.deref.ensures.value ∙ c.in_ok-names.ensures)
    c.in_ok-files.ensures c.in_ok-add_all_files.ensures)) c.into_vec.ensures

pub returns-clause-files : goal.returns-clause-files
returns-clause-files c = IfOk-weaker c.into_vec.result _ _ (λ files is.
    is ∙ files_gathered c.args.self.now c.args.owed.now c.deref.result.now c.in_ok-files.files _ (c.deref.ensures.value ∙ c.in_ok-names.ensures)
    c.in_ok-files.ensures c.in_ok-add_all_files.ensures) c.into_vec.ensures
