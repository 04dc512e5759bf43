use Rattle.std.proofs.Common.{rules, ◌≡◌, List, Option, Err, subst}
use Rattle.outside.specs.History.{tree_of}
use Rattle.outside.specs.Told.{WhereTold}
use Rattle.store_image.specs.Paths.{sources_in}
use Rattle.setting_generators.specs.Generators.{Given}
use Rattle.settings_cmd.specs.Generators.{generators_path, given_of, AreGeneratorsIn, BeginWithSettings}
use Rattle.settings_cmd.proofs.Making.{generators_unread, generators_missing, generators_asked, spawn_unread}
use Rattle.settings_cmd.proofs.generating.generated.Goals as goal

pub returns-in_err-generators-clause-gives : goal.returns-in_err-generators-clause-gives
returns-in_err-generators-clause-gives g c =
    let told : c.from_residual.result ≡ Err c.in_err-generators.field-0.0 = search rules in
    generators_unread c.args.store.now _ _ _ c.in_err-generators.field-0.0 c.from_residual.result told c.in_err-generators.ensures.refused

pub returns-in_err-generators-clause-spawn : goal.returns-in_err-generators-clause-spawn
returns-in_err-generators-clause-spawn g c =
    let told : c.from_residual.result ≡ Err c.in_err-generators.field-0.0 = search rules in
    spawn_unread c.from_residual.result c.in_err-generators.field-0.0 _ told c.in_err-generators.ensures.of_generators

pub answers-requires : goal.answers-requires
answers-requires g c = record {
  settings = subst (λ (o : Option (List Given)). BeginWithSettings (given_of o)) c.in-Some.is c.in_ok-generators.ensures.settings;
}

pub returns-in-Some-clause-gives : goal.returns-in-Some-clause-gives
returns-in-Some-clause-gives g c =
    let types = c.args.store.now.image.model.types in
    let d = g.D.Disk.told c.args.disk.now in
    generators_asked c.args.store.now d _ _ c.in-Some.generators _
    (subst (λ (o : Option (List Given)). WhereTold d (λ h. AreGeneratorsIn types (sources_in (tree_of h) generators_path) (given_of o))) c.in-Some.is
    c.in_ok-generators.ensures.ok)
    c.answers.ensures.answers

pub returns-in-None-clause-gives : goal.returns-in-None-clause-gives
returns-in-None-clause-gives g c =
    let types = c.args.store.now.image.model.types in
    let d = g.D.Disk.told c.args.disk.now in
    generators_missing c.args.store.now d _ c.new.result.items
    (subst (λ (o : Option (List Given)). WhereTold d (λ h. AreGeneratorsIn types (sources_in (tree_of h) generators_path) (given_of o))) c.in-None.is
    c.in_ok-generators.ensures.ok)
    (search rules)
