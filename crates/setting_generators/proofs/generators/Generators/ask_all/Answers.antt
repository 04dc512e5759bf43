use Rattle.std.proofs.Common.{◌≡◌, ◌<◌, ◌∙◌, length, arith, map, ap, rules}
use Rattle.std.proofs.lemmas.Result.{err_from_is_err_and}
use Rattle.setting_generators.specs.Generators.{seen}
use Rattle.setting_generators.proofs.AskedParts.{asked_more, all_refused, fails_handed}
use Rattle.setting_generators.proofs.generators.Generators.ask_all.Goals as goal

pub returns-in_err-ask_wanted-clause-asked : goal.returns-in_err-ask_wanted-clause-asked
returns-in_err-ask_wanted-clause-asked g c =
    let within : c.loop-generator.generator-index < length c.deref-generator-items.result.now = omega arith in
    let p = err_from_is_err_and c.from_residual.result c.from_residual.ensures.1 in
    let all : map seen c.deref-generator-items.result.now ≡ c.args.self.now = ap (map seen) c.deref-generator-items.ensures.value ∙ c.self.view_is in
    rw (p.1, p.2) (all_refused c.args.live.now c.deref-generator-items.result.now c.args.self.now c.loop-generator.generator-index c.generator-item.result _ _ _
    c.loop-generator.pairs.items c.ask_wanted.new.pairs.items _ within c.generator-item.is all
    c.loop-generator.invariant.asked c.in_err-ask_wanted.ensures.asked)

pub loop-generator-preserved : goal.loop-generator-preserved
loop-generator-preserved g c =
    let within : c.loop-generator.generator-index < length c.deref-generator-items.result.now = omega arith in
    record {
      asked = asked_more c.args.live.now c.deref-generator-items.result.now c.loop-generator.generator-index c.generator-item.result _ _ _
          c.loop-generator.pairs.items within c.generator-item.is c.loop-generator.invariant.asked
          c.ask_wanted.new.pairs.items c.in_ok-ask_wanted.ensures.asked;
      ran = search rules;
      kept = search rules;
    }

pub returns-in_err-ask_wanted-clause-cause : goal.returns-in_err-ask_wanted-clause-cause
returns-in_err-ask_wanted-clause-cause g c =
    let p = err_from_is_err_and c.from_residual.result c.from_residual.ensures.1 in
    rw (p.1, p.2) (fails_handed _ _ _ (rw c.loop-generator.invariant.kept at c.in_err-ask_wanted.ensures.cause))
