use Rattle.std.proofs.Common.{◌≡◌, false, is_some, sym, rules}
use Rattle.std.specs.FinMap.{get}
use Rattle.std.proofs.lemmas.Result.{err_from_is_err_and}
use Rattle.setting_generators.proofs.AskedParts.{absent, fails_as, pushed_one, refused_one}
use Rattle.setting_generators.proofs.asking.ask_wanted.Goals as goal

pub returns-in_err-value-clause-asked : goal.returns-in_err-value-clause-asked
returns-in_err-value-clause-asked g c =
    let none : is_some (get c.args.live.now.values c.args.generator.now.key) ≡ false =
    absent c.value.result _ c.value.ensures.value (sym c.if-is_some.ensures) in
    let p = err_from_is_err_and c.from_residual.result c.from_residual.ensures.1 in
    rw (p.1, p.2) (refused_one c.args.live.now c.args.generator.now _ _ none c.args.pairs.now.items _ c.in_err-value.ensures.asked)

pub returns-clause-asked : goal.returns-clause-asked
returns-clause-asked g c =
    let none : is_some (get c.args.live.now.values c.args.generator.now.key) ≡ false =
    absent c.value.result _ c.value.ensures.value (sym c.if-is_some.ensures) in
    let key : c.in_ok-copy.field-0 ≡ c.args.generator.now.key = search rules in
    pushed_one c.args.live.now c.args.generator.now _ _ none c.args.pairs.now.items c.push.new.self.items c.in_ok-copy.field-0 c.in_ok-value.value
    c.in_ok-value.ensures.asked key c.in_ok-push.ensures.items

pub returns-in_err-value-clause-cause : goal.returns-in_err-value-clause-cause
returns-in_err-value-clause-cause g c =
    let p = err_from_is_err_and c.from_residual.result c.from_residual.ensures.1 in
    rw (p.1, p.2) (fails_as _ _ _ c.in_err-value.ensures.cause)
