use Rattle.std.proofs.Common.{◌≡◌, ℕ, ◌+◌, List, [], ◌∷◌, ◌++◌, take, sym, ◌∙◌, ap, subst, arith}
use Rattle.std.proofs.lemmas.List.{take_more, take_all}
use Rattle.outside.specs.Told.{Moves}
use Rattle.outside.proofs.Told.{moves_stay, moves_then}
use Rattle.load_input.specs.Counted.{ran, Counted}
use Rattle.load_input.proofs.Runs.{counted_none, counted_then, counted_whole}
use Rattle.load_input.proofs.serving.serve.Goals as goal

pub loop-request-init : goal.loop-request-init
loop-request-init g c = record {
  counted = moves_stay (λ h. counted_none c.args.core.now c.args.counts.now (ran c.args.spawner.now) h);
  sound = c.requires.sound;
  calm = c.requires.calm;
  still = c.requires.still;
  all = omega arith;
}

pub loop-request-preserved : goal.loop-request-preserved
loop-request-preserved g c =
    let was = c.loop-request.invariant in
    let a = c.in_ok-answer.ensures in
    let d = c.in_ok-drive.ensures in
    let bytes = c.request-item.result in
    let so_far = take c.loop-request.request-index c.args.requests.now in
    let more : take (c.loop-request.request-index + 1) c.args.requests.now ≡ so_far ++ bytes ∷ [] =
    take_more c.args.requests.now c.loop-request.request-index bytes c.loop-request-test.true ∙ ap (λ (b : List ℕ). so_far ++ b ∷ []) (sym c.request-item.is) in
    record {
      counted = moves_then
          (λ old between new first then_it. counted_whole (so_far ++ bytes ∷ []) (take (c.loop-request.request-index + 1) c.args.requests.now) c.args.core.now
          c.drive.new.core
          c.args.counts.now c.drive.new.counts (ran c.args.spawner.now) (ran c.drive.new.spawner) old new (sym more)
          (counted_then (so_far ++ bytes ∷ []) [] c.args.core.now c.answer.new.core c.drive.new.core c.args.counts.now c.answer.new.counts c.drive.new.counts
          (ran c.args.spawner.now) (ran c.loop-request.spawner) (ran c.drive.new.spawner) old between new first then_it))
          (moves_then
          (λ old between new first then_it. counted_then so_far (bytes ∷ []) c.args.core.now c.loop-request.core c.answer.new.core c.args.counts.now
          c.loop-request.counts
          c.answer.new.counts (ran c.args.spawner.now) (ran c.loop-request.spawner) (ran c.loop-request.spawner) old between new first then_it)
          was.counted (a.counted (ran c.loop-request.spawner)))
          d.counted;
      sound = d.sound;
      calm = d.calm;
      still = d.idle;
      all = omega (arith, was.all, a.one, d.ok, d.refused);
    }

pub returns-clause-counted : goal.returns-clause-counted
returns-clause-counted g c =
    subst (λ (bs : List (List ℕ)). Moves (g.D.Disk.told c.args.disk.now) (g.D.Disk.told c.loop-request.disk)
    (Counted bs c.args.core.now c.loop-request.core c.args.counts.now c.loop-request.counts (ran c.args.spawner.now) (ran c.loop-request.spawner)))
    (take_all c.loop-request.request-index c.args.requests.now c.loop-request-test.false) c.loop-request.invariant.counted
