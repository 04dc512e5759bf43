use Rattle.std.proofs.Common.{◌≡◌, length, rules, ap, sym, ◌∙◌}
use Rattle.std.proofs.lemmas.List.{length-map}
use Rattle.std.specs.Prelude.{nat_lt}
use Rattle.outside.proofs.Told.{moves_map}
use Rattle.disk_memory.specs.Asked.{run_of}
use Rattle.disk_memory.specs.Spawner.{runs_of}
use Rattle.settings_machine.specs.World.{is_running}
use Rattle.api_core.specs.Cores.{core_state}
use Rattle.load_input.specs.Counts.{with_turn}
use Rattle.load_input.specs.Counted.{ran}
use Rattle.load_input.proofs.Runs.{turn_is, calm_after, counted_turn}
use Rattle.load_input.proofs.driving.turn_once.Goals as goal

pub returns-clause-counted : goal.returns-clause-counted
returns-clause-counted g c =
    let r = ran c.args.spawner.now in
    let s = ran c.turns.new.spawner in
    let job = (core_state c.turns.new.self).job in
    let before : length c.runs-before.result.now ≡ length r =
    ap length c.runs-before.ensures ∙ sym (length-map (runs_of c.args.spawner.now) run_of) in
    let after_it : length c.runs-after.result.now ≡ length s =
    ap length c.runs-after.ensures ∙ sym (length-map (runs_of c.turns.new.spawner) run_of) in
    let goes : c.in_ok-goes_on.goes_on ≡ is_running job = search rules in
    let is : c.count.new.counts ≡ with_turn (nat_lt (length r) (length s)) (is_running job) c.args.counts.now =
    turn_is c.args.counts.now c.count.new.counts (length c.runs-before.result.now) (length c.runs-after.result.now)
    c.in_ok-goes_on.goes_on r s job c.in_ok-count.ensures.turn before after_it goes in
    moves_map
    (λ old new turns. counted_turn c.args.core.now c.turns.new.self c.args.counts.now c.count.new.counts r s old new c.requires.running
    (λ e failed. c.in_ok-goes_on.ensures.unfailed e (c.job.ensures ∙ failed)) is turns)
    c.turns.ensures.turns

pub returns-clause-calm : goal.returns-clause-calm
returns-clause-calm g c = calm_after _ _ _ _ c.turns.ensures.faulted c.requires.calm (λ e failed. c.in_ok-goes_on.ensures.unfailed e (c.job.ensures ∙ failed))
