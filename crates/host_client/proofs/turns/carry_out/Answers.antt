use Rattle.std.proofs.Common.{arith, List, Option, map, length, length-append, ◌∷◌, [], refl, sym, ap, subst, ◌∙◌}
use Rattle.host_client.specs.Exchanges.{IsSentInPart, IsAnsweredBadly, IsAnsweredAtLength}
use Rattle.host_client.specs.Orders.{order_of}
use Rattle.host_client.specs.Ended.{IsAsked, not_yet, between}
use Rattle.host_client.proofs.Carried.{stays, asked_more, asking_here, ended_here, stopped_here, rose_here, same_err}
use Rattle.host_client.specs.declared.reply.Got.{Got}
use Rattle.host_client.specs.declared.step.Ending.{Ending}
use Rattle.host_client.specs.declared.stop.Stop.TheVariants.{Link, BadReply, TooLong, Memory}
use Rattle.host_client.proofs.turns.carry_out.Goals as goal

pub loop-i-init : goal.loop-i-init
loop-i-init g c =
    let told = map g.L.Link.told c.args.links.now in record {
      asked = subst (λ (replies : List Got). IsAsked (order_of c.args.command.now) replies told told) (sym c.new-replies.ensures.items) (not_yet told);
      as_many = ap length c.new-replies.ensures.items;
      kept = refl;
    }

pub returns-in-Ok-Some-clause-ended : goal.returns-in-Ok-Some-clause-ended
returns-in-Ok-Some-clause-ended g c =
    let ends = rw c.in-Ok-Some.field-0-is at c.in-Ok-Some.ensures.went in
    ended_here c.loop-i.links c.loop-i.i c.index-links-i.result c.turn.new.link (omega arith) g.L.Link.told (order_of c.args.command.now)
    c.args.links.now c.loop-i.replies.items c.loop-i.invariant.as_many c.in-Ok-Some.ending c.loop-i.invariant.asked ends

pub returns-in-Ok-Some-clause-kept : goal.returns-in-Ok-Some-clause-kept
returns-in-Ok-Some-clause-kept g c =
    λ _. stays c.loop-i.links c.loop-i.i c.index-links-i.result c.turn.new.link (omega arith) g.L.Link.faults c.in-Ok-Some.ensures.cause.kept
    ∙ c.loop-i.invariant.kept

pub returns-in-Err-clause-badly : goal.returns-in-Err-clause-badly
returns-in-Err-clause-badly g c =
    λ e. asking_here c.loop-i.links c.loop-i.i c.index-links-i.result c.turn.new.link (omega arith) g.L.Link.told (order_of c.args.command.now)
    c.args.links.now c.loop-i.replies.items c.loop-i.invariant.as_many IsAnsweredBadly c.loop-i.invariant.asked
    (c.in-Err.ensures.badly (same_err {T = Ending} {U = Option Ending} c.in-Err.stop BadReply e))

pub returns-in-Err-clause-at_length : goal.returns-in-Err-clause-at_length
returns-in-Err-clause-at_length g c =
    λ e. asking_here c.loop-i.links c.loop-i.i c.index-links-i.result c.turn.new.link (omega arith) g.L.Link.told (order_of c.args.command.now)
    c.args.links.now c.loop-i.replies.items c.loop-i.invariant.as_many IsAnsweredAtLength c.loop-i.invariant.asked
    (c.in-Err.ensures.at_length (same_err {T = Ending} {U = Option Ending} c.in-Err.stop TooLong e))

pub returns-in-Err-clause-in_part : goal.returns-in-Err-clause-in_part
returns-in-Err-clause-in_part g c =
    λ e. asking_here c.loop-i.links c.loop-i.i c.index-links-i.result c.turn.new.link (omega arith) g.L.Link.told (order_of c.args.command.now)
    c.args.links.now c.loop-i.replies.items c.loop-i.invariant.as_many IsSentInPart c.loop-i.invariant.asked
    (c.in-Err.ensures.in_part (same_err {T = Ending} {U = Option Ending} c.in-Err.stop Link e))

pub returns-in-Err-clause-memory : goal.returns-in-Err-clause-memory
returns-in-Err-clause-memory g c =
    λ e. stopped_here c.loop-i.links c.loop-i.i c.index-links-i.result c.turn.new.link (omega arith) g.L.Link.told (order_of c.args.command.now)
    c.args.links.now c.loop-i.replies.items c.loop-i.invariant.as_many c.loop-i.invariant.asked
    (c.in-Err.ensures.memory (same_err {T = Ending} {U = Option Ending} c.in-Err.stop Memory e))

pub returns-in-Err-clause-rose : goal.returns-in-Err-clause-rose
returns-in-Err-clause-rose g c =
    λ e. rose_here c.loop-i.links c.loop-i.i c.index-links-i.result c.turn.new.link (omega arith) g.L.Link.faults c.args.links.now
    c.loop-i.invariant.kept (c.in-Err.ensures.cause.failed (same_err {T = Ending} {U = Option Ending} c.in-Err.stop Link e))

pub returns-in-Err-clause-kept : goal.returns-in-Err-clause-kept
returns-in-Err-clause-kept g c =
    λ other. stays c.loop-i.links c.loop-i.i c.index-links-i.result c.turn.new.link (omega arith) g.L.Link.faults
    (c.in-Err.ensures.cause.other refl (λ e. other (same_err {T = Option Ending} {U = Ending} c.in-Err.stop Link e))) ∙ c.loop-i.invariant.kept

pub loop-i-preserved : goal.loop-i-preserved
loop-i-preserved g c =
    let turn = rw c.in-Ok-None.field-0-is at c.in-Ok-None.ensures.went in record {
      asked = asked_more c.loop-i.links c.loop-i.i c.index-links-i.result c.turn.new.link (omega arith) g.L.Link.told
          (order_of c.args.command.now) c.args.links.now c.loop-i.replies.items c.loop-i.invariant.as_many
          c.turn.new.replies.items c.loop-i.invariant.asked turn;
      as_many = omega (arith, ap length turn.replies, length-append c.loop-i.replies.items (turn.reply ∷ []), c.loop-i.invariant.as_many);
      kept = stays c.loop-i.links c.loop-i.i c.index-links-i.result c.turn.new.link (omega arith) g.L.Link.faults
          c.in-Ok-None.ensures.cause.kept ∙ c.loop-i.invariant.kept;
    }

pub returns-clause-memory : goal.returns-clause-memory
returns-clause-memory g c = λ _. between c.loop-i.replies.items c.loop-i.invariant.asked
