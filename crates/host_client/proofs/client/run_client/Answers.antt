use Rattle.std.proofs.Common.{◌≡◌, ℕ, List, codes, refl, ap, subst}
use Rattle.std.specs.Prelude.{Result, Err}
use Rattle.host_client.specs.Orders.{order_of}
use Rattle.host_client.specs.Ended.{by_order, misused, unread, without_memory, cut_off, badly, at_length, unfinished, IsPrinted}
use Rattle.host_client.specs.declared.step.Ending.{Ending}
use Rattle.host_client.specs.declared.stop.Stop.{Stop}
use Rattle.host_client.specs.declared.stop.Stop.TheVariants.{Link, BadReply, TooLong, Unfinished, Memory}
use Rattle.host_client.proofs.Carried.{is_stop}
use Rattle.host_client.proofs.client.run_client.Goals as goal

-- the error of a call that ends with an ending
abbrev stopped : Stop → Result Ending Stop
stopped s = Err s

pub returns-in-Ok-None : goal.returns-in-Ok-None
returns-in-Ok-None g c = record {
  status = 2;
  line = codes "settingsctl: usage\n";
  ends = misused (rw c.in-Ok-None.field-0-is at c.in-Ok-None.ensures) refl refl;
  printed = c.printed.ensures;
}

pub returns-in-Err : goal.returns-in-Err
returns-in-Err g c = record { status = 1; line = codes "settingsctl: memory\n"; ends = unread refl refl; printed = c.printed-in-Err.ensures }

pub returns-in-Ok : goal.returns-in-Ok
returns-in-Ok g c = record {
  status = c.in-Ok.ending.status;
  line = c.in-Ok.ending.line;
  ends = by_order (order_of c.in-Ok-Some.command) c.in-Ok.ending
      (rw c.in-Ok-Some.field-0-is at c.in-Ok-Some.ensures) c.in-Ok.ensures.ended (c.in-Ok.ensures.kept (λ e. cc));
  printed = subst
      (λ (l : List ℕ). IsPrinted c.in-Ok.ending.status l (g.O.Sink.faults c.args.out.now) (g.O.Sink.faults c.printed-in-Ok.new.out)
      (g.O.Sink.told c.args.out.now) (g.O.Sink.told c.printed-in-Ok.new.out) c.printed-in-Ok.result)
      c.as_slice.ensures c.printed-in-Ok.ensures;
}

pub returns-in-Err-Link : goal.returns-in-Err-Link
returns-in-Err-Link g c =
    let is = ap stopped c.in-Err-Link.field-0-is in record {
      status = 4;
      line = codes "settingsctl: link\n";
      ends = cut_off (order_of c.in-Ok-Some.command)
          (rw c.in-Ok-Some.field-0-is at c.in-Ok-Some.ensures) (c.in-Err-Link.ensures.in_part is) (c.in-Err-Link.ensures.rose is);
      printed = c.printed-in-Err-Link.ensures;
    }

pub returns-in-Err-BadReply : goal.returns-in-Err-BadReply
returns-in-Err-BadReply g c =
    let is = ap stopped c.in-Err-BadReply.field-0-is in record {
      status = 21;
      line = codes "settingsctl: bad reply\n";
      ends = badly (order_of c.in-Ok-Some.command) (rw c.in-Ok-Some.field-0-is at c.in-Ok-Some.ensures) (c.in-Err-BadReply.ensures.badly is)
          (c.in-Err-BadReply.ensures.kept (λ e.
          let never : BadReply ≡ Link = is_stop {T = Ending} c.in-Err-BadReply.field-0 BadReply Link c.in-Err-BadReply.field-0-is e in cc));
      printed = c.printed-in-Err-BadReply.ensures;
    }

pub returns-in-Err-TooLong : goal.returns-in-Err-TooLong
returns-in-Err-TooLong g c =
    let is = ap stopped c.in-Err-TooLong.field-0-is in record {
      status = 22;
      line = codes "settingsctl: reply too long\n";
      ends = at_length (order_of c.in-Ok-Some.command) (rw c.in-Ok-Some.field-0-is at c.in-Ok-Some.ensures) (c.in-Err-TooLong.ensures.at_length is)
          (c.in-Err-TooLong.ensures.kept (λ e.
          let never : TooLong ≡ Link = is_stop {T = Ending} c.in-Err-TooLong.field-0 TooLong Link c.in-Err-TooLong.field-0-is e in cc));
      printed = c.printed-in-Err-TooLong.ensures;
    }

pub returns-in-Err-Unfinished : goal.returns-in-Err-Unfinished
returns-in-Err-Unfinished g c =
    let is = ap stopped c.in-Err-Unfinished.field-0-is in record {
      status = 24;
      line = codes "settingsctl: still running\n";
      ends = unfinished (order_of c.in-Ok-Some.command) (rw c.in-Ok-Some.field-0-is at c.in-Ok-Some.ensures) (c.in-Err-Unfinished.ensures.unfinished is)
          (c.in-Err-Unfinished.ensures.kept (λ e.
          let never : Unfinished ≡ Link = is_stop {T = Ending} c.in-Err-Unfinished.field-0 Unfinished Link c.in-Err-Unfinished.field-0-is e in cc));
      printed = c.printed-in-Err-Unfinished.ensures;
    }

pub returns : goal.returns
returns g c =
    let is = ap stopped c.in-Err-Memory.field-0-is in record {
      status = 1;
      line = codes "settingsctl: memory\n";
      ends = without_memory (order_of c.in-Ok-Some.command) (rw c.in-Ok-Some.field-0-is at c.in-Ok-Some.ensures) (c.in-Err-Memory.ensures.memory is)
          (c.in-Err-Memory.ensures.kept (λ e.
          let never : Memory ≡ Link = is_stop {T = Ending} c.in-Err-Memory.field-0 Memory Link c.in-Err-Memory.field-0-is e in cc));
      printed = c.printed-in-Err-Memory.ensures;
    }
