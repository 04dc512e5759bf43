use Rattle.std.proofs.lemmas.Result.{on_ok_weaker}
use Rattle.serde_json.specs.Data.{no_members}
use Rattle.held_text.specs.HeldText.{held_members}
use Rattle.held_text.specs.HeldRules.{last_members}
use Rattle.held_text.proofs.JsonLists.{object_written}
use Rattle.held_text.proofs.text.write_held.Goals as goal

pub returns-clause-wrote : goal.returns-clause-wrote
returns-clause-wrote c =
    let h = c.args.held.now in
    on_ok_weaker c.end_object.result
    (λ e. object_written (held_members h) _ _ _ c.in_ok-begin_object.ensures.ok c.in_ok-begin_object.ensures.room.0
    (c.in_ok-write_first.ensures.wrote.leads (last_members h no_members) _
    (c.in_ok-write_last.ensures.wrote.leads no_members _ (record { tokens = e; before = c.end_object.ensures.room.0 }))))
    c.end_object.ensures.ok

pub returns-clause-valid : goal.returns-clause-valid
returns-clause-valid c =
    on_ok_weaker c.end_object.result
    (λ _ utf8. record {
      live = record {
        rules = c.in_ok-write_last.ensures.rules;
        values = c.in_ok-write_first.ensures.values;
        metadata =
            c.in_ok-write_first.ensures.metadata;
        weak = c.in_ok-write_last.ensures.weak;
      };
      pending = c.in_ok-write_last.ensures.pending;
      owed = c.in_ok-write_last.ensures.owed;
      image = c.in_ok-write_first.ensures.image;
      utf8 = utf8;
    }) c.end_object.ensures.ok
