use Rattle.std.proofs.Common.{codes}
use Rattle.std.proofs.lemmas.Result.{on_ok_weaker}
use Rattle.serde_json.specs.Data.{member}
use Rattle.held_text.specs.HeldText.{keys_data, pending_maps_data, owed_data}
use Rattle.held_text.proofs.JsonLists.{member_written}
use Rattle.held_text.proofs.text.write_last.Goals as goal

pub returns-clause-wrote : goal.returns-clause-wrote
returns-clause-wrote c =
    let h = c.args.held.now in
    on_ok_weaker c.write_keys.result
    (λ wrote. record {
      leads = λ ms end rest.
          let weak = member (codes "weak") (keys_data h.live.weak) ms in
          let pending = member (codes "pending") (pending_maps_data h.pending) weak in
          member_written (codes "owed") (owed_data h.owed) pending _ _ _ _ c.in_ok-key.ensures.ok c.in_ok-key.ensures.room.0 c.in_ok-write_owed.ensures.wrote
          (member_written (codes "pending") (pending_maps_data h.pending) weak _ _ _ _ c.in_ok-key-2.ensures.ok c.in_ok-key-2.ensures.room.0
          c.in_ok-write_pending.ensures.wrote
          (member_written (codes "weak") (keys_data h.live.weak) ms _ _ _ _ c.in_ok-key-3.ensures.ok c.in_ok-key-3.ensures.room.0
          (rw c.weak.ensures.weak at wrote) rest));
    })
    c.write_keys.ensures.wrote

pub returns-clause-owed : goal.returns-clause-owed
returns-clause-owed c = on_ok_weaker c.write_keys.result (λ _. c.in_ok-write_owed.ensures.valid) c.write_keys.ensures.wrote

pub returns-clause-pending : goal.returns-clause-pending
returns-clause-pending c = on_ok_weaker c.write_keys.result (λ _. c.in_ok-write_pending.ensures.valid) c.write_keys.ensures.wrote

pub returns-clause-rules : goal.returns-clause-rules
returns-clause-rules c = on_ok_weaker c.write_keys.result (λ _. c.weak.ensures.valid) c.write_keys.ensures.wrote

pub returns-clause-weak : goal.returns-clause-weak
returns-clause-weak c = on_ok_weaker c.write_keys.result (λ w. rw (← c.weak.ensures.weak) w) c.write_keys.ensures.valid
