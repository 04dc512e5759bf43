use Rattle.std.proofs.Common.{codes, map}
use Rattle.std.proofs.lemmas.Result.{on_ok_weaker}
use Rattle.held_text.specs.HeldText.{list_data, keys_data, owed_data}
use Rattle.held_text.proofs.JsonLists.{member_written}
use Rattle.metadata_links.specs.Commands.{seen}
use Rattle.machine_answers.specs.Bodies.{command_data, file_data, refused_data}
use Rattle.machine_answers.proofs.plan_body.write_members.Goals as goal

pub returns : goal.returns
returns c =
    let p = c.args.plan.now in
    on_ok_weaker c.end_object.result
    (λ e. member_written (codes "changed") (keys_data p.changed) _ _ _ _ _ c.in_ok-key.ensures.ok c.in_ok-key.ensures.room.0 c.in_ok-write_keys.ensures.wrote
    (member_written (codes "commands") (list_data (map command_data (map seen p.commands.items))) _ _ _ _ _ c.in_ok-key-2.ensures.ok
    c.in_ok-key-2.ensures.room.0 (rw c.deref.ensures.value at c.in_ok-write_commands.ensures)
    (member_written (codes "files") (list_data (map file_data p.files.items)) _ _ _ _ _ c.in_ok-key-3.ensures.ok c.in_ok-key-3.ensures.room.0
    (rw c.deref-2.ensures.value at c.in_ok-write_files.ensures)
    (member_written (codes "owed") (owed_data p.owed) _ _ _ _ _ c.in_ok-key-4.ensures.ok c.in_ok-key-4.ensures.room.0 c.in_ok-write_owed.ensures.wrote
    (member_written (codes "refused") (list_data (map refused_data p.refused.items)) _ _ _ _ _ c.in_ok-key-5.ensures.ok c.in_ok-key-5.ensures.room.0
    (rw c.deref-3.ensures.value at c.in_ok-write_all_refused.ensures) (record { tokens = e; before = c.end_object.ensures.room.0 }))))))
    c.end_object.ensures.ok
