use Rattle.std.proofs.Common.{codes}
use Rattle.std.proofs.lemmas.Result.{on_ok_weaker}
use Rattle.serde_json.specs.Data.{member}
use Rattle.json_trees.specs.Scalar.{scalar_data}
use Rattle.held_text.specs.HeldText.{map_data, metadata_data, image_data}
use Rattle.held_text.proofs.JsonLists.{member_written}
use Rattle.held_text.proofs.text.write_first.Goals as goal

pub returns-clause-wrote : goal.returns-clause-wrote
returns-clause-wrote c =
    let h = c.args.held.now in
    on_ok_weaker c.write_metadata.result
    (λ wrote. record {
      leads = λ ms end rest.
          let meta = member (codes "meta") (metadata_data h.live.metadata) ms in
          let live = member (codes "live") (map_data scalar_data h.live.values) meta in
          member_written (codes "image") (image_data h.image) live _ _ _ _ c.in_ok-key.ensures.ok c.in_ok-key.ensures.room.0 c.in_ok-write_image.ensures.wrote
          (member_written (codes "live") (map_data scalar_data h.live.values) meta _ _ _ _ c.in_ok-key-2.ensures.ok c.in_ok-key-2.ensures.room.0
          (rw c.values.ensures.values at c.in_ok-write_map.ensures.wrote)
          (member_written (codes "meta") (metadata_data h.live.metadata) ms _ _ _ _ c.in_ok-key-3.ensures.ok c.in_ok-key-3.ensures.room.0
          (rw c.metadata.ensures.metadata at wrote) rest));
    })
    c.write_metadata.ensures.wrote

pub returns-clause-image : goal.returns-clause-image
returns-clause-image c = on_ok_weaker c.write_metadata.result (λ _. c.in_ok-write_image.ensures.valid) c.write_metadata.ensures.wrote

pub returns-clause-values : goal.returns-clause-values
returns-clause-values c = on_ok_weaker c.write_metadata.result (λ _. rw (← c.values.ensures.values) c.in_ok-write_map.ensures.valid)
    c.write_metadata.ensures.wrote

pub returns-clause-metadata : goal.returns-clause-metadata
returns-clause-metadata c = on_ok_weaker c.write_metadata.result (λ v. rw (← c.metadata.ensures.metadata) v) c.write_metadata.ensures.valid
