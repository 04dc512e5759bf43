use Rattle.std.proofs.Common.{◌∙◌}
use Rattle.held_text.proofs.ContentReadings.{err_content, live_map, begun_values}
use Rattle.held_text.proofs.reading.content_of.Goals as goal

pub returns-in_err-map_of : goal.returns-in_err-map_of
returns-in_err-map_of c =
    err_content _ _ _ _ c.from_residual.result c.from_residual.ensures.1
    (λ x live v m w e gives. gives ∙ c.in_err-map_of.ensures.reads.finds x.values (live_map x live) v)

pub returns-in_err-put_others : goal.returns-in_err-put_others
returns-in_err-put_others c =
    err_content _ _ _ _ c.from_residual-in_err-put_others.result c.from_residual-in_err-put_others.ensures.1
    (λ x live v m w e gives. gives ∙ c.in_err-put_others.ensures.puts x live
    (begun_values _ _ _ c.values_alone-content.ensures c.in_ok-map_of.ensures.reads x live v) m w)

pub returns : goal.returns
returns c = record {
  finds = λ x live v m w. c.in_ok-put_others.ensures.puts x live (begun_values _ _ _ c.values_alone-content.ensures c.in_ok-map_of.ensures.reads x live v) m w;
}
