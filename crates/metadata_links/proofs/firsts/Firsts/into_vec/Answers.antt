use Rattle.std.proofs.Common.{◌∙◌, ◌++◌, ◌∷◌, [], List, ℕ, map, string_bytes, ap}
use Rattle.metadata_links.proofs.Rests.{taken_more, map_next}
use Rattle.metadata_links.proofs.firsts.Firsts.into_vec.Goals as goal

pub loop-name-preserved : goal.loop-name-preserved
loop-name-preserved c =
    taken_more (map (λ s. string_bytes s)) (map_next (λ s. string_bytes s)) c.loop-name.name-iterator c.next.new.self c.in-Some.name _ c.loop-name.names.items
    c.push.new.self.items
    c.in-Some.ensures.steps c.loop-name.invariant (c.in_ok-push.ensures.items ∙ ap (λ (n : List ℕ). c.loop-name.names.items ++ n ∷ []) c.of.ensures)
