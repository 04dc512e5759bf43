use Rattle.std.proofs.Common.{List, ℕ, [], fold, ap, ◌∙◌}
use Rattle.std.specs.FinMap.{empty, keys}
use Rattle.std.specs.List.{flat_map}
use Rattle.std.proofs.lemmas.Result.{IfOk-weaker}
use Rattle.metadata_links.specs.Nearest.{near}
use Rattle.metadata_links.specs.Rising.{Names, with_member}
use Rattle.metadata_links.proofs.Named.{set_grown}
use Rattle.metadata_links.proofs.index.Index.affected.Goals as goal

pub returns-clause-services : goal.returns-clause-services
returns-clause-services c = IfOk-weaker c.into_vec.result _ _ (λ names is. is ∙ ap keys (c.in_ok-put_nearest.ensures.named
    ∙ ap (λ (s : Names). fold with_member s (flat_map (near c.args.self.now) c.as_slice.result.now)) c.new-services.ensures
    ∙ ap (λ (ks : List (List (List ℕ))). fold with_member empty (flat_map (near c.args.self.now) ks)) c.as_slice.ensures.items
    ∙ set_grown [] (flat_map (near c.args.self.now) c.args.keys.now))) c.into_vec.ensures
