use Rattle.std.proofs.Common.{◌≡◌, refl, rules}
use Rattle.std.specs.Ordering.{nat_cmp}
use Rattle.std.proofs.lemmas.Iterator.{YieldsList-from_slice, YieldsList-from_map}
use Rattle.std.proofs.lemmas.Iterator.Search.{cmp_from_yields_List}
use Rattle.typed_settings.specs.Order.{rank}
use Rattle.typed_settings.proofs.pattern.Pattern.shape_cmp.Goals as goal

pub returns : goal.returns
returns c =
    cmp_from_yields_List (λ x y. y ≡ x) _ nat_cmp _ c.cmp.ensures.ran
    (YieldsList-from_map _ rank (YieldsList-from_slice c.args.self.now cc) c.map-shape.ensures.closure (λ x r q k. search rules))
    (λ it e. YieldsList-from_map _ rank (YieldsList-from_slice c.args.other.now cc) (cc) (λ x r q k. search rules))
    (λ x y. refl)
