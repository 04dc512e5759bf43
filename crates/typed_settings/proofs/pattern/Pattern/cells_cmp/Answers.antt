use Rattle.std.proofs.Common.{◌≡◌, ℕ, List, Bor, refl, rules}
use Rattle.std.proofs.lemmas.Iterator.{YieldsList-from_slice, YieldsList-from_map_by}
use Rattle.std.proofs.lemmas.Iterator.Search.{cmp_from_yields_List}
use Rattle.key_names.specs.Order.{bytes_cmp}
use Rattle.typed_settings.specs.Order.{cell}
use Rattle.typed_settings.proofs.pattern.Pattern.cells_cmp.Goals as goal

pub returns : goal.returns
returns c =
    cmp_from_yields_List (λ x y. y ≡ x) _ bytes_cmp _ c.cmp.ensures.ran
    (YieldsList-from_map_by _ (λ (b : Bor (List ℕ)). b.now) cell (YieldsList-from_slice c.args.self.now cc) c.map-cells.ensures.closure
    (λ x r q k. search rules))
    (λ it e. YieldsList-from_map_by _ (λ (b : Bor (List ℕ)). b.now) cell (YieldsList-from_slice c.args.other.now cc) (cc) (λ x r q k. search rules))
    (λ x y. refl)
