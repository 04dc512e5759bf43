-- Entries of a map, in their order.
use Rattle.std.proofs.Common.{◌≡◌, List, [], ◌∷◌, Some, None, true, false, cond, refl, ◌∙◌, ap}
use Rattle.std.specs.declared.cmp.Ordering.{Ordering}
use Rattle.std.specs.declared.cmp.Ordering.TheVariants.{Less, Equal, Greater}
use Rattle.std.specs.Ordering.{is_eq, is_lt}
use Rattle.std.specs.FinMap.{find}
use Rattle.std.specs.FinMap.Entries.{below_all}
use Rattle.std.proofs.lemmas.Bool.{and_parts}

pub less : (r : Ordering) → is_lt r ≡ true → is_eq r ≡ false
less Less lt = refl
less Equal lt = absurd (cc lt)
less Greater lt = absurd (cc lt)

-- what is after a key in order is another key
pub behind : {K X : Type 0} (R : K → K → Ordering) (k : K) (es : List (K × X)) → below_all R k es ≡ true → find R k es ≡ None
behind R k [] below = refl
behind R k (e ∷ es) below = let both = and_parts (is_lt (R k e.0)) (below_all R k es) below in
    ap (λ b. cond b (Some e.1) (find R k es)) (less (R k e.0) both.0) ∙ behind R k es both.1
