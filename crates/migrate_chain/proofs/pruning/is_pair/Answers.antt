use Rattle.std.proofs.Common.{◌≡◌, ℕ, List, [], ◌∷◌, sym, ap, ◌∙◌, arith}
use Rattle.std.proofs.lemmas.Bool.{false≢true}
use Rattle.migrate_chain.proofs.Pruned.{two_are}
use Rattle.migrate_chain.proofs.pruning.is_pair.Goals as goal

firsts : (a b x y : List ℕ) → a ∷ b ∷ [] ≡ x ∷ y ∷ [] → a ≡ x
firsts a b x y e = cc

seconds : (a b x y : List ℕ) → a ∷ b ∷ [] ≡ x ∷ y ∷ [] → b ≡ y
seconds a b x y e = cc

pub returns-then-eq : goal.returns-then-eq
returns-then-eq c =
    let first = c.first-item.result in
    let second = c.second-item.result in
    let whole = two_are c.args.path.now c.names.result.now first second c.names.ensures (omega (arith, c.in-len2.len_at_least))
    (omega (arith, c.in-len2.len_below)) c.first-item.is c.second-item.is in (
      λ told. whole ∙ ap (λ (l : List ℕ). l ∷ second ∷ []) (c.eq.ensures.exact.0 c.if-eq.true)
          ∙ ap (λ (l : List ℕ). c.args.folder.now ∷ l ∷ []) (c.eq-then-eq.ensures.exact.0 told),
      λ is. c.eq-then-eq.ensures.exact.1 (seconds first second c.args.folder.now c.args.name.now (sym whole ∙ is)),
    )

pub returns-else-eq : goal.returns-else-eq
returns-else-eq c =
    let first = c.first-item.result in
    let second = c.second-item.result in
    let whole = two_are c.args.path.now c.names.result.now first second c.names.ensures (omega (arith, c.in-len2.len_at_least))
    (omega (arith, c.in-len2.len_below)) c.first-item.is c.second-item.is in (
      λ told. absurd (false≢true (sym c.if-eq.false ∙ told)),
      λ is. c.eq.ensures.exact.1
          (firsts first second c.args.folder.now c.args.name.now (sym whole ∙ is)),
    )
