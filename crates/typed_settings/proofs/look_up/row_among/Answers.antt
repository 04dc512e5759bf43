use Rattle.std.proofs.Common.{◌≡◌, Equal, true≢false, sym, ◌∙◌, rules}
use Rattle.std.specs.List.Sorted.{IsBinarySearchResult}
use Rattle.std.proofs.lemmas.Fn.{always_returns_same}
use Rattle.typed_settings.specs.Order.{order_to}
use Rattle.typed_settings.specs.declared.row.Row.{Row}
use Rattle.typed_settings.proofs.Searches.{not_found, other_found}
use Rattle.typed_settings.proofs.look_up.row_among.Goals as goal

pub returns-in_default-clause-none : goal.returns-in_default-clause-none
returns-in_default-clause-none c =
    let searched : IsBinarySearchResult (λ (row : Row). order_to row.pattern c.args.key.now) c.args.rows.now c.binary_search_by.result =
    c.binary_search_by.ensures.position (λ (row : Row). order_to row.pattern c.args.key.now) (always_returns_same _ _ _ (λ a r q k. search rules)) in
    λ _. not_found c.args.rows.now c.args.key.now c.in_default.field-0 c.requires.alike c.requires.ordered (rw c.in_default.is at searched)

pub returns-then-not-matches-clause-none : goal.returns-then-not-matches-clause-none
returns-then-not-matches-clause-none c =
    let searched : IsBinarySearchResult (λ (row : Row). order_to row.pattern c.args.key.now) c.args.rows.now c.binary_search_by.result =
    c.binary_search_by.ensures.position (λ (row : Row). order_to row.pattern c.args.key.now) (always_returns_same _ _ _ (λ a r q k. search rules)) in
    let equal : order_to c.index-rows-i.result.pattern c.args.key.now ≡ Equal =
    rw (← c.index-rows-i.is) at ((rw c.in-Ok.is at searched) c.index-rows-i.result) in
    λ _. other_found c.args.rows.now c.args.key.now c.in-Ok.i c.index-rows-i.result c.requires.alike (search rules) c.index-rows-i.is equal
    (λ m. true≢false (sym (c.matches.ensures.1 m) ∙ c.if-not-matches.true))
