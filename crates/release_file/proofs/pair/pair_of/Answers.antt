use Rattle.std.proofs.Common.{[], ◌∷◌, ◌++◌, sym, ◌∙◌}
use Rattle.std.proofs.lemmas.Bool.{false≢true}
use Rattle.version_links.specs.Versions.{version_text}
use Rattle.release_file.proofs.Pairs.{has_comma, has_to, ends_so, in_order, pair_made}
use Rattle.release_file.proofs.pair.pair_of.Goals as goal

pub returns-in_err-past_comma : goal.returns-in_err-past_comma
returns-in_err-past_comma c = rw c.from_residual-in_err-past_comma.ensures
    (λ from to pair. c.in_err-past_comma.ensures (32 ∷ (version_text to ++ 41 ∷ []))
    (has_comma c.args.text.now from to pair c.in_ok-from.from c.in_ok-from.rest.now c.in_ok-from.ensures))

pub returns-in_err-to : goal.returns-in_err-to
returns-in_err-to c = rw c.from_residual-in_err-to.ensures (λ from to pair. c.in_err-to.ensures to (41 ∷ [])
    (has_to c.args.text.now from to pair c.in_ok-from.from c.in_ok-from.rest.now c.in_ok-from.ensures c.in_ok-past_comma.field-0.now
    c.in_ok-past_comma.ensures))

pub returns-then-closes : goal.returns-then-closes
returns-then-closes c =
    let both = c.closes.ensures.0 c.if-closes.true in
    pair_made c.args.text.now c.in_ok-from.rest.now c.in_ok-past_comma.field-0.now c.in_ok-to.rest.now c.in_ok-from.from c.in_ok-to.to c.in_ok-from.ensures
    c.in_ok-past_comma.ensures c.in_ok-to.ensures both.0 both.1

pub returns-else-closes : goal.returns-else-closes
returns-else-closes c = λ from to pair.
    let v = c.in_ok-from.from in
    let first = c.in_ok-from.rest.now in
    let one = c.in_ok-from.ensures in
    let second = c.in_ok-past_comma.field-0.now in
    let comma = c.in_ok-past_comma.ensures in
    let w = c.in_ok-to.to in
    let rest = c.in_ok-to.rest.now in
    let two = c.in_ok-to.ensures in
    false≢true (sym c.if-closes.false ∙ c.closes.ensures.1 (
      ends_so c.args.text.now from to pair v first one second comma w rest two,
      in_order c.args.text.now
          from to pair v first one second comma w rest two,
    ))
