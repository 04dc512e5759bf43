use Rattle.std.proofs.Common.{rules, ◌≡◌, Ok, Err, map, [], ◌∷◌, ◌++◌, ◌∙◌, sym, ap}
use Rattle.std.proofs.lemmas.List.{map-append}
use Rattle.std.specs.Vec.Iter.{into_iter_items}
use Rattle.serde_json.specs.View.{view}
use Rattle.json_trees.specs.Collected.{collected}
use Rattle.json_trees.specs.Scalar.{item_of}
use Rattle.json_trees.proofs.Collecting.{collected-push, collected-refused}
use Rattle.json_trees.proofs.Taken.{taken_one}
use Rattle.json_trees.proofs.reading.items_of.Goals as goal

pub loop-value-preserved : goal.loop-value-preserved
loop-value-preserved c =
    let l = c.loop-value in
    let next : into_iter_items l.value-iterator ≡ c.in-Some.value ∷ into_iter_items c.next.new.self = search rules in
    let grown : c.push.new.self.items ≡ l.items.items ++ c.in_ok-item_of.field-0 ∷ [] = search rules in (
      tt,
      tt,
      taken_one _ l.yielded c.in-Some.value _ _ l.invariant.2 next,
      ap (collected item_of) (map-append view l.yielded (c.in-Some.value ∷ []))
          ∙ collected-push item_of (map view l.yielded) (view c.in-Some.value) _ _ l.invariant.3 c.in_ok-item_of.ensures.ok ∙ ap Ok (sym grown),
    )

pub returns-in_err-item_of-clause-err : goal.returns-in_err-item_of-clause-err
returns-in_err-item_of-clause-err c =
    let l = c.loop-value in
    let next : into_iter_items l.value-iterator ≡ c.in-Some.value ∷ into_iter_items c.next.new.self = search rules in
    let refused : collected item_of (map view c.args.values.items) ≡ Err c.in_err-item_of.field-0.0 =
    ap (λ vs. collected item_of (map view vs)) (l.invariant.2 ∙ ap (λ vs. l.yielded ++ vs) next)
    ∙ ap (collected item_of) (map-append view l.yielded (c.in-Some.value ∷ into_iter_items c.next.new.self))
    ∙ collected-refused item_of (map view l.yielded) (view c.in-Some.value) _ _ _ l.invariant.3 c.in_err-item_of.ensures.err in
    search (rules, refused)
