use Rattle.std.proofs.Common.{◌≡◌, ℕ, ◌+◌, ◌<◌, List, [], ◌∷◌, ◌++◌, length, get_or, take, sym, ap, ◌∙◌, append_assoc, append-nil, rules}
use Rattle.std.specs.List.{flat_map}
use Rattle.std.proofs.lemmas.List.{take_more}
use Rattle.std.proofs.lemmas.List.Concat.{flat_map-append}
use Rattle.template_eval.specs.Written.{item_text}
use Rattle.template_eval.proofs.joins.push_items.Goals as goal

-- What is made of one element more.
made_more : {A B : Type 0} (f : A → List B) (xs : List A) (i : ℕ) (x : A) (start old new : List B) → i < length xs → x ≡ get_or xs i x
    → old ≡ start ++ flat_map f (take i xs) → new ≡ old ++ f x → new ≡ start ++ flat_map f (take (i + 1) xs)
made_more f xs i x start old new low is so_far grown =
    grown ∙ ap (λ l. l ++ f x) so_far ∙ append_assoc start (flat_map f (take i xs)) (f x)
    ∙ ap (λ l. start ++ l) (ap (λ l. flat_map f (take i xs) ++ l) (ap f is ∙ sym (append-nil (f (get_or xs i x))))
    ∙ sym (ap (flat_map f) (take_more xs i x low) ∙ flat_map-append f (take i xs) (get_or xs i x ∷ [])))

pub loop-item-preserved : goal.loop-item-preserved
loop-item-preserved c =
    let x = c.item-item.result in
    let extended : c.extend_from_slice.new.self.items ≡ c.loop-item.out.items ++ c.args.joiner.now = search rules in
    made_more (λ i. c.args.joiner.now ++ item_text i) c.in-Some.rest.now c.loop-item.item-index x c.push_item.new.out.items c.loop-item.out.items
    c.push_item-in-loop-item.new.out.items c.loop-item-test.true c.item-item.is c.loop-item.invariant
    (c.in_ok-push_item-2.ensures ∙ ap (λ l. l ++ item_text x) extended ∙ append_assoc c.loop-item.out.items c.args.joiner.now (item_text x))
