use Rattle.std.proofs.Common.{◌≡◌, ◌∷◌, [], ◌++◌, Ok, drop, ap, sym, ◌∙◌, subst, rules}
use Rattle.key_names.specs.Joined.{Joins}
use Rattle.key_names.proofs.Segments.{empty_list}
use Rattle.typed_settings.specs.Pattern.{IsPlaceText, Remains}
use Rattle.typed_settings.proofs.PlaceTexts.{refused_head, refused_behind, joined_last, remains_more}
use Rattle.typed_settings.proofs.place_texts.places_of.Goals as goal

pub returns-in-None-clause-none : goal.returns-in-None-clause-none
returns-in-None-clause-none c =
    λ _. refused_head c.loop-places.invariant c.head_len.ensures (λ place is. c.place_of.ensures.none (c.in_ok-place.was ∙ ap Ok c.in-None.is) place
    (subst (λ t. IsPlaceText t place) (sym c.split_at.ensures.front) is))

pub returns-in-None-split_first-clause-some : goal.returns-in-None-split_first-clause-some
returns-in-None-split_first-clause-some c =
    let head : IsPlaceText c.split_at.result.0.now c.in-Some.place = search rules in
    let grown : c.push.new.self.items ≡ c.loop-places.places.items ++ c.in-Some.place ∷ [] = search rules in
    let nothing : drop c.head_len.result c.loop-places.rest.now ≡ [] = sym c.split_at.ensures.back ∙ empty_list _ c.in-None-split_first.ensures.cases in
    let joined = joined_last c.loop-places.invariant c.head_len.ensures c.in-Some.place
    (subst (λ t. IsPlaceText t c.in-Some.place) c.split_at.ensures.front head) nothing in
    subst (λ ps. Joins IsPlaceText 46 c.args.text.now ps) (sym grown) joined

pub loop-places-preserved : goal.loop-places-preserved
loop-places-preserved c =
    let head : IsPlaceText c.split_at.result.0.now c.in-Some.place = search rules in
    let grown : c.push.new.self.items ≡ c.loop-places.places.items ++ c.in-Some.place ∷ [] = search rules in
    let more = c.in-Some-split_first.more.now in
    let behind : drop c.head_len.result c.loop-places.rest.now ≡ 46 ∷ more = sym c.split_at.ensures.back ∙ c.in-Some-split_first.ensures.cases.0
    ∙ ap (λ b. b ∷ more) c.if-dot-eq46.true in
    subst (λ ps. Remains c.args.text.now ps more) (sym grown)
    (remains_more c.loop-places.invariant c.head_len.ensures c.in-Some.place more (subst (λ t. IsPlaceText t c.in-Some.place) c.split_at.ensures.front head)
    behind)

pub returns-in-Some-2-clause-none : goal.returns-in-Some-2-clause-none
returns-in-Some-2-clause-none c =
    λ _. refused_behind c.loop-places.invariant c.head_len.ensures c.in-Some-split_first.dot.now c.in-Some-split_first.more.now
    (sym c.split_at.ensures.back ∙ c.in-Some-split_first.ensures.cases.0) c.if-dot-eq46.false
