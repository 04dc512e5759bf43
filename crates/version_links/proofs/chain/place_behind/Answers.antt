use Rattle.std.proofs.Common.{refl, ◌∙◌, arith}
use Rattle.std.proofs.lemmas.Result.{err_from_is_err_and}
use Rattle.outside.proofs.Results.{handed_err}
use Rattle.version_links.proofs.Made.{named_major, named_minor, named_patch, named_last}
use Rattle.version_links.proofs.Resolved.{bad_first, bad_second, bad_third, found_all, seen_as}
use Rattle.version_links.proofs.chain.place_behind.Goals as goal

pub follow-requires : goal.follow-requires
follow-requires g c = named_major c.args.text.now c.args.major (omega arith) c.requires.text

pub returns-in_err-text-clause-bad_link : goal.returns-in_err-text-clause-bad_link
returns-in_err-text-clause-bad_link g c path is =
    let p = err_from_is_err_and c.from_residual.result c.from_residual.ensures.1 in
    let q = c.in_err-text.ensures.bad_link path (handed_err c.from_residual.result p.0 c.in_err-text.field-0.0 _ p.1 p.2 is) in
    bad_first _ c.args.text.now c.args.major (omega arith) c.requires.text c.requires.link _ refl path q.0 q.1

pub follow-requires-2 : goal.follow-requires-2
follow-requires-2 g c = named_minor c.args.major c.in_ok-text.minor 0 0 (omega arith) c.in_ok-text.ensures.fits c.args.text.now c.deref.result.now
    c.requires.text (c.deref.ensures.value ∙ c.in_ok-text.ensures.text)

pub returns-in_err-text-2-clause-bad_link : goal.returns-in_err-text-2-clause-bad_link
returns-in_err-text-2-clause-bad_link g c path is =
    let p = err_from_is_err_and c.from_residual-in_err-text-2.result c.from_residual-in_err-text-2.ensures.1 in
    let q = c.in_err-text-2.ensures.bad_link path (handed_err c.from_residual-in_err-text-2.result p.0 c.in_err-text-2.field-0.0 _ p.1 p.2 is) in
    bad_second _ c.args.text.now c.args.major (omega arith) c.requires.text c.requires.link _ refl c.deref.result.now c.in_ok-text.minor
    c.in_ok-text.ensures.fits (c.deref.ensures.value ∙ c.in_ok-text.ensures.text)
    (seen_as _ c.args.text.now _ c.deref.result.now c.deref.ensures.value c.in_ok-text.ensures.link)
    _ c.in_ok-text.ensures.same path q.0 q.1

pub follow-requires-3 : goal.follow-requires-3
follow-requires-3 g c =
    named_patch c.args.major c.in_ok-text.minor c.in_ok-text-2.patch 0 (omega arith) c.in_ok-text.ensures.fits c.args.text.now c.deref.result.now
    c.requires.text (c.deref.ensures.value ∙ c.in_ok-text.ensures.text)
    c.in_ok-text-2.ensures.fits c.deref-2.result.now (c.deref-2.ensures.value ∙ c.in_ok-text-2.ensures.text)

pub returns-in_err-text-3-clause-bad_link : goal.returns-in_err-text-3-clause-bad_link
returns-in_err-text-3-clause-bad_link g c path is =
    let p = err_from_is_err_and c.from_residual-in_err-text-3.result c.from_residual-in_err-text-3.ensures.1 in
    let q = c.in_err-text-3.ensures.bad_link path (handed_err c.from_residual-in_err-text-3.result p.0 c.in_err-text-3.field-0.0 _ p.1 p.2 is) in
    bad_third _ c.args.text.now c.args.major (omega arith) c.requires.text c.requires.link _ refl c.deref.result.now c.in_ok-text.minor
    c.in_ok-text.ensures.fits (c.deref.ensures.value ∙ c.in_ok-text.ensures.text)
    (seen_as _ c.args.text.now _ c.deref.result.now c.deref.ensures.value c.in_ok-text.ensures.link)
    _ c.in_ok-text.ensures.same c.deref-2.result.now c.in_ok-text-2.patch c.in_ok-text-2.ensures.fits (c.deref-2.ensures.value ∙ c.in_ok-text-2.ensures.text)
    (seen_as _ c.deref.result.now _ c.deref-2.result.now c.deref-2.ensures.value c.in_ok-text-2.ensures.link)
    _ c.in_ok-text-2.ensures.same path q.0 q.1

pub store_path-requires : goal.store_path-requires
store_path-requires g c =
    named_last c.args.major c.in_ok-text.minor c.in_ok-text-2.patch c.in_ok-text-3.field-0-1 (omega arith) c.in_ok-text.ensures.fits c.args.text.now
    c.deref.result.now c.requires.text (c.deref.ensures.value ∙ c.in_ok-text.ensures.text)
    c.in_ok-text-2.ensures.fits c.deref-2.result.now (c.deref-2.ensures.value ∙ c.in_ok-text-2.ensures.text) c.in_ok-text-3.ensures.fits c.deref-3.result.now
    (c.deref-3.ensures.value ∙ c.in_ok-text-3.ensures.text)

pub returns-clause-ok : goal.returns-clause-ok
returns-clause-ok g c =
    found_all _ c.args.text.now c.args.major (omega arith) c.requires.text c.requires.link _ refl c.deref.result.now c.in_ok-text.minor
    c.in_ok-text.ensures.fits (c.deref.ensures.value ∙ c.in_ok-text.ensures.text)
    (seen_as _ c.args.text.now _ c.deref.result.now c.deref.ensures.value c.in_ok-text.ensures.link)
    _ c.in_ok-text.ensures.same c.deref-2.result.now c.in_ok-text-2.patch c.in_ok-text-2.ensures.fits (c.deref-2.ensures.value ∙ c.in_ok-text-2.ensures.text)
    (seen_as _ c.deref.result.now _ c.deref-2.result.now c.deref-2.ensures.value c.in_ok-text-2.ensures.link)
    _ c.in_ok-text-2.ensures.same c.deref-3.result.now c.in_ok-text-3.field-0-1 c.in_ok-text-3.ensures.fits
    (c.deref-3.ensures.value ∙ c.in_ok-text-3.ensures.text)
    (seen_as _ c.deref-2.result.now _ c.deref-3.result.now c.deref-3.ensures.value c.in_ok-text-3.ensures.link) _ c.in_ok-store_path.ensures
