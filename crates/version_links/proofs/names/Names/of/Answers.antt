use Rattle.std.proofs.Common.{◌∙◌, arith}
use Rattle.version_links.proofs.Made.{named_major, named_minor, named_patch, named_last, are_names}
use Rattle.version_links.proofs.names.Names.of.Goals as goal

pub numbered_link-requires : goal.numbered_link-requires
numbered_link-requires c = named_major c.deref.result.now c.args.version.now.major (omega arith)
    (c.deref.ensures.value ∙ c.in_ok-current.ensures.text_is ∙ c.in_ok-first.ensures)

pub numbered_link-requires-2 : goal.numbered_link-requires-2
numbered_link-requires-2 c = named_minor c.args.version.now.major c.args.version.now.minor 0 0 (omega arith) (omega arith) c.deref.result.now
    c.deref-2.result.now (c.deref.ensures.value ∙ c.in_ok-current.ensures.text_is ∙ c.in_ok-first.ensures)
    (c.deref-2.ensures.value ∙ c.in_ok-major.ensures.text_is)

pub numbered_link-requires-3 : goal.numbered_link-requires-3
numbered_link-requires-3 c =
    named_patch c.args.version.now.major c.args.version.now.minor c.args.version.now.patch 0 (omega arith) (omega arith) c.deref.result.now c.deref-2.result.now
    (c.deref.ensures.value ∙ c.in_ok-current.ensures.text_is ∙ c.in_ok-first.ensures) (c.deref-2.ensures.value ∙ c.in_ok-major.ensures.text_is)
    (omega arith) c.deref-3.result.now (c.deref-3.ensures.value ∙ c.in_ok-minor.ensures.text_is)

pub store_path-requires : goal.store_path-requires
store_path-requires c =
    named_last c.args.version.now.major c.args.version.now.minor c.args.version.now.patch c.args.id (omega arith) (omega arith) c.deref.result.now
    c.deref-2.result.now (c.deref.ensures.value ∙ c.in_ok-current.ensures.text_is ∙ c.in_ok-first.ensures)
    (c.deref-2.ensures.value ∙ c.in_ok-major.ensures.text_is)
    (omega arith) c.deref-3.result.now (c.deref-3.ensures.value ∙ c.in_ok-minor.ensures.text_is) (omega arith) c.deref-4.result.now
    (c.deref-4.ensures.value ∙ c.in_ok-patch.ensures.text_is)

pub invariant_of-result : goal.invariant_of-result
invariant_of-result c =
    are_names c.args.version.now.major c.args.version.now.minor c.args.version.now.patch c.args.id (omega arith) (omega arith) c.deref.result.now
    c.deref-2.result.now (c.deref.ensures.value ∙ c.in_ok-current.ensures.text_is ∙ c.in_ok-first.ensures)
    (c.deref-2.ensures.value ∙ c.in_ok-major.ensures.text_is)
    (omega arith) c.deref-3.result.now (c.deref-3.ensures.value ∙ c.in_ok-minor.ensures.text_is) (omega arith) c.deref-4.result.now
    (c.deref-4.ensures.value ∙ c.in_ok-patch.ensures.text_is)
    _ c.in_ok-first.ensures _ _ _ _ _ c.in_ok-store_path.ensures c.in_ok-patch.ensures c.in_ok-minor.ensures c.in_ok-major.ensures c.in_ok-current.ensures
