use Rattle.std.proofs.Common.{◌∙◌, sym}
use Rattle.key_names.specs.Key.{is_prefix}
use Rattle.key_names.specs.Packed.{leads}
use Rattle.key_names.proofs.PackedPrefixes.{prefix}
use Rattle.key_names.proofs.key.Key.is_prefix.Goals as goal

pub returns : goal.returns
returns c =
    c.leads.ensures
    ∙ (λ i. leads (c.as_bytes.ensures.value i) (c.as_bytes-2.ensures.value i))
    ∙ sym (prefix c.packed.result.now c.packed-2.result.now)
    ∙ (λ i. is_prefix (c.packed.ensures.parts i) (c.packed-2.ensures.parts i))
