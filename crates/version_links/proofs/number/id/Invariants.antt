use Rattle.std.proofs.Common.{◌≡◌, ◌<◌, ◌^◌, take}
use Rattle.version_links.specs.Names.{hex}
use Rattle.version_links.proofs.number.id.Given as goal

-- the digits so far are those of the number
abbrev pub invariant-loop-glyph : goal.invariant-loop-glyph
invariant-loop-glyph l = (l.id < 16 ^ l.glyph-index) × (hex l.glyph-index l.id ≡ take l.glyph-index l.digits)
