use Rattle.std.proofs.Common.{◌≡◌, ◌++◌, length}
use denote.Shadow.{shadow}
use denote.Text.{Utf8}
use Rattle.std.specs.Prelude.{string_bytes}
use Rattle.key_names.specs.Key.{printed}
use Rattle.key_names.specs.Packed.{parts}
use Rattle.key_names.proofs.printing.each_printed.Given as goal

-- the text so far, with what is left to be printed
abbrev pub invariant-loop-front : goal.invariant-loop-front
invariant-loop-front l = record {
  whole : string_bytes l.out ++ printed (parts l.rest) ≡ printed (parts l.text);
  text : shadow (Utf8 l.rest);
}

abbrev pub decreases-loop-front : goal.decreases-loop-front
decreases-loop-front l = length l.rest
