use Rattle.std.proofs.Common.{◌≡◌, ◌++◌, length, map, string_bytes}
use denote.Shadow.{shadow}
use denote.Text.{Utf8}
use Rattle.metadata_links.specs.Words.{words_in}
use Rattle.metadata_links.proofs.command.words_in.Given as goal

abbrev pub invariant-loop-front : goal.invariant-loop-front
invariant-loop-front l = record {
  words : map (λ w. string_bytes w) l.words.items ++ words_in l.rest ≡ words_in l.fn.text;
  text : shadow (Utf8 l.rest);
}

abbrev pub decreases-loop-front : goal.decreases-loop-front
decreases-loop-front l = length l.rest
