use Rattle.std.proofs.Common.{◌≡◌, ◌≢◌, true, length, take}
use Rattle.std.specs.List.{AllPairs, list_all}
use Rattle.typed_settings.specs.Word.{is_identifier}
use Rattle.typed_settings.proofs.WordParts.{pieces}
use Rattle.typed_settings.proofs.word_texts.push_names.Given as goal

abbrev pub invariant-loop-name : goal.invariant-loop-name
invariant-loop-name l = record {
  same : l.names ≡ take (length l.yielded) (pieces l.text);
  valid : list_all is_identifier l.names ≡ true;
  different : AllPairs (λ name other. name ≢ other) l.names;
}
