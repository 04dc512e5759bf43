use Rattle.std.proofs.Common.{◌≡◌, ◌++◌, drop, map}
use Rattle.std.specs.List.{flat_map}
use Rattle.serde_json.specs.View.{view}
use Rattle.host_client.specs.Members.{text_of}
use Rattle.host_client.specs.Lines.{spaced}
use Rattle.host_client.proofs.lines.push_texts.Given as goal

-- the texts that are left are to be added to the line so far
abbrev pub invariant-loop-text : goal.invariant-loop-text
invariant-loop-text l =
    l.lines.items ++ flat_map (λ text. spaced (text_of text)) (map view (drop l.text-index l.texts))
    ≡ l.initial.lines.items ++ flat_map (λ text. spaced (text_of text)) (map view l.texts)
