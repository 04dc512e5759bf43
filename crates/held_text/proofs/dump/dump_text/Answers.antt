use Rattle.std.proofs.Common.{rules, ◌≡◌, ◌++◌, ap, ◌∙◌, subst, IsUtf8}
use Rattle.json.specs.Print.{print}
use Rattle.serde_json.proofs.Texts.{print-outline}
use Rattle.json_trees.specs.Written.{data_tokens}
use Rattle.version_links.specs.Versions.{Fits}
use Rattle.held_text.specs.Dump.{dump_data, dump_text}
use Rattle.held_text.proofs.DumpBack.{held_utf8, dump_spelled}
use Rattle.held_text.proofs.dump.dump_text.Goals as goal

pub returns-clause-text : goal.returns-clause-text
returns-clause-text c =
    let d = dump_data c.args.version c.args.held.now in
    c.text_of.ensures.text ∙ ap print (c.in_ok-write_dump.ensures.wrote.tokens ∙ ap (λ ts. ts ++ data_tokens d) c.new-writer.ensures.tokens) ∙ print-outline d

pub returns-clause-spells : goal.returns-clause-spells
returns-clause-spells c =
    let v = c.args.version in
    let h = c.args.held.now in
    let d = dump_data v h in
    let fits : Fits v = record { major = search rules; minor = search rules; patch = search rules } in
    let prints : c.text_of.result ≡ dump_text v h = returns-clause-text c in
    dump_spelled v h c.text_of.result fits (c.in_ok-write_dump.ensures.valid (held_utf8 v h (subst IsUtf8 prints c.text_of.ensures.utf8)))
    c.text_of.ensures.utf8
    (c.text_of.ensures.reads_back ∙ c.in_ok-write_dump.ensures.wrote.tokens ∙ ap (λ ts. ts ++ data_tokens d) c.new-writer.ensures.tokens)
