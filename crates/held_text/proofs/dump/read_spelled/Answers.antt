use Rattle.std.proofs.Common.{◌≡◌, ◌∙◌, Some, option_map, sym, ap}
use Rattle.serde_json.specs.View.{view}
use Rattle.json_trees.specs.Json.{data_of}
use Rattle.held_text.specs.HeldText.{held_data}
use Rattle.held_text.specs.Dump.{version_data, dump_data}
use Rattle.held_text.proofs.DumpReadings.{parts_told, dump_told, no_version}
use Rattle.held_text.proofs.Readings.{some_same}
use Rattle.held_text.proofs.dump.read_spelled.Goals as goal

pub returns-in_err-held-clause-exact : goal.returns-in_err-held-clause-exact
returns-in_err-held-clause-exact c =
    let read : data_of c.args.text.now ≡ Some (view c.in-Some.dump) = sym c.in_ok-dump.ensures ∙ ap (option_map view) c.in-Some.is in
    λ v h spells. absurd (c.in_err-held.ensures.err.1 (held_data h) (Some (version_data v))
    (some_same (view c.in-Some.dump) (dump_data v h) (sym read ∙ spells.value_is)))

pub returns-in_err-version-clause-err : goal.returns-in_err-version-clause-err
returns-in_err-version-clause-err c =
    let read : data_of c.args.text.now ≡ Some (view c.in-Some.dump) = sym c.in_ok-dump.ensures ∙ ap (option_map view) c.in-Some.is in
    let parts = parts_told c.args.text.now (view c.in-Some.dump) (view c.in_ok-held.held) (option_map view c.in_ok-held.version) c.in_ok-held-2.held
    read c.in_ok-held.ensures.ok c.in_ok-held-2.ensures.ok c.in_ok-held-2.ensures.valid in
    no_version c.args.text.now c.in_ok-held-2.held (option_map view c.in_ok-held.version) c.in_err-version.field-0.0 c.from_residual-in_err-version.result parts
    c.in_err-version.ensures.err c.from_residual-in_err-version.ensures.1

pub returns-clause-ok : goal.returns-clause-ok
returns-clause-ok c =
    let read : data_of c.args.text.now ≡ Some (view c.in-Some.dump) = sym c.in_ok-dump.ensures ∙ ap (option_map view) c.in-Some.is in
    let parts = parts_told c.args.text.now (view c.in-Some.dump) (view c.in_ok-held.held) (option_map view c.in_ok-held.version) c.in_ok-held-2.held
    read c.in_ok-held.ensures.ok c.in_ok-held-2.ensures.ok c.in_ok-held-2.ensures.valid in
    dump_told c.args.text.now (option_map view c.in_ok-held.version) c.in_ok-version.version c.in_ok-held-2.held parts c.in_ok-version.ensures.ok
    c.in_ok-version.ensures.fits
