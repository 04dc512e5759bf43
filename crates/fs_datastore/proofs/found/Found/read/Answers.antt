use Rattle.std.proofs.Common.{rules, ◌≡◌, refl, sym, ◌∙◌}
use Rattle.std.proofs.lemmas.Bool.{false≢true}
use Rattle.fs_datastore.specs.FoundFiles.{IsPlaceOf}
use Rattle.fs_datastore.specs.Places.{format_path}
use Rattle.fs_datastore.specs.declared.place.FilePlace.{FilePlace}
use Rattle.fs_datastore.proofs.PlaceFiles.{reads_format, reads_place, no_place_fits}
use Rattle.fs_datastore.proofs.found.Found.read.Goals as goal

pub returns-then-is_format : goal.returns-then-is_format
returns-then-is_format c = reads_format c.args.names.now c.args.bytes.items c.deref.result.now c.args.self.now c.read_format.new.self c.read_format.result
    (c.is_format.ensures.0 c.if-is_format.true) c.deref.ensures.value c.read_format.ensures

pub returns-in-Some : goal.returns-in-Some
returns-in-Some c =
    let of : IsPlaceOf c.args.names.now c.in-Some.place = search rules in
    let other : c.args.names.now ≡ format_path → ⊥ = λ is. false≢true (sym c.if-is_format.false ∙ c.is_format.ensures.1 is) in
    reads_place c.args.names.now c.in-Some.place c.args.bytes.items c.args.bytes.items c.args.self.now c.read_at.new.self c.read_at.result other of refl
    c.read_at.ensures

pub returns-in-None : goal.returns-in-None
returns-in-None c =
    let none : (p : FilePlace) → IsPlaceOf c.args.names.now p → ⊥ = search rules in
    let other : c.args.names.now ≡ format_path → ⊥ = λ is. false≢true (sym c.if-is_format.false ∙ c.is_format.ensures.1 is) in
    no_place_fits c.args.names.now c.args.bytes.items c.args.self.now c.args.self.now other none
