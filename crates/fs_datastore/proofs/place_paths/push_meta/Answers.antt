use Rattle.std.proofs.Common.{length-append, length-take, arith, ◌≡◌, ◌++◌, ◌∷◌, [], ◌-◌, ℕ}
use Rattle.std.proofs.Common.{List, length, take, slice_index_or, append_assoc, sym, ap, ◌∙◌, subst}
use Rattle.std.specs.Prelude.{IsTrue}
use Rattle.std.proofs.lemmas.List.{length-map}
use Rattle.std.proofs.lemmas.Result.{on_ok_weaker}
use Rattle.outside.specs.Names.{Names, is_name}
use Rattle.key_names.specs.Segment.{file_name}
use Rattle.fs_datastore.specs.Places.{names_of}
use Rattle.fs_datastore.proofs.FileNames.{dotted-is_name, key_length}
use Rattle.fs_datastore.proofs.PathNames.{short_at, meta_last}
use Rattle.fs_datastore.proofs.place_paths.push_meta.Goals as goal

pub of-requires : goal.of-requires
of-requires c =
    subst (λ (l : List ℕ). IsTrue (is_name l)) (sym c.in_ok-bytes.ensures)
    (dotted-is_name c.segment-2.result.now c.args.name.now c.segment-2.ensures.valid
    (short_at c.args.key.now (c.len-last.result - 1) c.segment-2.result.now c.len-last.ensures.valid
    (omega (arith, c.len-last.ensures.count, (key_length c.args.key.now c.len-last.ensures.valid).0)) c.segment-2.ensures.bytes) c.requires.bare)

pub push_name-requires : goal.push_name-requires
push_name-requires c =
    let key = key_length c.args.key.now c.len-last.ensures.valid in
    let stop : c.loop-index.index ≡ length c.args.key.now - 1 = omega (arith, c.loop-index-test.false, c.loop-index.auto.index-end, c.len-last.ensures.count) in
    let size = ap length c.loop-index.invariant ∙ length-append c.args.path.now (names_of (take c.loop-index.index c.args.key.now)) in
    let names = length-map (take c.loop-index.index c.args.key.now) file_name in
    let few = length-take c.loop-index.index c.args.key.now in
    omega (arith, size, names, few, stop, key.0, key.1, c.requires.room)

pub returns-clause-path : goal.returns-clause-path
returns-clause-path c =
    let key = c.args.key.now in
    let name = c.args.name.now in
    let some = (key_length key c.len-last.ensures.valid).0 in
    let last : c.loop-index.index ≡ length key - 1 = omega (arith, c.loop-index-test.false, c.loop-index.auto.index-end, c.len-last.ensures.count) in
    let at : c.segment-2.result.now ≡ slice_index_or key (length key - 1) [] = c.segment-2.ensures.bytes
    ∙ ap (λ (n : ℕ). slice_index_or key n []) (omega (arith, c.len-last.ensures.count)) in
    on_ok_weaker c.push_name.result
    (λ is. is ∙ ap (λ (p : Names). p ++ c.of.result ∷ []) c.loop-index.invariant
    ∙ ap (λ (l : List ℕ). (c.args.path.now ++ names_of (take c.loop-index.index key)) ++ l ∷ [])
    (c.of.ensures ∙ c.in_ok-bytes.ensures ∙ ap (λ (s : List ℕ). file_name s ++ 46 ∷ name) at)
    ∙ ap (λ (n : ℕ). (c.args.path.now ++ names_of (take n key)) ++ (file_name (slice_index_or key (length key - 1) []) ++ 46 ∷ name) ∷ []) last
    ∙ append_assoc c.args.path.now (names_of (take (length key - 1) key)) ((file_name (slice_index_or key (length key - 1) []) ++ 46 ∷ name) ∷ [])
    ∙ ap (λ (p : Names). c.args.path.now ++ p) (sym (meta_last key name some)))
    c.push_name.ensures.ok
