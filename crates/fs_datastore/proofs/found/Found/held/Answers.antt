use Rattle.std.proofs.Common.{rules, ◌≡◌, Some, None, sym, ap, ◌∙◌}
use Rattle.std.proofs.lemmas.Bool.{false≢true}
use Rattle.settings_tree.specs.declared.held.Held.{Held}
use Rattle.settings_tree.specs.Content.{Contents}
use Rattle.fs_datastore.proofs.FoundHeld.{held_found, owed_missing, image_missing, weak_missing}
use Rattle.fs_datastore.proofs.found.Found.held.Goals as goal

pub returns-in_default-clause-absent : goal.returns-in_default-clause-absent
returns-in_default-clause-absent c =
    let none : c.args.self.owed ≡ None = search rules in
    λ files says. owed_missing c.args.self files says none

pub returns-in_default-image-clause-absent : goal.returns-in_default-image-clause-absent
returns-in_default-image-clause-absent c =
    let o : c.args.self.owed ≡ Some c.in-Some.owed = search rules in
    let none : c.args.self.image ≡ None = search rules in
    λ files says. image_missing c.args.self files says c.in-Some.owed o none

pub returns-then-lacks_weak-clause-absent : goal.returns-then-lacks_weak-clause-absent
returns-then-lacks_weak-clause-absent c =
    let o : c.args.self.owed ≡ Some c.in-Some.owed = search rules in
    let t : c.args.self.image ≡ Some c.in-Some-image.image = search rules in
    let lacks = c.lacks_weak.ensures.0 c.if-lacks_weak.true in
    λ files says. weak_missing c.args.self files says c.in-Some.owed c.in-Some-image.image o t lacks.0 lacks.1

pub returns-clause-ok : goal.returns-clause-ok
returns-clause-ok c =
    let f = c.args.self in
    let o : f.owed ≡ Some c.in-Some.owed = search rules in
    let t : f.image ≡ Some c.in-Some-image.image = search rules in
    let h : Held = record { live = c.content.result; pending = c.of.result; owed = c.in-Some.owed; image = c.in-Some-image.image } in
    λ files says.
    held_found f files h says (sym (ap (λ (x : Contents). x.values) c.content.ensures)) (sym (ap (λ (x : Contents). x.metadata) c.content.ensures))
    (ap (λ (x : Contents). x.weak) c.content.ensures) (sym c.of.ensures) o t
    (λ told none. false≢true (sym c.if-lacks_weak.false ∙ c.lacks_weak.ensures.1 (told, none)))
    c.format_of.result c.format_of.ensures
