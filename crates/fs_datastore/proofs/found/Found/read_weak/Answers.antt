use Rattle.std.proofs.Common.{rules, ◌≡◌, ℕ, List, true, false, subst}
use Rattle.std.specs.Prelude.{All}
use Rattle.settings_tree.specs.Content.{MayBeWeak}
use Rattle.fs_datastore.specs.Values.{Spells, weak}
use Rattle.fs_datastore.proofs.Readings.{weak_rules, weak_read}
use Rattle.fs_datastore.proofs.Refusals.{not_weak_where}
use Rattle.fs_datastore.proofs.found.Found.read_weak.Goals as goal

pub returns-then-not-may_be_weak : goal.returns-then-not-may_be_weak
returns-then-not-may_be_weak c =
    let reads : Spells c.args.bytes.now (weak c.in-Some.weak) = search rules in
    let no : c.may_be_weak.result ≡ false = search rules in
    λ others says t. not_weak_where c.args.self.now others c.args.bytes.now says c.in-Some.weak c.as_slice.result.now c.may_be_weak.result reads
    c.as_slice.ensures.items no c.may_be_weak.ensures.1 t

pub returns-else-not-may_be_weak : goal.returns-else-not-may_be_weak
returns-else-not-may_be_weak c =
    let reads : Spells c.args.bytes.now (weak c.in-Some.weak) = search rules in
    let so : c.may_be_weak.result ≡ true = search rules in
    let may : All (MayBeWeak c.args.self.now.values) c.in-Some.weak = subst (λ (ks : List (List (List ℕ))). All (MayBeWeak c.args.self.now.values) ks)
    c.as_slice.ensures.items (c.may_be_weak.ensures.0 so) in
    (weak_rules c.args.self.now c.in-Some.weak may, λ others says. weak_read c.args.self.now others c.args.bytes.now says c.in-Some.weak reads may)
