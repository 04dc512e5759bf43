use Rattle.std.proofs.Common.{◌≡◌, ℕ, List, Option, None, IsSome, IsTrue, length, take, sym, subst}
use Rattle.json_trees.specs.declared.scalar.Scalar.{Scalar}
use Rattle.std.specs.FinMap.{FinMap, get, entries}
use Rattle.std.specs.List.{All}
use Rattle.std.specs.Map.{keys_of}
use Rattle.std.proofs.lemmas.List.Elements.{All-map, filter_passes}
use Rattle.key_names.specs.Key.{is_prefix}
use Rattle.key_names.specs.Order.{key_cmp}
use Rattle.json_trees.specs.Nested.{ShareFirst}
use Rattle.settings_tree.specs.Walks.{entries_below}
use Rattle.settings_tree.proofs.ApartKeys.{some_apart, tested_stand, all_begin, share_fewer, share_all}
use Rattle.settings_tree.proofs.content.Content.below.Goals as goal

begin : (values : FinMap key_cmp Scalar) (prefix : List (List ℕ)) → All (λ key. IsTrue (is_prefix prefix key)) (keys_of (entries_below values prefix))
begin values prefix = All-map (λ key. IsTrue (is_prefix prefix key)) (λ e. e.0) _ (filter_passes (λ e. is_prefix prefix e.0) (entries values))

pub returns-clause-apart : goal.returns-clause-apart
returns-clause-apart c = some_apart c.args.self.now.values c.in_ok-pairs.ensures.valid.rule (λ e. is_prefix c.args.prefix.now e.0) _ c.in_ok-pairs.ensures.values

pub returns-clause-begin : goal.returns-clause-begin
returns-clause-begin c = subst (λ es. All (λ key. take (length c.args.prefix.now) key ≡ c.args.prefix.now) (keys_of es)) (sym c.in_ok-pairs.ensures.values)
    (all_begin c.args.prefix.now _ (begin c.args.self.now.values c.args.prefix.now))

pub returns-clause-fewer : goal.returns-clause-fewer
returns-clause-fewer c n few = subst (λ es. ShareFirst n (keys_of es)) (sym c.in_ok-pairs.ensures.values)
    (share_fewer n c.args.prefix.now _ (begin c.args.self.now.values c.args.prefix.now) few)

lacks : (o : Option Scalar) → IsSome o → o ≡ None → ⊥
lacks o some none = cc (some, none)

pub returns-clause-shared : goal.returns-clause-shared
returns-clause-shared c none =
    let values = c.args.self.now.values in
    subst (λ es. ShareFirst (length c.args.prefix.now) (keys_of es)) (sym c.in_ok-pairs.ensures.values)
    (share_all c.args.prefix.now _ (begin values c.args.prefix.now)
    (λ i d within is. lacks (get values c.args.prefix.now) (subst (λ k. IsSome (get values k)) is
    (tested_stand values (λ e. is_prefix c.args.prefix.now e.0) i d within)) none))
