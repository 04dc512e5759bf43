use Rattle.std.proofs.Common.{◌≡◌, ◌++◌, sym, subst, rules}
use Rattle.std.specs.Ordering.{is_lt}
use Rattle.std.specs.List.Sorted.{IsSortedBy}
use Rattle.std.proofs.lemmas.Fn.{always_returns_same}
use Rattle.std.proofs.lemmas.List.Sorted.{ranks_by}
use Rattle.key_names.specs.Order.{key_total}
use Rattle.typed_settings.specs.Order.{signature, pattern_cmp}
use Rattle.typed_settings.specs.Row.{AreApart, built_in}
use Rattle.typed_settings.specs.declared.row.Row.{Row}
use Rattle.typed_settings.proofs.Apart.{whole_apart, permuted_apart}
use Rattle.typed_settings.proofs.Searches.{sorted_ordered}
use Rattle.typed_settings.proofs.types.table_of.Goals as goal

pub invariant_of-result : goal.invariant_of-result
invariant_of-result c =
    let whole : c.append.new.self.items ≡ built_in ++ c.args.given.items = search rules in
    let sorted : IsSortedBy (λ (a b : Row). is_lt (pattern_cmp a.pattern b.pattern)) c.sort_by.new.self.items =
    c.in_ok-sort_by.ensures.sorted (λ (a b : Row). is_lt (pattern_cmp a.pattern b.pattern)) (ranks_by key_total (λ (row : Row). signature row.pattern))
    (always_returns_same _ _ _ (λ a r q k. search rules)) in
    record {
      apart = permuted_apart c.append.new.self.items c.sort_by.new.self.items c.sort_by.ensures.permutation
          (subst AreApart (sym whole) (whole_apart c.args.given.items c.requires.of_settings c.requires.apart));
      ordered = sorted_ordered c.sort_by.new.self.items sorted;
    }
