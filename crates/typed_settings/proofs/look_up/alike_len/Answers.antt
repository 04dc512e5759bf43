use Rattle.std.proofs.Common.{◌≡◌, get_or, rules}
use Rattle.std.proofs.lemmas.List.Sorted.{IsPartitionPoint-from_clause}
use Rattle.typed_settings.specs.Order.{is_like}
use Rattle.typed_settings.specs.declared.row.Row.{Row}
use Rattle.typed_settings.proofs.Searches.{partitioned, front_alike, front_some}
use Rattle.typed_settings.proofs.look_up.alike_len.Goals as goal

pub returns-in-Some-clause-some : goal.returns-in-Some-clause-some
returns-in-Some-clause-some c =
    let is : c.in-Some.first.now ≡ get_or c.args.rows.now 0 c.in-Some.first.now = search rules in
    let point = IsPartitionPoint-from_clause (λ (row : Row). is_like row.pattern c.in-Some.first.now.pattern) c.args.rows.now c.partition_point.result
    c.partition_point.ensures.partitioned (partitioned c.args.rows.now c.in-Some.first.now is c.requires) (λ a r q k. search rules) in
    λ some. front_some c.args.rows.now c.in-Some.first.now c.partition_point.result some is point.1

pub returns-in-Some-clause-alike : goal.returns-in-Some-clause-alike
returns-in-Some-clause-alike c =
    let is : c.in-Some.first.now ≡ get_or c.args.rows.now 0 c.in-Some.first.now = search rules in
    let point = IsPartitionPoint-from_clause (λ (row : Row). is_like row.pattern c.in-Some.first.now.pattern) c.args.rows.now c.partition_point.result
    c.partition_point.ensures.partitioned (partitioned c.args.rows.now c.in-Some.first.now is c.requires) (λ a r q k. search rules) in
    front_alike c.args.rows.now c.in-Some.first.now c.partition_point.result c.partition_point.ensures.bound point.0
