use Rattle.std.proofs.lemmas.Bool.Decides.{not_from_Decides}
use Rattle.serde_json.specs.View.{view}
use Rattle.migrate_chain.proofs.Spelled.{json_read, json_none}
use Rattle.migrate_chain.proofs.spelling.compact_of.Goals as goal

pub returns-in_ok-to_string-in-Ok : goal.returns-in_ok-to_string-in-Ok
returns-in_ok-to_string-in-Ok c = record {
  value = view c.in-Ok.value;
  value_is = json_read c.args.text.now (view c.in-Ok.value) c.in-Ok.ensures.ok.0 c.in-Ok.ensures.ok.1;
  reads_back = c.in_ok-to_string-in-Ok.ensures.reads_back c.in-Ok.ensures.nests;
  compact_is = c.in_ok-to_string-in-Ok.ensures.text;
}

pub returns-in-Err-2 : goal.returns-in-Err-2
returns-in-Err-2 c = json_none c.args.text.now (c.in-Err.ensures.err (not_from_Decides c.is_memory.result c.is_memory.ensures c.if-is_memory.false))
