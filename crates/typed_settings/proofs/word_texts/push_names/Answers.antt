use Rattle.std.proofs.Common.{lit<, length, rules}
use Rattle.std.proofs.lemmas.Iterator.Consumers.{YieldsList-turn, YieldsList-end}
use Rattle.std.proofs.lemmas.Iterator.Splits.{YieldsList-from_str_split}
use Rattle.std.proofs.lemmas.List.{length_push}
use Rattle.typed_settings.proofs.WordParts.{refused_piece, refused_twice, more_pieces, valid_more, different_more, spells_all}
use Rattle.typed_settings.proofs.word_texts.push_names.Goals as goal

pub returns-then-not-is_identifier-clause-refused : goal.returns-then-not-is_identifier-clause-refused
returns-then-not-is_identifier-clause-refused c =
    let turn = YieldsList-turn (YieldsList-from_str_split 124 c.args.text.now (lit< tt) (cc) (cc) (cc)) c.loop-name.yielded _ c.loop-name.yielded_by _ _
    c.in-Some.name c.in-Some.is c.next.ensures.steps in
    λ _ names is. refused_piece c.args.text.now names (length c.loop-name.yielded) c.in-Some.name.now turn (search rules) is

pub returns-then-contains-clause-refused : goal.returns-then-contains-clause-refused
returns-then-contains-clause-refused c =
    let turn = YieldsList-turn (YieldsList-from_str_split 124 c.args.text.now (lit< tt) (cc) (cc) (cc)) c.loop-name.yielded _ c.loop-name.yielded_by _ _
    c.in-Some.name c.in-Some.is c.next.ensures.steps in
    λ _ names is. refused_twice c.args.text.now names c.loop-name.names (length c.loop-name.yielded) c.in-Some.name.now c.loop-name.invariant.same turn
    (search rules) is

pub loop-name-preserved : goal.loop-name-preserved
loop-name-preserved c =
    let turn = YieldsList-turn (YieldsList-from_str_split 124 c.args.text.now (lit< tt) (cc) (cc) (cc)) c.loop-name.yielded _ c.loop-name.yielded_by _ _
    c.in-Some.name c.in-Some.is c.next.ensures.steps in
    let grown = c.in_ok-push.ensures.ok in
    rw grown (record {
      same = more_pieces c.args.text.now c.loop-name.names (length c.loop-name.yielded) _ c.in-Some.name.now c.loop-name.invariant.same turn
          (length_push c.loop-name.yielded c.in-Some.name);
      valid = valid_more c.loop-name.names c.in-Some.name.now c.loop-name.invariant.valid (search rules);
      different = different_more c.loop-name.names c.in-Some.name.now c.loop-name.invariant.different (search rules);
    })

pub returns-clause-spelled : goal.returns-clause-spelled
returns-clause-spelled c =
    let end = YieldsList-end (YieldsList-from_str_split 124 c.args.text.now (lit< tt) (cc) (cc) (cc)) c.loop-name.yielded _ c.loop-name.yielded_by _ _
    c.in-None.is c.next.ensures.steps in
    λ _. spells_all c.args.text.now c.loop-name.names (length c.loop-name.yielded) c.loop-name.invariant.same end.1 c.loop-name.invariant.valid
    c.loop-name.invariant.different
