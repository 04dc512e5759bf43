use Rattle.std.proofs.Common.{map}
use Rattle.template_reader.proofs.WordParts.{words_more, words_done, shorter}
use Rattle.template_reader.proofs.words.words.Goals as goal

pub loop-rest-preserved : goal.loop-rest-preserved
loop-rest-preserved c =
    words_more c.args.bytes.now c.loop-rest.rest.now c.split_at.result.0.now c.split_at.result.1.now c.behind_first-rest.result.now c.word_length.result
    (map (λ word. word.now) c.loop-rest.found.items) (map (λ word. word.now) c.push_word.new.found.items)
    c.loop-rest.invariant c.word_length.ensures.value c.split_at.ensures.front c.split_at.ensures.back c.behind_first-rest.ensures c.in_ok-push_word.ensures

pub loop-rest-smaller : goal.loop-rest-smaller
loop-rest-smaller c = shorter c.loop-rest.rest.now c.split_at.result.1.now c.behind_first-rest.result.now c.word_length.result c.is_empty.result
    c.split_at.ensures.back c.behind_first-rest.ensures c.is_empty.ensures c.loop-rest-test.true

pub returns : goal.returns
returns c = words_done c.args.bytes.now c.loop-rest.rest.now (map (λ word. word.now) c.loop-rest.found.items) c.is_empty.result c.loop-rest.invariant
    c.is_empty.ensures c.loop-rest-test.false
