use Rattle.held_text.proofs.Printing.{printed_value}
use Rattle.machine_answers.proofs.states_body.states_body.Goals as goal

pub returns : goal.returns
returns c = printed_value _ _ _ _ c.text_of.ensures.text c.new-writer.ensures.tokens c.in_ok-write_states.ensures
