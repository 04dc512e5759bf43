-- What was run and asked, in the words of `outside`.
use Rattle.std.specs.Prelude.{ℕ, List}
use Rattle.outside.specs.Spawner as outside
use Rattle.outside.specs.declared.spawner.Answer.{Answer}
use Rattle.disk_memory.specs.declared.spawner.Run.{Run}
use Rattle.disk_memory.specs.declared.spawner.Question.{Question}

-- A run in the words of `outside`.
abbrev pub run_of : Run → outside.Run
run_of run = record { words = outside.texts run.words.items; status = run.status }

-- A question in the words of `outside`.
abbrev pub question_of : Question → outside.Question
question_of q = record { words = outside.texts q.words.items; input = q.input.items; status = q.answer.status; output = q.answer.output.items }

-- The status and the output of an answer.
abbrev pub answer_in : Answer → ℕ × List ℕ
answer_in answer = (answer.status, answer.output.items)
