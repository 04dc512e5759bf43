use Rattle.std.proofs.Common.{◌∙◌}
use Rattle.std.specs.Option.{option_copied}
use Rattle.client_requests.proofs.Heads.{sound}
use Rattle.client_requests.proofs.Agreement.{spelled, asked, faulty, refused, read_whole, read_refused, read_no_wait}
use Rattle.client_requests.proofs.questions.read_question.Goals as goal

pub returns-in_err-text-clause-asks : goal.returns-in_err-text-clause-asks
returns-in_err-text-clause-asks c = let s = sound _ _ (option_copied c.args.body) c.requires in λ q n. (spelled _ _ _ s q n, asked _ _ _ s q n)

pub returns-in_err-text-clause-refuses : goal.returns-in_err-text-clause-refuses
returns-in_err-text-clause-refuses c = let s = sound _ _ (option_copied c.args.body) c.requires in λ r. (faulty _ _ _ s r, refused _ _ _ s r)

pub returns-clause-asks : goal.returns-clause-asks
returns-clause-asks c = let s = sound _ _ (option_copied c.args.body) c.requires in λ q n. (spelled _ _ _ s q n, asked _ _ _ s q n)

pub returns-clause-refuses : goal.returns-clause-refuses
returns-clause-refuses c = let s = sound _ _ (option_copied c.args.body) c.requires in λ r. (faulty _ _ _ s r, refused _ _ _ s r)

pub returns-clause-whole : goal.returns-clause-whole
returns-clause-whole c =
    read_whole _ _ _ (sound _ _ (option_copied c.args.body) c.requires) c.deref.result.now
    (c.deref.ensures.value ∙ c.in_ok-text.ensures) c.read_request.result c.read_request.ensures.whole

pub returns-clause-refused : goal.returns-clause-refused
returns-clause-refused c =
    read_refused _ _ _ (sound _ _ (option_copied c.args.body) c.requires) c.deref.result.now
    (c.deref.ensures.value ∙ c.in_ok-text.ensures) c.read_request.result c.read_request.ensures.refused

pub returns-clause-one_of_them : goal.returns-clause-one_of_them
returns-clause-one_of_them c =
    read_no_wait _ _ _ (sound _ _ (option_copied c.args.body) c.requires) c.deref.result.now
    (c.deref.ensures.value ∙ c.in_ok-text.ensures) c.read_request.result c.read_request.ensures.not_yet
