use Rattle.std.proofs.Common.{ap, ◌∙◌, ◌+◌, take, drop}
use Rattle.std.proofs.lemmas.List.{drop-drop}
use Rattle.api_http.proofs.target.split_target.Goals as goal

pub returns-clause-path : goal.returns-clause-path
returns-clause-path c = c.split_at.ensures.front ∙ ap (λ n. take n c.args.target.now) c.path_len.ensures.value

pub returns-clause-query : goal.returns-clause-query
returns-clause-query c =
    c.behind_first.ensures ∙ ap (drop 1) c.split_at.ensures.back ∙ drop-drop 1 c.path_len.result c.args.target.now
    ∙ ap (λ n. drop (n + 1) c.args.target.now) c.path_len.ensures.value
