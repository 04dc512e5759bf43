use Rattle.template_reader.proofs.FrontLines.{fronts_end}
use Rattle.template_reader.proofs.Leasts.{texts_end, dashes_least, comments_end, tags_end}
use Rattle.template_reader.proofs.Sources.{source_spans, faultless, one_parse}
use Rattle.template_reader.proofs.Total.{source-parses}
use Rattle.template_reader.proofs.law.laws.Goals as goal

pub returns-clause-tree : goal.returns-clause-tree
returns-clause-tree c = source-parses

pub returns-clause-one : goal.returns-clause-one
returns-clause-one c = one_parse

pub returns-clause-faultless : goal.returns-clause-faultless
returns-clause-faultless c = faultless

pub returns-clause-spans : goal.returns-clause-spans
returns-clause-spans c = source_spans

pub returns-clause-texts : goal.returns-clause-texts
returns-clause-texts c = texts_end

pub returns-clause-dashes : goal.returns-clause-dashes
returns-clause-dashes c = dashes_least

pub returns-clause-comments : goal.returns-clause-comments
returns-clause-comments c = comments_end

pub returns-clause-tags : goal.returns-clause-tags
returns-clause-tags c = tags_end

pub returns-clause-fronts : goal.returns-clause-fronts
returns-clause-fronts c = fronts_end
