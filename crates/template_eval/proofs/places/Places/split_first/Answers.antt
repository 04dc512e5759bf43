use Rattle.std.proofs.Common.{subst, sym}
use Rattle.template_eval.specs.Views.{places_of}
use Rattle.template_eval.specs.declared.places.Places.{Places}
use Rattle.template_eval.proofs.Entries.{Parts}
use Rattle.template_eval.proofs.places.Places.split_first.Goals as goal

pub returns-in-Items-clause-parts : goal.returns-in-Items-clause-parts
returns-in-Items-clause-parts c =
    let content = c.args.content.now in
    let P : Places → Type 0 = λ s. Parts content (places_of content s) c.split_items.result in
    subst P (sym c.in-Items.is) (c.split_items.ensures.parts content)

pub returns-in-System-clause-parts : goal.returns-in-System-clause-parts
returns-in-System-clause-parts c =
    let content = c.args.content.now in
    let P : Places → Type 0 = λ s. Parts content (places_of content s) c.split_names.result in
    subst P (sym c.in-System.is) (c.split_names.ensures.parts content)

pub returns-in-Items-clause-follows : goal.returns-in-Items-clause-follows
returns-in-Items-clause-follows c = c.split_items.ensures.follows c.args.content.now

pub returns-in-System-clause-follows : goal.returns-in-System-clause-follows
returns-in-System-clause-follows c = c.split_names.ensures.follows c.args.content.now
