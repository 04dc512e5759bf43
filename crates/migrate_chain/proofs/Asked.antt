-- What was asked, over several migrations.
use Rattle.std.proofs.Common.{◌∙◌, ◌++◌, ◌∷◌, [], List, refl, sym, ap, append_assoc, append-nil}
use Rattle.outside.specs.Spawner.{Question}
use Rattle.settings_tree.specs.declared.held.Held.{Held}
use Rattle.migrate_chain.specs.Tasks.{Mapped, Task}
use Rattle.migrate_chain.specs.Asking.{AreAsked, HasAskedFor, HasAskedUpTo}
use Rattle.migrate_chain.specs.declared.task_error.TaskError.{TaskError}

asked_more : (a b : List Mapped) (x y : List Question) → AreAsked a x → AreAsked b y → AreAsked (a ++ b) (x ++ y)
asked_more [] b x y none are = rw none are
asked_more (m ∷ a) b x y are more = (are.0, are.1 ++ y, ap (λ l. l ++ y) are.2 ∙ append_assoc are.0 are.1 y, are.3, asked_more a b are.1 y are.4 more)

-- No migration asks nothing.
pub asked_none : (old : List Question) → HasAskedFor [] old old
asked_none old = record { asked = []; new_is = sym (append-nil old); are = refl }

-- What was asked for some migrations, and after it for others, was asked for all.
pub asked_then : {a b : List Mapped} {old mid new : List Question} → HasAskedFor a old mid → HasAskedFor b mid new → HasAskedFor (a ++ b) old new
asked_then {a = a} {b = b} {old = old} first then = record {
  asked = first.asked ++ then.asked;
  new_is = then.new_is ∙ ap (λ l. l ++ then.asked) first.new_is ∙ append_assoc old first.asked then.asked;
  are = asked_more a b first.asked then.asked first.are then.are;
}

-- The same, up to one that met an error.
pub asked_up_to : {a b : List Mapped} {task : Task} {held : Held} {why : TaskError} {old mid new : List Question}
    → HasAskedFor a old mid → HasAskedUpTo b task held why mid new → HasAskedUpTo (a ++ b) task held why old new
asked_up_to {a = a} {b = b} {old = old} first then = record {
  asked = first.asked ++ then.asked;
  last = then.last;
  new_is = then.new_is ∙ ap (λ l. l ++ then.asked ++ then.last) first.new_is ∙ ap (λ l. l ++ then.last) (append_assoc old first.asked then.asked);
  are = asked_more a b first.asked then.asked first.are then.are;
  ends = then.ends;
}
