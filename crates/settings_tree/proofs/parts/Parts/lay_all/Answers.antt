use Rattle.std.proofs.Common.{arith, rules, ◌≡◌, ℕ, List, [], ◌∷◌, length}
use Rattle.std.specs.Vec.Iter.{into_iter_items, into_iter_len}
use Rattle.settings_tree.specs.Laid.{laid}
use Rattle.settings_tree.specs.declared.entry.Entry.{Entry}
use Rattle.settings_tree.specs.declared.held.Held.{Held}
use Rattle.settings_tree.proofs.parts.Parts.lay_all.Goals as goal

at_end : (h t : Held) (es : List Entry) (n : ℕ) → length es ≡ n → n ≡ 0 → laid h es ≡ t → h ≡ t
at_end h t [] n len none is = is
at_end h t (e ∷ es) n len none is = absurd (grind arith)

pub returns : goal.returns
returns c = at_end _ _ (into_iter_items c.loop-entry.entry-iterator) (into_iter_len c.loop-entry.entry-iterator) (search rules) (search rules) (search rules)
