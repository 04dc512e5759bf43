-- Worked values of words.
use Rattle.std.proofs.Common.{◌≡◌, true, false, [], ◌∷◌, refl}
use Rattle.std.specs.Prelude.{codes}
use lib.IntN.{pos, negsuc}
use Rattle.json_trees.specs.declared.item.Item.TheVariants as value
use Rattle.json_trees.specs.declared.scalar.Scalar.TheVariants as scalar
use Rattle.typed_settings.specs.Takes.{takes, is_line}
use Rattle.typed_settings.specs.Word.{is_identifier, item_text}
use Rattle.typed_settings.specs.declared.item_word.ItemWord.TheVariants as item
use Rattle.typed_settings.specs.declared.word.Word.TheVariants as word

-- Both bounds are included.
bounds_included : takes (word.One (item.Int (negsuc 4) (pos 5))) (scalar.Int (pos 5)) ≡ true
bounds_included = refl

-- A number above them is refused.
above_refused : takes (word.One (item.Int (negsuc 4) (pos 5))) (scalar.Int (pos 6)) ≡ false
above_refused = refl

-- A list word takes no bare item.
bare_refused : takes (word.List item.Line) (scalar.Text (codes "a")) ≡ false
bare_refused = refl

-- It takes no items at all.
none_taken : takes (word.List item.Line) (scalar.List []) ≡ true
none_taken = refl

-- Each item is taken by its word.
items_taken : takes (word.List (item.Int (pos 0) (pos 9))) (scalar.List (value.Int (pos 1) ∷ value.Int (pos 10) ∷ [])) ≡ false
items_taken = refl

-- A line has no carriage return.
line_broken : is_line (97 ∷ 13 ∷ 98 ∷ []) ≡ false
line_broken = refl

-- An identifier has bare characters.
bare_taken : is_identifier (codes "a-1_B") ≡ true
bare_taken = refl

-- And no dot.
dot_refused : is_identifier (codes "a.b") ≡ false
dot_refused = refl

-- One of the names is taken.
name_taken : takes (word.One (item.Choice (codes "a" ∷ codes "b" ∷ []))) (scalar.Text (codes "b")) ≡ true
name_taken = refl

-- The text of a choice.
choice_text : item_text (item.Choice (codes "a" ∷ codes "b" ∷ [])) ≡ codes "choice a|b"
choice_text = refl
