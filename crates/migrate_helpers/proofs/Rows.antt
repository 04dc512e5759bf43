-- Worked rows of the definitions.
use Rattle.std.proofs.Common.{◌≡◌, [], ◌∷◌, true, false, codes, refl}
use Rattle.json_trees.specs.declared.item.Item.TheVariants as item
use Rattle.json_trees.specs.declared.pending.Pending.TheVariants.{Put, Gone}
use Rattle.json_trees.specs.declared.scalar.Scalar.TheVariants.{Text, List}
use Rattle.migrate_helpers.specs.Conflict.{is_proper_prefix}
use Rattle.migrate_helpers.specs.Settings.{pending_replaced, setting_at, text_replaced}
use Rattle.migrate_helpers.specs.Step.{swapped_back}

-- The old text becomes the new one, and no other text does.
replaced : text_replaced (codes "Welcome") (codes "Hello") (Text (codes "Welcome")) ≡ Text (codes "Hello")
replaced = refl

not_replaced : text_replaced (codes "Welcome") (codes "Hello") (Text (codes "Welcome!")) ≡ Text (codes "Welcome!")
not_replaced = refl

-- A list with the text stays, and so does a removal.
list_stays : text_replaced (codes "Welcome") (codes "Hello") (List (item.Text (codes "Welcome") ∷ [])) ≡ List (item.Text (codes "Welcome") ∷ [])
list_stays = refl

removal_stays : pending_replaced (codes "Welcome") (codes "Hello") Gone ≡ Gone
removal_stays = refl

put_replaced : pending_replaced (codes "Welcome") (codes "Hello") (Put (Text (codes "Welcome"))) ≡ Put (Text (codes "Hello"))
put_replaced = refl

-- A weak setting stays weak below `settings`, and is strong elsewhere.
still_weak : setting_at (codes "settings" ∷ codes "motd" ∷ []) (record { value = Text (codes "Welcome"); weak = true }) ≡
    record { value = Text (codes "Welcome"); weak = true }
still_weak = refl

not_weak : setting_at (codes "services" ∷ codes "motd" ∷ []) (record { value = Text (codes "Welcome"); weak = true }) ≡
    record { value = Text (codes "Welcome"); weak = false }
not_weak = refl

-- A key is a proper prefix of a longer one that begins with it, and not of itself.
longer : is_proper_prefix (codes "settings" ∷ codes "ntp" ∷ []) (codes "settings" ∷ codes "ntp" ∷ codes "x" ∷ []) ≡ true
longer = refl

same : is_proper_prefix (codes "settings" ∷ codes "ntp" ∷ []) (codes "settings" ∷ codes "ntp" ∷ []) ≡ false
same = refl

-- Pairs go back in reverse order.
back : swapped_back ((codes "a" ∷ [], codes "b" ∷ []) ∷ (codes "b" ∷ [], codes "c" ∷ []) ∷ []) ≡ (codes "c" ∷ [], codes "b" ∷ [])
    ∷ (codes "b" ∷ [], codes "a" ∷ []) ∷ []
back = refl
