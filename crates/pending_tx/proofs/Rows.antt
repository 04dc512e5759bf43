-- The definitions at worked values.
use Rattle.std.proofs.Common.{◌≡◌, ℕ, List, [], ◌∷◌, Some, None, true, false, refl}
use Rattle.std.specs.Prelude.{codes}
use Rattle.json_trees.specs.declared.scalar.Scalar.TheVariants.{Bool as Truth}
use Rattle.json_trees.specs.declared.pending.Pending.TheVariants.{Put, Gone}
use Rattle.settings_tree.specs.declared.entry.Owed.TheVariants as owed
use Rattle.settings_maps.specs.KeyList.{joined, without_keys}
use Rattle.pending_tx.specs.Transactions.{differs, owing}

abbrev motd : List (List ℕ)
motd = codes "settings" ∷ codes "motd" ∷ []

abbrev servers : List (List ℕ)
servers = codes "settings" ∷ codes "ntp" ∷ codes "time-servers" ∷ []

-- A key that is set, also to the value that it has, is strong from then on.
weak_to_strong : without_keys (motd ∷ servers ∷ []) (motd ∷ []) ≡ servers ∷ []
weak_to_strong = refl

-- An equal value changes nothing, and nor does a removal of nothing.
equal_value : differs (Put (Truth true)) (Some (Truth true)) ≡ false
equal_value = refl

removal_of_nothing : differs Gone None ≡ false
removal_of_nothing = refl

-- Owed keys are listed once, rising, and all stay all.
owed_once : owing (owed.Keys (motd ∷ [])) (motd ∷ servers ∷ []) ≡ owed.Keys (motd ∷ servers ∷ [])
owed_once = refl

owed_rising : joined (servers ∷ []) (motd ∷ []) ≡ motd ∷ servers ∷ []
owed_rising = refl

all_stay_all : owing owed.All (motd ∷ []) ≡ owed.All
all_stay_all = refl
