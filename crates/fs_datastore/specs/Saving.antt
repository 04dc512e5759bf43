-- What is held is saved below a data directory.
use Rattle.std.specs.Prelude.{◌≡◌, ℕ, List, ◌∷◌, Bool, true, if◌then◌else◌, Option, Some, None, IsSome, IsTrue, option_map, Result, OnOk}
use Rattle.std.specs.FinMap.{FinMap, get}
use Rattle.std.specs.Ordering.{eq_by_cmp}
use Rattle.outside.specs.Names.{Names}
use Rattle.outside.specs.Tree.{Tree}
use Rattle.outside.specs.History.{History, tree_of, IsSettled}
use Rattle.outside.specs.Since.{Touches}
use Rattle.commit_journal.specs.Files.{files_below, IsBelow}
use Rattle.commit_journal.specs.Stands.{ChangesOnlyBelow}
use Rattle.key_names.specs.Order.{bytes_cmp, key_cmp}
use Rattle.json_trees.specs.declared.pending.Pending.{Pending}
use Rattle.json_trees.specs.declared.scalar.Scalar.{Scalar}
use Rattle.settings_maps.specs.Maps.{value_at}
use Rattle.settings_maps.specs.TxName.{is_meta_name}
use Rattle.settings_tree.specs.Change.{Place, is_same}
use Rattle.settings_tree.specs.Change.{Live, Meta, Pend, TheOwed, TheImage, TheWeak}
use Rattle.settings_tree.specs.declared.held.Held.{Held}
use Rattle.fs_datastore.specs.Values.{Value, live, pending, owed, image, weak}
use Rattle.fs_datastore.specs.Stands.{Shows, Stands}

-- Nothing is below the directory.
abbrev pub IsEmptyBelow : Names → Tree → Type 0
IsEmptyBelow dir tree = (name : List ℕ) (rest : Names) → files_below dir tree (name ∷ rest) ≡ None

-- What is held is put below a directory that has nothing below it.
pub record Saves {E : Type 0} (dir : Names) (held : Held) (result : Result Unit E) (old new : History) : Type 0 where
  -- After Ok the files represent it in format 2.
  pub done : OnOk result (IsEmptyBelow dir (tree_of old) → Stands (files_below dir (tree_of new)) held 2)
  -- They are on the disk.
  pub settled : OnOk result (IsSettled new)
  -- Elsewhere all stays as it was.
  pub others : ChangesOnlyBelow dir old new

-- ---- for private clauses: what is put there, step by step

-- Each name has 1 to 127 bare characters.
pub record HasBareNames (names : FinMap bytes_cmp Scalar) : Type 0 where
  pub bare : (name : List ℕ) → IsSome (get names name) → IsTrue (is_meta_name name)

-- A value for some of the places.
abbrev pub Values : Type 0
Values = Place → Option Value

-- The first value, or else the second.
abbrev pub or_else : Option Value → Option Value → Option Value
or_else None other = other
or_else (Some value) other = Some value

-- Values with others put over them.
abbrev pub put_over : Values → Values → Values
put_over more what place = or_else (more place) (what place)

-- This value at this place alone.
abbrev pub value_at_place : Place → Value → Values
value_at_place at value place = if is_same place at then Some value else None

-- The values of a map by key.
abbrev pub live_values : FinMap key_cmp Scalar → Values
live_values values (Live key) = option_map live (get values key)
live_values values place = None

-- The metadata of one key.
abbrev pub names_of_key : List (List ℕ) → FinMap bytes_cmp Scalar → Values
names_of_key at names (Meta key name) = if eq_by_cmp key_cmp key at then option_map live (get names name) else None
names_of_key at names place = None

-- Metadata by key and name.
abbrev pub all_metadata : FinMap key_cmp (FinMap bytes_cmp Scalar) → Values
all_metadata metadata (Meta key name) = option_map live (value_at metadata key name)
all_metadata metadata place = None

-- What one transaction has pending.
abbrev pub keys_of_transaction : List ℕ → FinMap key_cmp Pending → Values
keys_of_transaction at keys (Pend tx key) = if eq_by_cmp bytes_cmp tx at then option_map pending (get keys key) else None
keys_of_transaction at keys place = None

-- What all transactions have pending.
abbrev pub all_pending : FinMap bytes_cmp (FinMap key_cmp Pending) → Values
all_pending transactions (Pend tx key) = option_map pending (value_at transactions tx key)
all_pending transactions place = None

-- The owed keys, the image text and the weak keys.
abbrev pub single_values : Held → Values
single_values held TheOwed = Some (owed held.owed)
single_values held TheImage = Some (image held.image)
single_values held TheWeak = Some (weak held.live.weak)
single_values held place = None

-- Where the files below the directory are those of some values, they become those with more put over them.
abbrev pub ShowsMore : Names → Values → History → History → Type 0
ShowsMore dir more old new = (what : Values) (told : Bool) → Shows (files_below dir (tree_of old)) what told
    → Shows (files_below dir (tree_of new)) (put_over more what) told

-- Only paths below the directory were written, and after Ok these values were put over those that were there.
pub record SavesTo {E : Type 0} (dir : Names) (more : Values) (result : Result Unit E) (old new : History) : Type 0 where
  pub touches : Touches (IsBelow dir) old new
  pub shows : OnOk result (ShowsMore dir more old new)

-- Only paths below the directory were written, and after Ok the file that tells format 2 is there and the values are the same.
pub record TellsFormat {E : Type 0} (dir : Names) (result : Result Unit E) (old new : History) : Type 0 where
  pub touches : Touches (IsBelow dir) old new
  pub shows : OnOk result ((what : Values) (told : Bool) → Shows (files_below dir (tree_of old)) what told → Shows (files_below dir (tree_of new)) what true)
