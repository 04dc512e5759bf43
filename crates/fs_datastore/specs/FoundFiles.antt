-- For private clauses: files that are read one after another, and what they say so far.
use Rattle.std.specs.Prelude.{◌≡◌, ℕ, List, [], ◌∷◌, ◌++◌, Bool, true, false, Option, Some, None, IsTrue, option_map, All, MatchOption, ⊤}
use Rattle.std.specs.List.{flat_map}
use Rattle.std.specs.FinMap.{get}
use Rattle.outside.specs.Names.{Names}
use Rattle.outside.specs.Tree.{file}
use Rattle.commit_journal.specs.Files.{Files, with_node}
use Rattle.key_names.specs.Key.{is_key}
use Rattle.key_names.specs.Segment.{quoted, IsFileNameOf}
use Rattle.settings_maps.specs.Maps.{value_at, IsFull}
use Rattle.settings_tree.specs.Change.{Place}
use Rattle.settings_tree.specs.Change.{Live, Meta, Pend, TheOwed, TheImage, TheWeak}
use Rattle.settings_tree.specs.Content.{IsNamed, MayBeWeak}
use Rattle.settings_tree.specs.Pending.{IsPending}
use Rattle.settings_tree.specs.Rule.{IsPrefixFree}
use Rattle.fs_datastore.specs.Places.{names_of, path_of, is_place}
use Rattle.fs_datastore.specs.Values.{Value, live, pending, owed, image, weak}
use Rattle.fs_datastore.specs.Stands.{Shows}
use Rattle.fs_datastore.specs.Damage.{Fits, Takes, IsFault}
use Rattle.fs_datastore.specs.declared.found.Absent.{Absent}
use Rattle.fs_datastore.specs.declared.found.Absent.TheVariants as absent
use Rattle.fs_datastore.specs.declared.found.Found.{Found}
use Rattle.fs_datastore.specs.declared.place.FilePlace.{FilePlace}
use Rattle.fs_datastore.specs.declared.place.FilePlace.TheVariants as named

-- ---- paths

-- The key is one, and has these names.
pub record IsKeyOf (names : Names) (key : List (List ℕ)) : Type 0 where
  pub valid : IsTrue (is_key key)
  pub names_are : names ≡ names_of key

-- What was added for a name: the segment whose file name it is, in quotes; or it is that of none.
abbrev pub QuotesOne : List ℕ → List ℕ → List ℕ → Bool → Type 0
QuotesOne name old new true = (segment : List ℕ) × IsFileNameOf name segment × (new ≡ old ++ quoted segment)
QuotesOne name old new false = (segment : List ℕ) → IsFileNameOf name segment → ⊥

-- The names are the file names of these segments.
abbrev pub AreFileNames : Names → List (List ℕ) → Type 0
AreFileNames [] [] = ⊤
AreFileNames [] (segment ∷ segments) = ⊥
AreFileNames (name ∷ names) [] = ⊥
AreFileNames (name ∷ names) (segment ∷ segments) = IsFileNameOf name segment × AreFileNames names segments

-- The text has the segments of these file names, each in quotes and with a dot after it.
pub record Quotes (names : Names) (text : List ℕ) : Type 0 where
  pub segments : List (List ℕ)
  pub named : AreFileNames names segments
  pub text_is : text ≡ flat_map (λ s. quoted s ++ 46 ∷ []) segments

-- The place that was read from a path.
abbrev pub place_of : FilePlace → Place
place_of (named.Live key) = Live key
place_of (named.Meta key name) = Meta key name
place_of (named.Pending tx key) = Pend tx key
place_of named.Owed = TheOwed
place_of named.Image = TheImage
place_of named.Weak = TheWeak

-- The place has this path.
pub record IsPlaceOf (path : Names) (place : FilePlace) : Type 0 where
  pub valid : IsTrue (is_place (place_of place))
  pub path_is : path ≡ path_of (place_of place)

-- ---- what was found

-- What was found at a place.
abbrev pub what_found : Found → Place → Option Value
what_found found (Live key) = option_map live (get found.values key)
what_found found (Meta key name) = option_map live (value_at found.metadata key name)
what_found found (Pend tx key) = option_map pending (value_at found.pending tx key)
what_found found TheOwed = option_map owed found.owed
what_found found TheImage = option_map image found.image
what_found found TheWeak = option_map weak found.weak

-- What was found keeps the rules of what is held.
pub record KeepsRules (found : Found) : Type 0 where
  pub free : IsPrefixFree found.values
  pub full : IsFull found.metadata
  pub named : IsNamed found.metadata
  pub pending : IsPending found.pending
  pub weak : MatchOption found.weak ⊤ (λ keys. All (MayBeWeak found.values) keys)

-- These files are what was found.
pub record Says (files : Files) (found : Found) : Type 0 where
  pub shows : Shows files (what_found found) found.told
  pub rules : KeepsRules found

-- What keeps the rules goes on to keep them.
abbrev pub StaysRuled : Found → Found → Type 0
StaysRuled old new = KeepsRules old → KeepsRules new

-- The file with these bytes is read with the others, or may not come after them.
abbrev pub Reads : Names → List ℕ → Found → Found → Bool → Type 0
Reads path bytes old new true = StaysRuled old new × ((others : Files) → Says others old → Says (with_node others path (Some (file bytes))) new)
Reads path bytes old new false = (others : Files) → Says others old → Fits others path (file bytes) → ⊥

-- The same of the file of a place.
abbrev pub ReadsAt : Place → List ℕ → Found → Found → Bool → Type 0
ReadsAt place bytes old new true = StaysRuled old new × ((others : Files) → Says others old → Says (with_node others (path_of place) (Some (file bytes))) new)
ReadsAt place bytes old new false = (others : Files) → Says others old → Takes others place bytes → ⊥

-- No files at all.
abbrev pub no_files : Files
no_files path = None

-- The path of a file that is missing.
abbrev pub absent_path : Absent → Names
absent_path absent.Owed = path_of TheOwed
absent_path absent.Image = path_of TheImage
absent_path absent.Weak = path_of TheWeak

-- The files have no damage, and the fault at this path.
abbrev pub IsAbsent : Files → Absent → Type 0
IsAbsent files e = IsFault files (absent_path e)
