-- The files that a change of what is held is written to.
use Rattle.std.specs.Prelude.{◌≡◌, ℕ, List, Option, Some, None, IsSome, IsTrue, Bool, Contains, All, if◌then◌else◌, fold}
use Rattle.std.specs.BTreeMap.{BTreeMap, get, Updates}
use Rattle.outside.specs.Names.{Names, path_cmp}
use Rattle.outside.specs.Tree.{Node}
use Rattle.commit_journal.specs.Entries.{IsNamed}
use Rattle.commit_journal.specs.Entries as journal
use Rattle.commit_journal.specs.Files.{Files, node_of, laid}
use Rattle.serde_json.specs.Data.{null}
use Rattle.serde_json.specs.Written.{compact_text}
use Rattle.json_trees.specs.Scalar.{json_text}
use Rattle.json_trees.specs.declared.pending.Pending.{Pending}
use Rattle.json_trees.specs.declared.pending.Pending.TheVariants.{Put, Gone}
use Rattle.settings_tree.specs.Change.{Place, place, is_same}
use Rattle.settings_tree.specs.Laid as state
use Rattle.settings_tree.specs.declared.entry.Entry.{Entry}
use Rattle.settings_tree.specs.declared.entry.Entry.TheVariants.{LiveSet, LiveGone, MetaSet, MetaGone, PendSet, PendGone, OwedSet, ImageSet, WeakIs}
use Rattle.settings_tree.specs.declared.held.Held.{Held}
use Rattle.fs_datastore.specs.Places.{path_of, is_place}
use Rattle.fs_datastore.specs.Values.{Value, live, pending, owed, image, weak, list_of, owed_scalar}
use Rattle.fs_datastore.specs.Stands.{IsFileOf, Shows, Stands}

-- The text of a pending value, or `null` for a removal.
abbrev pub pending_text : Pending → List ℕ
pending_text (Put value) = json_text value
pending_text Gone = compact_text null

-- The bytes of the file of what an entry sets, in compact JSON, or none where it takes something away.
abbrev pub bytes_of : Entry → Option (List ℕ)
bytes_of (LiveSet key value) = Some (json_text value)
bytes_of (LiveGone key) = None
bytes_of (MetaSet key name value) = Some (json_text value)
bytes_of (MetaGone key name) = None
bytes_of (PendSet tx key value) = Some (pending_text value)
bytes_of (PendGone tx key) = None
bytes_of (OwedSet keys) = Some (json_text (owed_scalar keys))
bytes_of (ImageSet text) = Some text
bytes_of (WeakIs keys) = Some (json_text (list_of keys))

-- The path and the bytes are those of an entry of the change.
pub record IsFileIn (change : List Entry) (written : journal.Entry) : Type 0 where
  pub entry : Entry
  pub among : Contains change entry
  pub path_is : written.0 ≡ path_of (place entry)
  pub bytes_are : written.1 ≡ bytes_of entry

-- The entries are the files of the change's places, and no others.
pub record WritesDown (change : List Entry) (entries : List journal.Entry) : Type 0 where
  pub each : (entry : Entry) → Contains change entry → IsNamed entries (path_of (place entry))
  pub only : All (IsFileIn change) entries

-- Laid over files that represent what is held, the entries represent it with the change laid, where the change may be laid.
pub record Follows (change : List Entry) (entries : List journal.Entry) : Type 0 where
  pub stands : (files : Files) (held : Held) (format : ℕ) → Stands files held format
      → state.KeepsPrefixRule (state.laid held change) → state.NamesWeak held change → state.TellsWeak held change
      → Stands (laid entries files) (state.laid held change) format

-- ---- for private clauses

-- What an entry leaves at its place.
abbrev pub new_value : Entry → Option Value
new_value (LiveSet key value) = Some (live value)
new_value (LiveGone key) = None
new_value (MetaSet key name value) = Some (live value)
new_value (MetaGone key name) = None
new_value (PendSet tx key value) = Some (pending value)
new_value (PendGone tx key) = None
new_value (OwedSet keys) = Some (owed keys)
new_value (ImageSet text) = Some (image text)
new_value (WeakIs keys) = Some (weak keys)

-- The bytes are those of the file of what the entry leaves.
abbrev pub IsWritten : Entry → Option (List ℕ) → Type 0
IsWritten entry bytes = IsFileOf (new_value entry) (node_of bytes)

-- The values with this one at a place, or with none there.
abbrev pub with_value : (Place → Option Value) → Place → Option Value → Place → Option Value
with_value what at value place = if is_same place at then value else what place

-- The values with those of the entries laid over them.
abbrev pub with_entries : (Place → Option Value) → List Entry → Place → Option Value
with_entries what entries = fold (λ w e. with_value w (place e) (new_value e)) what entries

-- The bytes are put at the path, which is that of the entry's place, and they are those of its file.
pub record PutsFile (entry : Entry) (old new : BTreeMap Names (Option (List ℕ))) : Type 0 where
  pub updates : Updates path_cmp old new (path_of (place entry)) (Some (bytes_of entry))
  pub valid : IsTrue (is_place (place entry))
  pub written : IsWritten entry (bytes_of entry)

-- What a map of files has at a path, or else the files.
abbrev pub over : Option (Option (List ℕ)) → Option Node → Option Node
over None found = found
over (Some bytes) found = node_of bytes

-- The files with those of the map over them.
abbrev pub overlaid : BTreeMap Names (Option (List ℕ)) → Files → Files
overlaid written files path = over (get path_cmp written path) (files path)

-- The map has the files of the entries, a later one over an earlier one.
pub record AreFilesOf (entries : List Entry) (written : BTreeMap Names (Option (List ℕ))) : Type 0 where
  pub each : (entry : Entry) → Contains entries entry → IsSome (get path_cmp written (path_of (place entry)))
  pub only : (path : Names) (bytes : Option (List ℕ)) → get path_cmp written path ≡ Some bytes → IsFileIn entries (path, bytes)
  pub valid : All (λ entry. IsTrue (is_place (place entry))) entries
  pub shows : (files : Files) (what : Place → Option Value) (told : Bool) → Shows files what told
      → Shows (overlaid written files) (with_entries what entries) told
