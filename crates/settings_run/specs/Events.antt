-- The events of each command, by what it came to.
use Rattle.std.specs.Prelude.{◌≡◌, ◌⊎◌, ◌++◌, ⊤, Bool, true, false, List, [], ◌∷◌, codes, Some, None, Ok, Err}
use Rattle.serde_json.specs.Written.{compact_text}
use Rattle.outside.specs.History.{History}
use Rattle.held_text.specs.HeldText.{keys_data}
use Rattle.held_text.specs.Dump.{dump_text}
use Rattle.pending_tx.specs.Transactions.{rising}
use Rattle.settings_machine.specs.World.{Key, Image, World}
use Rattle.settings_machine.specs.Events.{Event}
use Rattle.settings_machine.specs.declared.refusal.Refusal.TheVariants.{NoKey}
use Rattle.machine_disk.specs.Kept.{Folder}
use Rattle.version_links.specs.declared.version.Version.{Version}
use Rattle.version_links.specs.Versions.{version_text}
use Rattle.release_file.specs.declared.release.Release.{Release}
use Rattle.migrate_chain.specs.Tasks.{Mapped}
use Rattle.store_image.specs.declared.image.Image as own
use Rattle.store_open.specs.Forgetting.{first_unheld}
use Rattle.store_open.specs.Laws.{HoldsImage}
use Rattle.store_events.specs.Laws.{MoveEvents, forgot}
use Rattle.command_outcome.specs.Ends.{Outcome}
use Rattle.command_outcome.specs.declared.refusal.Refusal.TheVariants as refused
use Rattle.command_words.specs.Orders.{Order, init, serve, set, get, apply, verify, check, migrate, prune, load, generate, user_data}
use Rattle.command_words.specs.Orders.{dump, restore, forget}
use Rattle.core_commands.specs.Carried.{set_requests, apply_requests}
use Rattle.core_commands.specs.Lines.{IsSettingsLine, IsJobLine}
use Rattle.settings_cmd.specs.Does.{Devices, counts_of, pace_of}
use Rattle.settings_cmd.specs.Releases.{IsReleaseIn}
use Rattle.settings_cmd.specs.StoreChecks.{IsHeldReport}
use Rattle.settings_run.specs.Laws.{RequestEvents, ServeEvents, LogsAll, GetEvents, VerifyEvents, GenerateEvents, ProvisionEvents}

-- The release of the image, and what its migrations made, led from W to the version by these events: one, or none where the store was there
-- in format 2.
pub record MovesBy (folder : Folder) (W : World) (to : Version) (events : List Event) : Type 0 where
  pub release : Release
  pub read : IsReleaseIn (λ path. folder (codes "image" ∷ path)) release
  pub mapped : List Mapped
  pub events_are : MoveEvents W to release.transitions.items release.migrations.items (Some []) (Some mapped) events

-- The version is printed of a store that was moved; a move that was refused is no event.
abbrev pub MigrateEvents : Folder → World → Version → Outcome → List Event → Type 0
MigrateEvents folder W to (Ok line) events = (line ≡ version_text to ++ 10 ∷ []) × MovesBy folder W to events
MigrateEvents folder W to (Err refusal) events = events ≡ []

-- The dump of the world is printed of a store that was read, which is no event.
abbrev pub DumpEvents : World → Outcome → List Event → Type 0
DumpEvents W (Ok text) events = (text ≡ dump_text W.version W.held ++ 10 ∷ []) × (events ≡ [])
DumpEvents W (Err refusal) events = events ≡ []

-- The keys, each once and rising, are printed where each had a value, and were forgotten, which is one event. Where one had none, the first is
-- answered, and there is none.
abbrev pub ForgetEvents : World → List Key → Outcome → List Event → Type 0
ForgetEvents W keys (Ok line) events =
    (line ≡ compact_text (keys_data (rising keys)) ++ 10 ∷ []) × (first_unheld W.held keys ≡ None) × (events ≡ forgot keys)
ForgetEvents W keys (Err (refused.Refused (NoKey key))) events = (first_unheld W.held keys ≡ Some key) × (events ≡ [])
ForgetEvents W keys (Err refusal) events = events ≡ []

-- The image that was read is the machine's, and the report is on it and on what the world holds, which is of format 2.
pub record ReportsOn (I : Image) (W : World) (outcome : Outcome) : Type 0 where
  pub image : own.Image
  pub holds : HoldsImage I image
  pub format : W.format ≡ 2
  pub report : IsHeldReport image W.held outcome

-- The disk or memory failed, or the store is of format 1.
abbrev pub IsUnreported : World → Outcome → Type 0
IsUnreported W (Err refused.Disk) = ⊤
IsUnreported W (Err refused.Memory) = ⊤
IsUnreported W (Err (refused.OldFormat directory)) = W.format ≡ 1
IsUnreported W _ = ⊥

-- A check is no event. With the store it tells of the machine's image and of the world.
abbrev pub CheckEvents : Bool → Image → World → Outcome → List Event → Type 0
CheckEvents false I W outcome events = events ≡ []
CheckEvents true I W outcome events = (ReportsOn I W outcome ⊎ IsUnreported W outcome) × (events ≡ [])

-- It ran out of memory before anything was done.
abbrev pub IsUnbegun : Outcome → List Event → Type 0
IsUnbegun outcome events = (outcome ≡ Err refused.Memory) × (events ≡ [])

-- What each command makes of W, where a store is there, on a disk with this history. `init`, `restore`, `dump`, `check`, `prune` and `load` make no
-- event. The connections that the door has accepted, the programs that were asked, what was logged, and how often the devices have failed are those
-- before and after.
abbrev pub Makes : Order → Image → Folder → World → Devices → Devices → Outcome → History → List Event → Type 0
Makes (init version) I folder W b n outcome old events = events ≡ []
Makes (serve boot slice while_idle connections quiet) I folder W b n outcome old events =
    (ServeEvents I W boot (pace_of slice while_idle) (counts_of b.faults) (counts_of n.faults) b.connections n.connections outcome events
    ⊎ (IsUnbegun outcome events × (n.connections ≡ b.connections))) × LogsAll quiet I W events b.log n.log
Makes (set pairs) I folder W b n outcome old events = RequestEvents I W (set_requests pairs) IsSettingsLine outcome events ⊎ IsUnbegun outcome events
Makes (get keys) I folder W b n outcome old events = GetEvents I W keys outcome events ⊎ IsUnbegun outcome events
Makes (apply all) I folder W b n outcome old events = RequestEvents I W (apply_requests all) IsJobLine outcome events ⊎ IsUnbegun outcome events
Makes verify I folder W b n outcome old events = VerifyEvents I W outcome events ⊎ IsUnbegun outcome events
Makes (check store) I folder W b n outcome old events = CheckEvents store I W outcome events
Makes (migrate to) I folder W b n outcome old events = MigrateEvents folder W to outcome events
Makes prune I folder W b n outcome old events = events ≡ []
Makes (load count) I folder W b n outcome old events = events ≡ []
Makes generate I folder W b n outcome old events =
    GenerateEvents I folder W b.asked n.asked outcome events ⊎ (IsUnbegun outcome events × (n.asked ≡ b.asked))
Makes (user_data path) I folder W b n outcome old events = ProvisionEvents I W path outcome old events ⊎ IsUnbegun outcome events
Makes dump I folder W b n outcome old events = DumpEvents W outcome events
Makes (restore path) I folder W b n outcome old events = events ≡ []
Makes (forget keys) I folder W b n outcome old events = ForgetEvents W keys outcome events
