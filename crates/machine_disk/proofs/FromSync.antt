-- What a crash leaves of a call that syncs the disk first and then changes a data directory alone.
use Rattle.std.proofs.Common.{◌≡◌, inl, inr, List, sym, subst}
use Rattle.outside.specs.Names.{Names}
use Rattle.outside.specs.Tree.{Tree, node_at}
use Rattle.outside.specs.History.{synced, History, next as then, tree_of}
use Rattle.outside.specs.Since.{EachSince, IsAtOrSync, Touches}
use Rattle.outside.proofs.Crash.{settled_state, settled_synced}
use Rattle.outside.proofs.Goes.{may_leave_untouched, since_goes}
use Rattle.outside.proofs.Since.{since_start, since_joined, since_map, since_both}
use Rattle.commit_journal.specs.Files.{IsBelow}
use Rattle.commit_journal.specs.Recovery.{FromSyncOn}
use Rattle.settings_machine.specs.World.{Image, World}
use Rattle.settings_machine.specs.Events.{Event}
use Rattle.machine_disk.specs.Kept.{Folder, DiskAt}
use Rattle.machine_disk.specs.Ran.{OnTheWay}
use Rattle.machine_disk.proofs.Runs.{at_start, way_now}

-- But below the directory the tree has what is there.
abbrev pub IsThereElsewhere : Names → History → Tree → Type 0
IsThereElsewhere directory h tree = (path : Names) → (IsBelow directory path → ⊥) → node_at tree path ≡ node_at (tree_of h) path

module _ (I : Image) (folder : Folder) (W V : World) (events : List Event) (old new : History) (disk : DiskAt I folder W V old) (directory : Names)
    (P : Tree → Type 0)
    (on_the_way : (c : Tree) → P c × IsThereElsewhere directory old c → OnTheWay I W V events c) where
  at_first : EachSince (OnTheWay I W V events) old old
  at_first = since_start (OnTheWay I W V events) old (way_now I folder W V events old disk)

  first_sync : EachSince (OnTheWay I W V events) old (then synced old)
  first_sync = (
    inr at_first,
    λ c left. subst (OnTheWay I W V events) (sym (settled_state (then synced old) (settled_synced old) c left))
        (inr (at_start I W events (tree_of old) (record { store = disk.store; etc = λ path e. inl (disk.etc.each path e) }))),
  )

  since_sync : Touches (IsBelow directory) (then synced old) new → EachSince P (then synced old) new → EachSince (OnTheWay I W V events) (then synced old) new
  since_sync touches since = since_map (λ c. P c × IsThereElsewhere directory old c) (OnTheWay I W V events) (then synced old) new on_the_way
      (since_both P (IsThereElsewhere directory old) (then synced old) new since
      (since_goes (IsThereElsewhere directory old) (IsAtOrSync (IsBelow directory)) (then synced old) new
      (λ h goes c left path not_below. may_leave_untouched (IsBelow directory) (then synced old) h goes path not_below (node_at c path) (left path)) touches))

  -- Each crash state is on the way: before the sync it was at the start, and from it on it has P.
  pub from_sync : FromSyncOn (Touches (IsBelow directory)) old new → FromSyncOn (EachSince P) old new → EachSince (OnTheWay I W V events) old new
  from_sync (inl same) since = subst (EachSince (OnTheWay I W V events) old) (sym same) at_first
  from_sync (inr touches) (inl same) = subst (EachSince (OnTheWay I W V events) old) (sym same) at_first
  from_sync (inr touches) (inr since) = since_joined (OnTheWay I W V events) old (then synced old) new first_sync (since_sync touches since)
