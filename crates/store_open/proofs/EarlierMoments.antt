-- An opening after whatever happened before: what a crash might have left so far, and then the world before the step or after it.
use Rattle.std.proofs.Common.{inl, inr, Bool, Ok, refl, sym, subst}
use Rattle.outside.specs.Tree.{Tree}
use Rattle.outside.specs.History.{History, next, synced, tree_of, IsSettled}
use Rattle.outside.specs.Since.{EachSince}
use Rattle.outside.specs.declared.disk_error.Failed.{Failed}
use Rattle.outside.proofs.Since.{since_start, since_map, since_joined, since_syncs}
use Rattle.outside.proofs.Crash.{settled_state}
use Rattle.commit_journal.specs.Recovery.{FromSyncOn}
use Rattle.store_open.specs.World.{World, HasWorld}
use Rattle.store_open.specs.Opening.{HasEither}

-- whatever P a crash since an earlier moment keeps, it keeps through the opening, where the world before the step and the world after it have P
pub since_opened : (P : Tree → Type 0) (boot : Bool) (before : World) (start old new : History) → EachSince P start old
    → ((tree : Tree) → HasEither boot (tree_of old) before tree → P tree)
    → FromSyncOn (EachSince (HasEither boot (tree_of old) before)) old new → EachSince P start new
since_opened P boot before start old new so_far each (inl same) = subst (λ h. EachSince P start h) (sym same) so_far
since_opened P boot before start old new so_far each (inr since) =
    since_joined P start (next synced old) new (since_syncs P start old (next synced old) {E = Failed} (Ok tt) so_far refl)
    (since_map (HasEither boot (tree_of old) before) P (next synced old) new each since)

-- on a disk that is settled it holds of every crash state since the start of the call
pub since_settled : (boot : Bool) (before : World) (old new : History) → IsSettled old → HasWorld before (tree_of old)
    → FromSyncOn (EachSince (HasEither boot (tree_of old) before)) old new → EachSince (HasEither boot (tree_of old) before) old new
since_settled boot before old new settled has from =
    since_opened (HasEither boot (tree_of old) before) boot before old old new
    (since_start (HasEither boot (tree_of old) before) old (λ crashed is. subst (HasEither boot (tree_of old) before) (sym
    (settled_state old settled crashed is))
    (inl has)))
    (λ tree is. is) from
