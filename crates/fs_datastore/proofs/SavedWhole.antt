-- All that is held is saved below a directory that has nothing below it.
use Rattle.std.proofs.Common.{◌≡◌, ℕ, List, Option, Some, None, is_some, Bool, true, false, cond, Result, Ok, Err, refl, sym, ap, ◌∙◌, subst}
use Rattle.std.specs.Prelude.{IsErr, option_map}
use Rattle.std.specs.FinMap.{FinMap, get}
use Rattle.std.proofs.lemmas.Bool.{false≢true}
use Rattle.outside.specs.Names.{Names}
use Rattle.outside.specs.Told.{Moves}
use Rattle.outside.specs.Tree.{Node, Tree}
use Rattle.outside.specs.History.{History, tree_of, IsSettled}
use Rattle.outside.specs.Since.{IsAtOrSync, Touches}
use Rattle.outside.specs.DiskCalls.{Syncs}
use Rattle.outside.proofs.Told.{moves_map, moves_then}
use Rattle.outside.proofs.Goes.{goes_joined}
use Rattle.commit_journal.specs.Files.{files_below, IsBelow}
use Rattle.commit_journal.proofs.Elsewhere.{only_below, touches_synced}
use Rattle.key_names.specs.Order.{bytes_cmp, key_cmp}
use Rattle.json_trees.specs.declared.pending.Pending.{Pending}
use Rattle.json_trees.specs.declared.scalar.Scalar.{Scalar}
use Rattle.settings_maps.specs.Maps.{value_at}
use Rattle.settings_tree.specs.Change.{Place}
use Rattle.settings_tree.specs.Change.{Live, Meta, Pend, TheOwed, TheImage, TheWeak}
use Rattle.settings_tree.specs.Content.{IsContent}
use Rattle.settings_tree.specs.Pending.{IsPending}
use Rattle.settings_tree.specs.declared.held.Held.{Held}
use Rattle.fs_datastore.specs.Places.{path_of, is_place}
use Rattle.fs_datastore.specs.Values.{live, pending, owed, image, weak, value_in}
use Rattle.fs_datastore.specs.Stands.{Shows, Stands}
use Rattle.fs_datastore.proofs.Showing.{shows_alike}
use Rattle.fs_datastore.specs.Saving.{IsEmptyBelow, Saves, Values, put_over, value_at_place}
use Rattle.fs_datastore.specs.Saving.{single_values, all_pending, all_metadata, live_values, SavesTo, TellsFormat}
use Rattle.fs_datastore.proofs.Savings.{none_else}

-- ---- the values, part by part

-- the files of one name
pub singles : (held : Held) (keys : List (List (List ℕ))) → keys ≡ held.live.weak → (p : Place)
    → put_over (value_at_place TheWeak (weak keys)) (put_over (value_at_place TheImage (image held.image)) (value_at_place TheOwed (owed held.owed))) p ≡
    single_values held p
singles held keys is (Live k) = refl
singles held keys is (Meta k n) = refl
singles held keys is (Pend t k) = refl
singles held keys is TheOwed = refl
singles held keys is TheImage = refl
singles held keys is TheWeak = ap (λ (ks : List (List (List ℕ))). Some (weak ks)) is

-- the parts of what is held
pub parts : (held : Held) (values : FinMap key_cmp Scalar) (metadata : FinMap key_cmp (FinMap bytes_cmp Scalar))
    (transactions : FinMap bytes_cmp (FinMap key_cmp Pending)) → values ≡ held.live.values → metadata ≡ held.live.metadata → transactions ≡ held.pending
    → (p : Place) → put_over (single_values held) (put_over (all_pending transactions) (put_over (all_metadata metadata) (live_values values))) p ≡ value_in
    held (Some held.live.weak) p
parts held values metadata transactions vs ms ts (Live k) = ap (λ (m : FinMap key_cmp Scalar). option_map live (get m k)) vs
parts held values metadata transactions vs ms ts (Meta k n) = none_else (all_metadata metadata (Meta k n))
    ∙ ap (λ (m : FinMap key_cmp (FinMap bytes_cmp Scalar)). option_map live (value_at m k n)) ms
parts held values metadata transactions vs ms ts (Pend t k) = none_else (all_pending transactions (Pend t k))
    ∙ ap (λ (m : FinMap bytes_cmp (FinMap key_cmp Pending)). option_map pending (value_at m t k)) ts
parts held values metadata transactions vs ms ts TheOwed = refl
parts held values metadata transactions vs ms ts TheImage = refl
parts held values metadata transactions vs ms ts TheWeak = refl

-- ---- what the files represent

-- an empty directory shows nothing
empty_shows : (dir : Names) (tree : Tree) → IsEmptyBelow dir tree → Shows (files_below dir tree) (λ p. None) false
empty_shows dir tree empty = record {
  named = λ name rest there. absurd (false≢true (sym (ap is_some (empty name rest)) ∙ there));
  places = λ p. by (is_place p) (files_below dir tree (path_of p)) (at p);
  format = empty _ _;
}
  where
    at : (p : Place) → files_below dir tree (path_of p) ≡ None
    at (Live k) = empty _ _
    at (Meta k n) = empty _ _
    at (Pend t k) = empty _ _
    at TheOwed = empty _ _
    at TheImage = empty _ _
    at TheWeak = empty _ _

    by : (b : Bool) (n : Option Node) → n ≡ None → cond b n None ≡ None
    by true n is = is
    by false n is = refl

abbrev all_of : Held → Values
all_of held = value_in held (Some held.live.weak)

module _ {E : Type 0} (dir : Names) (held : Held) where
  stands : (old mid late : History) (done also : Unit) → IsContent held.live → IsPending held.pending → SavesTo {E = E} dir (all_of held) (Ok done) old mid
      → TellsFormat {E = E} dir (Ok also) mid late → IsEmptyBelow dir (tree_of old) → Stands (files_below dir (tree_of late)) held 2
  stands old mid late done also content rules saves tells empty = record {
    told = true;
    listed = Some held.live.weak;
    shows = shows_alike (files_below dir (tree_of late)) (put_over (all_of held) (λ p. None)) (all_of held) true (λ p. none_else (all_of held p))
        (tells.shows (put_over (all_of held) (λ p. None)) false (saves.shows (λ p. None) false (empty_shows dir (tree_of old) empty)));
    format_is = refl;
    weak_is = refl;
    content = content;
    pending = rules;
  }

  at_end : (result : Result Unit E) (old mid late new : History) (done also : Unit) → IsContent held.live → IsPending held.pending
      → SavesTo {E = E} dir (all_of held) (Ok done) old mid → TellsFormat {E = E} dir (Ok also) mid late → Syncs result late new → Saves dir held result old new
  at_end (Ok end) old mid late new done also content rules saves tells syncs = record {
    done = λ empty. subst (λ (h : History). Stands (files_below dir (tree_of h)) held 2) (sym syncs)
        (stands old mid late done also content rules saves tells empty);
    settled = subst IsSettled (sym syncs) (λ path node may. may);
    others = only_below dir old new (goes_joined (IsAtOrSync (IsBelow dir)) old late new
        (goes_joined (IsAtOrSync (IsBelow dir)) old mid late saves.touches tells.touches) (touches_synced dir late new syncs));
  }
  at_end (Err e) old mid late new done also content rules saves tells syncs = record {
    done = tt;
    settled = tt;
    others = only_below dir old new (subst (λ (h : History). Touches (IsBelow dir) old h) (sym syncs)
        (goes_joined (IsAtOrSync (IsBelow dir)) old mid late saves.touches tells.touches));
  }

  -- all is saved, and synced or not
  pub whole_saved : (done also : Unit) (result : Result Unit E) (a b c d : Option History) → IsContent held.live → IsPending held.pending
      → Moves a b (SavesTo {E = E} dir (value_in held (Some held.live.weak)) (Ok done)) → Moves b c (TellsFormat {E = E} dir (Ok also))
      → Moves c d (Syncs result) → Moves a d (Saves dir held result)
  whole_saved done also result a b c d content rules m n s =
      let both : Moves a c (λ old late. (mid : History) × SavesTo {E = E} dir (all_of held) (Ok done) old mid × TellsFormat {E = E} dir (Ok also) mid late) =
      moves_then (λ old mid late saves tells. (mid, saves, tells)) m n in
      moves_then (λ old late new w syncs. at_end result old w.0 late new done also content rules w.1 w.2 syncs) both s

  failed : (result : Result Unit E) (old new : History) → IsErr result → Touches (IsBelow dir) old new → Saves dir held result old new
  failed (Ok done) old new fails touches = absurd (false≢true fails)
  failed (Err e) old new fails touches = record { done = tt; settled = tt; others = only_below dir old new touches }

  -- not all values are saved
  pub whole_fails : (e : E) (result : Result Unit E) (a b : Option History) → IsErr result
      → Moves a b (SavesTo dir (value_in held (Some held.live.weak)) (Err e)) → Moves a b (Saves dir held result)
  whole_fails e result a b fails m = moves_map (λ old new s. failed result old new fails s.touches) m

  -- the format is not told
  pub whole_untold : (done : Unit) (e : E) (result : Result Unit E) (a b c : Option History) → IsErr result
      → Moves a b (SavesTo {E = E} dir (value_in held (Some held.live.weak)) (Ok done)) → Moves b c (TellsFormat {E = E} dir (Err e))
      → Moves a c (Saves dir held result)
  whole_untold done e result a b c fails m n = moves_then (λ old mid new s t. failed result old new fails
      (goes_joined (IsAtOrSync (IsBelow dir)) old mid new s.touches t.touches)) m n
