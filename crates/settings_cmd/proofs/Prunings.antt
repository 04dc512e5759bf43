-- A store that was pruned has nothing left to prune.
use Rattle.std.proofs.Common.{◌≡◌, inl, inr, ℕ, List, [], ◌∷◌, ◌++◌, append_assoc, codes, Some, None, Result, Ok, Err, refl, sym, ◌∙◌, ap, subst}
use Rattle.outside.specs.Names.{Names}
use Rattle.outside.specs.History.{History, tree_of}
use Rattle.outside.specs.Tree.{Tree, node_at, paths_below}
use Rattle.outside.specs.Since.{Touches}
use Rattle.outside.proofs.Goes.{tree_untouched}
use Rattle.fs_datastore.proofs.Listing.{listed_is}
use Rattle.version_links.specs.Chain.{Resolves}
use Rattle.version_links.specs.Names.{Target}
use Rattle.version_links.specs.declared.chain.Place.{Place}
use Rattle.version_links.proofs.Turns.{same_outcome}
use Rattle.migrate_chain.specs.Pruning.{Prunes, SoMany, paths_in_store}
use Rattle.migrate_chain.specs.Store.{at_place, IsInOther, IsLeftOver}
use Rattle.migrate_chain.specs.declared.prune_error.PruneError.{PruneError}
use Rattle.migrate_chain.specs.declared.prune_error.PruneError.TheVariants as pruning
use Rattle.migrate_chain.proofs.Migrated.{touched_since}
use Rattle.migrate_chain.proofs.Stays.{other_apart}
use Rattle.settings_cmd.specs.Prunes.{pruned_line, AnswersPruning}
use Rattle.settings_cmd.specs.Laws.{PrunesOnce}

-- None of these paths has P.
none_counted : (P : Names → Type 0) (tree : Tree) → ((path : Names) → P path → node_at tree path ≡ None) → (done left : List Names) (count : ℕ)
    → done ++ left ≡ paths_below (codes "store" ∷ []) tree → SoMany P left count → count ≡ 0
none_counted P tree none done [] count whole so_many = so_many
none_counted P tree none done (path ∷ left) count whole (inl (before, has, more, rest)) =
    let listed = listed_is (codes "store" ∷ []) tree done left path whole in
    let clash : None ≡ Some listed.node = sym (none path has) ∙ listed.there in absurd (cc clash)
none_counted P tree none done (path ∷ left) count whole (inr (not, rest)) =
    none_counted P tree none (done ++ path ∷ []) left count (append_assoc done (path ∷ []) left ∙ whole) rest

-- The links lead where they led.
still_leads : (place : Place) (old new : History) → Resolves (tree_of old) (at_place place) → Touches (IsInOther place.directory) old new
    → Resolves (tree_of new) (at_place place)
still_leads place old new (id, led, at) touches =
    let there : Target = record { version = place.version; id = id } in
    same_outcome (tree_of new) (tree_of old)
    (record {
      same = λ path link. tree_untouched (IsInOther place.directory) old new touches path
          (λ other. other_apart there path (inl link) (subst (λ (d : Names). IsInOther d path) at other));
    })
    (at_place place) (id, led, at)

-- Nothing is left to count.
none_left : (first count : ℕ) (old mid new : History) → Prunes (Ok first) old mid → Prunes (Ok count) mid new → count ≡ 0
none_left first count old mid new one two =
    let place = one.led.0 in
    let led : Resolves (tree_of mid) (at_place place) =
    still_leads place old mid one.led.1 (touched_since (IsInOther place.directory) old mid (one.sync_first place one.led.1)) in
    none_counted (IsLeftOver place.directory) (tree_of mid) (one.emptied place one.led.1) [] (paths_in_store mid) count refl (two.counted place led)

-- A line is one of a pruning that ended well.
ended_well : (result : Result ℕ PruneError) (line : List ℕ) → AnswersPruning result (Ok line) → (count : ℕ) × (result ≡ Ok count) × (line ≡ pruned_line count)
ended_well (Ok count) line (inl is) = (count, refl, cc is)
ended_well (Ok count) line (inr is) = absurd (cc is)
ended_well (Err pruning.NoStore) line is = absurd (cc is)
ended_well (Err (pruning.BadLink path)) line is = absurd (cc is)
ended_well (Err pruning.Failed) line is = absurd (cc is)
ended_well (Err pruning.Memory) line is = absurd (cc is)

pub prunes_once : PrunesOnce
prunes_once first line old mid new one two =
    let a = ended_well one.result first one.answers in
    let b = ended_well two.result line two.answers in
    b.2 ∙ ap pruned_line (none_left a.0 b.0 old mid new (subst (λ (r : Result ℕ PruneError). Prunes r old mid) a.1 one.prunes.told)
    (subst (λ (r : Result ℕ PruneError). Prunes r mid new) b.1 two.prunes.told))
