-- The keys of a tree begin with `settings`.
use Rattle.std.proofs.Common.{◌≡◌, ℕ, List, ◌∷◌, Option, Some, None, Ok, ok_or, take, IsTrue, suc, [], arith, codes, refl, sym, ap, ◌∙◌}
use Rattle.std.specs.Prelude.{All}
use Rattle.std.specs.Map.{keys_of}
use Rattle.std.proofs.lemmas.List.Elements.{All-nil, All-cons}
use Rattle.key_names.specs.Key.{is_prefix}
use Rattle.serde_json.specs.Data.{Data}
use Rattle.json_trees.specs.Json.{data_of}
use Rattle.json_trees.specs.Tree.{Path, tree_pairs, flattened, pending_leaf}
use Rattle.json_trees.specs.declared.pending.Pending.{Pending}
use Rattle.json_trees.specs.declared.tree_error.TreeError.TheVariants.{NotJson}
use Rattle.json_trees.specs.Collected.{result_and_then}
use Rattle.json_trees.proofs.Flat.{All_below-tree_pairs}
use Rattle.settings_tree.specs.Content.{settings_key}
use Rattle.settings_machine.specs.Requests.{Request, Commit, CommitAndApply, Set, IsProper}
use Rattle.settings_machine.specs.Asked.{guarded_by}
use Rattle.settings_machine.specs.declared.request.Guard.{Guard}
use Rattle.settings_machine.specs.declared.request.Guard.TheVariants.{Off, Render}
use Rattle.api_http.specs.Spelled.{Spells, at_root, at_os, at_settings, at_patch, at_services, at_files, at_affected, at_pending}
use Rattle.api_http.specs.Spelled.{at_drop, at_list, at_commit, at_apply, at_apply_all, at_commit_and_apply, at_job}
use Rattle.api_http.specs.Spelled.{at_set, at_plan, at_plan_file, at_store, at_verify, GivesKeysOrPrefix, by_keys, by_prefix, by_neither}
use Rattle.api_http.specs.declared.route.Route.{Route}
use Rattle.api_http.specs.Query.{Pair}

-- a key that begins with the segment `settings` is below it, or is it
begins : (key : Path) → take 1 key ≡ settings_key → IsTrue (is_prefix settings_key key)
begins [] e = cc
begins (name ∷ rest) e = let same : name ∷ [] ≡ settings_key = e in rw (name_is name same) refl
  where
    name_is : (name : List ℕ) → name ∷ [] ≡ settings_key → name ≡ codes "settings"
    name_is name e = cc

-- the keys of the pairs of a text that is at a path begin with this path
text_below : (o : Option Data) (body : List ℕ) (pairs : List (Path × Pending)) → data_of body ≡ o → flattened pending_leaf settings_key body ≡ Ok pairs
    → All (λ key. take 1 key ≡ settings_key) (keys_of pairs)
text_below (Some d) body pairs is e = All_below-tree_pairs pending_leaf settings_key d pairs
    (sym (ap (λ r. result_and_then (tree_pairs pending_leaf settings_key) (ok_or r NotJson)) is) ∙ e)
text_below None body pairs is e = let never = sym (ap (λ r. result_and_then (tree_pairs pending_leaf settings_key) (ok_or r NotJson)) is) ∙ e in cc

-- what holds of the keys holds of the pairs
All-unmap : (pairs : List (Path × Pending)) → All (λ key. take 1 key ≡ settings_key) (keys_of pairs)
    → All (λ pair. IsTrue (is_prefix settings_key pair.0)) pairs
All-unmap [] h = All-nil (λ (pair : Path × Pending). IsTrue (is_prefix settings_key pair.0))
All-unmap (pair ∷ pairs) h = All-cons (λ (pair : Path × Pending). IsTrue (is_prefix settings_key pair.0)) pair pairs (begins pair.0 (h 0 pair.0 (omega arith)))
    (All-unmap pairs (λ k d lt. h (suc k) d (omega arith)))

-- the keys of the tree of a body begin with `settings`
pub patch_proper : (body : List ℕ) (pairs : List (Path × Pending)) → flattened pending_leaf settings_key body ≡ Ok pairs
    → All (λ pair. IsTrue (is_prefix settings_key pair.0)) pairs
patch_proper body pairs e = All-unmap pairs (text_below _ body pairs refl e)

either_proper : (pairs : List Pair) (q : Request) → GivesKeysOrPrefix pairs q → IsProper q
either_proper pairs _ (by_keys l a) = tt
either_proper pairs _ (by_prefix v k a s) = tt
either_proper pairs _ (by_neither a) = tt

-- what is guarded is as proper as it is
guarded_proper : (g : Guard) (q : Request) → IsProper q → IsProper (guarded_by g q)
guarded_proper Off q proper = proper
guarded_proper Render q proper = proper

-- what a query and a body spell is proper
pub spelled_proper : (pairs : List Pair) (body : List ℕ) (r : Route) (q : Request) → Spells pairs body r q → IsProper q
spelled_proper pairs body _ _ (at_settings q a) = either_proper pairs q a
spelled_proper pairs body _ _ (at_patch tx changes _ flat) = patch_proper body changes flat
spelled_proper pairs body _ _ (at_root _) = tt
spelled_proper pairs body _ _ (at_os _) = tt
spelled_proper pairs body _ _ (at_services _ _) = tt
spelled_proper pairs body _ _ (at_files _ _) = tt
spelled_proper pairs body _ _ (at_affected _ _) = tt
spelled_proper pairs body _ _ (at_pending _ _) = tt
spelled_proper pairs body _ _ (at_drop _ _) = tt
spelled_proper pairs body _ _ (at_list _) = tt
spelled_proper pairs body _ _ (at_commit tx g _ _) = guarded_proper g (Commit tx) tt
spelled_proper pairs body _ _ (at_apply _) = tt
spelled_proper pairs body _ _ (at_apply_all _) = tt
spelled_proper pairs body _ _ (at_commit_and_apply tx g _ _) = guarded_proper g (CommitAndApply tx) tt
spelled_proper pairs body _ _ (at_job _) = tt
spelled_proper pairs body _ _ (at_set g changes _ flat) = guarded_proper g (Set changes) (patch_proper body changes flat)
spelled_proper pairs body _ _ (at_plan _ _) = tt
spelled_proper pairs body _ _ (at_plan_file _ _ _ _) = tt
spelled_proper pairs body _ _ (at_store _) = tt
spelled_proper pairs body _ _ (at_verify _) = tt
