-- A copy is saved in a directory to which the links don't lead.
use Rattle.std.proofs.Common.{◌≡◌, ◌≢◌, ℕ, List, [], ◌∷◌, ◌++◌, Option, Some, None, IsSome}
use Rattle.std.proofs.Common.{Result, Ok, Err, refl, sym, ◌∙◌, ap, subst, length, take, arith, length-append}
use Rattle.std.specs.Result.{result_and}
use Rattle.std.proofs.lemmas.Bool.{false≢true}
use Rattle.std.proofs.Math.Seq.{take-append_seam}
use Rattle.outside.specs.Names.{Names}
use Rattle.outside.specs.Tree.{Tree}
use Rattle.outside.specs.History.{Change, replaced, scribbled, synced, History, tree_of}
use Rattle.outside.specs.Since.{IsAtOrSync, Touches}
use Rattle.outside.specs.Told.{Moves, WhereTold}
use Rattle.outside.specs.declared.disk_error.DiskErr.{DiskErr}
use Rattle.outside.proofs.Told.{moves_map, moves_where, moves_same, moves_after}
use Rattle.outside.proofs.Goes.{goes_stay, goes_map}
use Rattle.commit_journal.specs.Files.{files_below, IsBelow}
use Rattle.settings_tree.specs.declared.held.Held.{Held}
use Rattle.fs_datastore.specs.Saving.{IsEmptyBelow, Saves}
use Rattle.fs_datastore.proofs.Listing.{each_listed, in_list}
use Rattle.version_links.specs.declared.version.Version.{Version}
use Rattle.version_links.specs.declared.chain.Place.{Place}
use Rattle.version_links.specs.Names.{Target, directory, numbers, name_of, patch_name, id_text, store}
use Rattle.version_links.specs.Chain.{Resolves, link_at}
use Rattle.version_links.specs.Fresh.{IsFree, IsFirstFree}
use Rattle.version_links.proofs.Glyphs.{length-hex}
use Rattle.migrate_chain.specs.Store.{IsInOther, at_place}
use Rattle.migrate_chain.specs.Copying.{Copies}

-- The name of a path of the store.
second : Names → List ℕ
second [] = []
second (a ∷ []) = []
second (a ∷ b ∷ rest) = b

names_same : (a b : List ℕ) → store a ≡ store b → a ≡ b
unfolding second
names_same a b e = ap second e

-- Lists with ends of one length are one in front of them.
fronts_same : (xs ys s t : List ℕ) → length s ≡ length t → xs ++ s ≡ ys ++ t → xs ≡ ys
fronts_same xs ys s t size same =
    let lengths : length xs ≡ length ys = omega (arith, ap length same, length-append xs s, length-append ys t) in
    sym (take-append_seam xs s) ∙ ap (take (length xs)) same ∙ ap (λ (n : ℕ). take n (ys ++ t)) lengths ∙ take-append_seam ys t

length-id : (id : ℕ) → length (id_text id) ≡ 16
unfolding id_text
length-id id = length-hex 16 id

-- Directories of one name are those of one version.
one_version : (one other : Target) → name_of (numbers one) ≡ name_of (numbers other)
    → patch_name one.version.major one.version.minor one.version.patch ≡ patch_name other.version.major other.version.minor other.version.patch
one_version one other same =
    fronts_same (patch_name one.version.major one.version.minor one.version.patch) (patch_name other.version.major other.version.minor other.version.patch)
    (95 ∷ id_text one.id) (95 ∷ id_text other.id) (omega (arith, length-id one.id, length-id other.id)) same

-- A data directory that is free is another than the one to which the links lead.
pub free_is_other : (tree : Tree) (target : Target) (place : Place) → IsFree tree target → Resolves tree (at_place place) → directory target ≢ place.directory
free_is_other tree target place free (id, led, at) same =
    let there : Target = record { version = place.version; id = id } in
    let names : name_of (numbers target) ≡ name_of (numbers there) = names_same (name_of (numbers target)) (name_of (numbers there)) (same ∙ at) in
    free.unnamed (ap (link_at tree) (one_version target there names) ∙ led.1.1.1.0.text ∙ ap (λ (n : List ℕ). Some n) (sym names))

-- Where no path is listed, there is none.
empty : (target : Target) (tree : Tree) → IsFree tree target → IsEmptyBelow (directory target) tree
empty target tree free name rest = elim (files_below (directory target) tree (name ∷ rest)) as
    (λ o. files_below (directory target) tree (name ∷ rest) ≡ o → o ≡ None) [
      | None ↦ λ e. refl
      | Some node ↦ λ e. absurd (false≢true (sym (ap (in_list (directory target ++ name ∷ rest)) free.empty)
          ∙ each_listed (directory target) tree name rest (subst IsSome (sym e) refl)))
    ] refl

-- Changes below one directory are changes below another than that one.
map_at : (Q R : Names → Type 0) → ((p : Names) → Q p → R p) → (change : Change) → IsAtOrSync Q change → IsAtOrSync R change
map_at Q R f (replaced path now) here = f path here
map_at Q R f (scribbled path now) here = f path here
map_at Q R f synced here = tt

touches_other : (target : Target) (dir : Names) (old new : History) → directory target ≢ dir → Touches (IsBelow (directory target)) old new
    → Touches (IsInOther dir) old new
touches_other target dir old new other touches =
    goes_map (IsAtOrSync (IsBelow (directory target))) (IsAtOrSync (IsInOther dir)) old new
    (map_at (IsBelow (directory target)) (IsInOther dir) (λ p below. record { target = target; other = other; below = below })) touches

module _ (version : Version) (held : Held) where
  -- No directory is found.
  pub copy_none : (e : DiskErr) (a b : Option History) → b ≡ a → Moves a b (Copies version held (Err e))
  copy_none e a b same = moves_same same (λ h. record {
    others = record { touches = λ place led. goes_stay (IsAtOrSync (IsInOther place.directory)) h };
    copied = tt;
  })

  -- What is held is not saved whole.
  copy_fails : (e : DiskErr) (target : Target) (dir : Names) (a b c : Option History) → WhereTold a (λ h. IsFirstFree (tree_of h) target) → b ≡ a
      → dir ≡ directory target → Moves b c (Saves {E = DiskErr} dir held (Err e)) → Moves a c (Copies version held (Err e))
  copy_fails e target dir a b c first same at m = moves_map (λ old new both. record {
    others = record {
      touches = λ place led. touches_other target place.directory old new (free_is_other (tree_of old) target place both.0.free led)
          (subst (λ d. Touches (IsBelow d) old new) at both.1.others.touches);
    };
    copied = tt;
  }) (moves_where first (moves_after same m))

  -- What is held is saved.
  copy_done : (done : Unit) (target : Target) (dir : Names) (a b c : Option History) → target.version ≡ version
      → WhereTold a (λ h. IsFirstFree (tree_of h) target) → b ≡ a → dir ≡ directory target → Moves b c (Saves {E = DiskErr} dir held (Ok done))
      → Moves a c (Copies {E = DiskErr} version held (Ok target))
  copy_done done target dir a b c same_version first same at m = moves_map (λ old new both.
      let saves = subst (λ d. Saves {E = DiskErr} d held (Ok done) old new) at both.1 in record {
        others = record {
          touches = λ place led. touches_other target place.directory old new (free_is_other (tree_of old) target place both.0.free led)
              saves.others.touches;
        };
        copied = record { version_is = same_version; first = both.0; stands = saves.done (empty target (tree_of old) both.0.free); settled = saves.settled };
      }) (moves_where first (moves_after same m))

  -- It is saved, or not.
  pub copy_saves : (saved : Result Unit DiskErr) (target : Target) (dir : Names) (a b c : Option History) → target.version ≡ version
      → WhereTold a (λ h. IsFirstFree (tree_of h) target) → b ≡ a → dir ≡ directory target → Moves b c (Saves dir held saved)
      → Moves a c (Copies version held (result_and saved (Ok target)))
  copy_saves (Ok done) target dir a b c same_version first same at m = copy_done done target dir a b c same_version first same at m
  copy_saves (Err e) target dir a b c same_version first same at m = copy_fails e target dir a b c first same at m
