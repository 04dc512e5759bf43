-- Other data directories are emptied.
use Rattle.std.proofs.Common.{◌≡◌, ◌≤◌, ◌<◌, ◌+◌, ◌||◌, length, get_or, take, cond, codes, arith, inl, inr, ◌⊎◌, ℕ, List, []}
use Rattle.std.proofs.Common.{◌∷◌, ◌++◌, Bool, true, false, Option, Some, None, IsSome, Result, Ok, Err, refl, sym, ◌∙◌, ap, subst}
use Rattle.std.specs.List.{AllByRecursion}
use Rattle.std.specs.Ordering.{eq_by_cmp}
use Rattle.std.proofs.lemmas.List.{take_more}
use Rattle.std.proofs.lemmas.Bool.{false≢true}
use Rattle.outside.specs.Names.{Names, path_cmp}
use Rattle.outside.specs.Tree.{Tree, Node, node_at, set_node, paths_below}
use Rattle.outside.proofs.Trees.{node_at-set_node, node_at-set_same, path_cases}
use Rattle.fs_datastore.proofs.Listing.{in_list, each_listed}
use Rattle.commit_journal.specs.Recovery.{FromSyncOn}
use Rattle.outside.specs.History.{replaced, synced, History, next, tree_of, IsSettled}
use Rattle.outside.specs.Since.{EachSince, IsAtOrSync, Touches}
use Rattle.outside.specs.DiskCalls.{Puts, Syncs}
use Rattle.outside.specs.Told.{Moves, WhereTold}
use Rattle.outside.specs.declared.disk_error.DiskErr.{DiskErr}
use Rattle.outside.specs.declared.disk_error.Failed.{Failed as Failure}
use Rattle.outside.specs.declared.disk_error.DiskErr.TheVariants as device
use Rattle.outside.proofs.Crash.{settled_synced}
use Rattle.outside.proofs.Goes.{goes_stay, goes_joined}
use Rattle.outside.proofs.Since.{since_map}
use Rattle.outside.proofs.Told.{moves_map, moves_stay, moves_then, moves_where, moves_same}
use Rattle.commit_journal.specs.Files.{Files}
use Rattle.commit_journal.specs.Stands.{StandsFor}
use Rattle.commit_journal.proofs.Steps.{goes_one}
use Rattle.settings_tree.specs.declared.held.Held.{Held}
use Rattle.version_links.specs.declared.chain.Place.{Place}
use Rattle.version_links.specs.declared.link_error.LinkError.{LinkError}
use Rattle.version_links.specs.declared.link_error.LinkError.TheVariants as links
use Rattle.version_links.specs.Names.{Target, directory, name_of, numbers, store, is_in_store}
use Rattle.version_links.specs.Chain.{nowhere, bad, Resolves}
use Rattle.version_links.proofs.Turns.{same_outcome}
use Rattle.migrate_chain.specs.Store.{at_place, HasStore, IsInOther, IsLeftOver}
use Rattle.migrate_chain.specs.PruningSteps.{IsDirectory, RemovesAll, RemovesOthers}
use Rattle.migrate_chain.specs.PruneErrors.{of_link, of_disk}
use Rattle.migrate_chain.specs.Pruning.{Prunes, SoMany, paths_in_store}
use Rattle.migrate_chain.specs.declared.prune_error.PruneError.{PruneError}
use Rattle.migrate_chain.specs.declared.prune_error.PruneError.TheVariants.{NoStore, BadLink, Failed, Memory}
use Rattle.migrate_chain.proofs.Stays.{Matters, paths_kept, other_apart}
use Rattle.migrate_chain.proofs.Started.{one_place}
use Rattle.migrate_chain.proofs.Migrated.{touched_since}

-- ---- paths below other directories

left_over_other : (dir path : Names) → IsLeftOver dir path → IsInOther dir path
left_over_other dir path is = record { target = is.target; other = is.other; below = is.below }

-- The first two names of a path, and the length of one below a directory.
pub left_over : (dir path ps : Names) (folder name : List ℕ) → ps ≡ path → 3 ≤ length ps → folder ≡ get_or ps 0 folder → name ≡ get_or ps 1 name
    → IsDirectory folder name → (dir ≡ folder ∷ name ∷ [] → ⊥) → IsLeftOver dir path
left_over dir path [] folder name there three f n is other = absurd (omega arith)
left_over dir path (x ∷ []) folder name there three f n is other = absurd (omega arith)
left_over dir path (x ∷ y ∷ []) folder name there three f n is other = absurd (omega arith)
left_over dir path (x ∷ y ∷ z ∷ rest) folder name there three f n is other = record {
  target = is.1.target;
  fits = is.1.fits;
  other = λ same. other (sym same ∙ ap (λ (l : List ℕ). l ∷ name_of (numbers is.1.target) ∷ []) (sym is.0)
      ∙ ap (λ (l : List ℕ). folder ∷ l ∷ []) (sym is.1.name_is));
  below = (
    z,
    rest,
    sym there ∙ ap (λ (l : List ℕ). l ∷ y ∷ z ∷ rest) (sym f ∙ is.0) ∙ ap (λ (l : List ℕ). codes "store" ∷ l ∷ z ∷ rest)
        (sym n ∙ is.1.name_is),
  );
}

-- A path of two names.
pub two_are : (path ps : Names) (first second : List ℕ) → ps ≡ path → 2 ≤ length ps → length ps < 3 → first ≡ get_or ps 0 first → second ≡ get_or ps 1 second
    → path ≡ first ∷ second ∷ []
two_are path [] first second there two short f s = absurd (omega (arith, two))
two_are path (x ∷ []) first second there two short f s = absurd (omega (arith, two))
two_are path (x ∷ y ∷ []) first second there two short f s = sym there ∙ ap (λ (l : List ℕ). l ∷ y ∷ []) (sym f) ∙ ap (λ (l : List ℕ). first ∷ l ∷ []) (sym s)
two_are path (x ∷ y ∷ z ∷ rest) first second there two short f s = absurd (omega (arith, short))

-- What a path below a data directory begins with.
pub begins_so : (dir path ps : Names) (folder name : List ℕ) → ps ≡ path → folder ≡ get_or ps 0 folder → name ≡ get_or ps 1 name → IsLeftOver dir path
    → IsDirectory folder name × (dir ≡ folder ∷ name ∷ [] → ⊥)
begins_so dir path ps folder name there f n is =
    let whole : ps ≡ codes "store" ∷ name_of (numbers is.target) ∷ is.below.0 ∷ is.below.1 = there ∙ is.below.2 in
    let first : folder ≡ codes "store" = f ∙ ap (λ (l : Names). get_or l 0 folder) whole in
    let second : name ≡ name_of (numbers is.target) = n ∙ ap (λ (l : Names). get_or l 1 name) whole in (
      (first, record { target = is.target; fits = is.fits; name_is = second }),
      λ same. is.other (ap (λ (l : List ℕ). codes "store" ∷ l ∷ []) (sym second) ∙ ap (λ (l : List ℕ). l ∷ name ∷ []) (sym first) ∙ sym same),
    )

-- ---- removals, one after another

-- Nothing is removed yet.
pub none_removed : (dir : Names) (a : Option History) → Moves a a (RemovesAll dir [])
none_removed dir a = moves_stay (λ h. record { touches = goes_stay (IsAtOrSync (IsInOther dir)) h; gone = tt; fewer = λ path none. none })

all_map : {P Q : Names → Type 0} (ps : List Names) → ((p : Names) → P p → Q p) → AllByRecursion P ps → AllByRecursion Q ps
all_map [] f all = tt
all_map (p ∷ ps) f all = (f p all.0, all_map ps f all.1)

all_push : (P : Names → Type 0) (ps : List Names) (p : Names) → AllByRecursion P ps → P p → AllByRecursion P (ps ++ p ∷ [])
all_push P [] p all one = (one, tt)
all_push P (q ∷ ps) p all one = (all.0, all_push P ps p all.1 one)

taken : (paths : List Names) (i : ℕ) (p : Names) → i < length paths → p ≡ get_or paths i p → take (i + 1) paths ≡ take i paths ++ p ∷ []
taken paths i p within here = take_more paths i p within ∙ ap (λ (x : Names). take i paths ++ x ∷ []) (sym here)

none_more : (tree : Tree) (path p : Names) → node_at tree p ≡ None → node_at (set_node tree path None) p ≡ None
none_more tree path p none = node_at-set_node tree path None p ∙ either (eq_by_cmp path_cmp p path) (node_at tree p) none
  where
    either : (b : Bool) (o : Option Node) → o ≡ None → cond b None o ≡ None
    either true o is = refl
    either false o is = is

one_gone : (dir : Names) (paths : List Names) (path : Names) (done : Unit) (old mid new : History) → IsLeftOver dir path → RemovesAll dir paths old mid
    → Puts {E = Failure} path None (Ok done) mid new → RemovesAll dir (paths ++ path ∷ []) old new
one_gone dir paths path done old mid new is so_far puts = record {
  touches = goes_joined (IsAtOrSync (IsInOther dir)) old mid new so_far.touches
      (goes_one (IsAtOrSync (IsInOther dir)) mid new (replaced path None) puts (left_over_other dir path is));
  gone = all_push (λ q. IsLeftOver dir q → node_at (tree_of new) q ≡ None) paths path (all_map paths (λ p was left. fewer p (was left)) so_far.gone)
      (λ left. ap (λ (h : History). node_at (tree_of h) path) puts ∙ node_at-set_same (tree_of mid) path None);
  fewer = λ p none. fewer p (so_far.fewer p none);
}
  where
    fewer : (p : Names) → node_at (tree_of mid) p ≡ None → node_at (tree_of new) p ≡ None
    fewer p none = ap (λ (h : History). node_at (tree_of h) p) puts ∙ none_more (tree_of mid) path p none

-- One path more is removed.
pub one_removed : (dir : Names) (paths : List Names) (i : ℕ) (path : Names) (done : Unit) (a b c : Option History) → i < length paths
    → path ≡ get_or paths i path → IsLeftOver dir path → Moves a b (RemovesAll dir (take i paths)) → Moves b c (Puts {E = Failure} path None (Ok done))
    → Moves a c (RemovesAll dir (take (i + 1) paths))
one_removed dir paths i path done a b c within here is so_far m =
    subst (λ ps. Moves a c (RemovesAll dir ps)) (sym (taken paths i path within here))
    (moves_then (λ old mid new one two. one_gone dir (take i paths) path done old mid new is one two) so_far m)

-- One path more stays.
pub one_stays : (dir : Names) (paths : List Names) (i : ℕ) (path : Names) (a b : Option History) → i < length paths → path ≡ get_or paths i path
    → (IsLeftOver dir path → ⊥) → Moves a b (RemovesAll dir (take i paths)) → Moves a b (RemovesAll dir (take (i + 1) paths))
one_stays dir paths i path a b within here other so_far =
    subst (λ ps. Moves a b (RemovesAll dir ps)) (sym (taken paths i path within here))
    (moves_map (λ old new is. record {
      touches = is.touches;
      gone = all_push (λ q. IsLeftOver dir q → node_at (tree_of new) q ≡ None) (take i paths) path
          is.gone (λ left. absurd (other left));
      fewer = is.fewer;
    }) so_far)

-- ---- how many

many_push : (P : Names → Type 0) (ps : List Names) (n : ℕ) (p : Names) → P p → SoMany P ps n → SoMany P (ps ++ p ∷ []) (n + 1)
many_push P [] n p is none = inl (0, is, ap (λ k. k + 1) none, refl)
many_push P (q ∷ ps) n p is (inl (m, has, one, rest)) = inl (m + 1, has, ap (λ k. k + 1) one, many_push P ps m p is rest)
many_push P (q ∷ ps) n p is (inr (not, rest)) = inr (not, many_push P ps n p is rest)

many_skip : (P : Names → Type 0) (ps : List Names) (n : ℕ) (p : Names) → (P p → ⊥) → SoMany P ps n → SoMany P (ps ++ p ∷ []) n
many_skip P [] n p not none = inr (not, none)
many_skip P (q ∷ ps) n p not (inl (m, has, one, rest)) = inl (m, has, one, many_skip P ps m p not rest)
many_skip P (q ∷ ps) n p not (inr (other, rest)) = inr (other, many_skip P ps n p not rest)

pub one_more : (P : Names → Type 0) (paths : List Names) (i n : ℕ) (p : Names) → i < length paths → p ≡ get_or paths i p → P p → SoMany P (take i paths) n
    → SoMany P (take (i + 1) paths) (n + 1)
one_more P paths i n p within here is so_far = subst (λ ps. SoMany P ps (n + 1)) (sym (taken paths i p within here)) (many_push P (take i paths) n p is so_far)

pub no_more : (P : Names → Type 0) (paths : List Names) (i n : ℕ) (p : Names) → i < length paths → p ≡ get_or paths i p → (P p → ⊥) → SoMany P (take i paths) n
    → SoMany P (take (i + 1) paths) n
no_more P paths i n p within here not so_far = subst (λ ps. SoMany P ps n) (sym (taken paths i p within here)) (many_skip P (take i paths) n p not so_far)

-- ---- the store

module _ (place : Place) (held : Held) (format : ℕ) where
  -- Changes below other data directories leave the store as it is, with a journal that may be there, at every moment.
  pub store_untouched : (old new : History) → IsSettled old → HasStore place held format (tree_of old) → Touches (IsInOther place.directory) old new
      → EachSince (HasStore place held format) old new
  store_untouched old new settled store touches =
      since_map (λ crashed. (p : Names) → Matters place.directory p → node_at crashed p ≡ node_at (tree_of old) p) (HasStore place held format) old new
      (λ crashed same. kept crashed same)
      (paths_kept (IsInOther place.directory) (Matters place.directory)
      (λ p matters other. other_apart there p (subst (λ d. Matters d p) store.led.2 matters) (subst (λ d. IsInOther d p) store.led.2 other)) old new touches
      (λ p matters. settled p))
    where
      there : Target
      there = record { version = place.version; id = store.led.0 }

      itself : (d : Names) → d ≡ directory there → is_in_store (d ++ []) ≡ true
      itself d at = ap (λ (e : Names). is_in_store (e ++ [])) at

      below : (crashed : Tree) → ((p : Names) → Matters place.directory p → node_at crashed p ≡ node_at (tree_of old) p) → (rest : Names)
          → node_at crashed (place.directory ++ rest) ≡ node_at (tree_of old) (place.directory ++ rest)
      below crashed same [] = same (place.directory ++ []) (inl (itself place.directory store.led.2))
      below crashed same (name ∷ rest) = same (place.directory ++ name ∷ rest) (inr (name, rest, refl))

      kept : (crashed : Tree) → ((p : Names) → Matters place.directory p → node_at crashed p ≡ node_at (tree_of old) p) → HasStore place held format crashed
      kept crashed same = record {
        led = same_outcome crashed (tree_of old) (record { same = λ p pass. same p (inl pass) }) (at_place place) store.led;
        stands = record {
          files = store.stands.files;
          found = subst (λ (found : Files). StandsFor found store.stands.files)
              (λ i rest. sym (below crashed same rest) i) store.stands.found;
          stands = store.stands.stands;
        };
      }

-- ---- pruning

is_early : PruneError → Bool
is_early NoStore = true
is_early (BadLink path) = true
is_early Failed = false
is_early Memory = false

not_error : (x e : PruneError) → ◌≡◌ {A = Result ℕ PruneError} (Err x) (Err e) → x ≡ e
not_error x e is = cc

ok_error : (n : ℕ) (x : PruneError) → ◌≡◌ {A = Result ℕ PruneError} (Ok n) (Err x) → ⊥
ok_error n x e = cc

module _ (place : Place) (old new : History) (led : Resolves (tree_of old) (at_place place))
    (from : FromSyncOn (Touches (IsInOther place.directory)) old new) where
  any_first : (other : Place) → Resolves (tree_of old) (at_place other) → FromSyncOn (Touches (IsInOther other.directory)) old new
  any_first other also = subst (λ (q : Place). FromSyncOn (Touches (IsInOther q.directory)) old new) (one_place (tree_of old) place other led also) from

  any_keeps : (q : Place) (held : Held) (format : ℕ) → HasStore q held format (tree_of old) → FromSyncOn (EachSince (HasStore q held format)) old new
  any_keeps q held format store = elim (any_first q store.led) [
    | inl is ↦ inl is
    | inr touches ↦ inr (store_untouched q held format (next synced old) new (settled_synced old) store touches)
  ]

  any_kept : (q : Place) (held : Held) (format : ℕ) → IsSettled old → HasStore q held format (tree_of old) → EachSince (HasStore q held format) old new
  any_kept q held format settled store = store_untouched q held format old new settled store
      (touched_since (IsInOther q.directory) old new (any_first q store.led))

  prunes_late : (x : PruneError) → is_early x ≡ false → Prunes (Err x) old new
  unfolding is_early
  prunes_late x late = record {
    sync_first = any_first;
    keeps = any_keeps;
    kept = any_kept;
    emptied = tt;
    counted = tt;
    led = tt;
    no_store = λ is. absurd (false≢true (sym late ∙ ap is_early (not_error x NoStore is)));
    bad_link = λ path is. absurd (false≢true (sym late ∙ ap is_early (not_error x (BadLink path) is)));
  }

late_is : (x : PruneError) → (x ≡ Failed) ⊎ (x ≡ Memory) → is_early x ≡ false
unfolding is_early
late_is x (inl is) = ap is_early is
late_is x (inr is) = ap is_early is

-- Where nothing was done, the links lead where they led.
pub led_after : (a : Option History) {b : Option History} (place : Place) → b ≡ a → WhereTold a (λ h. Resolves (tree_of h) (at_place place))
    → WhereTold b (λ h. Resolves (tree_of h) (at_place place))
led_after a place same led = subst (λ t. WhereTold t (λ h. Resolves (tree_of h) (at_place place))) (sym same) led

-- Nothing was written.
pub fails_at_once : (place : Place) (x : PruneError) (a b : Option History) → (x ≡ Failed) ⊎ (x ≡ Memory)
    → WhereTold a (λ h. Resolves (tree_of h) (at_place place)) → b ≡ a → Moves a b (Prunes (Err x))
fails_at_once place x a b which led same = moves_map (λ old new both. prunes_late place old new both.0 (inl both.1) x (late_is x which))
    (moves_where led (moves_same {R = λ s t. t ≡ s} same (λ s. refl)))

-- Only the sync was made, and what came after it.
pub fails_behind : (place : Place) (x : PruneError) (done : Unit) (a b c : Option History) → (x ≡ Failed) ⊎ (x ≡ Memory)
    → WhereTold a (λ h. Resolves (tree_of h) (at_place place)) → Moves a b (Syncs {E = Failure} (Ok done)) → Moves b c (RemovesOthers place.directory)
    → Moves a c (Prunes (Err x))
fails_behind place x done a b c which led m n =
    moves_then (λ old mid new both removes. prunes_late place old new both.0
    (inr (subst (λ h. Touches (IsInOther place.directory) h new) both.1 removes.touches)) x (late_is x which)) (moves_where led m) n

-- The sync itself fails.
pub fails_to_sync : (place : Place) (e : Failure) (a b : Option History) → WhereTold a (λ h. Resolves (tree_of h) (at_place place)) → Moves a b (Syncs (Err e))
    → Moves a b (Prunes (Err Failed))
fails_to_sync place e a b led m = moves_map (λ old new both. prunes_late place old new both.0 (inl both.1) Failed (late_is Failed (inl refl)))
    (moves_where led m)

pub still_removed : (dir : Names) (a b : Option History) → b ≡ a → Moves a b (RemovesOthers dir)
still_removed dir a b same = moves_same same (λ h. record { touches = goes_stay (IsAtOrSync (IsInOther dir)) h })

-- ---- all is removed

at_listed : (P : Names → Type 0) (ps : List Names) (p : Names) → AllByRecursion P ps → in_list p ps ≡ true → P p
at_listed P [] p all listed = absurd (false≢true listed)
at_listed P (q ∷ ps) p all listed = elim (path_cases p q) [
  | inl is ↦ subst P (sym is) all.0
  | inr other ↦ at_listed P ps p all.1 (sym (ap (λ b. b || in_list p ps) other) ∙ listed)
]

prunes_all : (place : Place) (paths : List Names) (count : ℕ) (old mid new : History) → Resolves (tree_of old) (at_place place) → mid ≡ next synced old
    → paths ≡ paths_in_store mid → RemovesAll place.directory paths mid new → SoMany (IsLeftOver place.directory) paths count → Prunes (Ok count) old new
prunes_all place paths count old mid new led is listed removes many = record {
  sync_first = any_first place old new led from;
  keeps = any_keeps place old new led from;
  kept = any_kept place old new led from;
  emptied = λ other also path left. gone path (subst (λ (q : Place). IsLeftOver q.directory path) (sym (one_place (tree_of old) place other led also)) left);
  counted = λ other also. subst (λ (q : Place). SoMany (IsLeftOver q.directory) (paths_in_store old) count) (one_place (tree_of old) place other led also)
      (subst (λ ps. SoMany (IsLeftOver place.directory) ps count) (listed ∙ ap paths_in_store is) many);
  led = (place, led);
  no_store = λ told. absurd (ok_error count NoStore told);
  bad_link = λ path told. absurd (ok_error count (BadLink path) told);
}
  where
    from : FromSyncOn (Touches (IsInOther place.directory)) old new
    from = inr (subst (λ h. Touches (IsInOther place.directory) h new) is removes.touches)

    some_there : (path : Names) → IsLeftOver place.directory path → (o : Option Node) → node_at (tree_of mid) path ≡ o → node_at (tree_of new) path ≡ None
    some_there path left None none = removes.fewer path none
    some_there path left (Some n) there =
        let rest = name_of (numbers left.target) ∷ left.below.0 ∷ left.below.1 in
        let found : IsSome (node_at (tree_of mid) (codes "store" ∷ rest)) =
        subst (λ p. IsSome (node_at (tree_of mid) p)) left.below.2 (subst IsSome (sym there) refl) in
        let in_it : in_list (codes "store" ∷ rest) (paths_in_store mid) ≡ true =
        each_listed (codes "store" ∷ []) (tree_of mid) (name_of (numbers left.target)) (left.below.0 ∷ left.below.1) found in
        at_listed (λ p. IsLeftOver place.directory p → node_at (tree_of new) p ≡ None) paths path removes.gone
        (ap (λ p. in_list p paths) left.below.2 ∙ ap (in_list (codes "store" ∷ rest)) listed ∙ in_it) left

    gone : (path : Names) → IsLeftOver place.directory path → node_at (tree_of new) path ≡ None
    gone path left = some_there path left (node_at (tree_of mid) path) refl

pub prune_ends : (place : Place) (paths : List Names) (folder : Names) (count : ℕ) (done : Unit) (a b c : Option History)
    → WhereTold a (λ h. Resolves (tree_of h) (at_place place)) → Moves a b (Syncs {E = Failure} (Ok done)) → folder ≡ codes "store" ∷ []
    → WhereTold b (λ h. paths ≡ paths_below folder (tree_of h)) → Moves b c (RemovesAll place.directory paths) → SoMany (IsLeftOver place.directory) paths count
    → Moves a c (Prunes (Ok count))
prune_ends place paths folder count done a b c led m at listed n many =
    moves_then (λ old mid new both rest. prunes_all place paths count old mid new both.0 both.1 (rest.0 ∙ ap (λ f. paths_below f (tree_of mid)) at) rest.1 many)
    (moves_where led m) (moves_where listed n)

-- ---- nothing is removed

unmoved : (x : PruneError) (h : History) → (x ≡ NoStore → Resolves (tree_of h) nowhere) → ((path : Names) → x ≡ BadLink path → Resolves (tree_of h) (bad path))
    → Prunes (Err x) h h
unmoved x h none links = record {
  sync_first = λ place led. inl refl;
  keeps = λ q held format store. inl refl;
  kept = λ q held format settled store. store_untouched q held format h h settled store (goes_stay (IsAtOrSync (IsInOther q.directory)) h);
  emptied = tt;
  counted = tt;
  led = tt;
  no_store = λ is. (none (not_error x NoStore is), refl);
  bad_link = λ path is. (links path (not_error x (BadLink path) is), refl);
}

pub prune_no_links : (e : LinkError) (a b : Option History) → ((path : Names) → e ≡ links.BadLink path → WhereTold a (λ h. Resolves (tree_of h) (bad path)))
    → b ≡ a → Moves a b (Prunes (Err (of_link e)))
prune_no_links links.Failed a b told same = moves_same same (λ h. unmoved Failed h (λ e. cc) (λ path e. cc))
prune_no_links links.Memory a b told same = moves_same same (λ h. unmoved Memory h (λ e. cc) (λ path e. cc))
prune_no_links (links.BadLink at) a b told same = moves_map (λ old new both. subst (λ h. Prunes (Err (BadLink at)) old h) (sym both.1)
    (unmoved (BadLink at) old (λ e. cc) (λ path e. subst (λ p. Resolves (tree_of old) (bad p)) (one_path at path e) both.0)))
    (moves_where (told at refl) (moves_same {R = λ s t. t ≡ s} same (λ s. refl)))
  where
    one_path : (p q : Names) → BadLink p ≡ BadLink q → p ≡ q
    one_path p q e = cc

pub disk_late : (e : DiskErr) → (of_disk e ≡ Failed) ⊎ (of_disk e ≡ Memory)
disk_late device.Failed = inl refl
disk_late device.Memory = inr refl
