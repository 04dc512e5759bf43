-- What it leaves to save the first world of a store and to point the links there.
use Rattle.std.proofs.Common.{arith, ◌≡◌, inl, inr, ◌⊎◌, ℕ, List, [], ◌∷◌, ◌++◌, codes, Option, Some, None, IsSome, Result, Ok}
use Rattle.std.proofs.Common.{Err, refl, sym, ◌∙◌, ap, subst}
use Rattle.std.specs.Prelude.{OnOk, IfErr, IsErrOf}
use Rattle.outside.specs.Told.{Moves, WhereTold}
use Rattle.outside.proofs.Told.{moves_map, moves_same, moves_where, moves_after, where_both}
use Rattle.outside.specs.Names.{Names}
use Rattle.outside.specs.Tree.{Node, Tree, node_at}
use Rattle.outside.specs.History.{Change, replaced, scribbled, synced, History, tree_of, EachCrashState, IsSettled, IsSettledOn}
use Rattle.outside.specs.Since.{EachSince, GoesOn, IsAtOrSync, Touches}
use Rattle.outside.specs.declared.disk_error.DiskErr.{DiskErr}
use Rattle.outside.specs.declared.disk_error.DiskErr.TheVariants as device
use Rattle.version_links.specs.declared.version.Version.{Version}
use Rattle.version_links.specs.declared.link_error.LinkError.{LinkError}
use Rattle.version_links.specs.declared.link_error.LinkError.TheVariants as link
use Rattle.commit_journal.proofs.Elsewhere.{only_below}
use Rattle.store_open.specs.Handing.{HandsDisk, HandsLinkOn}
use Rattle.outside.proofs.Since.{since_start, since_map, since_both, since_joined}
use Rattle.outside.proofs.Goes.{since_goes, goes_stay, goes_map, goes_joined, tree_untouched, may_leave_untouched}
use Rattle.commit_journal.specs.Files.{files_below, IsBelow}
use Rattle.fs_datastore.specs.Stands.{Stands}
use Rattle.fs_datastore.specs.Saving.{IsEmptyBelow, Saves}
use Rattle.fs_datastore.proofs.Listing.{each_listed, in_list}
use Rattle.version_links.specs.Names.{Target, store, directory, directory_name, is_in_store}
use Rattle.version_links.specs.Chain.{nowhere, found, bad, LeadsTo, Resolves}
use Rattle.version_links.specs.Fresh.{IsFree}
use Rattle.version_links.specs.Flip.{Flips, IsLinkTo, ResolvesToEither}
use Rattle.version_links.proofs.Chains.{resolves_one}
use Rattle.version_links.proofs.Turns.{same_outcome}
use Rattle.machine_disk.specs.Store.{HoldsIn}
use Rattle.store_open.specs.World.{HasWorld, IsAtRest}
use Rattle.settings_tree.specs.declared.held.Held.{Held}
use Rattle.store_open.specs.Beginning.{first_world, HasBegun, IsBegun, Begins, Places}
use Rattle.store_open.specs.declared.begin_error.InitError.{InitError}
use Rattle.store_open.specs.declared.begin_error.InitError.TheVariants as refused
use Rattle.fs_datastore.proofs.Alike.{stand_alike, stands_without_journal}
use Rattle.store_open.proofs.Worlds.{store_apart, holds_plain}

-- ---- a free directory has nothing below it

pub free_empty : (tree : Tree) (target : Target) → IsFree tree target → IsEmptyBelow (directory target) tree
free_empty tree target free name rest = by (files_below (directory target) tree (name ∷ rest)) refl where
  by : (o : Option Node) → files_below (directory target) tree (name ∷ rest) ≡ o → o ≡ None
  by None is = refl
  by (Some n) is = absurd (cc (ap (λ (l : List Names). in_list (directory target ++ name ∷ rest) l) (sym free.empty)
      ∙ each_listed (directory target) tree name rest (subst IsSome (sym is) refl)))

-- ---- paths

below_store : (name : List ℕ) (change : Change) → IsAtOrSync (IsBelow (store name)) change → IsAtOrSync (IsBelow (codes "store" ∷ [])) change
below_store name (replaced p now) is = (name, is.0 ∷ is.1, is.2)
below_store name (scribbled p now) is = (name, is.0 ∷ is.1, is.2)
below_store name synced is = tt

link_in_store : (target : Target) (p : Names) → IsLinkTo target p → IsBelow (codes "store" ∷ []) p
link_in_store target p (inl is) = (_, [], is)
link_in_store target p (inr (inl is)) = (_, [], is)
link_in_store target p (inr (inr (inl is))) = (_, [], is)
link_in_store target p (inr (inr (inr is))) = (_, [], is)

link_store : (target : Target) (change : Change) → IsAtOrSync (IsLinkTo target) change → IsAtOrSync (IsBelow (codes "store" ∷ [])) change
link_store target (replaced p now) is = link_in_store target p is
link_store target (scribbled p now) is = link_in_store target p is
link_store target synced is = tt

count_names : Names → ℕ
count_names [] = 0
count_names (a ∷ []) = 1
count_names (a ∷ b ∷ []) = 2
count_names (a ∷ b ∷ c ∷ rest) = 3

link_apart : (target : Target) (name : List ℕ) (rest : Names) → IsLinkTo target (directory target ++ name ∷ rest) → ⊥
unfolding count_names
link_apart target name rest is = by is where
  long : (link : List ℕ) → directory target ++ name ∷ rest ≡ store link → ⊥
  long link same = let three : ◌≡◌ {A = ℕ} 3 2 = ap count_names same in absurd (omega arith)

  by : IsLinkTo target (directory target ++ name ∷ rest) → ⊥
  by (inl is) = long _ is
  by (inr (inl is)) = long _ is
  by (inr (inr (inl is))) = long _ is
  by (inr (inr (inr is))) = long _ is

-- ---- the two phases

module _ (target : Target) (held : Held) where
  abbrev dir : Names
  dir = directory target

  abbrev EitherWay : Tree → Type 0
  EitherWay crashed = Resolves crashed nowhere ⊎ HasWorld (first_world target held) crashed

  -- while the directory is written the links lead nowhere
  since_saved : (old mid : History) → IsSettledOn is_in_store old → Touches (IsBelow dir) old mid → Resolves (tree_of old) nowhere → EachSince EitherWay old mid
  since_saved old mid settled touches none = since_goes EitherWay (IsAtOrSync (IsBelow dir)) old mid each touches where
    each : (h : History) → GoesOn (IsAtOrSync (IsBelow dir)) old h → EachCrashState EitherWay h
    each h goes crashed is = inl (same_outcome crashed (tree_of old) (record {
      same =
          λ p inside. settled.at p inside (node_at crashed p) (may_leave_untouched (IsBelow dir) old h goes p
          (store_apart (directory_name target.version.major target.version.minor target.version.patch target.id) p inside) (node_at crashed p) (is p));
    }) nowhere none)

  still_none : (old mid : History) → Touches (IsBelow dir) old mid → Resolves (tree_of old) nowhere → Resolves (tree_of mid) nowhere
  still_none old mid touches none = same_outcome (tree_of mid) (tree_of old)
      (record {
        same = λ p inside. tree_untouched (IsBelow dir) old mid touches p
            (store_apart (directory_name target.version.major target.version.minor target.version.patch target.id) p inside);
      }) nowhere none

  module _ (mid new : History) (settled : IsSettled mid) (means : Stands (files_below dir (tree_of mid)) held 2) {E : Type 0} (result : Result Unit E)
      (flips : Flips target result mid new) where
    holds_since : EachSince (HoldsIn dir held 2) mid new
    holds_since = since_goes (HoldsIn dir held 2) (IsAtOrSync (IsLinkTo target)) mid new each flips.others.touches where
      each : (h : History) → GoesOn (IsAtOrSync (IsLinkTo target)) mid h → EachCrashState (HoldsIn dir held 2) h
      each h goes crashed is = holds_plain dir held 2 crashed (stand_alike (files_below dir (tree_of mid)) (files_below dir crashed) held 2
          (λ name rest. sym (settled (dir ++ name ∷ rest) (node_at crashed (dir ++ name ∷ rest))
          (may_leave_untouched (IsLinkTo target) mid h goes (dir ++ name ∷ rest) (link_apart target name rest) (node_at crashed (dir ++ name ∷ rest))
          (is (dir ++ name ∷ rest)))))
          means)

    led : (crashed : Tree) → LeadsTo crashed target → Resolves crashed (found target.version dir)
    led crashed is = (target.id, is, refl)

    since_flipped : Resolves (tree_of mid) nowhere → EachSince EitherWay mid new
    since_flipped none = since_map (λ crashed. ResolvesToEither nowhere target crashed × HoldsIn dir held 2 crashed) EitherWay mid new way
        (since_both (ResolvesToEither nowhere target) (HoldsIn dir held 2) mid new (flips.any_moment nowhere (record { at = λ p inside. settled p }) none)
        holds_since)
      where
        way : (crashed : Tree) → ResolvesToEither nowhere target crashed × HoldsIn dir held 2 crashed → EitherWay crashed
        way crashed (inl is, holds) = inl is
        way crashed (inr is, holds) = inr (record { links = led crashed is; holds = holds })

    means_now : Stands (files_below dir (tree_of new)) held 2
    means_now = stand_alike (files_below dir (tree_of mid)) (files_below dir (tree_of new)) held 2
        (λ name rest. sym (flips.others.tree (dir ++ name ∷ rest) (link_apart target name rest))) means

    rest_now : LeadsTo (tree_of new) target → IsSettled new → IsAtRest (first_world target held) new
    rest_now leads still = record {
      links = led (tree_of new) leads;
      means = means_now;
      ready = record { no_journal = stands_without_journal (files_below dir (tree_of new)) held 2 means_now; settled = λ path. still (dir ++ path) };
      settled = still;
    }

  -- the directory was not saved
  pub unsaved : (e : DiskErr) (f : InitError) (old new : History) → Saves dir held (Err e) old new → (f ≡ refused.Failed) ⊎ (f ≡ refused.Memory)
      → Places target held (Err f) old new
  unsaved e f old new saves plain = record {
    any_moment = λ settled free none. since_saved old new settled saves.others.touches none;
    done = tt;
    touches = goes_map (IsAtOrSync (IsBelow dir)) (IsAtOrSync (IsBelow (codes "store" ∷ []))) old new (below_store _) saves.others.touches;
    plain = plain;
  }

  module _ (old mid new : History) (done : Unit) (saves : Saves {E = DiskErr} dir held (Ok done) old mid) where
    both : {E : Type 0} (result : Result Unit E) → Flips target result mid new → Touches (IsBelow (codes "store" ∷ [])) old new
    both result flips = goes_joined (IsAtOrSync (IsBelow (codes "store" ∷ []))) old mid new
        (goes_map (IsAtOrSync (IsBelow dir)) (IsAtOrSync (IsBelow (codes "store" ∷ []))) old mid (below_store _) saves.others.touches)
        (goes_map (IsAtOrSync (IsLinkTo target)) (IsAtOrSync (IsBelow (codes "store" ∷ []))) mid new (link_store target) flips.others.touches)

    moments : {E : Type 0} (result : Result Unit E) → Flips target result mid new → IsSettledOn is_in_store old → IsFree (tree_of old) target
        → Resolves (tree_of old) nowhere → EachSince EitherWay old new
    moments result flips settled free none = since_joined EitherWay old mid new (since_saved old mid settled saves.others.touches none)
        (since_flipped mid new saves.settled (saves.done (free_empty (tree_of old) target free)) result flips (still_none old mid saves.others.touches none))

    -- the links were not pointed there
    pub unflipped : {E : Type 0} (e : E) (f : InitError) → Flips {E = E} target (Err e) mid new → (f ≡ refused.Failed) ⊎ (f ≡ refused.Memory)
        → Places target held (Err f) old new
    unflipped {E = E} e f flips plain = record { any_moment = moments {E = E} (Err e) flips; done = tt; touches = both {E = E} (Err e) flips; plain = plain }

    -- the store is begun
    pub placed : {E : Type 0} (also : Unit) → Flips {E = E} target (Ok also) mid new → Places target held (Ok tt) old new
    placed {E = E} also flips = record {
      any_moment = moments {E = E} (Ok also) flips;
      done = λ free. rest_now mid new saves.settled (saves.done (free_empty (tree_of old) target free)) {E = E} (Ok also) flips flips.done.0 flips.done.1;
      touches = both {E = E} (Ok also) flips;
      plain = tt;
    }

-- ---- the exits of a beginning

pub plain_disk : (e : DiskErr) (f : InitError) → HandsDisk e f → (f ≡ refused.Failed) ⊎ (f ≡ refused.Memory)
plain_disk device.Failed f hands = inl hands
plain_disk device.Memory f hands = inr hands

-- what was saved, under the names that it has here
pub saved_as : (target : Target) (held : Held) (path : Names) (result : Result Unit DiskErr) (old new : History) → path ≡ directory target
    → Saves path held result old new → Saves (directory target) held result old new
saved_as target held path result old new at saves = subst (λ (p : Names). Saves p held result old new) at saves

pub nothing_begun : (version : Version) (held : Held) (f : InitError) (h : History)
    → ((path : Names) → f ≡ refused.BadLink path → Resolves (tree_of h) (bad path))
    → ((other : Version) → f ≡ refused.AlreadyThere other → (path : Names) × Resolves (tree_of h) (found other path)) → Begins version held (Err f) h h
nothing_begun version held f h bad_is there_is = record {
  any_moment = λ settled none. since_start (λ crashed. Resolves crashed nowhere ⊎ HasBegun version held crashed) h
      (λ crashed is. inl (same_outcome crashed (tree_of h) (record { same = λ p inside. settled.at p inside (node_at crashed p) (is p) }) nowhere none));
  done = tt;
  others = only_below (codes "store" ∷ []) h h (goes_stay (IsAtOrSync (IsBelow (codes "store" ∷ []))) h);
  still = λ other path led. refl;
  there = λ other is. let t = there_is other (one_error f (refused.AlreadyThere other) is) in (t.0, t.1, refl);
  bad_link = λ path is. (bad_is path (one_error f (refused.BadLink path) is), refl);
}
  where
    one_error : (e g : InitError) → ◌≡◌ {A = Result Unit InitError} (Err e) (Err g) → e ≡ g
    one_error e g same = cc same

pub begun_of : (target : Target) (version : Version) (held : Held) → target.version ≡ version → (result : Result Unit InitError) (old new : History)
    → Places target held result old new
    → IsFree (tree_of old) target → Resolves (tree_of old) nowhere → Begins version held result old new
begun_of target version held is result old new places free none = record {
  any_moment = λ settled nowhere_is. since_map (λ crashed. Resolves crashed nowhere ⊎ HasWorld (first_world target held) crashed)
      (λ crashed. Resolves crashed nowhere ⊎ HasBegun version held crashed) old new way (places.any_moment settled free nowhere_is);
  done = by result places.done;
  others = only_below (codes "store" ∷ []) old new places.touches;
  still = λ other path led. absurd (found_no_nowhere other path (resolves_one (tree_of old) nowhere (found other path) none led));
  there = λ other same. absurd (no_there result places.plain other same);
  bad_link = λ path same. absurd (no_bad result places.plain path same);
}
  where
    way : (crashed : Tree) → Resolves crashed nowhere ⊎ HasWorld (first_world target held) crashed → Resolves crashed nowhere ⊎ HasBegun version held crashed
    way crashed (inl n) = inl n
    way crashed (inr w) = inr (record { target = target; version_is = is; world = w })

    found_no_nowhere : (other : Version) (path : Names) → nowhere ≡ found other path → ⊥
    found_no_nowhere other path is = cc is

    by : (r : Result Unit InitError) → OnOk r (IsFree (tree_of old) target → IsAtRest (first_world target held) new)
        → OnOk r (Resolves (tree_of old) nowhere × IsBegun version held new)
    by (Ok x) done = (none, record { target = target; version_is = is; rest = done free })
    by (Err e) done = tt

    no_there : (r : Result Unit InitError) → IfErr r (λ e. (e ≡ refused.Failed) ⊎ (e ≡ refused.Memory)) → (other : Version)
        → r ≡ Err (refused.AlreadyThere other) → ⊥
    no_there (Ok x) plain other same = cc same
    no_there (Err e) (inl failed) other same = cc (same, failed)
    no_there (Err e) (inr memory) other same = cc (same, memory)

    no_bad : (r : Result Unit InitError) → IfErr r (λ e. (e ≡ refused.Failed) ⊎ (e ≡ refused.Memory)) → (path : Names) → r ≡ Err (refused.BadLink path) → ⊥
    no_bad (Ok x) plain path same = cc same
    no_bad (Err e) (inl failed) path same = cc (same, failed)
    no_bad (Err e) (inr memory) path same = cc (same, memory)

-- errors of the links
pub links_refused : (version : Version) (held : Held) (e : LinkError) (f : InitError) (h : History) → HandsLinkOn e f
    → ((path : Names) → e ≡ link.BadLink path → Resolves (tree_of h) (bad path)) → Begins version held (Err f) h h
links_refused version held link.Failed f h hands bad_is = nothing_begun version held f h (λ path is. absurd (cc (hands, is)))
    (λ other is. absurd (cc (hands, is)))
links_refused version held (link.BadLink p) f h hands bad_is = nothing_begun version held f h (λ path is. bad_is path (same p path (sym hands ∙ is)))
    (λ other is. absurd (cc (hands, is))) where
      same : (p q : Names) → refused.BadLink p ≡ refused.BadLink q → link.BadLink p ≡ link.BadLink q
      same p q e = let one : p ≡ q = cc e in ap (λ (x : Names). link.BadLink x) one
links_refused version held link.Memory f h hands bad_is = nothing_begun version held f h (λ path is. absurd (cc (hands, is)))
    (λ other is. absurd (cc (hands, is)))

-- ---- what a device tells of these exits

pub exit_links : {T : Type 0} (version : Version) (held : Held) (a b : Option History) (e : LinkError) (f : InitError) → b ≡ a → HandsLinkOn e f
    → ((path : Names) → IsErrOf {T = T} (Err e) (link.BadLink path) → WhereTold a (λ h. Resolves (tree_of h) (bad path)))
    → Moves a b (Begins version held (Err f))
exit_links version held a b link.Failed f same hands bad_is =
    moves_same same (λ h. links_refused version held link.Failed f h hands (λ path is. absurd (cc is)))
exit_links version held a b (link.BadLink p) f same hands bad_is =
    moves_map (λ old new both. subst (λ (n : History). Begins version held (Err f) old n) (sym both.1)
    (links_refused version held (link.BadLink p) f old hands (λ path is. subst (λ (q : Names). Resolves (tree_of old) (bad q)) (one p path is) both.0)))
    (moves_where (bad_is p refl) (moves_same same (λ h. refl)))
  where
    one : (p q : Names) → link.BadLink p ≡ link.BadLink q → p ≡ q
    one p q is = cc is
exit_links version held a b link.Memory f same hands bad_is =
    moves_same same (λ h. links_refused version held link.Memory f h hands (λ path is. absurd (cc is)))

pub exit_there : (version : Version) (held : Held) (a b : Option History) (other : Version) (path : Names) → b ≡ a
    → WhereTold a (λ h. Resolves (tree_of h) (found other path))
    → Moves a b (Begins version held (Err (refused.AlreadyThere other)))
exit_there version held a b other path same led =
    moves_map (λ old new both. subst (λ (n : History). Begins version held (Err (refused.AlreadyThere other)) old n) (sym both.1)
    (nothing_begun version held (refused.AlreadyThere other) old (λ p is. absurd (cc is))
    (λ v is. (path, subst (λ (x : Version). Resolves (tree_of old) (found x path)) (one other v is) both.0))))
    (moves_where led (moves_same same (λ h. refl)))
  where
    one : (v w : Version) → refused.AlreadyThere v ≡ refused.AlreadyThere w → v ≡ w
    one v w is = cc is

pub exit_plain : (version : Version) (held : Held) (a b : Option History) (f : InitError) → b ≡ a → (f ≡ refused.Failed) ⊎ (f ≡ refused.Memory)
    → Moves a b (Begins version held (Err f))
exit_plain version held a b f same (inl failed) = moves_same same (λ h. nothing_begun version held f h (λ path is. absurd (cc (failed, is)))
    (λ other is. absurd (cc (failed, is))))
exit_plain version held a b f same (inr memory) = moves_same same (λ h. nothing_begun version held f h (λ path is. absurd (cc (memory, is)))
    (λ other is. absurd (cc (memory, is))))

pub exit_begun : (target : Target) (version : Version) (held : Held) → target.version ≡ version → (result : Result Unit InitError) (a b c : Option History)
    → b ≡ a
    → WhereTold a (λ h. Resolves (tree_of h) nowhere) → WhereTold a (λ h. IsFree (tree_of h) target) → Moves b c (Places target held result)
    → Moves a c (Begins version held result)
exit_begun target version held is result a b c same none free places =
    moves_map (λ old new both. begun_of target version held is result old new both.1 both.0.1 both.0.0)
    (moves_where (where_both none free) (moves_after same places))
