-- What relinks in their order, each with its sync, do to a disk.
use Rattle.std.proofs.Common.{◌≡◌, inl, inr, ◌⊎◌, true, List, [], ◌∷◌, ◌++◌, Some, Result, Ok, Err, OnOk, refl, sym, ap, subst, arith}
use Rattle.outside.specs.Names.{Names}
use Rattle.outside.specs.Tree.{link, Tree, set_node, AgreeOn}
use Rattle.outside.specs.History.{replaced, synced, History, next, tree_of, EachCrashState, IsSettled, IsSettledOn}
use Rattle.outside.specs.Since.{EachSince, IsAtOrSync, Touches}
use Rattle.outside.proofs.Crash.{settled_synced}
use Rattle.outside.proofs.Since.{since_start, since_next, since_syncs}
use Rattle.outside.proofs.Goes.{goes_stay, goes_next, tree_untouched, since_untouched_at}
use Rattle.outside.proofs.Parts.{state_on, state_replaced_on, settled_on_synced}
use Rattle.version_links.specs.declared.version.Version.{Version}
use Rattle.version_links.specs.Names.{is_in_store, Target, IsTarget, numbers}
use Rattle.version_links.specs.Chain.{Leads, LeadsTo, Outcome, Resolves}
use Rattle.version_links.specs.Flip.{Relink, relinks_to, relinked, kept, KeepsAll, trees_after, EachTree, TurnsOnce, ResolvesToEither, IsLinkTo, Flips}
use Rattle.version_links.proofs.Turns.{same_led, same_outcome, pointed, leads_on, turns, stays_led}

-- The tree with the relink.
abbrev put : Relink → Tree → Tree
put relink tree = set_node tree relink.0 (Some (link relink.1))

-- The path of each relink is in the store.
abbrev InStore : Relink → Type 0
InStore relink = is_in_store relink.0 ≡ true

-- The tree with the relinks.
abbrev puts : List Relink → Tree → Tree
puts [] tree = tree
puts (r ∷ rs) tree = puts rs (put r tree)

-- Each of the relinks has the property.
abbrev EachRelink : (Relink → Type 0) → List Relink → Type 0
EachRelink Q [] = Unit {0}
EachRelink Q (r ∷ rs) = Q r × EachRelink Q rs

-- ---- any relinks that keep what trees with the same links share

module _ (P : Tree → Type 0) (shared : (one other : Tree) → AgreeOn is_in_store one other → P other → P one) where
  crash_states : (h : History) (relink : Relink) → InStore relink → IsSettledOn is_in_store h → P (tree_of h) → P (put relink (tree_of h))
      → EachCrashState P (relinked relink h)
  crash_states h relink inside settled old new crashed is = elim (state_replaced_on is_in_store h relink.0 (Some (link relink.1)) inside settled crashed is) [
    | inl was ↦ shared crashed (tree_of h) was old
    | inr put ↦ shared crashed (set_node (tree_of h) relink.0 (Some (link relink.1))) put new
  ]

  -- Every crash state since the start.
  pub moments : (rs : List Relink) → EachRelink InStore rs → {E : Type 0} (result : Result Unit E) (start old new : History) → IsSettledOn is_in_store old
      → P (tree_of old) → EachTree P (trees_after rs (tree_of old)) → EachSince P start old → KeepsAll rs result old new → EachSince P start new
  moments [] inside (Ok done) start old new settled now steps since is = subst (λ h. EachSince P start h) (sym is) since
  moments [] inside (Err e) start old new settled now steps since is = absurd is
  moments (r ∷ rs) inside {E = E} (Ok done) start old new settled now steps since is =
      let put = since_next P start old (replaced r.0 (Some (link r.1))) since (crash_states old r inside.0 settled now steps.0) in
      let both = since_syncs P start (relinked r old) (kept r old) {E = E} (Ok done) put refl in
      moments rs inside.1 {E = E} (Ok done) start (kept r old) new (settled_on_synced is_in_store (relinked r old)) steps.0 steps.1 both is
  moments (r ∷ rs) inside (Err e) start old new settled now steps since (inl (inl is)) = subst (λ h. EachSince P start h) (sym is) since
  moments (r ∷ rs) inside (Err e) start old new settled now steps since (inl (inr is)) =
      subst (λ h. EachSince P start h) (sym is) (since_next P start old (replaced r.0 (Some (link r.1))) since
      (crash_states old r inside.0 settled now steps.0))
  moments (r ∷ rs) inside {E = E} (Err e) start old new settled now steps since (inr more) =
      let put = since_next P start old (replaced r.0 (Some (link r.1))) since (crash_states old r inside.0 settled now steps.0) in
      let both = since_syncs P start (relinked r old) (kept r old) {E = E} (Ok tt) put refl in
      moments rs inside.1 {E = E} (Err e) start (kept r old) new (settled_on_synced is_in_store (relinked r old)) steps.0 steps.1 both more

-- The tree at the end.
tree_after : (P : Tree → Type 0) (rs : List Relink) {E : Type 0} (result : Result Unit E) (old new : History) → P (tree_of old)
    → EachTree P (trees_after rs (tree_of old)) → KeepsAll rs result old new → P (tree_of new)
tree_after P [] (Ok done) old new now steps is = subst (λ h. P (tree_of h)) (sym is) now
tree_after P [] (Err e) old new now steps is = absurd is
tree_after P (r ∷ rs) {E = E} (Ok done) old new now steps is = tree_after P rs {E = E} (Ok done) (kept r old) new steps.0 steps.1 is
tree_after P (r ∷ rs) (Err e) old new now steps (inl (inl is)) = subst (λ h. P (tree_of h)) (sym is) now
tree_after P (r ∷ rs) (Err e) old new now steps (inl (inr is)) = subst (λ h. P (tree_of h)) (sym is) steps.0
tree_after P (r ∷ rs) {E = E} (Err e) old new now steps (inr more) = tree_after P rs {E = E} (Err e) (kept r old) new steps.0 steps.1 more

-- What is touched.
touched : (Q : Names → Type 0) (rs : List Relink) → EachRelink (λ r. Q r.0) rs → {E : Type 0} (result : Result Unit E) (start old new : History)
    → Touches Q start old → KeepsAll rs result old new → Touches Q start new
touched Q [] inside (Ok done) start old new so_far is = subst (λ h. Touches Q start h) (sym is) so_far
touched Q [] inside (Err e) start old new so_far is = absurd is
touched Q (r ∷ rs) inside {E = E} (Ok done) start old new so_far is =
    touched Q rs inside.1 {E = E} (Ok done) start (kept r old) new (goes_next (IsAtOrSync Q) start (relinked r old) synced
    (goes_next (IsAtOrSync Q) start old (replaced r.0 (Some (link r.1))) so_far inside.0) tt) is
touched Q (r ∷ rs) inside (Err e) start old new so_far (inl (inl is)) = subst (λ h. Touches Q start h) (sym is) so_far
touched Q (r ∷ rs) inside (Err e) start old new so_far (inl (inr is)) =
    subst (λ h. Touches Q start h) (sym is) (goes_next (IsAtOrSync Q) start old (replaced r.0 (Some (link r.1))) so_far inside.0)
touched Q (r ∷ rs) inside {E = E} (Err e) start old new so_far (inr more) =
    touched Q rs inside.1 {E = E} (Err e) start (kept r old) new (goes_next (IsAtOrSync Q) start (relinked r old) synced
    (goes_next (IsAtOrSync Q) start old (replaced r.0 (Some (link r.1))) so_far inside.0) tt) more

-- After Ok the tree has all of them.
all_made : (rs : List Relink) (E : Type 0) (done : Unit) (old new : History) → KeepsAll {E = E} rs (Ok done) old new → tree_of new ≡ puts rs (tree_of old)
all_made [] E done old new is = ap tree_of is
all_made (r ∷ rs) E done old new is = all_made rs E done (kept r old) new is

-- What ends with a sync is settled.
ends_settled : (h new : History) → new ≡ next synced h → IsSettled new
ends_settled h new is = subst IsSettled (sym is) (settled_synced h)

-- ---- the relinks that lead to a data directory

-- The first trees resolve as before, if one more does so in front of them.
once_more : (before : Outcome) (target : Target) (tree : Tree) (trees : List Tree) → Resolves tree before → TurnsOnce before target trees
    → TurnsOnce before target (tree ∷ trees)
once_more before target tree trees same turns = record {
  first = tree ∷ turns.first;
  others = turns.others;
  are =
      ap (λ (l : List Tree). tree ∷ l) turns.are;
  same = (same, turns.same);
  turned = turns.turned;
}

-- All of them lead to the data directory.
once_all : (before : Outcome) (target : Target) (trees : List Tree) → EachTree (λ tree. LeadsTo tree target) trees → TurnsOnce before target trees
once_all before target trees all = record { first = []; others = trees; are = refl; same = tt; turned = all }

module _ (target : Target) (fits : IsTarget target) (tree : Tree) where
  abbrev v : Version
  v = target.version

  abbrev one : Tree
  one = pointed tree (v.major ∷ v.minor ∷ v.patch ∷ []) target.id

  abbrev two : Tree
  two = pointed one (v.major ∷ v.minor ∷ []) v.patch

  abbrev three : Tree
  three = pointed two (v.major ∷ []) v.minor

  abbrev four : Tree
  four = pointed three [] v.major

  led_one : Leads one (v.major ∷ v.minor ∷ v.patch ∷ []) (target.id ∷ [])
  led_one = leads_on tree (v.major ∷ v.minor ∷ v.patch ∷ []) target.id (omega arith) (fits.version.major, (fits.version.minor, (fits.version.patch, tt)))
      fits.id [] (omega arith) tt

  led_two : Leads two (v.major ∷ v.minor ∷ []) (v.patch ∷ target.id ∷ [])
  led_two = leads_on one (v.major ∷ v.minor ∷ []) v.patch (omega arith) (fits.version.major, (fits.version.minor, tt)) fits.version.patch (target.id ∷ [])
      (omega arith) led_one

  led_three : Leads three (v.major ∷ []) (v.minor ∷ v.patch ∷ target.id ∷ [])
  led_three = leads_on two (v.major ∷ []) v.minor (omega arith) (fits.version.major, tt) fits.version.minor (v.patch ∷ target.id ∷ []) (omega arith) led_two

  pub led_four : LeadsTo four target
  led_four = leads_on three [] v.major (omega arith) tt fits.version.major (v.minor ∷ v.patch ∷ target.id ∷ []) (omega arith) led_three

  turn_one : (before : Outcome) → Resolves tree before → Resolves one before ⊎ LeadsTo one target
  turn_one = turns tree (v.major ∷ v.minor ∷ v.patch ∷ []) target.id (omega arith) (fits.version.major, (fits.version.minor, (fits.version.patch, tt))) fits.id
      [] (omega arith) tt

  turn_two : (before : Outcome) → Resolves one before → Resolves two before ⊎ LeadsTo two target
  turn_two = turns one (v.major ∷ v.minor ∷ []) v.patch (omega arith) (fits.version.major, (fits.version.minor, tt)) fits.version.patch (target.id ∷ [])
      (omega arith) led_one

  turn_three : (before : Outcome) → Resolves two before → Resolves three before ⊎ LeadsTo three target
  turn_three = turns two (v.major ∷ []) v.minor (omega arith) (fits.version.major, tt) fits.version.minor (v.patch ∷ target.id ∷ []) (omega arith) led_two

  stays_two : LeadsTo one target → LeadsTo two target
  stays_two = stays_led one (v.major ∷ v.minor ∷ []) v.patch (omega arith) (fits.version.major, (fits.version.minor, tt)) fits.version.patch (target.id ∷ [])
      (omega arith) led_one

  stays_three : LeadsTo two target → LeadsTo three target
  stays_three = stays_led two (v.major ∷ []) v.minor (omega arith) (fits.version.major, tt) fits.version.minor (v.patch ∷ target.id ∷ []) (omega arith) led_two

  -- One step alone changes where the links lead.
  pub turns_once : (before : Outcome) → Resolves tree before → TurnsOnce before target (one ∷ two ∷ three ∷ four ∷ [])
  turns_once before is = elim (turn_one before is) [
    | inr led ↦ let next = stays_two led in once_all before target _ (led, (next, (stays_three next, (led_four, tt))))
    | inl same ↦ once_more before target _ _ same (elim (turn_two before same) [
      | inr led ↦ once_all before target _ (led, (stays_three led, (led_four, tt)))
      | inl again ↦ once_more before target _ _ again (elim (turn_three before again) [
        | inr led ↦ once_all before target _ (led, (led_four, tt))
        | inl still ↦ once_more before target _ _ still (once_all before target _ (led_four, tt))
      ])
    ])
  ]

-- Each of the trees leads where the links led before, or to the data directory.
either : (before : Outcome) (target : Target) (trees : List Tree) → TurnsOnce before target trees → EachTree (ResolvesToEither before target) trees
either before target trees once = subst (λ (l : List Tree). EachTree (ResolvesToEither before target) l) (sym once.are)
    (both once.first once.others once.same once.turned)
  where
    later : (trees : List Tree) → EachTree (λ tree. LeadsTo tree target) trees → EachTree (ResolvesToEither before target) trees
    later [] all = tt
    later (tree ∷ trees) all = (inr all.0, later trees all.1)

    both : (first others : List Tree) → EachTree (λ tree. Resolves tree before) first → EachTree (λ tree. LeadsTo tree target) others
        → EachTree (ResolvesToEither before target) (first ++ others)
    both [] others same turned = later others turned
    both (tree ∷ first) others same turned = (inl same.0, both first others same.1 turned)

-- Trees with the same links lead alike.
shared_either : (before : Outcome) (target : Target) (one other : Tree) → AgreeOn is_in_store one other → ResolvesToEither before target other
    → ResolvesToEither before target one
shared_either before target one other agree (inl same) = inl (same_outcome one other agree before same)
shared_either before target one other agree (inr led) = inr (same_led one other agree [] (numbers target) led)

-- After Ok the links lead to the data directory.
all_done : (target : Target) → IsTarget target → {E : Type 0} (result : Result Unit E) (old new : History) → KeepsAll (relinks_to target) result old new
    → OnOk result (LeadsTo (tree_of new) target × IsSettled new)
all_done target fits {E = E} (Ok done) old new is = (
  subst (λ tree. LeadsTo tree target) (sym (all_made (relinks_to target) E done old new is))
      (led_four target fits (tree_of old)),
  ends_settled _ new is,
)
all_done target fits (Err e) old new is = tt

-- The relinks in their order point the links to the data directory.
pub flipped : (target : Target) → IsTarget target → {E : Type 0} (result : Result Unit E) (old new : History) → KeepsAll (relinks_to target) result old new
    → Flips target result old new
flipped target fits {E = E} result old new is = let touches = touched (IsLinkTo target) (relinks_to target)
    (inl refl, (inr (inl refl), (inr (inr (inl refl)), (inr (inr (inr refl)), tt)))) {E = E} result old old new (goes_stay (IsAtOrSync (IsLinkTo target)) old)
    is in record {
      order = is;
      any_moment = λ before settled resolves. moments (ResolvesToEither before target) (shared_either before target) (relinks_to target)
          (refl, (refl, (refl, (refl, tt)))) {E = E} result old old new settled (inl resolves)
          (either before target _ (turns_once target fits (tree_of old) before resolves))
          (since_start (ResolvesToEither before target) old (λ crashed im. shared_either before target crashed (tree_of old)
          (state_on is_in_store old settled crashed im)
          (inl resolves))) is;
      tree = λ before resolves. tree_after (ResolvesToEither before target) (relinks_to target) {E = E} result old new (inl resolves)
          (either before target _ (turns_once target fits (tree_of old) before resolves)) is;
      once = λ before resolves. turns_once target fits (tree_of old) before resolves;
      done = all_done target fits {E = E} result old new is;
      others = record {
        touches = touches;
        tree = λ path apart. tree_untouched (IsLinkTo target) old new touches path apart;
        crash_states = λ path apart. since_untouched_at (IsLinkTo target) path apart old new touches;
      };
    }
