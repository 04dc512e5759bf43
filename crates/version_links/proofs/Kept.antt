-- Relinks on a disk, each with its sync, one after another.
use Rattle.std.proofs.Common.{◌≡◌, inl, inr, List, [], ◌∷◌, ℕ, codes, Option, Some, Result, Ok, Err, ◌∙◌, ap, subst}
use Rattle.outside.specs.Names.{Names}
use Rattle.outside.specs.Tree.{link}
use Rattle.outside.specs.History.{synced, History, next}
use Rattle.outside.specs.DiskCalls.{Puts, Syncs}
use Rattle.outside.specs.Told.{Moves}
use Rattle.outside.proofs.Told.{moves_map, moves_then}
use Rattle.version_links.specs.declared.link.Link.{Link}
use Rattle.version_links.specs.Names.{Target, store, major_name, minor_name, patch_name, directory_name}
use Rattle.version_links.specs.Links.{IsLink, AreNames}
use Rattle.version_links.specs.Flip.{Relink, relinked, kept, Keeps, KeepsAll, Flips}
use Rattle.version_links.proofs.Flipped.{flipped}

-- A link that is not relinked is not kept.
pub relink_fails : {E : Type 0} (path : Names) (text : List ℕ) (e : E) (a b : Option History) → Moves a b (Puts path (Some (link text)) (Err e))
    → Moves a b (Keeps (path, text) (Err e))
relink_fails path text e a b m = moves_map (λ old new is. is) m

synced_relink : {E : Type 0} (relink : Relink) (result : Result Unit E) (old mid new : History) → mid ≡ relinked relink old → Syncs result mid new
    → Keeps relink result old new
synced_relink relink (Ok done) old mid new put is = is ∙ ap (λ h. next synced h) put
synced_relink relink (Err e) old mid new put is = inr (is ∙ put)

-- A link that is relinked is kept once it is synced.
pub relink_syncs : {E : Type 0} (path : Names) (text : List ℕ) (done : Unit) (result : Result Unit E) (a b c : Option History)
    → Moves a b (Puts {E = E} path (Some (link text)) (Ok done)) → Moves b c (Syncs result) → Moves a c (Keeps (path, text) result)
relink_syncs path text done result a b c m n = moves_then (λ old mid new put is. synced_relink (path, text) result old mid new put is) m n

pub ruleset relinks = (relink_fails, relink_syncs)

-- ---- several in a row

after_kept : {E : Type 0} (r : Relink) (rs : List Relink) (result : Result Unit E) (old mid new : History) → mid ≡ kept r old → KeepsAll rs result mid new
    → KeepsAll (r ∷ rs) result old new
after_kept {E = E} r rs (Ok done) old mid new first more = subst (λ h. KeepsAll {E = E} rs (Ok done) h new) first more
after_kept {E = E} r rs (Err e) old mid new first more = inr (subst (λ h. KeepsAll {E = E} rs (Err e) h new) first more)

-- Others follow one that is kept.
then : {E : Type 0} (r : Relink) (rs : List Relink) (done : Unit) (result : Result Unit E) (a b c : Option History) → Moves a b (Keeps {E = E} r (Ok done))
    → Moves b c (KeepsAll rs result) → Moves a c (KeepsAll (r ∷ rs) result)
then r rs done result a b c m n = moves_then (λ old mid new first more. after_kept r rs result old mid new first more) m n

one_kept : {E : Type 0} (r : Relink) (result : Result Unit E) (old new : History) → Keeps r result old new → KeepsAll (r ∷ []) result old new
one_kept r (Ok done) old new is = is
one_kept r (Err e) old new is = inl is

-- The last one.
last : {E : Type 0} (r : Relink) (result : Result Unit E) (a b : Option History) → Moves a b (Keeps r result) → Moves a b (KeepsAll (r ∷ []) result)
last r result a b m = moves_map (λ old new is. one_kept r result old new is) m

-- One that isn't kept.
fails : {E : Type 0} (r : Relink) (rs : List Relink) (e : E) (a b : Option History) → Moves a b (Keeps {E = E} r (Err e))
    → Moves a b (KeepsAll {E = E} (r ∷ rs) (Err e))
fails r rs e a b m = moves_map (λ old new is. inl is) m

-- ---- the links of a data directory

-- A link that has this name and this text is the relink of them.
as_relink : {E : Type 0} (l : Link) (name text : List ℕ) (result : Result Unit E) (a b : Option History) → IsLink l name text
    → Moves a b (Keeps (l.path, l.text.items) result) → Moves a b (Keeps (store name, text) result)
as_relink {E = E} l name text result a b is m =
    let same : ◌≡◌ {A = Relink} (l.path, l.text.items) (store name, text) = ap (λ (p : Names). let r : Relink = (p, l.text.items) in r) is.path_is
    ∙ ap (λ (t : List ℕ). let r : Relink = (store name, t) in r) is.text_is in
    subst (λ (r : Relink). Moves a b (Keeps {E = E} r result)) same m

module _ (target seen : Target) (same : target ≡ seen) (path : Names) (patch minor major current : Link) (is : AreNames target path patch minor major current)
    (E : Type 0) where
  abbrev at_patch : Relink
  at_patch = (
    store (patch_name target.version.major target.version.minor target.version.patch),
    directory_name target.version.major target.version.minor
        target.version.patch target.id,
  )

  abbrev at_minor : Relink
  at_minor = (store (minor_name target.version.major target.version.minor), patch_name target.version.major target.version.minor target.version.patch)

  abbrev at_major : Relink
  at_major = (store (major_name target.version.major), minor_name target.version.major target.version.minor)

  abbrev at_current : Relink
  at_current = (store (codes "current"), major_name target.version.major)

  flips : (result : Result Unit E) (a b : Option History) → Moves a b (KeepsAll (at_patch ∷ at_minor ∷ at_major ∷ at_current ∷ []) result)
      → Moves a b (Flips seen result)
  flips result a b m = subst (λ (t : Target). Moves a b (Flips {E = E} t result)) same
      (moves_map (λ old new all. flipped target is.fits {E = E} result old new all) m)

  -- No link is kept.
  pub first_fails : (e : E) (a b : Option History) → Moves a b (Keeps {E = E} (patch.path, patch.text.items) (Err e)) → Moves a b (Flips {E = E} seen (Err e))
  first_fails e a b m = flips (Err e) a b (fails at_patch (at_minor ∷ at_major ∷ at_current ∷ []) e a b (as_relink patch _ _ (Err e) a b is.patch_is m))

  -- One is.
  pub second_fails : (done : Unit) (e : E) (a b c : Option History) → Moves a b (Keeps {E = E} (patch.path, patch.text.items) (Ok done))
      → Moves b c (Keeps {E = E} (minor.path, minor.text.items) (Err e)) → Moves a c (Flips {E = E} seen (Err e))
  second_fails done e a b c m n =
      flips (Err e) a c (then at_patch (at_minor ∷ at_major ∷ at_current ∷ []) done (Err e) a b c (as_relink {E = E} patch _ _ (Ok done) a b is.patch_is m)
      (fails at_minor (at_major ∷ at_current ∷ []) e b c (as_relink minor _ _ (Err e) b c is.minor_is n)))

  -- Two are.
  pub third_fails : (done then_done : Unit) (e : E) (a b c d : Option History) → Moves a b (Keeps {E = E} (patch.path, patch.text.items) (Ok done))
      → Moves b c (Keeps {E = E} (minor.path, minor.text.items) (Ok then_done)) → Moves c d (Keeps {E = E} (major.path, major.text.items) (Err e))
      → Moves a d (Flips {E = E} seen (Err e))
  third_fails done then_done e a b c d m n o =
      flips (Err e) a d (then at_patch (at_minor ∷ at_major ∷ at_current ∷ []) done (Err e) a b d (as_relink {E = E} patch _ _ (Ok done) a b is.patch_is m)
      (then at_minor (at_major ∷ at_current ∷ []) then_done (Err e) b c d (as_relink {E = E} minor _ _ (Ok then_done) b c is.minor_is n)
      (fails at_major (at_current ∷ []) e c d (as_relink major _ _ (Err e) c d is.major_is o))))

  -- Three are, and the last one or not.
  pub last_ends : (done then_done last_done : Unit) (result : Result Unit E) (a b c d f : Option History)
      → Moves a b (Keeps {E = E} (patch.path, patch.text.items) (Ok done)) → Moves b c (Keeps {E = E} (minor.path, minor.text.items) (Ok then_done))
      → Moves c d (Keeps {E = E} (major.path, major.text.items) (Ok last_done)) → Moves d f (Keeps (current.path, current.text.items) result)
      → Moves a f (Flips seen result)
  last_ends done then_done last_done result a b c d f m n o p =
      flips result a f (then at_patch (at_minor ∷ at_major ∷ at_current ∷ []) done result a b f (as_relink {E = E} patch _ _ (Ok done) a b is.patch_is m)
      (then at_minor (at_major ∷ at_current ∷ []) then_done result b c f (as_relink {E = E} minor _ _ (Ok then_done) b c is.minor_is n)
      (then at_major (at_current ∷ []) last_done result c d f (as_relink {E = E} major _ _ (Ok last_done) c d is.major_is o)
      (last at_current result d f (as_relink current _ _ result d f is.current_is p)))))
