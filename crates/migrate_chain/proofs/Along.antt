-- A store is moved along steps.
use Rattle.std.proofs.Common.{◌≡◌, inl, inr, List, [], ◌∷◌, Option, Result, Ok, Err, refl, sym, subst, codes}
use Rattle.std.specs.Prelude.{IfOk, IfErr, OnOk}
use Rattle.outside.specs.Names.{Names}
use Rattle.outside.specs.Tree.{Tree}
use Rattle.outside.specs.History.{Change, replaced, scribbled, synced, History, tree_of}
use Rattle.outside.specs.Since.{EachSince, IsAtOrSync, Touches}
use Rattle.outside.specs.Told.{Moves}
use Rattle.outside.proofs.Told.{moves_map, moves_stay, moves_then, moves_both}
use Rattle.outside.proofs.Goes.{goes_map, goes_joined}
use Rattle.outside.proofs.Since.{since_map, since_joined}
use Rattle.outside.specs.declared.disk_error.Failed.{Failed as Failure}
use Rattle.commit_journal.specs.Files.{IsBelow}
use Rattle.settings_tree.specs.declared.held.Held.{Held}
use Rattle.version_links.specs.declared.version.Version.{Version}
use Rattle.version_links.specs.Names.{Target, directory}
use Rattle.version_links.specs.Chain.{found, Resolves}
use Rattle.version_links.specs.Flip.{IsLinkTo, Flips}
use Rattle.migrate_chain.specs.Store.{HasStore, HasEither, IsInOther, TouchesOthers, owing_all}
use Rattle.migrate_chain.specs.Tasks.{Task, Mapped, Refused}
use Rattle.migrate_chain.specs.Copying.{Copies}
use Rattle.migrate_chain.specs.Moving.{IsCarried, Ends, IsSaved, FallsShort, IsAtHand, IsRefusal, HasOldOrNew, MovesAlong}
use Rattle.migrate_chain.specs.declared.start.Start.{Start}
use Rattle.migrate_chain.specs.declared.moving.Moved.{Moved}
use Rattle.migrate_chain.specs.declared.move_error.MoveError.{MoveError}
use Rattle.migrate_chain.specs.declared.move_error.MoveError.TheVariants.{Failed}
use Rattle.migrate_chain.proofs.Stays.{store_kept, flipped, standing, led_on, stands_on, others_stay, others_joined, link_apart}

-- ---- copies

pub none_saved : (a : Option History) → Moves a a TouchesOthers
none_saved a = moves_stay others_stay

pub saved_then : (a b c : Option History) → Moves a b TouchesOthers → Moves b c TouchesOthers → Moves a c TouchesOthers
saved_then a b c one two = moves_then (λ s t u first then. others_joined s t u first then) one two

pub copies_others : {E : Type 0} (version : Version) (held : Held) (result : Result Target E) (a b : Option History) → Moves a b (Copies version held result)
    → Moves a b TouchesOthers
copies_others version held result a b m = moves_map (λ old new copies. copies.others) m

pub copy_saved : {E : Type 0} (version : Version) (held : Held) (target : Target) (a b c : Option History) → Moves a b TouchesOthers
    → Moves b c (Copies {E = E} version held (Ok target)) → Moves a c (IsSaved version held target)
copy_saved version held target a b c others copies = moves_then (λ old mid new first made.
    record { version_is = made.copied.version_is; stands = made.copied.stands; settled = made.copied.settled }) others copies

-- ---- paths in the folder `store`

pub in_store : (change : Change) → (Q : Names → Type 0) → ((p : Names) → Q p → IsBelow (codes "store" ∷ []) p) → IsAtOrSync Q change
    → IsAtOrSync (IsBelow (codes "store" ∷ [])) change
in_store (replaced path now) Q f here = f path here
in_store (scribbled path now) Q f here = f path here
in_store synced Q f here = tt

other_in_store : (dir p : Names) → IsInOther dir p → IsBelow (codes "store" ∷ []) p
other_in_store dir p other = (_, other.below.0 ∷ other.below.1, other.below.2)

link_in_store : (target : Target) (p : Names) → IsLinkTo target p → IsBelow (codes "store" ∷ []) p
link_in_store target p (inl is) = (_, [], is)
link_in_store target p (inr (inl is)) = (_, [], is)
link_in_store target p (inr (inr (inl is))) = (_, [], is)
link_in_store target p (inr (inr (inr is))) = (_, [], is)

-- ---- the move

module _ (start : Start) (tasks : List Task) (to : Version) (before after : Option (List Mapped)) where
  others_kept : (old new : History) → TouchesOthers old new → IsAtHand start old → EachSince (HasStore start.place start.held start.format) old new
  others_kept old new others hand = store_kept start.place start.held start.format old new hand.settled hand.led hand.stands
      (others.touches start.place hand.led)

  others_outside : (old new : History) → TouchesOthers old new → IsAtHand start old → Touches (IsBelow (codes "store" ∷ [])) old new
  others_outside old new others hand = goes_map (IsAtOrSync (IsInOther start.place.directory)) (IsAtOrSync (IsBelow (codes "store" ∷ []))) old new
      (λ change here. in_store change (IsInOther start.place.directory) (other_in_store start.place.directory) here) (others.touches start.place hand.led)

  -- The links are not touched.
  pub along_unmoved : (e : MoveError) (a b : Option History) → Moves a b TouchesOthers → Moves a b (MovesAlong start tasks to before after (Err e))
  along_unmoved e a b m = moves_map (λ old new others. record {
    any_moment = λ hand. since_map (HasStore start.place start.held start.format) (HasOldOrNew start tasks to before after) old new (λ crashed store. inl store)
        (others_kept old new others hand);
    done = tt;
    answer = tt;
    kept = λ other hand. others_kept old new others hand;
    outside = λ hand. others_outside old new others hand;
  }) m

  module _ (made : Held) (carried : IsCarried tasks start.held before after made) (target : Target) where
    moved : (version : target.version ≡ to) (crashed : Tree) → HasEither start.place start.held start.format target (owing_all made) crashed
        → HasOldOrNew start tasks to before after crashed
    moved version crashed (inl store) = inl store
    moved version crashed (inr store) = inr (record { made = made; carried = carried; target = target; version_is = version; store = store })

    moments : {E : Type 0} (result : Result Unit E) (old mid new : History) → TouchesOthers old mid → IsSaved to (owing_all made) target old mid
        → Flips target result mid new → IsAtHand start old → EachSince (HasOldOrNew start tasks to before after) old new
    moments result old mid new others saved flips hand =
        let touches = others.touches start.place hand.led in
        since_joined (HasOldOrNew start tasks to before after) old mid new
        (since_map (HasStore start.place start.held start.format) (HasOldOrNew start tasks to before after) old mid (λ crashed store. inl store)
        (others_kept old mid others hand))
        (since_map (HasEither start.place start.held start.format target (owing_all made)) (HasOldOrNew start tasks to before after) mid new
        (moved saved.version_is)
        (flipped start.place start.held start.format target (owing_all made) result mid new saved.settled (led_on start.place old mid hand.led touches)
        (stands_on start.place old mid hand.led touches start.held start.format hand.stands) saved.stands flips))

    outside : {E : Type 0} (result : Result Unit E) (old mid new : History) → TouchesOthers old mid → Flips target result mid new → IsAtHand start old
        → Touches (IsBelow (codes "store" ∷ [])) old new
    outside result old mid new others flips hand =
        goes_joined (IsAtOrSync (IsBelow (codes "store" ∷ []))) old mid new (others_outside old mid others hand)
        (goes_map (IsAtOrSync (IsLinkTo target)) (IsAtOrSync (IsBelow (codes "store" ∷ []))) mid new
        (λ change here. in_store change (IsLinkTo target) (link_in_store target) here) flips.others.touches)

    -- The links are not pointed to the copy whole.
    along_failed : {E : Type 0} (e : E) (a b c : Option History) → Moves a b TouchesOthers → Moves a b (IsSaved to (owing_all made) target)
        → Moves b c (Flips target (Err e)) → Moves a c (MovesAlong start tasks to before after (Err Failed))
    along_failed e a b c others saved flips = moves_then (λ old mid new both turn. record {
      any_moment = moments (Err e) old mid new both.0 both.1 turn;
      done = tt;
      answer = tt;
      kept = λ other hand. absurd (other refl);
      outside = outside (Err e) old mid new both.0 turn;
    }) (moves_both others saved) flips

    -- The links lead to the copy.
    along_moved : {E : Type 0} (moved : Moved) (done : Unit) (a b c : Option History) → moved.from ≡ start.place.version → moved.to ≡ to
        → moved.directory ≡ directory target → Moves a b TouchesOthers → Moves a b (IsSaved to (owing_all made) target)
        → Moves b c (Flips {E = E} target (Ok done)) → Moves a c (MovesAlong start tasks to before after (Ok moved))
    along_moved {E = E} moved done a b c from_is to_is at others saved flips = moves_then (λ old mid new both turn. record {
      any_moment = moments {E = E} (Ok done) old mid new both.0 both.1 turn;
      done = λ hand. (
        record {
          made = made;
          carried = carried;
          target = target;
          version_is = both.1.version_is;
          store = record {
            led = (target.id, turn.done.0, refl);
            stands = standing (directory target) (owing_all made) 2 (tree_of new) (tree_of mid)
                (λ p below. turn.others.tree p (λ link. link_apart target target p below link)) both.1.stands;
          };
        },
        turn.done.1,
      );
      answer = λ hand. record {
        from_is = from_is;
        to_is = to_is;
        led =
            subst (λ (v : Version). Resolves (tree_of new) (found v moved.directory)) both.1.version_is (target.id, turn.done.0, at);
      };
      kept = tt;
      outside = outside {E = E} (Ok done) old mid new both.0 turn;
    }) (moves_both others saved) flips

    -- The links are pointed to the copy, or not.
    pub along_led : (result : Result Moved MoveError) (a b c : Option History)
        → IfOk result (λ moved. (moved.from ≡ start.place.version) × (moved.to ≡ to) × (moved.directory ≡ directory target)) → Moves a b TouchesOthers
        → Moves a b (IsSaved to (owing_all made) target) → OnOk result (Moves b c (Flips {E = Failure} target (Ok tt))) → IfErr result (FallsShort target b c)
        → Moves a c (MovesAlong start tasks to before after result)
    along_led (Ok moved) a b c answer others saved turned short = along_moved moved tt a b c answer.0 answer.1 answer.2 others saved turned
    along_led (Err e) a b c answer others saved turned (inl (is, same)) = along_unmoved e a c (subst (λ x. Moves a x TouchesOthers) (sym same) others)
    along_led (Err e) a b c answer others saved turned (inr (failure, is, flips)) =
        subst (λ x. Moves a c (MovesAlong start tasks to before after (Err x))) (sym is) (along_failed failure a b c others saved flips)

-- All tasks were carried out before the links fell short, and none was refused.
pub short_ends : (tasks : List Task) (held made : Held) (target : Target) (before after : Option (List Mapped)) (refused : Option (List Refused))
    (a b : Option History) (result : Result Moved MoveError) → IsCarried tasks held before after made → IfErr result (FallsShort target a b)
    → IfErr result (Ends tasks held before after refused refused)
short_ends tasks held made target before after refused a b (Ok moved) carried short = tt
short_ends tasks held made target before after refused a b (Err e) carried (inl (is, none)) = inr (inr is, (made, carried), refl)
short_ends tasks held made target before after refused a b (Err e) carried (inr (failure, is, flips)) = inr (inl is, (made, carried), refl)

-- What falls short is no refusal.
pub short_quiet : (target : Target) (a b : Option History) (result : Result Moved MoveError) → IfErr result (FallsShort target a b)
    → IfErr result (λ e. IsRefusal e → ⊥)
short_quiet target a b (Ok moved) short = tt
short_quiet target a b (Err e) (inl (is, none)) = λ refusal. subst IsRefusal is refusal
short_quiet target a b (Err e) (inr (failure, is, flips)) = λ refusal. subst IsRefusal is refusal
