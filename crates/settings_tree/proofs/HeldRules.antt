-- A change that is laid keeps the rules of what is held.
use Rattle.std.proofs.Common.{arith, ◌≡◌, ℕ, suc, List, [], ◌∷◌, IsTrue, IsSome, slice_index_or, refl, sym, ◌∙◌, ap, subst}
use Rattle.std.specs.Prelude.{All, Contains, OnOk, OnErr}
use Rattle.std.specs.List.{list_all}
use Rattle.std.specs.declared.result.Result.{Result}
use Rattle.std.specs.declared.result.Result.TheVariants.{Ok, Err}
use Rattle.std.proofs.lemmas.Bool.{and_parts}
use Rattle.settings_tree.specs.Change.{is_unnamed, has_bare_name}
use Rattle.settings_tree.specs.Change.{Live, TheWeak}
use Rattle.settings_tree.specs.Content.{IsContent, IsNamed, MayBeWeak}
use Rattle.settings_tree.specs.Laid.{laid, laid_one, KeepsPrefixRule, NamesWeak, TellsWeak}
use Rattle.settings_tree.specs.Pending.{IsPending}
use Rattle.settings_tree.specs.Rooms.{IsFullHeld}
use Rattle.settings_tree.specs.declared.entry.Entry.{Entry}
use Rattle.settings_tree.specs.declared.entry.Entry.TheVariants.{LiveSet, LiveGone, MetaSet, MetaGone, PendSet, PendGone, OwedSet, ImageSet, WeakIs}
use Rattle.settings_tree.specs.declared.held.Held.{Held}
use Rattle.settings_tree.proofs.Contents.{named_with, named_without}
use Rattle.settings_tree.proofs.LaidAt.{value_unnamed}
use Rattle.settings_tree.proofs.Laying.{full_laid}

-- What is held has full maps.
pub held_full : (h : Held) → IsContent h.live → IsPending h.pending → IsFullHeld h
held_full h content pending = record { metadata = content.full; pending = pending.full }

full_all : (h : Held) (es : List Entry) → IsFullHeld h → IsFullHeld (laid h es)
full_all h [] full = full
full_all h (e ∷ es) full = full_all (laid_one h e) es (full_laid h e full)

named_one : (h : Held) (e : Entry) → IsNamed h.live.metadata → IsTrue (has_bare_name e) → IsNamed (laid_one h e).live.metadata
named_one h (MetaSet k n v) named bare = named_with h.live.metadata named k n v bare
named_one h (MetaGone k n) named bare = named_without h.live.metadata named k n
named_one h (LiveSet k v) named bare = named
named_one h (LiveGone k) named bare = named
named_one h (PendSet t k v) named bare = named
named_one h (PendGone t k) named bare = named
named_one h (OwedSet o) named bare = named
named_one h (ImageSet i) named bare = named
named_one h (WeakIs w) named bare = named

named_all : (h : Held) (es : List Entry) → IsNamed h.live.metadata → IsTrue (list_all has_bare_name es) → IsNamed (laid h es).live.metadata
named_all h [] named bare = named
named_all h (e ∷ es) named bare =
    let both = and_parts (has_bare_name e) (list_all has_bare_name es) bare in
    named_all (laid_one h e) es (named_one h e named both.0) both.1

-- The weak keys are those of the change where it names them.
data Weakness (h : Held) (es : List Entry) : Type 0 where
  Stays : IsTrue (is_unnamed TheWeak es) → (laid h es).live.weak ≡ h.live.weak → Weakness h es
  Given : (w : List (List (List ℕ))) → Contains es (WeakIs w) → (laid h es).live.weak ≡ w → Weakness h es

later : (e : Entry) (es : List Entry) (f : Entry) → Contains es f → Contains (e ∷ es) f
later e es f has = (suc has.0, omega (arith, has.1), has.2)

weakness : (h : Held) (es : List Entry) → Weakness h es
weakness h [] = Stays refl refl
weakness h (e ∷ es) = by e (weakness (laid_one h e) es) where
  by : (e : Entry) → Weakness (laid_one h e) es → Weakness h (e ∷ es)
  by e (Given w has is) = Given w (later e es (WeakIs w) has) is
  by (WeakIs w) (Stays unnamed is) = Given w (0, omega arith, refl) is
  by (LiveSet k v) (Stays unnamed is) = Stays unnamed is
  by (LiveGone k) (Stays unnamed is) = Stays unnamed is
  by (MetaSet k n v) (Stays unnamed is) = Stays unnamed is
  by (MetaGone k n) (Stays unnamed is) = Stays unnamed is
  by (PendSet t k v) (Stays unnamed is) = Stays unnamed is
  by (PendGone t k) (Stays unnamed is) = Stays unnamed is
  by (OwedSet o) (Stays unnamed is) = Stays unnamed is
  by (ImageSet i) (Stays unnamed is) = Stays unnamed is

may_laid : (h : Held) (es : List Entry) (k : List (List ℕ)) → MayBeWeak h.live.values k → IsTrue (is_unnamed (Live k) es) → MayBeWeak (laid h es).live.values k
may_laid h es k may unnamed = record { stands = subst IsSome (sym (value_unnamed h es k unnamed)) may.stands; setting = may.setting }

weak_all : (h : Held) (es : List Entry) → IsContent h.live → NamesWeak h es → TellsWeak h es → All (MayBeWeak (laid h es).live.values) (laid h es).live.weak
weak_all h es content names tells = by (weakness h es) where
  by : Weakness h es → All (MayBeWeak (laid h es).live.values) (laid h es).live.weak
  by (Stays unnamed is) = subst (All (MayBeWeak (laid h es).live.values)) (sym is)
      (λ i d low. may_laid h es (slice_index_or h.live.weak i d) (content.weak i d low) (tells.told unnamed i d low))
  by (Given w has is) = subst (All (MayBeWeak (laid h es).live.values)) (sym is) (names.may w has)

-- A change that may be laid keeps the rules of the content and of the pending maps.
content_laid : (h : Held) (es : List Entry) → IsContent h.live → IsPending h.pending → IsTrue (list_all has_bare_name es) → KeepsPrefixRule (laid h es)
    → NamesWeak h es → TellsWeak h es → IsContent (laid h es).live
content_laid h es content pending bare rule names tells = record {
  rule = rule.live;
  full = let all : IsFullHeld (laid h es) = full_all h es (held_full h content pending) in all.metadata;
  named = named_all h es content.named bare;
  weak = weak_all h es content names tells;
}

pending_laid : (h : Held) (es : List Entry) → IsContent h.live → IsPending h.pending → KeepsPrefixRule (laid h es) → IsPending (laid h es).pending
pending_laid h es content pending rule = record {
  full = let all : IsFullHeld (laid h es) = full_all h es (held_full h content pending) in all.pending;
  rule = rule.pending;
}

-- What laying the entries in the parts g of h leaves, whether it finds memory or not.
module _ {T E : Type 0} (r : Result T E) (h g n : Held) (es fs : List Entry) (parts : g ≡ h) (entries : fs ≡ es) (ok : OnOk r (n ≡ laid g fs))
    (err : OnErr r (n ≡ g)) (content : IsContent h.live) (pending : IsPending h.pending) (rule : KeepsPrefixRule (laid h es)) where
  laid_same : laid g fs ≡ laid h es
  laid_same = ap (λ (x : Held). laid x fs) parts ∙ ap (laid h) entries

  pub content_after : IsTrue (list_all has_bare_name es) → NamesWeak h es → TellsWeak h es → IsContent n.live
  content_after bare names tells = by r ok err where
    by : (r : Result T E) → OnOk r (n ≡ laid g fs) → OnErr r (n ≡ g) → IsContent n.live
    by (Ok x) is kept = subst (λ (x : Held). IsContent x.live) (sym (is ∙ laid_same)) (content_laid h es content pending bare rule names tells)
    by (Err e) is kept = subst (λ (x : Held). IsContent x.live) (sym (kept ∙ parts)) content

  pub pending_after : IsPending n.pending
  pending_after = by r ok err where
    by : (r : Result T E) → OnOk r (n ≡ laid g fs) → OnErr r (n ≡ g) → IsPending n.pending
    by (Ok x) is kept = subst (λ (x : Held). IsPending x.pending) (sym (is ∙ laid_same)) (pending_laid h es content pending rule)
    by (Err e) is kept = subst (λ (x : Held). IsPending x.pending) (sym (kept ∙ parts)) pending

pub ruleset held_rules = (held_full)
