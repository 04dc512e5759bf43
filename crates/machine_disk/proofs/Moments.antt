-- The moments of a run at which its events were made, one after another.
use Rattle.std.proofs.Common.{◌≡◌, ◌⊎◌, inl, inr, ⊎_elim, Bool, true, false, ◌||◌, List, [], ◌∷◌, ◌++◌, refl, sym, ◌∙◌, ap, subst}
use Rattle.std.proofs.Common.{append_assoc}
use Rattle.std.proofs.lemmas.List.{append-nil, append_cancel_left}
use Rattle.outside.specs.Tree.{Tree}
use Rattle.outside.specs.History.{History, tree_of, EachCrashState}
use Rattle.outside.specs.Since.{EachSince}
use Rattle.outside.proofs.Since.{since_start, since_joined, since_map}
use Rattle.settings_machine.specs.World.{Image, World}
use Rattle.settings_machine.specs.Events.{Event, after, acknowledges_any}
use Rattle.settings_machine.proofs.Sequences.{after-append, acks-append, none_acked}
use Rattle.machine_disk.specs.Store.{HasStore, HasFiles, Recovers}
use Rattle.machine_disk.specs.Ran.{AtPrefix, AtPrefixPast, IsLate, Before, Within, OnTheWay, KeepsFirst, Moment, HasMoments}

-- ---- lists

-- What follows nothing is nothing.
none_more : (xs ys : List Event) → [] ≡ xs ++ ys → ys ≡ []
none_more [] ys is = sym is
none_more (x ∷ xs) ys is = absurd (cc is)

-- What follows all is nothing.
all_more : (xs ys : List Event) → xs ≡ xs ++ ys → ys ≡ []
all_more xs ys is = none_more [] ys (append_cancel_left xs [] ys (append-nil xs ∙ is))

-- A prefix of two lists is one of the first, or goes beyond it.
cut : (es fs first rest : List Event) → es ++ fs ≡ first ++ rest
    → ((more : List Event) × (es ≡ first ++ more)) ⊎ ((later : List Event) × (first ≡ es ++ later) × (fs ≡ later ++ rest))
cut [] fs first rest is = inr (first, refl, is)
cut (e ∷ es) fs [] rest is = inl (e ∷ es, refl)
cut (e ∷ es) fs (g ∷ first) rest is =
    let head : e ≡ g = cc is in
    let tail : es ++ fs ≡ first ++ rest = cc is in
    ⊎_elim
    (λ within. inl (within.0, ap (λ (x : Event). x ∷ es) head ∙ ap (λ (l : List Event). g ∷ l) within.1))
    (λ beyond. inr (beyond.0, ap (λ (l : List Event). g ∷ l) beyond.1 ∙ ap (λ (x : Event). x ∷ (es ++ beyond.0)) (sym head), beyond.2))
    (cut es fs first rest tail)

module _ (I : Image) where
  -- None of the first of events is acknowledged of which none is.
  front_unacked : (W : World) (es fs : List Event) → acknowledges_any I W (es ++ fs) ≡ false → acknowledges_any I W es ≡ false
  front_unacked W es fs none = by (acknowledges_any I W es) (sym (acks-append I W es fs) ∙ none) where
    by : (a : Bool) → (a || acknowledges_any I (after I W es) fs) ≡ false → a ≡ false
    by true is = is
    by false is = refl

  -- Of none none is.
  nothing_acked : (W : World) (es : List Event) → es ≡ [] → acknowledges_any I W es ≡ false
  nothing_acked W es none = ap (acknowledges_any I W) none

  -- ---- one event, or none

  module _ (W V : World) (old new : History) where
    -- At the start none is made.
    at_first : HasStore W (tree_of old) → HasFiles W.etc (tree_of old) → (events : List Event) → EachSince (OnTheWay I W V events) old new
        → Moment I W V [] events old new
    at_first store etc events since = record {
      then_is = old;
      reached = since_start (λ crashed. Unit {0}) old (λ crashed left. tt);
      store = store;
      etc = etc;
      keeps = since_map (OnTheWay I W V events) (KeepsFirst I W V [] events) old new (λ c way. ⊎_elim
          (λ r. inl (r, refl))
          (λ at. inr (record { prefix = at; none_lost = λ rest is. nothing_acked (after I W at.first) rest (none_more at.first rest is) }))
          way) since;
    }

    -- At the end all are.
    at_last : (events : List Event) (other : World) → HasStore (after I W events) (tree_of new) → HasFiles (after I W events).etc (tree_of new)
        → EachCrashState (λ c. Recovers I (after I W events) c ⊎ Recovers I other c) new → IsLate I W V events other
        → EachSince (OnTheWay I W V events) old new → Moment I W V events events old new
    at_last events other store etc now late since = record {
      then_is = new;
      reached = since_map (OnTheWay I W V events) (λ crashed. Unit {0}) old new (λ c way. tt) since;
      store = store;
      etc = etc;
      keeps = since_start (KeepsFirst I W V events events) new (λ c left. ⊎_elim (λ r. inr (whole c r)) (λ r. by late c r) (now c left));
    } where
      whole : (c : Tree) → Recovers I (after I W events) c → AtPrefixPast I W events events c
      whole c r = record {
        prefix = record { first = events; rest = []; whole = sym (append-nil events); recovers = r };
        none_lost = λ rest is. nothing_acked (after I W events) rest (all_more events rest is);
      }

      by : IsLate I W V events other → (c : Tree) → Recovers I other c → KeepsFirst I W V events events c
      by (Before is none) c r = inl (subst (λ (X : World). Recovers I X c) is r, none)
      by (Within first rest all is none) c r = inr (record {
        prefix = record { first = first; rest = rest; whole = all; recovers = subst (λ (X : World). Recovers I X c) is r };
        none_lost = λ more also. subst (λ (l : List Event). acknowledges_any I (after I W first) l ≡ false)
            (append_cancel_left first rest more (sym all ∙ also)) (subst (λ (X : World). acknowledges_any I X rest ≡ false) is none);
      })

  -- No event has its moments,
  pub none_moments : (W V : World) (old new : History) → HasStore W (tree_of old) → HasFiles W.etc (tree_of old) → EachSince (OnTheWay I W V []) old new
      → HasMoments I W V [] old new
  none_moments W V old new store etc since [] rest is = at_first W V old new store etc [] since
  none_moments W V old new store etc since (e ∷ first) rest is = absurd (cc is)

  -- and so has one.
  pub one_moments : (W V : World) (old new : History) (e : Event) (other : World) → HasStore W (tree_of old) → HasFiles W.etc (tree_of old)
      → HasStore (after I W (e ∷ [])) (tree_of new) → HasFiles (after I W (e ∷ [])).etc (tree_of new)
      → EachCrashState (λ c. Recovers I (after I W (e ∷ [])) c ⊎ Recovers I other c) new → IsLate I W V (e ∷ []) other
      → EachSince (OnTheWay I W V (e ∷ [])) old new → HasMoments I W V (e ∷ []) old new
  one_moments W V old new e other store etc store_after etc_after now late since [] rest is = at_first W V old new store etc (e ∷ []) since
  one_moments W V old new e other store etc store_after etc_after now late since (g ∷ []) rest is =
      let head : e ≡ g = cc is in
      subst (λ (x : Event). Moment I W V (x ∷ []) (e ∷ []) old new) head (at_last W V old new (e ∷ []) other store_after etc_after now late since)
  one_moments W V old new e other store etc store_after etc_after now late since (g ∷ h ∷ first) rest is = absurd (cc is)

  -- ---- some, and then others

  module _ (W V other : World) (es fs : List Event) (late : IsLate I W V es other) where
    abbrev X : World
    X = after I W es

    -- A prefix of the first events is one of all.
    abbrev prefix_more : (c : Tree) → AtPrefix I W es c → AtPrefix I W (es ++ fs) c
    prefix_more c at = record {
      first = at.first;
      rest = at.rest ++ fs;
      whole = ap (λ (l : List Event). l ++ fs) at.whole ∙ append_assoc at.first at.rest fs;
      recovers = at.recovers;
    }

    -- A prefix of the others goes beyond the first events.
    abbrev prefix_beyond : (c : Tree) → AtPrefix I X fs c → AtPrefix I W (es ++ fs) c
    prefix_beyond c at = record {
      first = es ++ at.first;
      rest = at.rest;
      whole = ap (λ (l : List Event). es ++ l) at.whole ∙ sym (append_assoc es at.first at.rest);
      recovers = subst (λ (Z : World). Recovers I Z c) (sym (after-append I W es at.first)) at.recovers;
    }

    -- What keeps events among the first does among all,
    keeps_more : (first : List Event) (c : Tree) → KeepsFirst I W V first es c → KeepsFirst I W V first (es ++ fs) c
    keeps_more first c (inl is) = inl is
    keeps_more first c (inr at) = inr (record { prefix = prefix_more c at.prefix; none_lost = at.none_lost })

    -- and so does what is on the way of the others,
    keeps_way : (first more : List Event) → es ≡ first ++ more → (c : Tree) → OnTheWay I X other fs c → KeepsFirst I W V first (es ++ fs) c
    keeps_way first more is c (inl r) = by late where
      by : IsLate I W V es other → KeepsFirst I W V first (es ++ fs) c
      by (Before same none) = inl (
        subst (λ (Z : World). Recovers I Z c) same r,
        front_unacked W first more (subst (λ (l : List Event). acknowledges_any I W l ≡ false) is none),
      )
      by (Within p q whole same none) = inr (record {
        prefix = prefix_more c (record { first = p; rest = q; whole = whole; recovers = subst (λ (Z : World). Recovers I Z c) same r });
        none_lost = λ rest also.
            let all : q ≡ rest ++ more = append_cancel_left p q (rest ++ more)
            (sym whole ∙ is ∙ ap (λ (l : List Event). l ++ more) also ∙ append_assoc p rest more) in
            front_unacked (after I W p) rest more (subst (λ (l : List Event). acknowledges_any I (after I W p) l ≡ false) all
            (subst (λ (Z : World). acknowledges_any I Z q ≡ false) same none));
      })
    keeps_way first more is c (inr at) = inr (record {
      prefix = prefix_beyond c at;
      none_lost = λ rest also. nothing_acked (after I W (es ++ at.first)) rest (beyond at.first rest also);
    }) where
      -- What goes beyond all of the first events leaves none of them out.
      beyond : (p rest : List Event) → first ≡ (es ++ p) ++ rest → rest ≡ []
      beyond p rest also =
          let whole : first ≡ first ++ (more ++ (p ++ rest)) = also
          ∙ ap (λ (l : List Event). (l ++ p) ++ rest) is
          ∙ append_assoc (first ++ more) p rest
          ∙ append_assoc first more (p ++ rest) in
          let after_more : more ++ (p ++ rest) ≡ [] = all_more first (more ++ (p ++ rest)) whole in
          none_more p rest (sym (none_more more (p ++ rest) (sym after_more)))

    -- and what keeps events among the others keeps them with the first.
    keeps_beyond : (later : List Event) (c : Tree) → KeepsFirst I X other later fs c → KeepsFirst I W V (es ++ later) (es ++ fs) c
    keeps_beyond later c (inl (r, none_later)) = by late where
      by : IsLate I W V es other → KeepsFirst I W V (es ++ later) (es ++ fs) c
      by (Before same none) = inl (subst (λ (Z : World). Recovers I Z c) same r, none_acked I W es later none none_later)
      by (Within p q whole same none) = inr (record {
        prefix = prefix_more c (record { first = p; rest = q; whole = whole; recovers = subst (λ (Z : World). Recovers I Z c) same r });
        none_lost = λ rest also.
            let all : q ++ later ≡ rest = append_cancel_left p (q ++ later) rest
            (sym (append_assoc p q later) ∙ ap (λ (l : List Event). l ++ later) (sym whole) ∙ also) in
            let led : X ≡ after I (after I W p) q = ap (after I W) whole ∙ after-append I W p q in
            subst (λ (l : List Event). acknowledges_any I (after I W p) l ≡ false) all
            (none_acked I (after I W p) q later (subst (λ (Z : World). acknowledges_any I Z q ≡ false) same none)
            (subst (λ (Z : World). acknowledges_any I Z later ≡ false) led none_later));
      })
    keeps_beyond later c (inr at) = inr (record {
      prefix = prefix_beyond c at.prefix;
      none_lost = λ rest also.
          let tail : later ≡ at.prefix.first ++ rest = append_cancel_left es later (at.prefix.first ++ rest)
          (also ∙ append_assoc es at.prefix.first rest) in
          subst (λ (Z : World). acknowledges_any I Z rest ≡ false) (sym (after-append I W es at.prefix.first)) (at.none_lost rest tail);
    })

    -- The moments of both.
    pub more_moments : (old mid new : History) → HasMoments I W V es old mid → EachSince (OnTheWay I W V es) old mid → HasMoments I X other fs mid new
        → EachSince (OnTheWay I X other fs) mid new → HasMoments I W V (es ++ fs) old new
    more_moments old mid new one since two way first rest is = ⊎_elim (λ w. within w.0 w.1) (λ b. beyond b.0 b.1 b.2) (cut es fs first rest is) where
      within : (more : List Event) → es ≡ first ++ more → Moment I W V first (es ++ fs) old new
      within more here =
          let m : Moment I W V first es old mid = one first more here in
          record {
            then_is = m.then_is;
            reached = m.reached;
            store = m.store;
            etc = m.etc;
            keeps = since_joined (KeepsFirst I W V first (es ++ fs)) m.then_is mid new
                (since_map (KeepsFirst I W V first es) (KeepsFirst I W V first (es ++ fs)) m.then_is mid (keeps_more first) m.keeps)
                (since_map (OnTheWay I X other fs) (KeepsFirst I W V first (es ++ fs)) mid new (keeps_way first more here) way);
          }

      beyond : (later : List Event) → first ≡ es ++ later → fs ≡ later ++ rest → Moment I W V first (es ++ fs) old new
      beyond later here split =
          let m : Moment I X other later fs mid new = two later rest split in
          let led : after I X later ≡ after I W (es ++ later) = sym (after-append I W es later) in
          subst (λ (l : List Event). Moment I W V l (es ++ fs) old new) (sym here) (record {
            then_is = m.then_is;
            reached = since_joined (λ crashed. Unit {0}) old mid m.then_is (since_map (OnTheWay I W V es) (λ crashed. Unit {0}) old mid (λ c w. tt) since)
                m.reached;
            store = subst (λ (Z : World). HasStore Z (tree_of m.then_is)) led m.store;
            etc = subst (λ (Z : World). HasFiles Z.etc (tree_of m.then_is)) led m.etc;
            keeps = since_map (KeepsFirst I X other later fs) (KeepsFirst I W V (es ++ later) (es ++ fs)) m.then_is new (keeps_beyond later) m.keeps;
          })
