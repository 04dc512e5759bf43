-- Questions that were asked one after another, each over a link of its own.
use Rattle.std.proofs.Common.{◌≡◌, ◌<◌, ℕ, List, Option, None, inl, inr, map, length, get_or, sym, ◌∙◌, ap, subst}
use Rattle.std.specs.Prelude.{Result, Err, IsErrOf}
use Rattle.std.proofs.Math.ListN.{set}
use Rattle.std.proofs.Math.Seq.{map-set_same, lt-length-set}
use Rattle.std.proofs.lemmas.List.{map-set, get_or-map, get_or-set_same, length-map}
use Rattle.outside.specs.Exchange.{Exchange}
use Rattle.outside.specs.Faults.{Rose}
use Rattle.host_client.specs.Exchanges.{IsSentInPart}
use Rattle.host_client.specs.Orders.{Order}
use Rattle.host_client.specs.Ended.{Effect, AsksNext, IsTurn, EndsHere, MayAsk, link_at, IsAsked, one_more, IsAtEnd, IsAsking, IsStopped}
use Rattle.host_client.specs.Ended.{between, within, AnyRose}
use Rattle.host_client.specs.declared.reply.Got.{Got}
use Rattle.host_client.specs.declared.step.Ending.{Ending}
use Rattle.host_client.specs.declared.stop.Stop.{Stop}

module _ {X : Type 0} (links : List X) (i : ℕ) (d x : X) (inside : i < length links) where
  -- the link at the place
  abbrev link : X
  link = get_or links i d

  -- what a value of the link at the place is, of the values of all
  value_at : {V : Type 0} (f : X → V) (e : V) → get_or (map f links) i e ≡ f link
  value_at f e = get_or-map f links i d e inside

  -- a value that is as before leaves all values as before
  pub stays : {V : Type 0} (f : X → V) → f x ≡ f link → map f (set links i x) ≡ map f links
  stays f same = map-set_same f links i x d same

  module _ (told : X → Option Exchange) (order : Order) (olds : List X) (replies : List Got) (as_many : length replies ≡ i) where
    link_is : link_at (map told links) (length replies) ≡ told link
    link_is = ap (λ n. link_at (map told links) n) as_many ∙ value_at told None

    others_are : map told (set links i x) ≡ set (map told links) (length replies) (told x)
    others_are = map-set told links i x ∙ ap (λ n. set (map told links) n (told x)) (sym as_many)

    -- one question more
    pub asked_more : (after : List Got) → IsAsked order replies (map told olds) (map told links) → IsTurn order replies after (told link) (told x)
        → IsAsked order after (map told olds) (map told (set links i x))
    asked_more after asked turn =
        one_more replies after (map told olds) (map told links) (map told (set links i x)) (told x) asked
        (subst (λ l. IsTurn order replies after l (told x)) (sym link_is) turn) others_are

    -- the next question had this effect
    pub asking_here : (effect : Effect) → IsAsked order replies (map told olds) (map told links) → AsksNext effect order replies (told link) (told x)
        → IsAsking effect order (map told olds) (map told (set links i x))
    asking_here effect asked asks = record {
      replies = replies;
      m = map told links;
      now = told x;
      asked = asked;
      last = subst (λ l. AsksNext effect order replies l (told x)) (sym link_is) asks;
      others = others_are;
    }

    -- it ends here
    pub ended_here : (ending : Ending) → IsAsked order replies (map told olds) (map told links) → EndsHere order replies ending (told link) (told x)
        → IsAtEnd order ending (map told olds) (map told (set links i x))
    ended_here ending asked ends = record {
      replies = replies;
      asked = subst (λ (l : List (Option Exchange)). IsAsked order replies (map told olds) l) (sym (stays told ends.same)) asked;
      step = ends.step;
    }

    -- it stops here
    pub stopped_here : IsAsked order replies (map told olds) (map told links) → MayAsk order replies (told link) (told x)
        → IsStopped order (map told olds) (map told (set links i x))
    stopped_here asked (inl same) =
        between replies (subst (λ (l : List (Option Exchange)). IsAsked order replies (map told olds) l) (sym (stays told same)) asked)
    stopped_here asked (inr asks) = within (asking_here IsSentInPart asked asks)

  -- the link failed here
  pub rose_here : (faults : X → ℕ) (olds : List X) → map faults links ≡ map faults olds → Rose (faults link) (faults x)
      → AnyRose (map faults olds) (map faults (set links i x))
  rose_here faults olds kept rose =
      let inside' = lt-length-set links i x inside in record {
        link = i;
        within = subst (λ n. i < n) (sym (length-map links faults) ∙ ap length kept) inside;
        rose = subst (λ n. Rose n (get_or (map faults (set links i x)) i 0)) (sym (value_at faults 0) ∙ ap (λ (l : List ℕ). get_or l i 0) kept)
            (subst (λ n. Rose (faults link) n) (sym (get_or-map faults (set links i x) i d 0 inside' ∙ ap faults (get_or-set_same links i x d inside))) rose);
      }

-- the same error of a call with another result
pub same_err : {T U : Type 0} (s t : Stop) → IsErrOf {T = T} {E = Stop} (Err s) t → IsErrOf {T = U} {E = Stop} (Err s) t
same_err {U = U} s t e =
    let same : s ≡ t = cc in
    ap (λ (x : Stop). let r : Result U Stop = Err x in r) same

-- which error it is
pub is_stop : {T : Type 0} (s t u : Stop) → s ≡ t → IsErrOf {T = T} {E = Stop} (Err s) u → t ≡ u
is_stop s t u same e = let other : s ≡ u = cc in sym same ∙ other
