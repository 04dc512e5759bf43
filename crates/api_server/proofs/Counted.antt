-- What failed in events was counted: of requests, and of events one after another.
use Rattle.std.proofs.Common.{◌≡◌, ◌≤◌, ◌+◌, ℕ, Bool, true, false, List, [], ◌∷◌, ◌++◌, refl, sym, ◌∙◌, ap, subst, arith}
use Rattle.outside.specs.Faults.{Rose}
use Rattle.settings_machine.specs.World.{Image, World}
use Rattle.settings_machine.specs.Requests.{Request, Reply, DiskFault}
use Rattle.settings_machine.specs.Step.{Outcome, Answered, WithoutMemory, Unopened, Faulted, request_next}
use Rattle.settings_machine.specs.Events.{Event, Opening, Succeeded, Opened, Asked, after}
use Rattle.machine_disk.specs.Ran.{Reopens, Handled}
use Rattle.api_server.specs.Causes.{fails_disk, fails_to_spawn, one_more, count_of, RoseBy, FaultCounts, fault_counts, AreCounted}
use Rattle.api_server.specs.Exchanged.{Said, Nothing, OutOfMemory, Unread, Replied}
use Rattle.api_server.specs.Rounds.{AsksFor}

-- ---- events one after another

one_more-add : (b : Bool) (n m : ℕ) → one_more b (n + m) ≡ one_more b n + m
one_more-add true n m = omega arith
one_more-add false n m = refl

count-append : (p : Event → Bool) (es fs : List Event) → count_of p (es ++ fs) ≡ count_of p es + count_of p fs
count-append p [] fs = omega arith
count-append p (e ∷ es) fs = ap (one_more (p e)) (count-append p es fs) ∙ one_more-add (p e) (count_of p es) (count_of p fs)

zero_plus : (n : ℕ) → 0 + n ≡ n
zero_plus n = omega arith

-- A count that doesn't fall rose by none.
pub none_rose : (n m : ℕ) → n ≤ m → RoseBy 0 n m
none_rose n m later = omega (arith, later)

rose_then : (n m a b c : ℕ) → RoseBy n a b → RoseBy m b c → RoseBy (n + m) a c
rose_then n m a b c first second = omega (arith, first, second)

-- No event, while the counts don't fall.
pub counted_none : (d d' s s' : ℕ) → d ≤ d' → s ≤ s' → AreCounted [] (fault_counts d s) (fault_counts d' s')
counted_none d d' s s' disk spawner = record { disk = none_rose d d' disk; spawner = none_rose s s' spawner }

-- Some, and then others.
pub counted_then : (es fs : List Event) (a b c : FaultCounts) → AreCounted es a b → AreCounted fs b c → AreCounted (es ++ fs) a c
counted_then es fs a b c first second = record {
  disk = subst (λ (n : ℕ). RoseBy n a.disk c.disk) (sym (count-append fails_disk es fs))
      (rose_then (count_of fails_disk es) (count_of fails_disk fs) a.disk b.disk c.disk first.disk second.disk);
  spawner = subst (λ (n : ℕ). RoseBy n a.spawner c.spawner) (sym (count-append fails_to_spawn es fs))
      (rose_then (count_of fails_to_spawn es) (count_of fails_to_spawn fs) a.spawner b.spawner c.spawner first.spawner second.spawner);
}

-- ---- a request

-- The opening before it fails no request and runs no program.
first_counts : (p : Event → Bool) → ((o : Opening) → p (Opened false o) ≡ false) → (faulted : Bool) (o : Outcome) (first : List Event)
    → Reopens faulted o first → count_of p first ≡ 0
first_counts p none false Answered first is = ap (count_of p) is
first_counts p none false WithoutMemory first is = ap (count_of p) is
first_counts p none false (Unopened at) first is = absurd is
first_counts p none false (Faulted taken) first is = ap (count_of p) is
first_counts p none true Answered first is = ap (count_of p) is ∙ ap (λ (b : Bool). one_more b 0) (none Succeeded)
first_counts p none true WithoutMemory first is = ap (count_of p) is.1 ∙ ap (λ (b : Bool). one_more b 0) (none is.0)
first_counts p none true (Unopened at) first is = ap (count_of p) is
first_counts p none true (Faulted taken) first is = ap (count_of p) is.1 ∙ ap (λ (b : Bool). one_more b 0) (none is.0)

module _ (I : Image) (W : World) (faulted : Bool) where
  handled_counts : (p : Event → Bool) → ((o : Opening) → p (Opened false o) ≡ false) → (q : Request) (reply : Reply) (es : List Event)
      → (h : Handled I faulted W q reply es) → count_of p es ≡ count_of p (Asked q h.outcome ∷ [])
  handled_counts p none q reply es h =
      ap (count_of p) h.made ∙ count-append p h.first (Asked q h.outcome ∷ [])
      ∙ ap (λ (n : ℕ). n + count_of p (Asked q h.outcome ∷ [])) (first_counts p none faulted h.outcome h.first h.reopens)
      ∙ zero_plus (count_of p (Asked q h.outcome ∷ []))

  -- No program is run in it.
  handled_spawns : (q : Request) (reply : Reply) (es : List Event) → Handled I faulted W q reply es → count_of fails_to_spawn es ≡ 0
  handled_spawns q reply es h = handled_counts fails_to_spawn (λ o. refl) q reply es h

  -- The disk failed in it at most once, and then that is replied.
  disk_counts : (X : World) (q : Request) (o : Outcome) (n m : ℕ) → n ≤ m → ((request_next I X q o).reply ≡ DiskFault → Rose n m)
      → RoseBy (count_of fails_disk (Asked q o ∷ [])) n m
  unfolding request_next
  disk_counts X q Answered n m later rose = none_rose n m later
  disk_counts X q WithoutMemory n m later rose = none_rose n m later
  disk_counts X q (Unopened at) n m later rose = none_rose n m later
  disk_counts X q (Faulted taken) n m later rose = rose refl

  handled_disk : (q : Request) (reply : Reply) (es : List Event) → Handled I faulted W q reply es → (n m : ℕ) → n ≤ m → (reply ≡ DiskFault → Rose n m)
      → RoseBy (count_of fails_disk es) n m
  handled_disk q reply es h n m later rose =
      subst (λ (k : ℕ). RoseBy k n m) (sym (handled_counts fails_disk (λ o. refl) q reply es h))
      (disk_counts (after I W h.first) q h.outcome n m later (λ is. rose (h.replied ∙ is)))

  -- What failed in a request was counted.
  pub handled_counted : (q : Request) (reply : Reply) (es : List Event) → Handled I faulted W q reply es → (d d' s s' : ℕ) → d ≤ d' → s ≤ s'
      → (reply ≡ DiskFault → Rose d d') → AreCounted es (fault_counts d s) (fault_counts d' s')
  handled_counted q reply es h d d' s s' later later_s rose = record {
    disk = handled_disk q reply es h d d' later rose;
    spawner = subst (λ (k : ℕ). RoseBy k s s') (sym (handled_spawns q reply es h)) (none_rose s s' later_s);
  }

  -- What failed in what one connection came to was counted.
  pub asked_counted : (said : Said) (es : List Event) → AsksFor I faulted W said es → (d d' s s' : ℕ) → d ≤ d' → s ≤ s'
      → ((q : Request) → said ≡ Replied q DiskFault → Rose d d') → AreCounted es (fault_counts d s) (fault_counts d' s')
  asked_counted Nothing es none d d' s s' later later_s rose =
      subst (λ (l : List Event). AreCounted l (fault_counts d s) (fault_counts d' s')) (sym none) (counted_none d d' s s' later later_s)
  asked_counted OutOfMemory es none d d' s s' later later_s rose =
      subst (λ (l : List Event). AreCounted l (fault_counts d s) (fault_counts d' s')) (sym none) (counted_none d d' s s' later later_s)
  asked_counted (Unread r) es one d d' s s' later later_s rose =
      subst (λ (l : List Event). AreCounted l (fault_counts d s) (fault_counts d' s')) (sym one)
      (record { disk = none_rose d d' later; spawner = none_rose s s' later_s })
  asked_counted (Replied q reply) es asked d d' s s' later later_s rose =
      handled_counted q reply es asked.handled d d' s s' later later_s (λ is. rose q (ap (Replied q) is))
