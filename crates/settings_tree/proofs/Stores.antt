-- A store, which has a value or none at each place, with what is written to it and rooms that are made in it.
use Rattle.std.proofs.Common.{◌≡◌, Option, Some, None, Bool, true, false, cond, not, IsTrue, is_some, refl, sym, ◌∙◌, ap}
use Rattle.std.proofs.lemmas.Bool.{cond-false, both_ways, not-true}

-- What an entry does to one store.
pub data Write (P V : Type 0) : Type 0 where
  Keep : Write P V
  Put : P → V → Write P V
  Take : P → Write P V

-- How a value is found, put and taken, and that good stores that answer alike are one.
pub record IsStore {M P V : Type 0} (Good : M → Type 0) (same : P → P → Bool) (at : M → P → Option V) (put : M → P → V → M) (take : M → P → M) : Type 0 where
  pub itself : (p : P) → same p p ≡ true
  pub one : (p q : P) → same p q ≡ true → p ≡ q
  pub put_at : (m : M) (p q : P) (v : V) → at (put m p v) q ≡ cond (same q p) (Some v) (at m q)
  pub take_at : (m : M) (p q : P) → at (take m p) q ≡ cond (same q p) None (at m q)
  pub put_good : (m : M) (p : P) (v : V) → Good m → Good (put m p v)
  pub take_good : (m : M) (p : P) → Good m → Good (take m p)
  pub alike : (m n : M) → Good m → Good n → ((q : P) → at m q ≡ at n q) → m ≡ n

module _ {M P V : Type 0} {Good : M → Type 0} {same : P → P → Bool} {at : M → P → Option V} {put : M → P → V → M} {take : M → P → M}
    (s : IsStore Good same at put take) (d : V) where
  abbrev pub written : M → Write P V → M
  written m Keep = m
  written m (Put p v) = put m p v
  written m (Take p) = take m p

  -- With a placeholder where a value is to be put and there is none.
  abbrev pub room : M → Write P V → M
  room m Keep = m
  room m (Put p v) = cond (is_some (at m p)) m (put m p d)
  room m (Take p) = m

  abbrev pub is_new : M → Write P V → Bool
  is_new m Keep = false
  is_new m (Put p v) = not (is_some (at m p))
  is_new m (Take p) = false

  -- Whether the second write is no put at the place of the first.
  abbrev pub apart : Write P V → Write P V → Bool
  apart (Put p v) (Put q x) = not (same p q)
  apart (Take p) (Put q x) = not (same p q)
  apart _ _ = true

  abbrev filled : Option V → Option V
  filled None = Some d
  filled (Some x) = Some x

  at_same : (m : M) (p q : P) → same q p ≡ true → at m q ≡ at m p
  at_same m p q e = ap (at m) (s.one q p e)

  at-room : (m : M) (p : P) (v : V) (q : P) → at (room m (Put p v)) q ≡ cond (same q p) (filled (at m p)) (at m q)
  at-room m p v q = by (at m p) refl where
    stay : (x : V) (b : Bool) → same q p ≡ b → at m p ≡ Some x → at m q ≡ cond b (Some x) (at m q)
    stay x true is e = at_same m p q is ∙ e
    stay x false is e = refl

    by : (o : Option V) → at m p ≡ o → at (cond (is_some o) m (put m p d)) q ≡ cond (same q p) (filled o) (at m q)
    by None e = s.put_at m p q d
    by (Some x) e = stay x (same q p) refl e

  pub room_good : (m : M) (w : Write P V) → Good m → Good (room m w)
  room_good m Keep good = good
  room_good m (Put p v) good = by (is_some (at m p)) where
    by : (b : Bool) → Good (cond b m (put m p d))
    by true = good
    by false = s.put_good m p d good
  room_good m (Take p) good = good

  pub written_good : (m : M) (w : Write P V) → Good m → Good (written m w)
  written_good m Keep good = good
  written_good m (Put p v) good = s.put_good m p v good
  written_good m (Take p) good = s.take_good m p good

  twice : (b : Bool) (x y z : Option V) → cond b x (cond b y z) ≡ cond b x z
  twice true x y z = refl
  twice false x y z = refl

  -- A placeholder that was put where nothing was is taken back.
  pub taken_back : (m : M) (p : P) → Good m → at m p ≡ None → take (put m p d) p ≡ m
  taken_back m p good none = s.alike _ m (s.take_good _ p (s.put_good m p d good)) good
      (λ q. s.take_at (put m p d) p q ∙ ap (cond (same q p) None) (s.put_at m p q d) ∙ by q (same q p) refl) where
        by : (q : P) (b : Bool) → same q p ≡ b → cond b None (cond b (Some d) (at m q)) ≡ at m q
        by q true is = sym (at_same m p q is ∙ none)
        by q false is = refl

  -- What is written in its own room is written.
  pub written-room : (m : M) (w : Write P V) → Good m → written (room m w) w ≡ written m w
  written-room m Keep good = refl
  written-room m (Put p v) good = s.alike _ _ (s.put_good _ p v (room_good m (Put p v) good)) (s.put_good m p v good) (λ q.
      s.put_at (room m (Put p v)) p q v ∙ ap (cond (same q p) (Some v)) (at-room m p v q) ∙ twice (same q p) _ _ _ ∙ sym (s.put_at m p q v))
  written-room m (Take p) good = refl

  swapped : (p q z : P) (x y r : Option V) → same p q ≡ false → cond (same z p) x (cond (same z q) y r) ≡ cond (same z q) y (cond (same z p) x r)
  swapped p q z x y r differ = by (same z p) (same z q) refl refl where
    by : (a b : Bool) → same z p ≡ a → same z q ≡ b → cond a x (cond b y r) ≡ cond b y (cond a x r)
    by true true e f = absurd (both_ways (same p q) differ (ap (λ (k : P). same k q) (sym (s.one z p e)) ∙ f))
    by true false e f = refl
    by false b e f = refl

  unlike : (p q : P) → same p q ≡ false → same q p ≡ false
  unlike p q differ = by (same q p) refl where
    by : (b : Bool) → same q p ≡ b → b ≡ false
    by true e = sym (s.itself p) ∙ ap (same p) (sym (s.one q p e)) ∙ differ
    by false e = refl

  -- What is written at one place, and a room that is made at another, change places.
  pub written-room_other : (m : M) (w u : Write P V) → Good m → IsTrue (apart w u) → written (room m u) w ≡ room (written m w) u
  written-room_other m (Put p v) (Put q x) good differ =
      let no_same : same p q ≡ false = not-true _ differ in
      s.alike _ _ (s.put_good _ p v (room_good m (Put q x) good)) (room_good _ (Put q x) (s.put_good m p v good)) (λ z.
      s.put_at (room m (Put q x)) p z v ∙ ap (cond (same z p) (Some v)) (at-room m q x z) ∙ swapped p q z (Some v) (filled (at m q)) (at m z) no_same
      ∙ ap (λ o. cond (same z q) (filled o) (cond (same z p) (Some v) (at m z))) (sym (s.put_at m p q v ∙ cond-false _ _ _ (unlike p q no_same)))
      ∙ ap (cond (same z q) (filled (at (put m p v) q))) (sym (s.put_at m p z v)) ∙ sym (at-room (put m p v) q x z))
  written-room_other m (Take p) (Put q x) good differ =
      let no_same : same p q ≡ false = not-true _ differ in
      s.alike _ _ (s.take_good _ p (room_good m (Put q x) good)) (room_good _ (Put q x) (s.take_good m p good)) (λ z.
      s.take_at (room m (Put q x)) p z ∙ ap (cond (same z p) None) (at-room m q x z) ∙ swapped p q z None (filled (at m q)) (at m z) no_same
      ∙ ap (λ o. cond (same z q) (filled o) (cond (same z p) None (at m z))) (sym (s.take_at m p q ∙ cond-false _ _ _ (unlike p q no_same)))
      ∙ ap (cond (same z q) (filled (at (take m p) q))) (sym (s.take_at m p z)) ∙ sym (at-room (take m p) q x z))
  written-room_other m Keep u good differ = refl
  written-room_other m (Put p v) Keep good differ = refl
  written-room_other m (Put p v) (Take q) good differ = refl
  written-room_other m (Take p) Keep good differ = refl
  written-room_other m (Take p) (Take q) good differ = refl

  full : (b : Bool) (o r : Option V) → (b ≡ false → not (is_some r) ≡ false) → not (is_some (cond b (filled o) r)) ≡ false
  full true None r has = refl
  full true (Some x) r has = refl
  full false o r has = has refl

  -- The room that was made is there.
  pub made : (m : M) (w : Write P V) → is_new (room m w) w ≡ false
  made m Keep = refl
  made m (Put p v) = ap (λ o. not (is_some o)) (at-room m p v p) ∙ full (same p p) (at m p) (at m p)
      (λ no_same. absurd (both_ways (same p p) no_same (s.itself p)))
  made m (Take p) = refl

  -- And stays where another is made.
  pub stays : (m : M) (w u : Write P V) → is_new m w ≡ false → is_new (room m u) w ≡ false
  stays m Keep u is = refl
  stays m (Put p v) Keep is = is
  stays m (Put p v) (Put q x) is = ap (λ o. not (is_some o)) (at-room m q x p) ∙ full (same p q) (at m q) (at m p) (λ _. is)
  stays m (Put p v) (Take q) is = is
  stays m (Take p) u is = refl
