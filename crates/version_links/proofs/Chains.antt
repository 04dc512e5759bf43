-- Chains of links.
use Rattle.std.proofs.Common.{◌≡◌, ℕ, ◌+◌, ◌<◌, ◌≤◌, List, [], ◌∷◌, ◌++◌, length}
use Rattle.std.proofs.Common.{codes, Some, None, refl, sym, ◌∙◌, ap, subst, arith, append_assoc, length-append}
use Rattle.std.proofs.lemmas.List.{append_cancel_left, append-nil}
use Rattle.outside.specs.Names.{Names}
use Rattle.outside.specs.Tree.{Tree}
use Rattle.version_links.specs.Names.{name_of, store, Target, numbers, directory}
use Rattle.version_links.specs.Chain.{link_at, HasStep, Leads, LeadsTo, IsBadAt, Outcome, nowhere, found, bad, Resolves}
use Rattle.version_links.proofs.Spread.{Fit, name_same}

pub fit-append : (xs ys : List ℕ) → Fit xs → Fit ys → Fit (xs ++ ys)
fit-append [] ys one two = two
fit-append (x ∷ xs) ys one two = (one.0, fit-append xs ys one.1 two)

pub length-more : (xs : List ℕ) (n : ℕ) (ns : List ℕ) → length (xs ++ n ∷ ns) ≡ length xs + (1 + length ns)
length-more xs n ns = let e = length-append xs (n ∷ ns) in omega arith

-- The data directory with these numbers.
target_of : List ℕ → Target
target_of [] = record { version = record { major = 0; minor = 0; patch = 0 }; id = 0 }
target_of (a ∷ []) = record { version = record { major = a; minor = 0; patch = 0 }; id = 0 }
target_of (a ∷ b ∷ []) = record { version = record { major = a; minor = b; patch = 0 }; id = 0 }
target_of (a ∷ b ∷ c ∷ []) = record { version = record { major = a; minor = b; patch = c }; id = 0 }
target_of (a ∷ b ∷ c ∷ id ∷ more) = record { version = record { major = a; minor = b; patch = c }; id = id }

module _ (tree : Tree) where
  -- The numbers of a chain fit.
  pub led_fits : (from ns : List ℕ) → Leads tree from ns → Fit ns
  led_fits from [] led = tt
  led_fits from (n ∷ ns) led = (led.0.fits, led_fits (from ++ n ∷ []) ns led.1)

  -- A link goes on by one number at most.
  pub step_same : (from : List ℕ) (m n : ℕ) → length from < 4 → Fit from → HasStep tree from m → HasStep tree from n → m ≡ n
  step_same from m n short fits one two =
      let texts : Some (name_of (from ++ m ∷ [])) ≡ Some (name_of (from ++ n ∷ [])) = sym one.text ∙ two.text in
      let names : name_of (from ++ m ∷ []) ≡ name_of (from ++ n ∷ []) = cc in
      let a = length-more from m [] in
      let b = length-more from n [] in
      let more = name_same (from ++ m ∷ []) (from ++ n ∷ []) (omega arith) (omega arith) (fit-append from (m ∷ []) fits (one.fits, tt))
      (fit-append from (n ∷ []) fits (two.fits, tt)) names in
      let last : m ∷ [] ≡ n ∷ [] = append_cancel_left from (m ∷ []) (n ∷ []) more in
      cc

  -- Chains of one length are one.
  pub led_same : (from xs ys : List ℕ) → length from + length xs ≤ 4 → length xs ≡ length ys → Fit from → Leads tree from xs → Leads tree from ys → xs ≡ ys
  led_same from [] [] short size fits one two = refl
  led_same from [] (y ∷ ys) short size fits one two = absurd (omega arith)
  led_same from (x ∷ xs) [] short size fits one two = absurd (omega arith)
  led_same from (x ∷ xs) (y ∷ ys) short size fits one two =
      let head = step_same from x y (omega arith) fits one.0 two.0 in
      let a = length-more from x [] in
      let there : Leads tree (from ++ x ∷ []) ys = subst (λ n. Leads tree (from ++ n ∷ []) ys) (sym head) two.1 in
      let rest = led_same (from ++ x ∷ []) xs ys (omega arith) (omega arith) (fit-append from (x ∷ []) fits (one.0.fits, tt)) one.1 there in
      cc

  -- A chain that can't go on is as long as any.
  pub led_ends : (from xs ys : List ℕ) → length from + length xs < 4 → Fit from → Leads tree from xs → ((n : ℕ) → HasStep tree (from ++ xs) n → ⊥)
      → Leads tree from ys → length ys ≤ length xs
  led_ends from xs [] short fits one ends two = omega arith
  led_ends from [] (y ∷ ys) short fits one ends two = absurd (ends y (subst (λ (l : List ℕ). HasStep tree l y) (sym (append-nil from)) two.0))
  led_ends from (x ∷ xs) (y ∷ ys) short fits one ends two =
      let head = step_same from x y (omega arith) fits one.0 two.0 in
      let a = length-more from x [] in
      let there : Leads tree (from ++ x ∷ []) ys = subst (λ n. Leads tree (from ++ n ∷ []) ys) (sym head) two.1 in
      let joins : (from ++ x ∷ []) ++ xs ≡ from ++ x ∷ xs = append_assoc from (x ∷ []) xs in
      let rest = led_ends (from ++ x ∷ []) xs ys (omega arith) (fit-append from (x ∷ []) fits (one.0.fits, tt)) one.1
      (λ n step. ends n (subst (λ (l : List ℕ). HasStep tree l n) joins step)) there in
      omega arith

  -- The numbers of two data directories that the links lead to.
  target_same : (one other : Target) → LeadsTo tree one → LeadsTo tree other → one ≡ other
  unfolding target_of
  target_same one other a b = let same = led_same [] (numbers one) (numbers other) (omega arith) refl tt a b in ap target_of same

  -- Of two bad links one is as far as the other.
  bad_same : (one other : Names) → IsBadAt tree one → IsBadAt tree other → one ≡ other
  bad_same one other a b =
      let le = led_ends [] a.from b.from (omega (arith, a.short)) tt a.led a.ends b.led in
      let ge = led_ends [] b.from a.from (omega (arith, b.short)) tt b.led b.ends a.led in
      let same = led_same [] a.from b.from (let s = a.short in omega arith) (omega arith) tt a.led b.led in
      a.path_is ∙ ap (λ (l : List ℕ). store (name_of l)) same ∙ sym b.path_is

  -- A bad link is no part of a chain that leads to a data directory.
  not_both : (target : Target) (path : Names) → LeadsTo tree target → IsBadAt tree path → ⊥
  not_both target path a b = let le = led_ends [] b.from (numbers target) (omega (arith, b.short)) tt b.led b.ends a in let s = b.short in
      let k : 4 ≤ length b.from = le in absurd (omega arith)

  -- A chain begins with a link.
  some_link : (target : Target) → LeadsTo tree target → link_at tree (codes "current") ≡ None → ⊥
  some_link target led none = let there = led.0.text in cc

  -- Equal data directories are one outcome.
  a_place : (one other : Target) (d e : Names) → one ≡ other → d ≡ directory one → e ≡ directory other → found one.version d ≡ found other.version e
  a_place one other d e same is are = ap (λ (p : Names). found one.version p) is ∙ ap (λ (t : Target). found t.version (directory t)) same
      ∙ ap (λ (p : Names). found other.version p) (sym are)

  pub resolves_one : (one other : Outcome) → Resolves tree one → Resolves tree other → one ≡ other
  resolves_one nowhere nowhere a b = refl
  resolves_one nowhere (found v d) a b = absurd (some_link _ b.1 a)
  resolves_one nowhere (bad p) a b = absurd (b.0 a)
  resolves_one (found v d) nowhere a b = absurd (some_link _ a.1 b)
  resolves_one (found v d) (found w e) a b = a_place _ _ d e (target_same _ _ a.1 b.1) a.2 b.2
  resolves_one (found v d) (bad p) a b = absurd (not_both _ p a.1 b.1)
  resolves_one (bad p) nowhere a b = absurd (a.0 b)
  resolves_one (bad p) (found v d) a b = absurd (not_both _ p b.1 a.1)
  resolves_one (bad p) (bad q) a b = ap bad (bad_same p q a.1 b.1)
