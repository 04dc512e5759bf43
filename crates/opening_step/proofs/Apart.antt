-- Entries that name no place twice, and lists of them.
use Rattle.std.proofs.Common.{◌≡◌, ◌++◌, List, [], ◌∷◌, Some, true, false}
use Rattle.std.proofs.Common.{refl}
use Rattle.std.specs.List.{flat_map}
use Rattle.std.specs.declared.cmp.Ordering.{Ordering}
use Rattle.std.specs.Ordering.{eq_by_cmp, is_lt}
use Rattle.std.specs.FinMap.{find, is_sorted}
use Rattle.std.specs.FinMap.Entries.{below_all}
use Rattle.std.proofs.lemmas.Bool.{and_parts, and_from}
use Rattle.pending_tx.proofs.Named.{unnamed-append, are_apart, apart-append1, once-append}
use Rattle.settings_tree.specs.Change.{place, is_unnamed, is_once}
use Rattle.settings_tree.specs.declared.entry.Entry.{Entry}
use Rattle.opening_step.proofs.InOrder.{less}
use Rattle.opening_step.proofs.Parts.{flat_all, known_all}

-- ---- apart

pub apart-append2 : (es fs gs : List Entry) → are_apart es fs ≡ true → are_apart es gs ≡ true → are_apart es (fs ++ gs) ≡ true
apart-append2 [] fs gs one two = refl
apart-append2 (e ∷ es) fs gs one two =
    let first = and_parts (is_unnamed (place e) fs) (are_apart es fs) one in
    let second = and_parts (is_unnamed (place e) gs) (are_apart es gs) two in
    and_from _ _ (unnamed-append (place e) fs gs first.0 second.0) (apart-append2 es fs gs first.1 second.1)

apart-nil : (es : List Entry) → are_apart es [] ≡ true
apart-nil [] = refl
apart-nil (e ∷ es) = apart-nil es

pub apart-flat1 : {X : Type 0} (f : X → List Entry) (gs : List Entry) (xs : List X) → ((x : X) → are_apart (f x) gs ≡ true)
    → are_apart (flat_map f xs) gs ≡ true
apart-flat1 f gs xs each = flat_all (λ (es : List Entry). are_apart es gs ≡ true) refl (λ es fs. apart-append1 es fs gs) f xs each

pub apart-flat2 : {X : Type 0} (es : List Entry) (f : X → List Entry) (xs : List X) → ((x : X) → are_apart es (f x) ≡ true)
    → are_apart es (flat_map f xs) ≡ true
apart-flat2 es f xs each = flat_all (λ (fs : List Entry). are_apart es fs ≡ true) (apart-nil es) (apart-append2 es) f xs each

-- ---- lists that are made of a map, key by key

module _ {K X : Type 0} (R : K → K → Ordering) (f : K × X → List Entry) (each_once : (e : K × X) → is_once (f e) ≡ true)
    (apart : (d e : K × X) → eq_by_cmp R d.0 e.0 ≡ false → are_apart (f d) (f e) ≡ true) where
  flat_apart : (d : K × X) (es : List (K × X)) → below_all R d.0 es ≡ true → are_apart (f d) (flat_map f es) ≡ true
  flat_apart d [] below = apart-nil (f d)
  flat_apart d (e ∷ es) below = let both = and_parts (is_lt (R d.0 e.0)) (below_all R d.0 es) below in
      apart-append2 (f d) (f e) (flat_map f es) (apart d e (less (R d.0 e.0) both.0)) (flat_apart d es both.1)

  pub flat_once : (es : List (K × X)) → is_sorted R es ≡ true → is_once (flat_map f es) ≡ true
  flat_once [] rises = refl
  flat_once (e ∷ es) rises = let both = and_parts (below_all R e.0 es) (is_sorted R es) rises in
      once-append (f e) (flat_map f es) (each_once e) (flat_once es both.1) (flat_apart e es both.0)

-- What is known of each key of the entries and what is there.
module _ {K X : Type 0} (R : K → K → Ordering) (own : (k : K) → eq_by_cmp R k k ≡ true) (alike : (a b : K) → eq_by_cmp R a b ≡ true → a ≡ b)
    (f : K × X → List Entry) (gs : List Entry) (P : K → X → Type 0)
    (each : (e : K × X) → P e.0 e.1 → are_apart (f e) gs ≡ true) where
  pub known_apart : (es : List (K × X)) → is_sorted R es ≡ true → ((k : K) (x : X) → find R k es ≡ Some x → P k x) → are_apart (flat_map f es) gs ≡ true
  known_apart es rises there =
      known_all R own alike f (λ (ls : List Entry). are_apart ls gs ≡ true) refl (λ ls rs. apart-append1 ls rs gs) P each es rises there
