-- What was found, and what is held, keeps the rules of values.
use Rattle.std.proofs.Common.{arith, ◌≡◌, ◌≢◌, ℕ, List, [], slice_index_or, Option, Some, None, IsSome, Bool, true, false, refl, sym, ap, subst, option_map}
use Rattle.std.specs.Prelude.{IsTrue, All, MatchOption, ⊤}
use Rattle.std.specs.FinMap.{FinMap, get}
use Rattle.std.proofs.lemmas.Bool.{false≢true}
use Rattle.key_names.specs.Order.{key_cmp}
use Rattle.key_names.specs.Key.{is_prefix, overlaps}
use Rattle.json_trees.specs.declared.scalar.Scalar.{Scalar}
use Rattle.settings_maps.specs.Maps.{inner, value_at}
use Rattle.settings_tree.specs.Change.{Place}
use Rattle.settings_tree.specs.Change.{Live, Meta, Pend, TheOwed, TheImage, TheWeak}
use Rattle.settings_tree.specs.Content.{IsContent, MayBeWeak}
use Rattle.settings_tree.specs.Pending.{IsPending}
use Rattle.settings_tree.specs.Rule.{IsPrefixFree}
use Rattle.settings_tree.specs.declared.held.Held.{Held}
use Rattle.fs_datastore.specs.Values.{Value, live, pending, owed, image, weak, value_in, is_for}
use Rattle.fs_datastore.specs.Stands.{IsListed}
use Rattle.fs_datastore.specs.Damage.{Clash}
use Rattle.fs_datastore.specs.FoundFiles.{what_found, KeepsRules}
use Rattle.fs_datastore.specs.declared.found.Found.{Found}
use Rattle.fs_datastore.proofs.Sound.{KeepRules, AreLive}

-- keys of a map that overlap are one
unique : {X : Type 0} (m : FinMap key_cmp X) → IsPrefixFree m → (k q : List (List ℕ)) → IsSome (get m k) → IsSome (get m q) → IsTrue (overlaps k q) → k ≡ q
unique m free k q one other meets = by (is_prefix k q) refl where
  by : (b : Bool) → is_prefix k q ≡ b → k ≡ q
  by true is = free.alone k q one other is
  by false is = sym (free.alone q k other one (grind (arith, meets, is)))

-- so one of two that clash has nothing
apart_in : {X : Type 0} (g : X → Value) (m : FinMap key_cmp X) → IsPrefixFree m → (k q : List (List ℕ)) → k ≢ q → IsTrue (overlaps k q)
    → IsSome (option_map g (get m k)) → option_map g (get m q) ≡ None
apart_in g m free k q differ meets some = by (get m q) refl where
  some_of : {X : Type 0} (g : X → Value) (o : Option X) → IsSome (option_map g o) → IsSome o
  some_of g None none = absurd (false≢true none)
  some_of g (Some x) is = refl

  by : (o : Option _) → get m q ≡ o → option_map g o ≡ None
  by None is = refl
  by (Some x) is = absurd (differ (unique m free k q (some_of g (get m k) some) (subst IsSome (sym is) refl) meets))

some_live : (o : Option Scalar) → IsSome o → IsSome (option_map live o)
some_live None none = absurd (false≢true none)
some_live (Some s) is = refl

-- ---- kinds

for_some_at : Place → Option Value → Type 0
for_some_at p None = ⊤
for_some_at p (Some w) = IsTrue (is_for p w)

of_kind : {X : Type 0} (p : Place) (g : X → Value) → ((x : X) → IsTrue (is_for p (g x))) → (o : Option X) (v : Value) → option_map g o ≡ Some v
    → IsTrue (is_for p v)
unfolding for_some_at
of_kind p g all None v is = absurd (cc is)
of_kind p g all (Some x) v is = subst (for_some_at p) is (all x)

-- ---- weak keys

weak_in : Option Value → List (List (List ℕ)) → List (List (List ℕ))
weak_in None d = d
weak_in (Some (live s)) d = d
weak_in (Some (pending p)) d = d
weak_in (Some (owed o)) d = d
weak_in (Some (image t)) d = d
weak_in (Some (weak ks)) d = ks

weak_is : (ks : List (List (List ℕ))) (keys : List (List (List ℕ))) → Some (weak ks) ≡ Some (weak keys) → ks ≡ keys
unfolding weak_in
weak_is ks keys is = ap (λ (o : Option Value). weak_in o []) is

are_live : (m : FinMap key_cmp Scalar) (what : Place → Option Value) → ((k : List (List ℕ)) → what (Live k) ≡ option_map live (get m k))
    → (ks : List (List (List ℕ))) → All (MayBeWeak m) ks → AreLive what ks
are_live m what same ks may = λ i d low.
    let one = may i d low in
    (one.setting, subst IsSome (sym (same (slice_index_or ks i d))) (some_live (get m (slice_index_or ks i d)) one.stands))

listed_live : (m : FinMap key_cmp Scalar) (what : Place → Option Value) → ((k : List (List ℕ)) → what (Live k) ≡ option_map live (get m k))
    → (listed : Option (List (List (List ℕ)))) → MatchOption listed ⊤ (λ ks. All (MayBeWeak m) ks) → (keys : List (List (List ℕ)))
    → option_map weak listed ≡ Some (weak keys) → AreLive what keys
listed_live m what same None may keys is = absurd (cc is)
listed_live m what same (Some ks) may keys is = subst (AreLive what) (weak_is ks keys is) (are_live m what same ks may)

-- ---- what was found

pub found_rules : (f : Found) → KeepsRules f → KeepRules (what_found f)
found_rules f rules = record { kinds = kinds; apart = apart; weak = listed_live f.values (what_found f) (λ k. refl) f.weak rules.weak } where
  kinds : (p : Place) (v : Value) → what_found f p ≡ Some v → IsTrue (is_for p v)
  kinds (Live k) v is = of_kind (Live k) live (λ x. refl) (get f.values k) v is
  kinds (Meta k n) v is = of_kind (Meta k n) live (λ x. refl) (value_at f.metadata k n) v is
  kinds (Pend t k) v is = of_kind (Pend t k) pending (λ x. refl) (value_at f.pending t k) v is
  kinds TheOwed v is = of_kind TheOwed owed (λ x. refl) f.owed v is
  kinds TheImage v is = of_kind TheImage image (λ x. refl) f.image v is
  kinds TheWeak v is = of_kind TheWeak weak (λ x. refl) f.weak v is

  apart : (p q : Place) → Clash p q → IsSome (what_found f p) → what_found f q ≡ None
  apart (Live k) (Live q) clash some = apart_in live f.values rules.free k q clash.0 clash.1 some
  apart (Pend t k) (Pend u q) clash some = subst (λ (w : List ℕ). option_map pending (value_at f.pending w q) ≡ None) clash.0
      (apart_in pending (inner f.pending t) (rules.pending.rule t) k q clash.1 clash.2 some)
  apart _ _ clash some = absurd clash

-- ---- what is held

pub held_rules : (h : Held) (told : Bool) (listed : Option (List (List (List ℕ)))) → IsContent h.live → IsPending h.pending → IsListed told listed h.live.weak
    → KeepRules (value_in h listed)
held_rules h told listed content keeps is = record {
  kinds = kinds;
  apart = apart;
  weak =
      listed_live h.live.values (value_in h listed) (λ k. refl) listed (by listed is);
} where
  by : (listed : Option (List (List (List ℕ)))) → IsListed told listed h.live.weak → MatchOption listed ⊤ (λ ks. All (MayBeWeak h.live.values) ks)
  by None none = tt
  by (Some ks) same = subst (All (MayBeWeak h.live.values)) same content.weak

  kinds : (p : Place) (v : Value) → value_in h listed p ≡ Some v → IsTrue (is_for p v)
  kinds (Live k) v is = of_kind (Live k) live (λ x. refl) (get h.live.values k) v is
  kinds (Meta k n) v is = of_kind (Meta k n) live (λ x. refl) (value_at h.live.metadata k n) v is
  kinds (Pend t k) v is = of_kind (Pend t k) pending (λ x. refl) (value_at h.pending t k) v is
  kinds TheOwed v is = of_kind TheOwed owed (λ x. refl) (Some h.owed) v is
  kinds TheImage v is = of_kind TheImage image (λ x. refl) (Some h.image) v is
  kinds TheWeak v is = of_kind TheWeak weak (λ x. refl) listed v is

  apart : (p q : Place) → Clash p q → IsSome (value_in h listed p) → value_in h listed q ≡ None
  apart (Live k) (Live q) clash some = apart_in live h.live.values content.rule k q clash.0 clash.1 some
  apart (Pend t k) (Pend u q) clash some = subst (λ (w : List ℕ). option_map pending (value_at h.pending w q) ≡ None) clash.0
      (apart_in pending (inner h.pending t) (keeps.rule t) k q clash.1 clash.2 some)
  apart _ _ clash some = absurd clash
