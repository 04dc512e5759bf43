-- In a typed store the keys of a patch and of a transaction fit: they overlap no other.
use Rattle.std.proofs.Common.{arith, ◌≡◌, ◌<◌, inl, inr, ⊎_elim, ℕ, zero, suc, true, false, List, [], ◌∷◌, ◌++◌, length, get_or, Option, Some, None}
use Rattle.std.proofs.Common.{IsSome, refl, sym, ◌∙◌, ap, subst}
use Rattle.std.proofs.lemmas.Bool.{cases_Bool}
use Rattle.std.proofs.lemmas.List.{append-nil}
use Rattle.std.specs.FinMap.{get, empty, get-empty}
use Rattle.key_names.specs.Order.{key_cmp}
use Rattle.key_names.specs.Key.{is_prefix}
use Rattle.json_trees.specs.declared.pending.Pending.{Pending}
use Rattle.json_trees.specs.declared.pending.Pending.TheVariants.{Put, Gone}
use Rattle.json_trees.specs.declared.scalar.Scalar.{Scalar}
use Rattle.settings_tree.specs.Content.{settings_key}
use Rattle.settings_tree.specs.Rule.{Fits}
use Rattle.settings_tree.specs.declared.held.Held.{Held}
use Rattle.pending_tx.specs.Transactions.{pending_of, last_of, FitLive, FitOver, FitPairs}
use Rattle.typed_settings.specs.Row.{IsKnown, IsTyped, IsPrefixFree}
use Rattle.typed_settings.specs.declared.row.Row.{Row}
use Rattle.settings_machine.specs.World.{Key, Among}
use Rattle.settings_machine.specs.Typed.{first_wanted, is_of_image, IsTaken, MayPend, IsTypedHeld}
use Rattle.settings_machine.proofs.Openings.{image_apart}
use Rattle.settings_machine.proofs.Typing.{all_may, last_may}
use Rattle.key_names.proofs.Prefixes.{behind}

-- An element at an index is among a list.
among_at : {X : Type 0} (xs : List X) (k : ℕ) (d : X) → k < length xs → Among xs (get_or xs k d)
among_at [] k d low = absurd (omega arith)
among_at (x ∷ xs) zero d low = inl refl
among_at (x ∷ xs) (suc k) d low = inr (among_at xs k d (omega arith))

-- A key of a service or a file, and a key that begins with `settings`, don't overlap.
image_longer : (q rest : Key) → is_prefix settings_key q ≡ true → is_of_image (q ++ rest) ≡ true → ⊥
image_longer [] rest setting image = cc setting
image_longer (a ∷ q) rest setting image = image_apart (a ∷ q ++ rest) 0 image setting

image_shorter : (q rest : Key) → is_of_image q ≡ true → is_prefix settings_key (q ++ rest) ≡ true → ⊥
image_shorter [] rest image setting = cc image
image_shorter (a ∷ q) rest image setting = image_apart (a ∷ q) 0 image setting

module _ (table : List Row) (free : IsPrefixFree table) where
  -- Of two known keys none is a proper prefix of the other.
  known_apart : (k q : Key) → IsKnown table k → IsKnown table q → is_prefix k q ≡ true → k ≡ q
  known_apart k q known known' begins =
      let b = behind k q begins in
      let none : b.0 ≡ [] = free.free k b.0 known (subst (IsKnown table) b.1 known') in
      sym (b.1 ∙ ap (λ (l : Key). k ++ l) none ∙ append-nil k)

  taken_known : (k : Key) (p : Pending) → IsTaken table k p → IsKnown table k
  taken_known k (Put v) taken = (taken.row, taken.has)
  taken_known k Gone taken = taken

  module _ (h : Held) (typed : IsTypedHeld table h) where
    live_known : (q : Key) → IsSome (get h.live.values q) → is_of_image q ≡ false → IsKnown table q
    live_known q has not_image = by (get h.live.values q) refl has where
      by : (o : Option Scalar) → get h.live.values q ≡ o → IsSome o → IsKnown table q
      by None is has' = absurd (cc has')
      by (Some v) is has' = let t : IsTyped table q v = typed.settings.typed q v is not_image in (t.row, t.has)

    -- A known key that begins with `settings` fits the live values.
    known_fits : (k : Key) → is_prefix settings_key k ≡ true → IsKnown table k → Fits h.live.values k
    known_fits k setting known = record {
      longer = record {
        alone = λ q has begins. ⊎_elim
            (λ image. let b = behind k q begins in absurd (image_longer k b.0 setting (ap is_of_image (sym b.1) ∙ image)))
            (λ not_image. known_apart k q known (live_known q has not_image) begins)
            (cases_Bool (is_of_image q));
      };
      shorter = record {
        alone = λ q has begins. ⊎_elim
            (λ image. let b = behind q k begins in absurd (image_shorter q b.0 image (ap (is_prefix settings_key) (sym b.1) ∙ setting)))
            (λ not_image. known_apart q k (live_known q has not_image) known begins)
            (cases_Bool (is_of_image q));
      };
    }

    -- What a transaction sets fits the live values.
    pub fit_live : (tx : List ℕ) → FitLive h tx
    fit_live tx = record {
      fits = λ k v is. let m : MayPend table k (Put v) = typed.pending tx k (Put v) is in
          known_fits k m.setting (taken_known k (Put v) m.taken);
    }

    pending_known : (tx : List ℕ) (q : Key) → IsSome (get (pending_of h tx) q) → IsKnown table q
    pending_known tx q has = by (get (pending_of h tx) q) refl has where
      by : (o : Option Pending) → get (pending_of h tx) q ≡ o → IsSome o → IsKnown table q
      by None is has' = absurd (cc has')
      by (Some p) is has' = let m : MayPend table q p = typed.pending tx q p is in taken_known q p m.taken

    -- Pairs of which none is refused fit the transaction.
    pub fit_pairs : (tx : List ℕ) (pairs : List (Key × Pending)) → first_wanted table pairs ≡ None → FitPairs (pending_of h tx) pairs
    fit_pairs tx pairs none = record {
      fit = λ i d low. let k = known (get_or pairs i d) (among_at pairs i d low) in record {
        longer = record { alone = λ q has begins. known_apart (get_or pairs i d).0 q k (pending_known tx q has) begins };
        shorter = record { alone = λ q has begins. known_apart q (get_or pairs i d).0 (pending_known tx q has) k begins };
      };
      apart = λ i d low j e low' begins. known_apart (get_or pairs i d).0 (get_or pairs j e).0 (known _ (among_at pairs i d low))
          (known _ (among_at pairs j e low')) begins;
    } where
      known : (e : Key × Pending) → Among pairs e → IsKnown table e.0
      known e at = let m : MayPend table e.0 e.1 = all_may table pairs none e at in taken_known e.0 e.1 m.taken

    -- The last ones of each key fit the live values and one another.
    pub fit_over : (pairs : List (Key × Pending)) → first_wanted table pairs ≡ None → FitOver h (last_of pairs)
    fit_over pairs none = record {
      fits = λ k v is. let m : MayPend table k (Put v) = may k (Put v) is in known_fits k m.setting (taken_known k (Put v) m.taken);
      free = record { alone = λ k q has other begins. known_apart k q (last_known k has) (last_known q other) begins };
    } where
      may : (k : Key) (p : Pending) → get (last_of pairs) k ≡ Some p → MayPend table k p
      may = last_may table pairs empty (all_may table pairs none) (λ q p e. absurd (cc (get-empty {X = Pending} key_cmp q, e)))

      last_known : (q : Key) → IsSome (get (last_of pairs) q) → IsKnown table q
      last_known q has = by (get (last_of pairs) q) refl has where
        by : (o : Option Pending) → get (last_of pairs) q ≡ o → IsSome o → IsKnown table q
        by None is has' = absurd (cc has')
        by (Some p) is has' = let m : MayPend table q p = may q p is in taken_known q p m.taken
