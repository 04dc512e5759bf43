-- What is used of coverage: a covered file is listed, and no change goes unseen.
use Rattle.std.proofs.Common.{arith, ◌≡◌, ◌<◌, ◌⊎◌, inl, inr, ⊎_elim, ℕ, zero, suc, length, get_or, Bool, true, false, List, [], ◌∷◌, refl, sym}
use Rattle.std.specs.Prelude.{Contains}
use Rattle.std.specs.FinMap.{get}
use Rattle.settings_tree.specs.Content.{Contents}
use Rattle.settings_tree.specs.declared.entry.Owed.TheVariants as owed
use Rattle.settings_maps.specs.KeyList.{has_key}
use Rattle.metadata_links.specs.Links.{files_of, services_of}
use Rattle.depend_check.specs.Nodes.{RenderAlike}
use Rattle.depend_check.proofs.Laws.{changes_seen}
use Rattle.settings_machine.specs.World.{Key, Among, Image, source_of, rendered}
use Rattle.settings_machine.specs.Covered.{IsCovered}
use Rattle.settings_machine.proofs.Elements.{key_among}

-- The contents have the same values but at these keys.
pub record DifferOnlyAt (keys : List Key) (one other : Contents) : Type 0 where
  pub same : (key : Key) → has_key keys key ≡ false → get one.values key ≡ get other.values key

module _ {X : Type 0} where
  at_index : (xs : List X) (k : ℕ) (x : X) → k < length xs → get_or xs k x ≡ x → Among xs x
  at_index [] k x low is = absurd (omega arith)
  at_index (y ∷ xs) zero x low is = inl (sym is)
  at_index (y ∷ xs) (suc k) x low is = inr (at_index xs k x (omega arith) is)

  pub contained_among : (xs : List X) (x : X) → Contains xs x → Among xs x
  contained_among xs x has = at_index xs has.0 x has.1 has.2

  pub among_contained : (xs : List X) (x : X) → Among xs x → Contains xs x
  among_contained [] x at = absurd at
  among_contained (y ∷ xs) x (inl here) = (0, omega arith, sym here)
  among_contained (y ∷ xs) x (inr there) = let t = among_contained xs x there in (suc t.0, more t.0 t.1, t.2) where
    more : (k : ℕ) → k < length xs → suc k < length (y ∷ xs)
    more k low = omega arith

-- Some service lists a covered file.
pub covered_service : (I : Image) (f : List ℕ) → IsCovered I f → (service : List ℕ) × Among (services_of I.manifest f) service
covered_service I f covered = (covered.listed.service, contained_among _ _ covered.listed.lists)

-- Contents that differ only at some keys render a covered file alike, or it is one of the files of these keys.
pub seen : (I : Image) (f : List ℕ) → IsCovered I f → (one other : Contents) (keys : List Key) → DifferOnlyAt keys one other
    → (rendered I f one ≡ rendered I f other) ⊎ Among (files_of I.manifest (owed.Keys keys)) f
unfolding rendered
seen I f covered one other keys differ = ⊎_elim
    (λ alike. let r : RenderAlike (source_of I f).tree one other = alike in inl (r.same I.os (source_of I f).text))
    (λ hit. inr (contained_among _ f hit))
    (changes_seen I.manifest I.types (source_of I f).tree f covered keys one other (record { same = λ key none. by key none (has_key keys key) refl }))
  where
    by : (key : Key) → (Contains keys key → ⊥) → (b : Bool) → has_key keys key ≡ b → get one.values key ≡ get other.values key
    by key none true has = absurd (none (among_contained keys key (key_among keys key has)))
    by key none false has = differ.same key has
