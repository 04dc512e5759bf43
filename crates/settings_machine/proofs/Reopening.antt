-- An opening keeps live settings, and one after another is one.
use Rattle.std.proofs.Common.{◌≡◌, Bool, true, false, not, ◌&&◌, ◌||◌, cond, if◌then◌else◌, List, [], ◌∷◌, map, filter, Option, Some, None}
use Rattle.std.proofs.Common.{is_some, inl, inr, refl, sym, ◌∙◌, ap}
use Rattle.std.specs.FinMap.{get, contains_key, entries, same_map}
use Rattle.std.specs.Str.{bytes_eq}
use Rattle.std.proofs.lemmas.Slice.Eq.{bytes_eq-Decides}
use Rattle.key_names.specs.Order.{key_total, key_cmp-IsAntisymmetric}
use Rattle.key_names.specs.Key.{is_prefix}
use Rattle.json_trees.specs.declared.scalar.Scalar.{Scalar}
use Rattle.settings_tree.specs.Content.{settings_key}
use Rattle.settings_tree.specs.declared.entry.Owed.{Owed}
use Rattle.settings_tree.specs.declared.entry.Owed.TheVariants as owed
use Rattle.settings_tree.specs.declared.held.Held.{Held}
use Rattle.settings_maps.specs.KeyList.{joined}
use Rattle.pending_tx.specs.Transactions.{owing}
use Rattle.settings_machine.specs.World.{Key, Among, Image, World, Job, Idle, Failed, Running}
use Rattle.settings_machine.specs.Typed.{is_of_image}
use Rattle.settings_machine.specs.Opening.{Values, is_of_store, opened_values, added_keys, opened_owed, opened_held}
use Rattle.settings_machine.specs.Step.{noting, opened}
use Rattle.settings_machine.specs.Events.{Opening, Succeeded, Failing, opening_next}
use Rattle.settings_machine.specs.Reopened.{OpeningsKeepSettings, OpeningTwiceIsOnce}
use Rattle.settings_machine.proofs.Elements.{key_itself, entry_stands}
use Rattle.settings_machine.proofs.Openings.{first_some, get-opened, image_apart}
use Rattle.settings_machine.proofs.Apartness.{opening_keeps}

-- ---- live settings

-- A key that begins with `settings` is not that of a service or a file.
setting_of_store : (key : Key) → is_prefix settings_key key ≡ true → is_of_image key ≡ false
setting_of_store key setting = by (is_of_image key) refl where
  by : (b : Bool) → is_of_image key ≡ b → b ≡ false
  by true is = absurd (apart key setting is) where
    apart : (k : Key) → is_prefix settings_key k ≡ true → is_of_image k ≡ true → ⊥
    apart [] begins image = cc image
    apart (a ∷ rest) begins image = image_apart (a ∷ rest) 0 image begins
  by false is = refl

module _ (I : Image) where
  kept : (W : World) (boot : Bool) (key : Key) (value : Scalar) → is_prefix settings_key key ≡ true → get W.held.live.values key ≡ Some value
      → get (opened I W boot).held.live.values key ≡ Some value
  unfolding opened
  kept W boot key value setting has =
      get-opened I.defaults.values W.held.live.values key
      ∙ ap (λ b. if b then get I.defaults.values key else first_some (get W.held.live.values key) (get I.defaults.values key)) (setting_of_store key setting)
      ∙ ap (λ (o : Option Scalar). first_some o (get I.defaults.values key)) has

  kept_after : (W : World) (boot : Bool) (o : Opening) (key : Key) (value : Scalar) → is_prefix settings_key key ≡ true
      → get W.held.live.values key ≡ Some value → get (opening_next I W boot o).held.live.values key ≡ Some value
  kept_after W boot Succeeded key value setting has = kept W boot key value setting has
  kept_after W boot (Failing taken) key value setting has = by taken where
    by : (b : Bool) → get (if b then opened I W boot else W).held.live.values key ≡ Some value
    by true = kept W boot key value setting has
    by false = has

pub openings_keep_settings : OpeningsKeepSettings
openings_keep_settings I W boot o = record { settings = kept_after I W boot o; pending = opening_keeps I W boot o }

-- ---- one opening after another

pub joined_alone : (keys : List Key) → joined keys [] ≡ keys
joined_alone [] = refl
joined_alone (key ∷ keys) = refl

none_passes : {X : Type 0} (p : X → Bool) (xs : List X) → ((x : X) → Among xs x → p x ≡ false) → filter p xs ≡ []
none_passes p [] none = refl
none_passes p (x ∷ xs) none = by (p x) (none x (inl refl)) (none_passes p xs (λ y at. none y (inr at))) where
  by : (b : Bool) → b ≡ false → filter p xs ≡ [] → cond b (x ∷ filter p xs) (filter p xs) ≡ []
  by true is rest = absurd (cc is)
  by false is rest = rest

owing_none : (o : Owed) → owing o [] ≡ o
owing_none owed.All = refl
owing_none (owed.Keys keys) = ap (λ (l : List Key). owed.Keys l) (joined_alone keys)

noting_none : (j : Job) → noting j [] ≡ j
noting_none Idle = refl
noting_none (Failed c) = refl
noting_none (Running w) = ap (λ (l : List Key). Running (record w { since = l })) (joined_alone w.since)

module _ (defaults live : Values) where
  values_same : opened_values defaults (opened_values defaults live) ≡ opened_values defaults live
  values_same = same_map key_total key_cmp-IsAntisymmetric _ _ (λ q. get-opened defaults (opened_values defaults live) q
      ∙ ap (λ (o : Option Scalar). if is_of_image q then get defaults q else first_some o (get defaults q)) (get-opened defaults live q)
      ∙ by (is_of_image q) (get live q) (get defaults q) ∙ sym (get-opened defaults live q))
    where
      by : (b : Bool) (l d : Option Scalar) → (if b then d else first_some (if b then d else first_some l d) d) ≡ (if b then d else first_some l d)
      by true l d = refl
      by false None None = refl
      by false None (Some v) = refl
      by false (Some v) d = refl

  -- Each default setting has a live value after an opening, so none is added by another.
  none_added : added_keys defaults (opened_values defaults live) ≡ []
  none_added = ap (map (λ (e : Key × Scalar). e.0)) (none_passes _ (entries defaults)
      (λ e at. here e (entry_stands key_cmp-IsAntisymmetric defaults e.0 e.1 (key_itself e.0) at)))
    where
      there : (b : Bool) (l : Option Scalar) (v : Scalar) → (not b && not (is_some (if b then Some v else first_some l (Some v)))) ≡ false
      there true l v = refl
      there false None v = refl
      there false (Some w) v = refl

      here : (e : Key × Scalar) → get defaults e.0 ≡ Some e.1 → (is_of_store e.0 && not (contains_key (opened_values defaults live) e.0)) ≡ false
      here e has = ap (λ (o : Option Scalar). is_of_store e.0 && not (is_some o))
          (get-opened defaults live e.0 ∙ ap (λ (d : Option Scalar). if is_of_image e.0 then d else first_some (get live e.0) d) has)
          ∙ there (is_of_image e.0) (get live e.0) e.1

module _ (I : Image) (W : World) (first second : Bool) where
  -- The keys that the first opening adds.
  abbrev added : List Key
  added = added_keys I.defaults.values W.held.live.values

  -- And those that the second one does.
  abbrev more : List Key
  more = added_keys I.defaults.values (opened_values I.defaults.values W.held.live.values)

  none_more : more ≡ []
  none_more = none_added I.defaults.values W.held.live.values

  abbrev held_with : Values → List Key → Owed → Held
  held_with values weak o = record {
    live = record { values = values; metadata = I.defaults.metadata; weak = weak };
    pending = W.held.pending;
    owed = o;
    image = I.text;
  }

  owed_same : opened_owed I (opened_held I W.held first) second ≡ opened_owed I W.held (first || second)
  owed_same =
      ap (λ b. if second || not b then owed.All else owing (opened_owed I W.held first) more) ((bytes_eq-Decides I.text I.text).1 refl)
      ∙ ap (λ (l : List Key). if second || false then owed.All else owing (opened_owed I W.held first) l) none_more
      ∙ ap (λ (o : Owed). if second || false then owed.All else o) (owing_none (opened_owed I W.held first))
      ∙ by first second (bytes_eq W.held.image I.text)
    where
      by : (a b c : Bool) → (if b || false then owed.All else (if a || not c then owed.All else owing W.held.owed added))
          ≡ (if (a || b) || not c then owed.All else owing W.held.owed added)
      by true true c = refl
      by true false c = refl
      by false true c = refl
      by false false c = refl

  weak_same : joined (joined W.held.live.weak added) more ≡ joined W.held.live.weak added
  weak_same = ap (joined (joined W.held.live.weak added)) none_more ∙ joined_alone (joined W.held.live.weak added)

  held_same : opened_held I (opened_held I W.held first) second ≡ opened_held I W.held (first || second)
  held_same =
      ap (λ (v : Values). held_with v (joined (joined W.held.live.weak added) more) (opened_owed I (opened_held I W.held first) second))
      (values_same I.defaults.values W.held.live.values)
      ∙ ap (λ (l : List Key). held_with (opened_values I.defaults.values W.held.live.values) l (opened_owed I (opened_held I W.held first) second)) weak_same
      ∙ ap (held_with (opened_values I.defaults.values W.held.live.values) (joined W.held.live.weak added)) owed_same

  job_same : noting (noting W.job added) more ≡ noting W.job added
  job_same = ap (noting (noting W.job added)) none_more ∙ noting_none (noting W.job added)

  twice_is_once : opened I (opened I W first) second ≡ opened I W (first || second)
  unfolding opened
  twice_is_once =
      ap (λ (h : Held). record W { held = h; job = noting (noting W.job added) more }) held_same
      ∙ ap (λ (j : Job). record W { held = opened_held I W.held (first || second); job = j }) job_same

pub opening_twice_is_once : OpeningTwiceIsOnce
opening_twice_is_once I W first second = twice_is_once I W first second
