-- What was found, as what is held, or the first file that is missing.
use Rattle.std.proofs.Common.{arith, ◌≡◌, ℕ, List, [], Option, Some, None, IsSome, unwrap_or}
use Rattle.std.proofs.Common.{Bool, true, false, cond, if◌then◌else◌, refl, sym, ap, ◌∙◌, subst, option_map}
use Rattle.std.specs.Prelude.{All, MatchOption, ⊤}
use Rattle.std.specs.declared.cmp.Ordering.{Ordering}
use Rattle.std.specs.FinMap.{FinMap, get, empty, get-empty}
use Rattle.std.proofs.lemmas.Bool.{false≢true}
use Rattle.outside.specs.Tree.{Node}
use Rattle.commit_journal.specs.Files.{Files}
use Rattle.key_names.specs.Order.{key_cmp, bytes_cmp}
use Rattle.json_trees.specs.declared.scalar.Scalar.{Scalar}
use Rattle.json_trees.specs.declared.pending.Pending.{Pending}
use Rattle.settings_maps.specs.Maps.{value_at, IsFull}
use Rattle.settings_tree.specs.Change.{Place}
use Rattle.settings_tree.specs.Change.{Live, Meta, Pend, TheOwed, TheImage, TheWeak}
use Rattle.settings_tree.specs.Content.{IsNamed, MayBeWeak}
use Rattle.settings_tree.specs.Pending.{IsPending}
use Rattle.settings_tree.specs.Rule.{IsPrefixFree}
use Rattle.settings_tree.specs.declared.entry.Owed.{Owed}
use Rattle.settings_tree.specs.declared.held.Held.{Held}
use Rattle.settings_tree.proofs.Contents.{no_rules}
use Rattle.settings_tree.proofs.PendingMaps.{none_pending}
use Rattle.fs_datastore.specs.Places.{path_of, is_place, format_path}
use Rattle.fs_datastore.specs.Values.{Value, live, pending, owed, image, weak, value_in}
use Rattle.fs_datastore.specs.Stands.{IsFileOf, Stands, IsListed, format_node}
use Rattle.fs_datastore.specs.Damage.{IsFault, no_owed, no_image, no_weak, HasNoDamage}
use Rattle.fs_datastore.specs.FoundFiles.{what_found, Says, no_files}
use Rattle.fs_datastore.specs.declared.found.Found.{Found}
use Rattle.fs_datastore.proofs.Showing.{shows_alike}
use Rattle.fs_datastore.proofs.Sound.{sound, none_there, some_there}
use Rattle.fs_datastore.proofs.Rules.{found_rules}

-- ---- nothing was read

none_at : {K N X : Type 0} (R : K → K → Ordering) (S : N → N → Ordering) (k : K) (n : N) → value_at (empty {X = FinMap S X} {R = R}) k n ≡ None
none_at {X = X} R S k n = ap (λ (o : Option (FinMap S X)). get (unwrap_or o empty) n) (get-empty {X = FinMap S X} R k) ∙ get-empty {X = X} S n

abbrev nothing : Found
nothing = record { values = empty; metadata = empty; pending = empty; owed = None; image = None; weak = None; told = false }

nowhere : (v : Option Value) (b : Bool) → v ≡ None → IsFileOf v (cond b None None)
nowhere v true none = subst (λ (o : Option Value). IsFileOf o None) (sym none) refl
nowhere v false none = subst (λ (o : Option Value). IsFileOf o None) (sym none) refl

pub none_found : (values : FinMap key_cmp Scalar) (metadata : FinMap key_cmp (FinMap bytes_cmp Scalar)) (pending : FinMap bytes_cmp (FinMap key_cmp Pending))
    → values ≡ empty → metadata ≡ empty → pending ≡ empty
    → Says no_files (record { values = values; metadata = metadata; pending = pending; owed = None; image = None; weak = None; told = false })
none_found v m p a b c = subst (Says no_files) (λ i. record {
  values = sym a i;
  metadata = sym b i;
  pending = sym c i;
  owed = None;
  image = None;
  weak =
      None;
  told = false;
}) says where
  places : (p : Place) → IsFileOf (what_found nothing p) (cond (is_place p) None None)
  places (Live k) = nowhere _ (is_place (Live k)) (ap (λ (o : Option Scalar). option_map live o) (get-empty key_cmp k))
  places (Meta k n) = nowhere _ (is_place (Meta k n)) (ap (λ (o : Option Scalar). option_map live o) (none_at key_cmp bytes_cmp k n))
  places (Pend t k) = nowhere _ (is_place (Pend t k)) (ap (λ (o : Option Pending). option_map pending o) (none_at bytes_cmp key_cmp t k))
  places TheOwed = refl
  places TheImage = refl
  places TheWeak = refl

  says : Says no_files nothing
  says = record {
    shows = record { named = λ name rest there. absurd (false≢true there); places = places; format = refl };
    rules = record { free = no_rules.rule; full = no_rules.full; named = no_rules.named; pending = none_pending; weak = tt };
  }

-- ---- all was read

-- what was found is held
module _ (f : Found) (files : Files) (h : Held) (says : Says files f) (values : f.values ≡ h.live.values) (metadata : f.metadata ≡ h.live.metadata)
    (weak_is : h.live.weak ≡ unwrap_or f.weak []) (pending_is : f.pending ≡ h.pending) (owed_is : f.owed ≡ Some h.owed) (image_is : f.image ≡ Some h.image)
    (listed : f.told ≡ true → f.weak ≡ None → ⊥) where
  alike : (p : Place) → what_found f p ≡ value_in h f.weak p
  alike (Live k) = ap (λ (m : FinMap key_cmp Scalar). option_map live (get m k)) values
  alike (Meta k n) = ap (λ (m : FinMap key_cmp (FinMap bytes_cmp Scalar)). option_map live (value_at m k n)) metadata
  alike (Pend t k) = ap (λ (m : FinMap bytes_cmp (FinMap key_cmp Pending)). option_map pending (value_at m t k)) pending_is
  alike TheOwed = ap (λ (o : Option Owed). option_map owed o) owed_is
  alike TheImage = ap (λ (o : Option (List ℕ)). option_map image o) image_is
  alike TheWeak = refl

  is_listed : (told : Bool) (weak : Option (List (List (List ℕ)))) → h.live.weak ≡ unwrap_or weak [] → (told ≡ true → weak ≡ None → ⊥)
      → IsListed told weak h.live.weak
  is_listed true None is listed = absurd (listed refl refl)
  is_listed false None is listed = (refl, is)
  is_listed told (Some ks) is listed = is

  may : (weak : Option (List (List (List ℕ)))) → h.live.weak ≡ unwrap_or weak [] → MatchOption weak ⊤ (λ keys. All (MayBeWeak f.values) keys)
      → All (MayBeWeak h.live.values) h.live.weak
  may None is so = subst (All (MayBeWeak h.live.values)) (sym is) (λ i d low. absurd (omega arith))
  may (Some ks) is so = subst (All (MayBeWeak h.live.values)) (sym is) (subst (λ (m : FinMap key_cmp Scalar). All (MayBeWeak m) ks) values so)

  pub held_found : (format : ℕ) → format ≡ (if f.told then 2 else 1) → Stands files h format
  held_found format is = record {
    told = f.told;
    listed = f.weak;
    shows = shows_alike files (what_found f) (value_in h f.weak) f.told alike says.shows;
    format_is = is;
    weak_is = is_listed f.told f.weak weak_is listed;
    content = record {
      rule = subst IsPrefixFree values says.rules.free;
      full = subst IsFull metadata says.rules.full;
      named = subst IsNamed metadata says.rules.named;
      weak = may f.weak weak_is says.rules.weak;
    };
    pending = subst IsPending pending_is says.rules.pending;
  }

-- ---- a file is missing

module _ (f : Found) (files : Files) (says : Says files f) where
  unharmed : HasNoDamage files
  unharmed = sound files (what_found f) f.told says.shows (found_rules f says.rules)

  owed_there : (o : Owed) → f.owed ≡ Some o → IsSome (files (path_of TheOwed))
  owed_there o is = some_there (what_found f TheOwed) (files (path_of TheOwed)) (says.shows.places TheOwed)
      (subst (λ (x : Option Owed). IsSome (option_map owed x)) (sym is) refl)

  image_there : (t : List ℕ) → f.image ≡ Some t → IsSome (files (path_of TheImage))
  image_there t is = some_there (what_found f TheImage) (files (path_of TheImage)) (says.shows.places TheImage)
      (subst (λ (x : Option (List ℕ)). IsSome (option_map image x)) (sym is) refl)

  format_there : (b : Bool) (node : Option Node) → node ≡ format_node b → b ≡ true → IsSome node
  format_there true node is told = subst IsSome (sym is) refl
  format_there false node is told = absurd (false≢true told)

  pub owed_missing : f.owed ≡ None → IsFault files (path_of TheOwed)
  owed_missing none = no_owed unharmed refl (none_there (what_found f TheOwed) (files (path_of TheOwed)) (says.shows.places TheOwed)
      (ap (λ (x : Option Owed). option_map owed x) none))

  pub image_missing : (o : Owed) → f.owed ≡ Some o → f.image ≡ None → IsFault files (path_of TheImage)
  image_missing o is none = no_image unharmed refl (none_there (what_found f TheImage) (files (path_of TheImage)) (says.shows.places TheImage)
      (ap (λ (x : Option (List ℕ)). option_map image x) none)) (owed_there o is)

  pub weak_missing : (o : Owed) (t : List ℕ) → f.owed ≡ Some o → f.image ≡ Some t → f.told ≡ true → f.weak ≡ None → IsFault files (path_of TheWeak)
  weak_missing o t is so told none =
      no_weak unharmed refl (none_there (what_found f TheWeak) (files (path_of TheWeak)) (says.shows.places TheWeak)
      (ap (λ (x : Option (List (List (List ℕ)))). option_map weak x) none)) (owed_there o is) (image_there t so)
      (format_there f.told (files format_path) says.shows.format told)
