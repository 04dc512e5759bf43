-- Files represent at most one choice of what is held.
use Rattle.std.proofs.Common.{◌≡◌, ℕ, List, [], Option, Some, None, Bool, true, false, if◌then◌else◌, refl, sym, ap, ◌∙◌, subst, option_map}
use Rattle.std.specs.Prelude.{IsTrue}
use Rattle.std.specs.FinMap.{get, same_map}
use Rattle.outside.specs.Tree.{Node, file}
use Rattle.commit_journal.specs.Files.{Files}
use Rattle.key_names.specs.Order.{key_total, key_cmp-IsAntisymmetric, bytes_total, bytes_cmp-IsAntisymmetric}
use Rattle.json_trees.specs.declared.scalar.Scalar.{Scalar}
use Rattle.json_trees.specs.declared.pending.Pending.{Pending}
use Rattle.settings_maps.specs.Maps.{value_at}
use Rattle.settings_maps.proofs.NestedMaps.{same_nested}
use Rattle.settings_tree.specs.Change.{Place}
use Rattle.settings_tree.specs.Change.{Live, Meta, Pend, TheOwed, TheImage, TheWeak}
use Rattle.settings_tree.specs.declared.entry.Owed.{Owed}
use Rattle.settings_tree.specs.declared.held.Held.{Held}
use Rattle.fs_datastore.specs.Places.{format_path}
use Rattle.fs_datastore.specs.Values.{Value, live, pending, owed, image, weak, value_in, Spells, is_for}
use Rattle.fs_datastore.specs.Stands.{node_of, IsFileOf, Stands, IsListed, format_node}
use Rattle.fs_datastore.specs.Laws.{StandsForOne}
use Rattle.fs_datastore.proofs.Sound.{KeepRules, Told, shown, none_shown}
use Rattle.fs_datastore.proofs.Spelled.{spells_one}
use Rattle.fs_datastore.proofs.Rules.{held_rules}

bytes_in : Node → List ℕ → List ℕ
bytes_in (file bytes) d = bytes
bytes_in _ d = d

-- a node is that of one value
one_value : (p : Place) (v w : Option Value) (node : Option Node) → ((x : Value) → v ≡ Some x → IsTrue (is_for p x))
    → ((x : Value) → w ≡ Some x → IsTrue (is_for p x)) → IsFileOf v node → IsFileOf w node → v ≡ w
unfolding bytes_in
one_value p v w None kinds also is reads = none_shown v None is refl ∙ sym (none_shown w None reads refl)
one_value p v w (Some n) kinds also is reads = by (shown v (Some n) n is refl) (shown w (Some n) n reads refl) where
  by : Told v n → Told w n → v ≡ w
  by a b =
      let same : a.bytes ≡ b.bytes = ap (λ (x : Node). bytes_in x []) (sym a.node_is ∙ b.node_is) in
      a.value_is ∙ ap Some (spells_one p a.bytes a.is b.is (kinds a.is a.value_is) (also b.is b.value_is) a.spelled
      (subst (λ (l : List ℕ). Spells l b.is) (sym same) b.spelled)) ∙ sym b.value_is

one_format : (files : Files) (told also : Bool) → files format_path ≡ format_node told → files format_path ≡ format_node also → told ≡ also
one_format files true true is reads = refl
one_format files false false is reads = refl
one_format files true false is reads = absurd (cc (is, reads))
one_format files false true is reads = absurd (cc (is, reads))

live_in : Value → Scalar → Scalar
live_in (live s) d = s
live_in _ d = d

pending_in : Value → Pending → Pending
pending_in (pending s) d = s
pending_in _ d = d

-- a map that its values determine is one
one_of : {X : Type 0} (g : X → Value) (back : Value → X → X) → ((x d : X) → back (g x) d ≡ x) → (o r : Option X) → option_map g o ≡ option_map g r → o ≡ r
one_of g back undone None None is = refl
one_of g back undone None (Some y) is = absurd (cc is)
one_of g back undone (Some x) None is = absurd (cc is)
one_of g back undone (Some x) (Some y) is = ap Some (sym (undone x x) ∙ ap (λ (o : Option Value). back (inside o) x) is ∙ undone y x) where
  inside : Option Value → Value
  inside None = g x
  inside (Some v) = v

owed_in : Option Value → Owed → Owed
owed_in None d = d
owed_in (Some (owed o)) d = o
owed_in (Some _) d = d

image_in : Option Value → List ℕ → List ℕ
image_in None d = d
image_in (Some (image t)) d = t
image_in (Some _) d = d

weak_in : Value → List (List (List ℕ)) → List (List (List ℕ))
weak_in (weak ks) d = ks
weak_in _ d = d

one_listed : (told : Bool) (a b : Option (List (List (List ℕ)))) (v w : List (List (List ℕ))) → a ≡ b → IsListed told a v → IsListed told b w → v ≡ w
one_listed told a b v w same is also = by b (subst (λ (o : Option (List (List (List ℕ)))). IsListed told o v) same is) also where
  by : (b : Option (List (List (List ℕ)))) → IsListed told b v → IsListed told b w → v ≡ w
  by None is also = is.1 ∙ sym also.1
  by (Some ks) is also = is ∙ sym also

module _ (files : Files) (one other : Held) (format also : ℕ) (s : Stands files one format) (t : Stands files other also) where
  rules_one : KeepRules (value_in one s.listed)
  rules_one = held_rules one s.told s.listed s.content s.pending s.weak_is

  rules_other : KeepRules (value_in other t.listed)
  rules_other = held_rules other t.told t.listed t.content t.pending t.weak_is

  same : (p : Place) → value_in one s.listed p ≡ value_in other t.listed p
  same p = one_value p (value_in one s.listed p) (value_in other t.listed p) (node_of files p) (rules_one.kinds p) (rules_other.kinds p) (s.shows.places p)
      (t.shows.places p)

  told_same : s.told ≡ t.told
  told_same = one_format files s.told t.told s.shows.format t.shows.format

  values_same : one.live.values ≡ other.live.values
  unfolding live_in
  values_same = same_map key_total key_cmp-IsAntisymmetric one.live.values other.live.values
      (λ k. one_of live live_in (λ x d. refl) (get one.live.values k) (get other.live.values k) (same (Live k)))

  metadata_same : one.live.metadata ≡ other.live.metadata
  unfolding live_in
  metadata_same = same_nested key_total key_cmp-IsAntisymmetric bytes_total bytes_cmp-IsAntisymmetric one.live.metadata other.live.metadata s.content.full
      t.content.full
      (λ k n. one_of live live_in (λ x d. refl) (value_at one.live.metadata k n) (value_at other.live.metadata k n) (same (Meta k n)))

  pending_same : one.pending ≡ other.pending
  unfolding pending_in
  pending_same = same_nested bytes_total bytes_cmp-IsAntisymmetric key_total key_cmp-IsAntisymmetric one.pending other.pending s.pending.full t.pending.full
      (λ u k. one_of pending pending_in (λ x d. refl) (value_at one.pending u k) (value_at other.pending u k) (same (Pend u k)))

  owed_same : one.owed ≡ other.owed
  unfolding owed_in
  owed_same = ap (λ (o : Option Value). owed_in o one.owed) (same TheOwed)

  image_same : one.image ≡ other.image
  unfolding image_in
  image_same = ap (λ (o : Option Value). image_in o []) (same TheImage)

  weak_same : one.live.weak ≡ other.live.weak
  unfolding weak_in
  weak_same = one_listed t.told s.listed t.listed one.live.weak other.live.weak (one_of weak weak_in (λ x d. refl) s.listed t.listed (same TheWeak))
      (subst (λ (b : Bool). IsListed b s.listed one.live.weak) told_same s.weak_is) t.weak_is

  meaning : (one ≡ other) × (format ≡ also)
  meaning = (
    (λ i. record {
      live = record { values = values_same i; metadata = metadata_same i; weak = weak_same i };
      pending = pending_same i;
      owed =
          owed_same i;
      image = image_same i;
    }),
    s.format_is ∙ ap (λ (b : Bool). if b then 2 else 1) told_same ∙ sym t.format_is,
  )

pub one_meaning : StandsForOne
one_meaning = meaning
