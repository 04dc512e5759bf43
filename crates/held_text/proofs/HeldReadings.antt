-- What `Held::read` answers where the text is the print of what is held.
use Rattle.std.proofs.Common.{◌≡◌, ◌≢◌, ◌<◌, ◌≤◌, ℕ, List, ◌∷◌, map, length, arith, Some, None, Result, Ok, Err, refl, sym, ap, ◌∙◌}
use Rattle.std.specs.Prelude.{IfErr, IsErrAnd}
use Rattle.base64.specs.GeneralPurpose.{IsBytes}
use Rattle.std.proofs.lemmas.List.{length-map}
use Rattle.serde_json.specs.Data.{Data}
use Rattle.serde_json.specs.Find.{as_object}
use Rattle.serde_json.specs.View.{view}
use Rattle.serde_json.specs.declared.value.Value.{Value}
use Rattle.json_trees.specs.Scalar.{scalar_data}
use Rattle.json_trees.specs.Json.{data_of}
use Rattle.held_text.specs.HeldText.{held_text, held_data, held_members, image_data, map_data, metadata_data, owed_data, pending_maps_data, keys_data}
use Rattle.held_text.specs.HeldRules.{IsHeld, IsRead, ArePending, Reads, ReadsMembers, ReadsRest, HasValues, member_values}
use Rattle.settings_tree.specs.Owed.{IsOwed}
use Rattle.std.specs.FinMap.{FinMap}
use Rattle.key_names.specs.Order.{bytes_cmp, key_cmp}
use Rattle.json_trees.specs.declared.pending.Pending.{Pending}
use Rattle.settings_tree.specs.Content.{Contents}
use Rattle.settings_tree.specs.declared.entry.Owed.{Owed}
use Rattle.settings_tree.specs.declared.held.Held.{Held}
use Rattle.held_text.specs.declared.held_error.HeldError.{HeldError}
use Rattle.held_text.specs.declared.held_error.HeldError.TheVariants.{BadHeld, Memory}
use Rattle.held_text.proofs.HeldBack.{held_back}
use Rattle.held_text.proofs.Readings.{some_same}

-- The answer is each `Held` whose print the text is, unless it ran out of memory.
abbrev pub Exact : List ℕ → Result Held HeldError → Type 0
Exact text r = (h : Held) → IsHeld h → held_text h ≡ text → IsRead r h

-- What is read of such a text is the value of the `Held`.
pub text_data : (text : List ℕ) (h : Held) → IsHeld h → held_text h ≡ text → data_of text ≡ Some (held_data h)
text_data text h is prints = ap data_of (sym prints) ∙ held_back h is

-- A text that is no JSON is the print of nothing.
pub unprinted : (text : List ℕ) (h : Held) → data_of text ≡ None → IsHeld h → held_text h ≡ text → ⊥
unprinted text h none is prints = cc (none, text_data text h is prints)

-- What is read of the value is the answer.
pub value_read : (text : List ℕ) (d : Data) (r : Result Held HeldError) → data_of text ≡ Some d → Reads IsHeld held_data d r → Exact text r
value_read text d r read reads h is prints = reads.finds h is (some_same d (held_data h) (sym read ∙ text_data text h is prints))

-- A refusal says that the text is the print of nothing.
pub none_prints : (text : List ℕ) (r : Result Held HeldError) → Exact text r → IfErr r (λ e. e ≡ BadHeld → (h : Held) → IsHeld h → held_text h ≢ text)
none_prints text (Ok held) exact = tt
none_prints text (Err e) exact = λ bad h is prints. let memory : e ≡ Memory = exact h is prints in cc (bad, memory)

-- An error is right where no `Held` leaves another one than out of memory.
pub err_members : (values : List Data) (Q : HeldError → Type 0) (r : Result Held HeldError) → IsErrAnd r Q
    → ((h : Held) → IsHeld h → values ≡ member_values (held_members h) → (e : HeldError) → Q e → e ≡ Memory) → ReadsMembers values r
err_members values Q (Ok h) none memory = absurd none
err_members values Q (Err e) gives memory = record { finds = λ h valid is. memory h valid is e gives }

-- What is read of the members of an object is read of the object.
pub members_read : (d : Data) (vs taken : List Value) (r : Result Held HeldError) → HasValues d (map view vs) → taken ≡ vs → ReadsMembers (map view taken) r
    → Reads IsHeld held_data d r
members_read d vs taken r has same reads = record {
  finds = λ h valid is. reads.finds h valid (ap (map view) same ∙ has.each
      ∙ ap member_values (some_same has.members (held_members h) (sym has.is ∙ ap as_object is)));
}

-- The values of the six members, in two parts.
pub member_parts : (vs left rest : List Value) (a b c x y z : Value) (h : Held) → map view vs ≡ member_values (held_members h) → vs ≡ a ∷ b ∷ c ∷ left
    → left ≡ x ∷ y ∷ z ∷ rest
    → (view a ≡ image_data h.image) × (view b ≡ map_data scalar_data h.live.values) × (view c ≡ metadata_data h.live.metadata)
    × (view x ≡ owed_data h.owed) × (view y ≡ pending_maps_data h.pending) × (view z ≡ keys_data h.live.weak)
member_parts vs left rest a b c x y z h is first second =
    let six : map view (a ∷ b ∷ c ∷ x ∷ y ∷ z ∷ rest) ≡ member_values (held_members h) =
    ap (map view) (sym (first ∙ ap (λ (l : List Value). a ∷ b ∷ c ∷ l) second)) ∙ is in
    (cc six, cc six, cc six, cc six, cc six, cc six)

-- There are no fewer values than are taken.
pub members_missing : (vs : List Value) (n : ℕ) (h : Held) → map view vs ≡ member_values (held_members h) → length vs < n → n ≤ 6 → ⊥
members_missing vs n h is few most =
    let six : length (map view vs) ≡ 6 = ap length is in
    omega (arith, length-map vs view)

-- Nor fewer than three after the first three.
pub members_short : (vs left : List Value) (a b c : Value) (h : Held) → map view vs ≡ member_values (held_members h) → vs ≡ a ∷ b ∷ c ∷ left → length left < 3
    → ⊥
members_short vs left a b c h is first few = members_missing vs 6 h is (let all : length vs ≡ length (a ∷ b ∷ c ∷ left) = ap length first in omega arith)
    (omega arith)

-- The parts of the rest are these.
pub rest_is : (o owed : Owed) (p pending : FinMap bytes_cmp (FinMap key_cmp Pending)) (i image : List ℕ) → o ≡ owed → p ≡ pending → i ≡ image
    → ◌≡◌ {A = Owed × FinMap bytes_cmp (FinMap key_cmp Pending) × List ℕ} (o, p, i) (owed, pending, image)
rest_is o owed p pending i image a b c =
    ap (λ (x : Owed). (x, p, i)) a ∙ ap (λ (x : FinMap bytes_cmp (FinMap key_cmp Pending)). (owed, x, i)) b ∙ ap (λ (x : List ℕ). (owed, pending, x)) c

-- An error is right where no rest leaves another one than out of memory.
pub err_rest : (owed pending image : Data) (Q : HeldError → Type 0) (r : Result (Owed × FinMap bytes_cmp (FinMap key_cmp Pending) × List ℕ) HeldError)
    → IsErrAnd r Q
    → ((o : Owed) (p : FinMap bytes_cmp (FinMap key_cmp Pending)) (i : List ℕ) → IsOwed o → ArePending p → IsBytes i
    → owed ≡ owed_data o → pending ≡ pending_maps_data p → image ≡ image_data i → (e : HeldError) → Q e → e ≡ Memory) → ReadsRest owed pending image r
err_rest owed pending image Q (Ok x) none memory = absurd none
err_rest owed pending image Q (Err e) gives memory = record { finds = λ o p i a b c x y z. memory o p i a b c x y z e gives }

-- The parts of a `Held` make this `Held`.
pub held_is : (h : Held) (live : Contents) (rest : Owed × FinMap bytes_cmp (FinMap key_cmp Pending) × List ℕ) → live ≡ h.live
    → rest ≡ (h.owed, h.pending, h.image)
    → ◌≡◌ {A = Held} (record { live = live; pending = rest.1; owed = rest.0; image = rest.2 }) h
held_is h live rest a b =
    ap (λ (x : Contents). record { live = x; pending = rest.1; owed = rest.0; image = rest.2 }) a
    ∙ ap (λ (x : Owed × FinMap bytes_cmp (FinMap key_cmp Pending) × List ℕ). record { live = h.live; pending = x.1; owed = x.0; image = x.2 }) b

-- An error is the answer where any other one than out of memory is wrong.
pub err_read : (h : Held) (Q : HeldError → Type 0) (r : Result Held HeldError) → IsErrAnd r Q → ((e : HeldError) → Q e → (e ≢ Memory) → ⊥) → IsRead r h
err_read h Q (Ok x) none wrong = absurd none
err_read h Q (Err Memory) gives wrong = refl
err_read h Q (Err BadHeld) gives wrong = absurd (wrong BadHeld gives (λ same. cc same))
