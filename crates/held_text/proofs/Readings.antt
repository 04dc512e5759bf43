-- What is read of JSON values.
use Rattle.std.proofs.Common.{◌≡◌, ℕ, List, [], ◌∷◌, ◌++◌, Some, None, map, refl, sym, ap, ◌∙◌, append_assoc, append-nil, Result, Ok, Err}
use Rattle.std.proofs.lemmas.List.{map-append}
use Rattle.std.specs.Prelude.{IsErrAnd, OnErr}
use Rattle.serde_json.specs.Data.{Data, string, object, Items, no_items, item, Members, no_members, member}
use Rattle.serde_json.specs.Find.{as_array, as_object, as_str}
use Rattle.serde_json.specs.View.{view, items_of, items_view}
use Rattle.serde_json.specs.declared.value.Value.{Value}
use Rattle.held_text.specs.HeldText.{list_data}
use Rattle.held_text.specs.HeldRules.{Reads, member_values}
use Rattle.held_text.specs.declared.held_error.HeldError.{HeldError}
use Rattle.held_text.specs.declared.held_error.HeldError.TheVariants.{Memory}

-- The values of a JSON list.
abbrev values_in : Items → List Data
values_in no_items = []
values_in (item d ds) = d ∷ values_in ds

-- They are those that the list is made of.
values_in-items_of : (ds : List Data) → values_in (items_of ds) ≡ ds
values_in-items_of [] = refl
values_in-items_of (d ∷ ds) = ap (λ (l : List Data). d ∷ l) (values_in-items_of ds)

-- What is there is equal where all is.
pub some_same : {X : Type 0} (x y : X) → Some x ≡ Some y → x ≡ y
some_same x y e = cc e

-- The values of a list that was read are those of its items.
pub listed : (d : Data) (vs : List Value) (ds : List Data) → as_array d ≡ Some (items_view vs) → d ≡ list_data ds → map view vs ≡ ds
listed d vs ds read is = sym (values_in-items_of (map view vs)) ∙ ap values_in (some_same _ _ (sym read ∙ ap as_array is)) ∙ values_in-items_of ds

-- The text that was read is that of the value.
pub texted : (d : Data) (t s : List ℕ) → as_str d ≡ Some t → d ≡ string s → t ≡ s
texted d t s read is = some_same t s (sym read ∙ ap as_str is)

-- Where no list was read there is none.
pub no_list : (d : Data) (ds : List Data) → as_array d ≡ None → d ≡ list_data ds → ⊥
no_list d ds none is = cc (none, ap as_array is)

-- Where no text was read there is none.
pub no_text : (d : Data) (s : List ℕ) → as_str d ≡ None → d ≡ string s → ⊥
no_text d s none is = cc (none, ap as_str is)

-- Where no object was read there is none.
pub no_object : (d : Data) (ms : Members) → as_object d ≡ None → d ≡ object ms → ⊥
no_object d ms none is = cc (none, ap as_object is)

-- Of a list of two values the first two that are taken are these.
pub two_values : (vs rest : List Value) (x y : Value) (a b : Data) → vs ≡ x ∷ y ∷ rest → map view vs ≡ a ∷ b ∷ [] → (view x ≡ a) × (view y ≡ b)
two_values vs rest x y a b are is = let all : map view (x ∷ y ∷ rest) ≡ a ∷ b ∷ [] = ap (map view) (sym are) ∙ is in (cc all, cc all)

-- Of a list of three values the first three that are taken are these.
pub three_values : (vs rest : List Value) (x y z : Value) (a b d : Data) → vs ≡ x ∷ y ∷ z ∷ rest → map view vs ≡ a ∷ b ∷ d ∷ []
    → (view x ≡ a) × (view y ≡ b) × (view z ≡ d)
three_values vs rest x y z a b d are is = let all : map view (x ∷ y ∷ z ∷ rest) ≡ a ∷ b ∷ d ∷ [] = ap (map view) (sym are) ∙ is in (cc all, cc all, cc all)

-- An error is right where no valid value leaves another one than out of memory.
pub err_reads : {X : Type 0} (IsValid : X → Type 0) (as_data : X → Data) (d : Data) (Q : HeldError → Type 0) (r : Result X HeldError) → IsErrAnd r Q
    → ((x : X) → IsValid x → d ≡ as_data x → (e : HeldError) → Q e → e ≡ Memory) → Reads IsValid as_data d r
err_reads IsValid as_data d Q (Ok x) none memory = absurd none
err_reads IsValid as_data d Q (Err e) gives memory = record { finds = λ x valid is. memory x valid is e gives }

-- What holds anyway holds at an error.
pub at_error : {T E P : Type 0} (r : Result T E) → P → OnErr r P
at_error (Ok x) p = tt
at_error (Err e) p = p

-- One more value of some members is taken.
pub taken_next : (all left rest : Members) (done now : List Value) (name : List ℕ) (v : Value) → member_values all ≡ map view done ++ member_values left
    → left ≡ member name (view v) rest → now ≡ done ++ v ∷ []
    → member_values all ≡ map view now ++ member_values rest
taken_next all left rest done now name v whole next pushed =
    whole ∙ ap (λ ms. map view done ++ member_values ms) next ∙ sym (append_assoc (map view done) (view v ∷ []) (member_values rest))
    ∙ ap (λ (l : List Data). l ++ member_values rest) (sym (map-append view done (v ∷ [])) ∙ ap (map view) (sym pushed))

-- At last all are taken.
pub taken_all : (all : Members) (done : List Value) (left : Members) → member_values all ≡ map view done ++ member_values left → left ≡ no_members
    → map view done ≡ member_values all
taken_all all done left whole none = sym (whole ∙ ap (λ ms. map view done ++ member_values ms) none ∙ append-nil (map view done))
