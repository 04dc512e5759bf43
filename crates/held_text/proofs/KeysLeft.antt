-- Rising lists of keys that are read from JSON lists.
use Rattle.std.proofs.Common.{◌≡◌, ℕ, List, [], ◌∷◌, ◌++◌, map, Some, IsTrue, Ok, Err, refl, append_assoc, append-nil, sym, ap, ◌∙◌, subst}
use Rattle.std.specs.List.{AllByRecursion, list_all}
use Rattle.std.proofs.lemmas.Bool.{and_parts, and_from}
use Rattle.serde_json.specs.Data.{Data}
use Rattle.serde_json.specs.Find.{as_array}
use Rattle.serde_json.specs.View.{view, items_view}
use Rattle.serde_json.specs.declared.value.Value.{Value}
use Rattle.key_names.specs.Key.{is_key}
use Rattle.held_text.specs.HeldText.{key_data, keys_data}
use Rattle.held_text.specs.HeldRules.{Reads}
use Rattle.settings_tree.specs.Owed.{IsKeyList}
use Rattle.held_text.specs.declared.held_error.HeldError.{HeldError}
use Rattle.held_text.specs.declared.held_error.HeldError.TheVariants.{BadHeld, Memory}
use Rattle.settings_maps.specs.KeyList.{IsRising}
use Rattle.held_text.proofs.MapsLeft.{head_is, tail_is}
use Rattle.held_text.proofs.Readings.{listed}

-- A key as its segments.
abbrev Key : Type 0
Key = List (List ℕ)

-- A list of segments that is a key.
abbrev Valid : Key → Type 0
Valid key = IsTrue (is_key key)

-- Where all of a list are keys each is.
pub each_valid : (keys : List Key) → IsTrue (list_all is_key keys) → AllByRecursion Valid keys
each_valid [] all = tt
each_valid (k ∷ keys) all = let parts = and_parts (is_key k) (list_all is_key keys) all in (parts.0, each_valid keys parts.1)

-- And where each is, all are.
pub all_valid : (keys : List Key) → AllByRecursion Valid keys → IsTrue (list_all is_key keys)
all_valid [] each = refl
all_valid (k ∷ keys) each = and_from (is_key k) (list_all is_key keys) each.0 (all_valid keys each.1)

-- The first keys are done, and the JSON values that are left are those of the others.
pub record KeysLeft (keys done : List Key) (left : List Data) : Type 0 where
  pub rest : List Key
  pub whole : keys ≡ done ++ rest
  pub are : left ≡ map key_data rest
  pub valid : AllByRecursion Valid rest

-- The same holds of each list of keys whose JSON value is d.
pub record KeysFilling (d : Data) (done : List Key) (left : List Data) : Type 0 where
  pub each : (keys : List Key) → IsKeyList keys → d ≡ keys_data keys → KeysLeft keys done left

-- The value d is that of the next key.
record NextKey (keys done : List Key) (d : Data) (left : List Data) : Type 0 where
  key : Key
  is : d ≡ key_data key
  valid : Valid key
  after : KeysLeft keys (done ++ key ∷ []) left

-- Of some that are left the first is next.
keys_next : (keys done : List Key) (d : Data) (left : List Data) → KeysLeft keys done (d ∷ left) → NextKey keys done d left
keys_next keys done d left h = by h.rest h.whole h.are h.valid where
  by : (rest : List Key) → keys ≡ done ++ rest → d ∷ left ≡ map key_data rest → AllByRecursion Valid rest → NextKey keys done d left
  by [] whole are valid = absurd (cc are)
  by (k ∷ rest) whole are valid = record {
    key = k;
    is = head_is d (key_data k) left (map key_data rest) are;
    valid = valid.0;
    after = record {
      rest = rest;
      whole = whole ∙ sym (append_assoc done (k ∷ []) rest);
      are = tail_is d (key_data k) left (map key_data rest) are;
      valid =
          valid.1;
    };
  }

-- At first all are left.
pub keys_begun : (d : Data) (vs ws : List Value) (done : List Key) → as_array d ≡ Some (items_view vs) → ws ≡ vs → done ≡ [] → KeysFilling d done (map view ws)
keys_begun d vs ws done read same none = record {
  each = λ keys valid is. record {
    rest = keys;
    whole = sym (ap (λ (l : List Key). l ++ keys) none);
    are = ap (map view) same
        ∙ listed d vs (map key_data keys) read is;
    valid = each_valid keys valid.valid;
  };
}

module _ (d : Data) (done : List Key) (v : Value) (ws left : List Value) (next : ws ≡ v ∷ left) (filling : KeysFilling d done (map view ws)) where
  one : (keys : List Key) → IsKeyList keys → d ≡ keys_data keys → NextKey keys done (view v) (map view left)
  one keys valid is = keys_next keys done (view v) (map view left) (subst (KeysLeft keys done) (ap (map view) next) (filling.each keys valid is))

  -- The next key was read.
  pub keys_pushed : (k : Key) (now : List Key) → Reads Valid key_data (view v) (Ok k) → now ≡ done ++ k ∷ [] → KeysFilling d now (map view left)
  keys_pushed k now reads pushed = record {
    each = λ keys valid is.
        let n = one keys valid is in
        subst (λ (l : List Key). KeysLeft keys l (map view left)) (sym (pushed ∙ ap (λ (q : Key). done ++ q ∷ []) (reads.finds n.key n.valid n.is))) n.after;
  }

  -- Where it was not read, it ran out of memory.
  pub keys_refused : (e : HeldError) → Reads Valid key_data (view v) (Err e) → (keys : List Key) → IsKeyList keys → d ≡ keys_data keys → e ≡ Memory
  keys_refused e reads keys valid is = let n = one keys valid is in reads.finds n.key n.valid n.is

-- At last all were read.
pub keys_done : (d : Data) (done : List Key) (ws : List Value) → ws ≡ [] → KeysFilling d done (map view ws) → Reads IsKeyList keys_data d (Ok done)
keys_done d done ws none filling = record {
  finds = λ keys valid is. by keys (subst (KeysLeft keys done) (ap (map view) none) (filling.each keys valid is));
} where
  by : (keys : List Key) → KeysLeft keys done [] → done ≡ keys
  by keys h = from h.rest h.whole h.are where
    from : (rest : List Key) → keys ≡ done ++ rest → [] ≡ map key_data rest → done ≡ keys
    from [] whole are = sym (whole ∙ append-nil done)
    from (k ∷ rest) whole are = absurd (cc are)

-- Keys that do not rise are no such list.
pub keys_fall : (d : Data) (done : List Key) (ws : List Value) → ws ≡ [] → KeysFilling d done (map view ws) → (IsRising done → ⊥)
    → Reads IsKeyList keys_data d (Err BadHeld)
keys_fall d done ws none filling falls = record {
  finds = λ keys valid is. absurd
      (falls (subst IsRising (sym ((keys_done d done ws none filling).finds keys valid is)) valid.rising));
}
