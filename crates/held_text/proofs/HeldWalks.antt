-- Walks through what is held that write each part.
use Rattle.std.proofs.Common.{◌≡◌, List, [], ◌∷◌, ◌++◌, map, append_assoc, append-nil, refl, sym, ap, ◌∙◌, subst}
use Rattle.std.specs.List.{flat_map, AllByRecursion}
use Rattle.json.specs.Written.{Written}
use Rattle.serde_json.specs.Data.{Data}
use Rattle.held_text.specs.HeldRules.{WroteEach}
use Rattle.held_text.proofs.JsonLists.{none_written, more_written}

-- A flat map of one more item.
flat_map-push : {E F : Type 0} (each : E → List F) (es : List E) (e : E) → flat_map each (es ++ e ∷ []) ≡ flat_map each es ++ each e
flat_map-push each [] e = append-nil (each e)
flat_map-push each (f ∷ es) e = ap (λ l. each f ++ l) (flat_map-push each es e) ∙ sym (append_assoc (each f) (flat_map each es) (each e))

-- A flat map that gives one item for each is a map.
pub flat_map-single : {E F : Type 0} (f : E → F) (es : List E) → flat_map (λ e. f e ∷ []) es ≡ map f es
flat_map-single f [] = refl
flat_map-single f (e ∷ es) = ap (λ l. f e ∷ l) (flat_map-single f es)

-- A flat map that gives each item itself is the list.
pub flat_map-same : {E : Type 0} (es : List E) → flat_map (λ e. e ∷ []) es ≡ es
flat_map-same [] = refl
flat_map-same (e ∷ es) = ap (λ l. e ∷ l) (flat_map-same es)

-- What holds of all of both lists holds of all of them joined.
all_more : {F : Type 0} (P : F → Type 0) (es fs : List F) → AllByRecursion P es → AllByRecursion P fs → AllByRecursion P (es ++ fs)
all_more P [] fs h k = k
all_more P (e ∷ es) fs h k = (h.0, all_more P es fs h.1 k)

module _ {E F : Type 0} (each : E → List F) (as_data : F → Data) (P : F → Type 0) where
  -- Of all some are done, and what each of them gives is written and valid; the others are left.
  pub record Writing (all left : List E) (start now : Written) : Type 0 where
    pub done : List E
    pub split : done ++ left ≡ all
    pub wrote : WroteEach as_data (flat_map each done) start now
    pub valid : AllByRecursion P (flat_map each done)

  -- At first all are left.
  pub writing_none : (all left : List E) (w : Written) → left ≡ all → Writing all left w w
  writing_none all left w is = record { done = []; split = is; wrote = none_written as_data w; valid = tt }

  -- One more is written.
  pub writing_next : (all left rest : List E) (e : E) (start now later : Written) → Writing all left start now → left ≡ e ∷ rest
      → WroteEach as_data (each e) now later → AllByRecursion P (each e) → Writing all rest start later
  writing_next all left rest e start now later w next wrote valid =
      let grown : flat_map each w.done ++ each e ≡ flat_map each (w.done ++ e ∷ []) = sym (flat_map-push each w.done e) in
      record {
        done = w.done ++ e ∷ [];
        split = append_assoc w.done (e ∷ []) rest ∙ ap (λ (l : List E). w.done ++ l) (sym next) ∙ w.split;
        wrote = subst (λ (l : List F). WroteEach as_data l start later) grown
            (more_written as_data (flat_map each w.done) (each e) start now later w.wrote wrote);
        valid = subst (λ (l : List F). AllByRecursion P l) grown (all_more P (flat_map each w.done) (each e) w.valid valid);
      }

  -- At last all are written.
  pub writing_all : (all left : List E) (start now : Written) (fs : List F) → Writing all left start now → left ≡ [] → flat_map each all ≡ fs
      → WroteEach as_data fs start now
  writing_all all left start now fs w none is =
      subst (λ (l : List F). WroteEach as_data l start now) (ap (flat_map each)
      (sym (append-nil w.done) ∙ ap (λ (l : List E). w.done ++ l) (sym none) ∙ w.split) ∙ is) w.wrote

  -- At last all are valid.
  pub valid_all : (all left : List E) (start now : Written) (fs : List F) → Writing all left start now → left ≡ [] → flat_map each all ≡ fs
      → AllByRecursion P fs
  valid_all all left start now fs w none is =
      subst (λ (l : List F). AllByRecursion P l) (ap (flat_map each) (sym (append-nil w.done) ∙ ap (λ (l : List E). w.done ++ l) (sym none) ∙ w.split) ∙ is)
      w.valid
