-- Objects: the tokens that are written for them.
use Rattle.std.proofs.Common.{◌≡◌, ℕ, List, [], ◌∷◌, ◌++◌, map, append_assoc, refl, sym, ap, ◌∙◌}
use Rattle.std.specs.Prelude.{OnOk}
use Rattle.std.specs.declared.result.Result.{Result}
use Rattle.std.specs.List.{flat_map}
use Rattle.std.proofs.lemmas.Result.{on_ok_weaker}
use Rattle.json.specs.Token as token
use Rattle.json.specs.Tree.{members_tokens}
use Rattle.json.specs.Written.{Written, Writes}
use Rattle.serde_json.specs.Data.{Data, object}
use Rattle.serde_json.specs.Written.{members_outline}
use Rattle.held_text.proofs.JsonLists.{object_written}
use Rattle.held_text.specs.HeldRules.{Wrote}
use Rattle.machine_answers.specs.Bodies.{members_of, entry_tokens}

module _ {E : Type 0} (entry : E → List ℕ × Data) where
  -- The tokens of the entries, one after another.
  abbrev inside : List E → List token.Token
  inside es = flat_map (λ e. entry_tokens (entry e)) es

  -- The entries were written, one after another.
  pub record WroteEntries (es : List E) (old new : Written) : Type 0 where
    pub tokens : new.tokens ≡ old.tokens ++ flat_map (λ e. entry_tokens (entry e)) es
    pub before : new.before ≡ old.before

  -- The tokens of the members are those of the entries and the closing brace.
  members_tokens-map : (es : List E) → members_tokens (members_outline (members_of (map entry es))) ≡ inside es ++ token.end_object ∷ []
  members_tokens-map [] = refl
  members_tokens-map (e ∷ es) =
      ap (λ ts. entry_tokens (entry e) ++ ts) (members_tokens-map es) ∙ sym (append_assoc (entry_tokens (entry e)) (inside es) (token.end_object ∷ []))

  -- An object is written as its entries in braces.
  pub entries_written : {F : Type 0} (r : Result (Unit {0}) F) (es : List E) (start opened filled closed : Written)
      → opened.tokens ≡ start.tokens ++ token.begin_object ∷ [] → opened.before ≡ start.before → WroteEntries es opened filled
      → Writes r filled closed token.end_object → OnOk r (Wrote (object (members_of (map entry es))) start closed)
  entries_written r es start opened filled closed begun same each ended =
      on_ok_weaker r
      (λ (e : closed.tokens ≡ filled.tokens ++ token.end_object ∷ []). object_written (members_of (map entry es)) start opened closed begun same (record {
        tokens =
            e ∙ ap (λ ts. ts ++ token.end_object ∷ []) each.tokens ∙ append_assoc opened.tokens (inside es) (token.end_object ∷ [])
            ∙ ap (λ ts. opened.tokens ++ ts) (sym (members_tokens-map es));
        before = ended.room.0 ∙ each.before;
      }))
      ended.ok
