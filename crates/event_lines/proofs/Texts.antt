-- Values, with quotes and without, and texts with something between.
use Rattle.std.proofs.Common.{◌≡◌, ℕ, ◌==◌, true, false, List, [], ◌∷◌, ◌++◌, length, map, refl, ◌∙◌, ap}
use Rattle.std.specs.List.{flat_map, join_by, list_all}
use Rattle.json.specs.Print.{print}
use Rattle.json.specs.Token as token
use Rattle.json.specs.Written.{Written}
use Rattle.serde_json.proofs.Texts.{print-outline}
use Rattle.serde_json.specs.Data.{string}
use Rattle.serde_json.specs.Written.{compact_text}
use Rattle.event_lines.specs.Lines.{separated}
use Rattle.event_lines.specs.Logfmt.{is_plain, value_text}

-- A value stands as it is, where it is not empty and all its bytes are plain.
pub value_plain : (v : List ℕ) → (length v == 0) ≡ false → list_all is_plain v ≡ true → value_text v ≡ v
value_plain [] some all = cc
value_plain (b ∷ bs) some all = rw all refl

-- Another is in quotes.
pub value_quoted : (v : List ℕ) → list_all is_plain v ≡ false → value_text v ≡ compact_text (string v)
value_quoted [] all = refl
value_quoted (b ∷ bs) all = rw all refl

-- Where one string was written behind some bytes, they are followed by its JSON text.
pub quoted : (v before text : List ℕ) (a b : Written) → text ≡ b.before ++ print b.tokens → a.before ≡ before → a.tokens ≡ []
    → b.before ≡ a.before → b.tokens ≡ a.tokens ++ token.string v ∷ [] → text ≡ before ++ compact_text (string v)
quoted v before text a b is from none same wrote =
    is ∙ ap (λ (t : List ℕ). t ++ print b.tokens) (same ∙ from)
    ∙ ap (λ (ts : List token.Token). before ++ print ts) (wrote ∙ ap (λ (ts : List token.Token). ts ++ token.string v ∷ []) none)
    ∙ ap (λ (t : List ℕ). before ++ t) (print-outline (string v))

-- What stands behind the first of several texts.
behind : {X : Type 0} (f : X → List ℕ) (between : List ℕ) (xs : List X)
    → flat_map (λ x. between ++ f x) xs ≡ flat_map (λ t. between ++ t) (map f xs)
behind f between [] = refl
behind f between (x ∷ xs) = ap (λ (t : List ℕ). (between ++ f x) ++ t) (behind f between xs)

-- Texts are joined with this between each two.
pub joined_texts : {X : Type 0} (f : X → List ℕ) (between : List ℕ) (xs : List X) → join_by f between xs ≡ separated between (map f xs)
joined_texts f between [] = refl
joined_texts f between (x ∷ xs) = ap (λ (t : List ℕ). f x ++ t) (behind f between xs)
