-- A text spells one model at most.
use Rattle.std.proofs.Common.{◌≡◌, ℕ, List, [], ◌∷◌, drop, map, get_or, refl, sym, ◌∙◌, ap, subst}
use Rattle.std.specs.Prelude.{unwrap_or}
use Rattle.settings_tree.specs.declared.os.OsName.{OsName}
use Rattle.toml.specs.Data.{Members}
use Rattle.typed_settings.proofs.OneOrder.{one_table}
use Rattle.typed_settings.specs.Order.{IsTable}
use Rattle.model_file.specs.Model.{AreSame, IsModelOf, Spells}
use Rattle.model_file.specs.Rows.{row_texts}
use Rattle.model_file.specs.declared.model.Model.{Model}

abbrev made : List ℕ × List ℕ → OsName
made pair = record { name = pair.0; text = pair.1 }

-- Names with the same names and texts are the same.
same_names : (xs ys : List OsName) → map {B = List ℕ × List ℕ} (λ n. (n.name, n.text)) xs ≡ map {B = List ℕ × List ℕ} (λ n. (n.name, n.text)) ys → xs ≡ ys
same_names [] [] same = refl
same_names [] (y ∷ ys) same = absurd (cc)
same_names (x ∷ xs) [] same = absurd (cc)
same_names (x ∷ xs) (y ∷ ys) same = ap (λ (n : OsName). n ∷ xs) first ∙ ap (λ (l : List OsName). y ∷ l) (same_names xs ys (ap (drop 1) same))
  where
    first : x ≡ y
    first = ap (λ l. made (get_or l 0 (x.name, x.text))) same

pub one_model : (text : List ℕ) (one other : Model) → IsTable one.types → IsTable other.types → Spells text one → Spells text other → AreSame one other
one_model text one other table table' is too =
    let document : is.document ≡ too.document = ap (λ o. unwrap_or o is.document) (sym is.read ∙ too.read) in
    let own : IsModelOf too.document one = subst (λ (d : Members). IsModelOf d one) document is.model_is in
    record {
      types = one_table (row_texts too.document) one.types other.types table table' own.types too.model_is.types;
      os = same_names one.os other.os (own.os ∙ sym too.model_is.os);
      content = own.content ∙ sym too.model_is.content;
    }
