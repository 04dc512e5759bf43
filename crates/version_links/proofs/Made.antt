-- Names as they are made.
use Rattle.std.proofs.Common.{◌≡◌, false, ℕ, zero, suc, ◌-◌, ◌/◌, ◌%◌, ◌<◌, ◌^◌, List, []}
use Rattle.std.proofs.Common.{◌∷◌, ◌++◌, Result, OnOk, refl, sym, ◌∙◌, ap, subst, arith, append_assoc, IsTrue}
use Rattle.std.specs.Fmt.{digit_glyph}
use Rattle.outside.specs.Names.{Names, is_name}
use Rattle.version_links.specs.declared.link.Link.{Link}
use Rattle.version_links.specs.Names.{hex, id_text, store, name_of}
use Rattle.version_links.specs.Links.{IsLink, AreNames}
use Rattle.version_links.specs.Steps.{digits_behind, extended}
use Rattle.version_links.proofs.Valid.{valid}

-- The last digit is put after the others.
pub hex_pushed : (old mid new : List ℕ) (count n last : ℕ) → (count ≡ 0 → ⊥) → mid ≡ old ++ hex (count - 1) (n / 16) → new ≡ mid ++ last ∷ []
    → last ≡ digit_glyph false (n % 16) → new ≡ old ++ hex count n
hex_pushed old mid new zero n last some first pushed is = absurd (some refl)
hex_pushed old mid new (suc count) n last some first pushed is =
    pushed ∙ ap (λ (l : List ℕ). l ++ last ∷ []) first
    ∙ ap (λ k. (old ++ hex k (n / 16)) ++ last ∷ []) (let e : suc count - 1 ≡ count = omega arith in e)
    ∙ append_assoc old (hex count (n / 16)) (last ∷ [])
    ∙ ap (λ k. old ++ (hex count (n / 16) ++ k ∷ [])) is

-- 16 digits are an id.
pub pushed_id : {E : Type 0} (r : Result Unit E) (old new : List ℕ) (mark n : ℕ) → mark ≡ 95 → OnOk r (new ≡ old ++ hex 16 n)
    → OnOk r (new ≡ old ++ digits_behind mark n)
unfolding id_text
pushed_id r old new mark n is pushed = subst (λ k. OnOk r (new ≡ old ++ digits_behind k n)) (sym is) pushed

-- A name that a link's text extends.
pub named_major : (text : List ℕ) (a : ℕ) → a < 2 ^ 64 → text ≡ extended [] 118 a → IsTrue (is_name text)
named_major text a fits is = valid a [] (omega arith) (fits, tt) text is

module _ (a b c id : ℕ) (fits_a : a < 2 ^ 64) (fits_b : b < 2 ^ 64) (major minor : List ℕ) (major_is : major ≡ extended [] 118 a)
    (minor_is : minor ≡ extended major 46 b) where
  minor_name_is : minor ≡ name_of (a ∷ b ∷ [])
  minor_name_is = minor_is ∙ ap (λ (l : List ℕ). extended l 46 b) major_is

  pub named_minor : IsTrue (is_name minor)
  named_minor = valid a (b ∷ []) (omega arith) (fits_a, (fits_b, tt)) minor minor_name_is

  module _ (fits_c : c < 2 ^ 64) (patch : List ℕ) (patch_is : patch ≡ extended minor 46 c) where
    patch_name_is : patch ≡ name_of (a ∷ b ∷ c ∷ [])
    patch_name_is = patch_is ∙ ap (λ (l : List ℕ). extended l 46 c) minor_name_is

    pub named_patch : IsTrue (is_name patch)
    named_patch = valid a (b ∷ c ∷ []) (omega arith) (fits_a, (fits_b, (fits_c, tt))) patch patch_name_is

    module _ (fits_id : id < 2 ^ 64) (last : List ℕ) (last_is : last ≡ extended patch 95 id) where
      last_name_is : last ≡ name_of (a ∷ b ∷ c ∷ id ∷ [])
      last_name_is = last_is ∙ ap (λ (l : List ℕ). extended l 95 id) patch_name_is

      pub named_last : IsTrue (is_name last)
      named_last = valid a (b ∷ c ∷ id ∷ []) (omega arith) (fits_a, (fits_b, (fits_c, (fits_id, tt)))) last last_name_is

      -- The parts of a data directory's names, by their texts as they are passed on.
      pub are_names : (first : List ℕ) → first ≡ extended [] 118 a → (path : Names) (one two three four : Link) → path ≡ store last
          → IsLink one patch (extended patch 95 id) → IsLink two minor (extended minor 46 c) → IsLink three major (extended major 46 b)
          → IsLink four (name_of []) first
          → AreNames (record { version = record { major = a; minor = b; patch = c }; id = id }) path one two three four
      are_names first first_is path one two three four path_is one_is two_is three_is four_is = record {
        fits = record { version = record { major = fits_a; minor = fits_b; patch = fits_c }; id = fits_id };
        path_is = path_is ∙ ap store last_name_is;
        patch_is = record { path_is = one_is.path_is ∙ ap store patch_name_is; text_is = one_is.text_is ∙ ap (λ (l : List ℕ). extended l 95 id) patch_name_is };
        minor_is = record { path_is = two_is.path_is ∙ ap store minor_name_is; text_is = two_is.text_is ∙ ap (λ (l : List ℕ). extended l 46 c) minor_name_is };
        major_is = record { path_is = three_is.path_is ∙ ap store major_is; text_is = three_is.text_is ∙ ap (λ (l : List ℕ). extended l 46 b) major_is };
        current_is = record { path_is = four_is.path_is; text_is = four_is.text_is ∙ first_is };
      }
