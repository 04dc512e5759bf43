-- Versions at the front of texts, and pairs of them.
use Rattle.std.proofs.Common.{◌≡◌, ◌≢◌, ◌==◌, ℕ, List, [], ◌∷◌, ◌++◌, ◌<◌, ◌^◌, cond, append_assoc, refl, sym, ◌∙◌, ap, subst}
use Rattle.std.specs.Prelude.{IsTrue}
use Rattle.std.specs.Fmt.{decimal}
use Rattle.std.proofs.lemmas.Bool.{ne_eqb}
use Rattle.std.proofs.lemmas.Fmt.{decimal_injective}
use Rattle.version_links.specs.declared.version.Version.{Version}
use Rattle.version_links.specs.Names.{id_text}
use Rattle.version_links.specs.Versions.{version_text}
use Rattle.version_links.specs.Glyphs.{Ends, HasNumber, HasNoNumber}
use Rattle.version_links.proofs.Glyphs.{glyphs-decimal, same_runs}
use Rattle.release_file.specs.Order.{is_before}
use Rattle.release_file.specs.Pair.{IsPair, HasVersion}

-- ---- numbers in decimal

-- The text begins with the mark and this number in decimal, and goes on with the rest.
pub record HasDecimal (mark : ℕ) (text : List ℕ) (n : ℕ) (rest : List ℕ) : Type 0 where
  pub fits : n < 2 ^ 64
  pub text_is : text ≡ mark ∷ (decimal n ++ rest)
  pub ends : Ends rest

plain : (mark n : ℕ) → mark ≢ 95 → cond (mark == 95) (id_text n) (decimal n) ≡ decimal n
plain mark n other = ap (λ b. cond b (id_text n) (decimal n)) (ne_eqb mark 95 other)

pub in_decimal : (mark n : ℕ) (text rest : List ℕ) → mark ≢ 95 → HasNumber mark text n rest → HasDecimal mark text n rest
in_decimal mark n text rest other has = record {
  fits = has.fits;
  text_is = has.text_is ∙ ap (λ (l : List ℕ). mark ∷ (l ++ rest)) (plain mark n other);
  ends =
      has.ends;
}

pub no_decimal : (mark n : ℕ) (text rest : List ℕ) → mark ≢ 95 → HasNoNumber mark text → HasDecimal mark text n rest → ⊥
no_decimal mark n text rest other none has = none n rest (record {
  fits = has.fits;
  text_is = has.text_is
      ∙ ap (λ (l : List ℕ). mark ∷ (l ++ rest)) (sym (plain mark n other));
  ends = has.ends;
})

tails : (mark : ℕ) (xs ys : List ℕ) → mark ∷ xs ≡ mark ∷ ys → xs ≡ ys
tails mark xs ys same = cc

-- A text begins with one number at most.
pub one_decimal : (mark n m : ℕ) (text rest more : List ℕ) → HasDecimal mark text n rest → HasDecimal mark text m more → (n ≡ m) × (rest ≡ more)
one_decimal mark n m text rest more a b =
    let both = same_runs (decimal n) (decimal m) rest more (glyphs-decimal n a.fits) (glyphs-decimal m b.fits) a.ends b.ends
    (tails mark (decimal n ++ rest) (decimal m ++ more) (sym a.text_is ∙ b.text_is)) in
    (decimal_injective n m a.fits b.fits both.0, both.1)

-- ---- versions

-- The three numbers of a version, with what follows them.
abbrev behind_major : Version → List ℕ → List ℕ
behind_major v rest = 46 ∷ (decimal v.minor ++ 46 ∷ (decimal v.patch ++ rest))

abbrev behind_minor : Version → List ℕ → List ℕ
behind_minor v rest = 46 ∷ (decimal v.patch ++ rest)

spread : (v : Version) (rest : List ℕ) → version_text v ++ rest ≡ decimal v.major ++ behind_major v rest
spread v rest =
    append_assoc (decimal v.major ++ 46 ∷ decimal v.minor) (46 ∷ decimal v.patch) rest ∙ append_assoc (decimal v.major) (46 ∷ decimal v.minor)
    (46 ∷ (decimal v.patch ++ rest))

-- A version at the front, number by number.
module _ (mark : ℕ) (text : List ℕ) (v : Version) (rest : List ℕ) (has : HasVersion mark text v rest) where
  pub has_major : HasDecimal mark text v.major (behind_major v rest)
  has_major = record { fits = has.fits.major; text_is = has.text_is ∙ ap (λ (l : List ℕ). mark ∷ l) (spread v rest); ends = refl }

  module _ (a : ℕ) (first : List ℕ) (one : HasDecimal mark text a first) where
    pub has_minor : HasDecimal 46 first v.minor (behind_minor v rest)
    has_minor = record { fits = has.fits.minor; text_is = (one_decimal mark a v.major text first (behind_major v rest) one has_major).1; ends = refl }

    module _ (b : ℕ) (second : List ℕ) (two : HasDecimal 46 first b second) where
      pub has_patch : HasDecimal 46 second v.patch rest
      has_patch = record { fits = has.fits.patch; text_is = (one_decimal 46 b v.minor first second (behind_minor v rest) two has_minor).1; ends = has.ends }

-- A text begins with one version at most.
pub one_version : (mark : ℕ) (text : List ℕ) (v w : Version) (rest more : List ℕ) → HasVersion mark text v rest → HasVersion mark text w more
    → (v ≡ w) × (rest ≡ more)
one_version mark text v w rest more a b =
    let majors = one_decimal mark v.major w.major text (behind_major v rest) (behind_major w more) (has_major mark text v rest a) (has_major mark text w more b)
    in
    let one = has_major mark text v rest a in
    let two = has_minor mark text v rest a v.major (behind_major v rest) one in
    let three = has_patch mark text v rest a v.major (behind_major v rest) one v.minor (behind_minor v rest) two in
    let minors = one_decimal 46 v.minor w.minor (behind_major v rest) (behind_minor v rest) (behind_minor w more) two
    (has_minor mark text w more b v.major (behind_major v rest) one) in
    let patches = one_decimal 46 v.patch w.patch (behind_minor v rest) rest more three
    (has_patch mark text w more b v.major (behind_major v rest) one v.minor (behind_minor v rest) two) in
    ((λ i. record { major = majors.0 i; minor = minors.0 i; patch = patches.0 i }), patches.1)

-- ---- pairs

-- The first version of a pair, with what follows it.
abbrev behind_first : Version → List ℕ
behind_first to = 44 ∷ 32 ∷ (version_text to ++ 41 ∷ [])

module _ (text : List ℕ) (from to : Version) (pair : IsPair text from to) where
  pub has_from : HasVersion 40 text from (behind_first to)
  has_from = record { fits = pair.from_fits; text_is = pair.text_is; ends = refl }

  module _ (v : Version) (first : List ℕ) (one : HasVersion 40 text v first) where
    pub from_is : v ≡ from
    from_is = (one_version 40 text v from first (behind_first to) one has_from).0

    pub has_comma : first ≡ behind_first to
    has_comma = (one_version 40 text v from first (behind_first to) one has_from).1

    module _ (second : List ℕ) (comma : first ≡ 44 ∷ second) where
      pub has_to : HasVersion 32 second to (41 ∷ [])
      has_to = record { fits = pair.to_fits; text_is = tails 44 second (32 ∷ (version_text to ++ 41 ∷ [])) (sym comma ∙ has_comma); ends = refl }

      module _ (w : Version) (rest : List ℕ) (two : HasVersion 32 second w rest) where
        pub to_is : w ≡ to
        to_is = (one_version 32 second w to rest (41 ∷ []) two has_to).0

        pub ends_so : rest ≡ 41 ∷ []
        ends_so = (one_version 32 second w to rest (41 ∷ []) two has_to).1

        pub in_order : IsTrue (is_before v w)
        in_order = subst (λ (x : Version). IsTrue (is_before x w)) (sym from_is) (subst (λ (x : Version). IsTrue (is_before from x)) (sym to_is) pair.before)

-- The parts are those of a pair.
pub pair_made : (text first second rest : List ℕ) (v w : Version) → HasVersion 40 text v first → first ≡ 44 ∷ second → HasVersion 32 second w rest
    → rest ≡ 41 ∷ [] → IsTrue (is_before v w) → IsPair text v w
pair_made text first second rest v w one comma two closed before = record {
  text_is = one.text_is ∙ ap (λ (l : List ℕ). 40 ∷ (version_text v ++ l))
      (comma ∙ ap (λ (l : List ℕ). 44 ∷ l) (two.text_is ∙ ap (λ (l : List ℕ). 32 ∷ (version_text w ++ l)) closed));
  from_fits = one.fits;
  to_fits = two.fits;
  before = before;
}
