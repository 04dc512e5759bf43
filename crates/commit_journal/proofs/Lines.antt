-- The lines of an entry, taken apart in one way.
use Rattle.std.proofs.Common.{◌≡◌, ◌≢◌, ℕ, ◌+◌, ◌<◌, ◌^◌, length-append, drop, take-append-drop, List, ◌∷◌, ◌++◌}
use Rattle.std.proofs.Common.{length, codes, Option, Some, None, MatchOption, Bor, sym, ◌∙◌, ap, subst, arith}
use Rattle.std.proofs.lemmas.Fmt.{decimal_injective}
use Rattle.std.proofs.lemmas.List.{append_cancel_left}
use Rattle.std.specs.Fmt.{decimal}
use Rattle.std.specs.List.{IsSplitAt}
use Rattle.commit_journal.specs.Parts.{Lacks, IsCut, IsNumber, IsBody, IsRemoval, IsWriting}
use Rattle.commit_journal.proofs.Cutting.{lacks_none, split_one, same_length}
use Rattle.commit_journal.proofs.Numbers.{decimal_lacks}

-- ---- the bytes after their length

module _ (text bytes rest : List ℕ) (is : IsBody text bytes rest) where
  -- there is a line feed
  pub body_uncut : Lacks 10 text → ⊥
  body_uncut lacks = lacks_none 10 (decimal (length bytes)) (bytes ++ 10 ∷ rest) (subst (λ (l : List ℕ). Lacks 10 l) is.text_is lacks)

  module _ (digits tail : List ℕ) (at : IsCut 10 text digits tail) where
    -- the first line is the length
    both : (digits ≡ decimal (length bytes)) × (tail ≡ bytes ++ 10 ∷ rest)
    both = split_one 10 digits (decimal (length bytes)) tail (bytes ++ 10 ∷ rest) at.lacks (decimal_lacks (length bytes) is.fits) (sym at.text_is ∙ is.text_is)

    -- it is a number
    body_number : IsNumber digits (length bytes)
    body_number = record { digits_are = both.0; fits = is.fits }

    -- and no other number
    body_size : (n : ℕ) → IsNumber digits n → n ≡ length bytes
    body_size n number = decimal_injective n (length bytes) number.fits is.fits (sym number.digits_are ∙ both.0)

-- where the first line is no number, there is no body
pub body_no_number : (text digits tail : List ℕ) → IsCut 10 text digits tail → ((n : ℕ) → IsNumber digits n → ⊥) → (bytes rest : List ℕ)
    → IsBody text bytes rest → ⊥
body_no_number text digits tail at none bytes rest is = none (length bytes) (body_number text bytes rest is digits tail at)

-- where fewer bytes follow, there is no body
pub body_short : (text digits tail : List ℕ) (n : ℕ) → IsCut 10 text digits tail → IsNumber digits n → length tail < n → (bytes rest : List ℕ)
    → IsBody text bytes rest → ⊥
body_short text digits tail n at number short bytes rest is =
    let size = body_size text bytes rest is digits tail at n number in
    let e : length tail ≡ length bytes + length (10 ∷ rest) = ap length (both text bytes rest is digits tail at).1 ∙ length-append bytes (10 ∷ rest) in
    omega arith

-- the two sides of a split are the whole
split_whole : (tail first after : List ℕ) (n : ℕ) → IsSplitAt tail n first after → tail ≡ first ++ after
split_whole tail first after n split = sym (take-append-drop n tail) ∙ ap (λ (l : List ℕ). l ++ drop n tail) (sym split.1)
    ∙ ap (λ (l : List ℕ). first ++ l) (sym split.2)

-- where no line feed ends the bytes, there is no body
pub body_no_line : (text digits tail first after : List ℕ) (n : ℕ) → IsCut 10 text digits tail → IsNumber digits n → IsSplitAt tail n first after
    → ((rest : List ℕ) → after ≢ 10 ∷ rest) → (bytes rest : List ℕ) → IsBody text bytes rest → ⊥
body_no_line text digits tail first after n at number split none bytes rest is =
    none rest (same_length first bytes after (10 ∷ rest) (split.3 ∙ body_size text bytes rest is digits tail at n number)
    (sym (split_whole tail first after n split) ∙ (both text bytes rest is digits tail at).1)).1

-- else there is one
pub body_made : (text digits tail first after rest : List ℕ) (n : ℕ) → IsCut 10 text digits tail → IsNumber digits n → IsSplitAt tail n first after
    → after ≡ 10 ∷ rest → IsBody text first rest
body_made text digits tail first after rest n at number split line = record {
  text_is = at.text_is ∙ ap (λ (l : List ℕ). l ++ 10 ∷ tail) (number.digits_are ∙ ap decimal (sym split.3))
      ∙ ap (λ (l : List ℕ). decimal (length first) ++ 10 ∷ l) (split_whole tail first after n split ∙ ap (λ (l : List ℕ). first ++ l) line);
  fits = subst (λ (k : ℕ). k < 2 ^ 64) (sym split.3) number.fits;
}

pub ruleset bodies = (body_uncut, body_made)

-- ---- entries that set a file

-- without the word there is none
pub writing_unset : (text : List ℕ) → ((rest : List ℕ) → text ≢ codes "set " ++ rest) → (path bytes rest : List ℕ) → IsWriting text path bytes rest → ⊥
writing_unset text none path bytes rest is = none _ is.text_is

-- nor without a space after the path
pub writing_uncut : (text tail : List ℕ) → text ≡ codes "set " ++ tail → Lacks 32 tail → (path bytes rest : List ℕ) → IsWriting text path bytes rest → ⊥
writing_uncut text tail set lacks path bytes rest is =
    lacks_none 32 path (decimal (length bytes) ++ 10 ∷ (bytes ++ 10 ∷ rest))
    (subst (λ (l : List ℕ). Lacks 32 l) (append_cancel_left (codes "set ") tail _ (sym set ∙ is.text_is)) lacks)

-- nor without a body
pub writing_no_body : (text tail first after : List ℕ) → text ≡ codes "set " ++ tail → IsCut 32 tail first after
    → ((bytes rest : List ℕ) → IsBody after bytes rest → ⊥) → (path bytes rest : List ℕ) → IsWriting text path bytes rest → ⊥
writing_no_body text tail first after set at none path bytes rest is =
    let cut = split_one 32 first path after (decimal (length bytes) ++ 10 ∷ (bytes ++ 10 ∷ rest)) at.lacks is.lacks
    (sym at.text_is ∙ append_cancel_left (codes "set ") tail _ (sym set ∙ is.text_is)) in
    none bytes rest (record { text_is = cut.1; fits = is.fits })

-- else there is one
pub writing_made : (text tail first after bytes rest : List ℕ) → text ≡ codes "set " ++ tail → IsCut 32 tail first after → IsBody after bytes rest
    → IsWriting text first bytes rest
writing_made text tail first after bytes rest set at body = record {
  text_is = set ∙ ap (λ (l : List ℕ). codes "set " ++ l) (at.text_is ∙ ap (λ (l : List ℕ). first ++ 32 ∷ l) body.text_is);
  fits = body.fits;
  lacks = at.lacks;
}

pub ruleset writings = (writing_unset, writing_uncut, writing_no_body, writing_made)

-- ---- entries that take a file away

-- without the word there is none
pub removal_unset : (text : List ℕ) → ((rest : List ℕ) → text ≢ codes "remove " ++ rest) → (path rest : List ℕ) → IsRemoval text path rest → ⊥
removal_unset text none path rest is = none _ is.text_is

-- after the word there is one up to the first line feed
pub removal_cut : (text tail : List ℕ) (o : Option (Bor (List ℕ) × Bor (List ℕ))) → text ≡ codes "remove " ++ tail
    → MatchOption o (Lacks 10 tail) (λ p. IsCut 10 tail p.0.now p.1.now) → MatchOption o ((path rest : List ℕ) → IsRemoval text path rest → ⊥)
    (λ p. IsRemoval text p.0.now p.1.now)
removal_cut text tail None removes lacks = λ path rest is. lacks_none 10 path rest
    (subst (λ (l : List ℕ). Lacks 10 l) (append_cancel_left (codes "remove ") tail _ (sym removes ∙ is.text_is)) lacks)
removal_cut text tail (Some p) removes at = record {
  text_is = removes ∙ ap (λ (l : List ℕ). codes "remove " ++ l) at.text_is;
  lacks = at.lacks;
}

pub ruleset removals = (removal_unset)
