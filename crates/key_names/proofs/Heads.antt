-- The segment at the head of a text, or its fault, by the longest run of bytes that it may have.
use Rattle.std.proofs.Common.{◌≡◌, ◌≢◌, ◌<◌, ◌+◌, ℕ, List, [], ◌∷◌, ◌++◌, length, length-append}
use Rattle.std.proofs.Common.{length-drop, get_or, take, drop, refl, sym, ◌∙◌, ap, subst, arith, inl, inr}
use Rattle.std.specs.Prelude.{IsTrue}
use Rattle.std.specs.List.{list_all}
use Rattle.std.proofs.lemmas.List.{take_all, take-append-drop, append_assoc}
use Rattle.key_names.specs.declared.key_error.KeyFault.TheVariants.{Empty, BadByte, Unclosed}
use Rattle.key_names.specs.Segment.{is_bare, is_quotable, is_segment, quoted}
use Rattle.key_names.specs.Faults.{FaultAt, no_segment, never_closed, in_bare, in_quotes, behind_quotes}
use Rattle.key_names.specs.Joined.{Ends}
use Rattle.key_names.specs.Reading.{IsHead}
use Rattle.key_names.proofs.Runs.{Stops, IsRun}
use Rattle.key_names.proofs.Segments.{is_segment-from, bare_all_quotable}

-- a text is cut in two
cut : (n : ℕ) (text rest : List ℕ) → drop n text ≡ rest → text ≡ take n text ++ rest
cut n text rest is = sym (take-append-drop n text) ∙ ap (λ s. take n text ++ s) is

-- no segment is at the head of a text where one ends
pub empty_here : (text : List ℕ) → Ends 46 text → FaultAt text Empty 0
empty_here text ends = no_segment (inl ends)

-- bare characters that end a segment are a segment
pub bare_head : (text : List ℕ) (n : ℕ) → IsRun is_bare text n → 0 < n → Ends 46 (drop n text) → IsHead text (take n text) n
bare_head text n run some ends = record {
  spelling = take n text;
  rest = drop n text;
  text_is = sym (take-append-drop n text);
  spelled = record {
    valid = is_segment-from (take n text) (omega (arith, run.long)) (bare_all_quotable (take n text) run.all);
    form = inr (refl, run.all);
  };
  len_is = sym run.long;
  ends = ends;
}

-- bare characters that do not end a segment are followed by a bad byte
pub bare_bad : (text : List ℕ) (n : ℕ) → get_or text 0 0 ≢ 34 → IsRun is_bare text n → (Ends 46 (drop n text) → ⊥) → FaultAt text BadByte n
bare_bad text n unquoted run more = subst (λ k. FaultAt text BadByte k) run.long (at_stop run.stops)
  where
    at_stop : Stops is_bare (drop n text) → FaultAt text BadByte (length (take n text))
    at_stop (inl none) = absurd (more (inl none))
    at_stop (inr (b, rest, rest_is, fails)) =
        in_bare (take n text) b rest (cut n text (b ∷ rest) rest_is) run.all fails
        (λ dot. more (inr (rest, rest_is ∙ ap (λ x. x ∷ rest) dot)))
        (λ quote none. unquoted (ap (λ s. get_or s 0 0) (cut n text (b ∷ rest) rest_is ∙ ap (λ s. s ++ b ∷ rest) none) ∙ quote))

module _ (inside : List ℕ) (n : ℕ) (run : IsRun is_quotable inside n) where
  -- an opening quote is never closed
  pub unclosed : length (drop n inside) ≡ 0 → FaultAt (34 ∷ inside) Unclosed 0
  unclosed none = never_closed inside refl (subst (λ s. IsTrue (list_all is_quotable s)) (take_all n inside (omega (arith, length-drop n inside, none)))
      run.all)

  -- a byte that is not allowed in quotes
  pub bad_inside : (b : ℕ) (behind : List ℕ) → drop n inside ≡ b ∷ behind → b ≢ 34 → FaultAt (34 ∷ inside) BadByte (n + 1)
  bad_inside b behind is other =
      let place : 1 + length (take n inside) ≡ n + 1 = omega (arith, run.long) in
      subst (λ k. FaultAt (34 ∷ inside) BadByte k) place (at_stop run.stops)
    where
      at_stop : Stops is_quotable (drop n inside) → FaultAt (34 ∷ inside) BadByte (1 + length (take n inside))
      at_stop (inl none) = cc
      at_stop (inr (c, rest, rest_is, fails)) =
          let same : c ≡ b = cc in
          in_quotes (take n inside) b behind (ap (λ s. 34 ∷ s) (cut n inside (b ∷ behind) is)) run.all (ap is_quotable (sym same) ∙ fails) other

  -- two quotes hold no segment
  pub nothing_inside : (behind : List ℕ) → n ≡ 0 → drop n inside ≡ 34 ∷ behind → FaultAt (34 ∷ inside) Empty 0
  nothing_inside behind none is = no_segment (inr (behind, ap (λ s. 34 ∷ s) (sym (ap (λ k. drop k inside) none) ∙ is)))

  module _ (behind : List ℕ) (some : 0 < n) (is : drop n inside ≡ 34 ∷ behind) where
    -- what is in the quotes is a segment
    segment : IsTrue (is_segment (take n inside))
    segment = is_segment-from (take n inside) (omega (arith, run.long)) run.all

    -- the text begins with it in quotes
    text_is : 34 ∷ inside ≡ quoted (take n inside) ++ behind
    text_is = ap (λ s. 34 ∷ s) (cut n inside (34 ∷ behind) is ∙ sym (append_assoc (take n inside) (34 ∷ []) behind))

    -- with two bytes more than the segment
    long : length (quoted (take n inside)) ≡ n + 2
    long = omega (arith, run.long, length-append (take n inside) (34 ∷ []))

    -- a byte after a quoted segment that does not end it
    pub bad_behind : (Ends 46 behind → ⊥) → FaultAt (34 ∷ inside) BadByte (n + 2)
    bad_behind more = subst (λ k. FaultAt (34 ∷ inside) BadByte k) long (at_stop behind refl)
      where
        at_stop : (s : List ℕ) → behind ≡ s → FaultAt (34 ∷ inside) BadByte (length (quoted (take n inside)))
        at_stop [] none = absurd (more (inl none))
        at_stop (b ∷ rest) rest_is = behind_quotes (take n inside) b rest (text_is ∙ ap (λ s. quoted (take n inside) ++ s) rest_is) segment
            (λ dot. more (inr (rest, rest_is ∙ ap (λ x. x ∷ rest) dot)))

    -- a segment in quotes
    pub quoted_head : Ends 46 behind → IsHead (34 ∷ inside) (take n inside) (n + 2)
    quoted_head ends = record {
      spelling = quoted (take n inside);
      rest = behind;
      text_is = text_is;
      spelled = record { valid = segment; form = inl refl };
      len_is = sym long;
      ends = ends;
    }
