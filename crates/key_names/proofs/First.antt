-- What is at the head of a text is determined: a segment that ends there, or a fault.
use Rattle.std.proofs.Common.{◌≡◌, ◌≢◌, ◌<◌, ◌+◌, ◌⊎◌, ℕ, List, [], ◌∷◌, ◌++◌, Bool, false, true≢false}
use Rattle.std.proofs.Common.{◌==◌, nat_lt, if◌then◌else◌, length, take, drop, refl, sym, ◌∙◌, ap, arith, inl, inr}
use Rattle.std.specs.Prelude.{IsTrue}
use Rattle.std.specs.List.{list_all, prefix_len}
use Rattle.std.proofs.Math.Seq.{take-append_seam, drop-append_seam}
use Rattle.std.proofs.lemmas.Bool.{and_parts, leb-true, ne_eqb}
use Rattle.std.proofs.lemmas.List.{append_assoc, append-nil}
use Rattle.key_names.specs.declared.key_error.KeyFault.{KeyFault}
use Rattle.key_names.specs.declared.key_error.KeyFault.TheVariants.{Empty, BadByte, Unclosed}
use Rattle.key_names.specs.Segment.{is_bare, is_quotable, quoted}
use Rattle.key_names.specs.Spelling.{IsSpelling}
use Rattle.key_names.specs.Faults.{FaultAt, no_segment, never_closed, in_bare, in_quotes, behind_quotes}
use Rattle.key_names.specs.Joined.{Ends}
use Rattle.key_names.proofs.Runs.{Stops, prefix_len-run}

-- what is at the head of a text: a spelling, its segment and the rest, or a fault at its place
pub data First : Type 0 where
  head : List ℕ → List ℕ → List ℕ → First
  fault : KeyFault → ℕ → First

-- after bare characters
abbrev bare_first : List ℕ → List ℕ → First
bare_first [] [] = fault Empty 0
bare_first [] (b ∷ rest) = if b == 46 then fault Empty 0 else fault BadByte 0
bare_first (x ∷ run) [] = head (x ∷ run) (x ∷ run) []
bare_first (x ∷ run) (b ∷ rest) = if b == 46 then head (x ∷ run) (x ∷ run) (b ∷ rest) else fault BadByte (length (x ∷ run))

-- after a closing quote
abbrev closed_first : List ℕ → List ℕ → First
closed_first [] rest = fault Empty 0
closed_first (x ∷ run) [] = head (quoted (x ∷ run)) (x ∷ run) []
closed_first (x ∷ run) (b ∷ rest) = if b == 46 then head (quoted (x ∷ run)) (x ∷ run) (b ∷ rest) else fault BadByte (length (quoted (x ∷ run)))

-- after an opening quote and what is allowed in quotes
abbrev quoted_first : List ℕ → List ℕ → First
quoted_first run [] = fault Unclosed 0
quoted_first run (b ∷ rest) = if b == 34 then closed_first run rest else fault BadByte (1 + length run)

-- a text cut after its longest run
abbrev by_run : (ℕ → Bool) → (List ℕ → List ℕ → First) → List ℕ → First
by_run p f text = f (take (prefix_len p text) text) (drop (prefix_len p text) text)

-- what is at the head of the text
unfoldable pub first : List ℕ → First
first [] = fault Empty 0
first (b ∷ text) = if b == 34 then by_run is_quotable quoted_first text else by_run is_bare bare_first (b ∷ text)

-- a text that is a run and what stops it is cut there
by_run-is : (p : ℕ → Bool) (f : List ℕ → List ℕ → First) (run rest : List ℕ) → IsTrue (list_all p run) → Stops p rest → by_run p f (run ++ rest) ≡ f run rest
by_run-is p f run rest all stops =
    rw (prefix_len-run p run rest all stops, take-append_seam run rest, drop-append_seam run rest) refl

-- a bare character is no quote
bare_unquoted : (b : ℕ) → IsTrue (is_bare b) → (b == 34) ≡ false
bare_unquoted b bare = ne_eqb b 34 (λ quote. true≢false (sym bare ∙ ap is_bare quote))

-- where a segment ends, bare characters stop
Stops-bare : (rest : List ℕ) → Ends 46 rest → Stops is_bare rest
Stops-bare rest (inl none) = inl none
Stops-bare rest (inr (more, dot)) = inr (46, more, dot, refl)

-- bare characters that end are the head
bare_head : (segment rest : List ℕ) → 0 < length segment → IsTrue (list_all is_bare segment) → Ends 46 rest
    → first (segment ++ rest) ≡ head segment segment rest
unfolding first
bare_head [] rest some bare ends = absurd (omega arith)
bare_head (x ∷ run) rest some bare ends =
    rw (bare_unquoted x (and_parts (is_bare x) (list_all is_bare run) bare).0)
    (by_run-is is_bare bare_first (x ∷ run) rest bare (Stops-bare rest ends) ∙ at_end rest ends)
  where
    at_end : (s : List ℕ) → Ends 46 s → bare_first (x ∷ run) s ≡ head (x ∷ run) (x ∷ run) s
    at_end s (inl none) = rw none refl
    at_end s (inr (more, dot)) = rw dot refl

-- a segment in quotes that ends is the head
quoted_head : (segment rest : List ℕ) → 0 < length segment → IsTrue (list_all is_quotable segment) → Ends 46 rest
    → first (quoted segment ++ rest) ≡ head (quoted segment) segment rest
unfolding first
quoted_head [] rest some good ends = absurd (omega arith)
quoted_head (x ∷ run) rest some good ends =
    ap (by_run is_quotable quoted_first) (append_assoc (x ∷ run) (34 ∷ []) rest)
    ∙ by_run-is is_quotable quoted_first (x ∷ run) (34 ∷ rest) good (inr (34, rest, refl, refl))
    ∙ at_end rest ends
  where
    at_end : (s : List ℕ) → Ends 46 s → closed_first (x ∷ run) s ≡ head (quoted (x ∷ run)) (x ∷ run) s
    at_end s (inl none) = rw none refl
    at_end s (inr (more, dot)) = rw dot refl

-- a spelling that ends is the head
pub first-spelling : (spelling segment rest : List ℕ) → IsSpelling spelling segment → Ends 46 rest → first (spelling ++ rest) ≡ head spelling segment rest
first-spelling spelling segment rest spelled ends =
    by_form spelled.form
  where
    some : 0 < length segment
    some = leb-true 1 (length segment) (and_parts (nat_lt 0 (length segment)) (list_all is_quotable segment) spelled.valid).0

    by_form : (spelling ≡ quoted segment) ⊎ ((spelling ≡ segment) × IsTrue (list_all is_bare segment)) → first (spelling ++ rest) ≡ head spelling segment rest
    by_form (inl is) = rw is (quoted_head segment rest some (and_parts (nat_lt 0 (length segment)) (list_all is_quotable segment) spelled.valid).1 ends)
    by_form (inr (is, bare)) = rw is (bare_head segment rest some bare ends)

-- a bad byte after bare characters is the fault
bare_fault : (run : List ℕ) (b : ℕ) (rest : List ℕ) → IsTrue (list_all is_bare run) → is_bare b ≡ false → b ≢ 46 → (b ≡ 34 → run ≢ [])
    → first (run ++ b ∷ rest) ≡ fault BadByte (length run)
unfolding first
bare_fault [] b rest bare bad other unquoted =
    rw (ne_eqb b 34 (λ quote. unquoted quote refl)) (by_run-is is_bare bare_first [] (b ∷ rest) refl (inr (b, rest, refl, bad)) ∙ rw (ne_eqb b 46 other) refl)
bare_fault (x ∷ run) b rest bare bad other unquoted =
    rw (bare_unquoted x (and_parts (is_bare x) (list_all is_bare run) bare).0)
    (by_run-is is_bare bare_first (x ∷ run) (b ∷ rest) bare (inr (b, rest, refl, bad)) ∙ rw (ne_eqb b 46 other) refl)

-- a bad byte after a segment in quotes is the fault
behind_fault : (segment : List ℕ) (b : ℕ) (rest : List ℕ) → 0 < length segment → IsTrue (list_all is_quotable segment) → b ≢ 46
    → first (quoted segment ++ b ∷ rest) ≡ fault BadByte (length (quoted segment))
unfolding first
behind_fault [] b rest some good other = absurd (omega arith)
behind_fault (x ∷ run) b rest some good other =
    ap (by_run is_quotable quoted_first) (append_assoc (x ∷ run) (34 ∷ []) (b ∷ rest))
    ∙ by_run-is is_quotable quoted_first (x ∷ run) (34 ∷ b ∷ rest) good (inr (34, b ∷ rest, refl, refl))
    ∙ rw (ne_eqb b 46 other) refl

-- a fault at the head is the fault
pub first-fault : {text : List ℕ} {kind : KeyFault} {place : ℕ} → FaultAt text kind place → first text ≡ fault kind place
unfolding first
first-fault (no_segment (inl (inl none))) = rw none refl
first-fault (no_segment (inl (inr (more, dot)))) = rw dot (by_run-is is_bare bare_first [] (46 ∷ more) refl (inr (46, more, refl, refl)))
first-fault (no_segment (inr (more, quotes))) = rw quotes (by_run-is is_quotable quoted_first [] (34 ∷ more) refl (inr (34, more, refl, refl)))
first-fault (never_closed inside is good) = rw is (ap (by_run is_quotable quoted_first) (sym (append-nil inside))
    ∙ by_run-is is_quotable quoted_first inside [] good (inl refl))
first-fault (in_bare run b rest is bare bad other unquoted) = rw is (bare_fault run b rest bare bad other unquoted)
first-fault (in_quotes inside b rest is good bad other) = rw is (by_run-is is_quotable quoted_first inside (b ∷ rest) good (inr (b, rest, refl, bad))
    ∙ rw (ne_eqb b 34 other) refl)
first-fault (behind_quotes segment b rest is valid other) =
    let parts = and_parts (nat_lt 0 (length segment)) (list_all is_quotable segment) valid in
    rw is (behind_fault segment b rest (leb-true 1 (length segment) parts.0) parts.1 other)
