-- Why a text or a segment is refused, and where: said of whole texts. The byte 46 is a dot, 34 a quote.
use Rattle.std.specs.Prelude.{◌≡◌, ◌≢◌, ◌<◌, ◌≤◌, ◌+◌, ◌⊎◌, ℕ, IsTrue, false, List, [], ◌∷◌, ◌++◌, length, Result, MatchResult}
use Rattle.std.specs.List.{list_all}
use Rattle.key_names.specs.declared.key_error.KeyError.{KeyError}
use Rattle.key_names.specs.declared.key_error.KeyFault.{KeyFault}
use Rattle.key_names.specs.declared.key_error.KeyFault.TheVariants.{Empty, BadByte, Unclosed, TooMany, SegmentTooLong, TooLong, Memory}
use Rattle.key_names.specs.Segment.{is_bare, is_quotable, is_segment, has_short_name, quoted}
use Rattle.key_names.specs.Key.{printed}
use Rattle.key_names.specs.Joined.{Begins, Ends, Leads, FaultBehind}
use Rattle.key_names.specs.Spelling.{IsSpelling, Spells}

-- In this text, where a segment is wanted, this fault is at this place.
pub data FaultAt (text : List ℕ) : KeyFault → ℕ → Type 0 where
  -- The text ends, or a dot or `""` is here.
  no_segment : Ends 46 text ⊎ Begins text (34 ∷ 34 ∷ []) → FaultAt text Empty 0
  -- Every byte after the opening quote is allowed inside quotes.
  never_closed : (inside : List ℕ) → text ≡ 34 ∷ inside → IsTrue (list_all is_quotable inside) → FaultAt text Unclosed 0
  -- After bare characters, or none, a byte that neither is one nor ends them nor opens quotes.
  in_bare :
      (run : List ℕ) (b : ℕ) (rest : List ℕ) → text ≡ run ++ b ∷ rest
      → IsTrue (list_all is_bare run) → is_bare b ≡ false → b ≢ 46 → (b ≡ 34 → run ≢ [])
      → FaultAt text BadByte (length run)
  -- Inside quotes, a byte that is not allowed there.
  in_quotes :
      (inside : List ℕ) (b : ℕ) (rest : List ℕ) → text ≡ 34 ∷ inside ++ b ∷ rest
      → IsTrue (list_all is_quotable inside) → is_quotable b ≡ false → b ≢ 34
      → FaultAt text BadByte (1 + length inside)
  -- After a quoted segment, a byte other than a dot.
  behind_quotes :
      (segment : List ℕ) (b : ℕ) (rest : List ℕ) → text ≡ quoted segment ++ b ∷ rest
      → IsTrue (is_segment segment) → b ≢ 46
      → FaultAt text BadByte (length (quoted segment))

-- After spellings of some segments, with a dot after each, there is this fault.
abbrev pub GrammarFault : List ℕ → KeyFault → ℕ → Type 0
GrammarFault = FaultBehind IsSpelling 46 FaultAt

-- The segment that follows these begins at this place.
pub record BeginsAt (text : List ℕ) (segments : List (List ℕ)) (place : ℕ) : Type 0 where
  pub front : List ℕ
  pub rest : List ℕ
  pub text_is : text ≡ front ++ rest
  pub leads : Leads IsSpelling 46 front segments
  pub place_is : place ≡ length front

-- The first limit that the segments break.
pub data Breaks (segments : List (List ℕ)) : KeyFault → Type 0 where
  too_many : 32 < length segments → Breaks segments TooMany
  segment_too_long : length segments ≤ 32 → list_all has_short_name segments ≡ false → Breaks segments SegmentTooLong
  too_long : length segments ≤ 32 → IsTrue (list_all has_short_name segments) → 1024 < length (printed segments) → Breaks segments TooLong

-- A text that spells the segments breaks this limit at this place.
pub data LimitAt (text : List ℕ) (segments : List (List ℕ)) : KeyFault → ℕ → Type 0 where
  -- At the 33rd segment.
  at_surplus :
      (first : List (List ℕ)) (surplus : List ℕ) (others : List (List ℕ)) (place : ℕ)
      → segments ≡ first ++ surplus ∷ others → length first ≡ 32 → BeginsAt text first place
      → LimitAt text segments TooMany place
  -- At the first segment with too long a file name.
  at_overlong :
      (first : List (List ℕ)) (overlong : List ℕ) (others : List (List ℕ)) (place : ℕ)
      → segments ≡ first ++ overlong ∷ others
      → IsTrue (list_all has_short_name first) → has_short_name overlong ≡ false → BeginsAt text first place
      → LimitAt text segments SegmentTooLong place
  -- At the end of the text.
  at_end : LimitAt text segments TooLong (length text)

-- The text is no key, with this fault: of its grammar, or else the first limit that its segments break.
pub data Refuses (text : List ℕ) (kind : KeyFault) (place : ℕ) : Type 0 where
  grammar : GrammarFault text kind place → Refuses text kind place
  limit : (segments : List (List ℕ)) → Spells text segments → Breaks segments kind → LimitAt text segments kind place → Refuses text kind place

-- The bytes are no segment, with this fault at this place.
pub data SegmentFault (bytes : List ℕ) : KeyFault → ℕ → Type 0 where
  no_bytes : bytes ≡ [] → SegmentFault bytes Empty 0
  -- At the first byte that is not allowed in quotes.
  bad_byte :
      (front : List ℕ) (b : ℕ) (rest : List ℕ) → bytes ≡ front ++ b ∷ rest
      → IsTrue (list_all is_quotable front) → is_quotable b ≡ false
      → SegmentFault bytes BadByte (length front)

-- The key has no child with this segment, with this fault: of the segment, or else the first limit that the child breaks.
pub data RefusesChild (key : List (List ℕ)) (segment : List ℕ) : KeyFault → ℕ → Type 0 where
  segment_fault : (kind : KeyFault) (place : ℕ) → SegmentFault segment kind place → RefusesChild key segment kind place
  child_limit : (kind : KeyFault) → IsTrue (is_segment segment) → Breaks (key ++ segment ∷ []) kind → RefusesChild key segment kind 0

-- The answer is this value, unless it ran out of memory.
abbrev pub IsRead : {T : Type 0} → Result T KeyError → T → Type 0
IsRead result value = MatchResult result (λ v. v ≡ value) (λ e. e.kind ≡ Memory)

-- The answer is this fault, unless it ran out of memory.
abbrev pub IsRefused : {T : Type 0} → Result T KeyError → KeyFault → ℕ → Type 0
IsRefused result kind place = MatchResult result (λ _. ⊥) (λ e. e.kind ≢ Memory → (e.kind ≡ kind) × (e.place ≡ place))
