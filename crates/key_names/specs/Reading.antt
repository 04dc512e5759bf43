-- What the reader of keys knows on its way through a text.
use Rattle.std.specs.Prelude.{◌≡◌, ◌≤◌, ℕ, IsTrue, List, ◌++◌, length, Option, MatchOption}
use Rattle.std.specs.List.{list_all}
use Rattle.key_names.specs.declared.key_error.KeyFault.TheVariants.{TooMany, SegmentTooLong}
use Rattle.key_names.specs.Segment.{has_short_name}
use Rattle.key_names.specs.Spelling.{IsSpelling}
use Rattle.key_names.specs.Joined.{Ends}
use Rattle.key_names.specs.Faults.{LimitAt}

-- The text begins with a spelling of the segment, of this length, and the segment ends after it.
pub record IsHead (text segment : List ℕ) (len : ℕ) : Type 0 where
  pub spelling : List ℕ
  pub rest : List ℕ
  pub text_is : text ≡ spelling ++ rest
  pub spelled : IsSpelling spelling segment
  pub len_is : len ≡ length spelling
  pub ends : Ends 46 rest

-- The places at which the segments, which the text spells, break the first two limits.
pub record AreMarked (text : List ℕ) (segments : List (List ℕ)) (surplus overlong : Option ℕ) : Type 0 where
  pub many : MatchOption surplus (length segments ≤ 32) (LimitAt text segments TooMany)
  pub long : MatchOption overlong (IsTrue (list_all has_short_name segments)) (LimitAt text segments SegmentTooLong)
