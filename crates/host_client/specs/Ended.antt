-- How a run of the client ends, by what its links (l) and its sink (s) tell before it and after it, and by what the links count (f).
use Rattle.std.specs.Prelude.{◌≡◌, ◌<◌, ◌⊎◌, ℕ, List, [], ◌∷◌, ◌++◌, length, codes, Option, None, slice_index, slice_index_or, slice_set, if◌then◌else◌, ◌==◌}
use Rattle.outside.specs.Told.{Moves}
use Rattle.outside.specs.Exchange.{Exchange}
use Rattle.outside.specs.Faults.{Rose}
use Rattle.outside.specs.Said.{IsSaid, IsSaidInPart}
use Rattle.host_client.specs.Question.{ask_text}
use Rattle.host_client.specs.Exchanges.{IsSentInPart, IsAnswered, IsAnsweredBadly, IsAnsweredAtLength}
use Rattle.host_client.specs.Orders.{Order, Spells, SpellsNone}
use Rattle.host_client.specs.Steps.{next}
use Rattle.host_client.specs.declared.reply.Got.{Got}
use Rattle.host_client.specs.declared.step.Question.{Question}
use Rattle.host_client.specs.declared.step.Ending.{Ending}
use Rattle.host_client.specs.declared.step.Step.TheVariants.{Ask, End}

-- ---- one question

-- What a question's text does to an exchange.
abbrev pub Effect : Type 1
Effect = List ℕ → Exchange → Exchange → Type 0

-- The bytes of a question.
abbrev pub text_of : Question → List ℕ
text_of question = ask_text question.method question.target question.body

-- The next question after these replies has this effect on a link.
pub record AsksNext (effect : Effect) (order : Order) (replies : List Got) (l l' : Option Exchange) : Type 0 where
  pub question : Question
  pub step : next order replies ≡ Ask question
  pub told : Moves l l' (effect (text_of question))

-- The next question after these replies is answered by the last of those after it.
pub record IsTurn (order : Order) (before after : List Got) (l l' : Option Exchange) : Type 0 where
  pub reply : Got
  pub replies : after ≡ before ++ reply ∷ []
  pub asked : AsksNext (IsAnswered reply.status reply.body) order before l l'

-- After these replies the order ends, and the link is as before.
pub record EndsHere (order : Order) (replies : List Got) (ending : Ending) (l l' : Option Exchange) : Type 0 where
  pub step : next order replies ≡ End ending
  pub same : l' ≡ l

-- The next question may have been sent, in part.
abbrev pub MayAsk : Order → List Got → Option Exchange → Option Exchange → Type 0
MayAsk order replies l l' = (l' ≡ l) ⊎ AsksNext IsSentInPart order replies l l'

-- ---- questions, each over a link of its own

-- The link at this place.
abbrev pub link_at : List (Option Exchange) → ℕ → Option Exchange
link_at l i = slice_index_or l i None

-- The order's questions that come before these replies were asked, one over each link from the first on, and answered by them; the other links are as before.
pub data IsAsked (order : Order) : List Got → List (Option Exchange) → List (Option Exchange) → Type 0 where
  not_yet : (l : List (Option Exchange)) → IsAsked order [] l l
  one_more : (before after : List Got) (l m l' : List (Option Exchange)) (now : Option Exchange) → IsAsked order before l m
      → IsTurn order before after (link_at m (length before)) now → l' ≡ slice_set m (length before) now → IsAsked order after l l'

-- And there the order ends.
pub record IsAtEnd (order : Order) (ending : Ending) (l l' : List (Option Exchange)) : Type 0 where
  pub replies : List Got
  pub asked : IsAsked order replies l l'
  pub step : next order replies ≡ End ending

-- And the next question had this effect on the next link.
pub record IsAsking (effect : Effect) (order : Order) (l l' : List (Option Exchange)) : Type 0 where
  pub replies : List Got
  pub m : List (Option Exchange)
  pub now : Option Exchange
  pub asked : IsAsked order replies l m
  pub last : AsksNext effect order replies (link_at m (length replies)) now
  pub others : l' ≡ slice_set m (length replies) now

-- And there is a further question, but no further link.
pub record IsUnfinished (order : Order) (l l' : List (Option Exchange)) : Type 0 where
  pub replies : List Got
  pub question : Question
  pub asked : IsAsked order replies l l'
  pub all : length replies ≡ length l
  pub step : next order replies ≡ Ask question

-- And it stopped there, or in the next question.
pub data IsStopped (order : Order) (l l' : List (Option Exchange)) : Type 0 where
  between : (replies : List Got) → IsAsked order replies l l' → IsStopped order l l'
  within : IsAsking IsSentInPart order l l' → IsStopped order l l'

-- A link failed.
pub record AnyRose (f f' : List ℕ) : Type 0 where
  pub link : ℕ
  pub within : link < length f
  pub rose : Rose (slice_index f link) (slice_index f' link)

-- ---- a run

-- How the questions of the words end, with which exit status and output.
pub data Ends (words : List (List ℕ)) (f f' : List ℕ) (l l' : List (Option Exchange)) : ℕ → List ℕ → Type 0 where
  -- As the order says.
  by_order : (order : Order) (ending : Ending) → Spells words order → IsAtEnd order ending l l' → f' ≡ f → Ends words f f' l l' ending.status ending.line
  -- The words order nothing, and nothing is asked.
  misused : SpellsNone words → l' ≡ l → f' ≡ f → Ends words f f' l l' 2 (codes "settingsctl: usage\n")
  -- It ran out of memory before the words were read, and nothing is asked.
  unread : l' ≡ l → f' ≡ f → Ends words f f' l l' 1 (codes "settingsctl: memory\n")
  -- It ran out of memory.
  without_memory : (order : Order) → Spells words order → IsStopped order l l' → f' ≡ f → Ends words f f' l l' 1 (codes "settingsctl: memory\n")
  -- A link failed.
  cut_off : (order : Order) → Spells words order → IsAsking IsSentInPart order l l' → AnyRose f f' → Ends words f f' l l' 4 (codes "settingsctl: link\n")
  -- What came is no reply.
  badly : (order : Order) → Spells words order → IsAsking IsAnsweredBadly order l l' → f' ≡ f → Ends words f f' l l' 21 (codes "settingsctl: bad reply\n")
  -- What came is too long.
  at_length : (order : Order) → Spells words order → IsAsking IsAnsweredAtLength order l l' → f' ≡ f
      → Ends words f f' l l' 22 (codes "settingsctl: reply too long\n")
  -- Each link was used, and there is more to ask.
  unfinished : (order : Order) → Spells words order → IsUnfinished order l l' → f' ≡ f → Ends words f f' l l' 24 (codes "settingsctl: still running\n")

-- The exit status where the output failed: 12, but 1 stays 1.
abbrev pub unsaid : ℕ → ℕ
unsaid status = if status == 1 then 1 else 12

-- The line is written, and this is the exit status; or the output fails within it (o counts its faults).
pub data IsPrinted (status : ℕ) (line : List ℕ) (o o' : ℕ) (s s' : Option (List ℕ)) (result : ℕ) : Type 0 where
  whole : result ≡ status → Moves s s' (IsSaid line) → o' ≡ o → IsPrinted status line o o' s s' result
  in_part : result ≡ unsaid status → Moves s s' (IsSaidInPart line) → Rose o o' → IsPrinted status line o o' s s' result

-- The run: it ends so, and says so.
pub record IsRun (words : List (List ℕ)) (f f' : List ℕ) (l l' : List (Option Exchange)) (o o' : ℕ) (s s' : Option (List ℕ)) (result : ℕ) : Type 0 where
  pub status : ℕ
  pub line : List ℕ
  pub ends : Ends words f f' l l' status line
  pub printed : IsPrinted status line o o' s s' result
