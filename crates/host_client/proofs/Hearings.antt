-- What was read, call after call.
use Rattle.std.proofs.Common.{◌≡◌, ◌≤◌, ℕ, List, [], ◌++◌, length, Option, refl, sym, ◌∙◌, ap, subst}
use Rattle.std.proofs.lemmas.List.{append-nil}
use Rattle.outside.specs.Told.{Moves}
use Rattle.outside.specs.Exchange.{Exchange}
use Rattle.outside.proofs.Told.{moves_stay, moves_then, moves_map, moves_after}
use Rattle.host_client.specs.Exchanges.{IsSent, IsSentInPart, IsHeard, IsHeardToEnd, IsExchanged, IsWhole, IsAnswered, IsAnsweredBadly}
use Rattle.host_client.specs.Reply.{IsReply, IsNoReply}

-- nothing is read yet
pub heard_none : (a : Option Exchange) → Moves a a (IsHeard [])
heard_none a = moves_stay (λ e. record { split = refl; heard = sym (append-nil e.heard); written = refl; failed = refl })

-- reads write nothing
pub heard_unwritten : (bytes : List ℕ) (a b : Option Exchange) → Moves a b (IsHeard bytes) → Moves a b (λ old new. new.written ≡ old.written)
heard_unwritten bytes a b m = moves_map (λ old new heard. heard.written) m

pub ended_unwritten : (bytes : List ℕ) (a b : Option Exchange) → Moves a b (IsHeardToEnd bytes) → Moves a b (λ old new. new.written ≡ old.written)
ended_unwritten bytes a b m = moves_map (λ old new heard. heard.heard.written) m

-- a text and then some bytes
both : (text bytes : List ℕ) (old mid new : Exchange) → IsSent text old mid → IsHeard bytes mid new → IsExchanged text bytes old new
both text bytes old mid new sent heard = record {
  written = heard.written ∙ ap (λ (x : Exchange). x.written) sent;
  heard = heard.heard ∙ ap (λ (x : Exchange). x.heard ++ bytes) sent;
  split = sym (ap (λ (x : Exchange). x.left) sent) ∙ heard.split;
  failed = heard.failed ∙ ap (λ (x : Exchange). x.failed) sent;
}

-- a text is sent whole, and the input is read to its end
pub whole_exchange : (text bytes : List ℕ) (a b c d : Option Exchange) → b ≡ a → Moves b c (IsSent text) → Moves c d (IsHeardToEnd bytes)
    → length bytes ≤ 16777216
    → Moves a d (IsWhole text bytes)
whole_exchange text bytes a b c d same m n within = moves_after same (moves_then (λ old mid new sent heard.
    record { exchanged = both text bytes old mid new sent heard.heard; end = heard.end; within = within }) m n)

-- what was sent stays a part of the text
pub part_then : (text : List ℕ) (a b c d : Option Exchange) → b ≡ a → Moves b c (IsSentInPart text) → Moves c d (λ old new. new.written ≡ old.written)
    → Moves a d (IsSentInPart text)
part_then text a b c d same m n = moves_after same (moves_then (λ old mid new part stays.
    record { front = part.front; rest = part.rest; split = part.split; written = stays ∙ part.written }) m n)

-- nothing of the text was sent
pub part_none : (text : List ℕ) (a b : Option Exchange) → b ≡ a → Moves a b (IsSentInPart text)
part_none text a b same = moves_after same (moves_stay (λ e. record { front = []; rest = text; split = refl; written = sym (append-nil e.written) }))

-- the whole input is a reply
pub answered : (text sent bytes read : List ℕ) (status : ℕ) (body : List ℕ) (a b : Option Exchange) → Moves a b (IsWhole sent bytes) → sent ≡ text
    → read ≡ bytes
    → IsReply read status body → Moves a b (IsAnswered status body text)
answered text sent bytes read status body a b m same all reply = moves_map (λ old new whole.
    record { bytes = bytes; whole = subst (λ t. IsWhole t bytes old new) same whole; reply = subst (λ l. IsReply l status body) all reply }) m

-- the whole input is no reply
pub answered_badly : (text sent bytes read : List ℕ) (a b : Option Exchange) → Moves a b (IsWhole sent bytes) → sent ≡ text → read ≡ bytes → IsNoReply read
    → Moves a b (IsAnsweredBadly text)
answered_badly text sent bytes read a b m same all none = moves_map (λ old new whole.
    record { bytes = bytes; whole = subst (λ t. IsWhole t bytes old new) same whole; none = subst IsNoReply all none }) m

pub ruleset hearings = (heard_none, heard_unwritten, ended_unwritten, whole_exchange, part_then, part_none)
