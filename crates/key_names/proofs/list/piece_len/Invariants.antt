use Rattle.std.proofs.Common.{◌≡◌, ℕ, ◌<◌, false, get_or, take}
use Rattle.key_names.specs.Listing.{is_closed}
use Rattle.key_names.proofs.list.piece_len.Given as goal

abbrev pub invariant-loop-i : goal.invariant-loop-i
invariant-loop-i l = record {
  state : l.closed ≡ is_closed (take l.i l.text);
  commas : (k : ℕ) → k < l.i → get_or l.text k 0 ≡ 44 → is_closed (take k l.text) ≡ false;
}
