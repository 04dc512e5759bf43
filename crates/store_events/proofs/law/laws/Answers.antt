use Rattle.store_events.proofs.Beginnings.{beginnings_are_whole, beginnings_begin}
use Rattle.store_events.proofs.Moves.{moves_are_whole, moves_move, refused_moves_stay}
use Rattle.store_events.proofs.Stays.{same_disks_stay, prunings_stay}
use Rattle.store_events.proofs.Readings.{readings_stay, readings_tell, readings_touch_own}
use Rattle.store_events.proofs.Forgettings.{forgettings_are_whole, forgettings_forget, forgettings_touch_own}
use Rattle.store_events.proofs.law.laws.Goals as goal

pub returns : goal.returns
returns c = record {
  beginning = beginnings_are_whole;
  begun = beginnings_begin;
  moving = moves_are_whole;
  moved = moves_move;
  refused = refused_moves_stay;
  same = same_disks_stay;
  pruned = prunings_stay;
  reading = readings_stay;
  tells = readings_tell;
  read_own = readings_touch_own;
  forgetting = forgettings_are_whole;
  forgot = forgettings_forget;
  forgot_own = forgettings_touch_own;
}
