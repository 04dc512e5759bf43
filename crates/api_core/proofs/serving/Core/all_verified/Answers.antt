use Rattle.std.proofs.Common.{arith, ◌≡◌, suc, length, ◌∙◌, ap, sym, refl}
use Rattle.std.proofs.lemmas.List.{nil_from_length}
use Rattle.std.specs.Vec.Iter.{into_iter_items}
use Rattle.api_core.proofs.Verifications.{told_none, told_one, told_all}
use Rattle.api_core.proofs.serving.Core.all_verified.Goals as goal

pub loop-file-preserved : goal.loop-file-preserved
loop-file-preserved g c =
    let first : length (into_iter_items c.loop-file.file-iterator) ≡ suc (length (into_iter_items c.next.new.self)) = ap length c.in-Some.ensures.steps.0 in
    record {
      can_next = tt;
      is_finite = tt;
      same = c.verified.ensures.same ∙ c.loop-file.invariant.same;
      faults = c.in_ok-verified.ensures.cause.kept ∙ c.loop-file.invariant.faults;
      verified = told_one c.args.self.now _ (into_iter_items c.next.new.self) _ _ c.push.new.self.items _ c.in_ok-verified.verified _ _
          c.loop-file.invariant.verified c.in-Some.ensures.steps.0 c.loop-file.invariant.same c.in_ok-verified.ensures.verified c.in_ok-push.ensures.items;
      left = grind arith;
    }
