use Rattle.std.proofs.Common.{◌++◌, ℕ, List, sym, ◌∙◌, ap, subst}
use Rattle.settings_maps.specs.KeyList.{IsRising, joined}
use Rattle.settings_maps.proofs.Merged.{merged_rises}
use Rattle.settings_maps.proofs.key_list.KeyList.joined.Goals as goal

pub of-requires : goal.of-requires
of-requires c =
    subst IsRising (sym (c.in_ok-push_joined.ensures ∙ ap (λ (l : List (List (List ℕ))). l ++ joined c.as_slice.result.now c.as_slice-2.result.now)
    c.new-all.ensures.items
    ∙ ap (λ l. joined l c.as_slice-2.result.now) c.as_slice.ensures.items ∙ ap (joined c.args.self.now) c.as_slice-2.ensures.items))
    (merged_rises c.args.self.now c.args.others.now c.as_slice.ensures.rising c.as_slice-2.ensures.rising)
