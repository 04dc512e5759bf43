use Rattle.std.proofs.Common.{rules, ◌≡◌, sym, ◌∙◌, ap, subst, filter}
use Rattle.std.proofs.lemmas.Fn.{filter_same}
use Rattle.std.proofs.lemmas.List.Kept.{IsStrictlySortedBy-filter}
use Rattle.key_names.specs.Order.{key_cmp}
use Rattle.settings_maps.specs.KeyList.{has_key, IsRising}
use Rattle.pending_tx.proofs.forgetting.keys_among.Goals as goal

kept : (c : goal.After-retain) → c.retain.new.self.items ≡ filter (has_key c.args.keys.now) c.into_keys-among.result.items
kept c = filter_same _ _ _ (λ x b f' k. search rules) _ _ c.retain.ensures.filtered

pub of-requires : goal.of-requires
of-requires c = subst IsRising (sym (kept c)) (IsStrictlySortedBy-filter key_cmp (has_key c.args.keys.now) c.into_keys-among.result.items
    (subst IsRising (sym c.into_keys-among.ensures.items) c.into_keys-among.ensures.rising))

pub returns : goal.returns
returns c = c.of.ensures ∙ filter_same _ _ _ (λ x b f' k. search rules) _ _ c.retain.ensures.filtered
    ∙ ap (filter (has_key c.args.keys.now)) (c.into_keys-among.ensures.items ∙ c.in_ok-keys_of.ensures.keys)
