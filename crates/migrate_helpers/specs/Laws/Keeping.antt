-- What each step keeps, and why it refuses.
use Rattle.std.proofs.Common.{◌≡◌, ◌≢◌, Result, Ok, Err, refl, ap, subst}
use Rattle.std.specs.Option.{option_or}
use Rattle.std.specs.Result.{result_unwrap_or}
use Rattle.std.specs.FinMap.{entries}
use Rattle.settings_tree.specs.Laid.{KeepsPrefixRule}
use Rattle.settings_tree.specs.declared.held.Held.{Held}
use Rattle.migrate_helpers.specs.declared.map_error.MapError.{MapError}
use Rattle.migrate_helpers.specs.declared.map_error.MapError.TheVariants.{Memory}
use Rattle.migrate_helpers.specs.Conflict.{conflict}
use Rattle.migrate_helpers.specs.Kept.{Kept}
use Rattle.migrate_helpers.specs.Mapped.{after_step, first_conflict, held_edited, live_edited, strong, transactions_edited}
use Rattle.migrate_helpers.specs.Settings.{content_of}
use Rattle.migrate_helpers.specs.Step.{Step}
use Rattle.migrate_helpers.specs.Step.{Stays, Removes, RemovesBelow, Replaces, Renames, RemovesNames, ReplacesName, RemovesWeak}
use Rattle.migrate_helpers.specs.Laws.Conflicts.{free_of_conflict, removed_free}
use Rattle.migrate_helpers.specs.Laws.MappedMaps.{mapped_free}
use Rattle.migrate_helpers.specs.Laws.Refusals.{allowed, never_memory}
use Rattle.migrate_helpers.specs.Laws.Transactions.{first_none, transactions_rules}

same_Ok : (h g : Held) → ◌≡◌ {A = Result Held MapError} (Ok h) (Ok g) → h ≡ g
same_Ok h g is = ap (λ r. result_unwrap_or r h) is

-- A change of the metadata alone keeps the prefix rule.
keeps_metadata : (h g x : Held) → KeepsPrefixRule x → x.owed ≡ h.owed → x.image ≡ h.image → ◌≡◌ {A = Result Held MapError} (Ok x) (Ok g) → Kept h g
keeps_metadata h g x rule owed image made = subst (Kept h) (same_Ok x g made) (record { rule = rule; owed = owed; image = image })

-- Edited settings and pending maps keep it where there is no conflict.
keeps_edited : (step : Step) (h g : Held) → held_edited step h ≡ Ok g → Kept h g
keeps_edited step h g made =
    let whole : Held = record h { live = content_of (live_edited step h.live) h.live.metadata; pending = transactions_edited step h.pending } in
    let parts = allowed (option_or (conflict (live_edited step h.live)) (first_conflict step (entries h.pending))) whole g made in
    let none = first_none (conflict (live_edited step h.live)) (first_conflict step (entries h.pending)) parts.0 in
    subst (Kept h) parts.1 (record {
      rule = record {
        live = mapped_free (λ k x. x.value) (live_edited step h.live) (free_of_conflict (live_edited step h.live) none.0);
        pending = (transactions_rules step h.pending none.1).rule;
      };
      owed = refl;
      image = refl;
    })

-- Each step keeps the prefix rule, the owed keys and the image text.
pub keeps_step : (step : Step) (h g : Held) → KeepsPrefixRule h → after_step step h ≡ Ok g → Kept h g
keeps_step Stays h g rule made = keeps_metadata h g h rule refl refl made
keeps_step (Removes keys) h g rule made = keeps_edited (Removes keys) h g made
keeps_step (RemovesBelow prefixes) h g rule made = keeps_edited (RemovesBelow prefixes) h g made
keeps_step (Replaces key old new) h g rule made = keeps_edited (Replaces key old new) h g made
keeps_step (Renames pairs) h g rule made = keeps_edited (Renames pairs) h g made
keeps_step (RemovesNames key names) h g rule made = keeps_metadata h g _ (record { live = rule.live; pending = rule.pending }) refl refl made
keeps_step (ReplacesName key name old new) h g rule made = keeps_metadata h g _ (record { live = rule.live; pending = rule.pending }) refl refl made
keeps_step RemovesWeak h g rule made =
    keeps_metadata h g (record h { live = strong h.live }) (record { live = removed_free h.live.weak h.live.values rule.live; pending = rule.pending }) refl
    refl made

fine_step : (h : Held) (e : MapError) → ◌≡◌ {A = Result Held MapError} (Ok h) (Err e) → e ≢ Memory
fine_step h e is = absurd (cc is)

-- No step refuses because it is out of memory.
pub refuses_step : (step : Step) (h : Held) (e : MapError) → after_step step h ≡ Err e → e ≢ Memory
refuses_step Stays h e is = fine_step _ e is
refuses_step (Removes keys) h e is = never_memory _ _ e is
refuses_step (RemovesBelow prefixes) h e is = never_memory _ _ e is
refuses_step (Replaces key old new) h e is = never_memory _ _ e is
refuses_step (Renames pairs) h e is = never_memory _ _ e is
refuses_step (RemovesNames key names) h e is = fine_step _ e is
refuses_step (ReplacesName key name old new) h e is = fine_step _ e is
refuses_step RemovesWeak h e is = fine_step _ e is
