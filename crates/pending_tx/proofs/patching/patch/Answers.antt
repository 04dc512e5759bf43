use Rattle.std.proofs.Common.{◌∙◌}
use Rattle.pending_tx.proofs.Patches.{PatchesTo, patch_made}
use Rattle.pending_tx.proofs.patching.patch.Goals as goal

pub of-requires-clause-once : goal.of-requires-clause-once
of-requires-clause-once c = (patch_made c.args.held.now c.args.tx.now c.args.pairs.now c.in_ok-patch_entries.field-0.items c.in_ok-patch_entries.ensures).once

pub of-requires-clause-names : goal.of-requires-clause-names
of-requires-clause-names c = (patch_made c.args.held.now c.args.tx.now c.args.pairs.now c.in_ok-patch_entries.field-0.items c.in_ok-patch_entries.ensures).bare

kept : (c : goal.After-of) → PatchesTo c.args.held.now c.args.tx.now c.args.pairs.now c.of.result
kept c = patch_made c.args.held.now c.args.tx.now c.args.pairs.now c.of.result (c.of.ensures ∙ c.in_ok-patch_entries.ensures)

pub returns-clause-laid : goal.returns-clause-laid
returns-clause-laid c = (kept c).gives

pub returns-clause-rule : goal.returns-clause-rule
returns-clause-rule c = (kept c).rule

pub returns-clause-weak : goal.returns-clause-weak
returns-clause-weak c = (kept c).weak

pub returns-clause-told : goal.returns-clause-told
returns-clause-told c = (kept c).told

pub returns-clause-changes : goal.returns-clause-changes
returns-clause-changes c = (kept c).changes
