-- Answers that come unless there is a conflict.
use Rattle.std.proofs.Common.{◌≡◌, ◌≢◌, ℕ, List, Option, Some, None, Result, Ok, Err, refl, sym, ◌∙◌, ap}
use Rattle.std.specs.Option.{option_or}
use Rattle.std.specs.Result.{result_unwrap_or}
use Rattle.std.specs.FinMap.{FinMap}
use Rattle.key_names.specs.Order.{bytes_cmp, key_cmp}
use Rattle.json_trees.specs.declared.pending.Pending.{Pending}
use Rattle.json_trees.specs.declared.scalar.Scalar.{Scalar}
use Rattle.settings_tree.specs.Content.{Contents}
use Rattle.settings_tree.specs.Rule.{IsPrefixFree}
use Rattle.settings_tree.specs.declared.held.Held.{Held}
use Rattle.migrate_helpers.specs.declared.map_error.MapError.{MapError}
use Rattle.migrate_helpers.specs.declared.map_error.MapError.TheVariants.{Memory}
use Rattle.migrate_helpers.specs.declared.setting.Setting.{Setting}
use Rattle.migrate_helpers.specs.Conflict.{conflict}
use Rattle.migrate_helpers.specs.Mapped.{unless_conflict}
use Rattle.migrate_helpers.specs.Settings.{content_of}
use Rattle.migrate_helpers.specs.Laws.Conflicts.{free_of_conflict}

-- An answer that came had no conflict.
pub allowed : {X : Type 0} (c : Option (List (List ℕ))) (x y : X) → unless_conflict c x ≡ Ok y → (c ≡ None) × (x ≡ y)
allowed None x y is = (refl, ap (λ r. result_unwrap_or r x) is)
allowed (Some k) x y is = absurd (cc is)

abbrev error_or : {X : Type 0} → Result X MapError → MapError → MapError
error_or (Ok x) d = d
error_or (Err e) d = e

-- A conflict refuses any answer.
pub refused : {X Y : Type 0} (c : Option (List (List ℕ))) (x : X) (y : Y) (e : MapError) → unless_conflict c x ≡ Err e → unless_conflict c y ≡ Err e
refused None x y e is = absurd (cc is)
refused (Some k) x y e is = ap Err (ap (λ r. error_or r e) is)

-- So does the first of two conflicts.
pub refused_first : {X Y : Type 0} (a b : Option (List (List ℕ))) (x : X) (y : Y) (e : MapError) → unless_conflict a x ≡ Err e
    → unless_conflict (option_or a b) y ≡ Err e
refused_first None b x y e is = absurd (cc is)
refused_first (Some k) b x y e is = refused (Some k) x y e is

-- And the second where the first is none.
pub refused_second : {X Y Z : Type 0} (a b : Option (List (List ℕ))) (x z : X) (y : Y) (w : Z) (e : MapError) → unless_conflict a x ≡ Ok z
    → unless_conflict b y ≡ Err e → unless_conflict (option_or a b) w ≡ Err e
refused_second None b x z y w e fine is = refused b y w e is
refused_second (Some k) b x z y w e fine is = absurd (cc fine)

-- A refusal is never `Memory`.
pub never_memory : {X : Type 0} (c : Option (List (List ℕ))) (x : X) (e : MapError) → unless_conflict c x ≡ Err e → e ≢ Memory
never_memory None x e is memory = absurd (cc is)
never_memory (Some k) x e is memory = absurd (cc (is, memory))

-- What came without a conflict keeps the prefix rule.
pub free_allowed : {X : Type 0} (whole made : FinMap key_cmp X) → unless_conflict (conflict whole) whole ≡ Ok made → IsPrefixFree made
free_allowed whole made fine = let parts = allowed (conflict whole) whole made fine in free_of_conflict made (ap conflict (sym parts.1) ∙ parts.0)

-- Settings that are allowed are allowed as a content.
pub live_allowed : (whole s : FinMap key_cmp Setting) (metadata : FinMap key_cmp (FinMap bytes_cmp Scalar)) (live : Contents)
    → unless_conflict (conflict whole) whole ≡ Ok s → live ≡ content_of s metadata → unless_conflict (conflict whole) (content_of whole metadata) ≡ Ok live
live_allowed whole s metadata live fine is =
    let parts = allowed (conflict whole) whole s fine in
    ap (λ c. unless_conflict c (content_of whole metadata)) parts.0 ∙ ap Ok (ap (λ (w : FinMap key_cmp Setting). content_of w metadata) parts.1 ∙ sym is)

-- A live content and pending maps that are allowed are allowed together.
pub held_allowed : (h : Held) (a b : Option (List (List ℕ))) (x live : Contents) (y pending : FinMap bytes_cmp (FinMap key_cmp Pending)) (made : Held)
    → unless_conflict a x ≡ Ok live → unless_conflict b y ≡ Ok pending
    → made ≡ record h { live = live; pending = pending } → unless_conflict (option_or a b) (record h { live = x; pending = y }) ≡ Ok made
held_allowed h a b x live y pending made first second is =
    let one = allowed a x live first in
    let two = allowed b y pending second in
    ap (λ c. unless_conflict (option_or c b) (record h { live = x; pending = y })) one.0 ∙ ap (λ c. unless_conflict c (record h { live = x; pending = y }))
    two.0
    ∙ ap Ok (ap (λ (l : Contents). record h { live = l; pending = y }) one.1
    ∙ ap (λ (p : FinMap bytes_cmp (FinMap key_cmp Pending)). record h { live = live; pending = p }) two.1 ∙ sym is)

pub ruleset refusals = (refused, refused_first, refused_second, live_allowed, held_allowed)
