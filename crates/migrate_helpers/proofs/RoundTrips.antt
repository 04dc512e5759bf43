-- A migration forward and then back.
use Rattle.std.proofs.Common.{◌≡◌, ◌&&◌, ◌||◌, ℕ, List, [], ◌∷◌, Option, Some, None, Ok, Bool}
use Rattle.std.proofs.Common.{true, false, cond, map, option_map, unwrap_or, IsTrue, refl, sym, ◌∙◌, ap, subst}
use Rattle.std.specs.List.{AllByRecursion, IsDistinct, list_any}
use Rattle.std.specs.Option.{option_map_or, option_or}
use Rattle.std.specs.Ordering.{eq_by_cmp, is_eq}
use Rattle.std.specs.Cmp.{eq_by_cmp_equiv}
use Rattle.std.specs.FinMap.{FinMap, empty, entries, find, get, get-empty, get-entries, get-insert, get-remove, insert, is_sorted, remove}
use Rattle.std.specs.FinMap.Entries.{below_all}
use Rattle.std.proofs.lemmas.Bool.{and_parts, cond-true, or_left, or_right}
use Rattle.std.proofs.lemmas.Cmp.{tied_itself}
use Rattle.std.proofs.lemmas.List.{reverse-append}
use Rattle.std.proofs.lemmas.List.Sums.{fold-append}
use Rattle.std.proofs.lemmas.Map.Keys.{IsDistinct-head, IsDistinct-tail}
use Rattle.key_names.specs.Order.{bytes_cmp, bytes_total, bytes_cmp-IsAntisymmetric, key_cmp, key_total, key_cmp-IsAntisymmetric}
use Rattle.key_names.specs.Key.{is_prefix}
use Rattle.json_trees.specs.declared.pending.Pending.{Pending}
use Rattle.json_trees.specs.declared.pending.Pending.TheVariants as pending
use Rattle.json_trees.specs.declared.scalar.Scalar.{Scalar}
use Rattle.json_trees.specs.declared.scalar.Scalar.TheVariants as scalar
use Rattle.settings_maps.specs.KeyList.{IsRising}
use Rattle.settings_maps.specs.Maps.{inner, with_inner}
use Rattle.settings_maps.proofs.NestedMaps.{get-insert_same, inner-with_inner, insert-insert, insert-present}
use Rattle.settings_maps.proofs.NestedMaps.{remove-absent, remove-insert, same_nested, tied_by}
use Rattle.settings_tree.specs.Content.{Contents, IsContent, settings_key}
use Rattle.settings_tree.specs.Pending.{IsPending}
use Rattle.settings_tree.specs.declared.held.Held.{Held}
use Rattle.migrate_helpers.specs.declared.setting.Setting.{Setting}
use Rattle.migrate_helpers.specs.Conflict.{conflict}
use Rattle.migrate_helpers.specs.Entries.{changed, edited, moved, renamed}
use Rattle.migrate_helpers.specs.Mapped.{after_step, first_conflict, held_edited, live_edited, pending_edited, transactions_edited, unless_conflict}
use Rattle.migrate_helpers.specs.RoundTrips.{seconds, IsSecond, AreNew, HasNoText}
use Rattle.migrate_helpers.specs.Settings.{IsWeakRightly, content_of, pending_at, pending_replaced}
use Rattle.migrate_helpers.specs.Settings.{setting_at, setting_of, setting_replaced, settings, text_replaced}
use Rattle.migrate_helpers.specs.Step.{Step, swapped, swapped_back}
use Rattle.migrate_helpers.specs.Step.{Replaces, Renames}
use Rattle.migrate_helpers.specs.Laws.Conflicts.{no_conflict}
use Rattle.migrate_helpers.specs.Laws.MappedMaps.{found_behind, get-mapped, in_order, mapped_free, none_below}
use Rattle.migrate_helpers.specs.Laws.Refusals.{allowed}
use Rattle.migrate_helpers.specs.Laws.Transactions.{Pendings, transactions_rules, with_edited}
use Rattle.migrate_helpers.proofs.EditSteps.{insert-remove}
use Rattle.migrate_helpers.proofs.SettingsBack.{content_settings, settings_content}
use Rattle.migrate_helpers.proofs.WeakRightly.{rightly_made, rightly_moved}
use Rattle.migrate_helpers.proofs.Weakness.{same_setting}

none_left : {X : Type 0} (b : Bool) (z : Option X) → z ≡ None → cond b None z ≡ None
none_left true z none = refl
none_left false z none = none

-- A key that ties with one of a list differs from what all of the list differ from.
apart : (k q : List (List ℕ)) (ks : List (List (List ℕ))) → AllByRecursion (λ y. eq_by_cmp key_cmp k y ≡ false) ks → list_any (eq_by_cmp key_cmp q) ks ≡ true
    → eq_by_cmp key_cmp q k ≡ false
apart k q [] others any = absurd (cc any)
apart k q (y ∷ ks) others any = by (eq_by_cmp key_cmp q y) refl any (apart k q ks others.1) where
  by : (b : Bool) → eq_by_cmp key_cmp q y ≡ b → (b || list_any (eq_by_cmp key_cmp q) ks) ≡ true
      → (list_any (eq_by_cmp key_cmp q) ks ≡ true → eq_by_cmp key_cmp q k ≡ false) → eq_by_cmp key_cmp q k ≡ false
  by true tie any rest = ap (λ (z : List (List ℕ)). eq_by_cmp key_cmp z k) (key_cmp-IsAntisymmetric q y (tied_by _ tie)) ∙ (eq_by_cmp_equiv key_total).symm y k
      ∙ others.0
  by false tie any rest = rest any

module _ {X : Type 0} where
  -- What moved back is where it was.
  moved_back : (land : List (List ℕ) → X → X) (m : FinMap key_cmp X) (k q : List (List ℕ)) → get m q ≡ None
      → ((x : X) → get m k ≡ Some x → land k (land q x) ≡ x) → moved land (moved land m (k, q)) (q, k) ≡ m
  moved_back land m k q none back = by (get m k) refl where
    by : (z : Option X) → get m k ≡ z → moved land (option_map_or (λ x. insert (remove m k) q (land q x)) z m) (q, k) ≡ m
    by None is = ap (λ z. option_map_or (λ x. insert (remove m q) k (land k x)) z m) none
    by (Some x) is =
        let n : FinMap key_cmp X = insert (remove m k) q (land q x) in
        let gone : get (remove m k) q ≡ None = get-remove key_total m k q ∙ none_left (eq_by_cmp key_cmp q k) (get m q) none in
        let left : remove n q ≡ remove m k = remove-insert key_total key_cmp-IsAntisymmetric (remove m k) q (land q x)
        ∙ remove-absent key_total key_cmp-IsAntisymmetric (remove m k) q gone in
        ap (λ z. option_map_or (λ y. insert (remove n q) k (land k y)) z n) (get-insert_same key_total (remove m k) q (land q x))
        ∙ ap (λ (w : FinMap key_cmp X). insert w k (land k (land q x))) left ∙ insert-remove m k (land k (land q x)) ∙ ap (insert m k) (back x is)
        ∙ insert-present key_total key_cmp-IsAntisymmetric m k x is

  -- A move leaves what was missing elsewhere missing.
  still_missing : (land : List (List ℕ) → X → X) (m : FinMap key_cmp X) (pair : List (List ℕ) × List (List ℕ)) (q : List (List ℕ))
      → eq_by_cmp key_cmp q pair.1 ≡ false → get m q ≡ None → get (moved land m pair) q ≡ None
  still_missing land m pair q other none = by (get m pair.0) where
    by : (z : Option X) → get (option_map_or (λ x. insert (remove m pair.0) pair.1 (land pair.1 x)) z m) q ≡ None
    by None = none
    by (Some x) = get-insert key_total (remove m pair.0) pair.1 (land pair.1 x) q ∙ ap (λ b. cond b (Some (land pair.1 x)) (get (remove m pair.0) q)) other
        ∙ get-remove key_total m pair.0 q ∙ none_left (eq_by_cmp key_cmp q pair.0) (get m q) none

  -- Pairs that moved forward and back leave a lawful map as it was.
  renamed_back : (land : List (List ℕ) → X → X) (Lawful : FinMap key_cmp X → Type 0) (Good : List (List ℕ) → Type 0)
      → ((m : FinMap key_cmp X) (pair : List (List ℕ) × List (List ℕ)) → Lawful m → Lawful (moved land m pair))
      → ((m : FinMap key_cmp X) (k q : List (List ℕ)) (x : X) → Lawful m → Good q → get m k ≡ Some x → land k (land q x) ≡ x)
      → (pairs : List (List (List ℕ) × List (List ℕ))) (m : FinMap key_cmp X) → IsDistinct (eq_by_cmp key_cmp) (seconds pairs)
      → ((q : List (List ℕ)) → IsSecond pairs q → get m q ≡ None) → ((q : List (List ℕ)) → IsSecond pairs q → Good q)
      → Lawful m → renamed land (renamed land m pairs) (swapped_back pairs) ≡ m
  renamed_back land Lawful Good step back [] m distinct missing good lawful = refl
  renamed_back land Lawful Good step back (pair ∷ pairs) m distinct missing good lawful =
      let n : FinMap key_cmp X = moved land m pair in
      let here : IsSecond (pair ∷ pairs) pair.1 = or_left _ (list_any (eq_by_cmp key_cmp pair.1) (seconds pairs)) ((eq_by_cmp_equiv key_total).refl pair.1) in
      ap (renamed land (renamed land n pairs)) (reverse-append (swapped pair ∷ []) (map swapped pairs))
      ∙ fold-append (moved land) (renamed land n pairs) (swapped_back pairs) (swapped pair ∷ [])
      ∙ ap (λ (w : FinMap key_cmp X). moved land w (swapped pair)) (renamed_back land Lawful Good step back pairs n
      (IsDistinct-tail (eq_by_cmp key_cmp) pair.1 (seconds pairs) distinct)
      (λ q second. still_missing land m pair q (apart pair.1 q (seconds pairs) (IsDistinct-head (eq_by_cmp key_cmp) pair.1 (seconds pairs) distinct) second)
      (missing q (or_right (eq_by_cmp key_cmp q pair.1) _ second)))
      (λ q second. good q (or_right (eq_by_cmp key_cmp q pair.1) _ second)) (step m pair lawful))
      ∙ moved_back land m pair.0 pair.1 (missing pair.1 here) (λ x has. back m pair.0 pair.1 x lawful (good pair.1 here) has)

  -- What was changed and changed back is as it was.
  changed_back : (f g : X → X) (m : FinMap key_cmp X) (k : List (List ℕ)) → ((x : X) → get m k ≡ Some x → g (f x) ≡ x) → changed g (changed f m k) k ≡ m
  changed_back f g m k back = by (get m k) refl where
    by : (z : Option X) → get m k ≡ z → changed g (option_map_or (λ x. insert m k (f x)) z m) k ≡ m
    by None is = ap (λ z. option_map_or (λ x. insert m k (g x)) z m) is
    by (Some x) is =
        ap (λ z. option_map_or (λ y. insert (insert m k (f x)) k (g y)) z (insert m k (f x))) (get-insert_same key_total m k (f x))
        ∙ insert-insert key_total key_cmp-IsAntisymmetric m k (f x) (g (f x)) ∙ ap (insert m k) (back x is)
        ∙ insert-present key_total key_cmp-IsAntisymmetric m k x is

  moved_empty : (land : List (List ℕ) → X → X) (pairs : List (List (List ℕ) × List (List ℕ))) (m : FinMap key_cmp X) → m ≡ empty → renamed land m pairs ≡ empty
  moved_empty land [] m none = none
  moved_empty land (pair ∷ pairs) m none = moved_empty land pairs (moved land m pair)
      (ap (λ z. option_map_or (λ x. insert (remove m pair.0) pair.1 (land pair.1 x)) z m)
      (ap (λ (w : FinMap key_cmp X). get w pair.0) none ∙ get-empty key_cmp pair.0) ∙ none)

  changed_empty : (f : X → X) (k : List (List ℕ)) → changed f empty k ≡ empty
  changed_empty f k = ap (λ z. option_map_or (λ x. insert empty k (f x)) z empty) (get-empty key_cmp k)

and_back : (w a b : Bool) → (w ≡ true → b ≡ true) → a ≡ true → ((w && a) && b) ≡ w
and_back true a b then is = ap (λ c. c && b) is ∙ then refl
and_back false a b then is = refl

-- The map of a transaction after a step.
inner_edited : (step : Step) (es : List (List ℕ × FinMap key_cmp Pending)) (m : Pendings) (tx : List ℕ) → is_sorted bytes_cmp es ≡ true
    → inner (with_edited step m es) tx ≡ option_map_or (pending_edited step) (find bytes_cmp tx es) (inner m tx)
inner_edited step [] m tx order = refl
inner_edited step (e ∷ es) m tx order = inner_edited step es (with_inner m e.0 (pending_edited step e.1)) tx sorted.1
    ∙ ap (option_map_or (pending_edited step) (find bytes_cmp tx es)) (inner-with_inner bytes_total m e.0 tx (pending_edited step e.1))
    ∙ by (eq_by_cmp bytes_cmp tx e.0) refl
  where
    sorted : (below_all bytes_cmp e.0 es ≡ true) × (is_sorted bytes_cmp es ≡ true)
    sorted = and_parts (below_all bytes_cmp e.0 es) (is_sorted bytes_cmp es) order

    by : (b : Bool) → eq_by_cmp bytes_cmp tx e.0 ≡ b → option_map_or (pending_edited step) (find bytes_cmp tx es)
        (cond b (pending_edited step e.1) (inner m tx)) ≡ option_map_or (pending_edited step) (cond b (Some e.1) (find bytes_cmp tx es)) (inner m tx)
    by true tie = ap (λ z. option_map_or (pending_edited step) z (pending_edited step e.1))
        (ap (λ (k : List ℕ). find bytes_cmp k es) (bytes_cmp-IsAntisymmetric tx e.0 (tied_by _ tie)) ∙ none_below bytes_cmp es e.0 sorted.0)
    by false tie = refl

-- No transactions.
abbrev none_waiting : Pendings
none_waiting = empty

inner_of : (step : Step) (p : Pendings) (tx : List ℕ) → pending_edited step empty ≡ empty → inner (transactions_edited step p) tx ≡ pending_edited step
    (inner p tx)
inner_of step p tx stays = inner_edited step (entries p) none_waiting tx (in_order p) ∙ ap (λ z. option_map_or (pending_edited step) z (inner none_waiting tx))
    (sym (get-entries p tx)) ∙ by (get p tx) refl where
      by : (z : Option (FinMap key_cmp Pending)) → get p tx ≡ z → option_map_or (pending_edited step) z (inner none_waiting tx) ≡ pending_edited step
          (inner p tx)
      by None is = ap (λ (o : Option (FinMap key_cmp Pending)). unwrap_or o empty) (get-empty bytes_cmp tx) ∙ sym stays
          ∙ sym (ap (λ (o : Option (FinMap key_cmp Pending)). pending_edited step (unwrap_or o empty)) is)
      by (Some i) is = sym (ap (λ (o : Option (FinMap key_cmp Pending)). pending_edited step (unwrap_or o empty)) is)

-- No transaction has a conflict where no map has one.
no_conflicts : (step : Step) (es : List (List ℕ × FinMap key_cmp Pending)) → is_sorted bytes_cmp es ≡ true
    → ((tx : List ℕ) (i : FinMap key_cmp Pending) → find bytes_cmp tx es ≡ Some i → conflict (pending_edited step i) ≡ None) → first_conflict step es ≡ None
no_conflicts step [] order none = refl
no_conflicts step (e ∷ es) order none =
    let sorted = and_parts (below_all bytes_cmp e.0 es) (is_sorted bytes_cmp es) order in
    ap (λ c. option_or c (first_conflict step es)) (none e.0 e.1 (cond-true _ (Some e.1) (find bytes_cmp e.0 es) (ap is_eq (tied_itself bytes_total e.0))))
    ∙ no_conflicts step es sorted.1 (λ tx i has. none tx i (found_behind bytes_cmp-IsAntisymmetric e es tx i sorted.0 has))

-- A step that another takes back, on the live settings and on each pending map.
module _ (s t : Step) (h : Held) (content : IsContent h.live) (waiting : IsPending h.pending) (rises : IsRising h.live.weak)
    (live_back : edited setting_at setting_replaced t (live_edited s h.live) ≡ settings h.live)
    (pending_back : (tx : List ℕ) → pending_edited t (pending_edited s (inner h.pending tx)) ≡ inner h.pending tx) (stays : pending_edited s empty ≡ empty)
    (stays_back : pending_edited t empty ≡ empty) where
  abbrev left : Pendings
  left = transactions_edited s h.pending

  inner_back : (tx : List ℕ) → pending_edited t (inner left tx) ≡ inner h.pending tx
  inner_back tx = ap (pending_edited t) (inner_of s h.pending tx stays) ∙ pending_back tx

  fine : first_conflict t (entries left) ≡ None
  fine = no_conflicts t (entries left) (in_order left) (λ tx i has.
      let at : inner left tx ≡ i = ap (λ (o : Option (FinMap key_cmp Pending)). unwrap_or o empty) (get-entries left tx ∙ has) in
      ap conflict (ap (pending_edited t) (sym at) ∙ inner_back tx) ∙ no_conflict (inner h.pending tx) (waiting.rule tx))

  transactions_back : transactions_edited t left ≡ h.pending
  transactions_back =
      let rules : IsPending (transactions_edited t left) = transactions_rules t left fine in
      same_nested bytes_total bytes_cmp-IsAntisymmetric key_total key_cmp-IsAntisymmetric (transactions_edited t left) h.pending rules.full waiting.full
      (λ tx k. ap (λ (i : FinMap key_cmp Pending). get i k) (inner_of t left tx stays_back ∙ inner_back tx))

  settings_back : live_edited t (content_of (live_edited s h.live) h.live.metadata) ≡ settings h.live
  settings_back = ap (edited setting_at setting_replaced t) (settings_content (live_edited s h.live) h.live.metadata) ∙ live_back

  live_fine : conflict (live_edited t (content_of (live_edited s h.live) h.live.metadata)) ≡ None
  live_fine = ap conflict settings_back ∙ no_conflict (settings h.live) (mapped_free (setting_of h.live.weak) h.live.values content.rule)

  content_back : content_of (live_edited t (content_of (live_edited s h.live) h.live.metadata)) h.live.metadata ≡ h.live
  content_back = ap (λ (x : FinMap key_cmp Setting). content_of x h.live.metadata) settings_back ∙ content_settings h.live content.weak rises

  whole_back : held_edited t (record h { live = content_of (live_edited s h.live) h.live.metadata; pending = transactions_edited s h.pending }) ≡ Ok h
  whole_back =
      let whole : Held = record h {
        live = content_of (live_edited t (content_of (live_edited s h.live) h.live.metadata)) h.live.metadata;
        pending =
            transactions_edited t left;
      } in
      ap (λ c. unless_conflict (option_or c (first_conflict t (entries left))) whole) live_fine ∙ ap (λ c. unless_conflict c whole) fine
      ∙ ap Ok (ap (λ (l : Contents). record h { live = l; pending = transactions_edited t left }) content_back
      ∙ ap (λ (p : Pendings). record h { live = h.live; pending = p }) transactions_back)

  back_again : (g : Held) → held_edited s h ≡ Ok g → held_edited t g ≡ Ok h
  back_again g is = subst (λ (x : Held). held_edited t x ≡ Ok h) ((allowed _ _ g is).1) whole_back

-- A rename that is not refused, to such keys, is taken back whole by the way back.
pub rename_back : (pairs : List (List (List ℕ) × List (List ℕ))) (h g : Held) → IsContent h.live → IsPending h.pending → IsRising h.live.weak → AreNew pairs h
    → after_step (Renames pairs) h ≡ Ok g → after_step (Renames (swapped_back pairs)) g ≡ Ok h
rename_back pairs h g content waiting rises new is = back_again (Renames pairs) (Renames (swapped_back pairs)) h content waiting rises
    (renamed_back setting_at IsWeakRightly (λ q. IsTrue (is_prefix settings_key q)) rightly_moved
    (λ m k q x rightly begins has. same_setting x.value x.value _ x.weak refl
    (and_back x.weak (is_prefix settings_key q) (is_prefix settings_key k) (λ weak. rightly.begins k x has weak) begins))
    pairs (settings h.live) new.distinct
    (λ q second. get-mapped key_total key_cmp-IsAntisymmetric (setting_of h.live.weak) h.live.values q
    ∙ ap (option_map (setting_of h.live.weak q)) (new.live q second)) new.begin (rightly_made h.live (settings h.live) content refl))
    (λ tx. renamed_back pending_at (λ m. Unit {0}) (λ q. Unit {0}) (λ m pair lawful. tt) (λ m k q x lawful good has. refl) pairs (inner h.pending tx)
    new.distinct (λ q second. new.pending tx q second) (λ q second. tt) tt)
    (moved_empty pending_at pairs empty refl) (moved_empty pending_at (swapped_back pairs) empty refl) g is

text_back : (old new : List ℕ) (v : Scalar) → (v ≡ scalar.Text new → ⊥) → text_replaced new old (text_replaced old new v) ≡ v
text_back old new (scalar.Bool b) other = refl
text_back old new (scalar.Int n) other = refl
text_back old new (scalar.List items) other = refl
text_back old new (scalar.Text t) other = by (eq_by_cmp bytes_cmp t old) refl where
  at : (b : Bool) → eq_by_cmp bytes_cmp t new ≡ b → cond b (scalar.Text old) (scalar.Text t) ≡ scalar.Text t
  at true tie = absurd (other (ap scalar.Text (bytes_cmp-IsAntisymmetric t new (tied_by _ tie))))
  at false tie = refl

  by : (b : Bool) → eq_by_cmp bytes_cmp t old ≡ b → text_replaced new old (cond b (scalar.Text new) (scalar.Text t)) ≡ scalar.Text t
  by true tie = ap (λ b. cond b (scalar.Text old) (scalar.Text new)) ((eq_by_cmp_equiv bytes_total).refl new)
      ∙ ap scalar.Text (sym (bytes_cmp-IsAntisymmetric t old (tied_by _ tie)))
  by false tie = at (eq_by_cmp bytes_cmp t new) refl

pending_text_back : (old new : List ℕ) (p : Pending) → (p ≡ pending.Put (scalar.Text new) → ⊥) → pending_replaced new old (pending_replaced old new p) ≡ p
pending_text_back old new (pending.Put v) other = ap pending.Put (text_back old new v (λ is. other (ap pending.Put is)))
pending_text_back old new pending.Gone other = refl

value_there : (ws : List (List (List ℕ))) (k : List (List ℕ)) (z : Option Scalar) (x : Setting) → option_map (setting_of ws k) z ≡ Some x → z ≡ Some x.value
value_there ws k None x is = absurd (cc is)
value_there ws k (Some v) x is = ap (option_map (λ (s : Setting). s.value)) is

-- A replaced string, where no map held the new one at the key, is taken back whole by the way back.
pub replace_back : (k : List (List ℕ)) (old new : List ℕ) (h g : Held) → IsContent h.live → IsPending h.pending → IsRising h.live.weak → HasNoText k new h
    → after_step (Replaces k old new) h ≡ Ok g → after_step (Replaces k new old) g ≡ Ok h
replace_back k old new h g content waiting rises none is = back_again (Replaces k old new) (Replaces k new old) h content waiting rises
    (changed_back (setting_replaced old new) (setting_replaced new old) (settings h.live) k (λ x has.
    same_setting _ x.value x.weak x.weak (text_back old new x.value (λ at. none.live
    (value_there h.live.weak k (get h.live.values k) x (sym (get-mapped key_total key_cmp-IsAntisymmetric (setting_of h.live.weak) h.live.values k) ∙ has)
    ∙ ap Some at))) refl))
    (λ tx. changed_back (pending_replaced old new) (pending_replaced new old) (inner h.pending tx) k
    (λ p has. pending_text_back old new p (λ at. none.pending tx (has ∙ ap Some at))))
    (changed_empty (pending_replaced old new) k) (changed_empty (pending_replaced new old) k) g is
