-- The checks of rows, by what their texts spell.
use Rattle.std.proofs.Common.{◌≡◌, ℕ, zero, suc, ◌<◌, List, [], ◌∷◌, ◌++◌, length, get_or, take, map, append_assoc, sym, subst, arith, length-append}
use Rattle.std.proofs.lemmas.List.{get_or-take, get_or_append_left, get_or_default, length-take}
use Rattle.std.proofs.lemmas.List.Concat.{flat_map_single}
use Rattle.toml.specs.Data.{Members}
use Rattle.typed_settings.specs.Pattern.{Meet}
use Rattle.typed_settings.specs.Row.{SpellsRow, AreSpelled, AreApart, IsTableOf, IsFirstBad, IsLeastPair, IsLeastMeeting}
use Rattle.typed_settings.specs.declared.row.Row.{Row}
use Rattle.typed_settings.proofs.OneTable.{one_list}
use Rattle.model_file.specs.Checks.{Check, row, apart, row_path, apart_checks, row_checks, table_check, types_checks}
use Rattle.model_file.specs.Refused.{Passes, Refuses, IsAt}
use Rattle.model_file.specs.Rows.{RowTexts, row_texts}
use Rattle.model_file.specs.declared.model_error.ModelKind.TheVariants.{BadRow, RowsMeet}
use Rattle.toml_values.specs.declared.located_fault.LocatedFault.{LocatedFault}
use Rattle.model_file.specs.declared.model_error.ModelKind.{ModelKind}
use Rattle.model_file.proofs.Checking.{passes_both, refuses_before, refuses_after, refuses_first}
use Rattle.model_file.proofs.EntryChecks.{refuses_at}
use Rattle.std.specs.Prelude.{codes}

-- The check of a row.
abbrev row_check : List ℕ × List ℕ → Check
row_check t = row t (row_path t)

some_row : (rows : List Row) (index : ℕ) → index < length rows → Row
some_row [] index within = absurd (omega (arith, within))
some_row (x ∷ xs) index within = x

-- There are as many rows as texts.
pub same_length : (texts : RowTexts) (given : List Row) → AreSpelled texts given → length texts ≡ length given
same_length [] [] a = omega arith
same_length [] (x ∷ xs) a = absurd a
same_length (t ∷ ts) [] a = absurd a
same_length (t ∷ ts) (x ∷ xs) a = omega (arith, same_length ts xs a.1)

-- One row more is spelled.
spelled_push : (texts : RowTexts) (given : List Row) (t : List ℕ × List ℕ) (x : Row) → AreSpelled texts given → SpellsRow t x
    → AreSpelled (texts ++ t ∷ []) (given ++ x ∷ [])
spelled_push [] [] t x a more = (more, tt)
spelled_push [] (y ∷ ys) t x a more = absurd a
spelled_push (s ∷ ss) [] t x a more = absurd a
spelled_push (s ∷ ss) (y ∷ ys) t x a more = (a.0, spelled_push ss ys t x a.1 more)

-- The first of rows that are apart are so.
apart_first : (xs ys : List Row) → AreApart (xs ++ ys) → AreApart xs
apart_first xs ys parted i j d ordered within meet =
    parted i j d ordered (omega (arith, within, length-append xs ys))
    (subst (λ (x : Row). Meet x.pattern (get_or (xs ++ ys) j d).pattern) (sym (get_or_append_left xs ys d i (omega (arith, ordered, within))))
    (subst (λ (y : Row). Meet (get_or xs i d).pattern y.pattern) (sym (get_or_append_left xs ys d j within)) meet))

-- The checks of rows that are spelled hold.
rows_pass : (rows texts : RowTexts) (given : List Row) → AreSpelled texts given → Passes rows (map row_check texts)
rows_pass rows [] [] a = tt
rows_pass rows [] (x ∷ xs) a = absurd a
rows_pass rows (t ∷ ts) [] a = absurd a
rows_pass rows (t ∷ ts) (x ∷ xs) a = ((x, a.0), rows_pass rows ts xs a.1)

-- One row more, and one at a time.
next_apart : (front : List Row) (x : Row) (rest : List Row) → AreApart (front ++ x ∷ rest) → AreApart ((front ++ x ∷ []) ++ rest)
next_apart front x rest parted = subst AreApart (sym (append_assoc front (x ∷ []) rest)) parted

-- Where no two rows meet, those checks hold too.
apart_pass : (rows before texts : RowTexts) (front given : List Row) → AreSpelled before front → AreSpelled texts given → AreApart (front ++ given)
    → Passes rows (apart_checks before texts)
apart_pass rows before [] front given b a parted = tt
apart_pass rows before (t ∷ ts) front [] b a parted = absurd a
apart_pass rows before (t ∷ ts) front (x ∷ xs) b a parted =
    let pushed = spelled_push before front t x b a.0 in
    let next = next_apart front x xs parted in
    ((front ++ x ∷ [], pushed, apart_first (front ++ x ∷ []) xs next), apart_pass rows (before ++ t ∷ []) ts (front ++ x ∷ []) xs pushed a.1 next)

-- The first row that meets one before it is refused.
meet_refuses : (rows before texts : RowTexts) (front given : List Row) (k : ℕ) (e : LocatedFault ModelKind) → AreSpelled before front → AreSpelled texts given
    → k < length texts → AreApart (front ++ take k given) → (AreApart (front ++ take (suc k) given) → ⊥) → IsAt RowsMeet (row_path (get_or texts k ([], []))) e
    → Refuses rows (apart_checks before texts) e
meet_refuses rows before [] front given k e b a within parted meets at = absurd (omega (arith, within))
meet_refuses rows before (t ∷ ts) front [] k e b a within parted meets at = absurd a
meet_refuses rows before (t ∷ ts) front (x ∷ xs) zero e b a within parted meets at =
    let pushed = spelled_push before front t x b a.0 in
    refuses_first rows (apart (before ++ t ∷ []) (row_path t)) (apart_checks (before ++ t ∷ []) ts) e
    (λ holds. meets (subst AreApart (one_list (before ++ t ∷ []) holds.0 (front ++ x ∷ []) holds.1 pushed) holds.2)) at
meet_refuses rows before (t ∷ ts) front (x ∷ xs) (suc k) e b a within parted meets at =
    let pushed = spelled_push before front t x b a.0 in
    let next = next_apart front x (take k xs) parted in
    refuses_after rows (apart (before ++ t ∷ []) (row_path t) ∷ []) (apart_checks (before ++ t ∷ []) ts) e
    ((front ++ x ∷ [], pushed, apart_first (front ++ x ∷ []) (take k xs) next), tt)
    (meet_refuses rows (before ++ t ∷ []) ts (front ++ x ∷ []) xs k e pushed a.1 (omega (arith, within)) next
    (λ upto. meets (subst AreApart (append_assoc front (x ∷ []) (take (suc k) xs)) upto)) at)

-- Up to the second of a pair that meets, rows are not apart.
pair_meets : (given : List Row) (i j : ℕ) → IsLeastPair given i j → AreApart (take (suc j) given) → ⊥
pair_meets given i j pair parted =
    let d = some_row given j pair.within in
    let first : get_or (take (suc j) given) i d ≡ get_or given i d = get_or-take (suc j) given i d (omega (arith, pair.ordered)) in
    let second : get_or (take (suc j) given) j d ≡ get_or given j d = get_or-take (suc j) given j d (omega arith) in
    parted i j d pair.ordered (omega (arith, length-take (suc j) given, pair.within))
    (subst (λ (x : Row). Meet x.pattern (get_or (take (suc j) given) j d).pattern) (sym first)
    (subst (λ (y : Row). Meet (get_or given i d).pattern y.pattern) (sym second) (pair.meet d)))

-- All checks of the rows of a table hold.
pub table_passes : (rows texts : RowTexts) (table : List Row) → IsTableOf texts table → Passes rows (row_checks texts)
table_passes rows texts table is = passes_both rows (map row_check texts) (apart_checks [] texts) (rows_pass rows texts is.given is.spelled)
    (apart_pass rows [] texts [] is.given tt is.spelled is.apart)

-- The first row that is none is refused.
pub bad_refuses : (rows texts : RowTexts) (index : ℕ) (e : LocatedFault ModelKind) → IsFirstBad texts index
    → IsAt BadRow (row_path (get_or texts index ([], []))) e
    → Refuses rows (row_checks texts) e
bad_refuses rows texts index e bad at =
    let here = get_or texts index ([], []) in
    let front : Passes rows (map row_check (take index texts)) = rows_pass rows (take index texts) bad.before bad.spelled in
    let single = λ (t : List ℕ × List ℕ). row_check t ∷ [] in
    let one : Refuses rows (single here) e = refuses_first rows (row_check here) [] e (λ holds. bad.bad holds.0 holds.1) at in
    refuses_before rows (map row_check texts) (apart_checks [] texts) e
    (subst (λ (l : List Check). Refuses rows l e) (flat_map_single row_check texts)
    (refuses_at single rows texts index here e bad.within (get_or_default texts index ([], []) here bad.within)
    (subst (Passes rows) (sym (flat_map_single row_check (take index texts))) front) one))

-- The first row that meets another is refused, after all of these.
pub meeting_refuses : (rows texts : RowTexts) (i j : ℕ) (e : LocatedFault ModelKind) → IsLeastMeeting texts i j
    → IsAt RowsMeet (row_path (get_or texts j ([], []))) e
    → Refuses rows (row_checks texts) e
meeting_refuses rows texts i j e meeting at =
    refuses_after rows (map row_check texts) (apart_checks [] texts) e (rows_pass rows texts meeting.given meeting.spelled)
    (meet_refuses rows [] texts [] meeting.given j e tt meeting.spelled (omega (arith, same_length texts meeting.given meeting.spelled, meeting.least.within))
    meeting.least.least_second (pair_meets meeting.given i j meeting.least) at)

-- The second of a pair that meets is one of the texts.
pub meeting_within : (texts : RowTexts) (i j : ℕ) → IsLeastMeeting texts i j → j < length texts
meeting_within texts i j meeting = omega (arith, same_length texts meeting.given meeting.spelled, meeting.least.within)

-- After the check that the section is a table.
pub types_refuses : (rows : RowTexts) (document : Members) (e : LocatedFault ModelKind) → Passes rows (table_check (codes "types") document ∷ [])
    → Refuses rows (row_checks (row_texts document)) e → Refuses rows (types_checks document) e
types_refuses rows document e table refused = refuses_after rows (table_check (codes "types") document ∷ []) (row_checks (row_texts document)) e table refused
