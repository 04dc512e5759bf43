-- A journal is read in one way.
use Rattle.std.proofs.Common.{◌≡◌, true, false, ◌&&◌, nat_lt, ℕ, ◌+◌, ◌-◌, ◌<◌, ◌≤◌, ◌^◌, List, [], ◌∷◌, ◌++◌}
use Rattle.std.proofs.Common.{length, length-append, get_or, take, drop, take-append-drop, append_assoc, codes, Some, None, refl, sym, ◌∙◌, ap, arith}
use Rattle.std.proofs.lemmas.Bool.{false≢true, and_parts, and_from}
use Rattle.std.proofs.lemmas.Bool.Decides.{nat_tests}
use Rattle.std.proofs.Math.Bool.{and-false}
use Rattle.std.proofs.lemmas.List.{append_cancel_left, append-nil, take_more}
use Rattle.std.proofs.lemmas.List.Folds.{list_all-append}
use Rattle.std.proofs.lemmas.Slice.Eq.{bytes_eq-Decides}
use Rattle.std.specs.Fmt.{decimal}
use Rattle.std.specs.List.{list_all}
use Rattle.std.specs.Ordering.{is_lt}
use Rattle.std.specs.Str.{bytes_eq}
use Rattle.outside.specs.Names.{Names, path_cmp}
use Rattle.outside.specs.PathText.{joined}
use Rattle.commit_journal.specs.Entries.{Entry, is_entry, is_entry_path, fits_memory, are_rising}
use Rattle.commit_journal.specs.Journal.{entry_text, end_text, journal_text, IsJournal}
use Rattle.commit_journal.specs.Parts.{IsPathText, IsRemoval, IsWriting, HasEntry, HasNoEntry, ReadsOne, AreRead, texts_of}
use Rattle.commit_journal.proofs.Cutting.{split_one, head_same}
use Rattle.commit_journal.proofs.Texts.{valid_parts, all_entries, fits_below_limit, removed_text, written_text, entry_path_lacks, one_entry, not_end}

-- ---- an entry and its lines

-- an entry without bytes is a removal
entry_removal : (text : List ℕ) (path : Names) (rest : List ℕ) → HasEntry text (path, None) rest → IsRemoval text (joined path) rest
entry_removal text path rest has = record {
  text_is = has.text_is ∙ removed_text path rest;
  lacks = (entry_path_lacks path (and_parts (is_entry_path path) true has.valid).0).0;
}

-- an entry with bytes sets a file
entry_writing : (text : List ℕ) (path : Names) (bytes rest : List ℕ) → HasEntry text (path, Some bytes) rest → IsWriting text (joined path) bytes rest
entry_writing text path bytes rest has = let parts = and_parts (is_entry_path path) (fits_memory (Some bytes)) has.valid in record {
  text_is = has.text_is ∙ written_text path bytes rest;
  fits = fits_below_limit bytes parts.1;
  lacks = (entry_path_lacks path parts.0).1;
}

-- no text begins with both
clash : (text path rest name bytes after : List ℕ) → IsRemoval text path rest → IsWriting text name bytes after → ⊥
clash text path rest name bytes after removal writing = absurd (omega (arith, head_same 114 115 _ _ (sym removal.text_is ∙ writing.text_is)))

-- a text with neither begins with no entry
pub no_lines : (text : List ℕ) → ((path rest : List ℕ) → IsRemoval text path rest → ⊥) → ((path bytes rest : List ℕ) → IsWriting text path bytes rest → ⊥)
    → HasNoEntry text
no_lines text removal writing (path, None) rest has = removal (joined path) rest (entry_removal text path rest has)
no_lines text removal writing (path, Some bytes) rest has = writing (joined path) bytes rest (entry_writing text path bytes rest has)

-- nor does a removal of what is no path
pub removal_no_path : (text name after : List ℕ) → IsRemoval text name after → ((path : Names) → IsPathText path name → ⊥) → HasNoEntry text
removal_no_path text name after is none (path, None) rest has =
    let other = entry_removal text path rest has in
    let cut = split_one 10 name (joined path) after rest is.lacks other.lacks (append_cancel_left (codes "remove ") _ _ (sym is.text_is ∙ other.text_is)) in
    none path (record { valid = (and_parts (is_entry_path path) true has.valid).0; text_is = cut.0 })
removal_no_path text name after is none (path, Some bytes) rest has = clash text name after (joined path) bytes rest is (entry_writing text path bytes rest has)

-- nor do the lines that set what is no path
pub writing_no_path : (text name bytes after : List ℕ) → IsWriting text name bytes after → ((path : Names) → IsPathText path name → ⊥) → HasNoEntry text
writing_no_path text name bytes after is none (path, None) rest has = clash text (joined path) rest name bytes after (entry_removal text path rest has) is
writing_no_path text name bytes after is none (path, Some found) rest has =
    let other = entry_writing text path found rest has in
    let cut = split_one 32 name (joined path) _ _ is.lacks other.lacks (append_cancel_left (codes "set ") _ _ (sym is.text_is ∙ other.text_is)) in
    none path (record { valid = (and_parts (is_entry_path path) (fits_memory (Some found)) has.valid).0; text_is = cut.0 })

-- a removal is read
pub removal_read : (text name rest : List ℕ) (path : Names) (old new : List Entry) → IsRemoval text name rest → IsPathText path name
    → new ≡ old ++ (path, None) ∷ [] → ReadsOne text old new rest
removal_read text name rest path old new is spelled pushed = record {
  entry = (path, None);
  read = record {
    valid = and_from (is_entry_path path) true spelled.valid refl;
    text_is = is.text_is ∙ ap (λ (l : List ℕ). codes "remove " ++ (l ++ 10 ∷ rest)) spelled.text_is ∙ sym (removed_text path rest);
  };
  new_is = pushed;
}

-- the lines that set a file are read
pub writing_read : (text name bytes copy rest : List ℕ) (path : Names) (old new : List Entry) → IsWriting text name bytes rest → IsPathText path name
    → copy ≡ bytes → new ≡ old ++ (path, Some copy) ∷ [] → ReadsOne text old new rest
writing_read text name bytes copy rest path old new is spelled same pushed = record {
  entry = (path, Some bytes);
  read = record {
    valid = and_from (is_entry_path path) (fits_memory (Some bytes)) spelled.valid (small (length bytes) is.fits);
    text_is = is.text_is ∙ ap (λ (l : List ℕ). codes "set " ++ (l ++ 32 ∷ (decimal (length bytes) ++ 10 ∷ (bytes ++ 10 ∷ rest)))) spelled.text_is
        ∙ sym (written_text path bytes rest);
  };
  new_is = pushed ∙ ap (λ (l : List ℕ). old ++ (path, Some l) ∷ []) same;
}
  where
    small : (n : ℕ) → n < 2 ^ 64 → nat_lt n (2 ^ 64) ≡ true
    small n is = grind (arith, nat_tests)

pub ruleset ones = (no_lines, removal_no_path, writing_no_path, removal_read)

-- ---- the order of the entries

-- one more path after the last
rising_more : (entries : List Entry) (last more : Entry) → are_rising (entries ++ last ∷ []) ≡ true → is_lt (path_cmp last.0 more.0) ≡ true
    → are_rising (entries ++ last ∷ more ∷ []) ≡ true
rising_more [] last more rising here = and_from (is_lt (path_cmp last.0 more.0)) true here refl
rising_more (x ∷ []) last more rising here =
    let parts = and_parts (is_lt (path_cmp x.0 last.0)) true rising in
    and_from (is_lt (path_cmp x.0 last.0)) _ parts.0 (and_from (is_lt (path_cmp last.0 more.0)) true here refl)
rising_more (x ∷ y ∷ entries) last more rising here =
    let parts = and_parts (is_lt (path_cmp x.0 y.0)) (are_rising (y ∷ entries ++ last ∷ [])) rising in
    and_from (is_lt (path_cmp x.0 y.0)) (are_rising (y ∷ entries ++ last ∷ more ∷ [])) parts.0 (rising_more (y ∷ entries) last more parts.1 here)

-- two paths side by side that do not rise
falls_at : (first : List Entry) (one other : Entry) (rest : List Entry) → is_lt (path_cmp one.0 other.0) ≡ false
    → are_rising (first ++ one ∷ other ∷ rest) ≡ false
falls_at [] one other rest falls = ap (λ b. b && are_rising (other ∷ rest)) falls
falls_at (x ∷ []) one other rest falls = ap (λ b. is_lt (path_cmp x.0 one.0) && b) (falls_at [] one other rest falls) ∙ and-false (is_lt (path_cmp x.0 one.0))
falls_at (x ∷ y ∷ first) one other rest falls = ap (λ b. is_lt (path_cmp x.0 y.0) && b) (falls_at (y ∷ first) one other rest falls)
    ∙ and-false (is_lt (path_cmp x.0 y.0))

-- the entries up to a place and the next one
two_more : (entries : List Entry) (j : ℕ) (one other : Entry) → j + 1 < length entries → one ≡ get_or entries j one → other ≡ get_or entries (j + 1) other
    → take (j + 1 + 1) entries ≡ take j entries ++ one ∷ other ∷ []
two_more entries j one other below one_is other_is =
    take_more entries (j + 1) other below
    ∙ ap (λ (x : Entry). take (j + 1) entries ++ x ∷ []) (sym other_is)
    ∙ ap (λ (l : List Entry). l ++ other ∷ []) (take_more entries j one (omega arith) ∙ ap (λ (x : Entry). take j entries ++ x ∷ []) (sym one_is))
    ∙ append_assoc (take j entries) (one ∷ []) (other ∷ [])

-- the place before another
place_before : (i : ℕ) → 1 ≤ i → i ≡ (i - 1) + 1
place_before i some = omega arith

-- the paths rise up to one more
pub rising_step : (entries : List Entry) (i : ℕ) (one other : Entry) → 1 ≤ i → i < length entries → one ≡ get_or entries (i - 1) one
    → other ≡ get_or entries i other → is_lt (path_cmp one.0 other.0) ≡ true → are_rising (take i entries) ≡ true → are_rising (take (i + 1) entries) ≡ true
rising_step entries i one other some below one_is other_is rises rising = at (i - 1) (place_before i some)
  where
    at : (j : ℕ) → i ≡ j + 1 → are_rising (take (i + 1) entries) ≡ true
    at j place =
        let one_at : one ≡ get_or entries j one = one_is ∙ ap (λ (k : ℕ). get_or entries k one) (omega (arith, place)) in
        let other_at : other ≡ get_or entries (j + 1) other = other_is ∙ ap (λ (k : ℕ). get_or entries k other) place in
        let so_far : are_rising (take j entries ++ one ∷ []) ≡ true = ap are_rising
        (ap (λ (x : Entry). take j entries ++ x ∷ []) one_at ∙ sym (take_more entries j one (omega (arith, place, below)))
        ∙ ap (λ (k : ℕ). take k entries) (sym place)) ∙ rising in
        ap are_rising (ap (λ (k : ℕ). take (k + 1) entries) place ∙ two_more entries j one other (omega (arith, place, below)) one_at other_at)
        ∙ rising_more (take j entries) one other so_far rises

-- the paths do not rise
pub falls_step : (entries : List Entry) (i : ℕ) (one other : Entry) → 1 ≤ i → i < length entries → one ≡ get_or entries (i - 1) one
    → other ≡ get_or entries i other → is_lt (path_cmp one.0 other.0) ≡ false → false ≡ are_rising entries
falls_step entries i one other some below one_is other_is falls = sym (at (i - 1) (place_before i some))
  where
    at : (j : ℕ) → i ≡ j + 1 → are_rising entries ≡ false
    at j place =
        let one_at : one ≡ get_or entries j one = one_is ∙ ap (λ (k : ℕ). get_or entries k one) (omega (arith, place)) in
        let other_at : other ≡ get_or entries (j + 1) other = other_is ∙ ap (λ (k : ℕ). get_or entries k other) place in
        let rest = drop (j + 1 + 1) entries in
        ap are_rising (sym (take-append-drop (j + 1 + 1) entries) ∙ ap (λ (l : List Entry). l ++ rest)
        (two_more entries j one other (omega (arith, place, below)) one_at other_at) ∙ append_assoc (take j entries) (one ∷ other ∷ []) rest)
        ∙ falls_at (take j entries) one other rest falls

-- ---- all entries

-- one more text after the others
texts_more : (entries : List Entry) (entry : Entry) (rest : List ℕ) → texts_of (entries ++ entry ∷ []) ++ rest ≡ texts_of entries ++ (entry_text entry ++ rest)
texts_more [] entry rest = append_assoc (entry_text entry) [] rest
texts_more (x ∷ entries) entry rest = append_assoc (entry_text x) (texts_of (entries ++ entry ∷ [])) rest
    ∙ ap (λ (l : List ℕ). entry_text x ++ l) (texts_more entries entry rest) ∙ sym (append_assoc (entry_text x) (texts_of entries) (entry_text entry ++ rest))

-- at first nothing is read
pub read_start : (text : List ℕ) (entries : List Entry) → entries ≡ [] → AreRead text entries text
read_start text entries none = record {
  text_is = ap (λ (l : List Entry). texts_of l ++ text) (sym none);
  valid =
      ap (λ (l : List Entry). list_all is_entry l) none;
}

-- one more entry is read
pub read_more : (text rest after : List ℕ) (old new : List Entry) → AreRead text old rest → ReadsOne rest old new after → AreRead text new after
read_more text rest after old new far one = record {
  text_is = far.text_is ∙ ap (λ (l : List ℕ). texts_of old ++ l) one.read.text_is ∙ sym (texts_more old one.entry after)
      ∙ ap (λ (l : List Entry). texts_of l ++ after) (sym one.new_is);
  valid = ap (λ (l : List Entry). list_all is_entry l) one.new_is ∙ list_all-append is_entry old (one.entry ∷ [])
      ∙ and_from (list_all is_entry old) (is_entry one.entry && true) far.valid (and_from (is_entry one.entry) true one.read.valid refl);
}

-- no entry is empty
entry_some : (entry : Entry) → 0 < length (entry_text entry)
entry_some (path, None) = let e = length-append (codes "remove " ++ joined path) (10 ∷ []) in omega (arith, e)
entry_some (path, Some bytes) = let e = length-append (codes "set " ++ joined path ++ 32 ∷ decimal (length bytes) ++ 10 ∷ bytes) (10 ∷ []) in omega (arith, e)

-- less is left then
pub read_less : (rest after : List ℕ) (old new : List Entry) → ReadsOne rest old new after → length after < length rest
read_less rest after old new one = let e : length rest ≡ length (entry_text one.entry) + length after = ap length one.read.text_is
    ∙ length-append (entry_text one.entry) after in let s = entry_some one.entry in omega arith

-- what is left of the entries of a journal
record Left (entries read : List Entry) (rest : List ℕ) : Type 0 where
  pub more : List Entry
  pub entries_are : entries ≡ read ++ more
  pub valid : list_all is_entry more ≡ true
  pub rest_is : journal_text more ≡ rest

-- a journal begins with the entries that were read
entries_left : (read entries : List Entry) (rest : List ℕ) → list_all is_entry read ≡ true → list_all is_entry entries ≡ true
    → journal_text entries ≡ texts_of read ++ rest → Left entries read rest
entries_left [] entries rest done valid is = record { more = entries; entries_are = refl; valid = valid; rest_is = is }
entries_left (x ∷ read) [] rest done valid is = absurd (not_end x [] (texts_of read ++ rest)
    (append-nil end_text ∙ is ∙ append_assoc (entry_text x) (texts_of read) rest))
entries_left (x ∷ read) (y ∷ entries) rest done valid is =
    let vx = valid_parts x read done in
    let vy = valid_parts y entries valid in
    let cut = one_entry y x (journal_text entries) (texts_of read ++ rest) vy.0 vx.0 (is ∙ append_assoc (entry_text x) (texts_of read) rest) in
    let left = entries_left read entries rest vx.3 vy.3 cut.1 in
    record {
      more = left.more;
      entries_are = ap (λ (k : Entry). k ∷ entries) cut.0 ∙ ap (λ (l : List Entry). x ∷ l) left.entries_are;
      valid = left.valid;
      rest_is = left.rest_is;
    }

-- the entries that are left of a journal with this text
left_of : (text : List ℕ) (read entries : List Entry) (rest : List ℕ) → AreRead text read rest → IsJournal entries text → Left entries read rest
left_of text read entries rest far is = entries_left read entries rest far.valid (all_entries entries is.valid) (sym is.text_is ∙ far.text_is)

-- a rest that is no end and begins with no entry is no journal's
refused_more : (more : List Entry) (rest : List ℕ) → list_all is_entry more ≡ true → journal_text more ≡ rest → bytes_eq rest end_text ≡ false → HasNoEntry rest
    → ⊥
refused_more [] rest valid is other none = false≢true (sym other ∙ (bytes_eq-Decides rest end_text).1 (sym is))
refused_more (x ∷ more) rest valid is other none = none x (journal_text more) (record { valid = (valid_parts x more valid).0; text_is = sym is })

-- then the text is no journal
pub read_refused : (text rest : List ℕ) (read : List Entry) → AreRead text read rest → bytes_eq rest end_text ≡ false → HasNoEntry rest → (entries : List Entry)
    → IsJournal entries text → ⊥
read_refused text rest read far other none entries is = let left = left_of text read entries rest far is in
    refused_more left.more rest left.valid left.rest_is other none

-- a journal is the texts of its entries and the end
journal_split : (read : List Entry) → journal_text read ≡ texts_of read ++ end_text
journal_split [] = refl
journal_split (x ∷ read) = ap (λ (l : List ℕ). entry_text x ++ l) (journal_split read) ∙ sym (append_assoc (entry_text x) (texts_of read) end_text)

-- rising entries before the end are a journal
pub read_end : (text rest : List ℕ) (read : List Entry) → AreRead text read rest → bytes_eq rest end_text ≡ true → are_rising read ≡ true → IsJournal read text
read_end text rest read far ends rising = record {
  text_is = far.text_is ∙ ap (λ (l : List ℕ). texts_of read ++ l) ((bytes_eq-Decides rest end_text).0 ends) ∙ sym (journal_split read);
  valid = and_from (list_all is_entry read) (are_rising read) far.valid rising;
}

-- no entry is left before the end
none_more : (more : List Entry) (rest : List ℕ) → journal_text more ≡ rest → rest ≡ end_text → more ≡ []
none_more [] rest is ends = refl
none_more (x ∷ more) rest is ends = absurd (not_end x [] (journal_text more) (append-nil end_text ∙ sym (is ∙ ends)))

-- entries that do not rise are no journal
pub read_falls : (text rest : List ℕ) (read : List Entry) → AreRead text read rest → bytes_eq rest end_text ≡ true → are_rising read ≡ false
    → (entries : List Entry) → IsJournal entries text → ⊥
read_falls text rest read far ends falls entries is =
    let left = left_of text read entries rest far is in
    let e : entries ≡ read = left.entries_are ∙ ap (λ (l : List Entry). read ++ l)
    (none_more left.more rest left.rest_is ((bytes_eq-Decides rest end_text).0 ends)) ∙ append-nil read in
    false≢true (sym falls ∙ ap are_rising (sym e) ∙ (and_parts (list_all is_entry entries) (are_rising entries) is.valid).1)

pub ruleset all = (read_start, read_more, read_less, read_refused, read_end, read_falls)
