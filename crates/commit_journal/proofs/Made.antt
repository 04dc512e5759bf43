-- A batch is made.
use Rattle.std.proofs.Common.{◌≡◌, true, false, nat_le, ℕ, ◌+◌, List, [], ◌∷◌, ◌++◌, length, length-append, refl, sym, ◌∙◌, ap, arith}
use Rattle.std.proofs.lemmas.Bool.{false≢true, and_parts, and_from}
use Rattle.std.proofs.lemmas.Bool.Decides.{nat_tests}
use Rattle.std.specs.List.{list_all}
use Rattle.outside.specs.Names.{Names, are_names}
use Rattle.commit_journal.specs.declared.placed_entry.PlacedEntry.{PlacedEntry}
use Rattle.commit_journal.specs.Entries.{Entry, placed, has_first_name, is_entry_path, fits_below, fits_memory, is_entry, are_rising, is_batch}
use Rattle.commit_journal.specs.Journal.{journal_text, IsJournal}
use Rattle.commit_journal.specs.Stands.{journal}
use Rattle.commit_journal.specs.Placed.{ArePlaced, AreParts}
use Rattle.commit_journal.proofs.Spellings.{entry_names}
use Rattle.commit_journal.proofs.Texts.{all_entries, valid_parts}

-- below a directory of two names, 38 names are left
room_below : (dir path : Names) → length dir ≡ 2 → nat_le (length (dir ++ path)) 40 ≡ nat_le (length path) 38
room_below dir path two = ap (λ n. nat_le n 40) (length-append dir path ∙ ap (λ n. n + length path) two) ∙ two_less (length path)
  where
    two_less : (n : ℕ) → nat_le (2 + n) 40 ≡ nat_le n 38
    two_less n = grind (arith, nat_tests)

-- entries with a first name, with names, with room and with few enough bytes are valid
made_entries : (dir : Names) (entries : List Entry) → length dir ≡ 2 → list_all (λ e. has_first_name e.0) entries ≡ true
    → list_all (λ e. are_names e.0) entries ≡ true → list_all (fits_below dir) entries ≡ true → list_all (λ e. fits_memory e.1) entries ≡ true
    → list_all is_entry entries ≡ true
made_entries dir [] two first named room small = refl
made_entries dir (x ∷ entries) two first named room small =
    let a = and_parts (has_first_name x.0) (list_all (λ (e : Entry). has_first_name e.0) entries) first in
    let b = and_parts (are_names x.0) (list_all (λ (e : Entry). are_names e.0) entries) named in
    let c = and_parts (fits_below dir x) (list_all (fits_below dir) entries) room in
    let d = and_parts (fits_memory x.1) (list_all (λ (e : Entry). fits_memory e.1) entries) small in
    let path = and_from (has_first_name x.0) _ a.0 (and_from (are_names x.0) (nat_le (length x.0) 38) b.0 (sym (room_below dir x.0 two) ∙ c.0)) in
    and_from (is_entry x) (list_all is_entry entries) (and_from (is_entry_path x.0) (fits_memory x.1) path d.0) (made_entries dir entries two a.1 b.1 c.1 d.1)

-- they are a batch where they rise
pub made_batch : (dir : Names) (entries : List Entry) → length dir ≡ 2 → list_all (λ e. has_first_name e.0) entries ≡ true → are_rising entries ≡ true
    → list_all (λ e. are_names e.0) entries ≡ true → list_all (fits_below dir) entries ≡ true → list_all (λ e. fits_memory e.1) entries ≡ true
    → is_batch entries ≡ true
made_batch dir entries two first rising named room small = and_from (list_all is_entry entries) (are_rising entries)
    (made_entries dir entries two first named room small) rising

-- the parts of the batch of a journal
pub parts_read : (dir copy path : Names) (text : List ℕ) (entries : List Entry) (all : List PlacedEntry) → copy ≡ dir → path ≡ dir ++ journal
    → IsJournal entries text → ArePlaced dir entries all → AreParts copy path text all
parts_read dir copy path text entries all same at is gives = record {
  path_is = at ∙ ap (λ (d : Names). d ++ journal) (sym same);
  text_is = record {
    text_is = is.text_is ∙ ap journal_text (sym gives.entries_are);
    valid = ap is_batch gives.entries_are ∙ is.valid;
  };
  places_are = gives.places_are ∙ ap (λ (d : Names). placed d entries) (sym same) ∙ ap (λ (l : List Entry). placed copy l) (sym gives.entries_are);
}

-- the parts of the batch of these entries
pub parts_made : (dir copy path : Names) (text : List ℕ) (entries : List Entry) (all : List PlacedEntry) → copy ≡ dir → path ≡ dir ++ journal
    → text ≡ journal_text entries → is_batch entries ≡ true → ArePlaced dir entries all → AreParts copy path text all
parts_made dir copy path text entries all same at is valid gives = parts_read dir copy path text entries all same at (record { text_is = is; valid = valid })
    gives

-- the entries of a journal have room
journal_room : (dir : Names) (entries : List Entry) → length dir ≡ 2 → list_all is_entry entries ≡ true → list_all (fits_below dir) entries ≡ true
journal_room dir [] two valid = refl
journal_room dir (x ∷ entries) two valid =
    let parts = valid_parts x entries valid in
    let short = (entry_names x.0 parts.1).2 in
    and_from (fits_below dir x) (list_all (fits_below dir) entries) (room_below dir x.0 two ∙ grind (arith, nat_tests)) (journal_room dir entries two parts.3)

-- no path of a journal is too deep
pub not_deep : (dir : Names) (entries : List Entry) (text : List ℕ) → length dir ≡ 2 → IsJournal entries text → list_all (fits_below dir) entries ≡ false → ⊥
not_deep dir entries text two is deep = false≢true (sym deep ∙ journal_room dir entries two (all_entries entries is.valid))

pub ruleset made = (made_batch, parts_made)

pub ruleset reads = (parts_read, not_deep)
