-- The text of a journal is that of one batch.
use Rattle.std.proofs.Common.{◌≡◌, true, nat_lt, ℕ, ◌<◌, ◌^◌, List, [], ◌∷◌, ◌++◌, length, codes, Some, None, refl, sym, ◌∙◌, ap, append_assoc, arith}
use Rattle.std.proofs.lemmas.Bool.{and_parts}
use Rattle.std.proofs.lemmas.Bool.Decides.{nat_tests}
use Rattle.std.proofs.lemmas.Fmt.{decimal_injective}
use Rattle.std.proofs.lemmas.List.{append_cancel_left, append-nil}
use Rattle.std.specs.List.{list_all}
use Rattle.std.specs.Fmt.{decimal}
use Rattle.outside.specs.Names.{Names}
use Rattle.outside.specs.PathText.{joined}
use Rattle.commit_journal.specs.Entries.{Entry, is_entry_path, fits_memory, is_entry, are_rising, is_batch}
use Rattle.commit_journal.specs.Journal.{entry_text, end_text, journal_text}
use Rattle.commit_journal.specs.Laws.{IsOfOneBatch, HasNoJournalPrefix}
use Rattle.commit_journal.specs.Parts.{Lacks}
use Rattle.commit_journal.proofs.Cutting.{split_one, same_length, head_same}
use Rattle.commit_journal.proofs.Numbers.{decimal_lacks}
use Rattle.commit_journal.proofs.Spellings.{path_lacks, entry_names, one_path}

-- the parts of a valid entry, and the entries after it
pub valid_parts : (entry : Entry) (entries : List Entry) → list_all is_entry (entry ∷ entries) ≡ true
    → (is_entry entry ≡ true) × (is_entry_path entry.0 ≡ true) × (fits_memory entry.1 ≡ true) × (list_all is_entry entries ≡ true)
valid_parts entry entries valid =
    let all = and_parts (is_entry entry) (list_all is_entry entries) valid in
    let here = and_parts (is_entry_path entry.0) (fits_memory entry.1) all.0 in
    (all.0, here.0, here.1, all.1)

-- the entries of a batch are valid
pub all_entries : (entries : List Entry) → is_batch entries ≡ true → list_all is_entry entries ≡ true
all_entries entries valid = (and_parts (list_all is_entry entries) (are_rising entries) valid).0

-- bytes that fit a memory are few enough
pub fits_below_limit : (bytes : List ℕ) → fits_memory (Some bytes) ≡ true → length bytes < 2 ^ 64
fits_below_limit bytes valid = small (length bytes) valid
  where
    small : (n : ℕ) → nat_lt n (2 ^ 64) ≡ true → n < 2 ^ 64
    small n is = grind (arith, nat_tests)

-- an entry that takes a file away, and what follows it
pub removed_text : (path : Names) (rest : List ℕ) → entry_text (path, None) ++ rest ≡ codes "remove " ++ (joined path ++ 10 ∷ rest)
removed_text path rest = ap (λ (l : List ℕ). codes "remove " ++ l) (append_assoc (joined path) (10 ∷ []) rest)

-- an entry that sets a file, and what follows it
pub written_text : (path : Names) (bytes rest : List ℕ) → entry_text (path, Some bytes) ++ rest ≡ codes "set "
    ++ (joined path ++ 32 ∷ (decimal (length bytes) ++ 10 ∷ (bytes ++ 10 ∷ rest)))
written_text path bytes rest = simp append_assoc

-- the path of an entry has no line feed and no space
pub entry_path_lacks : (path : Names) → is_entry_path path ≡ true → Lacks 10 (joined path) × Lacks 32 (joined path)
entry_path_lacks path valid =
    let parts = entry_names path valid in
    (path_lacks 10 refl (λ s. absurd (omega arith)) path parts.1, path_lacks 32 refl (λ s. absurd (omega arith)) path parts.1)

-- a removal is read in one way
removals : (x y : Names) (p q : List ℕ) → is_entry_path x ≡ true → is_entry_path y ≡ true → joined x ++ 10 ∷ p ≡ joined y ++ 10 ∷ q → (x ≡ y) × (p ≡ q)
removals x y p q vx vy tail =
    let cut = split_one 10 (joined x) (joined y) p q (entry_path_lacks x vx).0 (entry_path_lacks y vy).0 tail in
    (one_path x y vx vy cut.0, cut.1)

-- the lines that set a file are read in one way
writings : (x y : Names) (a b p q : List ℕ) → is_entry_path x ≡ true → is_entry_path y ≡ true → length a < 2 ^ 64 → length b < 2 ^ 64
    → joined x ++ 32 ∷ (decimal (length a) ++ 10 ∷ (a ++ 10 ∷ p)) ≡ joined y ++ 32 ∷ (decimal (length b) ++ 10 ∷ (b ++ 10 ∷ q)) → (x ≡ y) × (a ≡ b) × (p ≡ q)
writings x y a b p q vx vy fa fb tail =
    let cut = split_one 32 (joined x) (joined y) (decimal (length a) ++ 10 ∷ (a ++ 10 ∷ p)) (decimal (length b) ++ 10 ∷ (b ++ 10 ∷ q)) (entry_path_lacks x vx).1
    (entry_path_lacks y vy).1 tail in
    let line = split_one 10 (decimal (length a)) (decimal (length b)) (a ++ 10 ∷ p) (b ++ 10 ∷ q) (decimal_lacks (length a) fa) (decimal_lacks (length b) fb)
    cut.1 in
    let body = same_length a b (10 ∷ p) (10 ∷ q) (decimal_injective (length a) (length b) fa fb line.0) line.1 in
    (one_path x y vx vy cut.0, body.0, append_cancel_left (10 ∷ []) p q body.1)

-- a text begins with one entry at most
pub one_entry : (a b : Entry) (p q : List ℕ) → is_entry a ≡ true → is_entry b ≡ true → entry_text a ++ p ≡ entry_text b ++ q → (a ≡ b) × (p ≡ q)
one_entry (x, None) (y, None) p q va vb same =
    let r = removals x y p q (and_parts (is_entry_path x) true va).0 (and_parts (is_entry_path y) true vb).0
    (append_cancel_left (codes "remove ") (joined x ++ 10 ∷ p) (joined y ++ 10 ∷ q) (sym (removed_text x p) ∙ same ∙ removed_text y q)) in
    (ap (λ (k : Names). (k, None)) r.0, r.1)
one_entry (x, None) (y, Some b) p q va vb same = absurd (omega (arith, head_same 114 115 _ _ same))
one_entry (x, Some a) (y, None) p q va vb same = absurd (omega (arith, head_same 115 114 _ _ same))
one_entry (x, Some a) (y, Some b) p q va vb same =
    let pa = and_parts (is_entry_path x) (fits_memory (Some a)) va in
    let pb = and_parts (is_entry_path y) (fits_memory (Some b)) vb in
    let r = writings x y a b p q pa.0 pb.0 (fits_below_limit a pa.1) (fits_below_limit b pb.1)
    (append_cancel_left (codes "set ") _ _ (sym (written_text x a p) ∙ same ∙ written_text y b q)) in
    (ap (λ (k : Names). (k, Some a)) r.0 ∙ ap (λ (l : List ℕ). (y, Some l)) r.1, r.2)

-- no entry begins as the end does
pub not_end : (a : Entry) (p q : List ℕ) → end_text ++ p ≡ entry_text a ++ q → ⊥
not_end (x, None) p q same = absurd (omega (arith, head_same 101 114 _ _ same))
not_end (x, Some a) p q same = absurd (omega (arith, head_same 101 115 _ _ same))

-- a text begins with one journal at most
one_text : (a b : List Entry) (p q : List ℕ) → list_all is_entry a ≡ true → list_all is_entry b ≡ true → journal_text a ++ p ≡ journal_text b ++ q
    → (a ≡ b) × (p ≡ q)
one_text [] [] p q first second same = (refl, append_cancel_left end_text p q same)
one_text [] (y ∷ b) p q first second same = absurd (not_end y p (journal_text b ++ q) (same ∙ append_assoc (entry_text y) (journal_text b) q))
one_text (x ∷ a) [] p q first second same = absurd (not_end x q (journal_text a ++ p) (sym same ∙ append_assoc (entry_text x) (journal_text a) p))
one_text (x ∷ a) (y ∷ b) p q first second same =
    let vx = valid_parts x a first in
    let vy = valid_parts y b second in
    let cut = one_entry x y (journal_text a ++ p) (journal_text b ++ q) vx.0 vy.0
    (sym (append_assoc (entry_text x) (journal_text a) p) ∙ same ∙ append_assoc (entry_text y) (journal_text b) q) in
    let rest = one_text a b p q vx.3 vy.3 cut.1 in
    (ap (λ (k : Entry). k ∷ a) cut.0 ∙ ap (λ (l : List Entry). y ∷ l) rest.0, rest.1)

-- batches with one text are one
pub one_journal : (a b : List Entry) → is_batch a ≡ true → is_batch b ≡ true → journal_text a ≡ journal_text b → a ≡ b
one_journal a b first second same = (one_text a b [] [] (all_entries a first) (all_entries b second) (ap (λ (l : List ℕ). l ++ []) same)).0

-- a text is the journal of one batch at most
pub of_one_batch : IsOfOneBatch
of_one_batch one other text first second = one_journal one other first.valid second.valid (sym first.text_is ∙ second.text_is)

-- no journal goes on after another
pub no_prefix : HasNoJournalPrefix
no_prefix one other text rest first second =
    (one_text one other rest [] (all_entries one first.valid) (all_entries other second.valid)
    (ap (λ (l : List ℕ). l ++ rest) (sym first.text_is) ∙ second.text_is ∙ sym (append-nil (journal_text other)))).1
