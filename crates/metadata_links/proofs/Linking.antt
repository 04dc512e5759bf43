-- Nothing in a manifest leads nowhere: its commands have words, and its files have rows.
use Rattle.std.proofs.Common.{arith, ◌≡◌, ◌<◌, ◌+◌, ℕ, List, [], ◌∷◌, ◌++◌, append_assoc, length, map, filter, cond, not}
use Rattle.std.proofs.Common.{nat_lt, ◌==◌, Bool, true, false, Some, unwrap_or, IsSome, IsTrue, All, string_bytes, slice_index_or, refl, sym, ◌∙◌, ap}
use Rattle.std.specs.Prelude.{◌&&◌, ◌||◌}
use Rattle.std.specs.Ordering.{eq_by_cmp}
use Rattle.std.specs.FinMap.{entries, keys, get, find, get-entries, contains_key-keys}
use Rattle.std.specs.List.{list_all, list_any, flat_map, slice_split, onto_first, enumerate_from}
use Rattle.std.specs.Str.{bytes_eq}
use Rattle.std.proofs.lemmas.Bool.{and_parts, and_from, lt-ltb, ltb-true}
use Rattle.std.proofs.lemmas.List.{length-map}
use Rattle.std.proofs.lemmas.List.Folds.{list_all-append, list_all-map, list_any-append}
use Rattle.std.proofs.lemmas.List.Sums.{AllPass-from_list_all}
use Rattle.key_names.specs.Order.{bytes_cmp, bytes_equal}
use Rattle.indexmap.specs.IndexSet.{insert_key, insert_all}
use Rattle.settings_tree.specs.declared.entry.Owed.{Owed}
use Rattle.settings_tree.specs.declared.entry.Owed.TheVariants as owed
use Rattle.metadata_links.specs.Commands.{seen, commands_from}
use Rattle.metadata_links.specs.Faults.{has_name, unknown_files, empty_from, service_faults}
use Rattle.metadata_links.specs.Firsts.{firsts}
use Rattle.metadata_links.specs.Linked.{have_words, have_rows}
use Rattle.metadata_links.specs.Links.{affected, no_service, service_named, listed, all_files, files_of, commands_in, commands_of}
use Rattle.metadata_links.specs.Words.{words_in, has_word}
use Rattle.metadata_links.specs.declared.command.Command.{Command}
use Rattle.metadata_links.specs.declared.manifest.Manifest.{Manifest}
use Rattle.metadata_links.specs.declared.manifest_error.ManifestError.TheVariants.{UnknownFile, EmptyCommand}
use Rattle.metadata_links.specs.declared.service.Service.{Service}
use Rattle.metadata_links.proofs.Counts.{fold_both}

-- ---- services without a fault

none_left : {E : Type 0} (xs ys : List E) → xs ++ ys ≡ [] → xs ≡ []
none_left [] ys e = refl
none_left (x ∷ xs) ys e = absurd (cc e)

none_right : {E : Type 0} (xs ys : List E) → xs ++ ys ≡ [] → ys ≡ []
none_right [] ys e = e
none_right (x ∷ xs) ys e = absurd (cc e)

-- Where none is reported as left out, all pass.
all_told : {X E : Type 0} (p : X → Bool) (f : X → E) (xs : List X) → map f (filter (λ x. not (p x)) xs) ≡ [] → list_all p xs ≡ true
all_told p f [] none = refl
all_told {X} {E} p f (x ∷ xs) none = by (all_told p f xs) (p x) none where
  by : (map f (filter (λ x. not (p x)) xs) ≡ [] → list_all p xs ≡ true) → (b : Bool)
      → map f (cond (not b) (x ∷ filter (λ x. not (p x)) xs) (filter (λ x. not (p x)) xs)) ≡ [] → (b && list_all p xs) ≡ true
  by rest true n = rest n
  by rest false n = absurd (cc n)

words_told : (service : List ℕ) (place : ℕ) (commands : List (List ℕ)) → empty_from service place commands ≡ [] → list_all has_word commands ≡ true
words_told service place [] none = refl
words_told service place (c ∷ cs) none = by (words_told service (place + 1) cs) (has_word c) none where
  by : (empty_from service (place + 1) cs ≡ [] → list_all has_word cs ≡ true) → (b : Bool)
      → map (λ e. EmptyCommand service e.0) (cond (not b) ((place, c) ∷ filter (λ e. not (has_word e.1)) (enumerate_from (place + 1) cs))
      (filter (λ e. not (has_word e.1)) (enumerate_from (place + 1) cs))) ≡ []
      → (b && list_all has_word cs) ≡ true
  by rest true n = rest n
  by rest false n = absurd (cc n)

pub words_sound : (known : List (List ℕ)) (es : List (List ℕ × Service)) → flat_map (service_faults known) es ≡ []
    → list_all (λ e. list_all has_word e.1.commands) es ≡ true
words_sound known [] none = refl
words_sound known (e ∷ es) none =
    and_from _ _ (words_told e.0 0 e.1.commands (none_right (unknown_files known e.0 e.1.files) _ (none_left (service_faults known e) _ none)))
    (words_sound known es (none_right (service_faults known e) _ none))

pub rows_sound : (known : List (List ℕ)) (es : List (List ℕ × Service)) → flat_map (service_faults known) es ≡ []
    → list_all (λ e. list_all (has_name known) e.1.files) es ≡ true
rows_sound known [] none = refl
rows_sound known (e ∷ es) none =
    and_from _ _ (all_told (has_name known) (λ file. UnknownFile e.0 file) e.1.files
    (none_left (unknown_files known e.0 e.1.files) _ (none_left (service_faults known e) _ none)))
    (rows_sound known es (none_right (service_faults known e) _ none))

-- ---- what a service has

found_passes : (p : Service → Bool) (name : List ℕ) (es : List (List ℕ × Service)) → list_all (λ e. p e.1) es ≡ true → p no_service ≡ true
    → p (unwrap_or (find bytes_cmp name es) no_service) ≡ true
found_passes p name [] all none = none
found_passes p name (e ∷ es) all none = by (and_parts _ _ all).0 (found_passes p name es (and_parts _ _ all).1 none) (eq_by_cmp bytes_cmp name e.0) where
  by : p e.1 ≡ true → p (unwrap_or (find bytes_cmp name es) no_service) ≡ true → (b : Bool)
      → p (unwrap_or (cond b (Some e.1) (find bytes_cmp name es)) no_service) ≡ true
  by here rest true = here
  by here rest false = rest

-- The service of a name passes, where all do and the one that has nothing does.
named_passes : (m : Manifest) (p : Service → Bool) (name : List ℕ) → list_all (λ e. p e.1) (entries m.services) ≡ true → p no_service ≡ true
    → p (service_named m name) ≡ true
named_passes m p name all none = ap (λ o. p (unwrap_or o no_service)) (get-entries m.services name) ∙ found_passes p name (entries m.services) all none

all_flat : {X E : Type 0} (p : E → Bool) (f : X → List E) (xs : List X) → ((x : X) → list_all p (f x) ≡ true) → list_all p (flat_map f xs) ≡ true
all_flat p f [] each = refl
all_flat p f (x ∷ xs) each = list_all-append p (f x) (flat_map f xs) ∙ and_from _ _ (each x) (all_flat p f xs each)

-- ---- words

onto_some : (x : ℕ) (parts : List (List ℕ)) → nat_lt 0 (length (filter (λ word. nat_lt 0 (length word)) (onto_first x parts))) ≡ true
onto_some x [] = refl
onto_some x (part ∷ parts) = by (nat_lt 0 (length (x ∷ part))) (lt-ltb 0 _ (omega arith)) where
  by : (b : Bool) → b ≡ true → nat_lt 0 (length (cond b ((x ∷ part) ∷ filter (λ word. nat_lt 0 (length word)) parts)
      (filter (λ word. nat_lt 0 (length word)) parts))) ≡ true
  by true is = lt-ltb 0 _ (omega arith)
  by false is = absurd (cc is)

-- A text with a byte that is no space has a word.
has_words : (text : List ℕ) → has_word text ≡ true → nat_lt 0 (length (words_in text)) ≡ true
has_words [] has = absurd (cc has)
has_words (x ∷ xs) has = by (has_words xs) (x == 32) has where
  by : (has_word xs ≡ true → nat_lt 0 (length (words_in xs)) ≡ true) → (b : Bool) → (not b || has_word xs) ≡ true
      → nat_lt 0 (length (filter (λ word. nat_lt 0 (length word)) (cond b ([] ∷ slice_split (λ b. b == 32) xs) (onto_first x (slice_split (λ b. b == 32) xs)))))
      ≡ true
  by rest true h = rest h
  by rest false h = onto_some x (slice_split (λ b. b == 32) xs)

-- Whether a command as it is answered has a word.
abbrev is_worded : List ℕ × (ℕ × List (List ℕ)) → Bool
is_worded c = nat_lt 0 (length c.1.1)

all_worded : (name : List ℕ) (place : ℕ) (commands : List (List ℕ)) → list_all has_word commands ≡ true
    → list_all is_worded (commands_from name place commands) ≡ true
all_worded name place [] all = refl
all_worded name place (c ∷ cs) all = and_from _ _ (has_words c (and_parts _ _ all).0) (all_worded name (place + 1) cs (and_parts _ _ all).1)

-- Each command has a word.
commands_worded : (m : Manifest) (owed : Owed) → IsTrue (have_words m.services) → list_all is_worded (commands_of m owed) ≡ true
commands_worded m owed all = all_flat is_worded (λ name. commands_in name (service_named m name)) (affected m owed)
    (λ name. all_worded name 0 (service_named m name).commands (named_passes m (λ s. list_all has_word s.commands) name all refl))

pub words_there : (m : Manifest) (owed : Owed) (commands : List Command) → IsTrue (have_words m.services) → map seen commands ≡ commands_of m owed
    → All (λ c. 0 < length c.words.items) commands
words_there m owed commands all same k d low =
    ltb-true _ _ (ap (nat_lt 0) (sym (length-map (slice_index_or commands k d).words.items (λ w. string_bytes w)))
    ∙ AllPass-from_list_all (λ c. is_worded (seen c)) commands
    (sym (list_all-map is_worded seen commands) ∙ ap (list_all is_worded) same ∙ commands_worded m owed all) k d low)

-- ---- rows

all_pushed : (p : List ℕ → Bool) (names : List (List ℕ)) (name : List ℕ) → list_all p names ≡ true → p name ≡ true
    → list_all p (insert_key bytes_eq names name) ≡ true
all_pushed p names name all one = by (list_any (bytes_eq name) names) where
  by : (b : Bool) → list_all p (cond b names (names ++ name ∷ [])) ≡ true
  by true = all
  by false = list_all-append p names (name ∷ []) ∙ and_from _ _ all (and_from _ _ one refl)

all_inserted : (p : List ℕ → Bool) (names more : List (List ℕ)) → list_all p names ≡ true → list_all p more ≡ true
    → list_all p (insert_all bytes_eq names more) ≡ true
all_inserted p names [] all rest = all
all_inserted p names (name ∷ more) all rest =
    all_inserted p (insert_key bytes_eq names name) more (all_pushed p names name all (and_parts _ _ rest).0) (and_parts _ _ rest).1

true_or : (a b : Bool) → b ≡ true → (a || b) ≡ true
true_or true b e = refl
true_or false b e = e

own_among : (names : List (List ℕ)) (name : List ℕ) (more : List (List ℕ)) → has_name (names ++ name ∷ more) name ≡ true
own_among names name more = list_any-append (eq_by_cmp bytes_cmp name) names (name ∷ more)
    ∙ true_or _ _ (ap (λ b. b || list_any (eq_by_cmp bytes_cmp name) more) (bytes_equal.refl name))

all_among : (before names all : List (List ℕ)) → before ++ names ≡ all → list_all (has_name all) names ≡ true
all_among before [] all is = refl
all_among before (name ∷ names) all is =
    and_from _ _ (ap (λ l. has_name l name) (sym is) ∙ own_among before name names)
    (all_among (before ++ name ∷ []) names all (append_assoc before (name ∷ []) names ∙ is))

own_files : (m : Manifest) (o : Owed) → list_all (has_name (keys m.files)) (all_files m o) ≡ true
own_files m owed.All = all_among [] (keys m.files) (keys m.files) refl
own_files m (owed.Keys ks) = refl

-- Each file has a row.
files_known : (m : Manifest) (o : Owed) → IsTrue (have_rows m.files m.services) → list_all (has_name (keys m.files)) (files_of m o) ≡ true
files_known m o all = all_inserted (has_name (keys m.files)) [] _ refl
    (list_all-append (has_name (keys m.files)) (listed m (affected m o)) (all_files m o)
    ∙ and_from _ _ (all_flat (has_name (keys m.files)) (λ name. (service_named m name).files) (affected m o)
    (λ name. named_passes m (λ s. list_all (has_name (keys m.files)) s.files) name all refl)) (own_files m o))

-- The files that are put one after another are those of the manifest.
pub files_gathered : (m : Manifest) (o : Owed) (names first all : List (List ℕ)) → names ≡ affected m o → first ≡ firsts (listed m names)
    → all ≡ insert_all bytes_eq first (all_files m o) → all ≡ files_of m o
files_gathered m o names first all are found put =
    put ∙ ap (λ l. insert_all bytes_eq l (all_files m o)) (found ∙ ap (λ l. firsts (listed m l)) are)
    ∙ sym (fold_both (insert_key bytes_eq) [] (listed m (affected m o)) (all_files m o))

pub rows_there : (m : Manifest) (o : Owed) (files : List (List ℕ)) → IsTrue (have_rows m.files m.services) → files ≡ files_of m o
    → All (λ file. IsSome (get m.files file)) files
rows_there m o files all same k d low =
    contains_key-keys m.files _ ∙ AllPass-from_list_all (has_name (keys m.files)) files (ap (list_all (has_name (keys m.files))) same ∙ files_known m o all) k d
    low
