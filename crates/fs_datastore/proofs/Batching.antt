-- The entries of a batch that writes a change down.
use Rattle.std.proofs.Common.{arith, ◌≡◌, ◌≤◌, ℕ, suc, List, [], ◌∷◌, ◌++◌, length, length-append, Option}
use Rattle.std.proofs.Common.{Some, IsSome, Bool, true, cond, inl, inr, refl, sym, ap, ◌∙◌, subst}
use Rattle.std.specs.Prelude.{IsTrue, All, Contains}
use Rattle.std.specs.List.{list_all, AllByRecursion}
use Rattle.std.specs.List.Sorted.{IsStrictlySortedBy}
use Rattle.std.specs.declared.cmp.Ordering.TheVariants.{Less}
use Rattle.std.specs.Ordering.{is_eq, ordering_reverse}
use Rattle.std.specs.Map.{lookup, keys_of}
use Rattle.std.specs.BTreeMap.{BTreeMap, IsOrdered}
use Rattle.std.proofs.lemmas.Bool.{false≢true, and_parts, le-leb}
use Rattle.outside.specs.Names.{Names, path_cmp}
use Rattle.outside.specs.Order.{path_total}
use Rattle.outside.proofs.Trees.{path_cases, path_itself}
use Rattle.key_names.specs.Key.{is_key}
use Rattle.key_names.proofs.Segments.{both}
use Rattle.settings_maps.specs.TxName.{is_tx_name, is_meta_name}
use Rattle.commit_journal.specs.Entries as journal
use Rattle.commit_journal.specs.Files.{Files, laid}
use Rattle.settings_tree.specs.Change.{Place, place, has_bare_name}
use Rattle.settings_tree.specs.Change.{Live, Meta, Pend, TheOwed, TheImage, TheWeak}
use Rattle.settings_tree.specs.declared.entry.Entry.{Entry}
use Rattle.fs_datastore.specs.Places.{path_of, is_place, names_of, meta_names}
use Rattle.fs_datastore.specs.Batches.{IsFileIn, AreFilesOf, WritesDown, Follows, with_entries, overlaid}
use Rattle.fs_datastore.proofs.FileNames.{key_length}
use Rattle.fs_datastore.proofs.Filing.{laid_over}
use Rattle.fs_datastore.proofs.Showing.{shows_below}
use Rattle.fs_datastore.proofs.Changes.{stands_laid}
use Rattle.json_trees.proofs.Parting.{AllByRecursion-weaker, All-from}

abbrev Written : Type 0
Written = BTreeMap Names (Option (List ℕ))

-- ---- lists of entries by their paths

-- in a list that rises each entry is found at its path
later_found : (e : journal.Entry) (es all : List journal.Entry) → AllByRecursion (λ k. path_cmp e.0 k ≡ Less) (keys_of es)
    → AllByRecursion (λ f. lookup (λ k. is_eq (path_cmp f.0 k)) all ≡ Some f.1) es
    → AllByRecursion (λ f. lookup (λ k. is_eq (path_cmp f.0 k)) (e ∷ all) ≡ Some f.1) es
later_found e [] all low found = tt
later_found e (f ∷ es) all low found = (
  ap (λ (b : Bool). cond b (Some e.1) (lookup (λ k. is_eq (path_cmp f.0 k)) all)) (ap is_eq (path_total.antisymm f.0 e.0 ∙ ap ordering_reverse low.0))
      ∙ found.0,
  later_found e es all low.1 found.1,
)

each_found : (es : List journal.Entry) → IsStrictlySortedBy path_cmp (keys_of es) → AllByRecursion (λ f. lookup (λ k. is_eq (path_cmp f.0 k)) es ≡ Some f.1) es
unfolding IsStrictlySortedBy
each_found [] rises = tt
each_found (e ∷ es) rises = (
  ap (λ (b : Bool). cond b (Some e.1) (lookup (λ k. is_eq (path_cmp e.0 k)) es)) (path_itself e.0),
  later_found e es es rises.0 (each_found es rises.1),
)

-- what is found is named
found_named : (es : List journal.Entry) (p : Names) → IsSome (lookup (λ k. is_eq (path_cmp p k)) es) → journal.IsNamed es p
found_named [] p none = absurd (false≢true none)
found_named (e ∷ es) p some = elim (path_cases p e.0) [
  | inl here ↦ inl here
  | inr other ↦ inr (found_named es p (subst (λ (b : Bool). IsSome (cond b (Some e.1) (lookup (λ k. is_eq (path_cmp p k)) es))) other some))
]

each_test : {X : Type 0} (p : X → Bool) (P : X → Type 0) (xs : List X) → ((x : X) → P x → p x ≡ true) → AllByRecursion P xs → list_all p xs ≡ true
each_test p P [] f h = refl
each_test p P (x ∷ xs) f h = both (p x) (list_all p xs) (f x h.0) (each_test p P xs f h.1)

-- ---- paths of places

-- they begin with the names of a journal's paths
begins : (p : Place) → IsTrue (journal.has_first_name (path_of p))
begins (Live k) = refl
begins (Meta k n) = refl
begins (Pend t k) = refl
begins TheOwed = refl
begins TheImage = refl
begins TheWeak = refl

length_names : (k : List (List ℕ)) → length (names_of k) ≡ length k
length_names [] = refl
length_names (x ∷ k) = ap suc (length_names k)

length_meta : (k : List (List ℕ)) (n : List ℕ) → length (meta_names k n) ≤ length k
length_meta [] n = omega arith
length_meta (x ∷ []) n = omega arith
length_meta (x ∷ y ∷ k) n = omega (arith, length_meta (y ∷ k) n)

-- and have at most 34 names
few_names : (p : Place) → IsTrue (is_place p) → length (path_of p) ≤ 34
few_names (Live k) valid = omega (arith, length_names k, (key_length k valid).1)
few_names (Meta k n) valid = omega (arith, length_meta k n, (key_length k (and_parts (is_key k) (is_meta_name n) valid).0).1)
few_names (Pend t k) valid = omega (arith, length_names k, (key_length k (and_parts (is_tx_name t) (is_key k) valid).1).1)
few_names TheOwed valid = omega arith
few_names TheImage valid = omega arith
few_names TheWeak valid = omega arith

-- ---- the batch

among : {X : Type 0} (P : X → Type 0) (xs : List X) (x : X) → All P xs → Contains xs x → P x
among P xs x all (i, low, is) = subst P is (all i x low)

module _ (change : List Entry) (m : Written) (entries : List journal.Entry) (files_of : AreFilesOf change m) (same : entries ≡ m.entries)
    (ordered : IsOrdered path_cmp m) where
  in_map : AllByRecursion (IsFileIn change) m.entries
  in_map = AllByRecursion-weaker (λ f. lookup (λ k. is_eq (path_cmp f.0 k)) m.entries ≡ Some f.1) (IsFileIn change) m.entries (λ f is. files_of.only f.0 f.1 is)
      (each_found m.entries ordered)

  pub in_change : AllByRecursion (IsFileIn change) entries
  in_change = subst (λ (l : List journal.Entry). AllByRecursion (IsFileIn change) l) (sym same) in_map

  pub first_names : list_all (λ e. journal.has_first_name e.0) entries ≡ true
  first_names = each_test (λ e. journal.has_first_name e.0) (IsFileIn change) entries
      (λ e is. subst (λ (p : Names). journal.has_first_name p ≡ true) (sym is.path_is) (begins (place is.entry))) in_change

  fits_one : (dir : Names) → length dir ≡ 2 → (e : journal.Entry) → IsFileIn change e → journal.fits_below dir e ≡ true
  fits_one dir two e is =
      let few : length e.0 ≤ 34 = subst (λ (p : Names). length p ≤ 34) (sym is.path_is)
      (few_names (place is.entry) (among (λ f. IsTrue (is_place (place f))) change is.entry files_of.valid is.among)) in
      le-leb (length (dir ++ e.0)) 40 (omega (arith, length-append dir e.0, few, two))

  pub all_fit : (dir : Names) → length dir ≡ 2 → list_all (journal.fits_below dir) entries ≡ true
  all_fit dir two = each_test (journal.fits_below dir) (IsFileIn change) entries (fits_one dir two) in_change

  pub writes_down : (batch : List journal.Entry) → batch ≡ entries → WritesDown change batch
  writes_down batch is = subst (WritesDown change) (sym is) (record {
    each = λ e has. subst (λ (l : List journal.Entry). journal.IsNamed l (path_of (place e))) (sym same)
        (found_named m.entries (path_of (place e)) (files_of.each e has));
    only = All-from (IsFileIn change) entries in_change;
  })

  laid_is : (files : Files) (p : Names) → overlaid m files p ≡ laid entries files p
  laid_is files p = sym (ap (λ (l : List journal.Entry). laid l files p) same ∙ laid_over m.entries files p ordered)

  pub follows : (batch : List journal.Entry) → batch ≡ entries → IsTrue (list_all has_bare_name change) → Follows change batch
  follows batch is bare = subst (Follows change) (sym is) (record {
    stands = λ files held format s rule names tells. stands_laid files (laid entries files) held format change s bare rule names tells
        (λ what told shows. shows_below (overlaid m files) (laid entries files) (with_entries what change) told (λ name rest. laid_is files (name ∷ rest))
        (files_of.shows files what told shows));
  })
