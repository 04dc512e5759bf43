-- The files of a change's places, gathered in a map and laid over other files.
use Rattle.std.proofs.Common.{arith, ◌≡◌, ◌<◌, ◌+◌, ℕ, zero, suc, List, [], ◌∷◌, ◌++◌, length, take, get_or, Option}
use Rattle.std.proofs.Common.{Some, None, IsSome, Bool, true, false, cond, inl, inr, ◌⊎◌, refl, sym, ap, ◌∙◌, subst}
use Rattle.std.specs.Prelude.{IsTrue, Contains}
use Rattle.std.specs.List.{AllByRecursion}
use Rattle.std.specs.List.Sorted.{IsStrictlySortedBy}
use Rattle.std.specs.declared.cmp.Ordering.TheVariants.{Less}
use Rattle.std.specs.Ordering.{eq_by_cmp, is_eq, is_lt}
use Rattle.std.specs.Map.{lookup, keys_of}
use Rattle.std.specs.BTreeMap.{BTreeMap, get, IsEmpty}
use Rattle.std.proofs.lemmas.Bool.{false≢true}
use Rattle.std.proofs.lemmas.List.{take_more}
use Rattle.std.proofs.lemmas.List.Elements.{Contains-append_left, Contains-append_right, Contains-append_cases, All-append}
use Rattle.outside.specs.Names.{Names, path_cmp}
use Rattle.outside.specs.Tree.{Node}
use Rattle.outside.proofs.Trees.{path_cases, path_itself}
use Rattle.key_names.proofs.Segments.{both}
use Rattle.commit_journal.specs.Entries as journal
use Rattle.commit_journal.specs.Files.{Files, with_node, node_of, laid}
use Rattle.commit_journal.proofs.Laid.{with_node_here, with_node_other}
use Rattle.settings_tree.specs.Change.{Place, place}
use Rattle.settings_tree.specs.declared.entry.Entry.{Entry}
use Rattle.fs_datastore.specs.Places.{path_of, is_place}
use Rattle.fs_datastore.specs.Values.{Value}
use Rattle.fs_datastore.specs.Stands.{Shows}
use Rattle.fs_datastore.specs.Batches.{bytes_of, new_value, with_value, with_entries, IsFileIn, PutsFile, AreFilesOf, over, overlaid}
use Rattle.fs_datastore.proofs.Showing.{shows_with, shows_below}

abbrev Written : Type 0
Written = BTreeMap Names (Option (List ℕ))

-- ---- entries that rise, laid over files

later_none : (p : Names) (es : List journal.Entry) → AllByRecursion (λ k. path_cmp p k ≡ Less) (keys_of es) → lookup (λ k. is_eq (path_cmp p k)) es ≡ None
later_none p [] low = refl
later_none p (e ∷ es) low = ap (λ (b : Bool). cond b (Some e.1) (lookup (λ k. is_eq (path_cmp p k)) es)) (ap is_eq low.0) ∙ later_none p es low.1

-- they leave at each path what they have for it
pub laid_over : (es : List journal.Entry) (files : Files) (p : Names) → IsStrictlySortedBy path_cmp (keys_of es)
    → laid es files p ≡ over (lookup (λ k. is_eq (path_cmp p k)) es) (files p)
unfolding IsStrictlySortedBy
laid_over [] files p rises = refl
laid_over (e ∷ es) files p rises = laid_over es (with_node files e.0 (node_of e.1)) p rises.1 ∙ elim (path_cases p e.0) [
  | inl here ↦
      let none : lookup (λ k. is_eq (path_cmp p k)) es ≡ None = subst (λ (q : Names). lookup (λ k. is_eq (path_cmp q k)) es ≡ None) (sym here)
      (later_none e.0 es rises.0) in
      ap (λ (o : Option (Option (List ℕ))). over o (with_node files e.0 (node_of e.1) p)) none ∙ with_node_here files e.0 (node_of e.1) p here
      ∙ sym (ap (λ (b : Bool). over (cond b (Some e.1) (lookup (λ k. is_eq (path_cmp p k)) es)) (files p))
      (ap (λ (q : Names). eq_by_cmp path_cmp p q) (sym here) ∙ path_itself p))
  | inr other ↦
      ap (λ (n : Option Node). over (lookup (λ k. is_eq (path_cmp p k)) es) n) (with_node_other files e.0 (node_of e.1) p other)
      ∙ sym (ap (λ (b : Bool). over (cond b (Some e.1) (lookup (λ k. is_eq (path_cmp p k)) es)) (files p)) other)
]

-- entries whose keys rise are rising
pub rising_of : (es : List journal.Entry) → IsStrictlySortedBy path_cmp (keys_of es) → IsTrue (journal.are_rising es)
unfolding IsStrictlySortedBy
rising_of [] rises = refl
rising_of (e ∷ []) rises = refl
rising_of (e ∷ f ∷ es) rises = both (is_lt (path_cmp e.0 f.0)) (journal.are_rising (f ∷ es)) (ap is_lt rises.0.0) (rising_of (f ∷ es) rises.1)

-- ---- the map of the files

with_more : (what : Place → Option Value) (es : List Entry) (e : Entry) → with_entries what (es ++ e ∷ []) ≡ with_value (with_entries what es) (place e)
    (new_value e)
with_more what [] e = refl
with_more what (f ∷ es) e = with_more (with_value what (place f) (new_value f)) es e

in_more : (es : List Entry) (e : Entry) (w : journal.Entry) → IsFileIn es w → IsFileIn (es ++ e ∷ []) w
in_more es e w is = record { entry = is.entry; among = Contains-append_left es (e ∷ []) is.entry is.among; path_is = is.path_is; bytes_are = is.bytes_are }

the_last : (es : List Entry) (e : Entry) → Contains (es ++ e ∷ []) e
the_last es e = Contains-append_right es (e ∷ []) e (0, omega arith, refl)

alone : (e f : Entry) → Contains (e ∷ []) f → f ≡ e
alone e f (zero, low, is) = sym is
alone e f (suc i, low, is) = absurd (omega arith)

none_in : (m : Written) (p : Names) → m.entries ≡ [] → get path_cmp m p ≡ None
none_in m p none = ap (λ (es : List (Names × Option (List ℕ))). lookup (λ k. is_eq (path_cmp p k)) es) none

-- at first there is none
pub no_files_of : (entries : List Entry) (m : Written) → IsEmpty m → AreFilesOf (take 0 entries) m
no_files_of entries m none = record {
  each = λ e has. absurd (omega (arith, has.1));
  only = λ path bytes is. absurd (cc (is, none_in m path none));
  valid = λ i d low. absurd (omega arith);
  shows = λ files what told shows. shows_below files (overlaid m files) what told
      (λ name rest. sym (ap (λ (o : Option (Option (List ℕ))). over o (files (name ∷ rest))) (none_in m (name ∷ rest) none))) shows;
}

tie : (p q : Names) (b : Bool) → eq_by_cmp path_cmp p q ≡ b → eq_by_cmp path_cmp q p ≡ b
tie p q b is = by (path_cases q p) b is where
  by : (q ≡ p) ⊎ (eq_by_cmp path_cmp q p ≡ false) → (b : Bool) → eq_by_cmp path_cmp p q ≡ b → eq_by_cmp path_cmp q p ≡ b
  by (inl same) b is = ap (λ (r : Names). eq_by_cmp path_cmp r p) same ∙ path_itself p ∙ sym (ap (λ (r : Names). eq_by_cmp path_cmp p r) same ∙ path_itself p)
      ∙ is
  by (inr other) true is = elim (path_cases p q) [
    | inl same ↦ absurd (false≢true (sym other ∙ ap (λ (r : Names). eq_by_cmp path_cmp q r) same ∙ path_itself q))
    | inr apart ↦ absurd (false≢true (sym apart ∙ is))
  ]
  by (inr other) false is = other

module _ (es : List Entry) (e : Entry) (m n : Written) (so_far : AreFilesOf es m) (puts : PutsFile e m n) where
  at : Names
  at = path_of (place e)

  get_now : (q : Names) → get path_cmp n q ≡ cond (eq_by_cmp path_cmp at q) (Some (bytes_of e)) (get path_cmp m q)
  unfolding at
  get_now q = puts.updates.0 q

  some_cond : (b : Bool) (o : Option (Option (List ℕ))) → IsSome o → IsSome (cond b (Some (bytes_of e)) o)
  some_cond true o is = refl
  some_cond false o is = is

  each_more : (f : Entry) → Contains (es ++ e ∷ []) f → IsSome (get path_cmp n (path_of (place f)))
  unfolding at
  each_more f has = elim (Contains-append_cases es (e ∷ []) f has) [
    | inl old ↦ subst IsSome (sym (get_now (path_of (place f)))) (some_cond (eq_by_cmp path_cmp at (path_of (place f))) (get path_cmp m (path_of (place f)))
        (so_far.each f old))
    | inr new ↦ subst (λ (g : Entry). IsSome (get path_cmp n (path_of (place g)))) (sym (alone e f new))
        (subst IsSome (sym (get_now at ∙ ap (λ (b : Bool). cond b (Some (bytes_of e)) (get path_cmp m at)) (path_itself at))) refl)
  ]

  inside : Option (Option (List ℕ)) → Option (List ℕ) → Option (List ℕ)
  inside None d = d
  inside (Some b) d = b

  only_more : (path : Names) (bytes : Option (List ℕ)) → get path_cmp n path ≡ Some bytes → IsFileIn (es ++ e ∷ []) (path, bytes)
  unfolding inside at
  only_more path bytes is = elim (path_cases at path) [
    | inl here ↦ record {
      entry = e;
      among = the_last es e;
      path_is = sym here;
      bytes_are = ap (λ (o : Option (Option (List ℕ))). inside o None)
          (sym is ∙ get_now path ∙ ap (λ (b : Bool). cond b (Some (bytes_of e)) (get path_cmp m path))
          (ap (λ (q : Names). eq_by_cmp path_cmp at q) (sym here) ∙ path_itself at));
    }
    | inr other ↦ in_more es e (path, bytes) (so_far.only path bytes (sym
        (get_now path ∙ ap (λ (b : Bool). cond b (Some (bytes_of e)) (get path_cmp m path)) other) ∙ is))
  ]

  node_now : (files : Files) (q : Names) → with_node (overlaid m files) at (node_of (bytes_of e)) q ≡ overlaid n files q
  node_now files q = elim (path_cases at q) [
    | inl here ↦ with_node_here (overlaid m files) at (node_of (bytes_of e)) q (sym here)
        ∙ sym (ap (λ (o : Option (Option (List ℕ))). over o (files q))
        (get_now q ∙ ap (λ (b : Bool). cond b (Some (bytes_of e)) (get path_cmp m q))
        (ap (λ (r : Names). eq_by_cmp path_cmp at r) (sym here) ∙ path_itself at)))
    | inr other ↦ with_node_other (overlaid m files) at (node_of (bytes_of e)) q (tie at q false other)
        ∙ sym (ap (λ (o : Option (Option (List ℕ))). over o (files q)) (get_now q ∙ ap (λ (b : Bool). cond b (Some (bytes_of e)) (get path_cmp m q)) other))
  ]

  -- one more entry
  pub files_of_more : AreFilesOf (es ++ e ∷ []) n
  unfolding at
  files_of_more = record {
    each = each_more;
    only = only_more;
    valid = All-append (λ f. IsTrue (is_place (place f))) es (e ∷ []) so_far.valid (λ i d low. one i d low);
    shows = λ files what told shows.
        subst (λ (w : Place → Option Value). Shows (overlaid n files) w told) (sym (with_more what es e))
        (shows_below (with_node (overlaid m files) at (node_of (bytes_of e))) (overlaid n files) (with_value (with_entries what es) (place e) (new_value e))
        told (λ name rest. node_now files (name ∷ rest))
        (shows_with (overlaid m files) (place e) puts.valid (node_of (bytes_of e)) (with_entries what es) told (new_value e)
        (so_far.shows files what told shows) puts.written));
  }
    where
      one : (i : ℕ) (d : Entry) → i < length (e ∷ []) → IsTrue (is_place (place (get_or (e ∷ []) i d)))
      one zero d low = puts.valid
      one (suc i) d low = absurd (omega arith)

-- one more entry of a list
pub files_of_next : (entries : List Entry) (i : ℕ) (e : Entry) (m n : Written) → i < length entries → e ≡ get_or entries i e → AreFilesOf (take i entries) m
    → PutsFile e m n → AreFilesOf (take (i + 1) entries) n
files_of_next entries i e m n low is so_far puts =
    subst (λ (es : List Entry). AreFilesOf es n) (sym (take_more entries i e low ∙ ap (λ (f : Entry). take i entries ++ f ∷ []) (sym is)))
    (files_of_more (take i entries) e m n so_far puts)
