-- Files that show values which keep the rules have no damage.
use Rattle.std.proofs.Common.{◌≡◌, ℕ, List, slice_index_or, Option, Some, None, IsSome, Bool, true, false, cond, inl, inr, refl, sym, ap, ◌∙◌, subst}
use Rattle.std.specs.Prelude.{IsTrue, All}
use Rattle.std.specs.Ordering.{is_lt}
use Rattle.std.proofs.lemmas.Bool.{false≢true}
use Rattle.outside.specs.Names.{Names, path_cmp}
use Rattle.outside.specs.Tree.{Node, file}
use Rattle.commit_journal.specs.Files.{Files}
use Rattle.key_names.specs.Key.{is_prefix}
use Rattle.settings_tree.specs.Change.{Place}
use Rattle.settings_tree.specs.Change.{Live, Meta, Pend, TheOwed, TheImage, TheWeak}
use Rattle.settings_tree.specs.Content.{settings_key}
use Rattle.fs_datastore.specs.Places.{path_of, is_place, format_path, IsNamed}
use Rattle.fs_datastore.specs.Values.{Value, live, pending, owed, image, weak, Spells, is_for}
use Rattle.fs_datastore.specs.Stands.{node_of, IsFileOf, Shows, format_node}
use Rattle.fs_datastore.specs.Damage.{Clash, HaveFiles, Fits, format, place, before, HasNoDamage}
use Rattle.fs_datastore.proofs.Showing.{node_there}

-- A weak key begins with `settings` and has a live value.
abbrev pub AreLive : (Place → Option Value) → List (List (List ℕ)) → Type 0
AreLive what keys = All (λ key. IsTrue (is_prefix settings_key key) × IsSome (what (Live key))) keys

-- values of the kinds of their places, that keep the rules
pub record KeepRules (what : Place → Option Value) : Type 0 where
  pub kinds : (p : Place) (v : Value) → what p ≡ Some v → IsTrue (is_for p v)
  pub apart : (p q : Place) → Clash p q → IsSome (what p) → what q ≡ None
  pub weak : (keys : List (List (List ℕ))) → what TheWeak ≡ Some (weak keys) → AreLive what keys

-- ---- what a node tells of a value

pub none_shown : (value : Option Value) (node : Option Node) → IsFileOf value node → node ≡ None → value ≡ None
none_shown None node is none = refl
none_shown (Some v) node is none = absurd (cc (is.1, none))

pub none_there : (value : Option Value) (node : Option Node) → IsFileOf value node → value ≡ None → node ≡ None
none_there None node is none = is
none_there (Some v) node is none = absurd (cc none)

pub some_there : (value : Option Value) (node : Option Node) → IsFileOf value node → IsSome value → IsSome node
some_there None node is some = absurd (false≢true some)
some_there (Some v) node is some = subst IsSome (sym is.1) refl

pub record Told (value : Option Value) (node : Node) : Type 0 where
  pub is : Value
  pub value_is : value ≡ Some is
  pub bytes : List ℕ
  pub node_is : node ≡ file bytes
  pub spelled : Spells bytes is

node_in : Option Node → Node → Node
node_in None d = d
node_in (Some n) d = n

pub shown : (value : Option Value) (found : Option Node) (node : Node) → IsFileOf value found → found ≡ Some node → Told value node
unfolding node_in
shown None found node is there = absurd (cc (is, there))
shown (Some v) found node is there = record {
  is = v;
  value_is = refl;
  bytes = is.0;
  node_is =
      ap (λ (o : Option Node). node_in o node) (sym there ∙ is.1);
  spelled = is.2;
}

-- ---- earlier files

before_none : (path : Names) (files : Files) (p : Place) → node_of files p ≡ None → node_of (before path files) p ≡ None
before_none path files p none = by (is_place p) (is_lt (path_cmp (path_of p) path)) none where
  by : (b c : Bool) → cond b (files (path_of p)) None ≡ None → cond b (cond c (files (path_of p)) None) None ≡ None
  by true true none = none
  by true false none = refl
  by false c none = refl

-- the file of a live value is earlier than `weak`
before_weak : (files : Files) (k : List (List ℕ)) → node_of (before (path_of TheWeak) files) (Live k) ≡ node_of files (Live k)
before_weak files k = refl

module _ (files : Files) (what : Place → Option Value) (told : Bool) (shows : Shows files what told) (rules : KeepRules what) where
  have_files : (p : Place) (v : Value) → what p ≡ Some v → HaveFiles (before (path_of p) files) v
  have_files p (live s) is = tt
  have_files p (pending x) is = tt
  have_files p (owed o) is = tt
  have_files p (image t) is = tt
  have_files p (weak keys) is = at p is (rules.kinds p (weak keys) is) where
    at : (p : Place) → what p ≡ Some (weak keys) → IsTrue (is_for p (weak keys)) → HaveFiles (before (path_of p) files) (weak keys)
    at (Live k) is for = absurd (false≢true for)
    at (Meta k n) is for = absurd (false≢true for)
    at (Pend t k) is for = absurd (false≢true for)
    at TheOwed is for = absurd (false≢true for)
    at TheImage is for = absurd (false≢true for)
    at TheWeak is for = λ i d low. let may = rules.weak keys is i d low in
        (may.0, subst IsSome (sym (before_weak files (slice_index_or keys i d))) (some_there _ _ (shows.places (Live (slice_index_or keys i d))) may.1))

  fits_format : (told : Bool) (node : Node) → format_node told ≡ Some node → Fits (before format_path files) format_path node
  unfolding node_in
  fits_format true node there = format refl (ap (λ (o : Option Node). node_in o node) (sym there))
  fits_format false node there = absurd (cc there)

  fits_place : (p : Place) (node : Node) → IsTrue (is_place p) → files (path_of p) ≡ Some node → Fits (before (path_of p) files) (path_of p) node
  fits_place p node valid there =
      let t = shown (what p) (node_of files p) node (shows.places p) (node_there files p valid ∙ there) in
      place p t.bytes valid refl t.node_is
      (record {
        value = t.is;
        kind = rules.kinds p t.is t.value_is;
        spelled = t.spelled;
        apart = λ q clash. before_none (path_of p) files q (none_there (what q) (node_of files q) (shows.places q)
            (rules.apart p q clash (subst IsSome (sym t.value_is) refl)));
        files = have_files p t.is t.value_is;
      })

  fits_named : (path : Names) (node : Node) → files path ≡ Some node → IsNamed path → Fits (before path files) path node
  fits_named path node there (inl is) = subst (λ (q : Names). Fits (before q files) q node) (sym is)
      (fits_format told node (sym shows.format ∙ ap files (sym is) ∙ there))
  fits_named path node there (inr (p, valid, is)) = subst (λ (q : Names). Fits (before q files) q node) (sym is)
      (fits_place p node valid (ap files (sym is) ∙ there))

  -- no path is damaged
  pub sound : HasNoDamage files
  sound path d =
      d.unfit (fits_named path d.node d.there (subst IsNamed (sym d.path_is)
      (shows.named d.name d.rest (subst IsSome (sym (ap files (sym d.path_is) ∙ d.there)) refl))))
