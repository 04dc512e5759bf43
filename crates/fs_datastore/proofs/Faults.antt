-- Files have at most one fault, and none where they represent something.
use Rattle.std.proofs.Common.{◌≡◌, ℕ, List, Option, Some, None, IsSome, Bool, true, false, refl, sym, ap, ◌∙◌}
use Rattle.std.specs.Prelude.{IsTrue}
use Rattle.std.specs.declared.cmp.Ordering.{Ordering}
use Rattle.std.specs.declared.cmp.Ordering.TheVariants.{Less, Equal, Greater}
use Rattle.std.specs.Ordering.{is_lt, ordering_reverse}
use Rattle.std.proofs.lemmas.Bool.{false≢true}
use Rattle.outside.specs.Names.{Names, path_cmp}
use Rattle.outside.specs.Order.{path_total}
use Rattle.outside.specs.Tree.{Node}
use Rattle.outside.proofs.Trees.{path_same}
use Rattle.commit_journal.specs.Files.{Files}
use Rattle.settings_tree.specs.Change.{TheOwed, TheImage, TheWeak}
use Rattle.settings_tree.specs.declared.held.Held.{Held}
use Rattle.fs_datastore.specs.Places.{path_of, format_path}
use Rattle.fs_datastore.specs.Values.{Value, owed, image, value_in}
use Rattle.fs_datastore.specs.Stands.{IsFileOf, IsListed, format_node}
use Rattle.fs_datastore.specs.Damage.{IsDamaged, damaged, no_owed, no_image, no_weak}
use Rattle.fs_datastore.specs.Laws.{StandsFaultless, HasOneFault}
use Rattle.fs_datastore.proofs.Sound.{sound}
use Rattle.fs_datastore.proofs.Rules.{held_rules}

-- ---- one fault

missing : (o : Option Node) → o ≡ None → IsSome o → ⊥
missing None none some = false≢true some
missing (Some n) none some = cc none

first_damaged : (files : Files) (one other : Names) → IsDamaged files one → ((q : Names) → IsTrue (is_lt (path_cmp q one)) → IsDamaged files q → ⊥)
    → IsDamaged files other → ((q : Names) → IsTrue (is_lt (path_cmp q other)) → IsDamaged files q → ⊥) → one ≡ other
first_damaged files one other d least e also = by (path_cmp one other) refl where
  by : (r : Ordering) → path_cmp one other ≡ r → one ≡ other
  by Less is = absurd (also one (ap is_lt is) d)
  by Equal is = path_same one other is
  by Greater is = absurd (least other (ap is_lt (path_total.antisymm other one ∙ ap ordering_reverse is)) e)

pub one_fault : HasOneFault
one_fault files one other (damaged d least) (damaged e also) = first_damaged files one other d least e also
one_fault files one other (damaged d least) (no_owed none is gone) = absurd (none one d)
one_fault files one other (damaged d least) (no_image none is gone o) = absurd (none one d)
one_fault files one other (damaged d least) (no_weak none is gone o i f) = absurd (none one d)
one_fault files one other (no_owed none is gone) (damaged e also) = absurd (none other e)
one_fault files one other (no_image none is gone o) (damaged e also) = absurd (none other e)
one_fault files one other (no_weak none is gone o i f) (damaged e also) = absurd (none other e)
one_fault files one other (no_owed none is gone) (no_owed a b c) = is ∙ sym b
one_fault files one other (no_owed none is gone) (no_image a b c o) = absurd (missing _ (ap files (sym is) ∙ gone) o)
one_fault files one other (no_owed none is gone) (no_weak a b c o i f) = absurd (missing _ (ap files (sym is) ∙ gone) o)
one_fault files one other (no_image none is gone o) (no_owed a b c) = absurd (missing _ (ap files (sym b) ∙ c) o)
one_fault files one other (no_image none is gone o) (no_image a b c p) = is ∙ sym b
one_fault files one other (no_image none is gone o) (no_weak a b c p i f) = absurd (missing _ (ap files (sym is) ∙ gone) i)
one_fault files one other (no_weak none is gone o i f) (no_owed a b c) = absurd (missing _ (ap files (sym b) ∙ c) o)
one_fault files one other (no_weak none is gone o i f) (no_image a b c p) = absurd (missing _ (ap files (sym b) ∙ c) i)
one_fault files one other (no_weak none is gone o i f) (no_weak a b c p j g) = is ∙ sym b

-- ---- no fault

gone_none : (v : Value) (node : Option Node) → IsFileOf (Some v) node → node ≡ None → ⊥
gone_none v node is none = cc (is.1, none)

told_format : (told : Bool) (node : Option Node) → node ≡ format_node told → IsSome node → told ≡ true
told_format true node is some = refl
told_format false node is some = absurd (missing node is some)

listed_where_told : (told : Bool) (listed : Option (List (List (List ℕ)))) (keys : List (List (List ℕ))) → IsListed told listed keys → told ≡ true
    → IsSome listed
listed_where_told told None keys is so = absurd (false≢true (sym is.0 ∙ so))
listed_where_told told (Some ks) keys is so = refl

weak_there : (h : Held) (listed : Option (List (List (List ℕ)))) (node : Option Node) → IsFileOf (value_in h listed TheWeak) node → IsSome listed → node ≡ None
    → ⊥
weak_there h None node is some none = false≢true some
weak_there h (Some ks) node is some none = cc (is.1, none)

pub faultless : StandsFaultless
faultless files held format path s (damaged d least) = sound files (value_in held s.listed) s.told s.shows
    (held_rules held s.told s.listed s.content s.pending s.weak_is) path d
faultless files held format path s (no_owed none is gone) = gone_none (owed held.owed) (files (path_of TheOwed)) (s.shows.places TheOwed)
    (ap files (sym is) ∙ gone)
faultless files held format path s (no_image none is gone o) = gone_none (image held.image) (files (path_of TheImage)) (s.shows.places TheImage)
    (ap files (sym is) ∙ gone)
faultless files held format path s (no_weak none is gone o i f) =
    weak_there held s.listed (files (path_of TheWeak)) (s.shows.places TheWeak)
    (listed_where_told s.told s.listed held.live.weak s.weak_is (told_format s.told (files format_path) s.shows.format f)) (ap files (sym is) ∙ gone)
