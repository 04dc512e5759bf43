-- What is held with a change laid, place by place.
use Rattle.std.proofs.Common.{◌≡◌, ℕ, List, [], ◌∷◌, Option, Some, Bool, cond, refl, sym, ap, ◌∙◌}
use Rattle.std.specs.Prelude.{IsTrue, Ok}
use Rattle.std.specs.List.{list_all}
use Rattle.key_names.specs.Order.{key_total, bytes_total}
use Rattle.settings_tree.specs.Change.{Place, place, is_same, has_bare_name}
use Rattle.settings_tree.specs.Change.{Live, Meta, Pend, TheOwed, TheImage, TheWeak}
use Rattle.settings_tree.specs.Laid.{laid, laid_one, KeepsPrefixRule, NamesWeak, TellsWeak}
use Rattle.settings_tree.specs.declared.entry.Entry.{Entry}
use Rattle.settings_tree.specs.declared.entry.Entry.TheVariants.{LiveSet, LiveGone, MetaSet, MetaGone, PendSet, PendGone, OwedSet, ImageSet, WeakIs}
use Rattle.settings_tree.specs.declared.held.Held.{Held}
use Rattle.settings_tree.proofs.HeldRules.{content_after, pending_after}
use Rattle.commit_journal.specs.Files.{Files}
use Rattle.fs_datastore.specs.Values.{Value, live, pending, value_in}
use Rattle.fs_datastore.specs.Stands.{Shows, Stands, IsListed}
use Rattle.fs_datastore.specs.Batches.{new_value, with_value, with_entries}
use Rattle.fs_datastore.proofs.Put.{put_at, taken_at, put_in, taken_in}
use Rattle.fs_datastore.proofs.Showing.{shows_alike}

abbrev Keys : Type 0
Keys = Option (List (List (List ℕ)))

-- what the file `weak` lists after an entry
abbrev listed_one : Keys → Entry → Keys
listed_one listed (WeakIs ks) = Some ks
listed_one listed (LiveSet k v) = listed
listed_one listed (LiveGone k) = listed
listed_one listed (MetaSet k n v) = listed
listed_one listed (MetaGone k n) = listed
listed_one listed (PendSet t k v) = listed
listed_one listed (PendGone t k) = listed
listed_one listed (OwedSet o) = listed
listed_one listed (ImageSet t) = listed

-- one entry
one_laid : (h : Held) (listed : Keys) (e : Entry) (p : Place) → with_value (value_in h listed) (place e) (new_value e) p ≡ value_in (laid_one h e)
    (listed_one listed e) p
one_laid h listed (LiveSet k v) (Live q) = sym (put_at key_total live h.live.values k q v)
one_laid h listed (LiveSet k v) (Meta q n) = refl
one_laid h listed (LiveSet k v) (Pend t q) = refl
one_laid h listed (LiveSet k v) TheOwed = refl
one_laid h listed (LiveSet k v) TheImage = refl
one_laid h listed (LiveSet k v) TheWeak = refl
one_laid h listed (LiveGone k) (Live q) = sym (taken_at key_total live h.live.values k q)
one_laid h listed (LiveGone k) (Meta q n) = refl
one_laid h listed (LiveGone k) (Pend t q) = refl
one_laid h listed (LiveGone k) TheOwed = refl
one_laid h listed (LiveGone k) TheImage = refl
one_laid h listed (LiveGone k) TheWeak = refl
one_laid h listed (MetaSet k m v) (Live q) = refl
one_laid h listed (MetaSet k m v) (Meta q n) = sym (put_in key_total bytes_total live h.live.metadata k q m n v)
one_laid h listed (MetaSet k m v) (Pend t q) = refl
one_laid h listed (MetaSet k m v) TheOwed = refl
one_laid h listed (MetaSet k m v) TheImage = refl
one_laid h listed (MetaSet k m v) TheWeak = refl
one_laid h listed (MetaGone k m) (Live q) = refl
one_laid h listed (MetaGone k m) (Meta q n) = sym (taken_in key_total bytes_total live h.live.metadata k q m n)
one_laid h listed (MetaGone k m) (Pend t q) = refl
one_laid h listed (MetaGone k m) TheOwed = refl
one_laid h listed (MetaGone k m) TheImage = refl
one_laid h listed (MetaGone k m) TheWeak = refl
one_laid h listed (PendSet u k v) (Live q) = refl
one_laid h listed (PendSet u k v) (Meta q n) = refl
one_laid h listed (PendSet u k v) (Pend t q) = sym (put_in bytes_total key_total pending h.pending u t k q v)
one_laid h listed (PendSet u k v) TheOwed = refl
one_laid h listed (PendSet u k v) TheImage = refl
one_laid h listed (PendSet u k v) TheWeak = refl
one_laid h listed (PendGone u k) (Live q) = refl
one_laid h listed (PendGone u k) (Meta q n) = refl
one_laid h listed (PendGone u k) (Pend t q) = sym (taken_in bytes_total key_total pending h.pending u t k q)
one_laid h listed (PendGone u k) TheOwed = refl
one_laid h listed (PendGone u k) TheImage = refl
one_laid h listed (PendGone u k) TheWeak = refl
one_laid h listed (OwedSet o) (Live q) = refl
one_laid h listed (OwedSet o) (Meta q n) = refl
one_laid h listed (OwedSet o) (Pend t q) = refl
one_laid h listed (OwedSet o) TheOwed = refl
one_laid h listed (OwedSet o) TheImage = refl
one_laid h listed (OwedSet o) TheWeak = refl
one_laid h listed (ImageSet i) (Live q) = refl
one_laid h listed (ImageSet i) (Meta q n) = refl
one_laid h listed (ImageSet i) (Pend t q) = refl
one_laid h listed (ImageSet i) TheOwed = refl
one_laid h listed (ImageSet i) TheImage = refl
one_laid h listed (ImageSet i) TheWeak = refl
one_laid h listed (WeakIs ks) (Live q) = refl
one_laid h listed (WeakIs ks) (Meta q n) = refl
one_laid h listed (WeakIs ks) (Pend t q) = refl
one_laid h listed (WeakIs ks) TheOwed = refl
one_laid h listed (WeakIs ks) TheImage = refl
one_laid h listed (WeakIs ks) TheWeak = refl

-- values that are alike are so with one more
with_alike : (a b : Place → Option Value) → ((p : Place) → a p ≡ b p) → (at : Place) (v : Option Value) (p : Place) → with_value a at v p ≡ with_value b at v p
with_alike a b same at v p = ap (λ (o : Option Value). cond (is_same p at) v o) (same p)

entries_alike : (a b : Place → Option Value) → ((p : Place) → a p ≡ b p) → (es : List Entry) (p : Place) → with_entries a es p ≡ with_entries b es p
entries_alike a b same [] p = same p
entries_alike a b same (e ∷ es) p = entries_alike (with_value a (place e) (new_value e)) (with_value b (place e) (new_value e))
    (with_alike a b same (place e) (new_value e)) es p

-- the values after all entries, and what `weak` lists then
record AllLaid (h : Held) (told : Bool) (listed : Keys) (es : List Entry) : Type 0 where
  now : Keys
  values : (p : Place) → with_entries (value_in h listed) es p ≡ value_in (laid h es) now p
  weak_is : IsListed told now (laid h es).live.weak

weak_one : (h : Held) (told : Bool) (listed : Keys) (e : Entry) → IsListed told listed h.live.weak
    → IsListed told (listed_one listed e) (laid_one h e).live.weak
weak_one h told listed (WeakIs ks) is = refl
weak_one h told listed (LiveSet k v) is = is
weak_one h told listed (LiveGone k) is = is
weak_one h told listed (MetaSet k n v) is = is
weak_one h told listed (MetaGone k n) is = is
weak_one h told listed (PendSet t k v) is = is
weak_one h told listed (PendGone t k) is = is
weak_one h told listed (OwedSet o) is = is
weak_one h told listed (ImageSet t) is = is

all_laid : (h : Held) (told : Bool) (listed : Keys) (es : List Entry) → IsListed told listed h.live.weak → AllLaid h told listed es
all_laid h told listed [] is = record { now = listed; values = λ p. refl; weak_is = is }
all_laid h told listed (e ∷ es) is =
    let rest = all_laid (laid_one h e) told (listed_one listed e) es (weak_one h told listed e is) in
    record {
      now = rest.now;
      values = λ p. entries_alike (with_value (value_in h listed) (place e) (new_value e)) (value_in (laid_one h e) (listed_one listed e)) (one_laid h listed e)
          es p ∙ rest.values p;
      weak_is = rest.weak_is;
    }

-- files that show the values after all entries represent what is held with the change laid
pub stands_laid : (files others : Files) (h : Held) (format : ℕ) (es : List Entry) → Stands files h format → IsTrue (list_all has_bare_name es)
    → KeepsPrefixRule (laid h es) → NamesWeak h es → TellsWeak h es
    → ((what : Place → Option Value) (told : Bool) → Shows files what told → Shows others (with_entries what es) told) → Stands others (laid h es) format
stands_laid files others h format es s bare rule names tells shows =
    let all = all_laid h s.told s.listed es s.weak_is in
    record {
      told = s.told;
      listed = all.now;
      shows = shows_alike others (with_entries (value_in h s.listed) es) (value_in (laid h es) all.now) s.told all.values
          (shows (value_in h s.listed) s.told s.shows);
      format_is = s.format_is;
      weak_is = all.weak_is;
      content = content_after {T = Unit {0}} {E = Unit {0}} (Ok tt) h h (laid h es) es es refl refl refl tt s.content s.pending rule bare names tells;
      pending = pending_after {T = Unit {0}} {E = Unit {0}} (Ok tt) h h (laid h es) es es refl refl refl tt s.content s.pending rule;
    }
