-- The order of versions is total.
use Rattle.std.proofs.Common.{◌≡◌, false, refl, sym, ◌∙◌, ap}
use Rattle.std.specs.Prelude.{IsTrue}
use Rattle.std.specs.declared.cmp.Ordering.{Ordering}
use Rattle.std.specs.declared.cmp.Ordering.TheVariants.{Less, Equal, Greater}
use Rattle.std.specs.Ordering.{is_lt, is_le, ordering_reverse}
use Rattle.std.specs.Cmp.{IsTotalOrder, on_total, alike_right, tied_itself}
use Rattle.std.specs.Cmp.Lexicographic.{nat_list_cmp_total}
use Rattle.std.specs.Prelude.{[], ◌∷◌}
use Rattle.std.specs.BTreeMap.Comparable.{le_lt_trans}
use Rattle.std.proofs.lemmas.Bool.{false≢true}
use Rattle.version_links.specs.declared.version.Version.{Version}
use Rattle.version_links.specs.Versions.{version_cmp}
use Rattle.release_file.specs.Order.{is_before, is_upto}

pub version_total : IsTotalOrder version_cmp
version_total = on_total (λ (v : Version). v.major ∷ v.minor ∷ v.patch ∷ []) nat_list_cmp_total

less : (r : Ordering) → IsTrue (is_lt r) → r ≡ Less
less Less lt = refl
less Equal lt = absurd (false≢true lt)
less Greater lt = absurd (false≢true lt)

pub upto_before : (a b c : Version) → IsTrue (is_upto a b) → IsTrue (is_before b c) → IsTrue (is_before a c)
upto_before a b c le lt = ap is_lt (le_lt_trans version_total a b c le (less (version_cmp b c) lt))

weaker : (r : Ordering) → IsTrue (is_lt r) → IsTrue (is_le r)
weaker Less lt = refl
weaker Equal lt = refl
weaker Greater lt = absurd (false≢true lt)

pub before_upto : (a b : Version) → IsTrue (is_before a b) → IsTrue (is_upto a b)
before_upto a b lt = weaker (version_cmp a b) lt

pub upto_trans : (a b c : Version) → IsTrue (is_upto a b) → IsTrue (is_upto b c) → IsTrue (is_upto a c)
upto_trans a b c le also = elim (version_cmp b c) as (λ r. version_cmp b c ≡ r → IsTrue (is_upto a c)) [
  | Less ↦ λ e. before_upto a c (upto_before a b c le (ap is_lt e))
  | Equal ↦ λ e. ap is_le (sym (alike_right version_total b c a e)) ∙ le
  | Greater ↦ λ e. absurd (false≢true (sym (ap is_le e) ∙ also))
] refl

-- No version is below one that it isn't beyond.
turned : (r : Ordering) → IsTrue (is_lt (ordering_reverse r)) → is_le r ≡ false
turned Less lt = absurd (false≢true lt)
turned Equal lt = absurd (false≢true lt)
turned Greater lt = refl

pub before_back : (a b : Version) → IsTrue (is_before a b) → is_upto b a ≡ false
before_back a b lt = turned (version_cmp b a) (ap is_lt (sym (version_total.antisymm a b)) ∙ lt)

pub upto_itself : (a : Version) → IsTrue (is_upto a a)
upto_itself a = ap is_le (tied_itself version_total a)
