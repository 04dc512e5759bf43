-- A JSON value whose numbers are told by their digits has no fraction.
use Rattle.std.proofs.Common.{◌≡◌, [], Bool, false, ◌||◌, refl}
use Rattle.json.specs.Print.{IsNumber}
use Rattle.json.specs.Tree.{HasNumbers, ItemsHaveNumbers, MembersHaveNumbers}
use Rattle.json.specs.Word.{after_number}
use Rattle.serde_json.specs.Data.{Data, null, boolean, number, string, array, object, unsigned, negative, float}
use Rattle.serde_json.specs.Data.{Items, no_items, item, Members, no_members, member}
use Rattle.serde_json.specs.Written.{outline, items_outline, members_outline, has_float, items_have_float, members_have_float}

-- Neither holds.
neither : (a b : Bool) → a ≡ false → b ≡ false → (a || b) ≡ false
neither a b one other = λ i. one i || other i

-- No digits are no number.
no_digits : IsNumber [] → ⊥
unfolding after_number
no_digits is = cc is

mutual
  pub no_fraction : (d : Data) → HasNumbers (outline d) → has_float d ≡ false
  no_fraction null h = refl
  no_fraction (boolean b) h = refl
  no_fraction (number (unsigned n)) h = refl
  no_fraction (number (negative z)) h = refl
  no_fraction (number (float x)) h = absurd (no_digits h)
  no_fraction (string s) h = refl
  no_fraction (array ds) h = no_fractions ds h
  no_fraction (object ms) h = no_member_fractions ms h

  no_fractions : (ds : Items) → ItemsHaveNumbers (items_outline ds) → items_have_float ds ≡ false
  no_fractions no_items h = refl
  no_fractions (item d ds) h = neither (has_float d) (items_have_float ds) (no_fraction d h.0) (no_fractions ds h.1)

  no_member_fractions : (ms : Members) → MembersHaveNumbers (members_outline ms) → members_have_float ms ≡ false
  no_member_fractions no_members h = refl
  no_member_fractions (member k d ms) h = neither (has_float d) (members_have_float ms) (no_fraction d h.0) (no_member_fractions ms h.1)
