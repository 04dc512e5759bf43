-- The first check that fails, in lists that are joined.
use Rattle.std.proofs.Common.{◌≡◌, ◌≢◌, List, [], ◌∷◌, ◌++◌, append_assoc, refl, sym, ap, ◌∙◌, subst}
use Rattle.json_trees.proofs.Parting.{AllByRecursion-append}
use Rattle.release_file.specs.Checks.{Check, Holds, fault_of, name_of, IsFirstFailing}
use Rattle.release_file.specs.Refused.{Passes, Refuses}
use Rattle.toml_values.specs.Refused.{IsAt}
use Rattle.toml_values.specs.declared.located_fault.LocatedFault.{LocatedFault}
use Rattle.toml_values.specs.declared.located_fault.LocatedFault.TheVariants.{Fault, Memory}
use Rattle.release_file.specs.declared.release_error.ReleaseKind.{ReleaseKind}

-- All of two lists hold.
pub passes_both : (xs ys : List Check) → Passes xs → Passes ys → Passes (xs ++ ys)
passes_both = AllByRecursion-append Holds

-- All of the second hold where all of both do.
pub passes_behind : (xs ys : List Check) → Passes (xs ++ ys) → Passes ys
passes_behind [] ys all = all
passes_behind (x ∷ xs) ys all = passes_behind xs ys all.1

-- What is the first to fail in a list is so with others after it.
pub failing_before : (xs ys : List Check) (c : Check) → IsFirstFailing xs c → IsFirstFailing (xs ++ ys) c
failing_before xs ys c first = record {
  before = first.before;
  after = first.after ++ ys;
  split = ap (λ (l : List Check). l ++ ys) first.split ∙ append_assoc first.before (c ∷ first.after) ys;
  hold = first.hold;
  fails = first.fails;
}

-- And with others before it that hold.
pub failing_after : (xs ys : List Check) (c : Check) → Passes xs → IsFirstFailing ys c → IsFirstFailing (xs ++ ys) c
failing_after xs ys c front first = record {
  before = xs ++ first.before;
  after = first.after;
  split = ap (λ (l : List Check). xs ++ l) first.split ∙ sym (append_assoc xs first.before (c ∷ first.after));
  hold = passes_both xs first.before front first.hold;
  fails = first.fails;
}

-- A refusal of some checks is one with others after them.
pub refuses_before : (xs ys : List Check) (e : LocatedFault ReleaseKind) → Refuses xs e → Refuses (xs ++ ys) e
refuses_before xs ys Memory refused = tt
refuses_before xs ys (Fault kind at) refused = (refused.0, failing_before xs ys refused.0 refused.1, refused.2, refused.3)

-- And with others before them that hold.
pub refuses_after : (xs ys : List Check) (e : LocatedFault ReleaseKind) → Passes xs → Refuses ys e → Refuses (xs ++ ys) e
refuses_after xs ys Memory front refused = tt
refuses_after xs ys (Fault kind at) front refused = (refused.0, failing_after xs ys refused.0 front refused.1, refused.2, refused.3)

-- The first check fails, and the refusal is of its kind and at its path.
pub refuses_first : (c : Check) (rest : List Check) (e : LocatedFault ReleaseKind) → (Holds c → ⊥) → IsAt (fault_of c) (name_of c) e → Refuses (c ∷ rest) e
refuses_first c rest Memory fails at = tt
refuses_first c rest (Fault kind text) fails at = (c, record { before = []; after = rest; split = refl; hold = tt; fails = fails }, at.0, at.1)

-- Unless it ran out of memory, the first check fails, and the refusal is of its kind and at its path.
pub refuses_unless : (c : Check) (rest : List Check) (e : LocatedFault ReleaseKind) → (e ≢ Memory → Holds c → ⊥) → IsAt (fault_of c) (name_of c) e
    → Refuses (c ∷ rest) e
refuses_unless c rest Memory fails at = tt
refuses_unless c rest (Fault kind text) fails at = refuses_first c rest (Fault kind text) (fails (λ same. absurd (cc))) at

-- A check that holds is none that fails.
pub none_fails : (all : List Check) (c : Check) → Passes all → IsFirstFailing all c → ⊥
none_fails all c hold first = by all first.before first.after first.split hold first.fails
  where
    by : (all before after : List Check) → all ≡ before ++ c ∷ after → Passes all → (Holds c → ⊥) → ⊥
    by [] [] after split hold fails = cc
    by [] (b ∷ before) after split hold fails = cc
    by (x ∷ all) [] after split hold fails = let same : x ≡ c = cc in fails (subst (Holds) same hold.0)
    by (x ∷ all) (b ∷ before) after split hold fails = let rest : all ≡ before ++ c ∷ after = cc in by all before after rest hold.1 fails

-- One check alone is the first that fails.
pub one_fails : (all : List Check) (c d : Check) → IsFirstFailing all c → IsFirstFailing all d → c ≡ d
one_fails all c d one two = by one.before two.before one.after two.after (sym one.split ∙ two.split) one.hold two.hold
  where
    by : (xs ys after other : List Check) → xs ++ c ∷ after ≡ ys ++ d ∷ other → Passes xs → Passes ys → c ≡ d
    by [] [] after other same front back = cc
    by [] (y ∷ ys) after other same front back = let is : c ≡ y = cc in absurd (one.fails (subst (Holds) (sym is) back.0))
    by (x ∷ xs) [] after other same front back = let is : x ≡ d = cc in absurd (two.fails (subst (Holds) is front.0))
    by (x ∷ xs) (y ∷ ys) after other same front back = let rest : xs ++ c ∷ after ≡ ys ++ d ∷ other = cc in by xs ys after other rest front.1 back.1
