-- The first check that fails, in lists that are joined.
use Rattle.std.proofs.Common.{◌≡◌, ◌≢◌, List, [], ◌∷◌, ◌++◌, append_assoc, refl, sym, ap, ◌∙◌, subst}
use Rattle.std.specs.Prelude.{Result, Ok, Err}
use Rattle.std.specs.Result.{IfErr}
use Rattle.json_trees.proofs.Parting.{AllByRecursion-append}
use Rattle.model_file.specs.Rows.{RowTexts}
use Rattle.model_file.specs.Checks.{Check, Holds, kind_of, path_of, IsFirstFailing}
use Rattle.model_file.specs.Refused.{Passes, Refuses, IsAt}
use Rattle.toml_values.specs.declared.located_fault.LocatedFault.{LocatedFault}
use Rattle.toml_values.specs.declared.located_fault.LocatedFault.TheVariants.{Fault, Memory}
use Rattle.model_file.specs.declared.model_error.ModelKind.{ModelKind}

-- All of two lists hold.
pub passes_both : (rows : RowTexts) (xs ys : List Check) → Passes rows xs → Passes rows ys → Passes rows (xs ++ ys)
passes_both rows = AllByRecursion-append (Holds rows)

-- What is the first to fail in a list is so with others after it.
pub failing_before : (rows : RowTexts) (xs ys : List Check) (c : Check) → IsFirstFailing rows xs c → IsFirstFailing rows (xs ++ ys) c
failing_before rows xs ys c first = record {
  before = first.before;
  after = first.after ++ ys;
  split = ap (λ (l : List Check). l ++ ys) first.split ∙ append_assoc first.before (c ∷ first.after) ys;
  hold = first.hold;
  fails = first.fails;
}

-- And with others before it that hold.
pub failing_after : (rows : RowTexts) (xs ys : List Check) (c : Check) → Passes rows xs → IsFirstFailing rows ys c → IsFirstFailing rows (xs ++ ys) c
failing_after rows xs ys c front first = record {
  before = xs ++ first.before;
  after = first.after;
  split = ap (λ (l : List Check). xs ++ l) first.split ∙ sym (append_assoc xs first.before (c ∷ first.after));
  hold = passes_both rows xs first.before front first.hold;
  fails = first.fails;
}

-- A refusal of some checks is one with others after them.
pub refuses_before : (rows : RowTexts) (xs ys : List Check) (e : LocatedFault ModelKind) → Refuses rows xs e → Refuses rows (xs ++ ys) e
refuses_before rows xs ys Memory refused = tt
refuses_before rows xs ys (Fault kind at) refused = (refused.0, failing_before rows xs ys refused.0 refused.1, refused.2, refused.3)

-- And with others before them that hold.
pub refuses_after : (rows : RowTexts) (xs ys : List Check) (e : LocatedFault ModelKind) → Passes rows xs → Refuses rows ys e → Refuses rows (xs ++ ys) e
refuses_after rows xs ys Memory front refused = tt
refuses_after rows xs ys (Fault kind at) front refused = (refused.0, failing_after rows xs ys refused.0 front refused.1, refused.2, refused.3)

-- The first check fails, and the refusal is of its kind and at its path.
pub refuses_first : (rows : RowTexts) (c : Check) (rest : List Check) (e : LocatedFault ModelKind) → (Holds rows c → ⊥) → IsAt (kind_of c) (path_of c) e
    → Refuses rows (c ∷ rest) e
refuses_first rows c rest Memory fails at = tt
refuses_first rows c rest (Fault kind text) fails at = (c, record { before = []; after = rest; split = refl; hold = tt; fails = fails }, at.0, at.1)

-- Unless it ran out of memory, the first check fails, and the refusal is of its kind and at its path.
pub refuses_unless : (rows : RowTexts) (c : Check) (rest : List Check) (e : LocatedFault ModelKind) → (e ≢ Memory → Holds rows c → ⊥)
    → IsAt (kind_of c) (path_of c) e
    → Refuses rows (c ∷ rest) e
refuses_unless rows c rest Memory fails at = tt
refuses_unless rows c rest (Fault kind text) fails at = refuses_first rows c rest (Fault kind text) (fails (λ same. absurd (cc))) at

-- A check that holds is none that fails.
pub none_fails : (rows : RowTexts) (all : List Check) (c : Check) → Passes rows all → IsFirstFailing rows all c → ⊥
none_fails rows all c hold first = by all first.before first.after first.split hold first.fails
  where
    by : (all before after : List Check) → all ≡ before ++ c ∷ after → Passes rows all → (Holds rows c → ⊥) → ⊥
    by [] [] after split hold fails = cc
    by [] (b ∷ before) after split hold fails = cc
    by (x ∷ all) [] after split hold fails = let same : x ≡ c = cc in fails (subst (Holds rows) same hold.0)
    by (x ∷ all) (b ∷ before) after split hold fails = let rest : all ≡ before ++ c ∷ after = cc in by all before after rest hold.1 fails

-- One check alone is the first that fails.
pub one_fails : (rows : RowTexts) (all : List Check) (c d : Check) → IsFirstFailing rows all c → IsFirstFailing rows all d → c ≡ d
one_fails rows all c d one two = by one.before two.before one.after two.after (sym one.split ∙ two.split) one.hold two.hold
  where
    by : (xs ys after other : List Check) → xs ++ c ∷ after ≡ ys ++ d ∷ other → Passes rows xs → Passes rows ys → c ≡ d
    by [] [] after other same front back = cc
    by [] (y ∷ ys) after other same front back = let is : c ≡ y = cc in absurd (one.fails (subst (Holds rows) (sym is) back.0))
    by (x ∷ xs) [] after other same front back = let is : x ≡ d = cc in absurd (two.fails (subst (Holds rows) is front.0))
    by (x ∷ xs) (y ∷ ys) after other same front back = let rest : xs ++ c ∷ after ≡ ys ++ d ∷ other = cc in by xs ys after other rest front.1 back.1

-- ---- results of calls

-- What two clauses say of an error.
pub both_err : {T : Type 0} (r : Result T (LocatedFault ModelKind)) (P Q R : LocatedFault ModelKind → Type 0)
    → ((e : LocatedFault ModelKind) → P e → Q e → R e) → IfErr r P
    → IfErr r Q → IfErr r R
both_err (Ok x) P Q R by p q = tt
both_err (Err e) P Q R by p q = by e p q
