-- The checks that are left, as a loop makes them one after another.
use Rattle.std.proofs.Common.{◌≡◌, ℕ, List, [], ◌∷◌}
use Rattle.model_file.specs.Checks.{Check}
use Rattle.model_file.specs.Refused.{Passes, Refuses}
use Rattle.toml_values.specs.declared.located_fault.LocatedFault.{LocatedFault}
use Rattle.model_file.specs.declared.model_error.ModelKind.{ModelKind}
use Rattle.model_file.proofs.Checking.{refuses_before, refuses_after}

-- What is left decides on all.
pub record Decides (left all : List Check) : Type 0 where
  pub passes : (rows : List (List ℕ × List ℕ)) → Passes rows left → Passes rows all
  pub refuses : (rows : List (List ℕ × List ℕ)) (e : LocatedFault ModelKind) → Refuses rows left e → Refuses rows all e

-- At first all are left.
pub all_left : (all : List Check) → Decides all all
all_left all = record { passes = λ rows hold. hold; refuses = λ rows e refused. refused }

-- One more check holds.
pub one_holds : (left all rest : List Check) (c : Check) → Decides left all → left ≡ c ∷ rest → ((rows : List (List ℕ × List ℕ)) → Passes rows (c ∷ []))
    → Decides rest all
one_holds left all rest c so_far is holds = record {
  passes = λ rows hold. so_far.passes rows (rw is ((holds rows).0, hold));
  refuses = λ rows e refused. so_far.refuses rows e (rw is (refuses_after rows (c ∷ []) rest e (holds rows) refused));
}

-- The next check fails.
pub one_refused : (left all rest : List Check) (c : Check) (e : LocatedFault ModelKind) → Decides left all → left ≡ c ∷ rest
    → ((rows : List (List ℕ × List ℕ)) → Refuses rows (c ∷ []) e)
    → (rows : List (List ℕ × List ℕ)) → Refuses rows all e
one_refused left all rest c e so_far is refused rows = so_far.refuses rows e (rw is (refuses_before rows (c ∷ []) rest e (refused rows)))

-- None is left.
pub none_left : (left all : List Check) → Decides left all → left ≡ [] → (rows : List (List ℕ × List ℕ)) → Passes rows all
none_left left all so_far is rows = so_far.passes rows (rw is tt)
