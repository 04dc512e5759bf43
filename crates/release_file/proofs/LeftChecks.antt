-- The checks that are left, as a loop makes them one after another.
use Rattle.std.proofs.Common.{◌≡◌, List, [], ◌∷◌}
use Rattle.release_file.specs.Checks.{Check}
use Rattle.release_file.specs.Refused.{Passes, Refuses}
use Rattle.toml_values.specs.declared.located_fault.LocatedFault.{LocatedFault}
use Rattle.release_file.specs.declared.release_error.ReleaseKind.{ReleaseKind}
use Rattle.release_file.proofs.Checking.{refuses_before, refuses_after}

-- What is left decides on all.
pub record Decides (left all : List Check) : Type 0 where
  pub passes : Passes left → Passes all
  pub refuses : (e : LocatedFault ReleaseKind) → Refuses left e → Refuses all e

-- At first all are left.
pub all_left : (all : List Check) → Decides all all
all_left all = record { passes = λ hold. hold; refuses = λ e refused. refused }

-- One more check holds.
pub one_holds : (left all rest : List Check) (c : Check) → Decides left all → left ≡ c ∷ rest → (Passes (c ∷ [])) → Decides rest all
one_holds left all rest c so_far is holds = record {
  passes = λ hold. so_far.passes (rw is (holds.0, hold));
  refuses = λ e refused. so_far.refuses e (rw is (refuses_after (c ∷ []) rest e holds refused));
}

-- The next check fails.
pub one_refused : (left all rest : List Check) (c : Check) (e : LocatedFault ReleaseKind) → Decides left all → left ≡ c ∷ rest → (Refuses (c ∷ []) e)
    → Refuses all e
one_refused left all rest c e so_far is refused = so_far.refuses e (rw is (refuses_before (c ∷ []) rest e refused))

-- None is left.
pub none_left : (left all : List Check) → Decides left all → left ≡ [] → Passes all
none_left left all so_far is = so_far.passes (rw is tt)
