-- Checks in four parts, one after the other.
use Rattle.std.proofs.Common.{ℕ, List, ◌++◌}
use Rattle.model_file.specs.Checks.{Check}
use Rattle.model_file.specs.Refused.{Passes, Refuses}
use Rattle.toml_values.specs.declared.located_fault.LocatedFault.{LocatedFault}
use Rattle.model_file.specs.declared.model_error.ModelKind.{ModelKind}
use Rattle.model_file.proofs.Checking.{passes_both, refuses_before, refuses_after}

module _ (rows : List (List ℕ × List ℕ)) (a b c d : List Check) where
  -- All hold where those of each part do.
  pub all_pass : Passes rows a → Passes rows b → Passes rows c → Passes rows d → Passes rows (((a ++ b) ++ c) ++ d)
  all_pass first second third fourth = passes_both rows ((a ++ b) ++ c) d (passes_both rows (a ++ b) c (passes_both rows a b first second) third) fourth

  -- The first part is refused.
  pub first_refuses : (e : LocatedFault ModelKind) → Refuses rows a e → Refuses rows (((a ++ b) ++ c) ++ d) e
  first_refuses e refused = refuses_before rows ((a ++ b) ++ c) d e (refuses_before rows (a ++ b) c e (refuses_before rows a b e refused))

  -- The second is, and the first holds.
  pub second_refuses : (e : LocatedFault ModelKind) → Passes rows a → Refuses rows b e → Refuses rows (((a ++ b) ++ c) ++ d) e
  second_refuses e first refused = refuses_before rows ((a ++ b) ++ c) d e (refuses_before rows (a ++ b) c e (refuses_after rows a b e first refused))

  -- The third is, and both before hold.
  pub third_refuses : (e : LocatedFault ModelKind) → Passes rows a → Passes rows b → Refuses rows c e → Refuses rows (((a ++ b) ++ c) ++ d) e
  third_refuses e first second refused = refuses_before rows ((a ++ b) ++ c) d e (refuses_after rows (a ++ b) c e (passes_both rows a b first second) refused)

  -- The fourth is, and all before hold.
  pub fourth_refuses : (e : LocatedFault ModelKind) → Passes rows a → Passes rows b → Passes rows c → Refuses rows d e → Refuses rows (((a ++ b) ++ c) ++ d) e
  fourth_refuses e first second third refused = refuses_after rows ((a ++ b) ++ c) d e (passes_both rows (a ++ b) c (passes_both rows a b first second) third)
      refused
