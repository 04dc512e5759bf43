-- What is written to the log for events, one after another.
use Rattle.std.proofs.Common.{◌≡◌, ◌≤◌, ℕ, List, [], ◌∷◌, ◌++◌, append_assoc, append-nil, refl, sym, ◌∙◌, ap, subst, arith, inl, inr}
use Rattle.outside.specs.Faults.{Rose}
use Rattle.outside.proofs.Told.{moves_stay, moves_map, moves_then}
use Rattle.settings_machine.specs.World.{Image, World}
use Rattle.settings_machine.specs.Events.{Event, next, after}
use Rattle.event_lines.specs.Lines.{lines_of}
use Rattle.event_lines.specs.Logs.{LogState, IsWritten, AreWritten, Appends, Logs, Tells}

-- ---- a failure counts in a longer run too

-- The count rose over a longer run where it rose over a part of it.
rose : (before from to now : ℕ) → before ≤ from → to ≤ now → Rose from to → Rose before now
rose before from to now later more risen = omega arith

written_more : (Failed More : Type 0) (lines written : List ℕ) → (Failed → More) → IsWritten Failed lines written → IsWritten More lines written
written_more Failed More lines written more w =
    elim w [
      | inl all ↦ inl all
      | inr other ↦ elim other [
        | inl lost ↦ inr (inl lost)
        | inr part ↦ inr (inr (more part.0, part.1))
      ]
    ]

all_more : (Failed More : Type 0) (I : Image) (W : World) (es : List Event) (written : List ℕ) → (Failed → More) → AreWritten Failed I W es written
    → AreWritten More I W es written
all_more Failed More I W [] written more are = are
all_more Failed More I W (e ∷ es) written more are =
    (are.0, are.1, are.2, written_more Failed More (lines_of I W e) are.0 more are.3, all_more Failed More I (next I W e) es are.1 more are.4)

-- ---- one run after another

both_written : (Failed : Type 0) (I : Image) (W : World) (es fs : List Event) (first second : List ℕ) → AreWritten Failed I W es first
    → AreWritten Failed I (after I W es) fs second → AreWritten Failed I W (es ++ fs) (first ++ second)
both_written Failed I W [] fs first second none are = subst (λ (l : List ℕ). AreWritten Failed I W fs (l ++ second)) (sym none) are
both_written Failed I W (e ∷ es) fs first second some are = (
  some.0,
  some.1 ++ second,
  ap (λ (l : List ℕ). l ++ second) some.2 ∙ append_assoc some.0 some.1 second,
  some.3,
  both_written Failed I (next I W e) es fs some.1 second some.4 are,
)

both_appended : (F G Whole : Type 0) (I : Image) (W : World) (es fs : List Event) (s t u : List ℕ) → (F → Whole) → (G → Whole) → Appends F I W es s t
    → Appends G I (after I W es) fs t u → Appends Whole I W (es ++ fs) s u
both_appended F G Whole I W es fs s t u f g one two = record {
  written = one.written ++ two.written;
  is = two.is ∙ ap (λ (l : List ℕ). l ++ two.written) one.is ∙ append_assoc s one.written two.written;
  are = both_written Whole I W es fs one.written two.written (all_more F Whole I W es one.written f one.are)
      (all_more G Whole I (after I W es) fs two.written g two.are);
}

-- No event is logged by nothing.
pub logs_none : (I : Image) (W : World) (s : LogState) → Logs I W [] s s
logs_none I W s = record {
  later = omega arith;
  wrote = moves_stay (λ told. record { written = []; is = sym (append-nil told); are = refl });
}

-- Events are logged, and then others.
pub logs_then : (I : Image) (W : World) (es fs : List Event) (a b c : LogState) → Logs I W es a b → Logs I (after I W es) fs b c → Logs I W (es ++ fs) a c
logs_then I W es fs a b c one two = record {
  later = omega (arith, one.later, two.later);
  wrote = moves_then
      (λ s t u front back. both_appended (Rose a.faults b.faults) (Rose b.faults c.faults) (Rose a.faults c.faults) I W es fs s t u
      (rose a.faults a.faults b.faults c.faults (omega arith) two.later) (rose a.faults b.faults c.faults c.faults one.later (omega arith)) front back)
      one.wrote two.wrote;
}

-- One event is logged by its lines.
pub logs_event : (I : Image) (W : World) (e : Event) (a b : LogState) → Tells (lines_of I W e) a b → Logs I W (e ∷ []) a b
logs_event I W e a b tells = record {
  later = tells.later;
  wrote = moves_map
      (λ s t one. record { written = one.written; is = one.is; are = (one.written, [], sym (append-nil one.written), one.are, refl) })
      tells.wrote;
}

-- An event that has no lines is logged by nothing.
pub logs_silent : (I : Image) (W : World) (e : Event) (s : LogState) → lines_of I W e ≡ [] → Logs I W (e ∷ []) s s
logs_silent I W e s silent = record {
  later = omega arith;
  wrote = moves_stay (λ told. record { written = []; is = sym (append-nil told); are = ([], [], refl, inl (sym silent), refl) });
}
