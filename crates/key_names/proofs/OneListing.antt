-- A text lists one list of keys at most, has one fault at most, and never both.
use Rattle.std.proofs.Common.{◌≡◌, ◌≢◌, ℕ, List, ◌++◌, true, sym, ◌∙◌, ap, subst, Result, Ok, Err}
use Rattle.std.specs.Prelude.{IfOk, IfErr, MatchResult}
use Rattle.key_names.specs.declared.key_error.KeyError.{KeyError}
use Rattle.key_names.specs.declared.key_error.KeyFault.{KeyFault}
use Rattle.key_names.specs.declared.key_error.KeyFault.TheVariants.{Memory}
use Rattle.key_names.specs.Joined.{Ends}
use Rattle.key_names.specs.Spelling.{SpellsKey}
use Rattle.key_names.specs.Faults.{Refuses, IsRefused}
use Rattle.key_names.specs.Listing.{Lists, PieceFault, RefusesList}
use Rattle.key_names.proofs.OneReading.{one_key, one_refusal, no_refusal, memory_left}
use Rattle.key_names.proofs.OneParting.{OneItem, OneFault, one_joined, no_fault_behind, one_fault_behind}
use Rattle.key_names.proofs.Pieces.{cut, cut-key, cut-IsPiece}

-- the key at the head of a text is determined
one_listed : OneItem SpellsKey 44
one_listed = record { one = λ f r g s x y is ends is' ends' same. parts f r g s x y is ends is' ends' same }
  where
    parts : (f r g s : List ℕ) (x y : List (List ℕ)) → SpellsKey f x → Ends 44 r → SpellsKey g y → Ends 44 s → f ++ r ≡ g ++ s → (f ≡ g) × (x ≡ y) × (r ≡ s)
    parts f r g s x y is ends is' ends' same =
        let both = sym (cut-key x f r is.spells ends) ∙ ap (cut true) same ∙ cut-key y g s is'.spells ends' in
        let front = ap (λ (p : List ℕ × List ℕ). p.0) both in
        (front, one_key is (subst (λ t. SpellsKey t y) (sym front) is'), ap (λ (p : List ℕ × List ℕ). p.1) both)

-- so is the fault there
one_piece_fault : OneFault SpellsKey 44 PieceFault
one_piece_fault = record {
  none = λ f r x kind offset is ends wrong. nothing f r x kind offset is ends wrong;
  one =
      λ text a b i j wrong wrong'. same text a b i j wrong wrong';
}
  where
    nothing : (f r : List ℕ) (x : List (List ℕ)) (kind : KeyFault) (offset : ℕ) → SpellsKey f x → Ends 44 r → PieceFault (f ++ r) kind offset → ⊥
    nothing f r x kind offset is ends wrong =
        let front = ap (λ (p : List ℕ × List ℕ). p.0) (sym (cut-IsPiece wrong.is_piece) ∙ cut-key x f r is.spells ends) in
        no_refusal is (subst (λ t. Refuses t kind offset) front wrong.fault)

    same : (text : List ℕ) (a b : KeyFault) (i j : ℕ) → PieceFault text a i → PieceFault text b j → (a ≡ b) × (i ≡ j)
    same text a b i j wrong wrong' =
        let front = ap (λ (p : List ℕ × List ℕ). p.0) (sym (cut-IsPiece wrong'.is_piece) ∙ cut-IsPiece wrong.is_piece) in
        one_refusal wrong.fault (subst (λ t. Refuses t b j) front wrong'.fault)

module _
    {V : Type 0} (items : V → List (List (List ℕ))) (text : List ℕ) (result : Result V KeyError)
    (ok : IfOk result (λ read. Lists text (items read)))
    (refused : IfErr result (λ e. e.kind ≢ Memory → RefusesList text e.kind e.place)) where
  -- the keys that the text lists are read
  pub listed_read : (keys : List (List (List ℕ))) → Lists text keys → MatchResult result (λ read. items read ≡ keys) (λ e. e.kind ≡ Memory)
  listed_read keys lists = of_result result ok refused
    where
      of_result : (r : Result V KeyError) → IfOk r (λ read. Lists text (items read)) → IfErr r (λ e. e.kind ≢ Memory → RefusesList text e.kind e.place)
          → MatchResult r (λ read. items read ≡ keys) (λ e. e.kind ≡ Memory)
      of_result (Ok read) lists' refused = one_joined SpellsKey 44 one_listed (items read) keys text lists' lists
      of_result (Err e) ok refused = memory_left e.kind (λ other. no_fault_behind SpellsKey 44 one_listed PieceFault one_piece_fault keys text e.kind e.place
          lists (refused other))

  -- where the text is refused, the answer is the fault
  pub list_fault_read : (kind : KeyFault) (place : ℕ) → RefusesList text kind place → IsRefused result kind place
  list_fault_read kind place f = of_result result ok refused
    where
      of_result : (r : Result V KeyError) → IfOk r (λ read. Lists text (items read)) → IfErr r (λ e. e.kind ≢ Memory → RefusesList text e.kind e.place)
          → IsRefused r kind place
      of_result (Ok read) lists refused = no_fault_behind SpellsKey 44 one_listed PieceFault one_piece_fault (items read) text kind place lists f
      of_result (Err e) ok refused = λ other. one_fault_behind SpellsKey 44 one_listed PieceFault one_piece_fault text e.kind kind e.place place (refused other)
          f
