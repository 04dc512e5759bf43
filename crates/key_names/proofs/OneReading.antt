-- A text spells one key at most, has one fault at most, and never both.
use Rattle.std.proofs.Common.{◌≡◌, ◌≢◌, ℕ, List, ◌∷◌, ◌++◌, length, refl, sym, ◌∙◌, ap, subst, inr, Result, Ok, Err}
use Rattle.std.specs.Prelude.{IfOk, IfErr}
use Rattle.std.specs.List.{prefix_len}
use Rattle.key_names.specs.declared.key_error.KeyError.{KeyError}
use Rattle.key_names.specs.declared.key_error.KeyFault.{KeyFault}
use Rattle.key_names.specs.declared.key_error.KeyFault.TheVariants.{Empty, BadByte, Unclosed, TooMany, SegmentTooLong, TooLong, Memory}
use Rattle.key_names.specs.Segment.{has_short_name}
use Rattle.key_names.specs.Joined.{Ends}
use Rattle.key_names.specs.Spelling.{IsSpelling, SpellsKey}
use Rattle.key_names.specs.Faults.{FaultAt, BeginsAt, Breaks, LimitAt, at_surplus, at_overlong, at_end, Refuses, grammar, limit, IsRead, IsRefused}
use Rattle.key_names.proofs.Runs.{prefix_len-run}
use Rattle.key_names.proofs.KeyLimits.{breaks_none}
use Rattle.key_names.proofs.ChildFaults.{one_limit}
use Rattle.key_names.proofs.First.{head, fault, first, first-spelling, first-fault}
use Rattle.key_names.proofs.OneParting.{OneItem, OneFault, one_joined, one_place, no_fault_behind, one_fault_behind}

-- the segment at the head of a text is determined
pub one_segment : OneItem IsSpelling 46
one_segment = record { one = λ f r g s x y spelled ends spelled' ends' same. parts f r g s x y spelled ends spelled' ends' same }
  where
    parts : (f r g s x y : List ℕ) → IsSpelling f x → Ends 46 r → IsSpelling g y → Ends 46 s → f ++ r ≡ g ++ s → (f ≡ g) × (x ≡ y) × (r ≡ s)
    parts f r g s x y spelled ends spelled' ends' same =
        let p = first-spelling f x r spelled ends in
        let q = first-spelling g y s spelled' ends' in
        let heads : head f x r ≡ head g y s = sym p ∙ ap first same ∙ q in
        (cc, cc, cc)

-- so is the fault there
one_head_fault : OneFault IsSpelling 46 FaultAt
one_head_fault = record {
  none = λ f r x kind offset spelled ends wrong. nothing f r x kind offset spelled ends wrong;
  one =
      λ text a b i j wrong wrong'. same text a b i j wrong wrong';
}
  where
    nothing : (f r x : List ℕ) (kind : KeyFault) (offset : ℕ) → IsSpelling f x → Ends 46 r → FaultAt (f ++ r) kind offset → ⊥
    nothing f r x kind offset spelled ends wrong =
        let both : head f x r ≡ fault kind offset = sym (first-spelling f x r spelled ends) ∙ first-fault wrong in cc

    same : (text : List ℕ) (a b : KeyFault) (i j : ℕ) → FaultAt text a i → FaultAt text b j → (a ≡ b) × (i ≡ j)
    same text a b i j wrong wrong' = let both : fault a i ≡ fault b j = sym (first-fault wrong) ∙ first-fault wrong' in (cc, cc)

-- the segment after as many segments begins at one place
one_beginning : {text : List ℕ} {before before' : List (List ℕ)} {p q : ℕ} → length before ≡ length before' → BeginsAt text before p → BeginsAt text before' q
    → p ≡ q
one_beginning {text} {before} {before'} as_many a b = a.place_is ∙ one_place IsSpelling 46 one_segment before before' text a.front a.rest b.front b.rest as_many
    a.leads a.text_is b.leads b.text_is ∙ sym b.place_is

-- a limit is broken at one place
one_limit_place : {text : List ℕ} {segments : List (List ℕ)} {kind : KeyFault} {p q : ℕ} → LimitAt text segments kind p → LimitAt text segments kind q → p ≡ q
one_limit_place (at_surplus before x others p is full begins) (at_surplus before' x' others' q is' full' begins') =
    one_beginning (full ∙ sym full') begins begins'
one_limit_place (at_overlong before x others p is short long begins) (at_overlong before' x' others' q is' short' long' begins') =
    one_beginning
    (sym (prefix_len-run has_short_name before (x ∷ others) short (inr (x, others, refl, long)))
    ∙ ap (prefix_len has_short_name) (sym is ∙ is')
    ∙ prefix_len-run has_short_name before' (x' ∷ others') short' (inr (x', others', refl, long')))
    begins begins'
one_limit_place at_end at_end = refl

-- a text is refused for one fault at one place
pub one_refusal : {text : List ℕ} {a b : KeyFault} {p q : ℕ} → Refuses text a p → Refuses text b q → (a ≡ b) × (p ≡ q)
one_refusal {text} {a} {b} {p} {q} (grammar f) (grammar g) = one_fault_behind IsSpelling 46 one_segment FaultAt one_head_fault text a b p q f g
one_refusal {text} {a} {b} {p} {q} (grammar f) (limit segments spells breaks stands) =
    absurd (no_fault_behind IsSpelling 46 one_segment FaultAt one_head_fault segments text a p spells f)
one_refusal {text} {a} {b} {p} {q} (limit segments spells breaks stands) (grammar f) =
    absurd (no_fault_behind IsSpelling 46 one_segment FaultAt one_head_fault segments text b q spells f)
one_refusal {text} {a} {b} {p} {q} (limit segments spells breaks stands) (limit segments' spells' breaks' stands') =
    let same = one_joined IsSpelling 46 one_segment segments' segments text spells' spells in
    let kind = one_limit breaks (subst (λ s. Breaks s b) same breaks') in
    (kind, one_limit_place stands (subst (λ k. LimitAt text segments k q) (sym kind) (subst (λ s. LimitAt text s b q) same stands')))

-- a text that spells a key is not refused
pub no_refusal : {text : List ℕ} {key : List (List ℕ)} {kind : KeyFault} {place : ℕ} → SpellsKey text key → Refuses text kind place → ⊥
no_refusal {text} {key} {kind} {place} spelled (grammar f) = no_fault_behind IsSpelling 46 one_segment FaultAt one_head_fault key text kind place spelled.spells
    f
no_refusal {text} {key} {kind} spelled (limit segments spells breaks stands) =
    breaks_none (subst (λ s. Breaks s kind) (one_joined IsSpelling 46 one_segment segments key text spells spelled.spells) breaks) spelled.within

-- a text spells one key
pub one_key : {text : List ℕ} {key other : List (List ℕ)} → SpellsKey text key → SpellsKey text other → key ≡ other
one_key {text} {key} {other} a b = one_joined IsSpelling 46 one_segment key other text a.spells b.spells

-- a fault that can be no other is out of memory
pub memory_left : (kind : KeyFault) → (kind ≢ Memory → ⊥) → kind ≡ Memory
memory_left Empty other = absurd (other (λ e. cc))
memory_left BadByte other = absurd (other (λ e. cc))
memory_left Unclosed other = absurd (other (λ e. cc))
memory_left TooMany other = absurd (other (λ e. cc))
memory_left SegmentTooLong other = absurd (other (λ e. cc))
memory_left TooLong other = absurd (other (λ e. cc))
memory_left Memory other = refl

module _
    (text : List ℕ) (result : Result (List (List ℕ)) KeyError)
    (ok : IfOk result (SpellsKey text))
    (refused : IfErr result (λ e. e.kind ≢ Memory → Refuses text e.kind e.place)) where
  -- what the text spells within the limits is read
  pub spelled_read : (key : List (List ℕ)) → SpellsKey text key → IsRead result key
  spelled_read key spelled = of_result result ok refused
    where
      of_result : (r : Result (List (List ℕ)) KeyError) → IfOk r (SpellsKey text) → IfErr r (λ e. e.kind ≢ Memory → Refuses text e.kind e.place) → IsRead r key
      of_result (Ok other) read refused = one_key read spelled
      of_result (Err e) ok refused = memory_left e.kind (λ other. no_refusal spelled (refused other))

  -- where the text is refused, the answer is the fault
  pub fault_read : (kind : KeyFault) (place : ℕ) → Refuses text kind place → IsRefused result kind place
  fault_read kind place f = of_result result ok refused
    where
      of_result : (r : Result (List (List ℕ)) KeyError) → IfOk r (SpellsKey text) → IfErr r (λ e. e.kind ≢ Memory → Refuses text e.kind e.place)
          → IsRefused r kind place
      of_result (Ok key) read refused = no_refusal read f
      of_result (Err e) ok refused = λ other. one_refusal (refused other) f
