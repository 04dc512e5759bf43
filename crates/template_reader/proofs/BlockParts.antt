-- Blocks: an end or an else of a block, and what each part of it is.
use Rattle.std.proofs.Common.{◌≡◌, ℕ, suc, ◌+◌, ◌-◌, Bool, true, false, not, List, [], ◌∷◌}
use Rattle.std.proofs.Common.{◌++◌, refl, sym, ap, ◌∙◌, arith, append_assoc, subst, inl, inr}
use Rattle.std.specs.Prelude.{◌⊎◌, ◌&&◌, ◌||◌}
use Rattle.std.proofs.lemmas.List.{append-nil}
use Rattle.std.proofs.Math.Bool.{and-true, and-false}
use Rattle.template_reader.specs.Spot.{Block}
use Rattle.template_reader.specs.Fault.{form_fault, same_name}
use Rattle.template_reader.specs.Tree.{Tree, Branch, done}
use Rattle.template_reader.specs.Tree as trees
use Rattle.template_reader.specs.Taken.{Item}
use Rattle.template_reader.specs.Taken as item
use Rattle.template_reader.specs.Nest.{Spells, SpellsOne, begin_item, finish_item}
use Rattle.template_reader.specs.Reading.{items_at, Stops, FailsIn}
use Rattle.template_reader.specs.Reading.{Others, Blocks, Fits, stop_fault, stop_items, opened, head}
use Rattle.template_reader.specs.declared.tag.Name.{Name}
use Rattle.template_reader.specs.declared.tag.Name.TheVariants as names
use Rattle.template_reader.specs.declared.walk.Walk.{Walk}
use Rattle.template_reader.specs.declared.reading.Stop.{Stop}
use Rattle.template_reader.specs.declared.reading.Stop.TheVariants as stop
use Rattle.template_reader.specs.declared.template_error.TemplateError.{TemplateError}
use Rattle.template_reader.specs.declared.template_error.TemplateKind.TheVariants.{NotBegun, TwoElse}

-- The blocks within.
inner : (depth : ℕ) (in_each other : Bool) (name : Name) (start : ℕ) (blocks : List Block) → Fits depth in_each blocks
    → Fits (depth + 1) ((same_name names.Each name && not other) || in_each) (opened name other start ∷ blocks)
inner depth in_each other name start blocks fits = record {
  depth_is = ap suc fits.depth_is ∙ omega arith;
  each_is = ap (λ b. (same_name names.Each name && not other) || b) fits.each_is;
}

-- In the first part of a block there is one block more, and maybe an each.
inner_first : (depth : ℕ) (in_each : Bool) (name : Name) (start : ℕ) (blocks : List Block) → Fits depth in_each blocks
    → Fits (depth + 1) (same_name names.Each name || in_each) (opened name false start ∷ blocks)
inner_first depth in_each name start blocks fits =
    let P : Bool → Type 0 = λ b. Fits (depth + 1) (b || in_each) (opened name false start ∷ blocks) in
    subst P (and-true (same_name names.Each name)) (inner depth in_each false name start blocks fits)

-- In the other part there is one block more, and no each that was not there.
inner_other : (depth : ℕ) (in_each : Bool) (name : Name) (start : ℕ) (blocks : List Block) → Fits depth in_each blocks
    → Fits (depth + 1) in_each (opened name true start ∷ blocks)
inner_other depth in_each name start blocks fits =
    let P : Bool → Type 0 = λ b. Fits (depth + 1) (b || in_each) (opened name true start ∷ blocks) in
    subst P (and-false (same_name names.Each name)) (inner depth in_each true name start blocks fits)

-- An else in the other part is the second.
pub other_twice : (base : ℕ) (body : List ℕ) (from front depth : ℕ) (in_each : Bool) (name : Name) (start : ℕ) (t : Tree) (s : Stop) (place end skip : ℕ)
    → Stops base body from front (depth + 1) in_each done t s place end skip → s ≡ stop.Otherwise
    → FailsIn body from depth in_each (opened name true start) (record { kind = TwoElse; place = place })
unfolding form_fault
other_twice base body from front depth in_each name start t s place end skip p e =
    record {
      fault = λ blocks fits. p.fault (opened name true start ∷ blocks) (inner_other depth in_each name start blocks fits)
          ∙ ap (λ s. stop_fault body (opened name true start ∷ blocks) s place end) e;
    }

-- An end of another name in the other part has no begin.
pub other_wrong : (base : ℕ) (body : List ℕ) (from front depth : ℕ) (in_each : Bool) (name : Name) (start : ℕ) (t : Tree) (s : Stop) (place end skip : ℕ)
    (n : Name)
    → Stops base body from front (depth + 1) in_each done t s place end skip → s ≡ stop.Finish n → same_name n name ≡ false
    → FailsIn body from depth in_each (opened name true start) (record { kind = NotBegun; place = place })
unfolding form_fault
other_wrong base body from front depth in_each name start t s place end skip n p e differs =
    record {
      fault = λ blocks fits. p.fault (opened name true start ∷ blocks) (inner_other depth in_each name start blocks fits)
          ∙ ap (λ s. stop_fault body (opened name true start ∷ blocks) s place end) e ∙ rw differs refl;
    }

-- Names that pass the test are equal.
pub same_name-eq : (m n : Name) → same_name m n ≡ true → m ≡ n
same_name-eq names.If names.If e = refl
same_name-eq names.If names.Unless e = absurd (cc)
same_name-eq names.If names.Each e = absurd (cc)
same_name-eq names.Unless names.If e = absurd (cc)
same_name-eq names.Unless names.Unless e = refl
same_name-eq names.Unless names.Each e = absurd (cc)
same_name-eq names.Each names.If e = absurd (cc)
same_name-eq names.Each names.Unless e = absurd (cc)
same_name-eq names.Each names.Each e = refl

-- All of a part, which began with no nodes.
abbrev Whole : ℕ → List ℕ → ℕ → ℕ → Tree → List Item → Type 0
Whole base body from front t rest = (a : List Item) × Spells t a × (items_at base body from front ≡ a ++ rest)

-- A part that began with no nodes is spelled by all its items.
whole : (base : ℕ) (body : List ℕ) (from front depth : ℕ) (in_each : Bool) (t : Tree) (s : Stop) (place end skip : ℕ)
    → Stops base body from front depth in_each done t s place end skip → Whole base body from front t (stop_items base body s end skip)
whole base body from front depth in_each t s place end skip p =
    let q = p.items in
    let P : Tree → Type 0 = λ u. Spells u q.1 in
    (q.1, subst P (sym q.2) q.3, q.4)

-- An end of the block's name ends the other part.
pub other_ends : (base : ℕ) (body : List ℕ) (from front depth : ℕ) (in_each : Bool) (name : Name) (start : ℕ) (t : Tree) (s : Stop) (place end skip : ℕ)
    (n : Name)
    → Stops base body from front (depth + 1) in_each done t s place end skip → s ≡ stop.Finish n → same_name n name ≡ true
    → Others base body from front depth in_each name start t end skip
unfolding form_fault
other_ends base body from front depth in_each name start t s place end skip n p e same =
    let w = whole base body from front (depth + 1) in_each t s place end skip p in
    record {
      later = p.later;
      inside = p.inside;
      fault = λ blocks fits. p.fault (opened name true start ∷ blocks) (inner_other depth in_each name start blocks fits)
          ∙ ap (λ s. stop_fault body (opened name true start ∷ blocks) s place end) e ∙ rw same refl;
      items = (
        w.0,
        w.1,
        w.2 ∙ ap (λ s. w.0 ++ stop_items base body s end skip) e ∙ ap (λ n. w.0 ++ (item.finish n ∷ items_at base body end skip))
            (same_name-eq n name same),
      );
    }

-- An end of another name in the first part has no begin.
pub first_wrong : (base : ℕ) (body : List ℕ) (from front depth : ℕ) (in_each : Bool) (name : Name) (start : ℕ) (t : Tree) (s : Stop) (place end skip : ℕ)
    (n : Name)
    → Stops base body from front (depth + 1) (same_name names.Each name || in_each) done t s place end skip → s ≡ stop.Finish n → same_name n name ≡ false
    → FailsIn body from depth in_each (opened name false start) (record { kind = NotBegun; place = place })
unfolding form_fault
first_wrong base body from front depth in_each name start t s place end skip n p e differs =
    record {
      fault = λ blocks fits. p.fault (opened name false start ∷ blocks) (inner_first depth in_each name start blocks fits)
          ∙ ap (λ s. stop_fault body (opened name false start ∷ blocks) s place end) e ∙ rw differs refl;
    }

-- After the else a fault in the other part is the first one.
pub other_failed : (base : ℕ) (body : List ℕ) (from front depth : ℕ) (in_each : Bool) (name : Name) (start : ℕ) (t : Tree) (s : Stop) (place end skip : ℕ)
    (f : TemplateError)
    → Stops base body from front (depth + 1) (same_name names.Each name || in_each) done t s place end skip → s ≡ stop.Otherwise
    → FailsIn body end depth in_each (opened name true start) f → FailsIn body from depth in_each (opened name false start) f
unfolding form_fault
other_failed base body from front depth in_each name start t s place end skip f p e o =
    record {
      fault = λ blocks fits. p.fault (opened name false start ∷ blocks) (inner_first depth in_each name start blocks fits)
          ∙ ap (λ s. stop_fault body (opened name false start ∷ blocks) s place end) e ∙ o.fault blocks fits;
    }

-- The begin and the end of a block have its name.
head_items : (n : Name) (w : Walk) → (begin_item (head n w) ≡ item.begin n w) × (finish_item (head n w) ≡ item.finish n)
head_items names.If w = (refl, refl)
head_items names.Unless w = (refl, refl)
head_items names.Each w = (refl, refl)

-- A begin, what spells the parts, and the end spell the block.
pub spells_block : (n : Name) (w : Walk) (t u : Tree) (one two : List Item) → Spells t one
    → ((two ≡ []) × (u ≡ done)) ⊎ ((more : List Item) × (two ≡ item.otherwise ∷ more) × Spells u more)
    → SpellsOne (trees.block (head n w) t u) (item.begin n w ∷ (one ++ two ++ (item.finish n ∷ [])))
spells_block n w t u one two s r =
    let h = head_items n w in
    (one, two, ap (λ i. i ∷ (one ++ two ++ (item.finish n ∷ []))) (sym h.0) ∙ ap (λ i. begin_item (head n w) ∷ (one ++ two ++ (i ∷ []))) (sym h.1), s, r)

-- A block that ends with its first part has no other.
pub block_ends : (base : ℕ) (body : List ℕ) (from front depth : ℕ) (in_each : Bool) (name : Name) (w : Walk) (start : ℕ) (t : Tree) (s : Stop)
    (place end skip : ℕ) (n : Name) (b : Branch)
    → Stops base body from front (depth + 1) (same_name names.Each name || in_each) done t s place end skip → s ≡ stop.Finish n → same_name n name ≡ true
    → b ≡ trees.block (head name w) t done
    → Blocks base body from front depth in_each name w start b end skip
unfolding form_fault
block_ends base body from front depth in_each name w start t s place end skip n b p e same made =
    let k = whole base body from front (depth + 1) (same_name names.Each name || in_each) t s place end skip p in
    let P : Branch → Type 0 = λ b. SpellsOne b (item.begin name w ∷ (k.0 ++ [] ++ (item.finish name ∷ []))) in
    record {
      later = p.later;
      inside = p.inside;
      fault = λ blocks fits. p.fault (opened name false start ∷ blocks) (inner_first depth in_each name start blocks fits)
          ∙ ap (λ s. stop_fault body (opened name false start ∷ blocks) s place end) e ∙ rw same refl;
      items = (
        k.0 ++ [] ++ (item.finish name ∷ []),
        subst P (sym made) (spells_block name w t done k.0 [] k.1 (inl (refl, refl))),
        k.2 ∙ ap (λ s. k.0 ++ stop_items base body s end skip) e ∙ ap (λ n. k.0 ++ (item.finish n ∷ items_at base body end skip)) (same_name-eq n name same)
            ∙ sym (ap (λ l. (l ++ (item.finish name ∷ [])) ++ items_at base body end skip) (append-nil k.0)
            ∙ append_assoc k.0 (item.finish name ∷ []) (items_at base body end skip)),
      );
    }

-- A block with an else is its first part and its other.
pub block_others : (base : ℕ) (body : List ℕ) (from front depth : ℕ) (in_each : Bool) (name : Name) (w : Walk) (start : ℕ) (t u : Tree) (s : Stop)
    (place end skip last next : ℕ) (b : Branch)
    → Stops base body from front (depth + 1) (same_name names.Each name || in_each) done t s place end skip → s ≡ stop.Otherwise
    → Others base body end skip depth in_each name start u last next
    → b ≡ trees.block (head name w) t u → Blocks base body from front depth in_each name w start b last next
unfolding form_fault
block_others base body from front depth in_each name w start t u s place end skip last next b p e o made =
    let k = whole base body from front (depth + 1) (same_name names.Each name || in_each) t s place end skip p in
    let q = o.items in
    let two = item.otherwise ∷ q.0 in
    let P : Branch → Type 0 = λ b. SpellsOne b (item.begin name w ∷ (k.0 ++ two ++ (item.finish name ∷ []))) in
    record {
      later = omega (arith, p.later, o.later);
      inside = o.inside;
      fault = λ blocks fits. p.fault (opened name false start ∷ blocks) (inner_first depth in_each name start blocks fits)
          ∙ ap (λ s. stop_fault body (opened name false start ∷ blocks) s place end) e ∙ o.fault blocks fits;
      items = (
        k.0 ++ two ++ (item.finish name ∷ []),
        subst P (sym made) (spells_block name w t u k.0 two k.1 (inr (q.0, refl, q.1))),
        k.2 ∙ ap (λ s. k.0 ++ stop_items base body s end skip) e ∙ ap (λ l. k.0 ++ (item.otherwise ∷ l)) q.2
            ∙ sym (append_assoc (k.0 ++ two) (item.finish name ∷ []) (items_at base body last next)
            ∙ append_assoc k.0 two (item.finish name ∷ items_at base body last next)),
      );
    }
