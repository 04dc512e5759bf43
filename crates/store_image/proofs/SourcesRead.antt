-- The sources of templates, read one after another.
use Rattle.std.proofs.Common.{◌≡◌, ℕ, List, Option, Some, None, IsSome, is_some, Bool, true, false, cond, refl, sym, ◌∙◌, ap, subst, inl, inr}
use Rattle.std.specs.declared.cmp.Ordering.TheVariants.{Less}
use Rattle.std.specs.Ordering.{eq_by_cmp, is_lt, is_gt, ordering_reverse}
use Rattle.std.specs.Option.{option_map}
use Rattle.std.specs.FinMap.{FinMap, get, insert, empty, get-insert, get-empty}
use Rattle.outside.specs.Names.{Names, path_cmp}
use Rattle.outside.specs.Order.{path_total}
use Rattle.outside.specs.History.{History, tree_of}
use Rattle.outside.proofs.Trees.{path_cases, path_itself, path_same}
use Rattle.settings_maps.specs.Maps.{IsLeastAfter}
use Rattle.settings_tree.specs.Walks.{is_past}
use Rattle.settings_tree.proofs.Walks.{past_fact}
use Rattle.template_reader.specs.Parses.{fault}
use Rattle.template_reader.specs.declared.template_error.TemplateError.{TemplateError}
use Rattle.store_image.specs.Paths.{sources_in, template_path}
use Rattle.store_image.specs.Refused.{Fault, template_fault}
use Rattle.store_image.specs.Reading.{UpTo, AreFaultless, AreThere, IsBadAt, IsFirstBadOf}
use Rattle.key_names.proofs.Ties.{tied}

abbrev Paths : Type 0
Paths = FinMap path_cmp (Unit {0})

abbrev Texts : Type 0
Texts = FinMap path_cmp (List ℕ)

none_at : (p : Names) → IsSome (get (empty {X = List ℕ} {R = path_cmp}) p) → ⊥
none_at p some = cc (ap is_some (get-empty {X = List ℕ} path_cmp p))

pub upto_none : (paths : Paths) → UpTo paths None empty
upto_none paths = record { only = λ p some. absurd (none_at p some); each = λ p some past. absurd (cc past) }

-- a source is put at a path
put_at : (sources : Texts) (k : Names) (source : List ℕ) → get (insert sources k source) k ≡ Some source
put_at sources k source = get-insert path_total sources k source k ∙ ap (λ b. cond b (Some source) (get sources k)) (path_itself k)

put_apart : (sources : Texts) (k : Names) (source : List ℕ) (p : Names) → eq_by_cmp path_cmp p k ≡ false → get (insert sources k source) p ≡ get sources p
put_apart sources k source p other = get-insert path_total sources k source p ∙ ap (λ b. cond b (Some source) (get sources p)) other

-- a path of the map at or before the next one is that one, or not past the last one
passed : (paths : Paths) (after : Option Names) (k : Names) (x : Unit {0}) → IsLeastAfter paths after k x → (p : Names) → IsSome (get paths p)
    → is_lt (path_cmp k p) ≡ false → eq_by_cmp path_cmp p k ≡ false → is_past path_cmp after p ≡ false
passed paths after k x next p some low other = by (is_past path_cmp after p) refl where
  by : (b : Bool) → is_past path_cmp after p ≡ b → b ≡ false
  by true past = let same : k ≡ p = path_same k p (tied (path_cmp k p) low (next.least p (past_fact path_cmp after p past) some)) in
      absurd (cc (other, ap (λ (q : Names). eq_by_cmp path_cmp q k) (sym same), path_itself k))
  by false past = refl

pub upto_next : (paths : Paths) (after : Option Names) (k : Names) (x : Unit {0}) (sources : Texts) (source : List ℕ) → IsLeastAfter paths after k x
    → UpTo paths after sources → UpTo paths (Some k) (insert sources k source)
upto_next paths after k x sources source next upto = record {
  only = λ p some. elim (path_cases p k) [
    | inl same ↦ subst (λ (q : Names). IsSome (get paths q)) (sym same) (subst IsSome (sym next.stands) refl)
    | inr other ↦ upto.only p (subst IsSome (put_apart sources k source p other) some)
  ];
  each = λ p some low. elim (path_cases p k) [
    | inl same ↦ subst (λ (q : Names). IsSome (get (insert sources k source) q)) (sym same) (subst IsSome (sym (put_at sources k source)) refl)
    | inr other ↦ subst IsSome (sym (put_apart sources k source p other)) (upto.each p some (passed paths after k x next p some low other))
  ];
}

pub faultless_none : AreFaultless empty
faultless_none = record { none = λ p source e. absurd (cc (get-empty {X = List ℕ} path_cmp p, e)) }

some_one : (a b : List ℕ) → Some a ≡ Some b → a ≡ b
some_one a b e = cc e

pub faultless_next : (sources : Texts) (k : Names) (source : List ℕ) → AreFaultless sources → fault source ≡ None → AreFaultless (insert sources k source)
faultless_next sources k source all none = record {
  none = λ p other e. elim (path_cases p k) [
    | inl same ↦ subst (λ (s : List ℕ). fault s ≡ None) (some_one source other
        (sym (put_at sources k source) ∙ ap (λ (q : Names). get (insert sources k source) q) (sym same) ∙ e)) none
    | inr apart ↦ all.none p other (sym (put_apart sources k source p apart) ∙ e)
  ];
}

pub there_none : (h : History) → AreThere empty h
there_none h = record { there = λ p source e. absurd (cc (get-empty {X = List ℕ} path_cmp p, e)) }

pub there_next : (sources : Texts) (k : Names) (source : List ℕ) (h : History) → AreThere sources h → sources_in (tree_of h) (template_path k) ≡ Some source
    → AreThere (insert sources k source) h
there_next sources k source h all here = record {
  there = λ p other e. elim (path_cases p k) [
    | inl same ↦ ap (λ (q : Names). sources_in (tree_of h) (template_path q)) same ∙ here ∙ sym (put_at sources k source)
        ∙ ap (λ (q : Names). get (insert sources k source) q) (sym same) ∙ e
    | inr apart ↦ all.there p other (sym (put_apart sources k source p apart) ∙ e)
  ];
}

reversed : (a b : Names) → path_cmp a b ≡ Less → is_gt (path_cmp b a) ≡ true
reversed a b less = ap is_gt (path_total.antisymm b a ∙ ap ordering_reverse less)

no_fault : (o : Option TemplateError) → o ≡ None → (f : TemplateError → Fault) → option_map f o ≡ None
no_fault o none f = ap (option_map f) none

pub first_bad : (paths : Paths) (after : Option Names) (k : Names) (x : Unit {0}) (sources : Texts) (h : History) (file : List ℕ) (found : Fault)
    → IsLeastAfter paths after k x → UpTo paths after sources → AreFaultless sources → AreThere sources h → IsBadAt k file found h
    → IsFirstBadOf paths file found h
first_bad paths after k x sources h file found next upto faultless there bad =
    record { path = k; among = subst IsSome (sym next.stands) refl; bad = bad; first = earlier } where
      low : (p : Names) → IsSome (get paths p) → path_cmp p k ≡ Less → (b : Bool) → is_past path_cmp after p ≡ b → b ≡ false
      low p some less true past = absurd (cc (next.least p (past_fact path_cmp after p past) some, reversed p k less))
      low p some less false past = refl

      by : (p : Names) (o : Option (List ℕ)) → get sources p ≡ o → IsSome o → template_fault (sources_in (tree_of h) (template_path p)) ≡ None
      by p None is some = absurd (cc some)
      by p (Some source) is some = ap template_fault (there.there p source is) ∙ no_fault (fault source) (faultless.none p source is) _

      earlier : (p : Names) → IsSome (get paths p) → path_cmp p k ≡ Less → template_fault (sources_in (tree_of h) (template_path p)) ≡ None
      earlier p some less = by p (get sources p) refl (upto.each p some (low p some less (is_past path_cmp after p) refl))
