-- The farthest of steps, found one after another, and the chain of them.
use Rattle.std.proofs.Common.{◌≡◌, inl, inr, ◌⊎◌, ℕ, zero, suc, ◌+◌, ◌<◌, ◌≤◌, Bool, true, false, cond, List, []}
use Rattle.std.proofs.Common.{◌∷◌, ◌++◌, map, length, get_or, take, Option, Some, None, Result, Err, refl, sym, ◌∙◌, ap, subst, arith}
use Rattle.std.specs.Prelude.{IsTrue, IfSome, Contains, count_by, reverse, IsErrAnd, IsErrOf}
use Rattle.std.proofs.lemmas.Result.{err_from_is_err_and}
use Rattle.std.proofs.lemmas.List.{map-append, reverse-append, take_more, take_all}
use Rattle.std.proofs.lemmas.List.Sums.{sum_by-cons, sum_by-le-sum_by}
use Rattle.std.proofs.lemmas.List.Folds.{list_all_at}
use Rattle.std.specs.List.{list_all}
use Rattle.std.proofs.lemmas.Bool.{false≢true}
use Rattle.std.proofs.lemmas.List.Elements.{Contains-append_left, Contains-append_right, Contains-append_cases}
use Rattle.version_links.specs.declared.version.Version.{Version}
use Rattle.release_file.specs.declared.transition.Transition.{Transition}
use Rattle.release_file.specs.Order.{is_before, is_upto}
use Rattle.release_file.specs.Release.{leads_on}
use Rattle.release_file.specs.declared.plan_error.PlanError.{PlanError}
use Rattle.release_file.specs.declared.plan_error.PlanError.TheVariants.{Missing}
use Rattle.release_file.specs.Chain.{IsFarthest, Leads, IsChain, IsMissing, lower, upper, in_order, step_of, IsWay, IsPlan, HasNoPlan}
use Rattle.release_file.specs.declared.planning.Step.{Step}
use Rattle.release_file.proofs.Versions.{upto_trans, upto_itself, before_upto, before_back}

-- None of the steps begins at the version and doesn't go beyond the target.
abbrev pub HasNone : List Transition → Version → Version → Type 0
HasNone seen at target = (t : Transition) → Contains seen t → t.from ≡ at → IsTrue (is_upto t.to target) → ⊥

-- The farthest of the steps seen, or that there is none.
abbrev pub IsBest : List Transition → Version → Version → Option Transition → Type 0
IsBest seen at target None = HasNone seen at target
IsBest seen at target (Some b) = IsFarthest seen at target b

only : (x u : Transition) → Contains (x ∷ []) u → u ≡ x
only x u (zero, lt, is) = sym is
only x u (suc k, lt, is) = absurd (omega (arith, lt))

one : (x : Transition) → Contains (x ∷ []) x
one x = (0, omega arith, refl)

-- A step that begins elsewhere or goes beyond is passed over.
pub best_skip : (seen : List Transition) (at target : Version) (best : Option Transition) (t : Transition) → (t.from ≡ at → IsTrue (is_upto t.to target) → ⊥)
    → IsBest seen at target best → IsBest (seen ++ t ∷ []) at target best
best_skip seen at target None t unfit none = λ u there begins within. elim (Contains-append_cases seen (t ∷ []) u there) [
  | inl before ↦ none u before begins within
  | inr here ↦ unfit (ap (λ (x : Transition). x.from) (sym (only t u here)) ∙ begins)
      (subst (λ (x : Transition). IsTrue (is_upto x.to target)) (only t u here) within)
]
best_skip seen at target (Some b) t unfit is = record {
  listed = Contains-append_left seen (t ∷ []) b is.listed;
  begins = is.begins;
  within = is.within;
  farthest = λ u there begins within. elim (Contains-append_cases seen (t ∷ []) u there) [
    | inl before ↦ is.farthest u before begins within
    | inr here ↦ absurd (unfit (ap (λ (x : Transition). x.from) (sym (only t u here)) ∙ begins)
        (subst (λ (x : Transition). IsTrue (is_upto x.to target)) (only t u here) within))
  ];
}

nothing : (r : Transition) → None ≡ Some r → ⊥
nothing r e = cc

-- The farther one of the best and one more is the best of all.
pub best_more : (seen : List Transition) (at target : Version) (best : Option Transition) (t r : Transition) → t.from ≡ at → IsTrue (is_upto t.to target)
    → (r ≡ t) ⊎ (best ≡ Some r) → IsTrue (is_upto t.to r.to) → IfSome best (λ b. IsTrue (is_upto b.to r.to)) → IsBest seen at target best
    → IsFarthest (seen ++ t ∷ []) at target r
best_more seen at target None t r begins within (inr no_best) far farther none = absurd (nothing r no_best)
best_more seen at target None t r begins within (inl is_t) far farther none = record {
  listed = Contains-append_right seen (t ∷ []) r (subst (λ (x : Transition). Contains (t ∷ []) x) (sym is_t) (one t));
  begins = ap (λ (x : Transition). x.from) is_t ∙ begins;
  within = subst (λ (x : Transition). IsTrue (is_upto x.to target)) (sym is_t) within;
  farthest = λ u there also inside. elim (Contains-append_cases seen (t ∷ []) u there) [
    | inl before ↦ absurd (none u before also inside)
    | inr here ↦ subst (λ (x : Transition). IsTrue (is_upto x.to r.to)) (sym (only t u here)) far
  ];
}
best_more seen at target (Some b) t r begins within which far farther is = record {
  listed = elim which [
    | inl is_t ↦ Contains-append_right seen (t ∷ []) r (subst (λ (x : Transition). Contains (t ∷ []) x) (sym is_t) (one t))
    | inr is_b ↦ Contains-append_left seen (t ∷ []) r (subst (λ (x : Transition). Contains seen x) (same b is_b) is.listed)
  ];
  begins = elim which [
    | inl is_t ↦ ap (λ (x : Transition). x.from) is_t ∙ begins
    | inr is_b ↦ ap (λ (x : Transition). x.from) (sym (same b is_b)) ∙ is.begins
  ];
  within = elim which [
    | inl is_t ↦ subst (λ (x : Transition). IsTrue (is_upto x.to target)) (sym is_t) within
    | inr is_b ↦ subst (λ (x : Transition). IsTrue (is_upto x.to target)) (same b is_b) is.within
  ];
  farthest = λ u there also inside. elim (Contains-append_cases seen (t ∷ []) u there) [
    | inl before ↦ upto_trans u.to b.to r.to (is.farthest u before also inside) farther
    | inr here ↦ subst (λ (x : Transition). IsTrue (is_upto x.to r.to)) (sym (only t u here)) far
  ];
}
  where
    same : (b : Transition) → Some b ≡ Some r → b ≡ r
    same b e = cc

-- The next of all steps is seen, and is farther or not.
pub fits_more : (all : List Transition) (i : ℕ) (at target : Version) (best : Option Transition) (t r : Transition) → i < length all → t ≡ get_or all i t
    → (t.from ≡ at) × IsTrue (is_upto t.to target) → (r ≡ t) ⊎ (best ≡ Some r) → IsTrue (is_upto t.to r.to) → IfSome best (λ b. IsTrue (is_upto b.to r.to))
    → IsBest (take i all) at target best → IsFarthest (take (i + 1) all) at target r
fits_more all i at target best t r within next fit which far farther is =
    subst (λ l. IsFarthest l at target r) (sym (take_more all i t within ∙ ap (λ x. take i all ++ x ∷ []) (sym next)))
    (best_more (take i all) at target best t r fit.0 fit.1 which far farther is)

-- The next of all steps is seen, and does not fit.
pub fits_less : (all : List Transition) (i : ℕ) (at target : Version) (best : Option Transition) (t : Transition) → i < length all → t ≡ get_or all i t
    → ((t.from ≡ at) × IsTrue (is_upto t.to target) → ⊥) → IsBest (take i all) at target best → IsBest (take (i + 1) all) at target best
fits_less all i at target best t within next unfit is =
    subst (λ l. IsBest l at target best) (sym (take_more all i t within ∙ ap (λ x. take i all ++ x ∷ []) (sym next)))
    (best_skip (take i all) at target best t (λ begins inside. unfit (begins, inside)) is)

-- ---- the chain

-- One step more.
pub leads_more : (all : List Transition) (target from at : Version) (chain : List Transition) (t : Transition) → Leads all target from chain at
    → IsFarthest all at target t → Leads all target from (chain ++ t ∷ []) t.to
leads_more all target from at [] t led is = (subst (λ v. IsFarthest all v target t) (sym led) is, refl)
leads_more all target from at (c ∷ chain) t led is = (led.0, leads_more all target c.to at chain t led.1 is)

-- One step more is pushed.
pub leads_pushed : {S : Type 0} (all : List Transition) (target from at : Version) (chain items : List S) (s : S) (f : S → Transition) → items ≡ chain ++ s ∷ []
    → Leads all target from (map f chain) at → IsFarthest all at target (f s) → Leads all target from (map f items) (f s).to
leads_pushed all target from at chain items s f is led far =
    subst (λ l. Leads all target from l (f s).to) (sym (ap (map f) is ∙ map-append f chain (s ∷ [])))
    (leads_more all target from at (map f chain) (f s) led far)

as_number : (b c : Bool) → (c ≡ true → b ≡ true) → cond c 1 0 ≤ cond b 1 0
as_number true true f = omega arith
as_number true false f = omega arith
as_number false true f = absurd (false≢true (f refl))
as_number false false f = omega arith

-- Fewer pass a narrower test that one of them does not pass.
pub falls : {T : Type 0} (p q : T → Bool) (xs : List T) (x : T) → ((y : T) → q y ≡ true → p y ≡ true) → Contains xs x → p x ≡ true → q x ≡ false
    → count_by q xs < count_by p xs
falls p q [] x narrower (k, lt, is) passes fails = absurd (omega (arith, lt))
falls p q (y ∷ ys) x narrower (zero, lt, is) passes fails =
    let one : ◌≡◌ {A = ℕ} (cond (p y) 1 0) 1 = ap (λ b. cond {A = ℕ} b 1 0) (ap p is ∙ passes) in
    let none : ◌≡◌ {A = ℕ} (cond (q y) 1 0) 0 = ap (λ b. cond {A = ℕ} b 1 0) (ap q is ∙ fails) in
    let rest = sum_by-le-sum_by (λ z. cond (q z) 1 0) (λ z. cond (p z) 1 0) ys (λ z. as_number (p z) (q z) (narrower z)) in
    omega (arith, sum_by-cons (λ z. cond (q z) 1 0) y ys, sum_by-cons (λ z. cond (p z) 1 0) y ys, one, none, rest)
falls p q (y ∷ ys) x narrower (suc k, lt, is) passes fails =
    let rest : count_by q ys < count_by p ys = falls p q ys x narrower (k, omega (arith, lt), is) passes fails in
    let head = as_number (p y) (q y) (narrower y) in
    omega (arith, sum_by-cons (λ z. cond (q z) 1 0) y ys, sum_by-cons (λ z. cond (p z) 1 0) y ys, head, rest)

pub all_lead : (all : List Transition) (t : Transition) → IsTrue (list_all leads_on all) → Contains all t → IsTrue (leads_on t)
all_lead all t lead there = elim (leads_on t) as (λ b. leads_on t ≡ b → b ≡ true) [
  | true ↦ λ e. refl
  | false ↦ λ e. absurd (false≢true (sym (list_all_at leads_on all there.0 t there.1 (ap leads_on there.2 ∙ e)) ∙ lead))
] refl

-- Fewer steps begin at the end of one of them or later than at its beginning or later.
pub fewer_left : (all : List Transition) (at target : Version) (t : Transition) → IsTrue (list_all leads_on all) → IsFarthest all at target t
    → count_by (λ (u : Transition). is_upto t.to u.from) all < count_by (λ (u : Transition). is_upto at u.from) all
fewer_left all at target t lead is =
    let on : IsTrue (is_before at t.to) = subst (λ v. IsTrue (is_before v t.to)) is.begins (all_lead all t lead is.listed) in
    falls (λ (u : Transition). is_upto at u.from) (λ (u : Transition). is_upto t.to u.from) all t
    (λ u le. upto_trans at t.to u.from (before_upto at t.to on) le) is.listed (subst (λ v. IsTrue (is_upto at v)) (sym is.begins) (upto_itself at))
    (subst (λ v. is_upto t.to v ≡ false) (sym is.begins) (before_back at t.to on))

-- ---- the way

pub map-reverse : {S T : Type 0} (f : S → T) (xs : List S) → map f (reverse xs) ≡ reverse (map f xs)
map-reverse f [] = refl
map-reverse f (x ∷ xs) =
    ap (map f) (reverse-append (x ∷ []) xs) ∙ map-append f (reverse xs) (reverse (x ∷ [])) ∙ ap (λ l. l ++ f x ∷ []) (map-reverse f xs)
    ∙ sym (reverse-append (f x ∷ []) (map f xs))

-- The chain from the lower version, taken backward.
pub way_back : {S : Type 0} (f : S → Transition) (all : List Transition) (from to : Version) (steps : List S) (way : List S) → true ≡ is_before to from
    → IsChain all to from (map f steps) → way ≡ reverse steps → IsWay all from to (map f way)
way_back f all from to steps way back is reversed = record {
  chain = map f steps;
  is_chain = subst (λ b. IsChain all (lower b from to) (upper b from to) (map f steps)) back is;
  way_is = ap (map f) reversed ∙ map-reverse f steps ∙ ap (λ b. in_order b (map f steps)) back;
}

-- The chain from the lower version.
pub way_on : (all : List Transition) (from to : Version) (chain : List Transition) → false ≡ is_before to from → IsChain all from to chain
    → IsWay all from to chain
way_on all from to chain on is = record {
  chain = chain;
  is_chain = subst (λ b. IsChain all (lower b from to) (upper b from to) chain) on is;
  way_is = ap (λ b. in_order b chain) on;
}

-- No chain, on the way back and on the way forward.
pub no_way_back : (all : List Transition) (from to at end : Version) → true ≡ is_before to from → (end ≡ from) × IsMissing all to from at
    → HasNoPlan all from to at end
no_way_back all from to at end back (is, missing) = record {
  target_is = is ∙ ap (λ b. upper b from to) back;
  missing = subst (λ b. IsMissing all (lower b from to) end at) back (subst (λ v. IsMissing all to v at) (sym is) missing);
}

pub no_way_on : (all : List Transition) (from to at end : Version) → false ≡ is_before to from → (end ≡ to) × IsMissing all from to at
    → HasNoPlan all from to at end
no_way_on all from to at end on (is, missing) = record {
  target_is = is ∙ ap (λ b. upper b from to) on;
  missing = subst (λ b. IsMissing all (lower b from to) end at) on (subst (λ v. IsMissing all from v at) (sym is) missing);
}

same_error : {T : Type 0} (y e : PlanError) → ◌≡◌ {A = Result T PlanError} (Err y) (Err e) → y ≡ e
same_error y e is = cc

-- A refusal that is handed on.
pub handed : {T : Type 0} (r : Result T PlanError) (e : PlanError) (P : Version → Version → Type 0) → IsErrAnd r (λ y. y ≡ e)
    → ((at end : Version) → e ≡ Missing at end → P at end) → (at end : Version) → IsErrOf r (Missing at end) → P at end
handed r e P is f at end told = let p = err_from_is_err_and r is in f at end (sym p.2 ∙ same_error p.0 (Missing at end) (sym p.1 ∙ told))

-- One step of the plan more is pushed.
pub steps_pushed : {S : Type 0} (f : S → Transition) (back : Bool) (xs : List S) (i : ℕ) (s : S) (steps new : List Step) (x : Step) → i < length xs
    → s ≡ get_or xs i s → steps ≡ map (step_of back) (map f (take i xs)) → new ≡ steps ++ x ∷ [] → x ≡ step_of back (f s)
    → new ≡ map (step_of back) (map f (take (i + 1) xs))
steps_pushed f back xs i s steps new x within next so_far pushed is =
    let more : take (i + 1) xs ≡ take i xs ++ s ∷ [] = take_more xs i s within ∙ ap (λ y. take i xs ++ y ∷ []) (sym next) in
    pushed ∙ ap (λ l. l ++ x ∷ []) so_far ∙ ap (λ y. map (step_of back) (map f (take i xs)) ++ y ∷ []) is
    ∙ sym (map-append (step_of back) (map f (take i xs)) (f s ∷ [])) ∙ ap (map (step_of back)) (sym (map-append f (take i xs) (s ∷ [])))
    ∙ ap (λ l. map (step_of back) (map f l)) (sym more)

-- The steps of the whole way are the plan.
pub planned : {S : Type 0} (f : S → Transition) (known all : List Transition) (from to : Version) (xs ys : List S) (i : ℕ) (back : Bool) (steps : List Step)
    → known ≡ all → xs ≡ ys → IsWay known from to (map f ys) → back ≡ is_before to from → length xs ≤ i → steps ≡ map (step_of back) (map f (take i xs))
    → IsPlan all from to steps
planned f known all from to xs ys i back steps these those way turned whole are = record {
  way = map f xs;
  is_way = subst (λ l. IsWay l from to (map f xs)) these (subst (λ l. IsWay known from to (map f l)) (sym those) way);
  steps_are = are ∙ ap (λ l. map (step_of back) (map f l)) (take_all i xs whole) ∙ ap (λ b. map (step_of b) (map f xs)) turned;
}
