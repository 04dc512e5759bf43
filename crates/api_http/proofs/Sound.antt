-- A query that spells a request has no fault.
use Rattle.std.proofs.Common.{◌≡◌, ◌<◌, ◌≤◌, ℕ, zero, suc, Bool, true, false, List, [], ◌∷◌, ◌++◌, length, codes, Contains, Option}
use Rattle.std.proofs.Common.{refl, sym, ap, ◌∙◌, subst, arith}
use Rattle.api_http.specs.declared.route.Route.{Route}
use Rattle.api_http.specs.declared.plan.Plan.{Plan}
use Rattle.api_http.specs.declared.plan.Plan.TheVariants.{Ready, Patch, Set}
use Rattle.api_http.specs.Plans.{IsPlan}
use Rattle.api_http.specs.Query.{Pair, is_among, named as with_name, others}
use Rattle.api_http.specs.Query.{IsInGrammar, a_transaction, some_keys, a_prefix, some_names, a_name, a_check, all_alone}
use Rattle.api_http.specs.Query.{QueryFault, unknown, repeated, outside, both, missing, HasQueryFault}
use Rattle.settings_machine.specs.Requests as machine
use Rattle.settings_machine.specs.declared.request.Guard.{Guard}
use Rattle.api_http.specs.Spelled.{NamesTx, named, unnamed, MayNameTx, by_tx, without_tx, NamesGuard, checked, unchecked}
use Rattle.api_http.specs.Spelled.{MayGiveAll, by_all, without_all, GivesName, GivesNames, by_names, without_names}
use Rattle.api_http.specs.Spelled.{GivesKeys, GivesKeysOrPrefix, by_keys, by_prefix, by_neither, Spells, at_root}
use Rattle.api_http.specs.Spelled.{at_os, at_settings, at_patch, at_services, at_files, at_affected}
use Rattle.api_http.specs.Spelled.{at_pending, at_drop, at_list, at_commit, at_apply, at_apply_all, at_commit_and_apply, at_job}
use Rattle.api_http.specs.Spelled.{at_set, at_plan, at_plan_file, at_store, at_verify}
use Rattle.api_http.proofs.Parted.{parts_sound, none_wanted, one_wanted}

-- ---- a query without pairs, and one of a single pair

in_none : (p : Pair) → Contains [] p → ⊥
in_none p (k, within, _) = omega (arith, within)

in_one : (q p : Pair) → Contains (q ∷ []) p → q ≡ p
in_one q p (zero, within, is) = is
in_one q p (suc k, within, is) = absurd (omega (arith, within))

never_two : (pairs : List Pair) (p q : Pair) (front middle back : List Pair) → length pairs < 2 → pairs ≡ front ++ p ∷ (middle ++ q ∷ back) → ⊥
never_two pairs p q front middle back few is = omega (arith, few, ap length is, lengths front)
  where
    inner : (xs : List Pair) → 1 ≤ length (xs ++ q ∷ back)
    inner [] = omega arith
    inner (x ∷ xs) = omega (arith, inner xs)

    lengths : (xs : List Pair) → 2 ≤ length (xs ++ p ∷ (middle ++ q ∷ back))
    lengths [] = omega (arith, inner middle)
    lengths (x ∷ xs) = omega (arith, lengths xs)

-- no pairs are no fault where none are wanted
pub none_sound : (names : List (List ℕ)) (pairs : List Pair) → pairs ≡ [] → ¬ QueryFault names [] pairs
none_sound names pairs is (unknown n v has _) = in_none (n, v) (subst (λ l. Contains l (n, v)) is has)
none_sound names pairs is (repeated n v w front middle back at) = never_two pairs (n, v) (n, w) front middle back (omega (arith, ap length is)) at
none_sound names pairs is (outside n v has _) = in_none (n, v) (subst (λ l. Contains l (n, v)) is has)
none_sound names pairs is (both v w has _) = in_none (codes "keys", v) (subst (λ l. Contains l (codes "keys", v)) is has)
none_sound names pairs is (missing n (k, within, _) _) = omega (arith, within)

name_is : (n v m w : List ℕ) → ◌≡◌ {A = Pair} (n, v) (m, w) → n ≡ m
name_is n v m w e = ap (λ (p : Pair). p.0) e

-- a pair of an allowed name with a value of its grammar is no fault, if it is the one that is wanted
pub one_sound : (names needed : List (List ℕ)) (pairs : List Pair) (name value : List ℕ) → pairs ≡ (name, value) ∷ [] → is_among names name ≡ true
    → IsInGrammar name value
    → ((n : List ℕ) → Contains needed n → n ≡ name) → ¬ QueryFault names needed pairs
one_sound names needed pairs name value is among valid only (unknown n v has strange) =
    let same = in_one (name, value) (n, v) (subst (λ l. Contains l (n, v)) is has) in
    let never = sym among ∙ ap (λ (p : Pair). is_among names p.0) same ∙ strange in cc
one_sound names needed pairs name value is among valid only (repeated n v w front middle back at) =
    never_two pairs (n, v) (n, w) front middle back (omega (arith, ap length is)) at
one_sound names needed pairs name value is among valid only (outside n v has wrong) =
    let same = in_one (name, value) (n, v) (subst (λ l. Contains l (n, v)) is has) in
    wrong (subst (λ (p : Pair). IsInGrammar p.0 p.1) same valid)
one_sound names needed pairs name value is among valid only (both v w has has') =
    let first = name_is _ _ _ _ (in_one (name, value) (codes "keys", v) (subst (λ l. Contains l (codes "keys", v)) is has)) in
    let second = name_is _ _ _ _ (in_one (name, value) (codes "prefix", w) (subst (λ l. Contains l (codes "prefix", w)) is has')) in
    omega (arith, ap length (sym first ∙ second))
one_sound names needed pairs name value is among valid only (missing n needs none) =
    let here : Contains {X = Pair} ((name, value) ∷ []) (name, value) = (0, omega arith, refl) in
    let there : Contains {X = Pair} ((name, value) ∷ []) (n, value) = subst (λ (m : List ℕ). Contains {X = Pair} ((name, value) ∷ []) (m, value))
    (sym (only n needs)) here in
    none value (subst (λ (l : List Pair). Contains l (n, value)) (sym is) there)

nothing_needed : (name n : List ℕ) → Contains [] n → n ≡ name
nothing_needed name n (k, within, _) = absurd (omega (arith, within))

one_needed : (name n : List ℕ) → Contains (name ∷ []) n → n ≡ name
one_needed name n (zero, within, is) = sym is
one_needed name n (suc k, within, is) = absurd (omega (arith, within))

-- ---- each kind of query

-- a query that names a transaction has no fault
pub tx_sound : (pairs : List Pair) (tx : List ℕ) → NamesTx pairs tx → ¬ QueryFault (codes "tx" ∷ []) [] pairs
tx_sound pairs tx (named is valid) = one_sound _ [] pairs (codes "tx") tx is refl (a_transaction refl valid) (nothing_needed (codes "tx"))
tx_sound pairs tx (unnamed is _) = none_sound _ pairs is

-- nor has one that names a transaction or none
pub may_tx_sound : (pairs : List Pair) (tx : Option (List ℕ)) → MayNameTx pairs tx → ¬ QueryFault (codes "tx" ∷ []) [] pairs
may_tx_sound pairs _ (by_tx tx is valid) = one_sound _ [] pairs (codes "tx") tx is refl (a_transaction refl valid) (nothing_needed (codes "tx"))
may_tx_sound pairs _ (without_tx is) = none_sound _ pairs is

-- a query that names a check or none has no fault
pub guard_sound : (pairs : List Pair) (g : Guard) → NamesGuard pairs g → ¬ QueryFault (codes "check" ∷ []) [] pairs
guard_sound pairs _ (checked is) = one_sound _ [] pairs (codes "check") (codes "render") is refl (a_check refl refl) (nothing_needed (codes "check"))
guard_sound pairs _ (unchecked is) = none_sound _ pairs is

-- a query that means all or not has no fault
pub all_sound : (pairs : List Pair) (b : Bool) → MayGiveAll pairs b → ¬ QueryFault (codes "all" ∷ []) [] pairs
all_sound pairs _ (by_all is) = one_sound _ [] pairs (codes "all") [] is refl (all_alone refl refl) (nothing_needed (codes "all"))
all_sound pairs _ (without_all is) = none_sound _ pairs is

-- a query that gives a name has no fault
pub name_sound : (pairs : List Pair) (name : List ℕ) → GivesName pairs name → ¬ QueryFault (codes "name" ∷ []) (codes "name" ∷ []) pairs
name_sound pairs name gives = one_sound _ (codes "name" ∷ []) pairs (codes "name") name gives.given refl (a_name refl gives.valid) (one_needed (codes "name"))

-- nor has one that names a check and a transaction, or neither
pub check_sound : (pairs : List Pair) (tx : List ℕ) (g : Guard) → NamesTx (others (codes "check") pairs) tx → NamesGuard (with_name (codes "check") pairs) g
    → ¬ QueryFault (codes "check" ∷ codes "tx" ∷ []) [] pairs
check_sound pairs tx g names guards =
    parts_sound (codes "check") (codes "tx" ∷ []) [] [] pairs (none_wanted (codes "check")) refl refl (guard_sound _ g guards) (tx_sound _ tx names)

-- nor has one that gives a name, and names a transaction or none
pub file_sound : (pairs : List Pair) (file : List ℕ) (tx : Option (List ℕ)) → GivesName (with_name (codes "name") pairs) file
    → MayNameTx (others (codes "name") pairs) tx → ¬ QueryFault (codes "name" ∷ codes "tx" ∷ []) (codes "name" ∷ []) pairs
file_sound pairs file tx gives names =
    parts_sound (codes "name") (codes "tx" ∷ []) (codes "name" ∷ []) (codes "name" ∷ []) pairs (one_wanted (codes "name")) refl refl
    (name_sound _ file gives) (may_tx_sound _ tx names)

-- a query that gives names has no fault
pub names_sound : (pairs : List Pair) (names : Option (List (List ℕ))) → GivesNames pairs names → ¬ QueryFault (codes "names" ∷ []) [] pairs
names_sound pairs _ (by_names value listed is lists) = one_sound _ [] pairs (codes "names") value is refl (some_names refl listed lists)
    (nothing_needed (codes "names"))
names_sound pairs _ (without_names is) = none_sound _ pairs is

-- a query that gives keys has no fault
pub keys_sound : (pairs : List Pair) (keys : List (List (List ℕ))) → GivesKeys pairs keys → ¬ QueryFault (codes "keys" ∷ []) (codes "keys" ∷ []) pairs
keys_sound pairs keys gives = one_sound _ (codes "keys" ∷ []) pairs (codes "keys") gives.value gives.given refl (some_keys refl keys gives.lists)
    (one_needed (codes "keys"))

-- a query that gives keys or a prefix has no fault
pub either_sound : (pairs : List Pair) (q : machine.Request) → GivesKeysOrPrefix pairs q → ¬ QueryFault (codes "keys" ∷ codes "prefix" ∷ []) [] pairs
either_sound pairs _ (by_keys keys gives) = one_sound _ [] pairs (codes "keys") gives.value gives.given refl (some_keys refl keys gives.lists)
    (nothing_needed (codes "keys"))
either_sound pairs _ (by_prefix value key is spells) = one_sound _ [] pairs (codes "prefix") value is refl (a_prefix refl key spells)
    (nothing_needed (codes "prefix"))
either_sound pairs _ (by_neither is) = none_sound _ pairs is

-- a query that spells a request has no fault of its route
pub spells_sound : (pairs : List Pair) (body : List ℕ) (r : Route) (q : machine.Request) → Spells pairs body r q → ¬ HasQueryFault r pairs
spells_sound pairs body _ _ (at_root is) = none_sound _ pairs is
spells_sound pairs body _ _ (at_os is) = none_sound _ pairs is
spells_sound pairs body _ _ (at_settings q gives) = either_sound pairs q gives
spells_sound pairs body _ _ (at_patch tx changes names _) = tx_sound pairs tx names
spells_sound pairs body _ _ (at_services names gives) = names_sound pairs names gives
spells_sound pairs body _ _ (at_files names gives) = names_sound pairs names gives
spells_sound pairs body _ _ (at_affected keys gives) = keys_sound pairs keys gives
spells_sound pairs body _ _ (at_pending tx names) = tx_sound pairs tx names
spells_sound pairs body _ _ (at_drop tx names) = tx_sound pairs tx names
spells_sound pairs body _ _ (at_list is) = none_sound _ pairs is
spells_sound pairs body _ _ (at_commit tx g names guards) = check_sound pairs tx g names guards
spells_sound pairs body _ _ (at_apply gives) = all_sound pairs false gives
spells_sound pairs body _ _ (at_apply_all gives) = all_sound pairs true gives
spells_sound pairs body _ _ (at_commit_and_apply tx g names guards) = check_sound pairs tx g names guards
spells_sound pairs body _ _ (at_job is) = none_sound _ pairs is
spells_sound pairs body _ _ (at_set g changes guards _) = guard_sound pairs g guards
spells_sound pairs body _ _ (at_plan tx names) = may_tx_sound pairs tx names
spells_sound pairs body _ _ (at_plan_file file tx gives names) = file_sound pairs file tx gives names
spells_sound pairs body _ _ (at_store is) = none_sound _ pairs is
spells_sound pairs body _ _ (at_verify is) = none_sound _ pairs is

-- nor has one that gives a plan
pub plan_sound : (pairs : List Pair) (r : Route) (plan : Plan) → IsPlan r pairs plan → ¬ HasQueryFault r pairs
plan_sound pairs r (Ready request) is = spells_sound pairs [] r _ (is [])
plan_sound pairs r (Patch tx) is = rw is.0 (tx_sound pairs tx is.1)
plan_sound pairs r (Set g) is = rw is.0 (guard_sound pairs g is.1)
