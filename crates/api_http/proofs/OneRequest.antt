-- A query and a body spell one request at most.
use Rattle.std.proofs.Common.{◌≡◌, ℕ, List, [], ◌∷◌, length, codes, true, false, Option, Some, Result, Ok, refl, sym, ap, ◌∙◌, subst, arith}
use Rattle.key_names.specs.declared.key_error.KeyError.{KeyError}
use Rattle.key_names.specs.Spelling.{SpellsKey}
use Rattle.key_names.specs.Listing.{Lists}
use Rattle.key_names.proofs.OneReading.{one_key}
use Rattle.key_names.proofs.OneListing.{listed_read}
use Rattle.api_http.specs.declared.route.Route.{Route}
use Rattle.api_http.specs.Query.{Pair, others, named as with_name, ListsNames}
use Rattle.settings_machine.specs.World.{Key}
use Rattle.settings_machine.specs.Requests as machine
use Rattle.settings_machine.specs.Asked.{guarded_by}
use Rattle.settings_machine.specs.declared.request.Guard.{Guard}
use Rattle.api_http.specs.Spelled.{NamesTx, named, unnamed, MayNameTx, by_tx, without_tx, NamesGuard, checked, unchecked}
use Rattle.api_http.specs.Spelled.{MayGiveAll, by_all, without_all, GivesNames, by_names, without_names}
use Rattle.api_http.specs.Spelled.{GivesKeys, GivesKeysOrPrefix, by_keys, by_prefix, by_neither, Spells, at_root}
use Rattle.api_http.specs.Spelled.{at_os, at_settings, at_patch, at_services, at_files, at_affected}
use Rattle.api_http.specs.Spelled.{at_pending, at_drop, at_list, at_commit, at_apply, at_apply_all, at_commit_and_apply, at_job}
use Rattle.api_http.specs.Spelled.{at_set, at_plan, at_plan_file, at_store, at_verify}

first_name : List Pair → List ℕ
first_name [] = []
first_name (p ∷ _) = p.0

first_value : List Pair → List ℕ
first_value [] = []
first_value (p ∷ _) = p.1

one_value : (pairs : List Pair) (n m v w : List ℕ) → pairs ≡ (n, v) ∷ [] → pairs ≡ (m, w) ∷ [] → v ≡ w
unfolding first_value
one_value pairs n m v w a b = ap first_value (sym a ∙ b)

one_name : (pairs : List Pair) (n m v w : List ℕ) → pairs ≡ (n, v) ∷ [] → pairs ≡ (m, w) ∷ [] → n ≡ m
unfolding first_name
one_name pairs n m v w a b = ap first_name (sym a ∙ b)

not_both : (pairs : List Pair) (p : Pair) → pairs ≡ p ∷ [] → pairs ≡ [] → ⊥
not_both pairs p a b = omega (arith, ap length (sym a ∙ b))

-- a query names one transaction
pub one_tx : (pairs : List Pair) (tx tx' : List ℕ) → NamesTx pairs tx → NamesTx pairs tx' → tx ≡ tx'
one_tx pairs tx tx' (named a _) (named b _) = one_value pairs _ _ tx tx' a b
one_tx pairs tx tx' (named a _) (unnamed b _) = absurd (not_both pairs _ a b)
one_tx pairs tx tx' (unnamed a _) (named b _) = absurd (not_both pairs _ b a)
one_tx pairs tx tx' (unnamed _ a) (unnamed _ b) = a ∙ sym b

-- a query names one transaction or none
one_may_tx : (pairs : List Pair) (tx tx' : Option (List ℕ)) → MayNameTx pairs tx → MayNameTx pairs tx' → tx ≡ tx'
one_may_tx pairs _ _ (by_tx tx a _) (by_tx tx' b _) = ap Some (one_value pairs _ _ tx tx' a b)
one_may_tx pairs _ _ (by_tx tx a _) (without_tx b) = absurd (not_both pairs _ a b)
one_may_tx pairs _ _ (without_tx a) (by_tx tx' b _) = absurd (not_both pairs _ b a)
one_may_tx pairs _ _ (without_tx a) (without_tx b) = refl

-- a query names one check or none
one_guard : (pairs : List Pair) (g g' : Guard) → NamesGuard pairs g → NamesGuard pairs g' → g ≡ g'
one_guard pairs _ _ (checked a) (checked b) = refl
one_guard pairs _ _ (checked a) (unchecked b) = absurd (not_both pairs _ a b)
one_guard pairs _ _ (unchecked a) (checked b) = absurd (not_both pairs _ b a)
one_guard pairs _ _ (unchecked a) (unchecked b) = refl

-- a query doesn't both mean all and not
never_both : (pairs : List Pair) → MayGiveAll pairs true → MayGiveAll pairs false → ⊥
never_both pairs (by_all a) (without_all b) = not_both pairs _ a b

one_list : (text : List ℕ) (keys keys' : List Key) → Lists text keys → Lists text keys' → keys ≡ keys'
one_list text keys keys' a b = let read : Result (List Key) KeyError = Ok keys in listed_read {V = List Key} (λ k. k) text read a tt keys' b

one_keys : (pairs : List Pair) (keys keys' : List Key) → GivesKeys pairs keys → GivesKeys pairs keys' → keys ≡ keys'
one_keys pairs keys keys' a b =
    let same = one_value pairs _ _ a.value b.value a.given b.given in
    one_list b.value keys keys' (subst (λ v. Lists v keys) same a.lists) b.lists

one_names : (pairs : List Pair) (names names' : Option (List (List ℕ))) → GivesNames pairs names → GivesNames pairs names' → names ≡ names'
one_names pairs _ _ (by_names v l a lists) (by_names w m b lists') =
    let same = one_value pairs _ _ v w a b in
    let there : ListsNames w l = subst (λ x. ListsNames x l) same lists in
    ap Some (there.pieces ∙ sym lists'.pieces)
one_names pairs _ _ (by_names v l a _) (without_names b) = absurd (not_both pairs _ a b)
one_names pairs _ _ (without_names a) (by_names w m b _) = absurd (not_both pairs _ b a)
one_names pairs _ _ (without_names a) (without_names b) = refl

apart : (pairs : List Pair) (v w : List ℕ) → pairs ≡ (codes "keys", v) ∷ [] → pairs ≡ (codes "prefix", w) ∷ [] → ⊥
apart pairs v w a b = omega (arith, ap length (one_name pairs (codes "keys") (codes "prefix") v w a b))

one_either : (pairs : List Pair) (q q' : machine.Request) → GivesKeysOrPrefix pairs q → GivesKeysOrPrefix pairs q' → q ≡ q'
one_either pairs _ _ (by_keys l a) (by_keys m b) = ap machine.SettingsAt (one_keys pairs l m a b)
one_either pairs _ _ (by_keys l a) (by_prefix w k b _) = absurd (apart pairs a.value w a.given b)
one_either pairs _ _ (by_keys l a) (by_neither b) = absurd (not_both pairs _ a.given b)
one_either pairs _ _ (by_prefix v k a _) (by_keys m b) = absurd (apart pairs b.value v b.given a)
one_either pairs _ _ (by_prefix v k a s) (by_prefix w j b t) =
    let same = one_value pairs _ _ v w a b in
    ap machine.SettingsBelow (one_key (subst (λ x. SpellsKey x k) same s) t)
one_either pairs _ _ (by_prefix v k a _) (by_neither b) = absurd (not_both pairs _ a b)
one_either pairs _ _ (by_neither a) (by_keys m b) = absurd (not_both pairs _ b.given a)
one_either pairs _ _ (by_neither a) (by_prefix w k b _) = absurd (not_both pairs _ b a)
one_either pairs _ _ (by_neither a) (by_neither b) = refl

-- a query and a body spell one request of a route
pub one_request : (pairs : List Pair) (body : List ℕ) (r : Route) (q q' : machine.Request) → Spells pairs body r q → Spells pairs body r q' → q ≡ q'
one_request pairs body _ _ _ (at_root _) (at_root _) = refl
one_request pairs body _ _ _ (at_os _) (at_os _) = refl
one_request pairs body _ _ _ (at_settings q a) (at_settings q' b) = one_either pairs q q' a b
one_request pairs body _ _ _ (at_patch tx changes a flat) (at_patch tx' changes' b flat') =
    let names = one_tx pairs tx tx' a b in
    let body_is : changes ≡ changes' = let e = sym flat ∙ flat' in cc in
    λ i. machine.Patch (names i) (body_is i)
one_request pairs body _ _ _ (at_services names a) (at_services names' b) = ap machine.Services (one_names pairs names names' a b)
one_request pairs body _ _ _ (at_files names a) (at_files names' b) = ap machine.ConfigurationFiles (one_names pairs names names' a b)
one_request pairs body _ _ _ (at_affected keys a) (at_affected keys' b) = ap machine.Affected (one_keys pairs keys keys' a b)
one_request pairs body _ _ _ (at_pending tx a) (at_pending tx' b) = ap machine.Pends (one_tx pairs tx tx' a b)
one_request pairs body _ _ _ (at_drop tx a) (at_drop tx' b) = ap machine.DropTx (one_tx pairs tx tx' a b)
one_request pairs body _ _ _ (at_list _) (at_list _) = refl
one_request pairs body _ _ _ (at_commit tx g a w) (at_commit tx' g' b v) =
    let names = one_tx (others (codes "check") pairs) tx tx' a b in
    let guards = one_guard (with_name (codes "check") pairs) g g' w v in
    λ i. guarded_by (guards i) (machine.Commit (names i))
one_request pairs body _ _ _ (at_apply _) (at_apply _) = refl
one_request pairs body _ _ _ (at_apply a) (at_apply_all b) = absurd (never_both pairs b a)
one_request pairs body _ _ _ (at_apply_all a) (at_apply b) = absurd (never_both pairs a b)
one_request pairs body _ _ _ (at_apply_all _) (at_apply_all _) = refl
one_request pairs body _ _ _ (at_commit_and_apply tx g a w) (at_commit_and_apply tx' g' b v) =
    let names = one_tx (others (codes "check") pairs) tx tx' a b in
    let guards = one_guard (with_name (codes "check") pairs) g g' w v in
    λ i. guarded_by (guards i) (machine.CommitAndApply (names i))
one_request pairs body _ _ _ (at_job _) (at_job _) = refl
one_request pairs body _ _ _ (at_set g changes w flat) (at_set g' changes' v flat') =
    let guards = one_guard pairs g g' w v in
    let body_is : changes ≡ changes' = let e = sym flat ∙ flat' in cc in
    λ i. guarded_by (guards i) (machine.Set (body_is i))
one_request pairs body _ _ _ (at_plan tx a) (at_plan tx' b) = ap machine.Plan (one_may_tx pairs tx tx' a b)
one_request pairs body _ _ _ (at_plan_file file tx f a) (at_plan_file file' tx' f' b) =
    let files = one_value (with_name (codes "name") pairs) _ _ file file' f.given f'.given in
    let names = one_may_tx (others (codes "name") pairs) tx tx' a b in
    λ i. machine.PlanFile (files i) (names i)
one_request pairs body _ _ _ (at_store _) (at_store _) = refl
one_request pairs body _ _ _ (at_verify _) (at_verify _) = refl
