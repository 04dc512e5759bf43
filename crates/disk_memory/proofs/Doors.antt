-- The connections of a door in memory.
use Rattle.std.proofs.Common.{◌≡◌, ◌<◌, ◌≤◌, ℕ, zero, suc, List, [], ◌∷◌, ◌++◌, map, reverse, length, get_or, Option, Some, None, refl, sym, ◌∙◌, ap, arith}
use Rattle.std.specs.Prelude.{slice_get, option_map}
use Rattle.std.proofs.lemmas.List.{append-nil, reverse-append, reverse-reverse, map-append, length-map, length-append}
use Rattle.std.proofs.lemmas.Option.{slice_get-map, slice_get-get_or, slice_get_past}
use Rattle.outside.specs.Exchange.{Exchange}
use Rattle.outside.specs.Door.{LastBy}
use Rattle.outside.specs.Told.{Moves}
use Rattle.disk_memory.specs.Connection.{exchange_of, after_last}
use Rattle.disk_memory.specs.declared.connection.Connection.{Connection}

-- one exchange goes on, and the others stay
pub last_goes_on : (R : Exchange → Exchange → Type 0) (before now : Exchange) (others : List Exchange) → R before now
    → Moves (Some (before ∷ others)) (Some (now ∷ others)) (LastBy R)
last_goes_on R before now others moved = record { told = record { before = before; now = now; others = others; old_is = refl; new_is = refl; moved = moved } }

-- a list with one element more at its end, from the back
pub reverse-push : {A : Type 0} (xs ys : List A) (x : A) → ys ≡ xs ++ x ∷ [] → reverse ys ≡ x ∷ reverse xs
reverse-push xs ys x is = ap reverse is ∙ reverse-append xs (x ∷ [])

-- the last connection is added
pub exchange_added : (before later : List Connection) (last : Connection) → later ≡ before ++ last ∷ []
    → reverse (map exchange_of later) ≡ exchange_of last ∷ reverse (map exchange_of before)
exchange_added before later last is =
    reverse-push (map exchange_of before) (map exchange_of later) (exchange_of last) (ap (map exchange_of) is ∙ map-append exchange_of before (last ∷ []))

-- ---- the exchanges in the order of connections

-- an element of the first list
get-within : {A : Type 0} (xs ys : List A) (k : ℕ) → k < length xs → slice_get (xs ++ ys) k ≡ slice_get xs k
get-within [] ys k within = absurd (omega arith)
get-within (x ∷ xs) ys zero within = refl
get-within (x ∷ xs) ys (suc k) within = get-within xs ys k (omega arith)

-- the first element after the first list
get-seam : {A : Type 0} (xs : List A) (y : A) → slice_get (xs ++ y ∷ []) (length xs) ≡ Some y
get-seam [] y = refl
get-seam (x ∷ xs) y = get-seam xs y

abbrev ends : Option Connection → List Exchange
ends None = []
ends (Some last) = exchange_of last ∷ []

-- the last one after those before it
in_order : (before : List Exchange) (last : Option Connection) → reverse (after_last last (reverse before)) ≡ before ++ ends last
in_order before None = reverse-reverse before ∙ sym (append-nil before)
in_order before (Some last) = reverse-append (exchange_of last ∷ []) (reverse before) ∙ ap (λ (l : List Exchange). l ++ exchange_of last ∷ [])
    (reverse-reverse before)

-- the output of a connection before the last one
pub output_before : (before : List Connection) (last : Option Connection) (k : ℕ) (c : Connection) (bytes : List ℕ) → k < length before → c ≡ get_or before k c
    → bytes ≡ (exchange_of c).written → Some bytes ≡ option_map (λ e. e.written) (slice_get (reverse (after_last last (reverse (map exchange_of before)))) k)
output_before before last k c bytes within is written =
    let found : slice_get (map exchange_of before) k ≡ Some (exchange_of c) =
    slice_get-map exchange_of before k ∙ ap (option_map exchange_of) (slice_get-get_or before k c within ∙ ap Some (sym is)) in
    let long : k < length (map exchange_of before) = omega (arith, length-map before exchange_of) in
    ap Some written ∙ sym (ap (option_map (λ e. e.written)) (ap (λ (l : List Exchange). slice_get l k) (in_order (map exchange_of before) last)
    ∙ get-within (map exchange_of before) (ends last) k long ∙ found))

-- the output of the last connection
pub output_last : (before : List Connection) (last : Option Connection) (k : ℕ) (c : Connection) (bytes : List ℕ) → k ≡ length before → last ≡ Some c
    → bytes ≡ (exchange_of c).written → Some bytes ≡ option_map (λ e. e.written) (slice_get (reverse (after_last last (reverse (map exchange_of before)))) k)
output_last before last k c bytes at is written =
    let place : k ≡ length (map exchange_of before) = at ∙ sym (length-map before exchange_of) in
    ap Some written ∙ sym (ap (option_map (λ e. e.written))
    (ap (λ l. slice_get (reverse (after_last l (reverse (map exchange_of before)))) k) is
    ∙ ap (λ (l : List Exchange). slice_get l k) (in_order (map exchange_of before) (Some c))
    ∙ ap (λ n. slice_get (map exchange_of before ++ exchange_of c ∷ []) n) place
    ∙ get-seam (map exchange_of before) (exchange_of c)))

-- there is at most one last connection
short : (last : Option Connection) → length (ends last) ≤ 1
short None = omega arith
short (Some last) = omega arith

-- no connection has a greater number
pub output_past : (before : List Connection) (last : Option Connection) (k : ℕ) → length before < k
    → None ≡ option_map (λ e. e.written) (slice_get (reverse (after_last last (reverse (map exchange_of before)))) k)
output_past before last k past =
    let all : length (map exchange_of before ++ ends last) ≤ k = omega
    (arith, length-append (map exchange_of before) (ends last), length-map before exchange_of, short last) in
    sym (ap (option_map (λ e. e.written)) (ap (λ (l : List Exchange). slice_get l k) (in_order (map exchange_of before) last)
    ∙ slice_get_past (map exchange_of before ++ ends last) k all))
