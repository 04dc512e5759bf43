-- The last connection, call after call.
use Rattle.std.proofs.Common.{◌≡◌, List, [], ◌∷◌, Option, refl, sym, ◌∙◌, subst}
use Rattle.outside.specs.Exchange.{Exchange}
use Rattle.outside.specs.Door.{LastBy}
use Rattle.outside.specs.Told.{Moves}
use Rattle.outside.proofs.Told.{moves_stay, moves_then, moves_map}
use Rattle.api_server.specs.Reading.{LastIf}

-- The first exchanges of equal lists are equal.
pub head_same : (x y : Exchange) (xs ys : List Exchange) → x ∷ xs ≡ y ∷ ys → x ≡ y
head_same x y xs ys e = cc

-- And so are the others.
pub tail_same : (x y : Exchange) (xs ys : List Exchange) → x ∷ xs ≡ y ∷ ys → xs ≡ ys
tail_same x y xs ys e = cc

never_same : (x : Exchange) (xs : List Exchange) → [] ≡ x ∷ xs → ⊥
never_same x xs e = cc

-- no call so far
last_stays : (R : Exchange → Exchange → Type 0) → ((e : Exchange) → R e e) → (l : List Exchange) → LastIf R l l
last_stays R here [] = refl
last_stays R here (e ∷ es) = (e, refl, here e)

-- one that moved the last connection
last_if : (R : Exchange → Exchange → Type 0) (old new : List Exchange) → LastBy R old new → LastIf R old new
last_if R [] new by = absurd (never_same by.before by.others by.old_is)
last_if R (e ∷ es) new by = (
  by.now,
  by.new_is ∙ sym (subst (λ (l : List Exchange). by.now ∷ es ≡ by.now ∷ l) (tail_same e by.before es by.others by.old_is) refl),
  subst (λ (x : Exchange). R x by.now) (sym (head_same e by.before es by.others by.old_is)) by.moved,
)

-- one after others
last_then : (R Q W : Exchange → Exchange → Type 0) → ((x y z : Exchange) → R x y → Q y z → W x z) → (old mid new : List Exchange) → LastIf R old mid
    → LastBy Q mid new → LastBy W old new
last_then R Q W f [] mid new so by = absurd (never_same by.before by.others (sym so ∙ by.old_is))
last_then R Q W f (e ∷ es) mid new so by =
    let is : so.0 ∷ es ≡ by.before ∷ by.others = sym so.1 ∙ by.old_is in
    record {
      before = e;
      now = by.now;
      others = es;
      old_is = refl;
      new_is = by.new_is ∙ sym (subst (λ (l : List Exchange). by.now ∷ es ≡ by.now ∷ l) (tail_same so.0 by.before es by.others is) refl);
      moved = f e so.0 by.now so.2 (subst (λ (x : Exchange). Q x by.now) (sym (head_same so.0 by.before es by.others is)) by.moved);
    }

last_mapped : (R W : Exchange → Exchange → Type 0) → ((x y : Exchange) → R x y → W x y) → (old new : List Exchange) → LastBy R old new → LastBy W old new
last_mapped R W f old new by = record {
  before = by.before;
  now = by.now;
  others = by.others;
  old_is = by.old_is;
  new_is = by.new_is;
  moved =
      f by.before by.now by.moved;
}

-- before the first call
pub lasts_stay : {R : Exchange → Exchange → Type 0} {a : Option (List Exchange)} → ((e : Exchange) → R e e) → Moves a a (LastIf R)
lasts_stay {R = R} here = moves_stay (last_stays R here)

-- a further call
pub lasts_then : {R Q W : Exchange → Exchange → Type 0} {a b c : Option (List Exchange)} → ((x y z : Exchange) → R x y → Q y z → W x z) → Moves a b (LastIf R)
    → Moves b c (LastBy Q) → Moves a c (LastBy W)
lasts_then {R = R} {Q = Q} {W = W} f m n = moves_then (last_then R Q W f) m n

-- a call that moved the last connection
pub lasts_if : {R : Exchange → Exchange → Type 0} {a b : Option (List Exchange)} → Moves a b (LastBy R) → Moves a b (LastIf R)
lasts_if {R = R} m = moves_map (last_if R) m

pub lasts_map : {R W : Exchange → Exchange → Type 0} {a b : Option (List Exchange)} → ((x y : Exchange) → R x y → W x y) → Moves a b (LastBy R)
    → Moves a b (LastBy W)
lasts_map {R = R} {W = W} f m = moves_map (last_mapped R W f) m
