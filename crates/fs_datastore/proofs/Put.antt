-- What is at each place after something is put into a map or taken out of it.
use Rattle.std.proofs.Common.{◌≡◌, Option, Some, None, Bool, true, false, cond, ◌&&◌, refl, ap, ◌∙◌, option_map}
use Rattle.std.specs.declared.cmp.Ordering.{Ordering}
use Rattle.std.specs.Ordering.{eq_by_cmp}
use Rattle.std.specs.Cmp.{IsTotalOrder}
use Rattle.std.specs.FinMap.{FinMap, get, insert, remove, get-insert, get-remove}
use Rattle.settings_maps.specs.Maps.{value_at, with_value, without_value}
use Rattle.settings_maps.proofs.NestedMaps.{value_at-with, value_at-without}
use Rattle.fs_datastore.specs.Values.{Value}

map_cond : {X Y : Type 0} (f : X → Y) (b : Bool) (x y : Option X) → option_map f (cond b x y) ≡ cond b (option_map f x) (option_map f y)
map_cond f true x y = refl
map_cond f false x y = refl

map_two : {X Y : Type 0} (f : X → Y) (a b : Bool) (x y : Option X) → option_map f (cond a (cond b x y) y) ≡ cond (a && b) (option_map f x) (option_map f y)
map_two f true true x y = refl
map_two f true false x y = refl
map_two f false b x y = refl

module _ {K X : Type 0} {R : K → K → Ordering} (total : IsTotalOrder R) (f : X → Value) where
  pub put_at : (m : FinMap R X) (k q : K) (x : X) → option_map f (get (insert m k x) q) ≡ cond (eq_by_cmp R q k) (Some (f x)) (option_map f (get m q))
  put_at m k q x = ap (λ (o : Option X). option_map f o) (get-insert total m k x q) ∙ map_cond f (eq_by_cmp R q k) (Some x) (get m q)

  pub taken_at : (m : FinMap R X) (k q : K) → option_map f (get (remove m k) q) ≡ cond (eq_by_cmp R q k) None (option_map f (get m q))
  taken_at m k q = ap (λ (o : Option X). option_map f o) (get-remove total m k q) ∙ map_cond f (eq_by_cmp R q k) None (get m q)

module _ {K N X : Type 0} {R : K → K → Ordering} {S : N → N → Ordering} (total : IsTotalOrder R) (names : IsTotalOrder S) (f : X → Value) where
  pub put_in : (m : FinMap R (FinMap S X)) (k q : K) (n r : N) (x : X) → option_map f (value_at (with_value m k n x) q r) ≡ cond
      (eq_by_cmp R q k && eq_by_cmp S r n) (Some (f x)) (option_map f (value_at m q r))
  put_in m k q n r x = ap (λ (o : Option X). option_map f o) (value_at-with total names m k q n r x)
      ∙ map_two f (eq_by_cmp R q k) (eq_by_cmp S r n) (Some x) (value_at m q r)

  pub taken_in : (m : FinMap R (FinMap S X)) (k q : K) (n r : N) → option_map f (value_at (without_value m k n) q r) ≡ cond (eq_by_cmp R q k && eq_by_cmp S r n)
      None (option_map f (value_at m q r))
  taken_in m k q n r = ap (λ (o : Option X). option_map f o) (value_at-without total names m k q n r)
      ∙ map_two f (eq_by_cmp R q k) (eq_by_cmp S r n) None (value_at m q r)
