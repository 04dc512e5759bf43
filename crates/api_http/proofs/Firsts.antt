-- The first refusal that a head shows, and heads that show none.
use Rattle.std.proofs.Common.{◌≡◌, ◌≤◌, ◌<◌, true, false, IsTrue, Some, None, codes, sym, ◌∙◌, subst, arith}
use Rattle.api_http.specs.declared.refusal.Refusal.{Refusal}
use Rattle.api_http.specs.declared.refusal.Refusal.TheVariants.{Head, NoPath, Method, Query, Length, BodyTooLong}
use Rattle.api_http.specs.declared.route.Route.{Route}
use Rattle.api_http.specs.Fields.{has_bad_length, has_field, body_length}
use Rattle.api_http.specs.Routes.{has_path}
use Rattle.api_http.specs.Query.{HasQueryFault}
use Rattle.api_http.specs.Requests.{Told, path_of, pairs_of, route_told, Shows, bad_length, no_path}
use Rattle.api_http.specs.Requests.{no_method, bad_query, transfer_coded, long_body, place, ShowsFirst, IsClean}

not_both : {A : Type 0} (x y : A) (P : A → Type 0) → x ≡ y → P x → P y
not_both x y P e p = subst P e p

-- nothing comes before a bad length
pub first_bad_length : (t : Told) → IsTrue (has_bad_length t.fields) → ShowsFirst t Head
first_bad_length t bad = record { shows = bad_length bad; first = λ other s. least other s }
  where
    least : (other : Refusal) → Shows t other → 1 ≤ place other
    least _ (bad_length _) = omega arith
    least _ (no_path _) = omega arith
    least _ (no_method _ _) = omega arith
    least _ (bad_query _ _ _) = omega arith
    least _ (transfer_coded _) = omega arith
    least _ (long_body _) = omega arith

module _ (t : Told) (sound : has_bad_length t.fields ≡ false) where
  -- of a head with a sound length an unknown path is reported first
  pub first_no_path : has_path (path_of t) ≡ false → ShowsFirst t NoPath
  first_no_path none = record { shows = no_path none; first = λ other s. least other s }
    where
      least : (other : Refusal) → Shows t other → 2 ≤ place other
      least _ (bad_length bad) = let never = sym bad ∙ sound in cc
      least _ (no_path _) = omega arith
      least _ (no_method _ _) = omega arith
      least _ (bad_query _ _ _) = omega arith
      least _ (transfer_coded _) = omega arith
      least _ (long_body _) = omega arith

  -- and then a path without the method
  pub first_no_method : has_path (path_of t) ≡ true → route_told t ≡ None → ShowsFirst t (Method (path_of t))
  first_no_method known none = record { shows = no_method known none; first = λ other s. least other s }
    where
      least : (other : Refusal) → Shows t other → 3 ≤ place other
      least _ (bad_length bad) = let never = sym bad ∙ sound in cc
      least _ (no_path strange) = let never = sym known ∙ strange in cc
      least _ (no_method _ _) = omega arith
      least _ (bad_query _ _ _) = omega arith
      least _ (transfer_coded _) = omega arith
      least _ (long_body _) = omega arith

  module _ (known : has_path (path_of t) ≡ true) (r : Route) (route_is : route_told t ≡ Some r) where
    -- and then a fault of the query
    pub first_query : HasQueryFault r (pairs_of t) → ShowsFirst t Query
    first_query fault = record { shows = bad_query r route_is fault; first = λ other s. least other s }
      where
        least : (other : Refusal) → Shows t other → 4 ≤ place other
        least _ (bad_length bad) = let never = sym bad ∙ sound in cc
        least _ (no_path strange) = let never = sym known ∙ strange in cc
        least _ (no_method _ none) = let never = sym route_is ∙ none in cc
        least _ (bad_query _ _ _) = omega arith
        least _ (transfer_coded _) = omega arith
        least _ (long_body _) = omega arith

    other_fault : ¬ HasQueryFault r (pairs_of t) → (q : Route) → route_told t ≡ Some q → ¬ HasQueryFault q (pairs_of t)
    other_fault clean q is fault = let same : q ≡ r = cc in clean (subst (λ x. HasQueryFault x (pairs_of t)) same fault)

    module _ (clean : ¬ HasQueryFault r (pairs_of t)) where
      -- and then a Transfer-Encoding
      pub first_coded : IsTrue (has_field (codes "Transfer-Encoding") t.fields) → ShowsFirst t Length
      first_coded coded = record { shows = transfer_coded coded; first = λ other s. least other s }
        where
          least : (other : Refusal) → Shows t other → 5 ≤ place other
          least _ (bad_length bad) = let never = sym bad ∙ sound in cc
          least _ (no_path strange) = let never = sym known ∙ strange in cc
          least _ (no_method _ none) = let never = sym route_is ∙ none in cc
          least _ (bad_query q is fault) = absurd (other_fault clean q is fault)
          least _ (transfer_coded _) = omega arith
          least _ (long_body _) = omega arith

      module _ (plain : has_field (codes "Transfer-Encoding") t.fields ≡ false) where
        -- and then a long body
        pub first_long : 1048576 < body_length t.fields → ShowsFirst t BodyTooLong
        first_long long = record { shows = long_body long; first = λ other s. least other s }
          where
            least : (other : Refusal) → Shows t other → 6 ≤ place other
            least _ (bad_length bad) = let never = sym bad ∙ sound in cc
            least _ (no_path strange) = let never = sym known ∙ strange in cc
            least _ (no_method _ none) = let never = sym route_is ∙ none in cc
            least _ (bad_query q is fault) = absurd (other_fault clean q is fault)
            least _ (transfer_coded coded) = let never = sym coded ∙ plain in cc
            least _ (long_body _) = omega arith

        -- and where none of these holds, no refusal is shown
        pub none_shown : body_length t.fields ≤ 1048576 → IsClean t
        none_shown short _ (bad_length bad) = let never = sym bad ∙ sound in cc
        none_shown short _ (no_path strange) = let never = sym known ∙ strange in cc
        none_shown short _ (no_method _ none) = let never = sym route_is ∙ none in cc
        none_shown short _ (bad_query q is fault) = other_fault clean q is fault
        none_shown short _ (transfer_coded coded) = let never = sym coded ∙ plain in cc
        none_shown short _ (long_body long) = omega arith
