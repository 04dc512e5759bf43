-- What bytes are a reply.
use Rattle.std.specs.Prelude.{◌≡◌, ◌≤◌, ℕ, Bool, true, false, IsTrue, ◌&&◌, ◌==◌, nat_lt, List, [], ◌∷◌, length, map, filter, codes}
use Rattle.std.specs.Char.{is_ascii_digit}
use Rattle.std.specs.List.{list_all}
use Rattle.std.specs.Str.{str_eq_ignore_ascii_case}
use Rattle.std.specs.Str.Parse.{digits_value}
use Rattle.httparse.specs.Grammar.{ResponseHead, ReadsResponse, status_code}
use Rattle.httparse.specs.Spans.{name_and_value}

-- The field, a name and its value, is Content-Length, in any case of ASCII letters.
abbrev pub is_length_field : List ℕ × List ℕ → Bool
is_length_field field = str_eq_ignore_ascii_case field.0 (codes "Content-Length")

-- The values of the Content-Length fields.
abbrev pub lengths : List (List ℕ × List ℕ) → List (List ℕ)
lengths fields = map (λ field. field.1) (filter is_length_field fields)

-- One or more digits.
abbrev pub is_number : List ℕ → Bool
is_number value = nat_lt 0 (length value) && list_all is_ascii_digit value

-- There is no length, or one alone, whose digits give the size.
abbrev pub fits : List (List ℕ) → ℕ → Bool
fits [] size = true
fits (value ∷ []) size = is_number value && digits_value 10 value == size
fits (value ∷ other ∷ values) size = false

-- The bytes are a head with at most 64 fields and then the body, whose length its fields give or leave open.
pub record IsReply (bytes : List ℕ) (status : ℕ) (body : List ℕ) : Type 0 where
  pub head : ResponseHead
  pub reads : ReadsResponse bytes head body
  pub few : length head.fields ≤ 64
  pub length_fits : IsTrue (fits (lengths (map name_and_value head.fields)) (length body))
  pub status_is : status ≡ status_code head

-- The bytes are no reply.
abbrev pub IsNoReply : List ℕ → Type 0
IsNoReply bytes = (status : ℕ) (body : List ℕ) → ¬ IsReply bytes status body
