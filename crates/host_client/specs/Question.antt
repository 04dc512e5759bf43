-- Questions to the server, and their bytes.
use Rattle.std.specs.Prelude.{ℕ, Bool, true, ◌&&◌, ◌||◌, ◌==◌, nat_le, nat_eq, List, [], ◌++◌, length, codes, decimal, Option, Some, None}
use Rattle.std.specs.Char.{is_ascii_uppercase, is_ascii_alphanumeric}
use Rattle.std.specs.List.{list_all, list_any, starts_with}
use Rattle.std.specs.Option.{unwrap_or}

-- A method is 1 to 16 upper-case letters.
abbrev pub is_method : List ℕ → Bool
is_method method = nat_le 1 (length method) && nat_le (length method) 16 && list_all is_ascii_uppercase method

-- A byte of a target is a letter, a digit or one of nine marks.
abbrev pub is_target_byte : ℕ → Bool
is_target_byte b = is_ascii_alphanumeric b || list_any (λ mark. mark == b) (codes "/?&=-_.%,")

-- A target begins with a slash and has at most 8,192 such bytes.
abbrev pub is_target : List ℕ → Bool
is_target target = starts_with nat_eq target (codes "/") && nat_le (length target) 8192 && list_all is_target_byte target

-- A body, if there is one, has at most 1,048,576 bytes.
abbrev pub is_body : Option (List ℕ) → Bool
is_body None = true
is_body (Some body) = nat_le (length body) 1048576

-- This can be asked.
abbrev pub is_question : List ℕ → List ℕ → Option (List ℕ) → Bool
is_question method target body = is_method method && is_target target && is_body body

-- The fields that tell of the body, where there is one.
abbrev pub length_fields : Option (List ℕ) → List ℕ
length_fields None = []
length_fields (Some body) = codes "Content-Type: application/json\r\nContent-Length: " ++ decimal (length body) ++ codes "\r\n"

-- The bytes that are sent for a question: method, target and body as a request of HTTP/1.1.
abbrev pub ask_text : List ℕ → List ℕ → Option (List ℕ) → List ℕ
ask_text method target body =
    method ++ codes " " ++ target ++ codes " HTTP/1.1\r\nHost: localhost\r\n"
    ++ length_fields body ++ codes "Connection: close\r\n\r\n" ++ unwrap_or body []
