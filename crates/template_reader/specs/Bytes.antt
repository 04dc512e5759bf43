-- Words on bytes.
use Rattle.std.specs.Prelude.{ℕ, ◌+◌, ◌-◌, ◌*◌, Bool, ◌||◌, ◌==◌, nat_eq, List, length, take, drop, Option, Some, None}
use Rattle.std.specs.List.{starts_with, ends_with}
use Rattle.std.specs.Str.{bytes_eq}

-- White space is space, tab, LF and CR.
abbrev pub is_space : ℕ → Bool
is_space b = b == 32 || b == 9 || b == 10 || b == 13

-- Spaces and tabs are blanks.
abbrev pub is_blank : ℕ → Bool
is_blank b = b == 32 || b == 9

-- The bytes begin with the mark.
abbrev pub begins : List ℕ → List ℕ → Bool
begins bytes mark = starts_with nat_eq bytes mark

-- The bytes end with the mark.
abbrev pub ends : List ℕ → List ℕ → Bool
ends bytes mark = ends_with nat_eq bytes mark

-- The word is this text.
abbrev pub is : List ℕ → List ℕ → Bool
is word text = bytes_eq word text

-- The bytes without n bytes at each end.
abbrev pub inside : ℕ → List ℕ → List ℕ
inside n bytes = take (length bytes - 2 * n) (drop n bytes)

-- The bytes from a start to an end.
abbrev pub part : ℕ → ℕ → List ℕ → List ℕ
part start end bytes = take (end - start) (drop start bytes)

-- So many bytes more, where there is an end.
abbrev pub more : ℕ → Option ℕ → Option ℕ
more n None = None
more n (Some m) = Some (n + m)
