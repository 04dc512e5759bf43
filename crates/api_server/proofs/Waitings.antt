-- How many bytes are waited for.
use Rattle.std.proofs.Common.{◌≡◌, ◌≤◌, ◌<◌, ◌+◌, ℕ, List, [], ◌∷◌, ◌++◌, length, sym, ◌∙◌, ap, subst, arith}
use Rattle.std.proofs.Common.{length-append, append_assoc}
use Rattle.std.proofs.lemmas.List.{append-nil}
use Rattle.httparse.specs.Grammar.{RequestHead, print_request, print_blank, print_version, print_end, print_section}
use Rattle.httparse.specs.Ascii.{space}
use Rattle.api_http.specs.Heads.{HoldsNoHead, HasFewLines, line_feeds}
use Rattle.api_http.specs.Fields.{body_length}
use Rattle.api_http.specs.Requests.{told, IsCleanHead, Waits, for_head, for_body, WaitsUntil}
use Rattle.api_http.proofs.Waiting.{short_body}
use Rattle.api_server.specs.Reading.{IsLonger, IsWaiting}

-- no more bytes are wanted than a head and a body may have
wanted_most : (bytes : List ℕ) (n : ℕ) → (HoldsNoHead bytes → n ≡ length bytes + 1)
    → ((head : RequestHead) (rest : List ℕ) → IsCleanHead bytes head rest → n ≡ length (print_request head) + body_length (told head).fields) → Waits bytes
    → n ≤ 1064960
wanted_most bytes n of_head of_body (for_head none few short) = omega (arith, of_head none)
wanted_most bytes n of_head of_body (for_body head rest clean short) =
    omega (arith, of_body head rest clean, clean.whole.size, short_body (told head) clean.clean)

-- bytes that wait
pub waiting : (bytes : List ℕ) (n : ℕ) → Waits bytes → (Waits bytes → length bytes < n) → (Waits bytes → WaitsUntil bytes n)
    → (HoldsNoHead bytes → n ≡ length bytes + 1)
    → ((head : RequestHead) (rest : List ℕ) → IsCleanHead bytes head rest → n ≡ length (print_request head) + body_length (told head).fields)
    → IsWaiting bytes n
waiting bytes n waits more until of_head of_body = record { more = more waits; most = wanted_most bytes n of_head of_body waits; until = until waits }

-- what was wanted of the bytes is wanted with more of them
pub until_longer : (before now : List ℕ) (n : ℕ) → WaitsUntil before n → IsLonger before now → WaitsUntil now n
until_longer before now n until longer more fewer =
    let is : now ++ more ≡ before ++ (longer.more ++ more) = ap (λ (l : List ℕ). l ++ more) longer.grown ∙ append_assoc before longer.more more in
    subst Waits (sym is) (until (longer.more ++ more) (subst (λ (l : List ℕ). length l < n) is fewer))

-- bytes wait for more
pub waits_here : (bytes : List ℕ) (n : ℕ) → WaitsUntil bytes n → length bytes < n → Waits bytes
waits_here bytes n until fewer = subst Waits (append-nil bytes) (until [] (subst (λ (l : List ℕ). length l < n) (sym (append-nil bytes)) fewer))

some_before : (a b c d e f : List ℕ) (s t : ℕ) → 0 < length (a ++ b ++ s ∷ c ++ t ∷ d ++ e ++ f)
some_before a b c d e f s t =
    omega (arith, length-append (a ++ b ++ s ∷ c ++ t ∷ d ++ e) f, length-append (a ++ b ++ s ∷ c ++ t ∷ d) e, length-append (a ++ b ++ s ∷ c) (t ∷ d))

-- a head has some bytes
some_head : (head : RequestHead) → 0 < length (print_request head)
unfolding print_request
some_head head =
    some_before (print_blank head.blank) head.method head.target (print_version head.minor) (print_end head.line_end) (print_section head.fields head.last)
    space space

-- before the first byte
waits_first : Waits []
unfolding line_feeds
waits_first = for_head none few (omega arith)
  where
    none : HoldsNoHead []
    none head rest w = let e : 0 ≡ length (print_request head) + length rest = ap length w.reads.1
        ∙ length-append (print_request head) rest in omega (arith, some_head head)

    few : HasFewLines []
    few = omega arith

pub until_first : WaitsUntil [] 1
until_first [] fewer = waits_first
until_first (b ∷ more) fewer = absurd (omega arith)
