-- What a whole tag says.
use Rattle.std.specs.Prelude.{ℕ, ℤ, pos, negsuc, ◌-◌, Bool, true, false, ◌&&◌, nat_le, nat_lt}
use Rattle.std.specs.Prelude.{List, [], ◌∷◌, length, take, drop, Option, Some, None, option_and_then, if◌then◌else◌, codes}
use Rattle.std.specs.Option.{option_map, option_or}
use Rattle.std.specs.List.{list_all}
use Rattle.std.specs.Str.{all_ascii_digits}
use Rattle.std.specs.Str.Parse.{starts_with_minus, signed_digits_value}
use Rattle.key_names.specs.Segment.{is_quotable}
use Rattle.template_reader.specs.Bytes.{begins, ends, inside, is}
use Rattle.template_reader.specs.Words.{words, key_of, has_bytes}
use Rattle.template_reader.specs.declared.walk.Walk.{Walk}
use Rattle.template_reader.specs.declared.walk.Walk.TheVariants.{Root, This, AtKey, AtIndex}
use Rattle.template_reader.specs.declared.expr.Literal.{Literal}
use Rattle.template_reader.specs.declared.expr.Literal.TheVariants as literal
use Rattle.template_reader.specs.declared.expr.Expr.{Expr}
use Rattle.template_reader.specs.declared.expr.Expr.TheVariants.{Plain, Default, Decode, Json, JoinArray, JoinMap}
use Rattle.template_reader.specs.declared.tag.Form.{Form}
use Rattle.template_reader.specs.declared.tag.Form.TheVariants.{Comment, Print, Begin, Otherwise, Finish}
use Rattle.template_reader.specs.declared.tag.Tag.{Tag}
use Rattle.template_reader.specs.declared.tag.Name.{Name}
use Rattle.template_reader.specs.declared.tag.Name.TheVariants as name

-- A path is a key text, or `this` with a key text after a dot or without, or `@key` or `@index`; `else` alone is none.
unfoldable pub path_of : List ℕ → Option Walk
path_of word =
    if is word (codes "else") then None
    else (if is word (codes "@key") then Some AtKey
    else (if is word (codes "@index") then Some AtIndex
    else (if is word (codes "this") then Some (This None)
    else (if begins word (codes "this.") then option_map (λ key. This (Some key)) (key_of (drop 5 word))
    else option_map Root (key_of word)))))

-- A TEXT is `"`, bytes 0x20 to 0x7E without `"`, and `"`.
unfoldable pub text_of : List ℕ → Option (List ℕ)
text_of word =
    if nat_le 2 (length word) && begins word (codes "\"") && ends word (codes "\"") && list_all is_quotable (inside 1 word) then Some (inside 1 word) else None

-- The word without the `-` that it begins with, if it does.
abbrev pub without_minus : List ℕ → List ℕ
without_minus word = if starts_with_minus word then drop 1 word else word

-- The number is within i64.
abbrev pub fits_i64 : ℤ → Bool
fits_i64 (pos n) = nat_lt n 9223372036854775808
fits_i64 (negsuc n) = nat_lt n 9223372036854775808

-- An integer is one digit or more, maybe after a `-`, of a value within i64.
unfoldable pub integer_of : List ℕ → Option ℤ
integer_of word =
    if (has_bytes (without_minus word) && all_ascii_digits (without_minus word)) && fits_i64 (signed_digits_value 10 word) then Some
    (signed_digits_value 10 word) else None

-- A LITERAL is a TEXT, an integer, `true` or `false`.
unfoldable pub literal_of : List ℕ → Option Literal
literal_of word =
    if is word (codes "true") then Some (literal.Bool true)
    else (if is word (codes "false") then Some (literal.Bool false)
    else option_or (option_map literal.Int (integer_of word)) (option_map literal.Text (text_of word)))

-- Whether the word says that something must be at the path, or that nothing need.
abbrev pub fails_of : List ℕ → Option Bool
fails_of word =
    if is word (codes "\"fail-if-missing\"") then Some true
    else (if is word (codes "\"no-fail-if-missing\"") then Some false else None)

-- What follows the word `default`.
abbrev pub default_of : List ℕ → List ℕ → Option Expr
default_of l p = option_and_then (λ literal. option_map (Default literal) (path_of p)) (literal_of l)

-- What follows the word `join_array`.
abbrev pub join_array_of : List ℕ → List ℕ → Option Expr
join_array_of j p = option_and_then (λ joiner. option_map (JoinArray joiner) (path_of p)) (text_of j)

-- What follows the word `join_map`.
abbrev pub join_map_of : List ℕ → List ℕ → Bool → List ℕ → Option Expr
join_map_of j s fail p =
    option_and_then (λ joiner. option_and_then (λ separator. option_map (JoinMap joiner separator fail) (path_of p)) (text_of s)) (text_of j)

-- An expression is a path, or a helper's name and what belongs to it.
unfoldable pub expr_of : List (List ℕ) → Option Expr
expr_of [] = None
expr_of (p ∷ []) = option_map Plain (path_of p)
expr_of (h ∷ p ∷ []) =
    if is h (codes "base64_decode") then option_map Decode (path_of p) else (if is h (codes "json") then option_map Json (path_of p) else None)
expr_of (h ∷ a ∷ p ∷ []) =
    if is h (codes "default") then default_of a p else (if is h (codes "join_array") then join_array_of a p else None)
expr_of (h ∷ a ∷ b ∷ p ∷ []) = None
expr_of (h ∷ j ∷ s ∷ f ∷ p ∷ []) =
    if is h (codes "join_map") then option_and_then (λ fail. join_map_of j s fail p) (fails_of f) else None
expr_of (h ∷ j ∷ s ∷ f ∷ p ∷ w ∷ ws) = None

-- The name of a block.
abbrev pub name_of : List ℕ → Option Name
name_of w = if is w (codes "if") then Some name.If else (if is w (codes "unless") then Some name.Unless else
    (if is w (codes "each") then Some name.Each else None))

-- A begin is a name and a path.
unfoldable pub begin_form : List (List ℕ) → Option Form
begin_form (n ∷ p ∷ []) = option_and_then (λ name. option_map (Begin name) (path_of p)) (name_of n)
begin_form ws = None

-- An end is a name.
unfoldable pub finish_form : List (List ℕ) → Option Form
finish_form (n ∷ []) = option_map Finish (name_of n)
finish_form ws = None

-- The one word is `else`.
abbrev pub is_else : List (List ℕ) → Bool
is_else [] = false
is_else (w ∷ []) = is w (codes "else")
is_else (w ∷ v ∷ ws) = false

-- An else, or an expression.
unfoldable pub plain_form : List (List ℕ) → Option Form
plain_form ws = if is_else ws then Some Otherwise else option_map Print (expr_of ws)

-- What the content of a tag says: a comment after `!`, a begin after `#`, an end after `/`.
unfoldable pub form_of : List ℕ → Option Form
form_of content =
    if begins content (codes "!") then Some Comment
    else (if begins content (codes "#") then begin_form (words (drop 1 content))
    else (if begins content (codes "/") then finish_form (words (drop 1 content))
    else plain_form (words content)))

-- The content after a trim mark.
abbrev pub without_front : List ℕ → List ℕ
without_front content = if begins content (codes "~") then drop 1 content else content

-- The content before a trim mark.
abbrev pub without_back : List ℕ → List ℕ
without_back content = if ends content (codes "~") then take (length content - 1) content else content

-- What a whole tag says, if it says something: three braces print, and have no trim marks.
unfoldable pub tag_of : List ℕ → Option Tag
tag_of bytes =
    if begins bytes (codes "{{{") then option_map (λ e. record { front = false; back = false; form = Print e }) (expr_of (words (inside 3 bytes)))
    else (let content = inside 2 bytes in
    let rest = without_front content in
    option_map (λ f. record { front = begins content (codes "~"); back = ends rest (codes "~"); form = f }) (form_of (without_back rest)))
