-- Lists as JSON arrays: the tokens that are written for them, and why they read back.
use Rattle.std.proofs.Common.{◌≡◌, ℕ, suc, ◌≤◌, List, [], ◌∷◌, ◌++◌, Some}
use Rattle.std.proofs.Common.{map, option_map, option_and_then, append_assoc, append-nil, refl, sym, ap, ◌∙◌, arith}
use Rattle.std.specs.Prelude.{OnOk}
use Rattle.std.specs.declared.result.Result.{Result}
use Rattle.std.specs.List.{flat_map, AllByRecursion}
use Rattle.std.proofs.lemmas.Result.{on_ok_weaker}
use Rattle.json.specs.Token as token
use Rattle.json.specs.Tree.{items_tokens, members_tokens, ItemsHaveNumbers, MembersHaveNumbers}
use Rattle.json.specs.Written.{Written, Writes}
use Rattle.serde_json.specs.Data.{Data, string, array, object, Items, Members, no_members, member, put, items_depth, members_depth}
use Rattle.serde_json.specs.Read.{of_items, of_members}
use Rattle.serde_json.specs.View.{items_of}
use Rattle.serde_json.specs.Written.{items_outline, members_outline}
use Rattle.json_trees.specs.Written.{data_tokens, IsReadable}
use Rattle.held_text.specs.HeldText.{list_data}
use Rattle.held_text.specs.HeldRules.{Wrote, WroteEach, WroteMembers}

-- ---- written

module _ {E : Type 0} (as_data : E → Data) where
  -- The tokens of the values, one after another.
  abbrev inside : List E → List token.Token
  inside es = flat_map (λ e. data_tokens (as_data e)) es

  -- The tokens of the items are those of the values and the closing bracket.
  items_tokens-map : (es : List E) → items_tokens (items_outline (items_of (map as_data es))) ≡ inside es ++ token.end_array ∷ []
  items_tokens-map [] = refl
  items_tokens-map (e ∷ es) = ap (λ ts. data_tokens (as_data e) ++ ts) (items_tokens-map es)
      ∙ sym (append_assoc (data_tokens (as_data e)) (inside es) (token.end_array ∷ []))

  -- The tokens of both lists are those of both, one after another.
  inside-append : (es fs : List E) → inside (es ++ fs) ≡ inside es ++ inside fs
  inside-append [] fs = refl
  inside-append (e ∷ es) fs = ap (λ ts. data_tokens (as_data e) ++ ts) (inside-append es fs)
      ∙ sym (append_assoc (data_tokens (as_data e)) (inside es) (inside fs))

  -- At first nothing is written.
  pub none_written : (w : Written) → WroteEach as_data [] w w
  none_written w = record { tokens = sym (append-nil w.tokens); before = refl }

  -- Some are written, and then others.
  pub more_written : (es fs : List E) (a b c : Written) → WroteEach as_data es a b → WroteEach as_data fs b c → WroteEach as_data (es ++ fs) a c
  more_written es fs a b c first second = record {
    tokens = second.tokens ∙ ap (λ ts. ts ++ inside fs) first.tokens ∙ append_assoc a.tokens (inside es) (inside fs)
        ∙ ap (λ ts. a.tokens ++ ts) (sym (inside-append es fs));
    before = second.before ∙ first.before;
  }

  -- One is written.
  pub one_written : (e : E) (a b : Written) → Wrote (as_data e) a b → WroteEach as_data (e ∷ []) a b
  one_written e a b wrote = record { tokens = wrote.tokens ∙ ap (λ ts. a.tokens ++ ts) (sym (append-nil (data_tokens (as_data e)))); before = wrote.before }

  -- One more is written.
  pub next_written : (es : List E) (e : E) (a b c : Written) → WroteEach as_data es a b → Wrote (as_data e) b c → WroteEach as_data (es ++ e ∷ []) a c
  next_written es e a b c first wrote = more_written es (e ∷ []) a b c first (one_written e b c wrote)

  -- The tokens of a list are those of its values in brackets.
  list_tokens : (es : List E) → data_tokens (list_data (map as_data es)) ≡ token.begin_array ∷ (inside es ++ token.end_array ∷ [])
  list_tokens es = ap (λ ts. token.begin_array ∷ ts) (items_tokens-map es)

  -- A list is written as its values in brackets.
  pub list_written : {F : Type 0} (r : Result (Unit {0}) F) (es : List E) (start opened filled closed : Written)
      → opened.tokens ≡ start.tokens ++ token.begin_array ∷ [] → opened.before ≡ start.before
      → WroteEach as_data es opened filled → Writes r filled closed token.end_array → OnOk r (Wrote (list_data (map as_data es)) start closed)
  list_written r es start opened filled closed begun same each ended =
      on_ok_weaker r
      (λ (e : closed.tokens ≡ filled.tokens ++ token.end_array ∷ []). record {
        tokens =
            e ∙ ap (λ ts. ts ++ token.end_array ∷ []) (each.tokens ∙ ap (λ ts. ts ++ inside es) begun)
            ∙ append_assoc (start.tokens ++ token.begin_array ∷ []) (inside es) (token.end_array ∷ [])
            ∙ append_assoc start.tokens (token.begin_array ∷ []) (inside es ++ token.end_array ∷ [])
            ∙ ap (λ ts. start.tokens ++ ts) (sym (list_tokens es));
        before = ended.room.0 ∙ each.before ∙ same;
      })
      ended.ok

-- A text that is written is its value.
pub text_written : {F : Type 0} (r : Result (Unit {0}) F) (s t : List ℕ) (a b : Written) → s ≡ t → Writes r a b (token.string s) → OnOk r (Wrote (string t) a b)
text_written r s t a b same w =
    on_ok_weaker r (λ (e : b.tokens ≡ a.tokens ++ token.string s ∷ []).
    record { tokens = e ∙ ap (λ (q : List ℕ). a.tokens ++ token.string q ∷ []) same; before = w.room.0 }) w.ok

-- So is one whose token and whose place are given each by itself.
pub string_written : (s t : List ℕ) (a b : Written) → s ≡ t → b.tokens ≡ a.tokens ++ token.string s ∷ [] → b.before ≡ a.before → Wrote (string t) a b
string_written s t a b same written before = record { tokens = written ∙ ap (λ (q : List ℕ). a.tokens ++ token.string q ∷ []) same; before = before }

-- A member is written before others.
pub member_written : (name : List ℕ) (d : Data) (ms : Members) (a b c e : Written) → b.tokens ≡ a.tokens ++ token.key name ∷ [] → b.before ≡ a.before
    → Wrote d b c → WroteMembers ms c e → WroteMembers (member name d ms) a e
member_written name d ms a b c e key same wrote rest = record {
  tokens =
      rest.tokens ∙ ap (λ ts. ts ++ members_tokens (members_outline ms)) (wrote.tokens ∙ ap (λ ts. ts ++ data_tokens d) key)
      ∙ append_assoc (a.tokens ++ token.key name ∷ []) (data_tokens d) (members_tokens (members_outline ms))
      ∙ append_assoc a.tokens (token.key name ∷ []) (data_tokens d ++ members_tokens (members_outline ms));
  before = rest.before ∙ wrote.before ∙ same;
}

-- An object is written.
pub object_written : (ms : Members) (a b e : Written) → b.tokens ≡ a.tokens ++ token.begin_object ∷ [] → b.before ≡ a.before → WroteMembers ms b e
    → Wrote (object ms) a e
object_written ms a b e begun same rest = record {
  tokens = rest.tokens ∙ ap (λ ts. ts ++ members_tokens (members_outline ms)) begun
      ∙ append_assoc a.tokens (token.begin_object ∷ []) (members_tokens (members_outline ms));
  before = rest.before ∙ same;
}

-- ---- readable

-- A value that nests less deep is readable too.
pub readable_within : (n m : ℕ) (d : Data) → n ≤ m → IsReadable n d → IsReadable m d
readable_within n m d low r = record { reads_back = r.reads_back; numbers = r.numbers; shallow = omega (arith, r.shallow) }

-- A text is readable.
pub readable_string : (n : ℕ) (s : List ℕ) → IsReadable n (string s)
readable_string n s = record { reads_back = refl; numbers = tt; shallow = omega arith }

module _ {E : Type 0} (as_data : E → Data) (P : E → Type 0) (n : ℕ) (each : (e : E) → P e → IsReadable n (as_data e)) where
  -- The values as JSON items.
  abbrev values : List E → Items
  values es = items_of (map as_data es)

  -- They read back.
  read_items : (es : List E) → AllByRecursion P es → of_items (items_outline (values es)) ≡ Some (values es)
  read_items [] h = refl
  read_items (e ∷ es) h = rw ((each e h.0).reads_back, read_items es h.1) refl

  -- Their numbers are JSON numbers.
  numbers : (es : List E) → AllByRecursion P es → ItemsHaveNumbers (items_outline (values es))
  numbers [] h = tt
  numbers (e ∷ es) h = ((each e h.0).numbers, numbers es h.1)

  -- They nest no deeper than each.
  shallow : (es : List E) → AllByRecursion P es → items_depth (values es) ≤ n
  shallow [] h = omega arith
  shallow (e ∷ es) h = omega (arith, (each e h.0).shallow, shallow es h.1)

  -- A list of readable values is readable.
  pub readable_list : (es : List E) → AllByRecursion P es → IsReadable (suc n) (list_data (map as_data es))
  readable_list es h = record { reads_back = ap (option_map array) (read_items es h); numbers = numbers es h; shallow = omega (arith, shallow es h) }

-- A list of two readable values is readable.
pub readable_two : (n : ℕ) (d e : Data) → IsReadable n d → IsReadable n e → IsReadable (suc n) (list_data (d ∷ e ∷ []))
readable_two n d e r s = readable_list (λ d. d) (IsReadable n) n (λ d r. r) (d ∷ e ∷ []) (r, (s, tt))

-- A list of three readable values is readable.
pub readable_three : (n : ℕ) (d e f : Data) → IsReadable n d → IsReadable n e → IsReadable n f → IsReadable (suc n) (list_data (d ∷ e ∷ f ∷ []))
readable_three n d e f r s t = readable_list (λ d. d) (IsReadable n) n (λ d r. r) (d ∷ e ∷ f ∷ []) (r, (s, (t, tt)))

-- The values of some members are readable.
abbrev pub AreReadable : ℕ → Members → Type 0
AreReadable n no_members = Unit {0}
AreReadable n (member name d ms) = IsReadable n d × AreReadable n ms

-- The members put one after another, as a reader does.
abbrev pub all_put : Members → Members → Members
all_put no_members found = found
all_put (member name d ms) found = all_put ms (put name d found)

-- Readable members read back, put one after another.
read_members : (n : ℕ) (ms found : Members) → AreReadable n ms → of_members (members_outline ms) found ≡ Some (all_put ms found)
read_members n no_members found h = refl
read_members n (member name d ms) found h = ap (option_and_then (λ x. of_members (members_outline ms) (put name x found))) h.0.reads_back
    ∙ read_members n ms (put name d found) h.1

-- Their numbers are JSON numbers.
member_numbers : (n : ℕ) (ms : Members) → AreReadable n ms → MembersHaveNumbers (members_outline ms)
member_numbers n no_members h = tt
member_numbers n (member name d ms) h = (h.0.numbers, member_numbers n ms h.1)

-- They nest no deeper than each.
members_shallow : (n : ℕ) (ms : Members) → AreReadable n ms → members_depth ms ≤ n
members_shallow n no_members h = omega arith
members_shallow n (member name d ms) h = omega (arith, h.0.shallow, members_shallow n ms h.1)

-- An object of readable members, each in its place, is readable.
pub readable_object : (n : ℕ) (ms : Members) → AreReadable n ms → all_put ms no_members ≡ ms → IsReadable (suc n) (object ms)
readable_object n ms h placed = record {
  reads_back = ap (option_map object) (read_members n ms no_members h ∙ ap Some placed);
  numbers = member_numbers n ms h;
  shallow = omega (arith, members_shallow n ms h);
}
