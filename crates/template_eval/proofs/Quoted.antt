-- What `json` prints of a text stays between its quotes and reads back.
use Rattle.std.proofs.Common.{◌≡◌, ℕ, zero, suc, ◌<◌, ◌≤◌, Bool, true, false, cond, List, [], ◌∷◌}
use Rattle.std.proofs.Common.{◌++◌, Some, Ok, inl, inr, ◌⊎◌, refl, sym, ap, ◌∙◌, subst, arith, append_assoc}
use Rattle.std.specs.Prelude.{flat_map}
use Rattle.std.proofs.lemmas.Bool.{cases_eq, cases_lt, ne_eqb, le-ltb, le-leb}
use Rattle.std.proofs.lemmas.List.Concat.{flat_map-append}
use lib.Utf8.{encode}
use Rattle.json.specs.Text.{content, plain, prepend, code_unit, short_escape}
use Rattle.json.specs.Word.{is_operator, is_space}
use Rattle.json.specs.Lex.{Lexeme, Mode, lex, lex_byte, between, in_string, operator, space, other}
use Rattle.json.specs.Print.{escape_byte, escape}
use Rattle.json.proofs.Printed.Strings.{escape_byte_plain}
use Rattle.json_trees.specs.declared.scalar.Scalar.TheVariants.{Text}
use Rattle.template_eval.specs.declared.node.Atom.{Atom}
use Rattle.template_eval.specs.declared.node.Atom.TheVariants as atoms
use Rattle.template_eval.specs.Views.{atom_node, atom_value}
use Rattle.template_eval.specs.Render.{json_node}
use Rattle.template_eval.specs.Quoting.{escaped, scalar_json, stays_inside, IsQuoted}

-- What a byte is in a string.
abbrev pub byte_json : ℕ → List ℕ
byte_json x = flat_map escaped (escape_byte x)

-- What a text is in a string.
abbrev pub inner : List ℕ → List ℕ
inner s = flat_map escaped (escape s)

-- What a byte is in a string, before any text: it is read as the byte, passed over, and stays inside.
record Passes (x : ℕ) : Type 0 where
  read : (r : List ℕ) → content plain (byte_json x ++ r) ≡ prepend (x ∷ []) (content plain r)
  lexed : (r : List ℕ) → lex in_string (byte_json x ++ r) ≡ lex in_string r
  inside : (r : List ℕ) → stays_inside false (byte_json x ++ r) ≡ stays_inside false r

-- P holds below n, counted down from the top.
abbrev Each : (ℕ → Type 0) → ℕ → Type 0
Each P zero = Unit {0}
Each P (suc n) = P n × Each P n

each_sound : (P : ℕ → Type 0) (n : ℕ) → Each P n → (x : ℕ) → x < n → P x
each_sound P zero h x lt = absurd (omega arith)
each_sound P (suc n) h x lt = elim (cases_eq x n) [ inl e ↦ subst P (sym e) h.0 | inr ne ↦ each_sound P n h.1 x (omega arith) ]

controls : Each Passes 32
unfolding escape_byte content lex code_unit short_escape encode
controls = (
  record { read = λ r. refl; lexed = λ r. refl; inside = λ r. refl },
  (
    record { read = λ r. refl; lexed = λ r. refl; inside = λ r. refl },
    (
      record { read = λ r. refl; lexed = λ r. refl; inside = λ r. refl },
      (
        record { read = λ r. refl; lexed = λ r. refl; inside = λ r. refl },
        (
          record { read = λ r. refl; lexed = λ r. refl; inside = λ r. refl },
          (
            record { read = λ r. refl; lexed = λ r. refl; inside = λ r. refl },
            (
              record { read = λ r. refl; lexed = λ r. refl; inside = λ r. refl },
              (
                record { read = λ r. refl; lexed = λ r. refl; inside = λ r. refl },
                (
                  record { read = λ r. refl; lexed = λ r. refl; inside = λ r. refl },
                  (
                    record { read = λ r. refl; lexed = λ r. refl; inside = λ r. refl },
                    (
                      record { read = λ r. refl; lexed = λ r. refl; inside = λ r. refl },
                      (
                        record { read = λ r. refl; lexed = λ r. refl; inside = λ r. refl },
                        (
                          record { read = λ r. refl; lexed = λ r. refl; inside = λ r. refl },
                          (
                            record { read = λ r. refl; lexed = λ r. refl; inside = λ r. refl },
                            (
                              record { read = λ r. refl; lexed = λ r. refl; inside = λ r. refl },
                              (
                                record { read = λ r. refl; lexed = λ r. refl; inside = λ r. refl },
                                (
                                  record { read = λ r. refl; lexed = λ r. refl; inside = λ r. refl },
                                  (
                                    record { read = λ r. refl; lexed = λ r. refl; inside = λ r. refl },
                                    (
                                      record { read = λ r. refl; lexed = λ r. refl; inside = λ r. refl },
                                      (
                                        record { read = λ r. refl; lexed = λ r. refl; inside = λ r. refl },
                                        (
                                          record { read = λ r. refl; lexed = λ r. refl; inside = λ r. refl },
                                          (
                                            record { read = λ r. refl; lexed = λ r. refl; inside = λ r. refl },
                                            (
                                              record { read = λ r. refl; lexed = λ r. refl; inside = λ r. refl },
                                              (
                                                record { read = λ r. refl; lexed = λ r. refl; inside = λ r. refl },
                                                (
                                                  record { read = λ r. refl; lexed = λ r. refl; inside = λ r. refl },
                                                  (
                                                    record { read = λ r. refl; lexed = λ r. refl; inside = λ r. refl },
                                                    (
                                                      record { read = λ r. refl; lexed = λ r. refl; inside = λ r. refl },
                                                      (
                                                        record { read = λ r. refl; lexed = λ r. refl; inside = λ r. refl },
                                                        (
                                                          record { read = λ r. refl; lexed = λ r. refl; inside = λ r. refl },
                                                          (
                                                            record { read = λ r. refl; lexed = λ r. refl; inside = λ r. refl },
                                                            (
                                                              record { read = λ r. refl; lexed = λ r. refl; inside = λ r. refl },
                                                              (
                                                                record { read = λ r. refl; lexed = λ r. refl; inside = λ r. refl },
                                                                tt,
                                                              ),
                                                            ),
                                                          ),
                                                        ),
                                                      ),
                                                    ),
                                                  ),
                                                ),
                                              ),
                                            ),
                                          ),
                                        ),
                                      ),
                                    ),
                                  ),
                                ),
                              ),
                            ),
                          ),
                        ),
                      ),
                    ),
                  ),
                ),
              ),
            ),
          ),
        ),
      ),
    ),
  ),
)

quote_passes : Passes 34
unfolding escape_byte content lex short_escape
quote_passes = record { read = λ r. refl; lexed = λ r. refl; inside = λ r. refl }

backslash_passes : Passes 92
unfolding escape_byte content lex short_escape
backslash_passes = record { read = λ r. refl; lexed = λ r. refl; inside = λ r. refl }

delete_passes : Passes 127
unfolding escape_byte content lex code_unit encode
delete_passes = record { read = λ r. refl; lexed = λ r. refl; inside = λ r. refl }

stays_there : (o s : Bool) (x : ℕ) (r : List ℕ) (k : Mode → List Lexeme) → lex_byte in_string (cond o operator (cond s space other)) x r k ≡ k in_string
stays_there true s x r k = refl
stays_there false true x r k = refl
stays_there false false x r k = refl

plain_passes : (x : ℕ) → (x ≡ 34 → ⊥) → (x ≡ 92 → ⊥) → (x ≡ 127 → ⊥) → 32 ≤ x → Passes x
unfolding content lex
plain_passes x q b d l =
    let same : byte_json x ≡ x ∷ [] = ap (flat_map escaped) (escape_byte_plain x q b l) ∙ rw (ne_eqb x 127 d) refl in
    record {
      read = λ r. rw (same, ne_eqb x 34 q, ne_eqb x 92 b, le-ltb x 32 l) refl;
      lexed = λ r. rw (same, ne_eqb x 34 q, ne_eqb x 92 b) (stays_there (is_operator x) (is_space x) x r (λ m. lex m r));
      inside = λ r. rw (same, ne_eqb x 34 q, ne_eqb x 92 b, ne_eqb x 127 d, le-leb 32 x l) refl;
    }

passes : (x : ℕ) → Passes x
passes x = go (cases_eq x 34) (cases_eq x 92) (cases_eq x 127) (cases_lt x 32)
  where
    go : (x ≡ 34) ⊎ (x ≡ 34 → ⊥) → (x ≡ 92) ⊎ (x ≡ 92 → ⊥) → (x ≡ 127) ⊎ (x ≡ 127 → ⊥) → (x < 32) ⊎ (32 ≤ x) → Passes x
    go (inl e) b d c = subst Passes (sym e) quote_passes
    go (inr q) (inl e) d c = subst Passes (sym e) backslash_passes
    go (inr q) (inr b) (inl e) c = subst Passes (sym e) delete_passes
    go (inr q) (inr b) (inr d) (inl c) = each_sound Passes 32 controls x c
    go (inr q) (inr b) (inr d) (inr l) = plain_passes x q b d l

inner-cons : (x : ℕ) (s r : List ℕ) → inner (x ∷ s) ++ r ≡ byte_json x ++ (inner s ++ r)
inner-cons x s r = ap (λ l. l ++ r) (flat_map-append escaped (escape_byte x) (escape s)) ∙ append_assoc (byte_json x) (inner s) r

-- It is read as the text.
pub content-inner : (s r : List ℕ) → content plain (inner s ++ 34 ∷ r) ≡ Some s
unfolding content
content-inner [] r = refl
content-inner (x ∷ s) r = ap (content plain) (inner-cons x s (34 ∷ r)) ∙ (passes x).read _ ∙ ap (prepend (x ∷ [])) (content-inner s r)

-- It is passed over up to the quote after it.
pub lex-inner : (s r : List ℕ) → lex in_string (inner s ++ 34 ∷ r) ≡ lex between r
unfolding lex
lex-inner [] r = refl
lex-inner (x ∷ s) r = ap (lex in_string) (inner-cons x s (34 ∷ r)) ∙ (passes x).lexed _ ∙ lex-inner s r

inside-inner : (s : List ℕ) → stays_inside false (inner s) ≡ true
inside-inner [] = refl
inside-inner (x ∷ s) = ap (stays_inside false) (flat_map-append escaped (escape_byte x) (escape s)) ∙ (passes x).inside (inner s) ∙ inside-inner s

-- What is printed of a scalar, or of what a child or its index is called.
pub atom_json : (path : List ℕ) (a : Atom) → json_node path (atom_node a) ≡ Ok (scalar_json (atom_value a))
atom_json path (atoms.Bool b) = refl
atom_json path (atoms.Int z) = refl
atom_json path (atoms.Text t) = refl
atom_json path (atoms.Index n) = refl
atom_json path (atoms.Name name) = refl

-- What is printed of a text.
pub text_is : (s : List ℕ) → scalar_json (Text s) ≡ 34 ∷ (inner s ++ 34 ∷ [])
text_is s = ap (λ l. 34 ∷ l) (flat_map-append escaped (escape s) (34 ∷ []))

pub IsQuoted-text : (s : List ℕ) → IsQuoted (scalar_json (Text s))
IsQuoted-text s = record { inside = inner s; is = text_is s; stays = inside-inner s }
