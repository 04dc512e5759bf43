-- A word spells at most one key, and the parts between its dots tell which.
use Rattle.std.proofs.Common.{◌≡◌, ℕ, suc, ◌-◌, ◌*◌, ◌<◌, Bool, true, false, not, List, [], ◌∷◌, ◌++◌}
use Rattle.std.proofs.Common.{length, map, Option, Some, None, refl, sym, ap, ◌∙◌, arith, append_assoc, subst, if◌then◌else◌, inl, inr}
use Rattle.std.specs.Prelude.{◌&&◌, ◌||◌, ◌==◌, ◌⊎◌, IsTrue}
use Rattle.std.specs.List.{list_all}
use Rattle.std.proofs.Math.Bool.{and-true, and-false}
use Rattle.std.proofs.lemmas.Bool.{and_parts, and_from, or_cases, or_left, or_right, ne_eqb, eqb-true, false≢true}
use Rattle.std.proofs.lemmas.List.{append-nil, length-append, take_at}
use Rattle.std.proofs.lemmas.Slice.Eq.{bytes_eq-Decides}
use Rattle.key_names.specs.Segment.{is_bare, is_quotable, is_segment, quoted}
use Rattle.key_names.specs.Key.{fits}
use Rattle.key_names.specs.Joined.{Joins}
use Rattle.key_names.specs.Spelling.{IsSpelling, SpellsKey}
use Rattle.template_reader.specs.Bytes.{inside, is}
use Rattle.template_reader.specs.Words.{is_dot, quoted_after, part_onto, parts, unquoted, is_spelling, key_of}

-- Bytes before the first part.
abbrev onto : List ℕ → List (List ℕ) → List (List ℕ)
onto [] ps = ps
onto (b ∷ bs) ps = part_onto b false (onto bs ps)

-- Bytes onto some parts are onto the first.
onto-cons : (w v : List ℕ) (vs : List (List ℕ)) → onto w (v ∷ vs) ≡ (w ++ v) ∷ vs
onto-cons [] v vs = refl
onto-cons (b ∷ w) v vs = ap (part_onto b false) (onto-cons w v vs)

-- Bytes onto parts one after another are onto them at once.
onto-append : (w u : List ℕ) (ps : List (List ℕ)) → onto (w ++ u) ps ≡ onto w (onto u ps)
onto-append [] u ps = refl
onto-append (b ∷ w) u ps = ap (part_onto b false) (onto-append w u ps)

-- A bare byte is none that isn't bare.
bare-not : (b c : ℕ) → is_bare c ≡ false → is_bare b ≡ true → (b == c) ≡ false
bare-not b c not_other does = ne_eqb b c (λ e. false≢true (sym not_other ∙ ap is_bare (sym e) ∙ does))

-- A quotable byte is no double quote.
quotable-not : (b : ℕ) → is_quotable b ≡ true → (b == 34) ≡ false
quotable-not b does = ne_eqb b 34 (λ e. false≢true (ap is_quotable (sym e) ∙ does))

-- A byte that does not separate is put onto the first part, whatever the test was.
part-as : (b : ℕ) (x : Bool) (q r : Bool) (t u : List ℕ) → x ≡ false → q ≡ r → part_onto b x (parts is_dot q t) ≡ part_onto b false (parts is_dot r t)
part-as b x q r t u e f = ap (λ x. part_onto b x (parts is_dot q t)) e ∙ ap (λ q. part_onto b false (parts is_dot q t)) f

-- Bare bytes have no dot, and stay in one part.
bare-parts : (w t : List ℕ) → list_all is_bare w ≡ true → parts is_dot false (w ++ t) ≡ onto w (parts is_dot false t)
unfolding parts
bare-parts [] t h = refl
bare-parts (b ∷ w) t h =
    let p = and_parts (is_bare b) (list_all is_bare w) h in
    part-as b ((b == 46) && true) (b == 34) false (w ++ t) t (and-true (b == 46) ∙ bare-not b 46 refl p.0) (bare-not b 34 refl p.0)
    ∙ ap (part_onto b false) (bare-parts w t p.1)

-- Within quotes no byte separates.
inside-parts : (s t : List ℕ) → list_all is_quotable s ≡ true → parts is_dot true (s ++ t) ≡ onto s (parts is_dot true t)
unfolding parts
inside-parts [] t h = refl
inside-parts (b ∷ s) t h =
    let p = and_parts (is_quotable b) (list_all is_quotable s) h in
    part-as b ((b == 46) && false) (not (b == 34)) true (s ++ t) t (and-false (b == 46)) (ap not (quotable-not b p.0))
    ∙ ap (part_onto b false) (inside-parts s t p.1)

-- A quoted text stays in one part.
quoted-parts : (s t : List ℕ) → list_all is_quotable s ≡ true → parts is_dot false (34 ∷ (s ++ (34 ∷ t))) ≡ onto (34 ∷ (s ++ (34 ∷ []))) (parts is_dot false t)
unfolding parts
quoted-parts s t h = ap (part_onto 34 false) (inside-parts s (34 ∷ t) h ∙ sym (onto-append s (34 ∷ []) (parts is_dot false t)))

-- The bytes of a segment are quotable.
segment-quotable : (s : List ℕ) → is_segment s ≡ true → list_all is_quotable s ≡ true
segment-quotable s h = (and_parts _ (list_all is_quotable s) h).1

-- A spelling of a segment stays in one part.
spelled-parts : (w s t : List ℕ) → IsSpelling w s → parts is_dot false (w ++ t) ≡ onto w (parts is_dot false t)
spelled-parts w s t h = by h.form
  where
    by : (w ≡ quoted s) ⊎ ((w ≡ s) × IsTrue (list_all is_bare s)) → parts is_dot false (w ++ t) ≡ onto w (parts is_dot false t)
    by (inl e) =
        ap (λ w. parts is_dot false (w ++ t)) e ∙ ap (λ l. parts is_dot false (34 ∷ l)) (append_assoc s (34 ∷ []) t)
        ∙ quoted-parts s t (segment-quotable s h.valid) ∙ ap (λ w. onto w (parts is_dot false t)) (sym e)
    by (inr e) = bare-parts w t (ap (list_all is_bare) e.0 ∙ e.1)

-- How a segment is spelled, as a test and as a fact.
bare-unquoted : (w : List ℕ) → list_all is_bare w ≡ true → unquoted w ≡ w
bare-unquoted [] h = refl
bare-unquoted (b ∷ bs) h =
    let p = and_parts (is_bare b) (list_all is_bare bs) h in
    let other : (34 == b) ≡ false = ne_eqb 34 b (λ e. false≢true (ap is_bare e ∙ p.0)) in
    ap (λ (t : Bool). if t && true then inside 1 (b ∷ bs) else b ∷ bs) other

-- A text put in quotes is the text without them.
quoted-unquoted : (s : List ℕ) → unquoted (quoted s) ≡ s
quoted-unquoted s = take_at s (34 ∷ []) (suc (length (s ++ (34 ∷ []))) - 2 * 1) (omega (arith, length-append s (34 ∷ [])))

-- A segment's printed or bare text passes the test.
spelling-from : (w s : List ℕ) → unquoted w ≡ s → is_segment s ≡ true → (is w (quoted s) || list_all is_bare w) ≡ true → is_spelling w ≡ true
spelling-from w s e valid form = ap (λ s. is_segment s && (is w (quoted s) || list_all is_bare w)) e ∙ and_from (is_segment s) _ valid form

-- A spelling of a segment passes the test, and is the segment without its quotes.
pub test-spelling : (w s : List ℕ) → IsSpelling w s → (is_spelling w ≡ true) × (unquoted w ≡ s)
test-spelling w s h = by h.form
  where
    by : (w ≡ quoted s) ⊎ ((w ≡ s) × IsTrue (list_all is_bare s)) → (is_spelling w ≡ true) × (unquoted w ≡ s)
    by (inl e) =
        let u : unquoted w ≡ s = ap unquoted e ∙ quoted-unquoted s in
        (spelling-from w s u h.valid (or_left (is w (quoted s)) (list_all is_bare w) ((bytes_eq-Decides w (quoted s)).1 e)), u)
    by (inr e) =
        let bare : list_all is_bare w ≡ true = ap (list_all is_bare) e.0 ∙ e.1 in
        let u : unquoted w ≡ s = bare-unquoted w bare ∙ e.0 in
        (spelling-from w s u h.valid (or_right (is w (quoted s)) (list_all is_bare w) bare), u)

-- A part that passes the test spells the segment that it is without its quotes.
pub tested-spelling : (w : List ℕ) → is_spelling w ≡ true → IsSpelling w (unquoted w)
tested-spelling w h =
    let p = and_parts (is_segment (unquoted w)) (is w (quoted (unquoted w)) || list_all is_bare w) h in
    record { valid = p.0; form = by (or_cases (is w (quoted (unquoted w))) (list_all is_bare w) p.1) }
  where
    by : (is w (quoted (unquoted w)) ≡ true) ⊎ (list_all is_bare w ≡ true)
        → (w ≡ quoted (unquoted w)) ⊎ ((w ≡ unquoted w) × IsTrue (list_all is_bare (unquoted w)))
    by (inl e) = inl ((bytes_eq-Decides w (quoted (unquoted w))).0 e)
    by (inr e) = inr (sym (bare-unquoted w e), ap (list_all is_bare) (bare-unquoted w e) ∙ e)

-- The parts of a word that spells segments.
one-part : (w s : List ℕ) → IsSpelling w s → parts is_dot false w ≡ w ∷ []
unfolding parts
one-part w s h = ap (parts is_dot false) (sym (append-nil w)) ∙ spelled-parts w s [] h ∙ onto-cons w [] [] ∙ ap (λ (w : List ℕ). w ∷ []) (append-nil w)

-- A dot after a spelling ends its part.
more-parts : (front s rest : List ℕ) → IsSpelling front s → parts is_dot false (front ++ (46 ∷ rest)) ≡ front ∷ parts is_dot false rest
unfolding parts
more-parts front s rest h = spelled-parts front s (46 ∷ rest) h ∙ onto-cons front [] (parts is_dot false rest)
    ∙ ap (λ (w : List ℕ). w ∷ parts is_dot false rest) (append-nil front)

-- The parts pass the test, and are the segments of the key without their quotes.
record AreSpelled (ss key : List (List ℕ)) : Type 0 where
  tested : list_all is_spelling ss ≡ true
  key_is : map unquoted ss ≡ key

-- One part more spells one segment more.
spelled-more : (w s : List ℕ) (ss key all : List (List ℕ)) → IsSpelling w s → AreSpelled ss key → all ≡ w ∷ ss → AreSpelled all (s ∷ key)
spelled-more w s ss key all h a e =
    let t = test-spelling w s h in
    record {
      tested = ap (list_all is_spelling) e ∙ and_from (is_spelling w) (list_all is_spelling ss) t.0 a.tested;
      key_is = ap (map unquoted) e ∙ ap (λ (s : List ℕ). s ∷ map unquoted ss) t.1 ∙ ap (λ (k : List (List ℕ)). s ∷ k) a.key_is;
    }

-- The parts of a word that spells a key are spelled.
spelled-by : (key : List (List ℕ)) (word : List ℕ) → Joins IsSpelling 46 word key → AreSpelled (parts is_dot false word) key
unfolding Joins
spelled-by [] word h = absurd h
spelled-by (s ∷ []) word h = spelled-more word s [] [] (parts is_dot false word) h (record { tested = refl; key_is = refl }) (one-part word s h)
spelled-by (s ∷ t ∷ key) word h =
    spelled-more h.0 s (parts is_dot false h.1) (t ∷ key) (parts is_dot false word) h.3 (spelled-by (t ∷ key) h.1 h.4)
    (ap (parts is_dot false) h.2 ∙ more-parts h.0 s h.1 h.3)

-- Parts that spell a key within the limits are its key.
chosen : (ss key : List (List ℕ)) → AreSpelled ss key → IsTrue (fits key)
    → (if list_all is_spelling ss && fits (map unquoted ss) then Some (map unquoted ss) else None) ≡ Some key
chosen ss key a within = rw (a.tested, a.key_is, within) refl

-- The key that a word spells is the key of the word.
pub key-from_spells : (word : List ℕ) (key : List (List ℕ)) → SpellsKey word key → key_of word ≡ Some key
unfolding key_of
key-from_spells word key h = chosen (parts is_dot false word) key (spelled-by key word h.spells) h.within

-- And back: the parts, joined by dots, are the word.
abbrev joined : List (List ℕ) → List ℕ
joined [] = []
joined (w ∷ []) = w
joined (w ∷ v ∷ ws) = w ++ (46 ∷ joined (v ∷ ws))

-- Parts with a byte before them join to that byte and the rest.
joined-onto : (b : ℕ) (t : Bool) (ps : List (List ℕ)) (bs : List ℕ) → (t ≡ true → b ≡ 46) → 0 < length ps → joined ps ≡ bs
    → (joined (part_onto b t ps) ≡ b ∷ bs) × (0 < length (part_onto b t ps))
joined-onto b t [] bs dot some e = absurd (omega arith)
joined-onto b true (w ∷ ws) bs dot some e = (ap (λ (l : List ℕ). 46 ∷ l) e ∙ ap (λ (b : ℕ). b ∷ bs) (sym (dot refl)), omega arith)
joined-onto b false (w ∷ []) bs dot some e = (ap (λ (l : List ℕ). b ∷ l) e, omega arith)
joined-onto b false (w ∷ v ∷ ws) bs dot some e = (ap (λ (l : List ℕ). b ∷ l) e, omega arith)

-- A byte that separates is a dot.
is-dot : (b : ℕ) (q : Bool) → (is_dot b && q) ≡ true → b ≡ 46
is-dot b q e = eqb-true b 46 (and_parts (b == 46) q e).0

-- The parts of a word join to the word.
rejoined : (q : Bool) (word : List ℕ) → (joined (parts is_dot q word) ≡ word) × (0 < length (parts is_dot q word))
unfolding parts
rejoined q [] = (refl, omega arith)
rejoined q (b ∷ bs) =
    let again = rejoined (quoted_after q b) bs in
    joined-onto b (is_dot b && not q) (parts is_dot (quoted_after q b) bs) bs (is-dot b (not q)) again.1 again.0

-- Parts that pass the test join to a text that spells the key.
joins-from : (ss : List (List ℕ)) → 0 < length ss → list_all is_spelling ss ≡ true → Joins IsSpelling 46 (joined ss) (map unquoted ss)
unfolding Joins
joins-from [] some h = absurd (omega arith)
joins-from (w ∷ []) some h = tested-spelling w (and_parts (is_spelling w) true h).0
joins-from (w ∷ v ∷ ws) some h =
    let p = and_parts (is_spelling w) (list_all is_spelling (v ∷ ws)) h in
    (w, joined (v ∷ ws), refl, tested-spelling w p.0, joins-from (v ∷ ws) (omega arith) p.1)

-- A choice that gives a key gives the one that was chosen.
taken : (b : Bool) (x key : List (List ℕ)) → (if b then Some x else None) ≡ Some key → (b ≡ true) × (x ≡ key)
taken true x key e = (refl, cc)
taken false x key e = absurd (cc)

-- The key of a word is spelled by it.
pub spells-from_key : (word : List ℕ) (key : List (List ℕ)) → key_of word ≡ Some key → SpellsKey word key
unfolding key_of
spells-from_key word key h =
    let ss = parts is_dot false word in
    let t = taken (list_all is_spelling ss && fits (map unquoted ss)) (map unquoted ss) key h in
    let p = and_parts (list_all is_spelling ss) (fits (map unquoted ss)) t.0 in
    let again = rejoined false word in
    let P : List ℕ → Type 0 = λ l. Joins IsSpelling 46 l (map unquoted ss) in
    let Q : List (List ℕ) → Type 0 = λ k. SpellsKey word k in
    subst Q t.1 (record { spells = subst P again.0 (joins-from ss again.1 p.0); within = p.1 })

-- No key, where none is spelled.
pub key-none : (word : List ℕ) → ((key : List (List ℕ)) → SpellsKey word key → ⊥) → None ≡ key_of word
key-none word none = by (key_of word) refl
  where
    by : (o : Option (List (List ℕ))) → key_of word ≡ o → None ≡ key_of word
    by None e = sym e
    by (Some key) e = absurd (none key (spells-from_key word key e))
