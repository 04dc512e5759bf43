-- The words of a tag, one after another.
use Rattle.std.proofs.Common.{◌≡◌, ℕ, suc, ◌+◌, ◌<◌, Bool, true, false, not, List, [], ◌∷◌}
use Rattle.std.proofs.Common.{◌++◌, length, take, drop, get_or, filter, refl, sym, ap, ◌∙◌, arith, if◌then◌else◌, append_assoc}
use Rattle.std.specs.Prelude.{◌&&◌, ◌==◌}
use Rattle.std.proofs.lemmas.List.{drop_all, append-nil, length-drop}
use Rattle.std.proofs.lemmas.Bool.Decides.{nat_tests}
use Rattle.template_reader.specs.Bytes.{is_space}
use Rattle.template_reader.specs.Words.{part_onto, quoted_after, parts, part_length, has_bytes, words}
use Rattle.template_reader.proofs.Scanning.{cons_of}

-- A part at a byte ends here or goes on.
part-cons : (s : ℕ → Bool) (q : Bool) (b : ℕ) (bs : List ℕ) (t : Bool) → (s b && not q) ≡ t
    → part_length s q (b ∷ bs) ≡ (if t then 0 else 1 + part_length s (quoted_after q b) bs)
unfolding part_length
part-cons s q b bs t e = ap (λ (t : Bool). if t then 0 else 1 + part_length s (quoted_after q b) bs) e

-- Where no separator is here outside quotes, the part goes on at the next byte.
pub part-step : (s : ℕ → Bool) (q : Bool) (bytes : List ℕ) (i : ℕ) → part_length s false bytes ≡ i + part_length s q (drop i bytes) → i < length bytes
    → (s (get_or bytes i 0) && not q) ≡ false
    → part_length s false bytes ≡ (i + 1) + part_length s (quoted_after q (get_or bytes i 0)) (drop (i + 1) bytes)
part-step s q bytes i so_far h e =
    let one = ap (part_length s q) (cons_of bytes i h) ∙ part-cons s q (get_or bytes i 0) (drop (i + 1) bytes) false e in
    omega (arith, so_far, one)

-- A separator here outside quotes ends the part.
pub part-stop : (s : ℕ → Bool) (q : Bool) (bytes : List ℕ) (i : ℕ) → part_length s false bytes ≡ i + part_length s q (drop i bytes) → i < length bytes
    → (s (get_or bytes i 0) && not q) ≡ true
    → i ≡ part_length s false bytes
part-stop s q bytes i so_far h e =
    let one = ap (part_length s q) (cons_of bytes i h) ∙ part-cons s q (get_or bytes i 0) (drop (i + 1) bytes) true e in
    omega (arith, so_far, one)

-- The end of the bytes ends the part.
pub part-end : (s : ℕ → Bool) (q : Bool) (bytes : List ℕ) (i : ℕ) → part_length s false bytes ≡ i + part_length s q (drop i bytes) → length bytes ≡ i
    → i ≡ part_length s false bytes
unfolding part_length
part-end s q bytes i so_far h =
    let one = ap (part_length s q) (drop_all i bytes (omega arith)) in
    omega (arith, so_far, one)

-- The parts after the first, whose separator is at the start.
abbrev behind : (ℕ → Bool) → List ℕ → List (List ℕ)
behind s [] = []
behind s (b ∷ bs) = parts s (b == 34) bs

-- A byte before some parts joins the first, or separates it.
first-if : (s : ℕ → Bool) (b : ℕ) (bs : List ℕ) (t : Bool) (n : ℕ) (ps : List (List ℕ)) (q : Bool) → (s b && not q) ≡ t → ps ≡ take n bs ∷ behind s (drop n bs)
    → (t ≡ true → ps ≡ parts s (b == 34) bs)
    → part_onto b t ps ≡ take (if t then 0 else 1 + n) (b ∷ bs) ∷ behind s (drop (if t then 0 else 1 + n) (b ∷ bs))
first-if s b bs true n ps q e so_far same = ap (λ (l : List (List ℕ)). [] ∷ l) (same refl)
first-if s b bs false n ps q e so_far same = let k : 1 + n ≡ suc n = omega arith in rw (so_far, k) refl

-- After a separator outside quotes, quotes are open exactly where it opens them.
not_quoted : (x q : Bool) (b : ℕ) → (x && not q) ≡ true → quoted_after q b ≡ (b == 34)
not_quoted true true b e = absurd (cc)
not_quoted true false b e = refl
not_quoted false q b e = absurd (cc)

-- The parts are the first one and those after its separator.
parts-first : (s : ℕ → Bool) (q : Bool) (bs : List ℕ) → parts s q bs ≡ take (part_length s q bs) bs ∷ behind s (drop (part_length s q bs) bs)
unfolding parts part_length
parts-first s q [] = refl
parts-first s q (b ∷ bs) =
    first-if s b bs (s b && not q) (part_length s (quoted_after q b) bs) (parts s (quoted_after q b) bs) q refl (parts-first s (quoted_after q b) bs)
    (λ e. ap (λ q. parts s q bs) (not_quoted (s b) q b e))

-- Dropping one byte less of one byte less is the same.
one_less : (c n : ℕ) (bs rest : List ℕ) → drop (1 + n) (c ∷ bs) ≡ rest → drop n bs ≡ rest
one_less c n bs rest e = let k : 1 + n ≡ suc n = omega arith in (rw k at e)

-- What is after the first part begins with a separator.
ends-if : (s : ℕ → Bool) (c n b : ℕ) (bs more : List ℕ) (x q : Bool) → s c ≡ x → (drop n bs ≡ b ∷ more → s b ≡ true)
    → drop (if x && not q then 0 else 1 + n) (c ∷ bs) ≡ b ∷ more → s b ≡ true
ends-if s c n b bs more true false h again e = let k : c ≡ b = (cc) in ap s (sym k) ∙ h
ends-if s c n b bs more true true h again e = again (one_less c n bs (b ∷ more) e)
ends-if s c n b bs more false q h again e = again (one_less c n bs (b ∷ more) e)

-- A separator is after the first part.
space-ends : (s : ℕ → Bool) (q : Bool) (bs : List ℕ) (b : ℕ) (more : List ℕ) → drop (part_length s q bs) bs ≡ b ∷ more → s b ≡ true
unfolding part_length
space-ends s q [] b more e = absurd (cc)
space-ends s q (c ∷ bs) b more e = ends-if s c (part_length s (quoted_after q c) bs) b bs more (s c) q refl (space-ends s (quoted_after q c) bs b more) e

-- White space is no double quote.
no_quote : (b : ℕ) → is_space b ≡ true → (b == 34) ≡ false
no_quote b e = grind (arith, nat_tests)

-- The words after a separator are those of the bytes after it.
words-behind : (l : List ℕ) → ((b : ℕ) (more : List ℕ) → l ≡ b ∷ more → is_space b ≡ true) → filter has_bytes (behind is_space l) ≡ words (drop 1 l)
unfolding words parts
words-behind [] h = refl
words-behind (b ∷ bs) h = ap (λ q. filter has_bytes (parts is_space q bs)) (no_quote b (h b bs refl))

-- The first of words, if it has a byte, and then the others.
split-first : (w : List ℕ) (ws : List (List ℕ)) → filter has_bytes (w ∷ ws) ≡ filter has_bytes (w ∷ []) ++ filter has_bytes ws
split-first [] ws = refl
split-first (b ∷ bs) ws = refl

-- The words are the first one, if it has a byte, and those after its separator.
pub words-step : (rest : List ℕ) → words rest ≡ filter has_bytes (take (part_length is_space false rest) rest ∷ [])
    ++ words (drop 1 (drop (part_length is_space false rest) rest))
unfolding words
words-step rest =
    let n = part_length is_space false rest in
    ap (filter has_bytes) (parts-first is_space false rest) ∙ split-first (take n rest) (behind is_space (drop n rest))
    ∙ ap (λ l. filter has_bytes (take n rest ∷ []) ++ l) (words-behind (drop n rest) (space-ends is_space false rest))

-- The words found so far, one more, and those of what is left are all.
pub words_more : (bytes rest word next_to next : List ℕ) (n : ℕ) (found new : List (List ℕ)) → words bytes ≡ found ++ words rest
    → n ≡ part_length is_space false rest
    → word ≡ take n rest → next_to ≡ drop n rest → next ≡ drop 1 next_to → new ≡ found ++ filter has_bytes (word ∷ []) → words bytes ≡ new ++ words next
words_more bytes rest word next_to next n found new so_far n_is word_is next_to_is next_is new_is =
    let m = part_length is_space false rest in
    let w : word ≡ take m rest = word_is ∙ ap (λ k. take k rest) n_is in
    let l : next ≡ drop 1 (drop m rest) = next_is ∙ ap (drop 1) (next_to_is ∙ ap (λ k. drop k rest) n_is) in
    so_far ∙ ap (λ l. found ++ l) (words-step rest) ∙ sym (append_assoc found (filter has_bytes (take m rest ∷ [])) (words (drop 1 (drop m rest))))
    ∙ ap (λ v. (found ++ filter has_bytes (v ∷ [])) ++ words (drop 1 (drop m rest))) (sym w) ∙ ap (λ v. v ++ words (drop 1 (drop m rest))) (sym new_is)
    ∙ ap (λ v. new ++ words v) (sym l)

-- Where nothing is left, the words found are all.
pub words_done : (bytes rest : List ℕ) (found : List (List ℕ)) (b : Bool) → words bytes ≡ found ++ words rest → b ≡ (length rest == 0) → b ≡ true
    → found ≡ words bytes
unfolding words parts
words_done bytes [] found b so_far e f = sym (so_far ∙ append-nil found)
words_done bytes (c ∷ cs) found b so_far e f = absurd (let g : (length (c ∷ cs) == 0) ≡ true = sym e ∙ f in grind (arith, nat_tests))

-- What is left after a word and its separator is shorter.
pub shorter : (rest next_to next : List ℕ) (n : ℕ) (b : Bool) → next_to ≡ drop n rest → next ≡ drop 1 next_to → b ≡ (length rest == 0) → b ≡ false
    → length next < length rest
shorter [] next_to next n b d e f g = absurd (let h : (length {A = ℕ} [] == 0) ≡ false = sym f ∙ g in cc)
shorter (c ∷ cs) next_to next n b d e f g = omega (arith, ap length e, ap length d, length-drop 1 next_to, length-drop n (c ∷ cs))
