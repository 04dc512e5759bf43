-- Bytes in pieces: the place goes on.
use Rattle.std.proofs.Common.{◌≡◌, ◌↔◌, inl, inr, ◌⊎◌, ◌<◌, ◌≤◌, ◌+◌, ℕ, suc, List, [], ◌∷◌}
use Rattle.std.proofs.Common.{◌++◌, length, take, drop, map, get_or, Vec, Global, refl, sym, ◌∙◌, ap, subst, arith}
use Rattle.std.specs.Prelude.{min}
use Rattle.std.proofs.lemmas.List.{take-append-drop, take_more, append-nil, append_assoc, length-append}
use Rattle.std.proofs.lemmas.List.{length-drop, length-take, drop-append-le, take-append-le, drop-drop}
use Rattle.std.proofs.lemmas.Grind.{flat_map-append}
use Rattle.std.proofs.Math.Seq.{drop-cons, drop-nil, drop-append_seam, take-append_seam, take-add, drop-length}
use Rattle.std.proofs.Math.ListN.{drop_of_length-le}
use Rattle.std.proofs.lemmas.Option.{slice_get_cases}
use Rattle.disk_memory.specs.Pieces.{Pieces, joined, bytes_in, piece_at, before_place, from_place, cut, first_filled, next_piece, AtByte}

abbrev Piece : Type 0
Piece = Vec ℕ Global

-- nothing is dropped
drop-none : {A : Type 0} (xs : List A) → drop 0 xs ≡ xs
drop-none [] = refl
drop-none (x ∷ xs) = refl

-- nothing is taken
take-none : {A : Type 0} (xs : List A) → take 0 xs ≡ []
take-none [] = refl
take-none (x ∷ xs) = refl

-- of pieces of which nothing was given, all is left
cut-none : (pieces : Pieces) → cut 0 pieces ≡ map (λ p. p.items) pieces
cut-none [] = refl
cut-none (p ∷ pieces) = ap (λ (l : List ℕ). l ∷ map (λ p. p.items) pieces) (drop-none p.items)

-- a first piece with some bytes
filled_first : (first : List ℕ) (others : List (List ℕ)) → 0 < length first → first_filled (first ∷ others) ≡ first
filled_first [] others some = absurd (omega arith)
filled_first (b ∷ bytes) others some = refl

module _ (pieces : Pieces) (i : ℕ) (p : Piece) (here : i < length pieces) (is : p ≡ get_or pieces i p) where
  -- the piece is the first of those from its place on
  from_here : drop i pieces ≡ p ∷ drop (i + 1) pieces
  from_here =
      let next : suc i ≡ i + 1 = omega arith in
      drop-cons pieces i p here ∙ ap (λ (q : Piece). q ∷ drop (suc i) pieces) (sym is) ∙ ap (λ n. p ∷ drop n pieces) next

  -- so its bytes are the first from there on
  all_from_here : joined (drop i pieces) ≡ p.items ++ joined (drop (i + 1) pieces)
  all_from_here = ap (λ (ps : Pieces). joined ps) from_here

  -- a piece that was given whole
  passed_left : (offset : ℕ) → offset ≡ length p.items → from_place pieces (i + 1) 0 ≡ from_place pieces i offset
  passed_left offset whole =
      drop-none (joined (drop (i + 1) pieces)) ∙ sym (drop-append_seam p.items (joined (drop (i + 1) pieces)))
      ∙ ap (drop (length p.items)) (sym all_from_here) ∙ ap (λ n. drop n (joined (drop i pieces))) (sym whole)

  -- the same bytes are before the next place
  passed_before : (offset : ℕ) → offset ≡ length p.items → before_place pieces (i + 1) 0 ≡ before_place pieces i offset
  passed_before offset whole =
      let given : joined (take (i + 1) pieces) ≡ joined (take i pieces) ++ p.items =
      ap (λ (ps : Pieces). joined ps) (take_more pieces i p here ∙ ap (λ (q : Piece). take i pieces ++ q ∷ []) (sym is))
      ∙ flat_map-append (λ (q : Piece). q.items) (take i pieces) (p ∷ []) ∙ ap (λ (l : List ℕ). joined (take i pieces) ++ l) (append-nil p.items) in
      ap (λ (l : List ℕ). joined (take (i + 1) pieces) ++ l) (take-none (joined (drop (i + 1) pieces))) ∙ append-nil (joined (take (i + 1) pieces)) ∙ given
      ∙ ap (λ (l : List ℕ). joined (take i pieces) ++ l) (sym (take-append_seam p.items (joined (drop (i + 1) pieces)))
      ∙ ap (take (length p.items)) (sym all_from_here) ∙ ap (λ n. take n (joined (drop i pieces))) (sym whole))

  -- and the next piece is the same
  passed_next : (offset : ℕ) → offset ≡ length p.items → next_piece pieces (i + 1) 0 ≡ next_piece pieces i offset
  passed_next offset whole =
      ap first_filled (cut-none (drop (i + 1) pieces))
      ∙ ap (λ (l : List ℕ). first_filled (l ∷ map (λ q. q.items) (drop (i + 1) pieces))) (sym (ap (λ n. drop n p.items) whole ∙ drop-length p.items))
      ∙ ap (λ (ps : Pieces). first_filled (cut offset ps)) (sym from_here)

  -- some bytes of a piece are given
  of_piece : (offset count : ℕ) → offset + count ≤ length p.items → take count (drop offset (joined (drop i pieces))) ≡ take count (drop offset p.items)
  of_piece offset count fits =
      let long : count ≤ length (drop offset p.items) = omega (arith, length-drop offset p.items) in
      ap (λ (l : List ℕ). take count (drop offset l)) all_from_here
      ∙ ap (take count) (drop-append-le offset p.items (joined (drop (i + 1) pieces)) (omega arith))
      ∙ take-append-le count (drop offset p.items) (joined (drop (i + 1) pieces)) long

  -- they come off what is left
  given_left : (offset count : ℕ) → offset + count ≤ length p.items → from_place pieces i offset ≡ take count (drop offset p.items)
      ++ from_place pieces i (offset + count)
  given_left offset count fits =
      sym (take-append-drop count (drop offset (joined (drop i pieces))))
      ∙ ap (λ (l : List ℕ). l ++ drop count (drop offset (joined (drop i pieces)))) (of_piece offset count fits)
      ∙ ap (λ (l : List ℕ). take count (drop offset p.items) ++ l) (drop-drop count offset (joined (drop i pieces)))

  -- and are at the end of what was given
  given_before : (offset count : ℕ) → offset + count ≤ length p.items → before_place pieces i (offset + count) ≡ before_place pieces i offset
      ++ take count (drop offset p.items)
  given_before offset count fits =
      ap (λ (l : List ℕ). joined (take i pieces) ++ l) (take-add offset count (joined (drop i pieces))
      ∙ ap (λ (l : List ℕ). take offset (joined (drop i pieces)) ++ l) (of_piece offset count fits))
      ∙ sym (append_assoc (joined (take i pieces)) (take offset (joined (drop i pieces))) (take count (drop offset p.items)))

  -- at a byte of it, it is the next piece
  next_here : (offset : ℕ) → offset < length p.items → next_piece pieces i offset ≡ drop offset p.items
  next_here offset there =
      let some : 0 < length (drop offset p.items) = omega (arith, length-drop offset p.items) in
      ap (λ (ps : Pieces). first_filled (cut offset ps)) from_here ∙ filled_first (drop offset p.items) (map (λ q. q.items) (drop (i + 1) pieces)) some

-- ---- the same, with the piece by its number

-- there is a piece with this number, or none
piece_cases : (pieces : Pieces) (i : ℕ) → ((p : Piece) × (i < length pieces) × (p ≡ get_or pieces i p) × (piece_at pieces i ≡ p.items))
    ⊎ ((piece_at pieces i ≡ []) × (length pieces ≤ i))
piece_cases pieces i = elim (slice_get_cases pieces i).1 [
  | inl some ↦ inl (some.0, some.1, sym some.3, ap bytes_in some.2)
  | inr none ↦ inr (ap bytes_in none.1, none.0)
]

module _ (pieces : Pieces) (i offset : ℕ) where
  -- a piece that was given whole is passed over
  module _ (here : i < length pieces) (whole : offset ≡ length (piece_at pieces i)) where
    pub over_left : from_place pieces (i + 1) 0 ≡ from_place pieces i offset
    over_left = elim (piece_cases pieces i) [
      | inl some ↦ passed_left pieces i some.0 some.1 some.2 offset (whole ∙ ap length some.3)
      | inr none ↦ absurd (omega arith)
    ]

    -- with the same bytes before
    pub over_before : before_place pieces (i + 1) 0 ≡ before_place pieces i offset
    over_before = elim (piece_cases pieces i) [
      | inl some ↦ passed_before pieces i some.0 some.1 some.2 offset (whole ∙ ap length some.3)
      | inr none ↦ absurd (omega arith)
    ]

    -- and the same next piece
    pub over_next : next_piece pieces (i + 1) 0 ≡ next_piece pieces i offset
    over_next = elim (piece_cases pieces i) [
      | inl some ↦ passed_next pieces i some.0 some.1 some.2 offset (whole ∙ ap length some.3)
      | inr none ↦ absurd (omega arith)
    ]

  -- at a byte, what is left of its piece is the next piece
  pub next_is : AtByte pieces i offset → next_piece pieces i offset ≡ drop offset (piece_at pieces i)
  next_is there = elim (piece_cases pieces i) [
    | inl some ↦ next_here pieces i some.0 some.1 some.2 offset (subst (λ (l : List ℕ). offset < length l) some.3 (there.there some.1))
        ∙ ap (drop offset) (sym some.3)
    | inr none ↦ ap (λ (ps : Pieces). first_filled (cut offset ps)) (drop_of_length-le pieces none.1) ∙ sym (drop-nil offset) ∙ ap (drop offset) (sym none.0)
  ]

  -- some bytes of the piece are given
  module _ (count : ℕ) (fits : offset + count ≤ length (piece_at pieces i)) where
    pub on_left : from_place pieces i offset ≡ take count (drop offset (piece_at pieces i)) ++ from_place pieces i (offset + count)
    on_left = elim (piece_cases pieces i) [
      | inl some ↦ given_left pieces i some.0 some.1 some.2 offset count (subst (λ (l : List ℕ). offset + count ≤ length l) some.3 fits)
          ∙ ap (λ (l : List ℕ). take count (drop offset l) ++ from_place pieces i (offset + count)) (sym some.3)
      | inr none ↦
          let nothing : count ≡ 0 = omega (arith, ap length none.0) in
          let still : offset + count ≡ offset = omega arith in
          ap (λ n. from_place pieces i n) (sym still) ∙ ap (λ (l : List ℕ). l ++ from_place pieces i (offset + count))
          (sym (take-none (drop offset (piece_at pieces i))) ∙ ap (λ n. take n (drop offset (piece_at pieces i))) (sym nothing))
    ]

    -- they are at the end of what was given
    pub on_before : before_place pieces i (offset + count) ≡ before_place pieces i offset ++ take count (drop offset (piece_at pieces i))
    on_before = elim (piece_cases pieces i) [
      | inl some ↦ given_before pieces i some.0 some.1 some.2 offset count (subst (λ (l : List ℕ). offset + count ≤ length l) some.3 fits)
          ∙ ap (λ (l : List ℕ). before_place pieces i offset ++ take count (drop offset l)) (sym some.3)
      | inr none ↦
          let nothing : count ≡ 0 = omega (arith, ap length none.0) in
          let still : offset + count ≡ offset = omega arith in
          ap (λ n. before_place pieces i n) still ∙ sym (append-nil (before_place pieces i offset))
          ∙ ap (λ (l : List ℕ). before_place pieces i offset ++ l) (sym (take-none (drop offset (piece_at pieces i)))
          ∙ ap (λ n. take n (drop offset (piece_at pieces i))) (sym nothing))
    ]

-- nothing is left of a list, or something
pub whole_if_empty : (offset : ℕ) (l : List ℕ) → offset ≤ length l → length (drop offset l) ≡ 0 → offset ≡ length l
whole_if_empty offset l within none = omega (arith, length-drop offset l)

-- ---- bytes that were put at the front of a room

module _ (rest room copied : List ℕ) (count : ℕ) (most : count ≡ min (length rest) (length room)) (is : copied ≡ take count rest) where
  long : length copied ≡ count
  long = ap length is ∙ length-take count rest ∙ omega arith

  -- the front of the room is what was copied
  pub front_of_room : take count (copied ++ drop count room) ≡ take count rest
  front_of_room = ap (λ n. take n (copied ++ drop count room)) (sym long) ∙ take-append_seam copied (drop count room) ∙ is

  -- as much was copied as there is room for
  pub room_filled : (next : List ℕ) → next ≡ rest → count ≡ min (length (copied ++ drop count room)) (length next)
  room_filled next same =
      let same_room : length (copied ++ drop count room) ≡ length room = omega (arith, long, length-append copied (drop count room), length-drop count room) in
      let same_rest : length next ≡ length rest = ap length same in
      omega arith

-- ---- the end of the input

-- no piece has a byte exactly where nothing is left of all
first_none : (first : List ℕ) (pieces : Pieces) → (first_filled (first ∷ map (λ p. p.items) pieces) ≡ []) ↔ (first ++ joined pieces ≡ [])
first_none (b ∷ bytes) pieces = (λ e. cc, λ e. cc)
first_none [] [] = (λ e. refl, λ e. refl)
first_none [] (p ∷ pieces) = first_none p.items pieces

-- a list of no length is empty
no_bytes : (l : List ℕ) → length l ≡ 0 → l ≡ []
no_bytes [] none = refl
no_bytes (b ∷ l) none = absurd (omega arith)

-- the next piece is empty exactly where nothing is left
pub next_end : (pieces : Pieces) (i offset : ℕ) → offset ≤ length (piece_at pieces i) → (next_piece pieces i offset ≡ []) ↔ (from_place pieces i offset ≡ [])
next_end pieces i offset within = elim (piece_cases pieces i) [
  | inl some ↦
      let p = some.0 in
      let others = drop (i + 1) pieces in
      let next : next_piece pieces i offset ≡ first_filled (drop offset p.items ∷ map (λ q. q.items) others) =
      ap (λ (ps : Pieces). first_filled (cut offset ps)) (from_here pieces i p some.1 some.2) in
      let left : from_place pieces i offset ≡ drop offset p.items ++ joined others =
      ap (drop offset) (all_from_here pieces i p some.1 some.2) ∙ drop-append-le offset p.items (joined others)
      (subst (λ (l : List ℕ). offset ≤ length l) some.3 within) in
      let both = first_none (drop offset p.items) others in
      (λ e. left ∙ both.0 (sym next ∙ e), λ e. next ∙ both.1 (sym left ∙ e))
  | inr none ↦
      let all : drop i pieces ≡ [] = drop_of_length-le pieces none.1 in
      (λ e. ap (λ (ps : Pieces). drop offset (joined ps)) all ∙ drop-nil offset, λ e. ap (λ (ps : Pieces). first_filled (cut offset ps)) all)
]

-- no byte is read exactly at the end
pub end_heard : (room next left : List ℕ) (count : ℕ) → 0 < length room → count ≡ min (length room) (length next) → ((next ≡ []) ↔ (left ≡ []))
    → (take count room ≡ []) ↔ (left ≡ [])
end_heard room next left count some most both = (
  λ none. let no_count : min count (length room) ≡ 0 = sym (length-take count room) ∙ ap length none in
      both.0 (no_bytes next (omega arith)),
  λ end. let no_next : length next ≡ 0 = ap length (both.1 end) in
      let no_count : count ≡ 0 = omega arith in
      ap (λ n. take n room) no_count ∙ take-none room,
)
