-- What was added, piece by piece.
use Rattle.std.proofs.Common.{◌≡◌, ℕ, List, [], ◌++◌, Ok, Err, refl, sym, ap, ◌∙◌, append_assoc, append-nil}
use Rattle.template_eval.specs.declared.render_error.RenderError.{RenderError}
use Rattle.template_eval.specs.Rendered.{Rendered, onto, both}
use Rattle.template_eval.specs.Steps.{Adds, Going}

-- Nothing before it changes nothing.
pub onto-none : (r : Rendered) → r ≡ onto [] r
onto-none (Ok bytes) = refl
onto-none (Err e) = refl

onto-both : (bytes more : List ℕ) (r : Rendered) → onto bytes (onto more r) ≡ onto (bytes ++ more) r
onto-both bytes more (Ok last) = ap (λ (l : List ℕ). Ok l) (sym (append_assoc bytes more last))
onto-both bytes more (Err e) = refl

-- Bytes, and then what is rendered after them.
pub adds_onto : (bytes : List ℕ) (r : Rendered) (old mid new : List ℕ) → mid ≡ old ++ bytes → Adds r mid new → Adds (onto bytes r) old new
adds_onto bytes r old mid new first a = record {
  bytes = bytes ++ a.bytes;
  is = ap (onto bytes) a.is;
  added = a.added ∙ ap (λ l. l ++ a.bytes) first ∙ append_assoc old bytes a.bytes;
}

-- Nothing was added yet.
pub going_none : (whole : Rendered) (out : List ℕ) → Going whole whole out out
going_none whole out = record { bytes = []; is = onto-none whole; added = sym (append-nil out) }

-- One piece more was added.
pub going_more : (whole r rest : Rendered) (old mid new : List ℕ) → Going whole (both r rest) old mid → Adds r mid new → Going whole rest old new
going_more whole r rest old mid new g a = record {
  bytes = g.bytes ++ a.bytes;
  is = g.is ∙ ap (λ r. onto g.bytes (both r rest)) a.is ∙ onto-both g.bytes a.bytes rest;
  added = a.added ∙ ap (λ l. l ++ a.bytes) g.added ∙ append_assoc old g.bytes a.bytes;
}

-- A refusal of the next piece is that of the whole.
pub going_fails : (whole r rest : Rendered) (old mid : List ℕ) (e : RenderError) → Going whole (both r rest) old mid → r ≡ Err e → whole ≡ Err e
going_fails whole r rest old mid e g fails = g.is ∙ ap (λ r. onto g.bytes (both r rest)) fails

-- All was added.
pub going_done : (whole : Rendered) (old new : List ℕ) → Going whole (Ok []) old new → Adds whole old new
going_done whole old new g = record { bytes = g.bytes; is = g.is ∙ ap (λ (l : List ℕ). Ok l) (append-nil g.bytes); added = g.added }
