use Rattle.std.proofs.Common.{rules, ◌≡◌, ◌++◌, ◌∙◌, ap, drop, length, List, ℕ}
use Rattle.std.proofs.Math.Seq.{drop-append_seam}
use Rattle.api_http.proofs.reply.ended.Goals as goal

-- the bytes, and what of them is after the head
parts : (bytes head front body : List ℕ) (at : ℕ) → bytes ≡ head ++ body → head ≡ front → at ≡ length head → (bytes ≡ front ++ body) × (drop at bytes ≡ body)
parts bytes head front body at is begins here = (
  is ∙ ap (λ (l : List ℕ). l ++ body) begins,
  ap (λ (n : ℕ). drop n bytes) here ∙ ap (λ (l : List ℕ). drop (length head) l) is ∙ drop-append_seam head body,
)

pub returns : goal.returns
returns c =
    let head = c.extend_from_slice.new.self.items in
    let here : c.len-head.result ≡ length head = search rules in
    let p = parts _ head _ _ c.len-head.result c.in_ok-extend_from_slice-2.ensures.items c.in_ok-extend_from_slice.ensures.items here in
    λ i. record { status = c.args.status; bytes = p.0 i; body = p.1 i }
