-- What whole heads with what follows them read as.
use Rattle.std.proofs.Common.{◌≡◌, ◌≤◌, ◌+◌, ℕ, List, length, take, drop, map, IsTrue, inl, inr, refl, sym, subst, ap, ◌∙◌, arith}
use Rattle.httparse.specs.Grammar.{RequestHead, print_request, ReadsRequest}
use Rattle.httparse.specs.declared.spans.HeaderSpan.{HeaderSpan}
use Rattle.httparse.specs.declared.spans.RequestSpans.{RequestSpans}
use Rattle.httparse.specs.Spans.{name_and_value, header_bytes, span_bytes, IsRequestAt, IsRequestOf}
use Rattle.std.proofs.lemmas.List.{drop_at}
use Rattle.api_http.specs.declared.plan.Plan.{Plan}
use Rattle.api_http.specs.declared.reading.Reading.{Reading}
use Rattle.api_http.specs.declared.reading.Reading.TheVariants.{Whole, NotYet, Refused}
use Rattle.api_http.specs.declared.refusal.Refusal.TheVariants.{Body}
use Rattle.api_http.specs.declared.route.Route.{Route}
use Rattle.api_http.specs.declared.verdict.Verdict.{Verdict}
use Rattle.api_http.specs.declared.verdict.Verdict.TheVariants.{Planned}
use Rattle.api_http.specs.Heads.{IsWholeHead, HoldsNoHead, shown}
use Rattle.api_http.specs.Query.{Pair}
use Rattle.api_http.specs.Routes.{has_tree}
use Rattle.settings_machine.specs.declared.request.Request.{Request}
use Rattle.settings_machine.specs.Asked.{request_of}
use Rattle.api_http.specs.Spelled.{Spells}
use Rattle.api_http.specs.Requests.{Told, told, pairs_of, Asks, in_head, in_body, MayRefuse, Waits, for_body, IfWhole, IfRefused}
use Rattle.api_http.proofs.Lines.{few_fields}
use Rattle.api_http.proofs.Shown.{head_from_shown}
use Rattle.api_http.specs.Plans.{IsPlan, Tells, IsNoTree, ReadsAs}

-- the body is there and spells the request
pub asked : (t : Told) (plan : Plan) (size n k : ℕ) (rest body : List ℕ) (request : Request) → Tells t (Planned plan size) → size ≤ length rest
    → body ≡ take size rest → ((r : Route) (pairs : List Pair) → IsPlan r pairs plan → Spells pairs body r (request_of request)) → k ≡ n + size
    → ReadsAs t rest n (Whole request k)
asked t plan size n k rest body request (clean, size_is, planned) there body_is spells k_is = (
  record {
    clean = clean;
    body = omega (arith, there, size_is);
    route = planned.route;
    route_is = planned.route_is;
    spells = subst (λ b. Spells (pairs_of t) b planned.route (request_of request)) (body_is ∙ ap (λ m. take m rest) size_is)
        (spells planned.route (pairs_of t) planned.plan_is);
  },
  k_is ∙ ap (λ m. n + m) size_is,
)

-- the body is there and is no tree
pub body_refused : (t : Told) (plan : Plan) (size n : ℕ) (rest body : List ℕ) → Tells t (Planned plan size) → size ≤ length rest → body ≡ take size rest
    → ((r : Route) (pairs : List Pair) → IsPlan r pairs plan → IsTrue (has_tree r) × IsNoTree body)
    → ReadsAs t rest n (Refused Body)
body_refused t plan size n rest body (clean, size_is, planned) there body_is refuses =
    let wrong = refuses planned.route (pairs_of t) planned.plan_is in
    inr (
      refl,
      record {
        clean = clean;
        body = omega (arith, there, size_is);
        route = planned.route;
        route_is = planned.route_is;
        treed = wrong.0;
        no_tree = subst IsNoTree (body_is ∙ ap (λ m. take m rest) size_is) wrong.1;
      },
    )

-- what a whole head reads as, said of the bytes
module _ (bytes : List ℕ) (h : RequestHead) (rest : List ℕ) (whole : IsWholeHead bytes h rest) where
  -- a whole request is asked by the bytes
  pub whole_said : (reading : Reading) → ReadsAs (told h) rest (length (print_request h)) reading → IfWhole reading (Asks bytes)
  whole_said (Whole request n) (a, n_is) = record {
    head = h;
    rest = rest;
    clean = record { whole = whole; clean = a.clean };
    body = a.body;
    length_is = n_is;
    route = a.route;
    route_is = a.route_is;
    spells = a.spells;
  }
  whole_said NotYet said = tt
  whole_said (Refused r) said = tt

  -- a refusal is one that the bytes may have
  pub refused_said : (reading : Reading) → ReadsAs (told h) rest (length (print_request h)) reading → IfRefused reading (MayRefuse bytes)
  refused_said (Whole request n) said = tt
  refused_said NotYet said = tt
  refused_said (Refused r) (inl first) = inl (in_head h rest r whole first)
  refused_said (Refused r) (inr (is, b)) = rw is (inl (in_body h rest b.route b.no_tree.0 (record { whole = whole; clean = b.clean }) b.body b.route_is b.treed
      b.no_tree.1))

  -- what is waited for is missing in the bytes
  pub waits_said : (reading : Reading) → ReadsAs (told h) rest (length (print_request h)) reading → reading ≡ NotYet → Waits bytes
  waits_said (Whole request n) said is = cc
  waits_said NotYet said is = for_body h rest (record { whole = whole; clean = said.0 }) said.1
  waits_said (Refused r) said is = cc

-- the head that the parser found is one of the bytes
pub found_head : (bytes part : List ℕ) (headers : List HeaderSpan) (r : RequestSpans) (h : RequestHead) → part ≡ shown bytes → IsRequestAt part headers r h
    → IsWholeHead bytes h (drop r.len bytes) × (length (print_request h) ≡ r.len)
found_head bytes part headers r h part_is at =
    let reads = subst (λ p. ReadsRequest p h (drop r.len part)) part_is at.reads in
    let there = head_from_shown bytes h (drop r.len part) reads in
    let few = few_fields bytes h (drop r.len part) reads in
    let behind : drop r.len bytes ≡ there.0.0 = ap (drop r.len) there.0.1.1 ∙ drop_at (print_request h) there.0.0 r.len (sym at.len) in (
      record {
        reads = subst (ReadsRequest bytes h) (sym behind) there.0.1;
        fields = few;
        lines = there.2;
        size = there.1;
      },
      sym at.len,
    )

-- the parser finds no head where there is none
pub found_whole_head : (bytes part : List ℕ) (headers : List HeaderSpan) (r : RequestSpans) → part ≡ shown bytes → IsRequestOf part headers r
    → HoldsNoHead bytes → ⊥
found_whole_head bytes part headers r part_is at none = none at.0 (drop r.len bytes) (found_head bytes part headers r at.0 part_is at.1).0

-- what the parser found is what the head tells
pub found_told : (part : List ℕ) (headers : List HeaderSpan) (r : RequestSpans) (h : RequestHead) (method target : List ℕ) → IsRequestAt part headers r h
    → method ≡ span_bytes part r.method → target ≡ span_bytes part r.path
    → record { method = method; target = target; fields = map (header_bytes part) (take r.headers headers) } ≡ told h
found_told part headers r h method target at method_is target_is =
    let m : method ≡ h.method = method_is ∙ at.method in
    let p : target ≡ h.target = target_is ∙ at.path in
    let f : map (header_bytes part) (take r.headers headers) ≡ map name_and_value h.fields = at.fields in
    λ i. record { method = m i; target = p i; fields = f i }

-- what was found of a head, and what follows it, read as the bytes do
module _
    (bytes part : List ℕ) (headers fields : List HeaderSpan) (r : RequestSpans) (method target rest : List ℕ) (verdict : Verdict) (reading : Reading)
    (part_is : part ≡ shown bytes) (at : IsRequestOf part headers r) (fields_are : fields ≡ take r.headers headers)
    (method_is : method ≡ span_bytes part r.method) (target_is : target ≡ span_bytes part r.path) (rest_is : rest ≡ drop r.len bytes)
    (tells : Tells (record { method = method; target = target; fields = map (header_bytes part) fields }) verdict)
    (said : (t : Told) → Tells t verdict → ReadsAs t rest r.len reading) where
  found_said : ReadsAs (told at.0) (drop r.len bytes) (length (print_request at.0)) reading
  found_said =
      let as_told = ap (λ l. record { method = method; target = target; fields = map (header_bytes part) l }) fields_are
      ∙ found_told part headers r at.0 method target at.1 method_is target_is in
      let here : ReadsAs (told at.0) rest r.len reading = said (told at.0) (subst (λ t. Tells t verdict) as_told tells) in
      let behind : ReadsAs (told at.0) (drop r.len bytes) r.len reading = subst (λ (l : List ℕ). ReadsAs (told at.0) l r.len reading) rest_is here in
      subst (λ (n : ℕ). ReadsAs (told at.0) (drop r.len bytes) n reading) at.1.len behind

  whole_found : IsWholeHead bytes at.0 (drop r.len bytes)
  whole_found = (found_head bytes part headers r at.0 part_is at.1).0

  -- so a whole request is asked by all bytes
  pub found_whole : IfWhole reading (Asks bytes)
  found_whole = whole_said bytes at.0 (drop r.len bytes) whole_found reading found_said

  -- so a refusal is one of all bytes
  pub found_refused : IfRefused reading (MayRefuse bytes)
  found_refused = refused_said bytes at.0 (drop r.len bytes) whole_found reading found_said

  -- so what is waited for is missing in all bytes
  pub found_waits : reading ≡ NotYet → Waits bytes
  found_waits = waits_said bytes at.0 (drop r.len bytes) whole_found reading found_said
