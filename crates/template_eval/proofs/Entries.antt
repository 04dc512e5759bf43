-- What is rendered for items or children, one after another.
use Rattle.std.proofs.Common.{◌≡◌, ℕ, ◌+◌, List, [], ◌∷◌, map, Option, Some, None, Ok, Err, refl, sym, ap, ◌∙◌, subst}
use Rattle.std.specs.Prelude.{MatchOption}
use Rattle.settings_tree.specs.Content.{Contents}
use Rattle.template_reader.specs.Tree.{Tree}
use Rattle.template_reader.specs.declared.walk.Walk.{Walk}
use Rattle.template_eval.specs.Place.{Place, Here, place_at}
use Rattle.template_eval.specs.Node.{Node}
use Rattle.template_eval.specs.Node as nodes
use Rattle.template_eval.specs.Written.{path_text}
use Rattle.template_eval.specs.Rendered.{Rendered, onto, both, led, joined}
use Rattle.template_eval.specs.Render.{for_each, each_text}
use Rattle.template_eval.specs.Steps.{Adds, Going}
use Rattle.template_eval.specs.Views.{place_of, places_of, rendering, each_rendering}
use Rattle.template_eval.specs.declared.inputs.Inputs.{Inputs}
use Rattle.template_eval.specs.declared.places.Split.{Split}
use Rattle.template_eval.specs.declared.render_error.RenderError.{RenderError}
use Rattle.template_eval.proofs.Additions.{onto-none, going_none, going_more, going_fails, going_done}

-- The first of some places and those after it, or there is none.
abbrev pub Parts : Contents → List Place → Option Split → Type 0
Parts content places o = MatchOption o (places ≡ []) (λ s. places ≡ place_of s.first ∷ places_of content s.rest)

parts_some : (content : Contents) (places : List Place) (o : Option Split) (s : Split) → Parts content places o → o ≡ Some s
    → places ≡ place_of s.first ∷ places_of content s.rest
parts_some content places o s parts is = subst (Parts content places) is parts

parts_none : (content : Contents) (places : List Place) (o : Option Split) → Parts content places o → o ≡ None → places ≡ []
parts_none content places o parts is = subst (Parts content places) is parts

-- The first after what leads it, and the others after the separator.
abbrev pub behind : List ℕ → List ℕ → List Rendered → Rendered
behind lead separator [] = Ok []
behind lead separator (r ∷ rs) = both (onto lead r) (led separator rs)

joined_behind : (separator : List ℕ) (rs : List Rendered) → joined separator rs ≡ behind [] separator rs
joined_behind separator [] = refl
joined_behind separator (r ∷ rs) = ap (λ x. both x (led separator rs)) (onto-none r)

led_behind : (separator : List ℕ) (rs : List Rendered) → led separator rs ≡ behind separator separator rs
led_behind separator [] = refl
led_behind separator (r ∷ rs) = refl

-- Nothing leads the first child.
pub behind_begins : (separator : List ℕ) (rs : List Rendered) (out : List ℕ) → Going (joined separator rs) (behind [] separator rs) out out
behind_begins separator rs out =
    let P : Rendered → Type 0 = λ r. Going (joined separator rs) r out out in
    subst P (joined_behind separator rs) (going_none (joined separator rs) out)

-- One child more after what leads it.
pub behind_next : (content : Contents) (whole : Rendered) (lead separator : List ℕ) (pair : Place → Rendered) (places : List Place) (o : Option Split)
    (s : Split) (old mid new : List ℕ) → Parts content places o → o ≡ Some s
    → Going whole (behind lead separator (map pair places)) old mid → Adds (onto lead (pair (place_of s.first))) mid new
    → Going whole (behind separator separator (map pair (places_of content s.rest))) old new
behind_next content whole lead separator pair places o s old mid new parts is going adds =
    let P : List Place → Type 0 = λ ps. Going whole (behind lead separator (map pair ps)) old mid in
    let Q : Rendered → Type 0 = λ r. Going whole r old new in
    subst Q (led_behind separator (map pair (places_of content s.rest)))
    (going_more whole (onto lead (pair (place_of s.first))) (led separator (map pair (places_of content s.rest))) old mid new
    (subst P (parts_some content places o s parts is) going) adds)

-- A refusal of the next child is that of the whole.
pub behind_fails : (content : Contents) (whole : Rendered) (lead separator : List ℕ) (pair : Place → Rendered) (places : List Place) (o : Option Split)
    (s : Split) (old mid : List ℕ) (e : RenderError) → Parts content places o → o ≡ Some s
    → Going whole (behind lead separator (map pair places)) old mid → pair (place_of s.first) ≡ Err e → whole ≡ Err e
behind_fails content whole lead separator pair places o s old mid e parts is going fails =
    let P : List Place → Type 0 = λ ps. Going whole (behind lead separator (map pair ps)) old mid in
    going_fails whole (onto lead (pair (place_of s.first))) (led separator (map pair (places_of content s.rest))) old mid e
    (subst P (parts_some content places o s parts is) going) (ap (onto lead) fails)

-- No child is left.
pub behind_done : (content : Contents) (whole : Rendered) (lead separator : List ℕ) (pair : Place → Rendered) (places : List Place) (o : Option Split)
    (old new : List ℕ) → Parts content places o → o ≡ None
    → Going whole (behind lead separator (map pair places)) old new → Adds whole old new
behind_done content whole lead separator pair places o old new parts is going =
    let P : List Place → Type 0 = λ ps. Going whole (behind lead separator (map pair ps)) old new in
    going_done whole old new (subst P (parts_none content places o parts is) going)

-- What an each renders to, by the node to which its path leads.
pub each_is : (i : Inputs) (path : Walk) (first other : Tree) (here : Option Here) (p : Place) (n : Node) (r : Rendered)
    → n ≡ nodes.node i.content.now i.os.now p → p ≡ place_at here path
    → each_text (path_text path) (λ h. rendering i first (Some h)) (rendering i other here) n ≡ r → each_rendering i path first other here ≡ r
each_is i path first other here p n r stands leads is =
    ap (λ (n : Node). each_text (path_text path) (λ h. rendering i first (Some h)) (rendering i other here) n)
    (ap (λ (p : Place). nodes.node i.content.now i.os.now p) (sym leads) ∙ sym stands) ∙ is

-- The first part of an each, for one place more.
pub firsts_next : (content : Contents) (whole : Rendered) (once : Here → Rendered) (r : Rendered) (places : List Place) (o : Option Split) (s : Split) (i j : ℕ)
    (old mid new : List ℕ) → Parts content places o → o ≡ Some s → j ≡ i + 1
    → r ≡ once (record { this = place_of s.first; index = i }) → Going whole (for_each once i places) old mid → Adds r mid new
    → Going whole (for_each once j (places_of content s.rest)) old new
firsts_next content whole once r places o s i j old mid new parts is next same going adds =
    let here : Here = record { this = place_of s.first; index = i } in
    let P : List Place → Type 0 = λ ps. Going whole (for_each once i ps) old mid in
    let Q : Rendered → Type 0 = λ x. Adds x mid new in
    let R : ℕ → Type 0 = λ n. Going whole (for_each once n (places_of content s.rest)) old new in
    subst R (sym next) (going_more whole (once here) (for_each once (i + 1) (places_of content s.rest)) old mid new
    (subst P (parts_some content places o s parts is) going) (subst Q same adds))

-- A refusal of the first part of an each, for the next place, is that of the whole.
pub firsts_fails : (content : Contents) (whole : Rendered) (once : Here → Rendered) (r : Rendered) (places : List Place) (o : Option Split) (s : Split) (i : ℕ)
    (old mid : List ℕ) (e : RenderError) → Parts content places o → o ≡ Some s
    → r ≡ once (record { this = place_of s.first; index = i }) → Going whole (for_each once i places) old mid → r ≡ Err e → whole ≡ Err e
firsts_fails content whole once r places o s i old mid e parts is same going fails =
    let P : List Place → Type 0 = λ ps. Going whole (for_each once i ps) old mid in
    going_fails whole (once (record { this = place_of s.first; index = i })) (for_each once (i + 1) (places_of content s.rest)) old mid e
    (subst P (parts_some content places o s parts is) going) (sym same ∙ fails)

-- No place is left.
pub firsts_done : (content : Contents) (whole : Rendered) (once : Here → Rendered) (places : List Place) (o : Option Split) (i : ℕ) (old new : List ℕ)
    → Parts content places o → o ≡ None → Going whole (for_each once i places) old new → Adds whole old new
firsts_done content whole once places o i old new parts is going =
    let P : List Place → Type 0 = λ ps. Going whole (for_each once i ps) old new in
    going_done whole old new (subst P (parts_none content places o parts is) going)
