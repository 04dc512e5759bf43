-- Steps, parts and blocks, one after another.
use Rattle.std.proofs.Common.{◌≡◌, ℕ, ◌+◌, ◌-◌, ◌≤◌, ◌<◌, Bool, true, false, not, List, [], ◌∷◌}
use Rattle.std.proofs.Common.{◌++◌, length, take, drop, Some, refl, sym, ap, ◌∙◌, arith, append_assoc}
use Rattle.std.specs.Prelude.{nat_le, ◌||◌}
use Rattle.std.proofs.lemmas.List.{append-nil, length-drop}
use Rattle.std.proofs.lemmas.Bool.Decides.{nat_tests}
use Rattle.template_reader.specs.Spot.{Block}
use Rattle.template_reader.specs.Fault.{form_fault, is_in_each, is_outside, is_root}
use Rattle.template_reader.specs.Tree.{walk_of}
use Rattle.template_reader.specs.Tree.{Tree, Branch, done, node, joined}
use Rattle.template_reader.specs.Tree as trees
use Rattle.template_reader.specs.Taken.{text_item, form_item, tag_takes_before, tag_takes_after}
use Rattle.template_reader.specs.Taken as item
use Rattle.template_reader.specs.Reading.{items_at, IsLast, IsNext, Passes, Moves, Stops, Fails, FailsIn}
use Rattle.template_reader.specs.Reading.{Blocks, stop_items, opened, text_tree}
use Rattle.template_reader.specs.declared.tag.Form.{Form}
use Rattle.template_reader.specs.declared.tag.Form.TheVariants as form
use Rattle.template_reader.specs.declared.tag.Name.{Name}
use Rattle.template_reader.specs.declared.walk.Walk.{Walk}
use Rattle.template_reader.specs.declared.expr.Expr.{Expr}
use Rattle.template_reader.specs.declared.tag.Tag.{Tag}
use Rattle.template_reader.specs.declared.reading.Stop.{Stop}
use Rattle.template_reader.specs.declared.reading.Stop.TheVariants as stop
use Rattle.template_reader.specs.declared.template_error.TemplateError.{TemplateError}
use Rattle.template_reader.specs.declared.template_error.TemplateKind.TheVariants.{NotInEach, TooDeep}
use Rattle.template_reader.proofs.Trees.{joined-joined, spells-text, spells-one, spells-joined}

-- One part was read, and then another.
pub moved_more : (base : ℕ) (body : List ℕ) (from front depth : ℕ) (in_each : Bool) (old mid new : Tree) (at skip place next : ℕ)
    → Moves base body from front depth in_each old mid at skip → Moves base body at skip depth in_each mid new place next
    → Moves base body from front depth in_each old new place next
moved_more base body from front depth in_each old mid new at skip place next a b =
    let p = a.items in
    let q = b.items in
    record {
      later = omega (arith, a.later, b.later);
      inside = b.inside;
      fault = λ blocks fits. a.fault blocks fits ∙ b.fault blocks fits;
      items = (
        joined p.0 q.0,
        p.1 ++ q.1,
        q.2 ∙ ap (λ t. joined t q.0) p.2 ∙ joined-joined old p.0 q.0,
        spells-joined p.0 q.0 p.1 q.1 p.3 q.3,
        p.4 ∙ ap (λ l. p.1 ++ l) q.4 ∙ sym (append_assoc p.1 q.1 (items_at base body place next)),
      );
    }

-- A part was read, and then what ends it.
pub moved_stop : (base : ℕ) (body : List ℕ) (from front depth : ℕ) (in_each : Bool) (old mid new : Tree) (at skip : ℕ) (s : Stop) (place end next : ℕ)
    → Moves base body from front depth in_each old mid at skip → Stops base body at skip depth in_each mid new s place end next
    → Stops base body from front depth in_each old new s place end next
moved_stop base body from front depth in_each old mid new at skip s place end next a b =
    let p = a.items in
    let q = b.items in
    record {
      later = omega (arith, a.later, b.later);
      inside = b.inside;
      fault = λ blocks fits. a.fault blocks fits ∙ b.fault blocks fits;
      items = (
        joined p.0 q.0,
        p.1 ++ q.1,
        q.2 ∙ ap (λ t. joined t q.0) p.2 ∙ joined-joined old p.0 q.0,
        spells-joined p.0 q.0 p.1 q.1 p.3 q.3,
        p.4 ∙ ap (λ l. p.1 ++ l) q.4 ∙ sym (append_assoc p.1 q.1 (stop_items base body s end next)),
      );
    }

-- The last text.
pub last_stop : (base : ℕ) (body : List ℕ) (at front depth : ℕ) (in_each : Bool) (old new : Tree) → at + front ≤ length body → IsLast body at
    → new ≡ joined old (text_tree base (at + front) (length body))
    → Stops base body at front depth in_each old new stop.End (length body) (length body) 0
last_stop base body at front depth in_each old new h l grown = record {
  later = omega arith;
  inside = omega arith;
  fault = λ blocks fits. l.fault blocks;
  items = (
    text_tree base (at + front) (length body),
    text_item base (at + front) (length body),
    grown,
    spells-text base (at + front) (length body),
    l.items
        base front ∙ sym (append-nil (text_item base (at + front) (length body))),
  );
}

-- A tag and the text before it.
pub passed : (base : ℕ) (body : List ℕ) (at front : ℕ) (old new : Tree) (start end before skip : ℕ) (t : Tag) (b a : List ℕ) → IsNext body at start end t
    → b ≡ take start body → a ≡ drop end body
    → before ≡ tag_takes_before (Some t) b a → skip ≡ tag_takes_after (Some t) b a → skip ≤ length a
    → new ≡ joined old (text_tree base (at + front) (start - before))
    → Passes base body at front old new t.form start end skip
passed base body at front old new start end before skip t b a next b_is a_is before_is skip_is fits grown =
    let k = before_is ∙ ap (λ l. tag_takes_before (Some t) l a) b_is ∙ ap (λ l. tag_takes_before (Some t) (take start body) l) a_is in
    let m = skip_is ∙ ap (λ l. tag_takes_after (Some t) l a) b_is ∙ ap (λ l. tag_takes_after (Some t) (take start body) l) a_is in
    record {
      later = omega (arith, next.ordered, next.some);
      inside = omega (arith, fits, ap length a_is, next.inside, length-drop end body);
      fault = next.fault;
      items = (
        text_tree base (at + front) (start - before),
        text_item base (at + front) (start - before),
        grown,
        spells-text base (at + front) (start - before),
        next.items base front
            ∙ ap (λ k. text_item base (at + front) (start - k) ++ (form_item t.form
            ++ items_at base body end (tag_takes_after (Some t) (take start body) (drop end body)))) (sym k)
            ∙ ap (λ m. text_item base (at + front) (start - before) ++ (form_item t.form ++ items_at base body end m)) (sym m),
      );
    }

-- A comment, or a tag that prints.
pub passed_comment : (base : ℕ) (body : List ℕ) (at front depth : ℕ) (in_each : Bool) (old new : Tree) (f : Form) (start end skip : ℕ)
    → Passes base body at front old new f start end skip
    → f ≡ form.Comment → Moves base body at front depth in_each old new end skip
unfolding form_fault
passed_comment base body at front depth in_each old new f start end skip p said =
    let q = p.items in
    record {
      later = omega (arith, p.later);
      inside = p.inside;
      fault = λ blocks fits. p.fault blocks ∙ rw said refl;
      items = (q.0, q.1, q.2, q.3, q.4 ∙ ap (λ f. q.1 ++ (form_item f ++ items_at base body end skip)) said);
    }

-- The test of a path, with what is known of the blocks.
is_in : (in_each : Bool) (w : Walk) (blocks : List Block) (t : Bool) → is_in_each blocks ≡ in_each → (is_root w || in_each) ≡ t → is_outside blocks w ≡ not t
is_in in_each w blocks t e h = ap (λ b. not (is_root w || b)) e ∙ ap not h

-- A tag that prints is one node.
pub passed_print : (base : ℕ) (body : List ℕ) (at front depth : ℕ) (in_each : Bool) (old mid new : Tree) (f : Form) (start end skip : ℕ) (e : Expr)
    → Passes base body at front old mid f start end skip
    → f ≡ form.Print e → (is_root (walk_of e) || in_each) ≡ true → new ≡ joined mid (node (trees.print e) done)
    → Moves base body at front depth in_each old new end skip
unfolding form_fault
passed_print base body at front depth in_each old mid new f start end skip e p said good more =
    let q = p.items in
    record {
      later = omega (arith, p.later);
      inside = p.inside;
      fault = λ blocks fits. p.fault blocks ∙ rw (said, is_in in_each (walk_of e) blocks true fits.each_is good) refl;
      items = (
        joined q.0 (node (trees.print e) done),
        q.1 ++ (item.print e ∷ []),
        more ∙ ap (λ t. joined t (node (trees.print e) done)) q.2 ∙ joined-joined old _ _,
        spells-joined _ _ _ _ q.3 (spells-one (trees.print e) (item.print e ∷ []) refl),
        q.4 ∙ ap (λ f. q.1 ++ (form_item f ++ items_at base body end skip)) said ∙ sym (append_assoc q.1 (item.print e ∷ []) (items_at base body end skip)),
      );
    }

-- A tag that prints what belongs to an each is a fault outside every each.
pub outside_print : (base : ℕ) (body : List ℕ) (at front depth : ℕ) (in_each : Bool) (old new : Tree) (f : Form) (start end skip : ℕ) (e : Expr)
    (x : TemplateError) → Passes base body at front old new f start end skip
    → f ≡ form.Print e → (is_root (walk_of e) || in_each) ≡ false → x ≡ record { kind = NotInEach; place = start } → Fails body at depth in_each x
unfolding form_fault
outside_print base body at front depth in_each old new f start end skip e x p said bad is =
    record { fault = λ blocks fits. p.fault blocks ∙ rw (said, is_in in_each (walk_of e) blocks false fits.each_is bad) (ap Some (sym is)) }

-- So is a begin with such a path.
pub outside_begin : (base : ℕ) (body : List ℕ) (at front depth : ℕ) (in_each : Bool) (old new : Tree) (f : Form) (start end skip : ℕ) (n : Name) (w : Walk)
    (x : TemplateError) → Passes base body at front old new f start end skip
    → f ≡ form.Begin n w → (is_root w || in_each) ≡ false → x ≡ record { kind = NotInEach; place = start } → Fails body at depth in_each x
unfolding form_fault
outside_begin base body at front depth in_each old new f start end skip n w x p said bad is =
    record { fault = λ blocks fits. p.fault blocks ∙ rw (said, is_in in_each w blocks false fits.each_is bad) (ap Some (sym is)) }

-- A number that is no greater passes the test.
nat_le-true : (m n : ℕ) → m ≤ n → nat_le m n ≡ true
nat_le-true m n h = grind (arith, nat_tests)

-- A greater number fails it.
nat_le-false : (m n : ℕ) → n < m → nat_le m n ≡ false
nat_le-false m n h = grind (arith, nat_tests)

-- A begin within 32 blocks is a fault.
pub deep_begin : (base : ℕ) (body : List ℕ) (at front depth : ℕ) (in_each : Bool) (old new : Tree) (f : Form) (start end skip : ℕ) (n : Name) (w : Walk)
    (x : TemplateError) → Passes base body at front old new f start end skip
    → f ≡ form.Begin n w → (is_root w || in_each) ≡ true → 32 ≤ depth → x ≡ record { kind = TooDeep; place = start } → Fails body at depth in_each x
unfolding form_fault
deep_begin base body at front depth in_each old new f start end skip n w x p said good h is =
    record {
      fault = λ blocks fits. p.fault blocks ∙ rw (
        said,
        is_in in_each w blocks true fits.each_is good,
        nat_le-true 32 (length blocks)
            (omega (arith, fits.depth_is)),
      ) (ap Some (sym is));
    }

-- A fault within the block that is begun is the first one.
pub failed_begin : (base : ℕ) (body : List ℕ) (at front depth : ℕ) (in_each : Bool) (old new : Tree) (f : Form) (start end skip : ℕ) (n : Name) (w : Walk)
    (x : TemplateError) → Passes base body at front old new f start end skip
    → f ≡ form.Begin n w → (is_root w || in_each) ≡ true → depth < 32 → FailsIn body end depth in_each (opened n false start) x → Fails body at depth in_each x
unfolding form_fault
failed_begin base body at front depth in_each old new f start end skip n w x p said good h b =
    record {
      fault = λ blocks fits. p.fault blocks ∙ rw (
        said,
        is_in in_each w blocks true fits.each_is good,
        nat_le-false 32 (length blocks)
            (omega (arith, fits.depth_is)),
      ) (b.fault blocks fits);
    }

-- A begin and its block are one node.
pub passed_begin : (base : ℕ) (body : List ℕ) (at front depth : ℕ) (in_each : Bool) (old mid new : Tree) (f : Form) (start end skip : ℕ) (n : Name) (w : Walk)
    (b : Branch) (place next : ℕ)
    → Passes base body at front old mid f start end skip → f ≡ form.Begin n w → (is_root w || in_each) ≡ true → depth < 32
    → Blocks base body end skip depth in_each n w start b place next
    → new ≡ joined mid (node b done) → Moves base body at front depth in_each old new place next
unfolding form_fault
passed_begin base body at front depth in_each old mid new f start end skip n w b place next p said good h k more =
    let c = k.items in
    let q = p.items in
    record {
      later = omega (arith, p.later, k.later);
      inside = k.inside;
      fault = λ blocks fits. p.fault blocks ∙ rw (
        said,
        is_in in_each w blocks true fits.each_is good,
        nat_le-false 32 (length blocks)
            (omega (arith, fits.depth_is)),
      ) (k.fault blocks fits);
      items = (
        joined q.0 (node b done),
        q.1 ++ (item.begin n w ∷ c.0),
        more ∙ ap (λ t. joined t (node b done)) q.2 ∙ joined-joined old _ _,
        spells-joined _ _ _ _ q.3 (spells-one b (item.begin n w ∷ c.0) c.1),
        q.4 ∙ ap (λ f. q.1 ++ (form_item f ++ items_at base body end skip)) said ∙ ap (λ l. q.1 ++ (item.begin n w ∷ l)) c.2
            ∙ sym (append_assoc q.1 (item.begin n w ∷ c.0) (items_at base body place next)),
      );
    }
