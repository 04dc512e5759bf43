-- Tasks that are carried out one after another.
use Rattle.std.proofs.Common.{◌≡◌, inl, inr, ℕ, ◌+◌, ◌-◌, ◌<◌, ◌≤◌, Bool, true, false, List, [], ◌∷◌, ◌++◌, Option}
use Rattle.std.proofs.Common.{Some, None, Ok, Err, length, map, get_or, take, drop, refl, sym, ◌∙◌, ap, subst, arith, append_assoc}
use Rattle.std.specs.Prelude.{IsTrue, flat_map, slice_get, reverse}
use Rattle.std.specs.List.{list_all}
use Rattle.std.proofs.lemmas.Bool.{false≢true}
use Rattle.std.proofs.lemmas.List.Folds.{list_all_at, list_all-map}
use Rattle.std.proofs.lemmas.Option.{slice_get_cases, get_or_from_slice_get}
use Rattle.std.proofs.lemmas.List.Concat.{flat_map-append}
use Rattle.std.proofs.lemmas.List.{append-nil, map-append, take_more, take_all, length-reverse, take-append-drop, get_or-reverse}
use Rattle.outside.specs.Spawner.{Question}
use Rattle.outside.specs.Told.{Moves}
use Rattle.outside.proofs.Told.{moves_stay, moves_map, moves_then}
use Rattle.settings_tree.specs.declared.held.Held.{Held}
use Rattle.release_file.specs.declared.work.Named.{Named}
use Rattle.release_file.specs.declared.work.Work.{Work}
use Rattle.release_file.specs.declared.transition.Transition.{Transition}
use Rattle.release_file.specs.Release.{work_of}
use Rattle.migrate_chain.specs.declared.task_error.TaskError.{TaskError}
use Rattle.migrate_chain.specs.Tasks.{Task, task_of, task_with, task_in, tasks_in, tasks_of, names_in_order, Mapped, Makes, Refuses, AreDone}
use Rattle.migrate_chain.specs.Asking.{HasAsked}
use Rattle.migrate_chain.specs.Carrying.{IsDone, IsPartlyDone, StopsAt}
use Rattle.migrate_chain.proofs.Asked.{asked_none, asked_then, asked_up_to}

done_then : (ts us : List Task) (h : Held) (ms ns : List Mapped) (g made : Held) → AreDone ts h ms g → AreDone us g ns made
    → AreDone (ts ++ us) h (ms ++ ns) made
done_then [] us h [] ns g made done more = subst (λ x. AreDone us x ns made) done more
done_then [] us h (m ∷ ms) ns g made done more = absurd done
done_then (u ∷ ts) us h [] ns g made done more = absurd done
done_then (u ∷ ts) us h (m ∷ ms) ns g made done more = (done.0, done.1, done.2, done_then ts us m.output ms ns g made done.3 more)

-- Nothing to do.
pub carried_none : {h : Held} {a : Option (List Question)} → IsDone [] h h a a
carried_none = record { mapped = []; done = refl; asked = moves_stay asked_none }

-- Tasks, and then others.
pub carried_then : {h g : Held} {a b c : Option (List Question)} (ts us : List Task) (made : Held) → IsDone ts h g a b → IsDone us g made b c
    → IsDone (ts ++ us) h made a c
carried_then {h = h} {g = g} ts us made one two = record {
  mapped = one.mapped ++ two.mapped;
  done = done_then ts us h one.mapped two.mapped g made one.done two.done;
  asked = moves_then (λ old mid new x y. asked_then x y) one.asked two.asked;
}

-- One task.
carried_one : {h g : Held} {a b : Option (List Question)} (t : Task) → Makes t h g → Moves a b (HasAsked t h (Ok g)) → IsDone (t ∷ []) h g a b
carried_one {h = h} {g = g} t makes asked = record {
  mapped = record { task = t; input = h; output = g } ∷ [];
  done = (refl, refl, makes, refl);
  asked = moves_map (λ old new has. record { asked = has.asked; new_is = has.new_is; are = (has.asked, [], sym (append-nil has.asked), has.asks, refl) }) asked;
}

-- Tasks are carried out, and then one of others stops.
stopped_then : {h g : Held} {a b c : Option (List Question)} (ts us : List Task) (e : TaskError) → IsDone ts h g a b → StopsAt us g b c e
    → StopsAt (ts ++ us) h a c e
stopped_then {h = h} {g = g} ts us e one two = record {
  first = ts ++ two.first;
  task = two.task;
  left = two.left;
  are = ap (λ l. ts ++ l) two.are ∙ sym (append_assoc ts two.first (two.task ∷ two.left));
  reached = two.reached;
  mapped = one.mapped ++ two.mapped;
  done = done_then ts two.first h one.mapped two.mapped g two.reached one.done two.done;
  refused = two.refused;
  asked = moves_then (λ old mid new x y. asked_up_to x y) one.asked two.asked;
}

-- One of the first tasks stops.
stopped_before : {h : Held} {a b : Option (List Question)} (ts us : List Task) (e : TaskError) → StopsAt ts h a b e → StopsAt (ts ++ us) h a b e
stopped_before ts us e is = record {
  first = is.first;
  task = is.task;
  left = is.left ++ us;
  are = ap (λ l. l ++ us) is.are ∙ append_assoc is.first (is.task ∷ is.left) us;
  reached = is.reached;
  mapped = is.mapped;
  done = is.done;
  refused = is.refused;
  asked = is.asked;
}

-- One task stops.
stopped_one : {h : Held} {a b : Option (List Question)} (t : Task) (e : TaskError) → Refuses t h e → Moves a b (HasAsked t h (Err e)) → StopsAt (t ∷ []) h a b e
stopped_one {h = h} t e refused asked = record {
  first = [];
  task = t;
  left = [];
  are = refl;
  reached = h;
  mapped = [];
  done = refl;
  refused = refused;
  asked = moves_map (λ old new has. record {
    asked = [];
    last = has.asked;
    new_is = has.new_is
        ∙ ap (λ l. l ++ has.asked) (sym (append-nil old));
    are = refl;
    ends = has.asks;
  }) asked;
}

-- ---- the names of a step

some_at : (names : List (List ℕ)) (i : ℕ) (name : List ℕ) → slice_get names i ≡ Some name → (i < length names) × (get_or names i name ≡ name)
some_at names i name is = elim (slice_get_cases names i).1 [
  | inl found ↦ (found.1, get_or_from_slice_get names i name name is)
  | inr past ↦ absurd (nothing past.1)
]
  where
    nothing : slice_get names i ≡ None → ⊥
    nothing none = let e : None ≡ Some name = sym none ∙ is in cc

module _ (migrations : List Named) (back : Bool) (names : List (List ℕ)) (i : ℕ) where
  abbrev f : List ℕ → List Task
  f = task_in migrations back

  -- The tasks of the first names, and of one more.
  names_more : (name : List ℕ) (work : Work) → slice_get names i ≡ Some name → work_of migrations name ≡ Some work
      → flat_map f (take (i + 1) names) ≡ flat_map f (take i names) ++ task_of name work back ∷ []
  names_more name work at is =
      let there = some_at names i name at in
      ap (flat_map f) (take_more names i name there.0 ∙ ap (λ x. take i names ++ x ∷ []) there.1) ∙ flat_map-append f (take i names) (name ∷ [])
      ∙ ap (λ l. flat_map f (take i names) ++ l) (append-nil (f name) ∙ ap (task_with back name) is)

  module _ {a b c : Option (List Question)} {h g : Held} (name : List ℕ) (work : Work) (at : slice_get names i ≡ Some name)
      (is : work_of migrations name ≡ Some work) (one : IsDone (flat_map f (take i names)) h g a b) where
    -- One name more.
    pub carried_more : (made : Held) → Makes (task_of name work back) g made → Moves b c (HasAsked (task_of name work back) g (Ok made))
        → IsDone (flat_map f (take (i + 1) names)) h made a c
    carried_more made makes asked =
        subst (λ ts. IsDone ts h made a c) (sym (names_more name work at is))
        (carried_then (flat_map f (take i names)) (task_of name work back ∷ []) made one (carried_one (task_of name work back) makes asked))

    -- The next name is that of a task which stops.
    pub stopped_at : (e : TaskError) → Refuses (task_of name work back) g e → Moves b c (HasAsked (task_of name work back) g (Err e))
        → StopsAt (flat_map f names) h a c e
    stopped_at e refused asked =
        let split : flat_map f names ≡ (flat_map f (take i names) ++ task_of name work back ∷ []) ++ flat_map f (drop (i + 1) names) =
        ap (flat_map f) (sym (take-append-drop (i + 1) names)) ∙ flat_map-append f (take (i + 1) names) (drop (i + 1) names)
        ∙ ap (λ l. l ++ flat_map f (drop (i + 1) names)) (names_more name work at is) in
        subst (λ ts. StopsAt ts h a c e) (sym split)
        (stopped_before (flat_map f (take i names) ++ task_of name work back ∷ []) (flat_map f (drop (i + 1) names)) e
        (stopped_then (flat_map f (take i names)) (task_of name work back ∷ []) e one (stopped_one (task_of name work back) e refused asked)))

length-in_order : (back : Bool) (names : List (List ℕ)) → length (names_in_order back names) ≡ length names
length-in_order false names = refl
length-in_order true names = length-reverse names

-- All names.
pub carried_all : (migrations : List Named) (back : Bool) (names : List (List ℕ)) (i : ℕ) (h g : Held) (a b : Option (List Question)) → length names ≤ i
    → IsDone (flat_map (task_in migrations back) (take i (names_in_order back names))) h g a b
    → IsDone (flat_map (task_in migrations back) (names_in_order back names)) h g a b
carried_all migrations back names i h g a b all one =
    subst (λ l. IsDone (flat_map (task_in migrations back) l) h g a b) (take_all i (names_in_order back names) (omega (arith, length-in_order back names))) one

-- Each name of a step is known.
pub known_at : (p : List ℕ → Bool) (back : Bool) (names given : List (List ℕ)) (i : ℕ) (name : List ℕ) → IsTrue (list_all p names) → given ≡ names
    → slice_get (names_in_order back given) i ≡ Some name → IsTrue (p name)
known_at p false names given i name all same at = elim (p name) as (λ b. p name ≡ b → b ≡ true) [
  | true ↦ λ e. refl
  | false ↦ λ e. let there = some_at given i name at in absurd (false≢true
      (sym (list_all_at p given i name there.0 (ap p there.1 ∙ e)) ∙ ap (list_all p) same ∙ all))
] refl
known_at p true names given i name all same at = elim (p name) as (λ b. p name ≡ b → b ≡ true) [
  | true ↦ λ e. refl
  | false ↦ λ e.
      let there = some_at (reverse given) i name at in
      let within : i < length given = omega (arith, length-reverse given, there.0) in
      let turned : get_or given (length given - 1 - i) name ≡ name = sym (get_or-reverse given i name within) ∙ there.1 in
      absurd (false≢true (sym (list_all_at p given (length given - 1 - i) name (omega (arith, within)) (ap p turned ∙ e)) ∙ ap (list_all p) same ∙ all))
] refl

-- ---- the steps of a way

module _ {S : Type 0} (f : S → Transition) (migrations : List Named) (back : Bool) (xs : List S) (i : ℕ) where
  tasks_more : (s : S) → i < length xs → s ≡ get_or xs i s → tasks_of migrations back (map f (take (i + 1) xs)) ≡ tasks_of migrations back (map f (take i xs))
      ++ tasks_in migrations back (f s)
  tasks_more s within next =
      ap (λ l. tasks_of migrations back (map f l)) (take_more xs i s within ∙ ap (λ y. take i xs ++ y ∷ []) (sym next))
      ∙ ap (tasks_of migrations back) (map-append f (take i xs) (s ∷ []))
      ∙ flat_map-append (tasks_in migrations back) (map f (take i xs)) (f s ∷ []) ∙ ap (λ l. tasks_of migrations back (map f (take i xs)) ++ l)
      (append-nil (tasks_in migrations back (f s)))

  tasks_split : (n : ℕ) → tasks_of migrations back (map f xs) ≡ tasks_of migrations back (map f (take n xs)) ++ tasks_of migrations back (map f (drop n xs))
  tasks_split n =
      ap (λ l. tasks_of migrations back (map f l)) (sym (take-append-drop n xs)) ∙ ap (tasks_of migrations back) (map-append f (take n xs) (drop n xs))
      ∙ flat_map-append (tasks_in migrations back) (map f (take n xs)) (map f (drop n xs))

  -- What is known of each step is known of the next.
  pub step_known : (p : Transition → Bool) (s : S) → IsTrue (list_all p (map f xs)) → i < length xs → s ≡ get_or xs i s → IsTrue (p (f s))
  step_known p s all within next = elim (p (f s)) as (λ b. p (f s) ≡ b → b ≡ true) [
    | true ↦ λ e. refl
    | false ↦ λ e. absurd (false≢true (sym (list_all_at (λ y. p (f y)) xs i s within (ap (λ y. p (f y)) (sym next) ∙ e)) ∙ sym (list_all-map p f xs) ∙ all))
  ] refl

  module _ {a b c : Option (List Question)} {h g : Held} (one : IsDone (tasks_of migrations back (map f (take i xs))) h g a b) where
    -- One step more.
    pub step_carried : (s : S) (made : Held) → i < length xs → s ≡ get_or xs i s → IsDone (tasks_in migrations back (f s)) g made b c
        → IsDone (tasks_of migrations back (map f (take (i + 1) xs))) h made a c
    step_carried s made within next two =
        subst (λ ts. IsDone ts h made a c) (sym (tasks_more s within next))
        (carried_then (tasks_of migrations back (map f (take i xs))) (tasks_in migrations back (f s)) made one two)

    -- The next step stops.
    pub step_stopped : (s : S) (e : TaskError) → i < length xs → s ≡ get_or xs i s → StopsAt (tasks_in migrations back (f s)) g b c e
        → StopsAt (tasks_of migrations back (map f xs)) h a c e
    step_stopped s e within next two =
        subst (λ ts. StopsAt ts h a c e) (sym (tasks_split (i + 1)))
        (stopped_before (tasks_of migrations back (map f (take (i + 1) xs))) (tasks_of migrations back (map f (drop (i + 1) xs))) e
        (subst (λ ts. StopsAt ts h a c e) (sym (tasks_more s within next))
        (stopped_then (tasks_of migrations back (map f (take i xs))) (tasks_in migrations back (f s)) e one two)))

  -- The first steps.
  pub steps_partly : {h g : Held} {a b : Option (List Question)} → IsDone (tasks_of migrations back (map f (take i xs))) h g a b
      → IsPartlyDone (tasks_of migrations back (map f xs)) h a b
  steps_partly {g = g} one = record {
    first = tasks_of migrations back (map f (take i xs));
    left = tasks_of migrations back (map f (drop i xs));
    are =
        tasks_split i;
    reached = g;
    done = one;
  }

  -- All steps.
  pub steps_carried : {h g : Held} {a b : Option (List Question)} → length xs ≤ i → IsDone (tasks_of migrations back (map f (take i xs))) h g a b
      → IsDone (tasks_of migrations back (map f xs)) h g a b
  steps_carried {h = h} {g = g} {a = a} {b = b} all one = subst (λ l. IsDone (tasks_of migrations back (map f l)) h g a b) (take_all i xs all) one
