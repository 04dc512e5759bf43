-- Generators that are asked, one after another.
use Rattle.std.proofs.Common.{le-leb, ◌≡◌, ◌≢◌, ◌≤◌, ◌<◌, ◌⊎◌, ◌+◌, ◌++◌, ◌==◌, ℕ, List}
use Rattle.std.proofs.Common.{[], ◌∷◌, map, length, nat_le, take, drop, get_or, Bool, true, false, not}
use Rattle.std.proofs.Common.{cond, String, Global, Option, Some, None, is_some, Bor, Result, Ok, Err}
use Rattle.std.proofs.Common.{ok_or, if◌then◌else◌, inl, inr, append_assoc, append-nil, refl, sym, ap, ◌∙◌, subst, arith}
use Rattle.std.specs.FinMap.{contains_key, get}
use Rattle.std.specs.Option.{option_copied}
use Rattle.std.specs.Result.{IfOk, IfErr, result_ok}
use Rattle.std.proofs.lemmas.Bool.{lt-leb}
use Rattle.std.proofs.lemmas.List.{take_more, take-append-drop, map-append}
use Rattle.std.proofs.lemmas.List.Elements.{filter-append}
use Rattle.json_trees.specs.Collected.{result_map}
use Rattle.json_trees.specs.Scalar.{scalar_read}
use Rattle.json_trees.specs.declared.scalar.Scalar.{Scalar}
use Rattle.json_trees.specs.declared.scalar_error.ScalarError.{ScalarError}
use Rattle.json_trees.specs.declared.scalar_error.ScalarError.TheVariants as scalar_error
use Rattle.outside.specs.Faults.{Rose}
use Rattle.outside.specs.Spawner.{Question, Asks as Answers, texts}
use Rattle.outside.specs.Told.{Moves}
use Rattle.outside.specs.declared.spawner.Answer.{Answer}
use Rattle.outside.specs.declared.spawner.AskErr.{AskErr}
use Rattle.outside.proofs.Told.{moves_map, moves_then}
use Rattle.settings_tree.specs.Content.{Contents}
use Rattle.setting_generators.specs.Generators.{Path, Given, seen}
use Rattle.setting_generators.specs.Asking.{Generated, wanted, most_output, output_value, answer_value, question}
use Rattle.setting_generators.specs.Asking.{with_pair, AreAsked, Asks, FailsBy, AsksOne, Appends}
use Rattle.setting_generators.specs.declared.generator.Generator.{Generator}
use Rattle.setting_generators.specs.declared.generate_error.GenerateError.{GenerateError}
use Rattle.setting_generators.specs.declared.generate_error.GenerateError.TheVariants.{Failed, Status, BadOutput, Memory}

-- ---- one answer

-- An output that is too long.
pub too_long : (key : Path) (output : List ℕ) (e : GenerateError) → most_output < length output → (e ≡ BadOutput key) ⊎ (e ≡ Memory) → e ≢ Memory
    → output_value key output ≡ Err e
too_long key output e long (inl bad) some = rw (lt-leb (length output) most_output long) (ap Err (sym bad))
too_long key output e long (inr memory) some = absurd (some memory)

-- An output that is a scalar.
pub output_read : (key : Path) (output : List ℕ) (value : Scalar) → length output ≤ most_output → scalar_read output ≡ Ok value
    → output_value key output ≡ Ok value
output_read key output value short read = rw (le-leb (length output) most_output short, read) refl

-- Another.
pub output_refused : (key : Path) (output : List ℕ) (error : ScalarError) (e : GenerateError) → length output ≤ most_output
    → (error ≢ scalar_error.Memory → scalar_read output ≡ Err error) → (e ≡ Memory) ⊎ ((e ≡ BadOutput key) × (error ≢ scalar_error.Memory)) → e ≢ Memory
    → output_value key output ≡ Err e
output_refused key output error e short read (inl memory) some = absurd (some memory)
output_refused key output error e short read (inr bad) some = rw (le-leb (length output) most_output short, read bad.1) (ap Err (sym bad.0))

from_output : (key k : Path) (read : Option Scalar) (fits : Bool) → (if fits then ok_or read (BadOutput key) else Err (BadOutput key)) ≡ Err (Failed k) → ⊥
from_output key k (Some v) true is = cc
from_output key k None true is = cc
from_output key k read false is = cc

-- An answer is no failure.
never_failed : (key k : Path) (status : ℕ) (output : List ℕ) → answer_value key status output ≡ Err (Failed k) → ⊥
never_failed key k status output = by (status == 0)
  where
    by : (test : Bool) → (if test then output_value key output else Err (Status key status)) ≡ Err (Failed k) → ⊥
    by true is = from_output key k (result_ok (scalar_read output)) (nat_le (length output) most_output) is
    by false is = cc

-- What a call answers is the value, or it ran out of memory.
pub value_or_memory : (r value : Result Scalar GenerateError) → IfOk r (λ v. value ≡ Ok v) → IfErr r (λ e. e ≢ Memory → value ≡ Err e)
    → (r ≡ value) ⊎ (r ≡ Err Memory)
value_or_memory (Ok v) value ok refused = inl (sym ok)
value_or_memory (Err (Failed k)) value ok refused = inl (sym (refused (λ same. cc)))
value_or_memory (Err (Status k n)) value ok refused = inl (sym (refused (λ same. cc)))
value_or_memory (Err (BadOutput k)) value ok refused = inl (sym (refused (λ same. cc)))
value_or_memory (Err Memory) value ok refused = inr refl

-- ---- one generator

module _ (g : Generator) (before after : Option (List Question)) (r : Result Scalar GenerateError) where
  -- It was answered.
  pub answered : (words : List (String Global)) (answer : Answer) → words ≡ g.words.items
      → Moves before after (Answers {E = AskErr} (texts words) [] (Ok answer)) → (r ≡ answer_value g.key answer.status answer.output.items) ⊎ (r ≡ Err Memory)
      → AsksOne (seen g) before after r
  answered words answer same asked value = record {
    questions = question (seen g) answer.status answer.output.items ∷ [];
    told = moves_map (λ old new is. is ∙ ap (λ (w : List (String Global)). old
        ++ record { words = texts w; input = []; status = answer.status; output = answer.output.items } ∷ []) same) asked;
    is = inl (record { status = answer.status; output = answer.output.items; asked = refl; value_is = value });
  }

  -- It was not.
  pub unanswered : Moves before after (λ old new. new ≡ old) → (r ≡ Err (Failed g.key)) ⊎ (r ≡ Err Memory) → AsksOne (seen g) before after r
  unanswered asked value = record {
    questions = [];
    told = moves_map (λ old new is. is ∙ sym (append-nil old)) asked;
    is = inr (record { asked = refl; value_is = value });
  }

-- An answer leaves the count.
pub answer_kept : (before now : ℕ) (key : Path) (status : ℕ) (output : List ℕ) (r : Result Scalar GenerateError) → now ≡ before
    → (r ≡ answer_value key status output) ⊎ (r ≡ Err Memory) → FailsBy before now r
answer_kept before now key status output r same value = record {
  later = omega (arith, same);
  failed = λ k is. absurd (none k value is);
  kept = λ _. same;
}
  where
    none : (k : Path) → (r ≡ answer_value key status output) ⊎ (r ≡ Err Memory) → r ≡ Err (Failed k) → ⊥
    none k (inl is) failed = never_failed key k status output (sym is ∙ failed)
    none k (inr is) failed = let clash : ◌≡◌ {A = Result Scalar GenerateError} (Err Memory) (Err (Failed k)) = sym is ∙ failed in cc

-- A failure raises it.
pub failure_rose : {T : Type 0} (before now : ℕ) (key : Path) → before ≤ now → Rose before now → FailsBy {T = T} before now (Err (Failed key))
failure_rose before now key later rose = record { later = later; failed = λ k is. rose; kept = λ none. absurd (none key refl) }

-- So is a refusal of another call.
pub fails_as : {T U : Type 0} (before now : ℕ) (e : GenerateError) → FailsBy {T = T} before now (Err e) → FailsBy {T = U} before now (Err e)
fails_as {T} {U} before now e fails = record {
  later = fails.later;
  failed = λ k is. fails.failed k (ap Err (error_is e (Failed k) is));
  kept = λ none. fails.kept (λ k is. none k (ap Err (error_is e (Failed k) is)));
}
  where
    error_is : {V : Type 0} (a b : GenerateError) → ◌≡◌ {A = Result V GenerateError} (Err a) (Err b) → a ≡ b
    error_is a b is = cc

-- The count was kept before.
pub fails_behind : {T : Type 0} (a b c : ℕ) (r : Result T GenerateError) → b ≡ a → FailsBy b c r → FailsBy a c r
fails_behind a b c r same fails = subst (λ (n : ℕ). FailsBy n c r) same fails

-- ---- its pair

-- A key without a live value is wanted.
pub absent : (found : Option (Bor Scalar)) (o : Option Scalar) → option_copied found ≡ o → is_some found ≡ false → is_some o ≡ false
absent None o is none = ap is_some (sym is)
absent (Some x) o is none = absurd (cc)

pub present : (found : Option (Bor Scalar)) (o : Option Scalar) → option_copied found ≡ o → is_some found ≡ true → is_some o ≡ true
present None o is some = absurd (cc)
present (Some x) o is some = ap is_some (sym is)

wanted_one : (live : Contents) (g : Given) → is_some (get live.values g.0) ≡ false → wanted live (g ∷ []) ≡ g ∷ []
wanted_one live g none = ap (λ b. cond (not b) (g ∷ []) []) none

module _ (live : Contents) (g : Generator) (before after : Option (List Question)) (none : is_some (get live.values g.key) ≡ false) where
  -- It gives none.
  pub refused_one : (ps : List (Path × Scalar)) (e : GenerateError) → AsksOne (seen g) before after (Err e)
      → Appends (wanted live (seen g ∷ [])) before after ps ps (Err e)
  refused_one ps e one =
      rw (wanted_one live (seen g) none) (record {
        questions = one.questions;
        told = one.told;
        is =
            inr (record { error = e; refused = one.is; generated_is = refl });
      })

  -- It gives one.
  pub pushed_one : (ps more : List (Path × Scalar)) (key : Path) (v : Scalar) → AsksOne (seen g) before after (Ok v) → key ≡ g.key → more ≡ ps ++ (key, v) ∷ []
      → Appends (wanted live (seen g ∷ [])) before after ps more (Ok tt)
  pushed_one ps more key v one same pushed =
      rw (wanted_one live (seen g) none) (record {
        questions = one.questions;
        told = one.told;
        is = (
          (g.key, v) ∷ [],
          inl (record {
            first = one.questions;
            value = v;
            answered = one.is;
            others = [];
            rest = Ok [];
            goes_on = (refl, refl);
            asked =
                sym (append-nil one.questions);
            generated_is = refl;
          }),
          pushed ∙ ap (λ (k : Path). ps ++ (k, v) ∷ []) same,
        );
      })

-- ---- one after the other

rest_of : (key : Path) (v : Scalar) (found : List (Path × Scalar)) (rest : Generated) → Ok found ≡ with_pair key v rest
    → (ps : List (Path × Scalar)) × (rest ≡ Ok ps) × (found ≡ (key, v) ∷ ps)
rest_of key v found (Ok ps) is = (ps, refl, cc)
rest_of key v found (Err e) is = absurd (cc)

error_of : (key : Path) (v : Scalar) (e : GenerateError) (rest : Generated) → Err e ≡ with_pair key v rest → rest ≡ Err e
error_of key v e (Ok ps) is = absurd (cc)
error_of key v e (Err other) is = cc

behind : List (Path × Scalar) → Generated → Generated
behind found o = result_map (λ ps. found ++ ps) o

behind_none : (o : Generated) → o ≡ behind [] o
unfolding behind
behind_none (Ok ps) = refl
behind_none (Err e) = refl

behind_one : (key : Path) (v : Scalar) (found : List (Path × Scalar)) (o : Generated) → behind ((key, v) ∷ found) o ≡ with_pair key v (behind found o)
unfolding behind
behind_one key v found (Ok ps) = refl
behind_one key v found (Err e) = refl

-- Generators were asked after others that gave their values.
both : (xs ys : List Given) (questions more : List Question) (found : List (Path × Scalar)) (o : Generated) → AreAsked xs questions (Ok found)
    → AreAsked ys more o → AreAsked (xs ++ ys) (questions ++ more) (behind found o)
both [] ys questions more found o one two =
    let none : found ≡ [] = let same = one.1 in cc in
    rw (one.0, none) (subst (AreAsked ys more) (behind_none o) two)
both (x ∷ xs) ys questions more found o (inl one) two =
    let rest = rest_of x.0 one.value found one.rest one.generated_is in
    inl (record {
      first = one.first;
      value = one.value;
      answered = one.answered;
      others = one.others ++ more;
      rest = behind rest.0 o;
      goes_on = both xs ys one.others more rest.0 o (subst (AreAsked xs one.others) rest.1 one.goes_on) two;
      asked = ap (λ (q : List Question). q ++ more) one.asked ∙ append_assoc one.first one.others more;
      generated_is = ap (λ (ps : List (Path × Scalar)). behind ps o) rest.2 ∙ behind_one x.0 one.value rest.0 o;
    })
both (x ∷ xs) ys questions more found o (inr one) two = let clash = one.generated_is in absurd (cc)

-- After a refusal no other is asked.
stopped : (xs ys : List Given) (questions : List Question) (e : GenerateError) → AreAsked xs questions (Err e) → AreAsked (xs ++ ys) questions (Err e)
stopped [] ys questions e one = let clash = one.1 in absurd (cc)
stopped (x ∷ xs) ys questions e (inl one) =
    let rest = error_of x.0 one.value e one.rest one.generated_is in
    inl (record {
      first = one.first;
      value = one.value;
      answered = one.answered;
      others = one.others;
      rest = Err e;
      goes_on = stopped xs ys one.others e (subst (AreAsked xs one.others) rest one.goes_on);
      asked = one.asked;
      generated_is = refl;
    })
stopped (x ∷ xs) ys questions e (inr one) = inr one

joined : (a b c : List Question) (qs rs : List Question) → b ≡ a ++ qs → c ≡ b ++ rs → c ≡ a ++ (qs ++ rs)
joined a b c qs rs one two = two ∙ ap (λ (l : List Question). l ++ rs) one ∙ append_assoc a qs rs

module _ (live : Contents) (xs : List Generator) (i : ℕ) (x : Generator) (a b c : Option (List Question)) (ps : List (Path × Scalar)) (within : i < length xs)
    (is : x ≡ get_or xs i x)
    (so_far : Asks (wanted live (map seen (take i xs))) a b (Ok ps)) where
  grown : wanted live (map seen (take (i + 1) xs)) ≡ wanted live (map seen (take i xs)) ++ wanted live (seen x ∷ [])
  grown =
      ap (λ (l : List Generator). wanted live (map seen l)) (take_more xs i x within ∙ ap (λ (y : Generator). take i xs ++ y ∷ []) (sym is))
      ∙ ap (wanted live) (map-append seen (take i xs) (x ∷ [])) ∙ filter-append (λ g. not (contains_key live.values g.0)) (map seen (take i xs)) (seen x ∷ [])

  -- One more was asked, or passed over.
  pub asked_more : (qs : List (Path × Scalar)) → Appends (wanted live (seen x ∷ [])) b c ps qs (Ok tt)
      → Asks (wanted live (map seen (take (i + 1) xs))) a c (Ok qs)
  unfolding behind
  asked_more qs one = record {
    questions = so_far.questions ++ one.questions;
    told = moves_then (λ old new now h k. joined old new now so_far.questions one.questions h k) so_far.told one.told;
    outcome = rw (grown, one.is.2) (both (wanted live (map seen (take i xs))) (wanted live (seen x ∷ [])) so_far.questions one.questions ps (Ok one.is.0)
        so_far.outcome one.is.1);
  }

  -- The next one gave none.
  asked_last : (qs : List (Path × Scalar)) (e : GenerateError) → Appends (wanted live (seen x ∷ [])) b c ps qs (Err e)
      → Asks (wanted live (map seen xs)) a c (Err e)
  unfolding behind
  asked_last qs e one = record {
    questions = so_far.questions ++ one.questions;
    told = moves_then (λ old new now h k. joined old new now so_far.questions one.questions h k) so_far.told one.told;
    outcome =
        let upto : AreAsked (wanted live (map seen (take (i + 1) xs))) (so_far.questions ++ one.questions) (Err e) =
        rw grown (both (wanted live (map seen (take i xs))) (wanted live (seen x ∷ [])) so_far.questions one.questions ps (Err e) so_far.outcome one.is) in
        subst (λ (l : List Given). AreAsked l (so_far.questions ++ one.questions) (Err e))
        (sym (filter-append (λ g. not (contains_key live.values g.0)) (map seen (take (i + 1) xs)) (map seen (drop (i + 1) xs)))
        ∙ ap (wanted live) (sym (map-append seen (take (i + 1) xs) (drop (i + 1) xs)) ∙ ap (map seen) (take-append-drop (i + 1) xs)))
        (stopped (wanted live (map seen (take (i + 1) xs))) (wanted live (map seen (drop (i + 1) xs))) (so_far.questions ++ one.questions) e upto);
  }

-- So it is of all generators.
pub all_refused : (live : Contents) (xs : List Generator) (whole : List Given) (i : ℕ) (x : Generator) (a b c : Option (List Question))
    (ps qs : List (Path × Scalar)) (e : GenerateError) → i < length xs → x ≡ get_or xs i x → map seen xs ≡ whole
    → Asks (wanted live (map seen (take i xs))) a b (Ok ps) → Appends (wanted live (seen x ∷ [])) b c ps qs (Err e) → Asks (wanted live whole) a c (Err e)
all_refused live xs whole i x a b c ps qs e within is all so_far one =
    subst (λ (l : List Given). Asks (wanted live l) a c (Err e)) all (asked_last live xs i x a b c ps within is so_far qs e one)

-- At first none was asked.
pub none_asked : (told : Option (List Question)) (ps : List (Path × Scalar)) → ps ≡ [] → Moves told told (λ old new. new ≡ old) → Asks [] told told (Ok ps)
none_asked told ps none stays = rw none (record { questions = []; told = moves_map (λ old new is. is ∙ sym (append-nil old)) stays; outcome = (refl, refl) })

-- What a refusal says of the count of faults, it says where it is handed on.
pub fails_handed : {T U : Type 0} (before now : ℕ) (e : GenerateError) → FailsBy {T = T} before now (Err e) → FailsBy {T = U} before now (Err e)
fails_handed before now e fails = record {
  later = fails.later;
  failed = λ key is. let same : e ≡ Failed key = cc in fails.failed key (ap Err same);
  kept = λ other. fails.kept (λ key is. let same : e ≡ Failed key = cc in other key (ap Err same));
}
