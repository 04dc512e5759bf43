-- Pairs that are made of an open store, and committed.
use Rattle.std.proofs.Common.{arith, ◌≡◌, inl, inr, ℕ, ◌≤◌, List, [], Option, Result, Ok, Err, IfErr, refl, sym, ◌∙◌, ap, subst}
use Rattle.std.proofs.lemmas.List.{append-nil}
use Rattle.std.specs.Result.{IsErrOf}
use Rattle.outside.specs.Faults.{Rose}
use Rattle.outside.specs.History.{History, tree_of}
use Rattle.outside.specs.Names.{Names}
use Rattle.outside.specs.Spawner.{Question}
use Rattle.outside.specs.Told.{Moves, WhereTold}
use Rattle.outside.specs.Tree.{node_at, file_in}
use Rattle.outside.proofs.Told.{moves_after, moves_stay}
use Rattle.key_names.specs.Key.{printed}
use Rattle.json_trees.specs.Collected.{result_map}
use Rattle.json_trees.specs.declared.scalar.Scalar.{Scalar}
use Rattle.store_image.specs.Paths.{sources_in}
use Rattle.store_open.specs.declared.opened.Opened.{Opened}
use Rattle.command_outcome.specs.Ends.{Outcome}
use Rattle.command_outcome.specs.declared.refusal.Refusal.{Refusal}
use Rattle.command_outcome.specs.declared.refusal.Refusal.TheVariants as refused
use Rattle.core_commands.specs.Committing.{Commits}
use Rattle.core_commands.specs.Handing.{IsOfRequest}
use Rattle.core_commands.specs.Handing.{HasSpawnCause}
use Rattle.core_commands.proofs.Causes.{quiet_spawn}
use Rattle.setting_generators.specs.Asking.{FailsBy, wanted}
use Rattle.setting_generators.specs.Generators.{Given}
use Rattle.setting_generators.specs.declared.generate_error.GenerateError.{GenerateError}
use Rattle.setting_generators.specs.declared.generate_error.GenerateError.TheVariants as asking
use Rattle.settings_cmd.specs.Carried.{Generates, Provides}
use Rattle.settings_cmd.specs.Committing.{Made}
use Rattle.settings_cmd.specs.Generators.{generate_tx, generators_path, Answers, AreGeneratorsIn}
use Rattle.settings_cmd.specs.Generators.{HandsError, IsGenerated, IsOfGenerating, IsOfGenerators, TellsOfGenerators}
use Rattle.settings_cmd.specs.UserData.{data_tx, TellsOfData}
use Rattle.core_commands.proofs.Causes.{same_refusal}

-- A commit of the pairs that were lent is one of those that were made.
as_lent : (store : Opened) (outcome : Outcome) (d d' : Option History) (tx named : List ℕ) (lent pairs : List (List (List ℕ) × Scalar)) → tx ≡ named
    → lent ≡ pairs
    → Moves d d' (Commits tx lent store outcome) → Moves d d' (Commits named pairs store outcome)
as_lent store outcome d d' tx named lent pairs is listed commits =
    subst (λ (l : List (List (List ℕ) × Scalar)). Moves d d' (Commits named l store outcome)) listed
    (subst (λ (t : List ℕ). Moves d d' (Commits t lent store outcome)) is commits)

-- ---- user data

-- They gave no pairs,
pub provides_none : (path : Names) (store : Opened) (refusal : Refusal) (outcome : Outcome) (d d' : Option History)
    → WhereTold d (λ h. TellsOfData (file_in (node_at (tree_of h) path)) (Err refusal))
    → outcome ≡ Err refusal → d' ≡ d → Provides path store outcome d d'
provides_none path store refusal outcome d d' gives is same = record { made = Err refusal; gives = gives; ends = (is, same) }

-- or they were committed.
pub provides_pairs : (path : Names) (store : Opened) (tx : List ℕ) (pairs lent : List (List (List ℕ) × Scalar)) (outcome : Outcome)
    (d between d' : Option History)
    → WhereTold d (λ h. TellsOfData (file_in (node_at (tree_of h) path)) (Ok pairs)) → tx ≡ data_tx → between ≡ d → lent ≡ pairs
    → Moves between d' (Commits tx lent store outcome) → Provides path store outcome d d'
provides_pairs path store tx pairs lent outcome d between d' gives is same listed commits = record {
  made = Ok pairs;
  gives = gives;
  ends = as_lent store outcome d d' tx data_tx lent pairs is listed (moves_after same commits);
}

-- ---- generators

-- They gave no pairs,
pub generates_none : (a a' : Option (List Question)) (store : Opened) (refusal : Refusal) (outcome : Outcome) (d d' : Option History)
    → IsGenerated a a' store (Err refusal) d
    → outcome ≡ Err refusal → d' ≡ d → Generates a a' store outcome d d'
generates_none a a' store refusal outcome d d' gives is same = record { made = Err refusal; gives = gives; ends = (is, same) }

-- or they were committed.
pub generates_pairs : (a a' : Option (List Question)) (store : Opened) (tx : List ℕ) (pairs lent : List (List (List ℕ) × Scalar)) (outcome : Outcome)
    (d between d' : Option History)
    → IsGenerated a a' store (Ok pairs) d → tx ≡ generate_tx → between ≡ d → lent ≡ pairs → Moves between d' (Commits tx lent store outcome)
    → Generates a a' store outcome d d'
generates_pairs a a' store tx pairs lent outcome d between d' gives is same listed commits = record {
  made = Ok pairs;
  gives = gives;
  ends = as_lent store outcome d d' tx generate_tx lent pairs is listed (moves_after same commits);
}

-- ---- causes

-- A refusal of this kind is none of another.
pub is_none_of : {T : Type 0} (P : Refusal → Type 0) (outcome : Result T Refusal) (e : Refusal) → (P e → ⊥) → IfErr outcome P → IsErrOf outcome e → ⊥
is_none_of P (Ok said) e none of is = cc is
is_none_of {T = T} P (Err refusal) e none of is = none (subst P (same_refusal {T = T} refusal e is) of)

-- Nothing failed, and no program is reported.
pub spawn_none : {T : Type 0} (outcome : Result T Refusal) (before now : ℕ) → now ≡ before → ((name : List ℕ) → IsErrOf outcome (refused.Spawn name) → ⊥)
    → (IsErrOf outcome refused.Door → ⊥)
    → HasSpawnCause before now outcome
spawn_none outcome before now same none no_door = record {
  later = omega (arith, same);
  failed = λ name is. absurd (none name is);
  kept = λ not memory. same;
  no_door = no_door;
}

module _ (before now : ℕ) where
  not_failed : {T : Type 0} (e : GenerateError) → ((key : List (List ℕ)) → e ≡ asking.Failed key → ⊥) → FailsBy {T = T} before now (Err e) → now ≡ before
  not_failed {T = T} e none fails = fails.kept (λ key is. none key (let same : e ≡ asking.Failed key = cc is in same))

  told_memory : {T : Type 0} (refusal : Refusal) → refusal ≡ refused.Memory → before ≤ now → HasSpawnCause {T = T} before now (Err refusal)
  told_memory {T = T} refusal is later = record {
    later = later;
    failed = λ name told. absurd (let clash : refused.Memory ≡ refused.Spawn name = sym is
        ∙ same_refusal {T = T} refusal (refused.Spawn name) told in cc clash);
    kept = λ not memory. absurd (memory (ap (λ (r : Refusal). Err r) is));
    no_door = λ told. let clash : refused.Memory ≡ refused.Door = sym is ∙ same_refusal {T = T} refusal refused.Door told in cc clash;
  }

  told_spawn : {T : Type 0} (refusal : Refusal) (name : List ℕ) → refusal ≡ refused.Spawn name → before ≤ now → Rose before now
      → HasSpawnCause {T = T} before now (Err refusal)
  told_spawn {T = T} refusal name is later rose = record {
    later = later;
    failed = λ other told. rose;
    kept = λ not memory. absurd (not name (ap (λ (r : Refusal). Err r) is));
    no_door = λ told. let clash : refused.Spawn name ≡ refused.Door = sym is ∙ same_refusal {T = T} refusal refused.Door told in cc clash;
  }

  -- How a program that gave no value is reported.
  pub spawn_told : {A B : Type 0} (e : GenerateError) (refusal : Refusal) → HandsError e refusal → FailsBy {T = A} before now (Err e)
      → HasSpawnCause {T = B} before now (Err refusal)
  spawn_told (asking.Failed key) refusal (inl is) fails = told_spawn refusal _ is fails.later (fails.failed key refl)
  spawn_told (asking.Failed key) refusal (inr is) fails = told_memory refusal is fails.later
  spawn_told (asking.Status key number) refusal is fails =
      quiet_spawn refusal before now (not_failed (asking.Status key number) (λ k same. cc same) fails)
      (λ name told. let clash : refused.GeneratorStatus key number ≡ refused.Spawn name = sym is ∙ told in cc clash)
      (λ told. let clash : refused.GeneratorStatus key number ≡ refused.Door = sym is ∙ told in cc clash)
  spawn_told (asking.BadOutput key) refusal is fails =
      quiet_spawn refusal before now (not_failed (asking.BadOutput key) (λ k same. cc same) fails)
      (λ name told. let clash : refused.GeneratorOutput key ≡ refused.Spawn name = sym is ∙ told in cc clash)
      (λ told. let clash : refused.GeneratorOutput key ≡ refused.Door = sym is ∙ told in cc clash)
  spawn_told asking.Memory refusal is fails =
      quiet_spawn refusal before now (not_failed asking.Memory (λ k same. cc same) fails)
      (λ name told. let clash : refused.Memory ≡ refused.Spawn name = sym is ∙ told in cc clash)
      (λ told. let clash : refused.Memory ≡ refused.Door = sym is ∙ told in cc clash)

-- ---- what generators give to an open store

module _ (store : Opened) (d : Option History) where
  -- They could not be read,
  pub generators_unread : {V : Type 0} (items : V → List (List (List ℕ) × Scalar)) (a : Option (List Question)) (refusal : Refusal) (r : Result V Refusal)
      → r ≡ Err refusal
      → WhereTold d (λ h. TellsOfGenerators store.image.model.types (sources_in (tree_of h) generators_path) refusal)
      → IsGenerated a a store (result_map items r) d
  generators_unread {V = V} items a refusal r is tells =
      inl (record { refusal = refusal; refuses = ap (λ (x : Result V Refusal). result_map items x) is; tells = tells; unasked = refl })

  -- there are none,
  pub generators_missing : (a : Option (List Question)) (pairs : List (List (List ℕ) × Scalar))
      → WhereTold d (λ h. AreGeneratorsIn store.image.model.types (sources_in (tree_of h) generators_path) []) → pairs ≡ [] → IsGenerated a a store (Ok pairs) d
  generators_missing a pairs read none = inr (record {
    given = [];
    read = read;
    answers = record {
      generated = Ok [];
      asks = record { questions = []; told = moves_stay (λ (s : List Question). sym (append-nil s)); outcome = (refl, refl) };
      hands = ap (λ (l : List (List (List ℕ) × Scalar)). Ok l) none;
    };
  })

  -- or they were asked.
  pub generators_asked : (a a' : Option (List Question)) (given : List Given) (made : Made)
      → WhereTold d (λ h. AreGeneratorsIn store.image.model.types (sources_in (tree_of h) generators_path) given)
      → Answers (wanted store.held.live given) a a' made
      → IsGenerated a a' store made d
  generators_asked a a' given made read answers = inr (record { given = given; read = read; answers = answers })

-- ---- how they are refused

-- A generator that gave no value is reported as such,
pub hands_of : (e : GenerateError) (refusal : Refusal) → HandsError e refusal → IsOfGenerating refusal
hands_of (asking.Failed key) refusal (inl is) = subst IsOfGenerating (sym is) tt
hands_of (asking.Failed key) refusal (inr is) = subst IsOfGenerating (sym is) tt
hands_of (asking.Status key number) refusal is = subst IsOfGenerating (sym is) tt
hands_of (asking.BadOutput key) refusal is = subst IsOfGenerating (sym is) tt
hands_of asking.Memory refusal is = subst IsOfGenerating (sym is) tt

no_disk : (e : GenerateError) (refusal : Refusal) → HandsError e refusal → refusal ≡ refused.Disk → ⊥
no_disk (asking.Failed key) refusal (inl is) told = let clash : refused.Spawn (printed key) ≡ refused.Disk = sym is ∙ told in cc clash
no_disk (asking.Failed key) refusal (inr is) told = let clash : refused.Memory ≡ refused.Disk = sym is ∙ told in cc clash
no_disk (asking.Status key number) refusal is told = let clash : refused.GeneratorStatus key number ≡ refused.Disk = sym is ∙ told in cc clash
no_disk (asking.BadOutput key) refusal is told = let clash : refused.GeneratorOutput key ≡ refused.Disk = sym is ∙ told in cc clash
no_disk asking.Memory refusal is told = let clash : refused.Memory ≡ refused.Disk = sym is ∙ told in cc clash

-- and not as a failure of the disk.
pub hands_no_disk : {T : Type 0} (e : GenerateError) (refusal : Refusal) → HandsError e refusal → ◌≡◌ {A = Result T Refusal} (Err refusal) (Err refused.Disk)
    → ⊥
hands_no_disk {T = T} e refusal hands is = no_disk e refusal hands (same_refusal {T = T} refusal refused.Disk is)

-- What is known of the refusal holds of what is refused with it.
pub refused_of : {T : Type 0} (P : Refusal → Type 0) (r : Result T Refusal) (refusal : Refusal) → r ≡ Err refusal → P refusal → IfErr r P
refused_of {T = T} P r refusal is of = subst (λ (x : Result T Refusal). IfErr x P) (sym is) of

-- ---- what is reported of programs

-- All generators answered,
pub spawn_answered : {A B : Type 0} (given : A) (pairs : B) (before now : ℕ) → FailsBy {T = A} before now (Ok given)
    → HasSpawnCause {T = B} before now (Ok pairs)
spawn_answered given pairs before now fails = spawn_none (Ok pairs) before now (fails.kept (λ key is. cc is)) (λ name is. cc is) (λ is. cc is)

-- or they could not be read;
pub spawn_unread : {T : Type 0} (r : Result T Refusal) (refusal : Refusal) (x : ℕ) → r ≡ Err refusal → IsOfGenerators refusal → HasSpawnCause x x r
spawn_unread r refusal x is of =
    spawn_none r x x refl (λ name. is_none_of IsOfGenerators r (refused.Spawn name) (λ none. none) (refused_of IsOfGenerators r refusal is of))
    (is_none_of IsOfGenerators r refused.Door (λ none. none) (refused_of IsOfGenerators r refusal is of))

-- and pairs that all of them gave were committed, or not.
pub spawn_committed : {A : Type 0} (pairs : A) (outcome : Outcome) (before now : ℕ) → HasSpawnCause {T = A} before now (Ok pairs) → IfErr outcome IsOfRequest
    → HasSpawnCause before now outcome
spawn_committed pairs outcome before now cause of =
    spawn_none outcome before now (cause.kept (λ name is. cc is) (λ is. cc is)) (λ name. is_none_of IsOfRequest outcome (refused.Spawn name) (λ none. none) of)
    (is_none_of IsOfRequest outcome refused.Door (λ none. none) of)
