-- The chain of steps that leads from one version to another.
use Rattle.std.specs.Prelude.{◌≡◌, ◌≢◌, List, [], ◌∷◌, Bool, true, false, map, reverse, Contains, IsTrue}
use Rattle.version_links.specs.declared.version.Version.{Version}
use Rattle.release_file.specs.declared.transition.Transition.{Transition}
use Rattle.release_file.specs.declared.planning.Step.{Step}
use Rattle.release_file.specs.Order.{is_before, is_upto}

-- The step begins at the version and doesn't go beyond the target, and none of those that do so goes farther.
pub record IsFarthest (all : List Transition) (at target : Version) (t : Transition) : Type 0 where
  pub listed : Contains all t
  pub begins : t.from ≡ at
  pub within : IsTrue (is_upto t.to target)
  pub farthest : (u : Transition) → Contains all u → u.from ≡ at → IsTrue (is_upto u.to target) → IsTrue (is_upto u.to t.to)

-- The chain leads from the version to its end: each step begins where the one before it ended, and is the farthest one there.
abbrev pub Leads : List Transition → Version → Version → List Transition → Version → Type 0
Leads all target at [] end = at ≡ end
Leads all target at (t ∷ chain) end = IsFarthest all at target t × Leads all target t.to chain end

-- The chain leads from the version to the target.
pub record IsChain (all : List Transition) (from target : Version) (chain : List Transition) : Type 0 where
  pub led : Leads all target from chain target

-- The chain from the version to the target comes to a version before the target at which no step begins that doesn't go beyond the target.
pub record IsMissing (all : List Transition) (from target at : Version) : Type 0 where
  pub chain : List Transition
  pub led : Leads all target from chain at
  pub short : at ≢ target
  pub ends : (t : Transition) → Contains all t → t.from ≡ at → IsTrue (is_upto t.to target) → ⊥

-- ---- plans

-- A step that is made, or one that is taken back.
abbrev pub step_of : Bool → Transition → Step
step_of false t = record { from = t.from; to = t.to; back = false }
step_of true t = record { from = t.to; to = t.from; back = true }

-- The way back is from the later version to the earlier one.
abbrev pub is_back : Version → Version → Bool
is_back from to = is_before to from

-- The lower of the two versions.
abbrev pub lower : Bool → Version → Version → Version
lower false from to = from
lower true from to = to

-- The other one.
abbrev pub upper : Bool → Version → Version → Version
upper false from to = to
upper true from to = from

-- The steps of a chain in the order in which they are made: on the way back it is reversed.
abbrev pub in_order : Bool → List Transition → List Transition
in_order false chain = chain
in_order true chain = reverse chain

-- The steps of the release that lead from one version to the other, in the order in which they are made.
pub record IsWay (all : List Transition) (from to : Version) (way : List Transition) : Type 0 where
  pub chain : List Transition
  pub is_chain : let back = is_back from to in IsChain all (lower back from to) (upper back from to) chain
  pub way_is : way ≡ in_order (is_back from to) chain

-- The steps are those that lead from one version to the other.
pub record IsPlan (all : List Transition) (from to : Version) (steps : List Step) : Type 0 where
  pub way : List Transition
  pub is_way : IsWay all from to way
  pub steps_are : steps ≡ map (step_of (is_back from to)) way

-- No steps lead from one version to the other: from the lower of them on, the chain comes to `at` and not to the upper one, `target`.
pub record HasNoPlan (all : List Transition) (from to at target : Version) : Type 0 where
  pub target_is : target ≡ upper (is_back from to) from to
  pub missing : IsMissing all (lower (is_back from to) from to) target at
