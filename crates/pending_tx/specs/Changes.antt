-- Changes that name nothing which stays.
use Rattle.std.specs.Prelude.{◌≡◌, ◌≢◌, List, Option, All, MatchOption}
use Rattle.settings_tree.specs.Laid.{laid_one}
use Rattle.settings_tree.specs.declared.entry.Entry.{Entry}
use Rattle.settings_tree.specs.declared.held.Held.{Held}

-- Each entry gives its place another content than what is held has there.
pub record NamesOnlyChanges (h : Held) (es : List Entry) : Type 0 where
  pub each : All (λ e. laid_one h e ≢ h) es

-- The entry gives a part its new content, and there is none exactly where the part stays.
abbrev pub Tells : {A : Type 0} → Option Entry → (A → Entry) → A → A → Type 0
Tells entry make old new = MatchOption entry (new ≡ old) (λ e. (e ≡ make new) × (new ≢ old))
