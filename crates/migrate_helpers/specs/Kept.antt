-- What every mapping keeps.
use Rattle.std.specs.Prelude.{◌≡◌}
use Rattle.settings_tree.specs.Laid.{KeepsPrefixRule}
use Rattle.settings_tree.specs.declared.held.Held.{Held}

-- What a mapping makes of h keeps the prefix rule, and the owed keys and the stored image text of h.
pub record Kept (h g : Held) : Type 0 where
  pub rule : KeepsPrefixRule g
  pub owed : g.owed ≡ h.owed
  pub image : g.image ≡ h.image
