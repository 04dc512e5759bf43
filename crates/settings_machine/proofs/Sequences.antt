-- Events one after another.
use Rattle.std.proofs.Common.{◌≡◌, Bool, true, false, ◌||◌, ◌&&◌, List, [], ◌∷◌, ◌++◌, refl, sym, ◌∙◌, ap}
use Rattle.settings_machine.specs.World.{Image, World}
use Rattle.settings_machine.specs.Events.{Event, next, after, acknowledges, acknowledges_any, faulted_next, faulted_after, is_served, are_served}

pub faulted-append : (b : Bool) (es fs : List Event) → faulted_after b (es ++ fs) ≡ faulted_after (faulted_after b es) fs
faulted-append b [] fs = refl
faulted-append b (e ∷ es) fs = faulted-append (faulted_next b e) es fs

pub or_false : (a b : Bool) → a ≡ false → b ≡ false → (a || b) ≡ false
or_false true b p q = p
or_false false b p q = q

or_assoc : (a b c : Bool) → ((a || b) || c) ≡ (a || (b || c))
or_assoc true b c = refl
or_assoc false b c = refl

and_assoc : (a b c : Bool) → ((a && b) && c) ≡ (a && (b && c))
and_assoc true b c = refl
and_assoc false b c = refl

pub served-append : (es fs : List Event) → are_served (es ++ fs) ≡ (are_served es && are_served fs)
served-append [] fs = refl
served-append (e ∷ es) fs = ap (λ b. is_served e && b) (served-append es fs) ∙ sym (and_assoc (is_served e) _ _)

module _ (I : Image) where
  pub after-append : (W : World) (es fs : List Event) → after I W (es ++ fs) ≡ after I (after I W es) fs
  after-append W [] fs = refl
  after-append W (e ∷ es) fs = after-append (next I W e) es fs

  pub acks-append : (W : World) (es fs : List Event) → acknowledges_any I W (es ++ fs) ≡ (acknowledges_any I W es || acknowledges_any I (after I W es) fs)
  acks-append W [] fs = refl
  acks-append W (e ∷ es) fs = ap (λ b. acknowledges I W e || b) (acks-append (next I W e) es fs) ∙ sym (or_assoc (acknowledges I W e) _ _)

  pub none_acked : (W : World) (es fs : List Event) → acknowledges_any I W es ≡ false → acknowledges_any I (after I W es) fs ≡ false
      → acknowledges_any I W (es ++ fs) ≡ false
  none_acked W es fs p q = acks-append W es fs ∙ or_false _ _ p q
