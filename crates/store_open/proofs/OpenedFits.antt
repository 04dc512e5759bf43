-- The opening step by the image that was read: it is the machine's, and what is open fits the image.
use Rattle.std.proofs.Common.{arith, ◌≡◌, ℕ, List, [], ◌∷◌, length, None, Bool, true, false, cond, not, refl, sym, ◌∙◌, ap, subst}
use Rattle.std.specs.FinMap.{get}
use Rattle.model_file.specs.Model.{AreTyped}
use Rattle.settings_tree.specs.Laid.{laid}
use Rattle.settings_tree.specs.declared.entry.Entry.{Entry}
use Rattle.settings_tree.specs.declared.held.Held.{Held}
use Rattle.store_image.specs.declared.image.Image.{Image}
use Rattle.settings_machine.specs.Opening.{is_of_store}
use Rattle.settings_machine.specs.Typed.{is_of_image, IsTypedHeld}
use Rattle.settings_machine.proofs.Openings.{opened_typed}
use Rattle.opening_step.specs.Step.{MakesStep}
use Rattle.opening_step.proofs.ValuesOpened.{or_else, filled_at}
use Rattle.store_open.specs.Step.{image_of, opened}
use Rattle.store_open.specs.Typed.{FitsImage}

-- The change makes the step of the image that was read.
pub change_opens : (boot : Bool) (i : Image) (h : Held) (change : List Entry) → MakesStep boot i.model.content i.text h change → laid h change ≡ opened boot i h
unfolding opened
change_opens boot i h change makes = makes.laid_is (image_of i) refl refl

no_entries : (es : List Entry) → length es ≡ 0 → es ≡ []
no_entries [] none = refl
no_entries (e ∷ es) none = absurd (omega arith)

-- Where the change has no entry, the step leaves what is held.
pub empty_opens : (boot : Bool) (i : Image) (h : Held) (change : List Entry) → length change ≡ 0 → MakesStep boot i.model.content i.text h change
    → h ≡ opened boot i h
empty_opens boot i h change none makes = ap (laid h) (sym (no_entries change none)) ∙ change_opens boot i h change makes

-- What is held after the step fits the image.
pub opened_fits : (i : Image) (h : Held) (boot : Bool) (now : Held) → AreTyped i.model.types i.model.content.values → IsTypedHeld i.model.types h
    → now ≡ opened boot i h → FitsImage i.model.types i.model.content i.text now
unfolding opened or_else
opened_fits i h boot now typed fit is = subst (FitsImage i.model.types i.model.content i.text) (sym is) (record {
  typed = opened_typed (image_of i) h boot (record { typed = λ q v there other. typed q v there }) fit;
  values = λ q mine. filled_at i.model.content.values h.live.values q ∙ of_image q mine;
  metadata = refl;
  text = refl;
})
  where
    of_image : (q : List (List ℕ)) → is_of_image q ≡ true → or_else (cond (is_of_store q) (get h.live.values q) None) (get i.model.content.values q) ≡ get
        i.model.content.values q
    of_image q mine = by (is_of_store q) (ap not mine) where
      by : (s : Bool) → s ≡ false → or_else (cond s (get h.live.values q) None) (get i.model.content.values q) ≡ get i.model.content.values q
      by false e = refl
      by true e = absurd (cc e)
