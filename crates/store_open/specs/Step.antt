-- The opening step, as the machine makes it, by the image that was read.
use Rattle.std.specs.Prelude.{Bool}
use Rattle.std.specs.FinMap.{empty}
use Rattle.settings_tree.specs.declared.held.Held.{Held}
use Rattle.store_image.specs.declared.image.Image.{Image}
use Rattle.settings_machine.specs.World as machine
use Rattle.settings_machine.specs.Opening.{opened_held}
use Rattle.store_open.specs.World.{World}

-- The machine's image of what was read, but for its templates, for which no opening asks.
abbrev pub image_of : Image → machine.Image
image_of image = record {
  types = image.model.types;
  os = image.model.os;
  defaults = image.model.content;
  manifest = image.manifest;
  templates = empty;
  text = image.text;
}

-- What is held after the opening step.
unfoldable pub opened : Bool → Image → Held → Held
opened boot image held = opened_held (image_of image) held boot

-- The world after the opening step.
abbrev pub opened_world : Bool → Image → World → World
opened_world boot image world = record world { held = opened boot image world.held }
