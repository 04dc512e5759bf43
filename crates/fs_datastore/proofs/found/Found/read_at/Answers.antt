use Rattle.std.proofs.Common.{ap, refl, Some, Ok, true}
use Rattle.settings_tree.specs.Change.{Live, Meta, Pend, TheOwed, TheImage, TheWeak}
use Rattle.fs_datastore.specs.FoundFiles.{place_of}
use Rattle.fs_datastore.proofs.PlaceFiles.{reads_as}
use Rattle.fs_datastore.proofs.Readings.{image_rules, image_read}
use Rattle.fs_datastore.proofs.found.Found.read_at.Goals as goal

pub returns-in-Live : goal.returns-in-Live
returns-in-Live c = reads_as c.read_value.result (place_of c.args.place) (Live c.in-Live.key) c.args.bytes.items c.deref.result.now c.args.self.now
    c.read_value.new.self (ap place_of c.in-Live.is) c.deref.ensures.value c.read_value.ensures

pub returns-in-Meta : goal.returns-in-Meta
returns-in-Meta c = reads_as c.read_meta.result (place_of c.args.place) (Meta c.in-Meta.key c.in-Meta.name) c.args.bytes.items c.deref-in-Meta.result.now
    c.args.self.now c.read_meta.new.self (ap place_of c.in-Meta.is) c.deref-in-Meta.ensures.value c.read_meta.ensures

pub returns-in-Pending : goal.returns-in-Pending
returns-in-Pending c = reads_as c.read_pending.result (place_of c.args.place) (Pend c.in-Pending.tx c.in-Pending.key) c.args.bytes.items
    c.deref-in-Pending.result.now c.args.self.now c.read_pending.new.self (ap place_of c.in-Pending.is) c.deref-in-Pending.ensures.value c.read_pending.ensures

pub returns-in-Owed : goal.returns-in-Owed
returns-in-Owed c = reads_as c.read_owed.result (place_of c.args.place) TheOwed c.args.bytes.items c.deref-in-Owed.result.now c.args.self.now
    c.read_owed.new.self (ap place_of c.in-Owed.is) c.deref-in-Owed.ensures.value c.read_owed.ensures

pub returns-in-Weak : goal.returns-in-Weak
returns-in-Weak c = reads_as c.read_weak.result (place_of c.args.place) TheWeak c.args.bytes.items c.deref-in-Weak.result.now c.args.self.now
    c.read_weak.new.self (ap place_of c.in-Weak.is) c.deref-in-Weak.ensures.value c.read_weak.ensures

pub returns-in-Image : goal.returns-in-Image
returns-in-Image c =
    let f = c.args.self.now in
    let b = c.args.bytes.items in
    reads_as {E = Unit {0}} (Ok true) (place_of c.args.place) TheImage b b f (record f { image = Some c.of.result }) (ap place_of c.in-Image.is) refl
    (image_rules f c.of.result, λ others says. image_read f others b says c.of.result c.of.ensures)
