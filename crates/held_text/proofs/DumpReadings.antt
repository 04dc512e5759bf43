-- What `read_dump` answers where the text spells a dump.
use Rattle.std.proofs.Common.{◌≡◌, ◌≢◌, ◌≤◌, ℕ, List, Bool, true, false, if◌then◌else◌, Option, Some, None, Result, Ok, Err, sym, ap, ◌∙◌, arith}
use Rattle.std.specs.Prelude.{IfErr, IsErrAnd}
use Rattle.std.specs.Str.{is_utf8}
use Rattle.serde_json.proofs.Nesting.{depth-read}
use Rattle.serde_json.specs.Data.{Data, string, depth}
use Rattle.serde_json.specs.Read.{read, max_depth}
use Rattle.serde_json.specs.Written.{compact_text, has_float}
use Rattle.json_trees.specs.Json.{data_of}
use Rattle.settings_tree.specs.declared.held.Held.{Held}
use Rattle.version_links.specs.Versions.{Fits, version_text, version_of}
use Rattle.version_links.specs.declared.version.Version.{Version}
use Rattle.held_text.specs.HeldText.{held_text, held_data}
use Rattle.held_text.specs.HeldRules.{IsHeld, IsRead}
use Rattle.held_text.specs.Dump.{version_data, parts_data, SpellsDump, SpellsParts, IsNoDump}
use Rattle.held_text.specs.declared.held_error.HeldError.{HeldError}
use Rattle.held_text.specs.declared.held_error.HeldError.TheVariants as held_error
use Rattle.held_text.specs.declared.dump.Dump.{Dump}
use Rattle.held_text.specs.declared.dump_error.DumpError.{DumpError}
use Rattle.held_text.specs.declared.dump_error.DumpError.TheVariants.{NotJson, BadHeld, BadVersion, Memory}
use Rattle.held_text.proofs.HeldBack.{held_back, readable_held}
use Rattle.held_text.proofs.NoFractions.{no_fraction}
use Rattle.held_text.proofs.Readings.{some_same}
use Rattle.held_text.proofs.VersionsBack.{version_back, version_is}

-- JSON in bytes is JSON.
read_of : (b : Bool) (found : Option Data) (d : Data) → (if b then found else None) ≡ Some d → found ≡ Some d
read_of true found d is = is
read_of false found d is = cc is

text_read : (text : List ℕ) (d : Data) → data_of text ≡ Some d → read text ≡ Some d
text_read text d is = read_of (is_utf8 text) (read text) d is

-- ---- what is held

-- A value whose text is the print of what is held is that of the held text.
pub held_value : (d : Data) (text : List ℕ) (h : Held) → (depth d ≤ max_depth → read text ≡ Some d) → IsHeld h → held_text h ≡ text → depth d ≤ max_depth
    → d ≡ held_data h
held_value d text h back is prints shallow =
    some_same d (held_data h) (sym (back shallow) ∙ ap read (sym prints) ∙ text_read (held_text h) (held_data h) (held_back h is))

-- And the text of this value is the print.
pub held_prints : (d : Data) (text : List ℕ) (h : Held) → (has_float d ≡ false → text ≡ compact_text d) → IsHeld h → d ≡ held_data h → held_text h ≡ text
held_prints d text h compact is same =
    sym (compact (ap has_float same ∙ no_fraction (held_data h) (readable_held h is).numbers) ∙ ap compact_text same)

-- A refusal says that the value is that of no held text.
pub none_held : (d : Data) (r : Result Held HeldError) → ((h : Held) → IsHeld h → d ≡ held_data h → IsRead r h)
    → IfErr r (λ e. e ≡ held_error.BadHeld → (h : Held) → IsHeld h → d ≢ held_data h)
none_held d (Ok held) exact = tt
none_held d (Err e) exact = λ bad h is same. let memory : e ≡ held_error.Memory = exact h is same in cc (bad, memory)

-- ---- the version

-- The same text has the same bytes.
texts : (s t : List ℕ) → Some (string s) ≡ Some (string t) → s ≡ t
texts s t e = cc e

-- A text that is read as a version has its value.
pub version_told : (d : Option Data) (text : List ℕ) (v : Version) → d ≡ Some (string text) → version_of text ≡ Some v → d ≡ Some (version_data v)
version_told d text v is read = is ∙ ap (λ (t : List ℕ). Some (string t)) (sym (version_is text v read).0)

-- And the text of a version is read as this version.
version_found : (d : Option Data) (text : List ℕ) (v : Version) → d ≡ Some (string text) → Fits v → d ≡ Some (version_data v) → version_of text ≡ Some v
version_found d text v is fits told = ap version_of (texts text (version_text v) (sym is ∙ told)) ∙ version_back v fits

-- So what is read is this version.
pub version_same : (d : Option Data) (text : List ℕ) (found : Version) → d ≡ Some (string text) → version_of text ≡ Some found → (v : Version) → Fits v
    → d ≡ Some (version_data v) → found ≡ v
version_same d text found is read v fits told = some_same found v (sym read ∙ version_found d text v is fits told)

-- And where nothing is read it is the text of no version.
pub version_none : (d : Option Data) (text : List ℕ) (v : Version) → d ≡ Some (string text) → version_of text ≡ None → Fits v → d ≡ Some (version_data v) → ⊥
version_none d text v is none fits told = let found : version_of text ≡ Some v = version_found d text v is fits told in cc (none, found)

-- ---- the dump

-- A text with a member for what is held has the parts of a dump.
pub parts_told : (text : List ℕ) (d held : Data) (version : Option Data) (h : Held) → data_of text ≡ Some d → d ≡ parts_data held version
    → (depth held ≤ max_depth → held ≡ held_data h) → IsHeld h → SpellsParts text h version
parts_told text d held version h read has is valid =
    let deep : depth d ≤ max_depth = depth-read text d (text_read text d read) in
    let part : depth (parts_data held version) ≤ max_depth = rw has at deep in
    let same : held ≡ held_data h = is (omega (arith, part)) in
    record { valid = valid; value_is = read ∙ ap Some (has ∙ ap (λ (x : Data). parts_data x version) same) }

-- With a member for the version it spells the dump.
pub dump_told : (text : List ℕ) (version : Option Data) (v : Version) (h : Held) → SpellsParts text h version → version ≡ Some (version_data v) → Fits v
    → SpellsDump text v h
dump_told text version v h parts told fits =
    record { fits = fits; valid = parts.valid; value_is = parts.value_is ∙ ap (λ (x : Option Data). Some (parts_data (held_data h) x)) told }

-- A refusal of the version says that the text has none, where it has what is held.
pub no_version : (text : List ℕ) (h : Held) (version : Option Data) (found : DumpError) (r : Result Dump DumpError) → SpellsParts text h version
    → (found ≢ Memory → (found ≡ BadVersion) × ((v : Version) → Fits v → Some (version_data v) ≢ version)) → IsErrAnd r (λ e. e ≡ found)
    → IfErr r (λ e. IsNoDump e text)
no_version text h version found (Ok dump) parts refused gives = absurd gives
no_version text h version found (Err e) parts refused gives = by e gives where
  by : (e : DumpError) → e ≡ found → IsNoDump e text
  by NotJson is = absurd (let bad = refused (λ memory. cc (is, memory)) in cc (is, bad.0))
  by BadHeld is = absurd (let bad = refused (λ memory. cc (is, memory)) in cc (is, bad.0))
  by BadVersion is = (h, version, parts, (refused (λ memory. cc (is, memory))).1)
  by Memory is = tt
