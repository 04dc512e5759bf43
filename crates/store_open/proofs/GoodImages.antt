-- Each crash state that can be read is a good image of the machine.
use Rattle.std.proofs.Common.{◌≡◌, inl, inr, ℕ, List, [], ◌∷◌, Bool, true, false, cond, map, Some, None, Option, Ok, IsSome, refl, sym, ◌∙◌, ap, subst}
use Rattle.std.specs.Prelude.{option_and_then}
use Rattle.std.specs.Option.{option_map}
use Rattle.std.specs.FinMap.{FinMap, find, get, entries, from_entries, get-entries, get-from_entries}
use Rattle.std.specs.Ordering.{eq_by_cmp}
use Rattle.outside.specs.Names.{path_cmp}
use Rattle.key_names.specs.Order.{bytes_cmp, bytes_total, key_cmp-IsAntisymmetric}
use Rattle.json_trees.specs.declared.scalar.Scalar.{Scalar}
use Rattle.metadata_links.specs.Lists.{affected_services, lists_at, IsIndexOf}
use Rattle.metadata_links.specs.declared.file_row.FileRow.{FileRow}
use Rattle.metadata_links.specs.declared.manifest.Manifest.{Manifest}
use Rattle.template_reader.specs.Parses.{Parses}
use Rattle.template_reader.specs.declared.templates.Templates.{Templates}
use Rattle.template_reader.proofs.Total.{source-parses}
use Rattle.store_image.specs.Image.{AreSources, KeepsSources}
use Rattle.settings_machine.specs.World.{Key, Among, Source, Image, no_source}
use Rattle.settings_machine.specs.Seen.{HoldsTemplates, Holds}
use Rattle.settings_machine.specs.Paid.{IsGood}
use Rattle.settings_machine.proofs.Elements.{among_map, flat_among, key_itself, entry_among, entry_stands}
use Rattle.store_open.specs.Laws.{ImagesAreGood}
use Rattle.store_open.proofs.GoodModels.{values_typed, metadata_of_settings}

-- ---- the lists of services

-- A key that has a list has metadata.
listed_metadata : (metadata : _) (index : _) → IsIndexOf metadata index → (key : Key) → IsSome (get index key) → IsSome (get metadata key)
listed_metadata metadata index of key some = by (get index key) refl some where
  by : (o : Option (List (List ℕ))) → get index key ≡ o → IsSome o → IsSome (get metadata key)
  by None is none = absurd (cc none)
  by (Some list) is there =
      let at = subst (λ (l : List _). Among l (key, Ok list)) of (among_map (λ e. (e.0, Ok e.1)) (entries index) (key, list)
      (entry_among key_cmp-IsAntisymmetric index key list is)) in
      let t = flat_among (λ e. lists_at e.0 (get e.1 affected_services)) (entries metadata) (key, Ok list) at in
      let here : key ≡ t.0.0 = head t.0.0 (get t.0.1 affected_services) t.2 in
      subst (λ (k : Key). IsSome (get metadata k)) (sym here)
      (subst IsSome (sym (entry_stands key_cmp-IsAntisymmetric metadata t.0.0 t.0.1 (key_itself t.0.0) t.1)) refl)
    where
      head : (k : Key) (o : Option Scalar) → Among (lists_at k o) (key, Ok list) → key ≡ k
      head k None none = absurd none
      head k (Some value) (inl same) = ap (λ p. p.0) same
      head k (Some value) (inr none) = absurd none

-- ---- the templates

module _ (manifest : Manifest) (sources : FinMap path_cmp (List ℕ)) (read : AreSources manifest sources) where
  source_at : (row : FileRow) (o : Option (List ℕ)) → get sources row.template ≡ o → Source
  source_at row None is = no_source
  source_at row (Some source) is = record { text = source; tree = (source-parses source (read.faultless row.template source is)).0 }

  text_at : (row : FileRow) (o : Option (List ℕ)) (is : get sources row.template ≡ o) → IsSome o → o ≡ Some (source_at row o is).text
  unfolding source_at
  text_at row None is none = absurd (cc none)
  text_at row (Some source) is there = refl

  parses_at : (row : FileRow) (o : Option (List ℕ)) (is : get sources row.template ≡ o) → IsSome o → Parses (source_at row o is).text (source_at row o is).tree
  unfolding source_at
  parses_at row None is none = absurd (cc none)
  parses_at row (Some source) is there = (source-parses source (read.faultless row.template source is)).1

  abbrev source_for : FileRow → Source
  source_for row = source_at row (get sources row.template) refl

  abbrev sources_by : List (List ℕ × FileRow) → List (List ℕ × Source)
  sources_by es = map (λ e. (e.0, source_for e.1)) es

  abbrev templates_are : FinMap bytes_cmp Source
  templates_are = from_entries (sources_by (entries manifest.files))

  found_by : (es : List (List ℕ × FileRow)) (q : List ℕ) → find bytes_cmp q (sources_by es) ≡ option_map source_for (find bytes_cmp q es)
  found_by [] q = refl
  found_by (e ∷ es) q = by (found_by es q) (eq_by_cmp bytes_cmp q e.0) where
    by : find bytes_cmp q (sources_by es) ≡ option_map source_for (find bytes_cmp q es) → (b : Bool)
        → cond b (Some (source_for e.1)) (find bytes_cmp q (sources_by es)) ≡ option_map source_for (cond b (Some e.1) (find bytes_cmp q es))
    by rest true = refl
    by rest false = rest

  template_is : (f : List ℕ) → get templates_are f ≡ option_map source_for (get manifest.files f)
  template_is f = get-from_entries bytes_total (sources_by (entries manifest.files)) f ∙ found_by (entries manifest.files) f
      ∙ ap (option_map source_for) (sym (get-entries manifest.files f))

  there : (f : List ℕ) (row : FileRow) → get manifest.files f ≡ Some row → IsSome (get sources row.template)
  there f row is = read.each row.template (record { file = f; row = row; there = is; path_is = refl })

  -- They are those of an image, whose other parts don't matter.
  templates_held : (I : Image) (templates : Templates) → I.templates ≡ templates_are → KeepsSources manifest sources templates → HoldsTemplates I templates
  templates_held I templates same keeps = record {
    sources = λ f. keeps.kept f ∙ text_of f (get manifest.files f) refl
        ∙ ap (option_map (λ s. s.text)) (sym (template_is f) ∙ ap (λ (m : FinMap bytes_cmp Source). get m f) (sym same));
    trees = λ f s is. tree_of f s (get manifest.files f) refl (sym (template_is f) ∙ ap (λ (m : FinMap bytes_cmp Source). get m f) (sym same) ∙ is);
  } where
    text_of : (f : List ℕ) (o : Option FileRow) → get manifest.files f ≡ o → option_and_then (λ row. get sources row.template) o ≡ option_map (λ s. s.text)
        (option_map source_for o)
    text_of f None is = refl
    text_of f (Some row) is = text_at row (get sources row.template) refl (there f row is)

    tree_of : (f : List ℕ) (s : Source) (o : Option FileRow) → get manifest.files f ≡ o → option_map source_for o ≡ Some s → Parses s.text s.tree
    tree_of f s None is made = absurd (cc made)
    tree_of f s (Some row) is made = let same : source_for row ≡ s = cc made in
        subst (λ (t : Source). Parses t.text t.tree) same (parses_at row (get sources row.template) refl (there f row is))

-- ---- images

pub images_are_good : ImagesAreGood
images_are_good folder model manifest templates text table made = (
  image,
  good,
  record {
    model = model;
    manifest = manifest;
    templates = templates;
    made = made;
    holds = holds;
  },
  holds,
) where
  image : Image
  image = record {
    types = model.types;
    os = model.os;
    defaults = model.content;
    manifest = manifest;
    templates = templates_are manifest made.sources made.made.read;
    text = text;
  }

  holds : Holds image model.types model.os model.content manifest templates text
  holds = record {
    types_are = refl;
    os_is = refl;
    defaults_are = refl;
    manifest_is = refl;
    templates_are = templates_held manifest made.sources made.made.read image templates refl made.made.kept;
    text_is = refl;
  }

  good : IsGood image
  good = record {
    table = table;
    manifest = made.made.linked;
    defaults = record { typed = λ key value is not_image. values_typed made.text model made.made.spelled key value is };
    listed = λ key some. metadata_of_settings made.text model made.made.spelled key
        (listed_metadata model.content.metadata manifest.index made.made.linked.index key some);
  }
