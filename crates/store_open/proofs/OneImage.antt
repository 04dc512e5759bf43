-- Files that are alike make one image.
use Rattle.std.proofs.Common.{◌≡◌, ℕ, List, [], ◌∷◌, map, Option, Some, None, is_some, Result, Ok, refl, sym, ◌∙◌, ap, subst}
use Rattle.std.specs.Prelude.{IsTrue, option_and_then}
use Rattle.std.proofs.Math.Bool.{Bool-set}
use Rattle.std.specs.FinMap.{FinMap, get, entries, same_map, same_entries_map}
use Rattle.outside.specs.Names.{Names, path_cmp}
use Rattle.outside.specs.Order.{path_total}
use Rattle.outside.proofs.Trees.{path_same}
use Rattle.settings_tree.specs.Content.{Contents}
use Rattle.typed_settings.specs.Order.{IsTable}
use Rattle.model_file.specs.Model.{Spells, AreSame}
use Rattle.model_file.specs.declared.model.Model.{Model}
use Rattle.model_file.proofs.OneModel.{one_model}
use Rattle.key_names.specs.Order.{bytes_cmp, key_cmp}
use Rattle.metadata_links.specs.Linked.{have_words, have_rows}
use Rattle.metadata_links.specs.declared.service.Service.{Service}
use Rattle.metadata_links.specs.Manifest.{IsManifestOf}
use Rattle.metadata_links.specs.declared.file_row.FileRow.{FileRow}
use Rattle.metadata_links.specs.declared.manifest.Manifest.{Manifest}
use Rattle.template_reader.specs.Kept.{source_of}
use Rattle.template_reader.specs.declared.templates.Templates.{Templates}
use Rattle.store_image.specs.Paths.{Sources}
use Rattle.store_image.specs.Text.{image_text}
use Rattle.store_image.specs.Image.{IsTemplate, IsImageOf}

some_one : {A : Type 0} (a b : A) → Some a ≡ Some b → a ≡ b
some_one a b e = cc e

-- ---- one manifest of a content

ok_one : {X E : Type 0} (a b : X) → ◌≡◌ {A = Result X E} (Ok a) (Ok b) → a ≡ b
ok_one a b e = cc e

module _ {K X E : Type 0} where
  abbrev seen : List (K × X) → List (K × Result X E)
  seen es = map (λ e. (e.0, Ok e.1)) es

  heads : (a b : K × Result X E) (us bs : List (K × Result X E)) → a ∷ us ≡ b ∷ bs → a ≡ b
  heads a b us bs e = cc e

  tails : (a b : K × Result X E) (us bs : List (K × Result X E)) → a ∷ us ≡ b ∷ bs → us ≡ bs
  tails a b us bs e = cc e

  -- entries that are the same with each value marked are the same
  seen_same : (es fs : List (K × X)) → seen es ≡ seen fs → es ≡ fs
  seen_same [] [] e = refl
  seen_same [] (f ∷ fs) e = absurd (cc e)
  seen_same (e ∷ es) [] same = absurd (cc same)
  seen_same (e ∷ es) (f ∷ fs) same =
      let head : ◌≡◌ {A = K × Result X E} (e.0, Ok e.1) (f.0, Ok f.1) = heads (e.0, Ok e.1) (f.0, Ok f.1) (seen es) (seen fs) same in
      let name : e.0 ≡ f.0 = ap (λ (p : K × Result X E). p.0) head in
      let row : e.1 ≡ f.1 = ok_one {E = E} e.1 f.1 (ap (λ (p : K × Result X E). p.1) head) in
      let rest : es ≡ fs = seen_same es fs (tails (e.0, Ok e.1) (f.0, Ok f.1) (seen es) (seen fs) same) in
      λ i. (name i, row i) ∷ rest i

abbrev Parts : Type 0
Parts = FinMap bytes_cmp Service × FinMap bytes_cmp FileRow × FinMap key_cmp (List (List ℕ))

abbrev Facts : Parts → Type 0
Facts p = IsTrue (have_words p.0) × IsTrue (have_rows p.1 p.0)

abbrev with_facts : (p : Parts) → Facts p → Manifest
with_facts p facts = record { services = p.0; files = p.1; index = p.2; worded = facts.0; filed = facts.1 }

-- manifests with the same parts are the same
same_parts : (p q : Parts) → p ≡ q → (one : Facts p) (other : Facts q) → with_facts p one ≡ with_facts q other
same_parts p q same one = subst (λ (r : Parts). (other : Facts r) → with_facts p one ≡ with_facts r other) same
    (λ other i. with_facts p (Bool-set _ _ one.0 other.0 i, Bool-set _ _ one.1 other.1 i))

one_manifest : (content : Contents) (m n : Manifest) → IsManifestOf content m → IsManifestOf content n → m ≡ n
one_manifest content m n is also =
    same_parts (m.services, m.files, m.index) (n.services, n.files, n.index) (λ i. (services i, files i, index i)) (m.worded, m.filed) (n.worded, n.filed) where
      services : m.services ≡ n.services
      services = same_entries_map m.services n.services (is.services ∙ sym also.services)

      files : m.files ≡ n.files
      files = same_entries_map m.files n.files (seen_same (entries m.files) (entries n.files) (is.files ∙ sym also.files))

      index : m.index ≡ n.index
      index = same_entries_map m.index n.index (seen_same (entries m.index) (entries n.index) (is.index ∙ sym also.index))

-- ---- one image of the files

module _ (files other : Sources) (alike : (name : List ℕ) (rest : Names) → files (name ∷ rest) ≡ other (name ∷ rest)) (k l : Model) (m n : Manifest)
    (s t : Templates) (a b : List ℕ)
    (one : IsImageOf files k m s a) (two : IsImageOf other l n t b) (table : IsTable k.types) (table' : IsTable l.types) where
  texts : one.text ≡ two.text
  texts = some_one one.text two.text (sym one.model_there ∙ alike _ _ ∙ two.model_there)

  pub models_same : AreSame k l
  models_same = one_model two.text k l table table' (subst (λ (x : List ℕ). Spells x k) texts one.made.spelled) two.made.spelled

  pub manifests_same : m ≡ n
  manifests_same = one_manifest l.content m n (subst (λ (c : Contents). IsManifestOf c m) models_same.content one.made.linked) two.made.linked

  template_there : (path : Names) → IsTemplate m path → IsTemplate n path
  template_there path is = subst (λ (x : Manifest). IsTemplate x path) manifests_same is

  template_back : (path : Names) → IsTemplate n path → IsTemplate m path
  template_back path is = subst (λ (x : Manifest). IsTemplate x path) (sym manifests_same) is

  source_at : (path : Names) (p q : Option (List ℕ)) → get one.sources path ≡ p → get two.sources path ≡ q → p ≡ q
  source_at path None None is too = refl
  source_at path (Some x) None is too =
      absurd (cc (sym (ap is_some too) ∙ two.made.read.each path (template_there path (one.made.read.only path (ap is_some is)))))
  source_at path None (Some y) is too =
      absurd (cc (sym (ap is_some is) ∙ one.made.read.each path (template_back path (two.made.read.only path (ap is_some too)))))
  source_at path (Some x) (Some y) is too = sym (one.sources_there path x is) ∙ alike _ _ ∙ two.sources_there path y too

  sources_same : one.sources ≡ two.sources
  sources_same = same_map path_total path_same one.sources two.sources (λ q. source_at q (get one.sources q) (get two.sources q) refl refl)

  pub texts_same : a ≡ b
  texts_same = one.made.told ∙ ap (λ (x : List ℕ). image_text x one.sources) texts ∙ ap (image_text two.text) sources_same ∙ sym two.made.told

  pub templates_same : (file : List ℕ) → source_of s file ≡ source_of t file
  templates_same file = one.made.kept.kept file
      ∙ ap (λ (x : FinMap path_cmp (List ℕ)). option_and_then (λ (row : FileRow). get x row.template) (get m.files file)) sources_same
      ∙ ap (λ (x : Manifest). option_and_then (λ (row : FileRow). get two.sources row.template) (get x.files file)) manifests_same
      ∙ sym (two.made.kept.kept file)

-- Files that are alike make the same image.
pub image_alike : (files other : Sources) → ((name : List ℕ) (rest : Names) → files (name ∷ rest) ≡ other (name ∷ rest))
    → (k : Model) (m : Manifest) (s : Templates) (a : List ℕ) → IsImageOf other k m s a → IsImageOf files k m s a
image_alike files other alike k m s a is = record {
  text = is.text;
  sources = is.sources;
  model_there = alike _ _ ∙ is.model_there;
  sources_there = λ path source e. alike _ _ ∙ is.sources_there path source e;
  made = is.made;
}
