-- What a change leaves: a covered file stays as its template renders, or it is rendered again.
use Rattle.std.proofs.Common.{◌≡◌, ◌⊎◌, ℕ, List, [], ◌++◌, Option, Some, None, is_some, true, unwrap_or, refl, sym, ◌∙◌, subst, inl, inr}
use Rattle.std.specs.Prelude.{Contains}
use Rattle.std.specs.FinMap.{get, keys, contains_key-keys}
use Rattle.std.proofs.lemmas.List.Elements.{Contains-append_left}
use Rattle.settings_tree.specs.Content.{Contents}
use Rattle.settings_tree.specs.declared.entry.Owed.{Owed}
use Rattle.settings_tree.specs.declared.entry.Owed.TheVariants.{All, Keys}
use Rattle.settings_tree.specs.declared.os.OsName.{OsName}
use Rattle.metadata_links.specs.Links.{files_of, service_named, listed, no_service}
use Rattle.metadata_links.specs.declared.manifest.Manifest.{Manifest}
use Rattle.metadata_links.specs.declared.service.Service.{Service}
use Rattle.template_reader.specs.Tree.{Tree}
use Rattle.template_eval.specs.Place.{Path}
use Rattle.template_eval.specs.Rendered.{Rendered}
use Rattle.template_eval.specs.Render.{render}
use Rattle.typed_settings.specs.declared.row.Row.{Row}
use Rattle.depend_check.specs.Coverage.{IsCovered}
use Rattle.depend_check.specs.Nodes.{RenderAlike}
use Rattle.depend_check.specs.Owing.{OwesMore, DifferWithin}
use Rattle.depend_check.proofs.Members.{no_member, in_flat}
use Rattle.depend_check.proofs.Affected.{rendered_key, rendered_more, rendered_all, in_fold, member_had}
use Rattle.depend_check.proofs.Laws.{changes_seen}

-- ---- more owed

-- A service that lists a file is one of the manifest.
listing_known : (m : Manifest) (file service : List ℕ) → Contains (service_named m service).files file → Contains (keys m.services) service
listing_known m file service lists = member_had (keys m.services) service (sym (contains_key-keys m.services service) ∙ by (get m.services service) lists) where
  by : (o : Option Service) → Contains (unwrap_or o no_service).files file → is_some o ≡ true
  by None lists = absurd (no_member file lists)
  by (Some s) lists = refl

-- More owed renders no file less.
pub files_more : (m : Manifest) (file : List ℕ) (owed more : Owed) → OwesMore owed more → Contains (files_of m owed) file → Contains (files_of m more) file
files_more m file All All within among = among
files_more m file All (Keys more) within among = absurd within
files_more m file (Keys owed) All within among =
    let r = rendered_key m file owed among in
    in_fold [] (listed m (keys m.services) ++ keys m.files) file (Contains-append_left (listed m (keys m.services)) (keys m.files) file
    (in_flat (λ name. (service_named m name).files) (keys m.services) r.service file (listing_known m file r.service r.lists) r.lists))
files_more m file (Keys owed) (Keys more) within among = rendered_more m file owed more within among

-- ---- what a change leaves

module _ (m : Manifest) (table : List Row) (t : Tree) (file : List ℕ) (c : IsCovered m table t file) where
  -- A covered file renders alike before and after a change, or it is rendered again for what is owed after it.
  pub alike_or_rendered : (owed : Owed) (one other : Contents) → DifferWithin owed one other → RenderAlike t one other ⊎ Contains (files_of m owed) file
  alike_or_rendered All one other differ = inr (rendered_all m file c.listed.service c.listed.lists)
  alike_or_rendered (Keys owed) one other differ = changes_seen m table t file c owed one other (record { same = differ.same })

  -- What is so of the render before the change, unless the file was to be rendered again, is so of the render after it, unless it is.
  pub stays : (P : Rendered → Type 0) (owed more : Owed) (one other : Contents) (os : List OsName) (source : List ℕ) → OwesMore owed more
      → DifferWithin more one other
      → P (render one os source t None) ⊎ Contains (files_of m owed) file → P (render other os source t None) ⊎ Contains (files_of m more) file
  stays P owed more one other os source within differ (inr among) = inr (files_more m file owed more within among)
  stays P owed more one other os source within differ (inl holds) = by (alike_or_rendered more one other differ) where
    by : RenderAlike t one other ⊎ Contains (files_of m more) file → P (render other os source t None) ⊎ Contains (files_of m more) file
    by (inl alike) = inl (subst P (alike.same os source) holds)
    by (inr among) = inr among
