-- What the program renders is what the machine renders.
use Rattle.std.proofs.Common.{◌≡◌, ℕ, List, [], Option, Some, None, Ok, refl, sym, ◌∙◌, ap, subst}
use Rattle.std.specs.Prelude.{unwrap_or}
use Rattle.std.specs.Option.{option_map}
use Rattle.std.specs.FinMap.{get}
use Rattle.settings_tree.specs.Content.{Contents}
use Rattle.settings_tree.specs.declared.os.OsName.{OsName}
use Rattle.template_reader.specs.Parses.{Parses}
use Rattle.template_reader.specs.Kept as kept
use Rattle.template_reader.specs.Tree.{Tree}
use Rattle.template_reader.specs.declared.templates.Templates.{Templates}
use Rattle.template_reader.proofs.Sources.{one_parse}
use Rattle.template_eval.specs.Render.{render}
use Rattle.settings_machine.specs.World.{Image, Source, no_source, source_of, rendered}
use Rattle.settings_machine.specs.Seen.{HoldsTemplates}

-- A file's kept source and the tree that it is are those of the image, so what the program renders is what the machine does.
pub rendered_is : (I : Image) (templates : Templates) → HoldsTemplates I templates → (os : List OsName) → os ≡ I.os → (f source : List ℕ) (t : Tree)
    → kept.source_of templates f ≡ Some source → Parses source t
    → (live : Contents) → render live os source t None ≡ rendered I f live
unfolding rendered
rendered_is I templates holds os same f source t is parses live = by (get I.templates f) refl (sym is ∙ holds.sources f) where
  by : (o : Option Source) → get I.templates f ≡ o → Some source ≡ option_map (λ s. s.text) o
      → render live os source t None ≡ render live I.os (source_of I f).text (source_of I f).tree None
  by None at e = absurd (cc e)
  by (Some s) at e =
      let text_is : source ≡ s.text = cc in
      let tree_is : t ≡ s.tree = one_parse s.text t s.tree (subst (λ (x : List ℕ). Parses x t) text_is parses) (holds.trees f s at) in
      let source_is : source_of I f ≡ s = ap (λ (o : Option Source). unwrap_or o no_source) at in
      ap (λ (o : List OsName). render live o source t None) same
      ∙ ap (λ (x : List ℕ). render live I.os x t None) (text_is ∙ ap (λ (x : Source). x.text) (sym source_is))
      ∙ ap (λ (x : Tree). render live I.os (source_of I f).text x None) (tree_is ∙ ap (λ (x : Source). x.tree) (sym source_is))

-- A file without a template renders to nothing.
pub nothing_is : (I : Image) (templates : Templates) → HoldsTemplates I templates → (f : List ℕ) → kept.source_of templates f ≡ None → (live : Contents)
    → rendered I f live ≡ Ok []
unfolding rendered
nothing_is I templates holds f none live = by (get I.templates f) refl (sym none ∙ holds.sources f) where
  by : (o : Option Source) → get I.templates f ≡ o → None ≡ option_map (λ s. s.text) o → render live I.os (source_of I f).text (source_of I f).tree None ≡ Ok []
  by None at e = ap (λ (o : Option Source). render live I.os (unwrap_or o no_source).text (unwrap_or o no_source).tree None) at
  by (Some s) at e = absurd (cc e)
