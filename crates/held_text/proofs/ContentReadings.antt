-- How a content is read of its parts.
use Rattle.std.proofs.Common.{◌≡◌, ℕ, List, [], Result, Ok, Err, sym, ap, ◌∙◌, subst}
use Rattle.std.specs.Prelude.{All, IsErrAnd}
use Rattle.std.specs.FinMap.{FinMap, empty}
use Rattle.serde_json.specs.Data.{Data}
use Rattle.key_names.specs.Order.{bytes_cmp, key_cmp}
use Rattle.json_trees.specs.Scalar.{scalar_data}
use Rattle.json_trees.specs.Tree.{scalar_leaf}
use Rattle.json_trees.specs.declared.scalar.Scalar.{Scalar}
use Rattle.settings_tree.specs.Content.{Contents, IsContent, IsNamed, MayBeWeak, no_content}
use Rattle.std.proofs.lemmas.List.Elements.{All-nil}
use Rattle.settings_maps.specs.Maps.{IsFull}
use Rattle.settings_tree.specs.Rule.{IsPrefixFree}
use Rattle.settings_tree.proofs.Contents.{no_rules}
use Rattle.held_text.specs.HeldText.{keys_data, map_data, metadata_data}
use Rattle.held_text.specs.HeldRules.{IsLive, IsMap, IsMetadata, PutsRows, PutsOthers, Reads, ReadsContent}
use Rattle.settings_tree.specs.Owed.{IsKeyList}
use Rattle.held_text.specs.declared.held_error.HeldError.{HeldError}
use Rattle.held_text.specs.declared.held_error.HeldError.TheVariants.{BadHeld, Memory}

-- Values that keep the prefix rule are a content.
pub values_rules : (v : FinMap key_cmp Scalar) (m : FinMap key_cmp (FinMap bytes_cmp Scalar)) (w : List (List (List ℕ))) → IsPrefixFree v → m ≡ empty → w ≡ []
    → IsContent (record { values = v; metadata = m; weak = w })
values_rules v m w free none bare = record {
  rule = free;
  full = subst (λ (n : FinMap key_cmp (FinMap bytes_cmp Scalar)). IsFull n) (sym none) no_rules.full;
  named = subst IsNamed (sym none) no_rules.named;
  weak = subst (λ (l : List (List (List ℕ))). All (MayBeWeak v) l) (sym bare) (All-nil (MayBeWeak v));
}

-- An error is right where no content of these values leaves another one than out of memory.
pub err_content : (values metadata weak : Data) (Q : HeldError → Type 0) (r : Result Contents HeldError) → IsErrAnd r Q
    → ((c : Contents) → IsLive c → values ≡ map_data scalar_data c.values → metadata ≡ metadata_data c.metadata → weak ≡ keys_data c.weak → (e : HeldError)
    → Q e → e ≡ Memory) → ReadsContent values metadata weak r
err_content values metadata weak Q (Ok c) none memory = absurd none
err_content values metadata weak Q (Err e) gives memory = record { finds = λ c live v m w. memory c live v m w e gives }

-- The values of a content keep the rules of a map.
pub live_map : (c : Contents) → IsLive c → IsMap scalar_leaf scalar_data c.values
live_map c live = record { free = live.rules.rule; pairs = live.values }

-- Its metadata keeps the rules of metadata.
pub live_metadata : (c : Contents) → IsLive c → IsMetadata c.metadata
live_metadata c live = record { full = live.rules.full; named = live.rules.named; valid = live.metadata }

-- An error is right where no content whose values these are leaves another one than out of memory.
pub err_others : (metadata weak : Data) (old new : Contents) (Q : HeldError → Type 0) (r : Result (Unit {0}) HeldError) → IsErrAnd r Q
    → ((c : Contents) → IsLive c → old ≡ record no_content { values = c.values } → metadata ≡ metadata_data c.metadata → weak ≡ keys_data c.weak
    → (e : HeldError) → Q e → e ≡ Memory) → PutsOthers metadata weak old new r
err_others metadata weak old new Q (Ok u) none memory = absurd none
err_others metadata weak old new Q (Err e) gives memory = record { puts = λ c live begun m w. memory c live begun m w e gives }

-- The metadata and the weak keys, put one after the other.
module _ (m w : Data) (first second : Contents) (keys : List (List (List ℕ))) (puts : PutsRows m first second (Ok tt))
    (listed : Reads IsKeyList keys_data w (Ok keys)) where
  -- The metadata makes the content without its weak keys.
  two_parts : (c : Contents) → IsLive c → first ≡ record no_content { values = c.values } → m ≡ metadata_data c.metadata → second ≡ record c { weak = [] }
  two_parts c live begun is_m = puts.puts c.metadata (live_metadata c live) (ap (λ (x : Contents). x.metadata) begun) is_m
      ∙ ap (λ (x : Contents). record x { metadata = c.metadata }) begun

  -- The weak keys make it whole.
  pub others_put : (last : Contents) → last ≡ record second { weak = keys } → PutsOthers m w first last (Ok tt)
  others_put last made = record {
    puts = λ c live begun is_m is_w.
        made ∙ ap (λ (x : Contents). record x { weak = keys }) (two_parts c live begun is_m)
        ∙ ap (λ (x : List (List (List ℕ))). record c { weak = x }) (listed.finds c.weak live.weak is_w);
  }

  -- Where a key may not be weak there is no such content.
  pub others_strong : (last : Contents) → (All (MayBeWeak second.values) keys → ⊥) → PutsOthers m w first last (Err BadHeld)
  others_strong last strong = record {
    puts = λ c live begun is_m is_w.
        absurd (strong (subst (λ (x : List (List (List ℕ))). All (MayBeWeak second.values) x) (sym (listed.finds c.weak live.weak is_w))
        (subst (λ (x : FinMap key_cmp Scalar). All (MayBeWeak x) c.weak) (sym (ap (λ (x : Contents). x.values) (two_parts c live begun is_m)))
        live.rules.weak)));
  }

-- The values that were read begin a content.
pub begun_values : (v : Data) (map : FinMap key_cmp Scalar) (first : Contents) → first ≡ record no_content { values = map }
    → Reads (IsMap scalar_leaf scalar_data) (map_data scalar_data) v (Ok map)
    → (c : Contents) → IsLive c → v ≡ map_data scalar_data c.values → first ≡ record no_content { values = c.values }
begun_values v map first begun reads c live is_v = begun ∙ ap (λ (x : FinMap key_cmp Scalar). record no_content { values = x })
    (reads.finds c.values (live_map c live) is_v)
