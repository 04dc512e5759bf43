-- What a content is.
use Rattle.std.specs.Prelude.{ℕ, List, [], ◌∷◌, IsSome, IsTrue, All, codes, refl}
use Rattle.std.specs.Coded.{Coded, code_by, coded×, coded_ℕ, coded_list}
use Rattle.std.specs.FinMap.{FinMap, get, empty, code}
use Rattle.key_names.specs.Order.{bytes_cmp, key_cmp}
use Rattle.key_names.specs.Key.{is_prefix}
use Rattle.json_trees.specs.declared.scalar.Scalar.{Scalar}
use Rattle.json_trees.specs.contracts.scalar.Scalar as scalar
use Rattle.settings_maps.specs.Maps.{value_at, IsFull}
use Rattle.settings_tree.specs.Rule.{IsPrefixFree}
use Rattle.settings_maps.specs.TxName.{is_meta_name}

-- Values by key, metadata by key and name, and the keys that are weak.
pub record Contents : Type 0 where
  pub values : FinMap key_cmp Scalar
  pub metadata : FinMap key_cmp (FinMap bytes_cmp Scalar)
  pub weak : List (List (List ℕ))

abbrev pub key_code : Coded (List (List ℕ))
key_code = coded_list (coded_list coded_ℕ)

-- A content is stored as its three parts.
abbrev pub content_code : Coded Contents
content_code = code_by (FinMap key_cmp Scalar × (FinMap key_cmp (FinMap bytes_cmp Scalar) × List (List (List ℕ))))
    (coded× (code key_code scalar.the_row.coded) (coded× (code key_code (code (coded_list coded_ℕ) scalar.the_row.coded)) (coded_list key_code)))
    (λ c. (c.values, (c.metadata, c.weak))) (λ p. record { values = p.0; metadata = p.1.0; weak = p.1.1 }) (λ _. refl)

-- The content with nothing in it.
abbrev pub no_content : Contents
no_content = record { values = empty; metadata = empty; weak = [] }

-- The key `settings`.
abbrev pub settings_key : List (List ℕ)
settings_key = codes "settings" ∷ []

-- The key has a value and begins with `settings`.
pub record MayBeWeak (values : FinMap key_cmp Scalar) (k : List (List ℕ)) : Type 0 where
  pub stands : IsSome (get values k)
  pub setting : IsTrue (is_prefix settings_key k)

-- Each metadata name has 1 to 127 bare characters.
pub record IsNamed (metadata : FinMap key_cmp (FinMap bytes_cmp Scalar)) : Type 0 where
  pub bare : (k : List (List ℕ)) (name : List ℕ) → IsSome (value_at metadata k name) → IsTrue (is_meta_name name)

-- The prefix rule, no key with an empty map of names, bare names, and weak keys that have a value.
pub record IsContent (c : Contents) : Type 0 where
  pub rule : IsPrefixFree c.values
  pub full : IsFull c.metadata
  pub named : IsNamed c.metadata
  pub weak : All (MayBeWeak c.values) c.weak
