-- Entries of a table, as a loop reads them one after another.
use Rattle.std.proofs.Common.{◌≡◌, ℕ, List, [], ◌∷◌, ◌++◌, map, String, Global, string_bytes, Less, append_assoc, append-nil, refl, sym, ◌∙◌, ap, subst}
use Rattle.std.specs.List.{AllByRecursion}
use Rattle.std.specs.List.Sorted.{IsStrictlySortedBy}
use Rattle.std.specs.Map.{keys_of}
use Rattle.std.specs.String.{string_cmp}
use Rattle.key_names.specs.Order.{bytes_cmp}
use Rattle.toml.specs.Data.{Data, Members, no_members, member}
use Rattle.toml.specs.View.{members_view}
use Rattle.toml.specs.declared.value.Value.{Value}
use Rattle.toml_values.specs.Document.{named}
use Rattle.release_file.specs.Checks.{IsTransition}
use Rattle.release_file.specs.Reading.{AreNamed, AreTransitions}
use Rattle.release_file.specs.Works.{SpellsWork}
use Rattle.release_file.specs.declared.transition.Transition.{Transition}
use Rattle.release_file.specs.declared.work.Named.{Named}

-- The names of some members, in their order.
abbrev pub names_in : Members → List (List ℕ)
names_in ms = map (λ e. e.0) (named ms)

below : (k : String Global) (entries : List (String Global × Value)) → AllByRecursion (λ y. string_cmp k y ≡ Less) (keys_of entries)
    → AllByRecursion (λ y. bytes_cmp (string_bytes k) y ≡ Less) (names_in (members_view entries))
below k [] h = tt
below k (e ∷ entries) h = (h.0, below k entries h.1)

-- The names of a table rise.
pub rising_names : (entries : List (String Global × Value)) → IsStrictlySortedBy string_cmp (keys_of entries)
    → IsStrictlySortedBy bytes_cmp (names_in (members_view entries))
unfolding IsStrictlySortedBy
rising_names [] h = tt
rising_names (e ∷ entries) h = (below e.0 entries h.0, rising_names entries h.1)

-- ---- migrations

-- The migrations so far, with those that the entries left spell after them, are those of all entries.
abbrev pub MigrationsGoOn : Members → Members → List Named → Type 0
MigrationsGoOn left all ns = (after : List Named) → AreNamed (named left) after → AreNamed (named all) (ns ++ after)

-- One more is spelled.
pub migration_spelled : (left all rest : Members) (ns more : List Named) (n : Named) (name : List ℕ) (d : Data) → more ≡ ns ++ n ∷ []
    → left ≡ member name d rest → n.name ≡ name → SpellsWork d n.work → MigrationsGoOn left all ns → MigrationsGoOn rest all more
migration_spelled left all rest ns more n name d is next own work so_far after spelled =
    subst (AreNamed (named all)) (sym (ap (λ (l : List Named). l ++ after) is ∙ append_assoc ns (n ∷ []) after))
    (so_far (n ∷ after) (subst (λ (ms : Members). AreNamed (named ms) (n ∷ after)) (sym next) (record { name_is = own; work = work }, spelled)))

-- All are spelled.
pub migrations_spelled : (left all : Members) (ns : List Named) → left ≡ no_members → MigrationsGoOn left all ns → AreNamed (named all) ns
migrations_spelled left all ns none so_far = subst (AreNamed (named all)) (append-nil ns)
    (so_far [] (subst (λ (ms : Members). AreNamed (named ms) []) (sym none) tt))

-- The names of migrations are those of the entries.
pub migration_names : (es : List (List ℕ × Data)) (ns : List Named) → AreNamed es ns → map (λ n. n.name) ns ≡ map (λ e. e.0) es
migration_names [] [] all = refl
migration_names [] (n ∷ ns) all = absurd all
migration_names (e ∷ es) [] all = absurd all
migration_names (e ∷ es) (n ∷ ns) all = ap (λ (m : List ℕ). m ∷ map (λ n. n.name) ns) all.0.name_is
    ∙ ap (λ (l : List (List ℕ)). e.0 ∷ l) (migration_names es ns all.1)

-- ---- transitions

-- The transitions so far, with those that the entries left spell after them, are those of all entries.
abbrev pub TransitionsGoOn : Members → Members → List Transition → Type 0
TransitionsGoOn left all ts = (after : List Transition) → AreTransitions (named left) after → AreTransitions (named all) (ts ++ after)

-- One more is spelled.
pub transition_spelled : (left all rest : Members) (ts more : List Transition) (t : Transition) (name : List ℕ) (d : Data) → more ≡ ts ++ t ∷ []
    → left ≡ member name d rest → IsTransition (name, d) t.from t.to t.names.items → TransitionsGoOn left all ts → TransitionsGoOn rest all more
transition_spelled left all rest ts more t name d is next own so_far after spelled =
    subst (AreTransitions (named all)) (sym (ap (λ (l : List Transition). l ++ after) is ∙ append_assoc ts (t ∷ []) after))
    (so_far (t ∷ after) (subst (λ (ms : Members). AreTransitions (named ms) (t ∷ after)) (sym next) (own, spelled)))

-- All are spelled.
pub transitions_spelled : (left all : Members) (ts : List Transition) → left ≡ no_members → TransitionsGoOn left all ts → AreTransitions (named all) ts
transitions_spelled left all ts none so_far = subst (AreTransitions (named all)) (append-nil ts)
    (so_far [] (subst (λ (ms : Members). AreTransitions (named ms) []) (sym none) tt))
