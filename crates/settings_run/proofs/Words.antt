-- Words that order this order nothing else.
use Rattle.std.proofs.Common.{◌≡◌, ℕ, Bool, true, false, List, [], ◌∷◌, codes, refl, sym, ◌∙◌}
use Rattle.std.specs.Str.{bytes_eq}
use Rattle.std.proofs.lemmas.Slice.Eq.{bytes_eq-Decides}
use Rattle.version_links.specs.declared.version.Version.{Version}
use Rattle.command_words.specs.Orders.{Order, Spells, word_of, init, serve, set, get, apply, verify, check, migrate, prune, load, generate, user_data}
use Rattle.command_words.specs.Orders.{dump, restore, forget}
use Rattle.settings_cmd.specs.Carried.{RunsNothing}

-- Texts that differ by their bytes are not the same.
differs : (a b : List ℕ) → bytes_eq a b ≡ false → a ≡ b → ⊥
differs a b unlike same = let alike : bytes_eq a b ≡ true = (bytes_eq-Decides a b).1 same in cc (alike, unlike)

-- Two orders of the same words have the same first word.
one_word : (words : List (List ℕ)) (order other : Order) → Spells words order → Spells words other → word_of order ≡ word_of other
one_word [] order other one two = absurd one
one_word (word ∷ words) order other one two = sym one.0 ∙ two.0

-- Where it is not that of a command that runs programs, the words order nothing that does.
runs_nothing : (words : List (List ℕ)) (order : Order) → Spells words order → (word_of order ≡ codes "serve" → ⊥) → (word_of order ≡ codes "set" → ⊥)
    → (word_of order ≡ codes "apply" → ⊥) → RunsNothing words
runs_nothing words order spells no_serve no_set no_apply = record {
  serves_not = λ boot slice while_idle connections quiet is. no_serve (one_word words order (serve boot slice while_idle connections quiet) spells is);
  sets_not = λ pairs is. no_set (one_word words order (set pairs) spells is);
  applies_not = λ all is. no_apply (one_word words order (apply all) spells is);
}

module _ (words : List (List ℕ)) where
  pub init_runs_nothing : (version : Version) → Spells words (init version) → RunsNothing words
  init_runs_nothing version spells = runs_nothing words (init version) spells
      (differs (codes "init") (codes "serve") refl) (differs (codes "init") (codes "set") refl) (differs (codes "init") (codes "apply") refl)

  pub get_runs_nothing : (keys : List (List (List ℕ))) → Spells words (get keys) → RunsNothing words
  get_runs_nothing keys spells = runs_nothing words (get keys) spells
      (differs (codes "get") (codes "serve") refl) (differs (codes "get") (codes "set") refl) (differs (codes "get") (codes "apply") refl)

  pub verify_runs_nothing : Spells words verify → RunsNothing words
  verify_runs_nothing spells = runs_nothing words verify spells
      (differs (codes "verify") (codes "serve") refl) (differs (codes "verify") (codes "set") refl) (differs (codes "verify") (codes "apply") refl)

  pub check_runs_nothing : (store : Bool) → Spells words (check store) → RunsNothing words
  check_runs_nothing store spells = runs_nothing words (check store) spells
      (differs (codes "check") (codes "serve") refl) (differs (codes "check") (codes "set") refl) (differs (codes "check") (codes "apply") refl)

  pub migrate_runs_nothing : (to : Version) → Spells words (migrate to) → RunsNothing words
  migrate_runs_nothing to spells = runs_nothing words (migrate to) spells
      (differs (codes "migrate") (codes "serve") refl) (differs (codes "migrate") (codes "set") refl) (differs (codes "migrate") (codes "apply") refl)

  pub prune_runs_nothing : Spells words prune → RunsNothing words
  prune_runs_nothing spells = runs_nothing words prune spells
      (differs (codes "prune") (codes "serve") refl) (differs (codes "prune") (codes "set") refl) (differs (codes "prune") (codes "apply") refl)

  pub load_runs_nothing : (count : ℕ) → Spells words (load count) → RunsNothing words
  load_runs_nothing count spells = runs_nothing words (load count) spells
      (differs (codes "load") (codes "serve") refl) (differs (codes "load") (codes "set") refl) (differs (codes "load") (codes "apply") refl)

  pub generate_runs_nothing : Spells words generate → RunsNothing words
  generate_runs_nothing spells = runs_nothing words generate spells
      (differs (codes "generate") (codes "serve") refl) (differs (codes "generate") (codes "set") refl) (differs (codes "generate") (codes "apply") refl)

  pub user_data_runs_nothing : (path : List (List ℕ)) → Spells words (user_data path) → RunsNothing words
  user_data_runs_nothing path spells = runs_nothing words (user_data path) spells
      (differs (codes "user-data") (codes "serve") refl) (differs (codes "user-data") (codes "set") refl) (differs (codes "user-data") (codes "apply") refl)

  pub dump_runs_nothing : Spells words dump → RunsNothing words
  dump_runs_nothing spells = runs_nothing words dump spells
      (differs (codes "dump") (codes "serve") refl) (differs (codes "dump") (codes "set") refl) (differs (codes "dump") (codes "apply") refl)

  pub restore_runs_nothing : (path : List (List ℕ)) → Spells words (restore path) → RunsNothing words
  restore_runs_nothing path spells = runs_nothing words (restore path) spells
      (differs (codes "restore") (codes "serve") refl) (differs (codes "restore") (codes "set") refl) (differs (codes "restore") (codes "apply") refl)

  pub forget_runs_nothing : (keys : List (List (List ℕ))) → Spells words (forget keys) → RunsNothing words
  forget_runs_nothing keys spells = runs_nothing words (forget keys) spells
      (differs (codes "forget") (codes "serve") refl) (differs (codes "forget") (codes "set") refl) (differs (codes "forget") (codes "apply") refl)
