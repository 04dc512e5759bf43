-- Paths that a change of a data directory leaves alone.
use Rattle.std.proofs.Common.{arith, ◌≡◌, ◌≢◌, ℕ, length, true, ◌&&◌, List, [], ◌∷◌, ◌++◌, sym, ◌∙◌, ap, subst}
use Rattle.std.specs.Prelude.{codes, nat_lt}
use Rattle.std.proofs.lemmas.Bool.{and_parts}
use Rattle.outside.specs.Names.{Names, is_below, same_name}
use Rattle.outside.specs.Tree.{Tree}
use Rattle.commit_journal.specs.Files.{IsBelow}
use Rattle.version_links.specs.Chain.{Resolves, found}
use Rattle.version_links.specs.Names.{store}
use Rattle.version_links.specs.declared.version.Version.{Version}
use Rattle.settings_machine.specs.World.{is_etc}
use Rattle.settings_machine.proofs.Elements.{name_tied}
use Rattle.machine_disk.specs.Store.{is_image}
use Rattle.machine_disk.proofs.Settled.{dir_named}

-- A path in a folder begins with its name.
pub first_name : (folder : List ℕ) (path : Names) → is_below (folder ∷ []) path ≡ true → (rest : Names) × (path ≡ folder ∷ rest)
first_name folder [] e = absurd (cc e)
first_name folder (a ∷ rest) e =
    let starts = (and_parts (nat_lt 1 (length (a ∷ rest))) (same_name folder a && true) e).1 in
    (rest, ap (λ (x : List ℕ). x ∷ rest) (sym (name_tied folder a (and_parts (same_name folder a) true starts).0)))

no_link_below : (dir name : List ℕ) → IsBelow (store dir) (store name) → ⊥
no_link_below dir name below =
    let e : length (store name) ≡ length (store dir ++ below.0 ∷ below.1) = ap length below.2 in
    absurd (omega arith)

-- A path in another folder is not below a data directory.
other_folder : (folder name : List ℕ) (path : Names) → is_below (folder ∷ []) path ≡ true → folder ≢ codes "store" → IsBelow (store name) path → ⊥
other_folder folder name path e other below =
    let t = first_name folder path e in
    let same : folder ∷ t.0 ≡ codes "store" ∷ (name ∷ below.0 ∷ below.1) = sym t.1 ∙ below.2 in
    other (cc same)

no_etc_below : (name : List ℕ) (path : Names) → is_etc path ≡ true → IsBelow (store name) path → ⊥
no_etc_below name path e below = other_folder (codes "etc") name path e (λ same. cc) below

no_image_below : (name : List ℕ) (path : Names) → is_image path ≡ true → IsBelow (store name) path → ⊥
no_image_below name path e below = other_folder (codes "image") name path e (λ same. cc) below

-- No link of the store, no configuration file and no file of the image is below the directory.
pub record IsApart (directory : Names) : Type 0 where
  pub link : (name : List ℕ) → IsBelow directory (store name) → ⊥
  pub etc : (path : Names) → is_etc path ≡ true → IsBelow directory path → ⊥
  pub image : (path : Names) → is_image path ≡ true → IsBelow directory path → ⊥

-- So it is with the directory that the links lead to.
pub dir_apart : (tree : Tree) (version : Version) (directory : Names) → Resolves tree (found version directory) → IsApart directory
dir_apart tree version directory leads =
    let named = dir_named tree version directory leads in
    subst IsApart (sym named.1) (record { link = no_link_below named.0; etc = no_etc_below named.0; image = no_image_below named.0 })
