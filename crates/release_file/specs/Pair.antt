-- The pair of versions that names an entry of `migrations`.
use Rattle.std.specs.Prelude.{◌≡◌, ℕ, List, [], ◌∷◌, ◌++◌, IsTrue}
use Rattle.version_links.specs.declared.version.Version.{Version}
use Rattle.version_links.specs.Glyphs.{Ends}
use Rattle.version_links.specs.Versions.{Fits, version_text}
use Rattle.release_file.specs.Order.{is_before}

-- The text is an opening bracket, the first version, a comma and a space, the second version, and a closing bracket. The first is below the second.
pub record IsPair (text : List ℕ) (from to : Version) : Type 0 where
  pub text_is : text ≡ 40 ∷ (version_text from ++ 44 ∷ 32 ∷ (version_text to ++ 41 ∷ []))
  pub from_fits : Fits from
  pub to_fits : Fits to
  pub before : IsTrue (is_before from to)

-- For private clauses: the text begins with the mark and this version, and goes on with the rest.
pub record HasVersion (mark : ℕ) (text : List ℕ) (version : Version) (rest : List ℕ) : Type 0 where
  pub fits : Fits version
  pub text_is : text ≡ mark ∷ (version_text version ++ rest)
  pub ends : Ends rest
