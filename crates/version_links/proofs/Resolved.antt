-- Where the links lead, by the links that were read.
use Rattle.std.proofs.Common.{◌≡◌, ◌≢◌, ℕ, ◌<◌, ◌^◌, List, [], ◌∷◌, ◌++◌, length, codes, Option, Some, None, refl, sym, ◌∙◌, ap, subst, arith}
use Rattle.outside.specs.Names.{Names}
use Rattle.outside.specs.Tree.{Tree}
use Rattle.outside.specs.History.{History, tree_of}
use Rattle.outside.specs.Told.{WhereTold}
use Rattle.outside.proofs.Told.{where_map, where_both}
use Rattle.version_links.specs.Names.{name_of, store}
use Rattle.version_links.specs.Chain.{link_at, HasStep, Leads, found, bad, Resolves}
use Rattle.version_links.specs.Steps.{extended, IsStuck}
use Rattle.version_links.proofs.Always.{led-append}

module _ (tree : Tree) (from : List ℕ) (name : List ℕ) (is : name ≡ name_of from) where
  -- One link more.
  led_more : (text : List ℕ) (n : ℕ) → text ≡ name_of (from ++ n ∷ []) → n < 2 ^ 64 → Leads tree [] from → link_at tree name ≡ Some text
      → Leads tree [] (from ++ n ∷ [])
  led_more text n text_is fits led there = let step : HasStep tree from n =
      record { text = ap (λ (l : List ℕ). link_at tree l) (sym is) ∙ there ∙ ap Some text_is; fits = fits } in led-append tree [] from (n ∷ []) led (step, tt)

  -- Where no step is made, the link is bad.
  stuck_at : (mark : ℕ) → ((n : ℕ) → name_of (from ++ n ∷ []) ≡ extended name mark n) → length from < 4 → link_at tree (codes "current") ≢ None → (path : Names)
      → path ≡ store name → Leads tree [] from → IsStuck tree name mark → Resolves tree (bad path)
  stuck_at mark extends short some path path_is led stuck = (
    some,
    record {
      from = from;
      short = short;
      led = led;
      path_is = path_is ∙ ap store is;
      ends = λ n step. stuck.ends n step.fits (ap (λ (l : List ℕ). link_at tree l) is ∙ step.text ∙ ap Some (extends n));
    },
  )

-- A chain begins with a link.
some_first : (tree : Tree) (n : ℕ) (ns : List ℕ) → Leads tree [] (n ∷ ns) → link_at tree (codes "current") ≢ None
some_first tree n ns led none = let e : None ≡ Some (name_of (n ∷ [])) = sym none ∙ led.0.text in cc

module _ (t0 : Option History) (first : List ℕ) (a : ℕ) (fits_a : a < 2 ^ 64) (first_is : first ≡ extended [] 118 a)
    (there : WhereTold t0 (λ h. link_at (tree_of h) (codes "current") ≡ Some first)) where
  led_first : WhereTold t0 (λ h. Leads (tree_of h) [] (a ∷ []))
  led_first = where_map (λ h here. led_more (tree_of h) [] (codes "current") refl first a first_is fits_a tt here) there

  pub bad_first : (t1 : Option History) → t1 ≡ t0 → (path : Names) → path ≡ store first → WhereTold t1 (λ h. IsStuck (tree_of h) first 46)
      → WhereTold t0 (λ h. Resolves (tree_of h) (bad path))
  bad_first t1 same path path_is stuck = where_map (λ h both. stuck_at (tree_of h) (a ∷ []) first first_is 46
      (λ n. ap (λ (l : List ℕ). extended l 46 n) (sym first_is)) (omega arith) (some_first (tree_of h) a [] both.0) path path_is both.0 both.1)
      (where_both led_first (subst (λ t. WhereTold t (λ h. IsStuck (tree_of h) first 46)) same stuck))

  module _ (t1 : Option History) (same_one : t1 ≡ t0) (second : List ℕ) (b : ℕ) (fits_b : b < 2 ^ 64) (second_is : second ≡ extended first 46 b)
      (there_one : WhereTold t1 (λ h. link_at (tree_of h) first ≡ Some second)) where
    second_name : second ≡ name_of (a ∷ b ∷ [])
    second_name = second_is ∙ ap (λ (l : List ℕ). extended l 46 b) first_is

    led_second : WhereTold t0 (λ h. Leads (tree_of h) [] (a ∷ b ∷ []))
    led_second = where_map (λ h both. led_more (tree_of h) (a ∷ []) first first_is second b second_name fits_b both.0 both.1)
        (where_both led_first (subst (λ t. WhereTold t (λ h. link_at (tree_of h) first ≡ Some second)) same_one there_one))

    pub bad_second : (t2 : Option History) → t2 ≡ t1 → (path : Names) → path ≡ store second → WhereTold t2 (λ h. IsStuck (tree_of h) second 46)
        → WhereTold t0 (λ h. Resolves (tree_of h) (bad path))
    bad_second t2 same path path_is stuck = where_map (λ h both. stuck_at (tree_of h) (a ∷ b ∷ []) second second_name 46
        (λ n. ap (λ (l : List ℕ). extended l 46 n) (sym second_name)) (omega arith) (some_first (tree_of h) a (b ∷ []) both.0) path path_is both.0 both.1)
        (where_both led_second (subst (λ t. WhereTold t (λ h. IsStuck (tree_of h) second 46)) (same ∙ same_one) stuck))

    module _ (t2 : Option History) (same_two : t2 ≡ t1) (third : List ℕ) (c : ℕ) (fits_c : c < 2 ^ 64) (third_is : third ≡ extended second 46 c)
        (there_two : WhereTold t2 (λ h. link_at (tree_of h) second ≡ Some third)) where
      third_name : third ≡ name_of (a ∷ b ∷ c ∷ [])
      third_name = third_is ∙ ap (λ (l : List ℕ). extended l 46 c) second_name

      led_third : WhereTold t0 (λ h. Leads (tree_of h) [] (a ∷ b ∷ c ∷ []))
      led_third = where_map (λ h both. led_more (tree_of h) (a ∷ b ∷ []) second second_name third c third_name fits_c both.0 both.1)
          (where_both led_second (subst (λ t. WhereTold t (λ h. link_at (tree_of h) second ≡ Some third)) (same_two ∙ same_one) there_two))

      pub bad_third : (t3 : Option History) → t3 ≡ t2 → (path : Names) → path ≡ store third → WhereTold t3 (λ h. IsStuck (tree_of h) third 95)
          → WhereTold t0 (λ h. Resolves (tree_of h) (bad path))
      bad_third t3 same path path_is stuck = where_map (λ h both. stuck_at (tree_of h) (a ∷ b ∷ c ∷ []) third third_name 95
          (λ n. ap (λ (l : List ℕ). extended l 95 n) (sym third_name)) (omega arith) (some_first (tree_of h) a (b ∷ c ∷ []) both.0) path path_is both.0 both.1)
          (where_both led_third (subst (λ t. WhereTold t (λ h. IsStuck (tree_of h) third 95)) (same ∙ same_two ∙ same_one) stuck))

      pub found_all : (t3 : Option History) → t3 ≡ t2 → (last : List ℕ) (id : ℕ) → id < 2 ^ 64 → last ≡ extended third 95 id
          → WhereTold t3 (λ h. link_at (tree_of h) third ≡ Some last) → (path : Names) → path ≡ store last
          → WhereTold t0 (λ h. Resolves (tree_of h) (found (record { major = a; minor = b; patch = c }) path))
      found_all t3 same last id fits_id last_is there_three path path_is =
          let last_name : last ≡ name_of (a ∷ b ∷ c ∷ id ∷ []) = last_is ∙ ap (λ (l : List ℕ). extended l 95 id) third_name in
          where_map (λ h both. (
            id,
            led_more (tree_of h) (a ∷ b ∷ c ∷ []) third third_name last id last_name fits_id both.0 both.1,
            path_is
                ∙ ap store last_name,
          )) (where_both led_third (subst (λ t. WhereTold t (λ h. link_at (tree_of h) third ≡ Some last)) (same ∙ same_two ∙ same_one)
          there_three))

-- A text that was read, as it is passed on.
pub seen_as : (t : Option History) (name text passed : List ℕ) → passed ≡ text → WhereTold t (λ h. link_at (tree_of h) name ≡ Some text)
    → WhereTold t (λ h. link_at (tree_of h) name ≡ Some passed)
seen_as t name text passed same seen = where_map (λ h is. is ∙ ap Some (sym same)) seen
