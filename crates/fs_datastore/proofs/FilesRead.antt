-- What is known on the way through the files of a data directory, and at its end.
use Rattle.std.proofs.Common.{arith, ◌≡◌, ◌<◌, ℕ, zero, suc, List, [], ◌∷◌, ◌++◌, ◌||◌, ◌+◌, ◌-◌, length, length-drop, take, drop, get_or}
use Rattle.std.proofs.Common.{Option, Some, None, IsSome, Result, Ok, Err, Bool, true, false, cond, inl, inr, refl, sym, ap, ◌∙◌, subst}
use Rattle.std.specs.Prelude.{IsTrue, IfOk}
use Rattle.std.specs.List.Sorted.{IsStrictlySortedBy}
use Rattle.std.specs.Ordering.{eq_by_cmp, is_eq, is_lt}
use Rattle.std.proofs.lemmas.Bool.{false≢true}
use Rattle.std.proofs.lemmas.List.{take_more}
use Rattle.std.proofs.lemmas.List.Folds.{list_any-append}
use Rattle.outside.specs.Names.{Names, path_cmp}
use Rattle.outside.specs.Order.{path_total}
use Rattle.outside.specs.Told.{WhereTold}
use Rattle.outside.specs.History.{History, tree_of}
use Rattle.outside.proofs.Told.{where_map, where_both, where_all}
use Rattle.outside.specs.Tree.{Node, file, link, Tree, node_at, file_in, paths_below}
use Rattle.outside.proofs.Trees.{path_cases, path_itself}
use Rattle.commit_journal.specs.Files.{Files, files_below, with_node}
use Rattle.commit_journal.proofs.Laid.{with_node_here, with_node_other}
use Rattle.fs_datastore.specs.Damage.{Fits, format, place, before, IsDamaged, HasNoDamage, damaged, IsFaultBelow}
use Rattle.fs_datastore.specs.FoundFiles.{IsAbsent, absent_path, Says, what_found, no_files, Reads}
use Rattle.fs_datastore.specs.declared.found.Absent.{Absent}
use Rattle.fs_datastore.specs.declared.found.Found.{Found}
use Rattle.fs_datastore.proofs.Showing.{shows_below}
use Rattle.fs_datastore.proofs.Sound.{sound}
use Rattle.fs_datastore.proofs.Rules.{found_rules}
use Rattle.fs_datastore.proofs.KeyTexts.{whole}
use Rattle.fs_datastore.specs.Loading.{ReadsNode, only, SaidSoFar, ReadsFirst, FindsFault}
use Rattle.fs_datastore.proofs.Listing.{in_list, fits_alike, cmp_below, drop_dir, split_at, less, paths_rise, each_listed, IsListed, listed_is}

abbrev node_in : Option Node → Node → Node
node_in None d = d
node_in (Some n) d = n

abbrev is_file : Node → Bool
is_file (file b) = true
is_file (link t) = false

-- a link may be nowhere
no_link : (others : Files) (path : Names) (n : Node) (t : List ℕ) → n ≡ link t → Fits others path n → ⊥
no_link others path n t is (format here file_is) = false≢true (ap is_file (sym is ∙ file_is))
no_link others path n t is (place p b valid here file_is takes) = false≢true (ap is_file (sym is ∙ file_is))

-- files that are alike are said alike
pub says_below : (a b : Files) (f : Found) → ((name : List ℕ) (rest : Names) → a (name ∷ rest) ≡ b (name ∷ rest)) → Says a f → Says b f
says_below a b f same says = record { shows = shows_below a b (what_found f) f.told same says.shows; rules = says.rules }

pub said_none : (dir : Names) (tree : Tree) (found : Found) → Says no_files found → SaidSoFar dir tree [] found
said_none dir tree found says = record { says = says_below no_files (only dir [] (files_below dir tree)) found (λ name rest. refl) says }

module _ (dir : Names) (tree : Tree) (two : length dir ≡ 2) (done left : List Names) (p : Names) (whole : done ++ p ∷ left ≡ paths_below dir tree) (rel : Names)
    (p_is : p ≡ dir ++ rel) where
  abbrev files : Files
  files = files_below dir tree

  rel_is : drop 2 p ≡ rel
  rel_is = ap (λ (q : Names). drop 2 q) p_is ∙ drop_dir dir rel two

  node_is : node_at tree p ≡ files rel
  node_is = ap (node_at tree) p_is

  same_test : (q : Names) → eq_by_cmp path_cmp (dir ++ q) p ≡ eq_by_cmp path_cmp q rel
  same_test q = ap (λ (x : Names). eq_by_cmp path_cmp (dir ++ q) x) p_is ∙ ap is_eq (cmp_below dir q rel)

  listed_now : (q : Names) → only dir (done ++ p ∷ []) files q ≡ cond (in_list (dir ++ q) done || (eq_by_cmp path_cmp q rel || false)) (files q) None
  listed_now q = ap (λ (b : Bool). cond b (files q) None) (list_any-append (eq_by_cmp path_cmp (dir ++ q)) done (p ∷ [])
      ∙ ap (λ (b : Bool). in_list (dir ++ q) done || (b || false)) (same_test q))

  or_true : (a : Bool) → (a || (true || false)) ≡ true
  or_true true = refl
  or_true false = refl

  or_false : (a : Bool) → (a || (false || false)) ≡ a
  or_false true = refl
  or_false false = refl

  -- one more path
  only_more : (q : Names) → with_node (only dir done files) rel (files rel) q ≡ only dir (done ++ p ∷ []) files q
  only_more q = elim (path_cases q rel) [
    | inl here ↦
        with_node_here (only dir done files) rel (files rel) q here
        ∙ sym (listed_now q ∙ ap (λ (b : Bool). cond (in_list (dir ++ q) done || (b || false)) (files q) None)
        (ap (λ (x : Names). eq_by_cmp path_cmp x rel) here ∙ path_itself rel) ∙ ap (λ (b : Bool). cond b (files q) None) (or_true (in_list (dir ++ q) done))
        ∙ ap files here)
    | inr other ↦
        with_node_other (only dir done files) rel (files rel) q other
        ∙ sym (listed_now q ∙ ap (λ (b : Bool). cond (in_list (dir ++ q) done || (b || false)) (files q) None) other
        ∙ ap (λ (b : Bool). cond b (files q) None) (or_false (in_list (dir ++ q) done)))
  ]

  -- its file was read
  pub said_more : (old new : Found) → SaidSoFar dir tree done old → ReadsNode (drop 2 p) (node_at tree p) old new true → SaidSoFar dir tree (done ++ p ∷ []) new
  said_more old new so_far reads = record {
    says = says_below (with_node (only dir done files) rel (files rel)) (only dir (done ++ p ∷ []) files) new (λ name rest. only_more (name ∷ rest))
        (subst (λ (n : Option Node). Says (with_node (only dir done files) rel n) new) node_is
        (subst (λ (r : Names). Says (with_node (only dir done files) r (node_at tree p)) new) rel_is (reads.1 (only dir done files) so_far.says)));
  }

  -- ---- its file is at fault

  rises : IsStrictlySortedBy path_cmp (done ++ p ∷ left)
  rises = subst (IsStrictlySortedBy path_cmp) (sym whole) (paths_rise dir tree)

  -- what is at earlier paths is what was read
  earlier : (name : List ℕ) (rest : Names) → only dir done files (name ∷ rest) ≡ before rel files (name ∷ rest)
  earlier name rest = by (files (name ∷ rest)) refl where
    q : Names
    q = name ∷ rest

    order : path_cmp (dir ++ name ∷ rest) p ≡ path_cmp (name ∷ rest) rel
    order = ap (path_cmp (dir ++ name ∷ rest)) p_is ∙ cmp_below dir (name ∷ rest) rel

    by : (o : Option Node) → files (name ∷ rest) ≡ o → cond (in_list (dir ++ name ∷ rest) done) (files (name ∷ rest)) None ≡ cond
        (is_lt (path_cmp (name ∷ rest) rel)) (files (name ∷ rest)) None
    by None is = both_none (in_list (dir ++ name ∷ rest) done) (is_lt (path_cmp (name ∷ rest) rel)) (files (name ∷ rest)) is where
      both_none : (a b : Bool) (o : Option Node) → o ≡ None → cond a o None ≡ cond b o None
      both_none true true o none = refl
      both_none true false o none = none
      both_none false true o none = sym none
      both_none false false o none = refl
    by (Some n) is =
        ap (λ (b : Bool). cond b (files (name ∷ rest)) None)
        (split_at done p (dir ++ name ∷ rest) left rises (ap (in_list (dir ++ name ∷ rest)) whole ∙ each_listed dir tree name rest (subst IsSome (sym is) refl))
        ∙ ap is_lt order)

  unharmed : (old : Found) → SaidSoFar dir tree done old → HasNoDamage (only dir done files)
  unharmed old so_far = sound (only dir done files) (what_found old) old.told so_far.says.shows (found_rules old so_far.says.rules)

  lower : (q r : Names) → is_lt (path_cmp q rel) ≡ true → is_lt (path_cmp r q) ≡ true → is_lt (path_cmp r rel) ≡ true
  lower q r one two = ap is_lt (path_total.trans r q rel (less (path_cmp r q) two) (less (path_cmp q rel) one))

  -- so no earlier path is damaged
  least : (old : Found) → SaidSoFar dir tree done old → (q : Names) → IsTrue (is_lt (path_cmp q rel)) → IsDamaged files q → ⊥
  least old so_far q low d = unharmed old so_far q (record {
    name = d.name;
    rest = d.rest;
    path_is = d.path_is;
    node = d.node;
    there = here q d.name d.rest d.path_is low ∙ d.there;
    unfit = λ fit. d.unfit (fits_alike (before q (only dir done files)) (before q files) (alike q low) q d.node fit);
  })
    where
      now : (name : List ℕ) (rest : Names) → is_lt (path_cmp (name ∷ rest) rel) ≡ true → only dir done files (name ∷ rest) ≡ files (name ∷ rest)
      now name rest low = earlier name rest ∙ ap (λ (b : Bool). cond b (files (name ∷ rest)) None) low

      here : (q : Names) (name : List ℕ) (rest : Names) → q ≡ name ∷ rest → is_lt (path_cmp q rel) ≡ true → only dir done files q ≡ files q
      here q name rest is low = subst (λ (x : Names). only dir done files x ≡ files x) (sym is)
          (now name rest (subst (λ (x : Names). is_lt (path_cmp x rel) ≡ true) is low))

      alike : (q : Names) → is_lt (path_cmp q rel) ≡ true → (name : List ℕ) (rest : Names)
          → before q (only dir done files) (name ∷ rest) ≡ before q files (name ∷ rest)
      alike q low name rest = by (is_lt (path_cmp (name ∷ rest) q)) refl where
        by : (b : Bool) → is_lt (path_cmp (name ∷ rest) q) ≡ b → cond b (only dir done files (name ∷ rest)) None ≡ cond b (files (name ∷ rest)) None
        by true lt = now name rest (lower q (name ∷ rest) low lt)
        by false lt = refl

  -- the path is the fault of the directory
  pub at_fault : (old new : Found) (name : List ℕ) (rest : Names) (node : Node) → rel ≡ name ∷ rest → files rel ≡ Some node → SaidSoFar dir tree done old
      → ReadsNode (drop 2 p) (node_at tree p) old new false → IsFaultBelow dir tree p
  at_fault old new name rest node is there so_far reads = record {
    below = rel;
    path_is = p_is;
    fault = damaged (record {
      name = name;
      rest = rest;
      path_is = is;
      node = node;
      there = there;
      unfit = λ fit. reads (only dir done files) so_far.says node (node_is ∙ there)
          (subst (λ (r : Names). Fits (only dir done files) r node) (sym rel_is)
          (fits_alike (before rel files) (only dir done files) (λ n r. sym (earlier n r)) rel node fit));
    }) (least old so_far);
  }

-- all were read
pub said_all : (dir : Names) (tree : Tree) (done : List Names) (found : Found) → done ≡ paths_below dir tree → SaidSoFar dir tree done found
    → Says (files_below dir tree) found
said_all dir tree done found all so_far = says_below (only dir done (files_below dir tree)) (files_below dir tree) found alike so_far.says where
  alike : (name : List ℕ) (rest : Names) → only dir done (files_below dir tree) (name ∷ rest) ≡ files_below dir tree (name ∷ rest)
  alike name rest = by (files_below dir tree (name ∷ rest)) refl where
    none : (a : Bool) (o : Option Node) → o ≡ None → cond a o None ≡ o
    none true o is = refl
    none false o is = sym is

    by : (o : Option Node) → files_below dir tree (name ∷ rest) ≡ o → cond (in_list (dir ++ name ∷ rest) done) (files_below dir tree (name ∷ rest)) None ≡
        files_below dir tree (name ∷ rest)
    by None is = none (in_list (dir ++ name ∷ rest) done) (files_below dir tree (name ∷ rest)) is
    by (Some n) is = ap (λ (b : Bool). cond b (files_below dir tree (name ∷ rest)) None)
        (ap (in_list (dir ++ name ∷ rest)) all ∙ each_listed dir tree name rest (subst IsSome (sym is) refl))

-- ---- one listed path, as the loop meets it

module _ (dir : Names) (tree : Tree) (two : length dir ≡ 2) (done left : List Names) (p : Names) (whole : done ++ p ∷ left ≡ paths_below dir tree)
    (old new : Found) (so_far : SaidSoFar dir tree done old) where
  listed : IsListed dir tree p
  listed = listed_is dir tree done left p whole

  pub path_said : ReadsNode (drop 2 p) (node_at tree p) old new true → SaidSoFar dir tree (done ++ p ∷ []) new
  path_said reads = said_more dir tree two done left p whole (listed.name ∷ listed.rest) listed.path_is old new so_far reads

  pub path_at_fault : ReadsNode (drop 2 p) (node_at tree p) old new false → IsFaultBelow dir tree p
  path_at_fault reads =
      at_fault dir tree two done left p whole (listed.name ∷ listed.rest) listed.path_is old new listed.name listed.rest listed.node refl
      (sym (ap (node_at tree) listed.path_is) ∙ listed.there) so_far reads

-- ---- bytes and nodes

pub node_read : {E : Type 0} (names path : Names) (bytes : List ℕ) (old new : Found) (r : Result Bool E) → names ≡ drop 2 path
    → IfOk r (Reads names bytes old new) → IfOk r (ReadsNode (drop 2 path) (Some (file bytes)) old new)
node_read names path bytes old new (Ok true) is reads = (
  reads.0,
  λ others says. subst (λ (p : Names). Says (with_node others p (Some (file bytes))) new) is
      (reads.1 others says),
)
node_read names path bytes old new (Ok false) is reads = λ others says n same fit.
    reads others says (subst (λ (m : Node). Fits others names m) (sym (inside same)) (subst (λ (p : Names). Fits others p n) (sym is) fit))
  where
    inside : {n : Node} → Some (file bytes) ≡ Some n → file bytes ≡ n
    inside {n} same = ap (λ (o : Option Node). node_in o n) same
node_read names path bytes old new (Err e) is reads = tt

-- the file's node
pub file_there : (node : Option Node) (bytes : List ℕ) → Some bytes ≡ file_in node → node ≡ Some (file bytes)
file_there None bytes is = absurd (cc is)
file_there (Some (file b)) bytes is = let same : bytes ≡ b = cc is in ap (λ (l : List ℕ). Some (file l)) (sym same)
file_there (Some (link t)) bytes is = absurd (cc is)

-- a link, or nothing, is no file
pub no_file : (path : Names) (node : Option Node) (old new : Found) → None ≡ file_in node → ReadsNode path node old new false
no_file path None old new is = λ others says n same fit. cc same
no_file path (Some (file b)) old new is = absurd (cc is)
no_file path (Some (link t)) old new is = λ others says n same fit. no_link others path n t (sym (ap (λ (o : Option Node). node_in o n) same)) fit

-- ---- the loop, where the disk tells

parted : (xs : List Names) (i : ℕ) (x : Names) → i < length xs → x ≡ get_or xs i x → take i xs ++ x ∷ drop (i + 1) xs ≡ xs
parted [] i x low at = absurd (omega arith)
parted (y ∷ xs) zero x low at = ap (λ (z : Names). z ∷ xs) at
parted (y ∷ xs) (suc i) x low at =
    let e : suc i + 1 ≡ suc (i + 1) = omega arith in
    ap (λ (n : ℕ). y ∷ (take i xs ++ x ∷ drop n (y ∷ xs))) e ∙ ap (λ (l : List Names). y ∷ l) (parted xs i x (omega arith) at)

one_more : (xs : List Names) (i : ℕ) (x : Names) → i < length xs → x ≡ get_or xs i x → take i xs ++ x ∷ [] ≡ take (i + 1) xs
one_more xs i x low at = ap (λ (z : Names). take i xs ++ z ∷ []) at ∙ sym (take_more xs i x low)

module _ (paths : List Names) (i : ℕ) (p : Names) (low : i < length paths) (at : p ≡ get_or paths i p) (old mid new : Found) (a : Option History)
    (so_far : WhereTold a (ReadsFirst paths (take i paths) old mid)) where
  pub read_more : (b : Bool) → b ≡ true → WhereTold a (λ h. ReadsNode (drop 2 p) (node_at (tree_of h) p) mid new b)
      → WhereTold a (ReadsFirst paths (take (i + 1) paths) old new)
  read_more b so reads = where_map (λ h both. record {
    read = λ dir two listed says.
        subst (λ (done : List Names). SaidSoFar dir (tree_of h) done new) (one_more paths i p low at)
        (path_said dir (tree_of h) two (take i paths) (drop (i + 1) paths) p (parted paths i p low at ∙ listed) mid new (both.0.read dir two listed says)
        (subst (λ (x : Bool). ReadsNode (drop 2 p) (node_at (tree_of h) p) mid new x) so both.1));
  }) (where_both so_far reads)

  pub read_fault : (b : Bool) → b ≡ false → WhereTold a (λ h. ReadsNode (drop 2 p) (node_at (tree_of h) p) mid new b)
      → WhereTold a (FindsFault paths old new (Some p))
  read_fault b so reads = where_map (λ h both. record {
    found = λ dir two listed says. path_at_fault dir (tree_of h) two (take i paths) (drop (i + 1) paths) p (parted paths i p low at ∙ listed) mid new
        (both.0.read dir two listed says) (subst (λ (x : Bool). ReadsNode (drop 2 p) (node_at (tree_of h) p) mid new x) so both.1);
  }) (where_both so_far reads)

pub read_none : (paths : List Names) (old : Found) (a : Option History) → WhereTold a (ReadsFirst paths (take 0 paths) old old)
read_none paths old a = where_all (λ h. record { read = λ dir two listed says. said_none dir (tree_of h) old says })

pub read_all : (paths : List Names) (n : ℕ) (old new : Found) (a : Option History) → n ≡ length paths → WhereTold a (ReadsFirst paths (take n paths) old new)
    → WhereTold a (FindsFault paths old new None)
read_all paths n old new a is so_far = where_map (λ h first. record {
  found = λ dir two listed says. said_all dir (tree_of h) (take n paths) new (whole paths n is ∙ listed) (first.read dir two listed says);
}) so_far

-- ---- the whole

module _ (paths : List Names) (dir : Names) (two : length dir ≡ 2) (old new : Found) (a : Option History)
    (listed : WhereTold a (λ h. paths ≡ paths_below dir (tree_of h))) (says : Says no_files old) where
  pub said_where : WhereTold a (FindsFault paths old new None) → WhereTold a (λ h. Says (files_below dir (tree_of h)) new)
  said_where finds = where_map (λ h both. both.1.found dir two both.0 says) (where_both listed finds)

-- a file that is missing is the fault of the directory
pub absent_where : (paths : List Names) (dir : Names) → length dir ≡ 2 → (old new : Found) (a : Option History)
    → WhereTold a (λ h. paths ≡ paths_below dir (tree_of h)) → Says no_files old → (o : Option Names) → WhereTold a (FindsFault paths old new o) → o ≡ None
    → (e : Absent) → ((files : Files) → Says files new → IsAbsent files e) → (p path : Names) → p ≡ dir ++ absent_path e → p ≡ path
    → WhereTold a (λ h. IsFaultBelow dir (tree_of h) path)
absent_where paths dir two old new a listed says o finds none e absent p path is same =
    where_map (λ h said. record { below = absent_path e; path_is = sym same ∙ is; fault = absent (files_below dir (tree_of h)) said })
    (said_where paths dir two old new a listed says (subst (λ (x : Option Names). WhereTold a (FindsFault paths old new x)) none finds))

-- the bytes that were read are the node's
pub bytes_where : (path : Names) (old new : Found) (bytes : List ℕ) (b : Bool) (o : Option (List ℕ)) (a : Option History) → o ≡ Some bytes
    → WhereTold a (λ h. o ≡ file_in (node_at (tree_of h) path)) → ReadsNode (drop 2 path) (Some (file bytes)) old new b
    → WhereTold a (λ h. ReadsNode (drop 2 path) (node_at (tree_of h) path) old new b)
bytes_where path old new bytes b o a some is reads = where_map (λ h so. subst (λ (n : Option Node). ReadsNode (drop 2 path) n old new b)
    (sym (file_there (node_at (tree_of h) path) bytes (sym some ∙ so))) reads) is

-- what follows two names
pub rest_two : (names path : Names) → names ≡ path → take (length names - 2) (drop 2 names) ≡ drop 2 path
rest_two names path is = whole (drop 2 names) (length names - 2) (omega (arith, length-drop 2 names)) ∙ ap (drop 2) is
