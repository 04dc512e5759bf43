-- Nodes for files, one after another.
use Rattle.std.proofs.Common.{◌≡◌, ℕ, ◌+◌, ◌<◌, length, get_or, take, List, [], ◌∷◌, ◌++◌, ◌∙◌, ap, sym, subst}
use Rattle.std.proofs.lemmas.List.{take_more}
use Rattle.outside.specs.Names.{Names}
use Rattle.disk_memory.specs.declared.node.Node.{Node}
use Rattle.load_input.specs.Image.{File}
use Rattle.load_input.specs.Files.{file_of}
use Rattle.load_input.specs.declared.image_files.LoadFile.{LoadFile}
use Rattle.load_input.specs.Starting.{IsNodeOf, AreNodesOf}
use Rattle.std.proofs.Common.{map}
use Rattle.std.proofs.lemmas.List.{map-append}

nodes_push : (fs : List File) (ns : List (Names × Node)) (f : File) (n : Names × Node) → AreNodesOf fs ns → IsNodeOf f n
    → AreNodesOf (fs ++ f ∷ []) (ns ++ n ∷ [])
nodes_push [] [] f n are is = (is, tt)
nodes_push [] (m ∷ ms) f n are is = absurd are
nodes_push (g ∷ gs) [] f n are is = absurd are
nodes_push (g ∷ gs) (m ∷ ms) f n are is = (are.0, nodes_push gs ms f n are.1 is)

-- One file more.
pub nodes_more : (files : List LoadFile) (i : ℕ) (file : LoadFile) (ns : List (Names × Node)) (n : Names × Node) → i < length files → file ≡ get_or files i file
    → AreNodesOf (map file_of (take i files)) ns → IsNodeOf (file_of file) n → AreNodesOf (map file_of (take (i + 1) files)) (ns ++ n ∷ [])
nodes_more files i file ns n below is are one =
    let more : map file_of (take (i + 1) files) ≡ map file_of (take i files) ++ file_of file ∷ [] =
    ap (map file_of) (take_more files i file below ∙ ap (λ (f : LoadFile). take i files ++ f ∷ []) (sym is)) ∙ map-append file_of (take i files) (file ∷ []) in
    subst (λ (fs : List File). AreNodesOf fs (ns ++ n ∷ [])) (sym more) (nodes_push (map file_of (take i files)) ns (file_of file) n are one)
