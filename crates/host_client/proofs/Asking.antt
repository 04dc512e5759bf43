-- Words ask one question at most.
use Rattle.std.proofs.Common.{◌≡◌, ℕ, true, false, List, Option, Some, None, sym, ◌∙◌}
use Rattle.host_client.specs.Question.{is_question}
use Rattle.host_client.specs.Words.{words_of, AsksFor}

-- the same words are those of the same question
same_question : (m t n u : List ℕ) (b c : Option (List ℕ)) → words_of m t b ≡ words_of n u c → is_question m t b ≡ is_question n u c
same_question m t n u None None e = let one : m ≡ n = cc in let two : t ≡ u = cc in λ i. is_question (one i) (two i) None
same_question m t n u (Some b) (Some c) e = let one : m ≡ n = cc in let two : t ≡ u = cc in let three : b ≡ c = cc in
    λ i. is_question (one i) (two i) (Some (three i))
same_question m t n u None (Some c) e = cc
same_question m t n u (Some b) None e = cc

-- where the words are those of what can't be asked, they ask nothing
pub asks_nothing : (words : List (List ℕ)) (m t : List ℕ) (b : Option (List ℕ)) → words ≡ words_of m t b → is_question m t b ≡ false
    → (n u : List ℕ) (c : Option (List ℕ)) → AsksFor words n u c → ⊥
asks_nothing words m t b spelled bad n u c asks =
    let never : false ≡ true = sym bad ∙ same_question m t n u b c (sym spelled ∙ asks.spelled) ∙ asks.sound in cc
