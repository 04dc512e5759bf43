-- What is written, as text.
use Rattle.std.proofs.Common.{◌≡◌, ℕ, List, [], ◌++◌, ap, ◌∙◌}
use Rattle.json.specs.Print.{print}
use Rattle.json.specs.Written.{Written}
use Rattle.serde_json.proofs.Texts.{print-outline}
use Rattle.serde_json.specs.Data.{Data}
use Rattle.serde_json.specs.Written.{compact_text}
use Rattle.json_trees.specs.Written.{data_tokens}
use Rattle.held_text.specs.HeldRules.{Wrote}

-- Where nothing but a value was written, the tokens are its own.
pub printed_tokens : (d : Data) (a b : Written) → a.tokens ≡ [] → Wrote d a b → b.tokens ≡ data_tokens d
printed_tokens d a b none wrote = wrote.tokens ∙ ap (λ ts. ts ++ data_tokens d) none

-- Then the text is its compact text.
pub printed_value : (d : Data) (text : List ℕ) (a b : Written) → text ≡ print b.tokens → a.tokens ≡ [] → Wrote d a b → text ≡ compact_text d
printed_value d text a b is none wrote = is ∙ ap print (printed_tokens d a b none wrote) ∙ print-outline d
