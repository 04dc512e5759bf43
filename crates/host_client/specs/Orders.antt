-- What the words of the command line order.
use Rattle.std.specs.Prelude.{◌≡◌, ◌≤◌, ℕ, Bool, true, false, ◌||◌, IsTrue, List, [], ◌∷◌, codes, Option, Some, None}
use Rattle.std.specs.Option.{option_copied}
use Rattle.std.specs.Str.{bytes_eq}
use Rattle.std.specs.Str.Parse.{digits_value}
use Rattle.outside.specs.Spawner.{texts}
use Rattle.change_words.specs.Said.{Says}
use Rattle.change_words.specs.declared.form.Form.TheVariants.{Values, Texts, Removals}
use Rattle.host_client.specs.Reply.{is_number}
use Rattle.host_client.specs.Words.{AsksFor}
use Rattle.host_client.specs.declared.command.Command.{Command}
use Rattle.host_client.specs.declared.command.Command.TheVariants as command

-- What is ordered: one question by its method, target and body, or what a verb names. Keys, files and transactions are as they were typed;
-- changes are the body that asks for them.
pub data Order : Type 0 where
  plain : List ℕ → List ℕ → Option (List ℕ) → Order
  get : List (List ℕ) → Order
  set : List ℕ → Order
  edit : List ℕ → List ℕ → Order
  pending : Option (List ℕ) → Order
  discard : List ℕ → Order
  transactions : Order
  commit : List ℕ → Order
  plan : Option (List ℕ) → Order
  try_out : List ℕ → Order
  show : List ℕ → Option (List ℕ) → Order
  apply : Bool → Order
  wait : Option ℕ → Order
  status : Order
  verify : Order

-- What this command orders.
abbrev pub order_of : Command → Order
order_of (command.Plain method target body) = plain method.now target.now (option_copied body)
order_of (command.Get keys) = get (texts keys.now)
order_of (command.Set body) = set body
order_of (command.Edit tx body) = edit tx.now body
order_of (command.Pending tx) = pending (option_copied tx)
order_of (command.Discard tx) = discard tx.now
order_of command.Transactions = transactions
order_of (command.Commit tx) = commit tx.now
order_of (command.Plan tx) = plan (option_copied tx)
order_of (command.TryOut body) = try_out body
order_of (command.Show file tx) = show file.now (option_copied tx)
order_of (command.Apply all) = apply all
order_of (command.Wait seconds) = wait seconds
order_of command.Status = status
order_of command.Verify = verify

-- The text is digits that write this number, at most an hour of seconds.
pub record IsSeconds (text : List ℕ) (seconds : ℕ) : Type 0 where
  pub digits : IsTrue (is_number text)
  pub value : seconds ≡ digits_value 10 text
  pub within : seconds ≤ 3600

-- The words say changes, for which this is the body: KEY=JSON .., or `--text` and KEY=TEXT ..
pub data SaysChanges (words : List (List ℕ)) (body : List ℕ) : Type 0 where
  values : Says Values words body → SaysChanges words body
  as_text : (pairs : List (List ℕ)) → words ≡ codes "--text" ∷ pairs → Says Texts pairs body → SaysChanges words body

-- The words say what is set at once: `set` with changes, or `unset` with keys.
pub data SaysSet (words : List (List ℕ)) (body : List ℕ) : Type 0 where
  changes : (rest : List (List ℕ)) → words ≡ codes "set" ∷ rest → SaysChanges rest body → SaysSet words body
  removals : (keys : List (List ℕ)) → words ≡ codes "unset" ∷ keys → Says Removals keys body → SaysSet words body

-- The words spell the order: METHOD, TARGET and BODY of a question that can be asked, or a verb and what it takes. After `plan` a word that says no change
-- is a transaction.
abbrev pub Spells : List (List ℕ) → Order → Type 0
Spells words (plain method target body) = AsksFor words method target body
Spells words (get keys) = words ≡ codes "get" ∷ keys
Spells words (set body) = SaysSet words body
Spells words (edit tx body) = (rest : List (List ℕ)) × (words ≡ codes "edit" ∷ tx ∷ rest) × SaysChanges rest body
Spells words (pending None) = words ≡ codes "pending" ∷ []
Spells words (pending (Some tx)) = words ≡ codes "pending" ∷ tx ∷ []
Spells words (discard tx) = words ≡ codes "drop" ∷ tx ∷ []
Spells words transactions = words ≡ codes "transactions" ∷ []
Spells words (commit tx) = words ≡ codes "commit" ∷ tx ∷ []
Spells words (plan None) = words ≡ codes "plan" ∷ []
Spells words (plan (Some tx)) = (words ≡ codes "plan" ∷ tx ∷ []) × ((body : List ℕ) → ¬ SaysChanges (tx ∷ []) body)
Spells words (try_out body) = (rest : List (List ℕ)) × (words ≡ codes "plan" ∷ rest) × SaysChanges rest body
Spells words (show file None) = words ≡ codes "show" ∷ file ∷ []
Spells words (show file (Some tx)) = words ≡ codes "show" ∷ file ∷ tx ∷ []
Spells words (apply false) = words ≡ codes "apply" ∷ []
Spells words (apply true) = words ≡ codes "apply" ∷ codes "--all" ∷ []
Spells words (wait None) = words ≡ codes "wait" ∷ []
Spells words (wait (Some seconds)) = (text : List ℕ) × (words ≡ codes "wait" ∷ text ∷ []) × IsSeconds text seconds
Spells words status = words ≡ codes "status" ∷ []
Spells words verify = words ≡ codes "verify" ∷ []

-- The words spell no order.
abbrev pub SpellsNone : List (List ℕ) → Type 0
SpellsNone words = (order : Order) → ¬ Spells words order

-- The word is that of a verb.
abbrev pub is_verb : List ℕ → Bool
is_verb word =
    bytes_eq word (codes "get") || bytes_eq word (codes "set") || bytes_eq word (codes "unset") || bytes_eq word (codes "edit")
    || bytes_eq word (codes "pending") || bytes_eq word (codes "drop") || bytes_eq word (codes "transactions") || bytes_eq word (codes "commit")
    || bytes_eq word (codes "plan") || bytes_eq word (codes "show") || bytes_eq word (codes "apply") || bytes_eq word (codes "wait")
    || bytes_eq word (codes "status") || bytes_eq word (codes "verify")
