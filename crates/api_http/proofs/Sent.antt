-- Bodies that values are, as they are sent.
use Rattle.std.proofs.Common.{◌≡◌, ℕ, List, [], codes, refl}
use Rattle.machine_answers.specs.Replies.{body_of}
use Rattle.machine_answers.specs.declared.answer.Body.{Body}
use Rattle.machine_answers.specs.declared.answer.Body.TheVariants.{Values, Pairs, Texts, Lists, Keys, Names, Job, Plan, Store, States}
use Rattle.api_http.specs.Replies.{with_body}
use Rattle.api_http.specs.Says.{sent_as}

-- None of them is a file, so each is sent as JSON.
pub sent_as_json : (body : Body) (text : List ℕ) → with_body (200, codes "OK") [] text ≡ sent_as (body_of body) text
sent_as_json (Values skip pairs) text = refl
sent_as_json (Pairs pairs) text = refl
sent_as_json (Texts texts) text = refl
sent_as_json (Lists lists) text = refl
sent_as_json (Keys keys) text = refl
sent_as_json (Names names) text = refl
sent_as_json (Job status owed) text = refl
sent_as_json (Plan plan) text = refl
sent_as_json (Store version held) text = refl
sent_as_json (States files) text = refl
