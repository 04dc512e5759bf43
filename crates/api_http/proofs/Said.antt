-- The status of what says a reply of the machine.
use Rattle.std.proofs.Common.{◌≡◌, ℕ, List, ◌∙◌, refl, ap}
use Rattle.settings_machine.specs.Requests.{Body, FileIs, Reply, Said, Empty, Refused, NoMemory, DiskFault, NotOpened, status, is_success}
use Rattle.settings_machine.specs.declared.refusal.Refusal.{Refusal}
use Rattle.settings_machine.specs.declared.refusal.Refusal.TheVariants.{BadType, NoKey, NoName, NoPending, NotRendered}
use Rattle.api_http.specs.Replies.{Sent, is_of_success}
use Rattle.api_http.specs.Says.{Says, sent_as}

-- What is sent of a body has the status of success.
sent_status : (body : Body) (text : List ℕ) → (sent_as body text).status ≡ 200
sent_status (FileIs bytes) text = refl
sent_status _ text = refl

-- What says a reply has its status.
pub says_status : (r : Reply) (sent : Sent) → Says r sent → sent.status ≡ status r
says_status (Said body) sent says = ap (λ (s : Sent). s.status) says.sent_is ∙ sent_status body says.text
says_status Empty sent is = ap (λ (s : Sent). s.status) is
says_status (Refused refusal) sent is = ap (λ (s : Sent). s.status) is
says_status NoMemory sent is = ap (λ (s : Sent). s.status) is
says_status DiskFault sent is = ap (λ (s : Sent). s.status) is
says_status (NotOpened at) sent is = ap (λ (s : Sent). s.status) is

refusal_success : (r : Refusal) → is_of_success (status (Refused r)) ≡ is_success (Refused r)
refusal_success (BadType key wanted) = refl
refusal_success (NoKey key) = refl
refusal_success (NoName name) = refl
refusal_success (NoPending tx) = refl
refusal_success (NotRendered file error) = refl

-- A reply is of success where its status is.
pub status_success : (r : Reply) → is_of_success (status r) ≡ is_success r
status_success (Said body) = refl
status_success Empty = refl
status_success (Refused refusal) = refusal_success refusal
status_success NoMemory = refl
status_success DiskFault = refl
status_success (NotOpened at) = refl

-- What says a reply has a status of success where it is one.
pub says_success : (r : Reply) (sent : Sent) → Says r sent → is_of_success sent.status ≡ is_success r
says_success r sent says = ap is_of_success (says_status r sent says) ∙ status_success r
