-- A sender: which payloads are unacknowledged, and how many were acknowledged before them.
use Rattle.std.specs.Prelude.{ℕ, ◌+◌, ◌-◌, ◌==◌, nat_lt, nat_le, if◌then◌else◌}
use Rattle.std.specs.Prelude.{List, [], ◌∷◌, ◌++◌, length, drop, Option, slice_get}
use Rattle.std.specs.Option.{option_map}
use Rattle.datagram_link.specs.declared.limits.TheConstants.{WINDOW, MAX_PAYLOADS}
use Rattle.datagram_link.specs.declared.offered.Offered.{Offered}
use Rattle.datagram_link.specs.declared.offered.Offered.TheVariants.{Taken, WindowFull, Spent}
use Rattle.datagram_link.specs.declared.acked.Acked.{Acked}
use Rattle.datagram_link.specs.declared.acked.Acked.TheVariants.{Freed, Old, Unsent}

-- How many payloads were acknowledged, and those after them, in order.
pub record SenderState : Type 0 where
  pub acknowledged : ℕ
  pub waiting : List (List ℕ)

-- Before the first payload.
abbrev pub nothing_offered : SenderState
nothing_offered = record { acknowledged = 0; waiting = [] }

-- How many payloads were offered: the number of the next.
abbrev pub offered_count : SenderState → ℕ
offered_count s = s.acknowledged + length s.waiting

-- The answer to a payload that is offered.
abbrev pub offer_answer : SenderState → Offered
offer_answer s =
    if offered_count s == MAX_PAYLOADS then Spent
    else (if length s.waiting == WINDOW then WindowFull else Taken (offered_count s))

-- What an offer with this answer leaves.
abbrev pub offer_leaves : Offered → SenderState → List ℕ → SenderState
offer_leaves (Taken number) s payload = record s { waiting = s.waiting ++ payload ∷ [] }
offer_leaves WindowFull s payload = s
offer_leaves Spent s payload = s

abbrev pub after_offer : SenderState → List ℕ → SenderState
after_offer s payload = offer_leaves (offer_answer s) s payload

-- The number and the payload of the i-th that is unacknowledged, from 0.
abbrev pub due_of : SenderState → ℕ → Option (ℕ × List ℕ)
due_of s i = option_map (λ payload. (s.acknowledged + i, payload)) (slice_get s.waiting i)

-- The answer to an Ack: it acknowledges each payload whose number is below `next`.
abbrev pub acked_answer : SenderState → ℕ → Acked
acked_answer s next =
    if nat_lt (offered_count s) next then Unsent
    else (if nat_le next s.acknowledged then Old else Freed (next - s.acknowledged))

-- What an Ack with this answer leaves.
abbrev pub acked_leaves : Acked → SenderState → SenderState
acked_leaves (Freed count) s =
    record { acknowledged = s.acknowledged + count; waiting = drop count s.waiting }
acked_leaves Old s = s
acked_leaves Unsent s = s

abbrev pub after_acked : SenderState → ℕ → SenderState
after_acked s next = acked_leaves (acked_answer s next) s
