-- Links in a memory form, of which chosen calls fail.
use Rattle.std.specs.Prelude.{ℕ, List, [], ◌∷◌, ◌++◌, drop, map, slice_set, Option, None, Some}
use Rattle.game_io.specs.declared.failing_call.FailingCall.{FailingCall}
use Rattle.game_io.specs.NetState.{NetState, TakenBack}
use Rattle.game_io.specs.Plan.{Plan, fresh, faults_of, called}
use Rattle.game_io.specs.PlannedBytes.{PlannedBytes}

-- A link that is to come: the bytes of its source, and the calls of both halves that are to fail.
pub record PlannedLink : Type 0 where
  pub bytes : List ℕ
  pub takes : List FailingCall
  pub puts : List FailingCall

-- Both halves of a link.
pub record Halves : Type 0 where
  pub input : PlannedBytes
  pub output : PlannedBytes

-- The links to come, those that were given and what they were as they were taken back, and the plan
-- of the calls of the net.
pub record PlannedLinks : Type 0 where
  pub coming : List PlannedLink
  pub given : List (Option TakenBack)
  pub plan : Plan

-- The same of a net of which nothing fails: the bytes of the links to come, and those that were
-- given.
pub record SureLinks : Type 0 where
  pub coming : List (List ℕ)
  pub given : List (Option TakenBack)

-- A link of which nothing is to fail and which has no bytes.
abbrev pub empty_link : PlannedLink
empty_link = record { bytes = []; takes = []; puts = [] }

abbrev pub next_link : List PlannedLink → PlannedLink
next_link [] = empty_link
next_link (link ∷ rest) = link

-- Its halves, as it is given.
abbrev pub halves_of : PlannedLink → Halves
halves_of link =
    record {
      input = record { bytes = link.bytes; plan = fresh link.takes };
      output = record { bytes = []; plan = fresh link.puts };
    }

-- A net of these links: all of them are observable.
abbrev pub net_state : PlannedLinks → NetState
net_state held =
    record {
      coming = Some (map (λ (link : PlannedLink). link.bytes) held.coming);
      given = held.given;
      faults = faults_of held.plan;
    }

-- One call more, which gave no link.
abbrev pub without_link : PlannedLinks → PlannedLinks
without_link held = record held { plan = called held.plan }

-- One call more, which gave the next link.
abbrev pub with_link : PlannedLinks → PlannedLinks
with_link held =
    record { coming = drop 1 held.coming; given = held.given ++ None ∷ []; plan = called held.plan }

-- The link of this number was taken back as it was then. This counts as no call.
abbrev pub with_link_back : ℕ → TakenBack → PlannedLinks → PlannedLinks
with_link_back number link held =
    record held { given = slice_set held.given number (Some link) }

-- The bytes that the source of a link had left as it was taken back, and those that were written to
-- its sink. None before that.
abbrev pub left_of : Option (Option TakenBack) → Option (List ℕ)
left_of None = None
left_of (Some None) = None
left_of (Some (Some link)) = link.left

abbrev pub written_of : Option (Option TakenBack) → Option (List ℕ)
written_of None = None
written_of (Some None) = None
written_of (Some (Some link)) = link.written
