-- The calls of a memory form: how many there were, which of them are to fail, and the count of
-- faults.
use Rattle.std.specs.Prelude.{ℕ, ◌+◌, ◌-◌, ◌^◌, ◌==◌, min, nat_lt, if◌then◌else◌, Bool, List, []}
use Rattle.std.specs.Prelude.{◌∷◌, Option, None, Some, count_by}
use Rattle.game_io.specs.declared.failing_call.FailingCall.{FailingCall}
use Rattle.game_io.specs.declared.failing_call.Remains.{Remains}

-- The calls so far, those that are to fail, and how many faults there were beside them.
pub record Plan : Type 0 where
  pub calls : ℕ
  pub failing : List FailingCall
  pub unplanned : ℕ

-- The call was made already.
abbrev pub is_past : ℕ → FailingCall → Bool
is_past calls planned = nat_lt planned.call calls

-- The count of faults: the calls that were to fail and were made, and the faults beside them.
abbrev pub faults_of : Plan → ℕ
faults_of plan = min (count_by (is_past plan.calls) plan.failing + plan.unplanned) (2 ^ 64 - 1)

-- What remains after the call of this number, where it is to fail: as the first of the list says
-- that has its number.
abbrev pub remains_at : ℕ → List FailingCall → Option Remains
remains_at calls [] = None
remains_at calls (planned ∷ rest) =
    if planned.call == calls then Some planned.remains else remains_at calls rest

-- What remains after the next call, where it is to fail.
abbrev pub next_remains : Plan → Option Remains
next_remains plan = remains_at plan.calls plan.failing

-- The plan of an object that was not called yet.
abbrev pub fresh : List FailingCall → Plan
fresh failing = record { calls = 0; failing = failing; unplanned = 0 }

-- One more call was made.
abbrev pub called : Plan → Plan
called plan = record plan { calls = min (plan.calls + 1) (2 ^ 64 - 1) }

-- One more fault was counted that was in no plan.
abbrev pub missed : Plan → Plan
missed plan = record plan { unplanned = min (plan.unplanned + 1) (2 ^ 64 - 1) }
