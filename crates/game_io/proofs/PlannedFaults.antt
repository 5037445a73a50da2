-- The count of faults of a plan never falls, and rises exactly at a call that is to fail.
use Rattle.std.specs.Prelude.{OnSome, IfNone, count_by, nat_lt}
use Rattle.std.proofs.Common.{◌≡◌, ℕ, ◌+◌, ◌-◌, ◌^◌, ◌<◌, ◌≤◌, ◌==◌, min, Bool, true, false, List, [], ◌∷◌, Option, None, Some, is_some, refl, arith, ap, sym, cond, eqb-true}
use Rattle.std.proofs.lemmas.List.Sums.{sum_by-cons}
use Rattle.std.proofs.lemmas.Bool.{eqb-false}
use Rattle.std.proofs.lemmas.Bool.Decides.{nat_tests}
use Rattle.base.specs.Cause.{Increased}
use Rattle.game_io.specs.Plan.{is_past, remains_at}
use Rattle.game_io.specs.declared.failing_call.FailingCall.{FailingCall}
use Rattle.game_io.specs.declared.failing_call.Remains.{Remains}

-- A planned call that is past stays past.
past_stays : (call before now : ℕ) → before ≤ now → cond (nat_lt call before) 1 0 ≤ cond (nat_lt call now) 1 0
past_stays call before now h = grind (arith, nat_tests)

-- A planned call becomes past where it is made.
past_made : (call before now : ℕ) → before < now → call ≡ before → cond (nat_lt call before) 1 0 + 1 ≤ cond (nat_lt call now) 1 0
past_made call before now h is = grind (arith, nat_tests)

-- A planned call does not become past where another one is made.
past_kept : (call before now : ℕ) → before ≤ now → now ≤ before + 1 → (call ≡ before → ⊥) → cond {A = ℕ} (nat_lt call now) 1 0 ≡ cond {A = ℕ} (nat_lt call before) 1 0
past_kept call before now h next other = grind (arith, nat_tests)

-- One planned call more at the front.
pub past-cons :
    (calls : ℕ) (planned : FailingCall) (rest : List FailingCall) →
    count_by (is_past calls) (planned ∷ rest) ≡ cond (nat_lt planned.call calls) 1 0 + count_by (is_past calls) rest
past-cons calls planned rest = sum_by-cons (λ x. cond (is_past calls x) 1 0) planned rest

-- A greater part makes no smaller sum.
at_most : (less more others : ℕ) → less ≤ more → min (less + others) (2 ^ 64 - 1) ≤ min (more + others) (2 ^ 64 - 1)
at_most less more others h = omega arith

-- A part that grew by one raises the sum.
raised : (less more others : ℕ) → less + 1 ≤ more → Increased (min (less + others) (2 ^ 64 - 1)) (min (more + others) (2 ^ 64 - 1))
raised less more others h = omega arith

-- With more calls no fewer of the planned ones are past.
pub past-le : (before now : ℕ) (failing : List FailingCall) → before ≤ now → count_by (is_past before) failing ≤ count_by (is_past now) failing
past-le before now [] h = omega arith
past-le before now (planned ∷ rest) h =
    rw (past-cons before planned rest, past-cons now planned rest)
    (let ih = past-le before now rest h in let first = past_stays planned.call before now h in omega arith)

-- The step of `past-lt`, by whether the first planned call is the one that is made.
past-lt-step :
    (before now : ℕ) (planned : FailingCall) (rest : List FailingCall) (test : Bool) → (planned.call == before) ≡ test → before < now →
    (is_some (remains_at before rest) ≡ true → count_by (is_past before) rest + 1 ≤ count_by (is_past now) rest) →
    is_some (cond test (Some planned.remains) (remains_at before rest)) ≡ true →
    cond (nat_lt planned.call before) 1 0 + count_by (is_past before) rest + 1 ≤ cond (nat_lt planned.call now) 1 0 + count_by (is_past now) rest
past-lt-step before now planned rest true e h ih some =
    let first = past_made planned.call before now h (eqb-true planned.call before e) in
    let others = past-le before now rest (omega arith) in
    omega arith
past-lt-step before now planned rest false e h ih some =
    let first = past_stays planned.call before now (omega arith) in
    let others = ih some in
    omega arith

-- Once a planned call was made one more of them is past.
pub past-lt :
    (before now : ℕ) (failing : List FailingCall) → before < now → is_some (remains_at before failing) ≡ true →
    count_by (is_past before) failing + 1 ≤ count_by (is_past now) failing
past-lt before now [] h some = absurd (cc)
past-lt before now (planned ∷ rest) h some =
    rw (past-cons before planned rest, past-cons now planned rest)
    (past-lt-step before now planned rest (planned.call == before) refl h (past-lt before now rest h) some)

-- No call lowers the count.
pub faults_called :
    (calls now : ℕ) (failing : List FailingCall) (unplanned : ℕ) → calls < 2 ^ 64 → now ≡ min (calls + 1) (2 ^ 64 - 1) →
    min (count_by (is_past calls) failing + unplanned) (2 ^ 64 - 1) ≤ min (count_by (is_past now) failing + unplanned) (2 ^ 64 - 1)
faults_called calls now failing unplanned small e =
    at_most (count_by (is_past calls) failing) (count_by (is_past now) failing) unplanned (past-le calls now failing (omega arith))

-- A call that is to fail raises the count.
pub faults_failed :
    (calls now : ℕ) (failing : List FailingCall) (unplanned : ℕ) (remains : Option Remains) → OnSome remains (calls < 2 ^ 32) →
    remains ≡ remains_at calls failing → now ≡ min (calls + 1) (2 ^ 64 - 1) →
    OnSome remains (Increased (min (count_by (is_past calls) failing + unplanned) (2 ^ 64 - 1)) (min (count_by (is_past now) failing + unplanned) (2 ^ 64 - 1)))
faults_failed calls now failing unplanned None small is e = tt
faults_failed calls now failing unplanned (Some remains) small is e =
    raised (count_by (is_past calls) failing) (count_by (is_past now) failing) unplanned
    (past-lt calls now failing (omega arith) (ap is_some (sym is)))

-- The step of `past-same`, by whether the first planned call is the one that is made.
past-same-step :
    (before now : ℕ) (planned : FailingCall) (rest : List FailingCall) (test : Bool) → (planned.call == before) ≡ test → before ≤ now → now ≤ before + 1 →
    (is_some (remains_at before rest) ≡ false → count_by (is_past now) rest ≡ count_by (is_past before) rest) →
    is_some (cond test (Some planned.remains) (remains_at before rest)) ≡ false →
    cond (nat_lt planned.call now) 1 0 + count_by (is_past now) rest ≡ cond (nat_lt planned.call before) 1 0 + count_by (is_past before) rest
past-same-step before now planned rest true e h next ih none = absurd (cc)
past-same-step before now planned rest false e h next ih none =
    let first = past_kept planned.call before now h next (eqb-false planned.call before e) in
    let others = ih none in
    omega arith

-- Where the call that is made is none of the planned ones, no more of them are past.
pub past-same :
    (before now : ℕ) (failing : List FailingCall) → before ≤ now → now ≤ before + 1 → is_some (remains_at before failing) ≡ false →
    count_by (is_past now) failing ≡ count_by (is_past before) failing
past-same before now [] h next none = refl
past-same before now (planned ∷ rest) h next none =
    rw (past-cons before planned rest, past-cons now planned rest)
    (past-same-step before now planned rest (planned.call == before) refl h next (past-same before now rest h next) none)

-- A call that is not to fail leaves the count as it is.
pub faults_kept :
    (calls now : ℕ) (failing : List FailingCall) (unplanned : ℕ) (remains : Option Remains) → calls < 2 ^ 64 →
    remains ≡ remains_at calls failing → now ≡ min (calls + 1) (2 ^ 64 - 1) →
    IfNone remains (min (count_by (is_past now) failing + unplanned) (2 ^ 64 - 1) ≡ min (count_by (is_past calls) failing + unplanned) (2 ^ 64 - 1))
faults_kept calls now failing unplanned (Some remains) small is e = tt
faults_kept calls now failing unplanned None small is e =
    ap (λ past. min (past + unplanned) (2 ^ 64 - 1))
    (past-same calls now failing (omega arith) (omega arith) (ap is_some (sym is)))
