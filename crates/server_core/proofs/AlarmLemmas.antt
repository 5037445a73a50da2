-- The search for an alarm, one frame at a time, finds the least one.
use Rattle.std.specs.Prelude.{if◌then◌else◌, Option, Some, None, is_some}
use Rattle.std.proofs.Common.{◌≡◌, ℕ, zero, suc, ◌+◌, ◌≤◌, ◌<◌, ◌==◌, ◌⊎◌, inl, inr, arith, add-one}
use Rattle.std.proofs.Common.{Bool, true, false, eq-eqb, refl, sym, ap, ap₂, subst, ◌∙◌}
use Rattle.std.proofs.Common.{List, [], ◌∷◌, length, get_or, drop, drop-cons}
use Rattle.std.proofs.Math.ListN.{drop_of_length-le}
use Rattle.std.proofs.lemmas.Bool.{eqb-true}
use Rattle.std.proofs.lemmas.List.Elements.{at_read}
use Rattle.server_core.specs.declared.alarm.Alarm.{Alarm}
use Rattle.server_core.specs.Alarm.{alarm_here, alarm_from, alarm_of, DiffersAt, IsAlarm}

abbrev by_test : Bool → Option Alarm → Option Alarm → Option Alarm
by_test same x y = if same then x else y

-- At one frame.
pub alarm_step :
    (n : ℕ) (reports : List (Option ℕ)) (wanted : List ℕ) → n < length reports → n < length wanted →
    alarm_from n (drop n reports) (drop n wanted)
    ≡ alarm_here n (get_or reports n None) (get_or wanted n 0)
    (alarm_from (n + 1) (drop (n + 1) reports) (drop (n + 1) wanted))
alarm_step n reports wanted reported marked =
    let first : drop n reports ≡ get_or reports n None ∷ drop (n + 1) reports =
    rw add-one (drop-cons reports n None reported) in
    let other : drop n wanted ≡ get_or wanted n 0 ∷ drop (n + 1) wanted =
    rw add-one (drop-cons wanted n 0 marked) in
    ap₂ (alarm_from n) first other

-- Of two equal hashes there is none, whatever comes later.
at_same :
    (same : Bool) (alarm : Alarm) (later : Option Alarm) →
    is_some (by_test same None (Some alarm)) ≡ false → by_test same later (Some alarm) ≡ later
at_same true alarm later none = refl
at_same false alarm later none = absurd cc

at_other :
    (same : Bool) (alarm : Alarm) (later : Option Alarm) →
    is_some (by_test same None (Some alarm)) ≡ true →
    by_test same None (Some alarm) ≡ by_test same later (Some alarm)
at_other true alarm later some = absurd cc
at_other false alarm later some = refl

-- Where there is none at the frame, a later one counts.
pub none_here :
    (n : ℕ) (got : Option ℕ) (want : ℕ) (later : Option Alarm) →
    is_some (alarm_here n got want None) ≡ false → alarm_here n got want later ≡ later
none_here n None want later none = refl
none_here n (Some got) want later none =
    at_same (got == want) (record { frame = n; got = got; want = want }) later none

-- Where there is one at the frame, it is the least.
pub some_here :
    (n : ℕ) (got : Option ℕ) (want : ℕ) (later : Option Alarm) →
    is_some (alarm_here n got want None) ≡ true →
    alarm_here n got want None ≡ alarm_here n got want later
some_here n None want later some = absurd cc
some_here n (Some got) want later some =
    at_other (got == want) (record { frame = n; got = got; want = want }) later some

none_wanted : (n : ℕ) (reports : List (Option ℕ)) → alarm_from n reports [] ≡ None
none_wanted n [] = refl
none_wanted n (got ∷ reports) = refl

-- After the end of a list there is none.
pub alarm_end :
    (n : ℕ) (reports : List (Option ℕ)) (wanted : List ℕ) →
    (length reports ≤ n) ⊎ (length wanted ≤ n) →
    alarm_from n (drop n reports) (drop n wanted) ≡ None
alarm_end n reports wanted (inl past) =
    ap (λ xs. alarm_from n xs (drop n wanted)) (drop_of_length-le reports past)
alarm_end n reports wanted (inr past) =
    ap (alarm_from n (drop n reports)) (drop_of_length-le wanted past)
    ∙ none_wanted n (drop n reports)

-- What is read at an index below the length does not depend on a default.
pub read_at :
    {X : Type 0} (xs : List X) (i : ℕ) (x d : X) → i < length xs → x ≡ get_or xs i x →
    x ≡ get_or xs i d
read_at xs i x d below read = at_read xs (λ u. x ≡ u) i x below read refl d

-- The same from frame k on, where both lists begin at frame k.
abbrev IsAlarmFrom : ℕ → List (Option ℕ) → List ℕ → Option Alarm → Type 0
IsAlarmFrom k reports wanted None = (n got want : ℕ) → DiffersAt reports wanted n got want → ⊥
IsAlarmFrom k reports wanted (Some alarm) =
    (n : ℕ) × (k + n ≡ alarm.frame) × DiffersAt reports wanted n alarm.got alarm.want
    × ((m got want : ℕ) → DiffersAt reports wanted m got want → n ≤ m)

one_later :
    (x : Option ℕ) (w : ℕ) (reports : List (Option ℕ)) (wanted : List ℕ) (n got want : ℕ) →
    DiffersAt reports wanted n got want → DiffersAt (x ∷ reports) (w ∷ wanted) (suc n) got want
one_later x w reports wanted n got want at =
    record { reported = at.reported; wanted = at.wanted; differ = at.differ }

one_earlier :
    (x : Option ℕ) (w : ℕ) (reports : List (Option ℕ)) (wanted : List ℕ) (n got want : ℕ) →
    DiffersAt (x ∷ reports) (w ∷ wanted) (suc n) got want → DiffersAt reports wanted n got want
one_earlier x w reports wanted n got want at =
    record { reported = at.reported; wanted = at.wanted; differ = at.differ }

-- Where they don't differ at the first frame, the later ones decide.
by_later :
    (k : ℕ) (x : Option ℕ) (w : ℕ) (reports : List (Option ℕ)) (wanted : List ℕ)
    (found : Option Alarm) →
    ((got want : ℕ) → DiffersAt (x ∷ reports) (w ∷ wanted) 0 got want → ⊥) →
    IsAlarmFrom (k + 1) reports wanted found → IsAlarmFrom k (x ∷ reports) (w ∷ wanted) found
by_later k x w reports wanted None same later = none where
  none : (n got want : ℕ) → DiffersAt (x ∷ reports) (w ∷ wanted) n got want → ⊥
  none zero got want at = same got want at
  none (suc n) got want at = later n got want (one_earlier x w reports wanted n got want at)
by_later k x w reports wanted (Some alarm) same later = (
  suc later.0,
  omega (arith, later.1),
  one_later x w reports wanted later.0 alarm.got alarm.want later.2,
  least,
) where
  least : (m got want : ℕ) → DiffersAt (x ∷ reports) (w ∷ wanted) m got want → suc later.0 ≤ m
  least zero got want at = absurd (same got want at)
  least (suc m) got want at =
      omega (arith, later.3 m got want (one_earlier x w reports wanted m got want at))

-- At the first frame they differ, or the later ones decide.
by_first :
    (k got want : ℕ) (reports : List (Option ℕ)) (wanted : List ℕ) (found : Option Alarm)
    (same : Bool) → (got == want) ≡ same → IsAlarmFrom (k + 1) reports wanted found →
    IsAlarmFrom k (Some got ∷ reports) (want ∷ wanted)
    (by_test same found (Some (record { frame = k; got = got; want = want })))
by_first k got want reports wanted found true is later =
    by_later k (Some got) want reports wanted found
    (λ g w at.
    at.differ
    (let a : got ≡ g = cc in let b : want ≡ w = cc in sym a ∙ eqb-true got want is ∙ b)) later
by_first k got want reports wanted found false is later = (
  zero,
  omega arith,
  record {
    reported = refl;
    wanted = refl;
    differ = λ equal. absurd (let e : true ≡ false = sym (eq-eqb got want equal) ∙ is in cc);
  },
  λ m g w at. omega arith,
)

alarm_is :
    (k : ℕ) (reports : List (Option ℕ)) (wanted : List ℕ) →
    IsAlarmFrom k reports wanted (alarm_from k reports wanted)
alarm_is k [] wanted = λ n got want at. absurd (let e : None ≡ Some got = at.reported in cc)
alarm_is k (x ∷ reports) [] =
    λ n got want at. absurd (let e : None ≡ Some want = at.wanted in cc)
alarm_is k (None ∷ reports) (want ∷ wanted) =
    by_later k None want reports wanted (alarm_from (k + 1) reports wanted)
    (λ g w at. absurd (let e : None ≡ Some g = at.reported in cc)) (alarm_is (k + 1) reports wanted)
alarm_is k (Some got ∷ reports) (want ∷ wanted) =
    by_first k got want reports wanted (alarm_from (k + 1) reports wanted) (got == want) refl
    (alarm_is (k + 1) reports wanted)

from_first :
    (reports : List (Option ℕ)) (wanted : List ℕ) (found : Option Alarm) →
    IsAlarmFrom 0 reports wanted found → IsAlarm reports wanted found
from_first reports wanted None none = none
from_first reports wanted (Some alarm) first =
    let here : first.0 ≡ alarm.frame = omega (arith, first.1) in
    let P : ℕ → Type 0 =
    λ n. DiffersAt reports wanted n alarm.got alarm.want
    × ((m got want : ℕ) → DiffersAt reports wanted m got want → n ≤ m) in
    subst P here (first.2, first.3)

-- The alarm is the least one.
pub least_alarm :
    (reports : List (Option ℕ)) (wanted : List ℕ) → IsAlarm reports wanted (alarm_of reports wanted)
least_alarm reports wanted =
    from_first reports wanted (alarm_of reports wanted) (alarm_is 0 reports wanted)
