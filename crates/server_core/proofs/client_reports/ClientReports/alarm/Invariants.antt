-- No frame so far has an alarm.
use Rattle.std.proofs.Common.{◌≡◌, drop}
use Rattle.server_core.specs.Alarm.{alarm_from}
use Rattle.server_core.proofs.client_reports.ClientReports.alarm.Given as goal

abbrev pub invariant-loop-n : goal.invariant-loop-n
invariant-loop-n l =
    alarm_from l.n (drop l.n l.self) (drop l.n l.wanted) ≡ alarm_from 0 l.self l.wanted
