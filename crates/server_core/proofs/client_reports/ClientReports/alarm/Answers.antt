use Rattle.std.proofs.Common.{◌≡◌, ◌+◌, ◌≤◌, ◌<◌, ◌⊎◌, arith, true, false, ap, sym, ◌∙◌}
use Rattle.std.proofs.Common.{length, get_or, drop}
use Rattle.std.specs.Prelude.{None, is_some}
use Rattle.server_core.specs.Alarm.{alarm_here, alarm_from}
use Rattle.server_core.proofs.AlarmLemmas.{alarm_step, none_here, some_here, alarm_end, read_at}
use Rattle.server_core.proofs.client_reports.ClientReports.alarm.Goals as goal

pub loop-n-preserved : goal.loop-n-preserved
loop-n-preserved c =
    let n = c.loop-n.n in
    let reports = c.args.self.now in
    let wanted = c.args.wanted.now in
    let whole : length c.self.inside.held.items ≡ length reports = ap length c.self.view_is in
    let below : n < length reports = omega (arith, whole, c.self.inside.held.ok.0) in
    let marked : n < length wanted = omega arith in
    let got : c.index.result.now ≡ get_or reports n None =
    read_at c.self.inside.held.items n c.index.result.now None (omega (arith, below, whole))
    c.index.ensures
    ∙ ap (λ xs. get_or xs n None) c.self.view_is in
    let later = alarm_from (n + 1) (drop (n + 1) reports) (drop (n + 1) wanted) in
    let none : is_some (alarm_here n (get_or reports n None) (get_or wanted n 0) None) ≡ false =
    ap (λ o. is_some (alarm_here n o (get_or wanted n 0) None)) (sym got)
    ∙ ap is_some (sym c.alarm_at-found.ensures)
    ∙ sym c.is_some.ensures ∙ c.if-is_some.false in
    sym (none_here n (get_or reports n None) (get_or wanted n 0) later none)
    ∙ sym (alarm_step n reports wanted below marked)
    ∙ c.loop-n.invariant

pub returns-then-is_some : goal.returns-then-is_some
returns-then-is_some c =
    let n = c.loop-n.n in
    let reports = c.args.self.now in
    let wanted = c.args.wanted.now in
    let whole : length c.self.inside.held.items ≡ length reports = ap length c.self.view_is in
    let below : n < length reports = omega (arith, whole, c.self.inside.held.ok.0) in
    let marked : n < length wanted = omega arith in
    let got : c.index.result.now ≡ get_or reports n None =
    read_at c.self.inside.held.items n c.index.result.now None (omega (arith, below, whole))
    c.index.ensures
    ∙ ap (λ xs. get_or xs n None) c.self.view_is in
    let later = alarm_from (n + 1) (drop (n + 1) reports) (drop (n + 1) wanted) in
    let found :
    c.alarm_at-found.result ≡ alarm_here n (get_or reports n None) (get_or wanted n 0) None =
    c.alarm_at-found.ensures ∙ ap (λ o. alarm_here n o (get_or wanted n 0) None) got in
    let some : is_some (alarm_here n (get_or reports n None) (get_or wanted n 0) None) ≡ true =
    ap is_some (sym found) ∙ sym c.is_some.ensures ∙ c.if-is_some.true in
    found
    ∙ some_here n (get_or reports n None) (get_or wanted n 0) later some
    ∙ sym (alarm_step n reports wanted below marked)
    ∙ c.loop-n.invariant

pub returns : goal.returns
returns c =
    let n = c.loop-n.n in
    let reports = c.args.self.now in
    let wanted = c.args.wanted.now in
    let whole : length c.self.inside.held.items ≡ length reports = ap length c.self.view_is in
    let past : (length reports ≤ n) ⊎ (length wanted ≤ n) =
    grind (arith, whole, c.self.inside.held.ok.0) in
    sym (alarm_end n reports wanted past) ∙ c.loop-n.invariant
