use Rattle.std.proofs.Common.{rules, ◌≡◌, ◌^◌, ◌<◌}
use Rattle.game_io.specs.Plan.{remains_at}
use Rattle.game_io.proofs.PlannedFaults.{faults_called, faults_failed, faults_kept}
use Rattle.game_io.proofs.schedule.Schedule.next.Goals as goal

pub returns-clause-later : goal.returns-clause-later
returns-clause-later c =
    let small : c.self.inside.calls < 2 ^ 64 = search rules in
    rw (← c.self.view_is) (faults_called c.self.inside.calls c.saturating_add-self-inside.result c.self.inside.failing.items c.self.inside.unplanned small c.saturating_add-self-inside.ensures)

pub returns-clause-rose : goal.returns-clause-rose
returns-clause-rose c =
    let is : c.remains_at-remains.result ≡ remains_at c.self.inside.calls c.self.inside.failing.items = search rules in
    rw (← c.self.view_is) (faults_failed c.self.inside.calls c.saturating_add-self-inside.result c.self.inside.failing.items c.self.inside.unplanned c.remains_at-remains.result c.remains_at-remains.ensures.small is c.saturating_add-self-inside.ensures)

pub returns-clause-steady : goal.returns-clause-steady
returns-clause-steady c =
    let small : c.self.inside.calls < 2 ^ 64 = search rules in
    let is : c.remains_at-remains.result ≡ remains_at c.self.inside.calls c.self.inside.failing.items = search rules in
    rw (← c.self.view_is) (faults_kept c.self.inside.calls c.saturating_add-self-inside.result c.self.inside.failing.items c.self.inside.unplanned c.remains_at-remains.result small is c.saturating_add-self-inside.ensures)
