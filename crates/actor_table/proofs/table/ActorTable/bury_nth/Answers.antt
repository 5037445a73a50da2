use Rattle.std.proofs.Common.{◌≡◌, true, false, ap, arith}
use Rattle.std.proofs.lemmas.Bool.Decides.{nat_tests}
use Rattle.game_model.specs.World.{is_alive}
use Rattle.actor_table.proofs.TableCalls.{dead_taken, living_stays}
use Rattle.actor_table.proofs.table.ActorTable.bury_nth.Goals as goal

pub returns-then-a-eq0 : goal.returns-then-a-eq0
returns-then-a-eq0 c =
    let held = c.self.inside in
    let a = c.actor_at-a.result.now in
    let dead : is_alive a ≡ false = grind (arith, nat_tests, c.if-a-eq0.true) in
    let taken = dead_taken 0 held.roster c.args.i a c.actor_at-a.ensures.rises c.actor_at-a.ensures.value dead in
    rw (c.remove-gone.ensures.rest, ← c.self.view_is) (ap (λ xs. record { width = held.cells.width; height = held.cells.height; actors = xs }) taken)

pub returns-else-a-eq0 : goal.returns-else-a-eq0
returns-else-a-eq0 c =
    let held = c.self.inside in
    let a = c.actor_at-a.result.now in
    let lives : is_alive a ≡ true = grind (arith, nat_tests, c.if-a-eq0.false) in
    let stays = living_stays held.roster c.args.i a c.actor_at-a.ensures.value lives in
    rw (← c.self.view_is) (ap (λ xs. record { width = held.cells.width; height = held.cells.height; actors = xs }) stays)
