use Rattle.std.proofs.Common.{◌≡◌, true, false, sym, arith}
use Rattle.std.proofs.lemmas.Bool.Decides.{nat_tests}
use Rattle.game_model.specs.World.{is_alive}
use Rattle.game_model.proofs.LivingLemmas.{living_found, living_none}
use Rattle.actor_table.proofs.table.ActorTable.living.Goals as goal

pub returns-in_default-clause-living : goal.returns-in_default-clause-living
returns-in_default-clause-living c = sym (living_none c.args.self.now.actors c.args.id c.in_default.ensures)

pub returns-then-a-gt0-clause-living : goal.returns-then-a-gt0-clause-living
returns-then-a-gt0-clause-living c =
    let lives : is_alive c.in-Some.a.now ≡ true = grind (arith, nat_tests) in
    sym (rw lives at (living_found c.args.self.now.actors c.args.id c.in-Some.a.now c.len-ids_rise.ensures.list.rise c.in-Some.ensures))

pub returns-else-a-gt0-clause-living : goal.returns-else-a-gt0-clause-living
returns-else-a-gt0-clause-living c =
    let dead : is_alive c.in-Some.a.now ≡ false = grind (arith, nat_tests) in
    sym (rw dead at (living_found c.args.self.now.actors c.args.id c.in-Some.a.now c.len-ids_rise.ensures.list.rise c.in-Some.ensures))
