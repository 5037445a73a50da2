use Rattle.std.proofs.Common.{◌≡◌, true, false}
use Rattle.world_units.specs.Cells.{same_cell}
use Rattle.world_units.specs.CellEquality.{cell_decides}
use Rattle.game_model.specs.Walks.{land_of}
use Rattle.rule_commands.proofs.RouteLemmas.{at_goal_none, walk_is}
use Rattle.rule_commands.proofs.routes.find_route.Goals as goal

-- The start is the goal.
pub returns-then-eq : goal.returns-then-eq
returns-then-eq c =
    let same : same_cell c.args.from c.args.goal ≡ true = cc (c.eq.ensures, c.if-eq.true) in
    at_goal_none c.args.map.now (land_of c.args.map.now c.args.blocks.now c.args.costs.now c.args.goal) c.args.from
    ((cell_decides c.args.from c.args.goal).0 same)

-- The walk that was found, or none.
pub returns : goal.returns
returns c =
    let other : same_cell c.args.from c.args.goal ≡ false = cc (c.eq.ensures, c.if-eq.false) in
    walk_is c.args.map.now c.args.blocks.now c.args.costs.now c.args.goal c.args.from c.walk.result c.requires.terrain
    (λ same. let met : same_cell c.args.from c.args.goal ≡ true = (cell_decides c.args.from c.args.goal).1 same in absurd cc)
    c.walk.ensures.route
