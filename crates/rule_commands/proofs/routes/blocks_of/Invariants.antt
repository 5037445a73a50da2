-- What is blocked, with the buildings that are left, is all.
use Rattle.std.proofs.Common.{◌≡◌, drop}
use Rattle.rule_commands.specs.Routes.{with_buildings, blocks_of}
use Rattle.rule_commands.proofs.routes.blocks_of.Given as goal

abbrev pub invariant-loop-start : goal.invariant-loop-start
invariant-loop-start l =
    (with_buildings l.rules (drop l.start-index l.starts) l.blocks ≡ blocks_of l.fn.rules l.fn.map)
    × (l.blocks.width ≡ l.fn.map.width)
    × (l.blocks.height ≡ l.fn.map.height)
    × (l.starts ≡ l.fn.map.starts)
    × (l.rules ≡ l.fn.rules)
