-- The first flags are written.
use Rattle.std.proofs.Common.{◌≡◌, ◌++◌, map, take, drop, length}
use Rattle.std.specs.Prelude.{replicate}
use Rattle.game_orders.specs.Order.{flag_number}
use Rattle.c_worlds.proofs.heads.gone_of.Given as goal

abbrev pub invariant-loop-i : goal.invariant-loop-i
invariant-loop-i l =
    (l.out ≡ take l.i (map flag_number l.gone) ++ drop l.i (replicate 16 0)) × (length l.out ≡ 16)
