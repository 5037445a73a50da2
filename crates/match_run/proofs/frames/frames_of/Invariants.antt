-- The greatest so far and the greatest of what is left are together the greatest of all.
use Rattle.std.proofs.Common.{◌≡◌, ◌≤◌, drop, max, length}
use Rattle.game_orders.specs.declared.limits.TheConstants.{MAX_FRAMES}
use Rattle.match_run.specs.Local.{frames_of}
use Rattle.match_run.proofs.frames.frames_of.Given as goal

abbrev pub invariant-loop-c : goal.invariant-loop-c
invariant-loop-c l =
    (max l.most (frames_of (drop l.c l.scripts)) ≡ frames_of l.scripts)
    × (l.most ≤ MAX_FRAMES) × (l.c-end ≡ length l.scripts)
