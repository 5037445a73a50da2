-- The plays stay the same, each early one has room in the column, and they stand at its end or
-- after it.
use Rattle.std.proofs.Common.{◌≡◌, ◌+◌, ◌≤◌, length}
use Rattle.std.specs.Vec.{vec_len, vec_capacity}
use Rattle.std.specs.BTreeMap.{btree_map_len}
use Rattle.peer_core.specs.Entries.{stored_plays, IsFrom}
use Rattle.peer_core.proofs.plays.close_gap.Given as goal

abbrev pub invariant-loop-orders : goal.invariant-loop-orders
invariant-loop-orders l =
    (vec_len l.column + btree_map_len l.early ≤ vec_capacity l.column)
    × IsFrom (length l.column.items) l.early.entries
    × (stored_plays l.column.items l.early.entries
    ≡ stored_plays l.initial.column.items l.initial.early.entries)

abbrev pub decreases-loop-orders : goal.decreases-loop-orders
decreases-loop-orders l = btree_map_len l.early
