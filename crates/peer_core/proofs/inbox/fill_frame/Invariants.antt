-- The frame so far and what the clients that are left have make up the whole frame.
use Rattle.std.proofs.Common.{◌≡◌, ◌-◌, ◌++◌, length}
use Rattle.frame_core.specs.Ready.{frame_of}
use Rattle.peer_core.specs.Arrived.{each_of, frame_by}
use Rattle.peer_core.specs.Entries.{all_arrived}
use Rattle.peer_core.proofs.inbox.fill_frame.Given as goal

abbrev pub invariant-loop-c : goal.invariant-loop-c
invariant-loop-c l =
    (l.frame ++ frame_of (each_of (all_arrived 0 l.entries) l.c (l.clients - l.c) l.n) ≡ frame_by
    (all_arrived 0 l.entries) l.clients l.n)
    × (length l.frame ≡ l.c)
