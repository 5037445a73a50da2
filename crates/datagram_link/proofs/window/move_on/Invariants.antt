-- What was handed out so far, and what the window still begins with, is its first run.
use Rattle.std.proofs.Common.{◌≡◌, ◌+◌, ◌≤◌, ◌++◌, length, deque_len, deque_capacity}
use Rattle.datagram_link.specs.Window.{run_of, moved_on}
use Rattle.datagram_link.specs.declared.limits.TheConstants.{WINDOW}
use Rattle.datagram_link.proofs.window.move_on.Given as goal

abbrev pub invariant-loop-payload : goal.invariant-loop-payload
invariant-loop-payload l =
    record {
      count : l.count + length (run_of l.places.items) ≡ length (run_of l.fn.places.items);
      places : moved_on l.places.items ≡ moved_on l.fn.places.items;
      ready : l.ready.items ++ run_of l.places.items ≡ l.fn.ready.items ++ run_of l.fn.places.items;
      room : deque_len l.ready + length (run_of l.places.items) ≤ deque_capacity l.ready;
      few : length (run_of l.fn.places.items) ≤ WINDOW;
    }

abbrev pub decreases-loop-payload : goal.decreases-loop-payload
decreases-loop-payload l = length (run_of l.places.items)
