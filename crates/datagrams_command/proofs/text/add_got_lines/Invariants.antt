-- The lines so far, and those of what is still to be popped, are the whole.
use Rattle.std.proofs.Common.{◌≡◌, ◌++◌, length}
use Rattle.datagrams_command.specs.Text.{got_lines}
use Rattle.datagrams_command.proofs.text.add_got_lines.Given as goal

abbrev pub invariant-loop-payload : goal.invariant-loop-payload
invariant-loop-payload l =
    record {
      whole : l.text.items ++ got_lines l.exchange.receiver.ready
          ≡ l.fn.text.items ++ got_lines l.fn.exchange.receiver.ready;
      sender : l.exchange.sender ≡ l.fn.exchange.sender;
      next : l.exchange.receiver.next ≡ l.fn.exchange.receiver.next;
    }

abbrev pub decreases-loop-payload : goal.decreases-loop-payload
decreases-loop-payload l = length l.exchange.receiver.ready
