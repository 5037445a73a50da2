use Rattle.std.proofs.Common.{sym}
use Rattle.replay_file.proofs.FrameLemmas.{entry_written}
use Rattle.replay_file.proofs.part_writing.append_entries.Goals as goal

pub loop-client-preserved : goal.loop-client-preserved
loop-client-preserved c =
    entry_written c.args.frame.now c.loop-client.client c.in-Some.entry.now c.args.out.now.items
    c.loop-client.out.items c.append_entry.new.out.items (sym c.in-Some.ensures.value)
    c.loop-client.invariant c.in_ok-append_entry.ensures.ok
