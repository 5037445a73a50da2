use Rattle.std.proofs.Common.{arith, [], ◌∷◌}
use Rattle.std.proofs.lemmas.List.{length-append}
use Rattle.replay_file.proofs.EntriesLemmas.{entry_is_held, entries_spelled, one_more_stays}
use Rattle.replay_file.proofs.EntriesLemmas.{one_more_known}
use Rattle.replay_file.specs.PartKind.{entry_by}
use Rattle.replay_file.specs.PartReading.{entries_after}
use Rattle.replay_file.proofs.part_reading.read_entries.Goals as goal

pub loop-gone-preserved : goal.loop-gone-preserved
loop-gone-preserved c =
    let held = c.loop-gone.frame in
    let entry = entry_by c.in_ok-plays.plays c.read_entry.new.orders in
    let next = c.read_entry.new.c in
    let greatest = c.args.greatest in
    let departed = c.args.departed.now in
    rw c.push_entry.ensures (
      entry_is_held greatest held departed c.loop-gone.gone-index _ c.loop-gone.c next entry
          (entries_after greatest [] departed c.args.c.now) c.loop-gone-test.true
          c.in_ok-plays.ensures.reads c.loop-gone.invariant.0,
      omega (arith, length-append held (entry ∷ []), c.loop-gone.invariant.1),
      entries_spelled held entry c.args.c.now c.loop-gone.c next c.loop-gone.invariant.2
          c.in_ok-plays.ensures.spelled,
      one_more_stays departed c.loop-gone.gone-index _ held entry c.loop-gone-test.true
          c.loop-gone.invariant.3 c.in_ok-plays.ensures.follows,
      one_more_known greatest held entry c.loop-gone.invariant.4 c.in_ok-plays.ensures.known,
    )
