use Rattle.thread_tests.proofs.TablePasses.{given_feeds, kept_free}
use Rattle.thread_tests.proofs.tables.kicked.Goals as goal

pub loop-n-init : goal.loop-n-init
loop-n-init g c =
    let made = c.in_ok-table.ensures in
    given_feeds _ _ c.in_ok-table.kicker _ made.clients made.feeds c.split-feeder.ensures.other c.split-feeder.ensures.given

pub leave-requires-clause-free : goal.leave-requires-clause-free
leave-requires-clause-free g c =
    let made = c.in_ok-table.ensures in
    kept_free _ _ _ c.in_ok-table.kicker made.clients made.feeds c.split-feeder.ensures.pass c.split-feeder.ensures.kept
