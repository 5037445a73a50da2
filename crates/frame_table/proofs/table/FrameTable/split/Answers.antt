use Rattle.std.proofs.Common.{arith}
use Rattle.frame_table.proofs.KeptPasses.{splits}
use Rattle.frame_table.proofs.Calls.{kept_pass, given_pass}
use Rattle.frame_table.proofs.table.FrameTable.split.Goals as goal

pub split_seat-seat-requires : goal.split_seat-seat-requires
split_seat-seat-requires c =
    let table = c.args.self.now in
    (c.requires.pass.same, (let words = table.words in let least = table.least in let most = table.most in omega arith), splits _ _ _ c.requires.share)

pub returns-clause-pass : goal.returns-clause-pass
returns-clause-pass c =
    let s = c.split_seat-seat.ensures in
    kept_pass _ _ _ c.requires.pass c.requires.share s.0 s.2

pub returns-clause-other : goal.returns-clause-other
returns-clause-other c =
    let s = c.split_seat-seat.ensures in
    given_pass _ _ _ c.requires.pass c.requires.share s.3 s.4
