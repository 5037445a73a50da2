use Rattle.std.proofs.Common.{arith, ◌∙◌}
use Rattle.frame_table.proofs.KeptPasses.{joins}
use Rattle.frame_table.proofs.Calls.{joined_pass, meets_as, mine_grows, theirs_grows}
use Rattle.frame_table.proofs.table.FrameTable.join.Goals as goal

pub join_seat-requires : goal.join_seat-requires
join_seat-requires c =
    let table = c.args.self.now in
    let mine = c.requires.pass in
    let theirs = c.requires.other in
    (mine.same, theirs.same, theirs.free, (let words = table.words in let least = table.least in let most = table.most in omega arith), joins _ _ _ _ _ mine.share theirs.share)

pub load-requires : goal.load-requires
load-requires c =
    let table = c.args.self.now in
    let j = c.join_seat.ensures in (
      j.0 ∙ c.requires.pass.same,
      (let words = table.words in let least = table.least in let most = table.most in omega arith),
      meets_as _ _ _ _ _ _ c.requires.pass c.requires.other table.least j.2,
    )

pub returns-clause-pass : goal.returns-clause-pass
returns-clause-pass c =
    joined_pass _ _ _ _ c.requires.pass c.requires.other (c.load.ensures.0 ∙ c.join_seat.ensures.0) (c.load.ensures.2.0 ∙ c.join_seat.ensures.2)

pub returns-clause-mine : goal.returns-clause-mine
returns-clause-mine c = mine_grows _ _ _ (record { seat = c.load.new.seat }) c.requires.pass c.requires.other _ c.join_seat.ensures.2 c.load.ensures.2.0 c.load.ensures.2.1

pub returns-clause-theirs : goal.returns-clause-theirs
returns-clause-theirs c = theirs_grows _ _ _ (record { seat = c.load.new.seat }) c.requires.pass c.requires.other _ c.join_seat.ensures.2 c.load.ensures.2.0 c.load.ensures.2.1
