use Rattle.std.proofs.Common.{arith}
use Rattle.frame_table.proofs.KeptSteps.{loads}
use Rattle.frame_table.proofs.table.FrameTable.seen.Goals as goal

pub load-found-requires : goal.load-found-requires
load-found-requires c =
    let table = c.args.self.now in (
      c.requires.pass.same,
      (let words = table.words in let most = table.most in let client = c.requires.client in omega arith),
      loads _ _ _ _ _ c.requires.pass.share _ c.requires.client,
    )
