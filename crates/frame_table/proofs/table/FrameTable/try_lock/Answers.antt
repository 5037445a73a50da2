use Rattle.std.proofs.Common.{◌≡◌, ◌%◌, rules, arith}
use Rattle.frame_table.proofs.KeptSteps.{takes_lock}
use Rattle.frame_table.proofs.table.FrameTable.try_lock.Goals as goal

pub compare_exchange-found-requires : goal.compare_exchange-found-requires
compare_exchange-found-requires c =
    let table = c.args.self.now in
    let even : c.peek-word.result % 2 ≡ 0 = search rules in (
      c.requires.same,
      (let words = table.words in let most = table.most in let client = c.requires.client in omega arith),
      takes_lock _ _ _ _ _ c.requires.share _ c.requires.client _ even,
    )
