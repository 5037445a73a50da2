use Rattle.std.proofs.Common.{arith, ◌∙◌}
use Rattle.frame_table.proofs.Stores.{stores_given}
use Rattle.frame_table.proofs.table.FrameTable.give_back.Goals as goal

pub store-requires : goal.store-requires
store-requires c =
    let table = c.args.self.now in
    let e = c.exchange-none.ensures in
    let h = c.requires.held in (
      e.0 ∙ c.requires.same,
      (let words = table.words in let most = table.most in let client = c.requires.client in omega arith),
      stores_given _ _ _ _ _ c.requires.share _ c.requires.client _ _ _ e.3 c.requires.slots h.0 h.1 h.2 (c.word-word.ensures h.0 h.2),
    )
