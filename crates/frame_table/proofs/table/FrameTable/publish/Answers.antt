use Rattle.std.proofs.Common.{arith, ◌∙◌}
use Rattle.frame_table.proofs.Stores.{stores_published}
use Rattle.frame_table.proofs.table.FrameTable.publish.Goals as goal

pub store-requires : goal.store-requires
store-requires c =
    let table = c.args.self.now in
    let e = c.exchange-none.ensures in (
      e.0 ∙ c.requires.same,
      (let words = table.words in let most = table.most in let client = c.requires.client in omega arith),
      stores_published _ _ _ _ _ c.requires.share _ c.requires.client _ _ _ e.3 c.requires.slots c.requires.becomes (c.word-word.ensures c.requires.becomes.after c.requires.becomes.is),
    )
