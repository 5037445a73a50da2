use Rattle.std.proofs.Common.{◌∙◌, ◌∷◌, [], Some, ap, sym}
use Rattle.atomic_table.specs.Table.{rest}
use Rattle.frame_table.proofs.table.FrameTable.lock.Goals as goal

pub exchange-requires : goal.exchange-requires
exchange-requires g c =
    let taken = c.wait_for.ensures.taken in (
      c.wait_for.ensures.same ∙ c.requires.same,
      (Some (taken.column ∷ []), taken.slots ∙ ap (λ l. (c.args.c, Some (taken.column ∷ [])) ∷ l) (sym (ap rest taken.slots))),
    )
