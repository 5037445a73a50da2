use Rattle.std.proofs.Common.{◌-◌, arith}
use Rattle.frame_core.proofs.StoredPlaysLemmas.{lent_full}
use Rattle.frame_core.proofs.stored_plays.lent.Goals as goal

pub returns-else-place-eq0 : goal.returns-else-place-eq0
returns-else-place-eq0 c =
    let some = c.if-place-eq0.false in
    lent_full c.args.full.now (c.args.place - 1) c.args.place _ (omega arith) c.requires.there c.requires.plays c.index-full-place.is
