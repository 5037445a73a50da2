use Rattle.frame_table.proofs.Calls.{may_publish, put_is}
use Rattle.frame_table.proofs.Becoming.{put_becomes}
use Rattle.frame_table.proofs.table.FrameTable.put_play.Goals as goal

pub publish-requires-clause-becomes : goal.publish-requires-clause-becomes
publish-requires-clause-becomes g c =
    let locked = c.lock-column.ensures.locked in
    may_publish _ _ _ _ _ locked _ (put_is _ _ _ _ _ locked.is c.in-Ok.ensures.after) (put_becomes _ _ locked.found _ _ c.requires.may)
