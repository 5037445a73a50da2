use Rattle.std.proofs.Common.{arith, ◌≡◌, []}
use Rattle.replay_file.specs.PartKind.{part_of}
use Rattle.replay_file.specs.PartStore.{parts_in}
use Rattle.replay_file.proofs.StoreLemmas.{none_left, never_bad, part_taken}
use Rattle.replay_file.proofs.part_cursor.take_first.Goals as goal

pub returns-then-left-eq0-clause-taken : goal.returns-then-left-eq0-clause-taken
returns-then-left-eq0-clause-taken c =
    let none : parts_in c.args.left.now ≡ [] = none_left c.args.left.now (omega arith) in
    (none, none)

pub unreachable-requires : goal.unreachable-requires
unreachable-requires c =
    never_bad c.args.left.now c.in_default.field-0 c.requires (omega arith) c.in_default.ensures

pub returns-clause-taken : goal.returns-clause-taken
returns-clause-taken c =
    (part_taken c.args.left.now c.read_stored.new.c
    (part_of c.in-Ok.kind c.read_stored.new.frame) c.requires (omega arith) c.in-Ok.ensures).first

pub returns-clause-ends : goal.returns-clause-ends
returns-clause-ends c =
    (part_taken c.args.left.now c.read_stored.new.c
    (part_of c.in-Ok.kind c.read_stored.new.frame) c.requires (omega arith) c.in-Ok.ensures).ends
