use Rattle.actor_table.proofs.TableCalls.{indexed_none}
use Rattle.actor_table.proofs.KindLists.{lists_none}
use Rattle.game_model.specs.declared.limits.TheConstants.{MAX_ACTORS}
use Rattle.std.proofs.Common.{[]}
use Rattle.actor_table.proofs.IdleCalls.{idle_none}
use Rattle.actor_table.proofs.table.ActorTable.create.Goals as goal

pub invariant_of-result : goal.invariant_of-result
invariant_of-result c =
    rw (c.in_ok-create-2.ensures, c.in_ok-create.ensures, c.in_ok-create-3.ensures, c.in_ok-create-4.ensures) (record {
      indexed = indexed_none c.args.w c.args.h;
      listed = lists_none;
      marked = idle_none MAX_ACTORS [];
    })
