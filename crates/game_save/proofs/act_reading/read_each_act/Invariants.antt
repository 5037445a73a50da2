-- What is still read after the held activities is what all of the bytes give.
use Rattle.std.proofs.Common.{◌≡◌, ◌-◌, [], length}
use Rattle.std.specs.List.{All}
use Rattle.game_model.specs.ValidWorld.{IsActivityOf}
use Rattle.game_save.specs.ActorReading.{next_act}
use Rattle.game_save.specs.Fields.{each_after}
use Rattle.game_save.proofs.act_reading.read_each_act.Given as goal

abbrev pub invariant-loop : goal.invariant-loop
invariant-loop l =
    record {
      rest :
          each_after (next_act l.map l.kind) l.acts (l.count - l.counter) l.c
          ≡ each_after (next_act l.map l.kind) [] l.count l.fn.c;
      many : length l.acts ≡ l.counter;
      valid : All (IsActivityOf l.map l.kind) l.acts;
    }
