-- What is still read after the held builds is what all of the bytes give.
use Rattle.std.proofs.Common.{◌≡◌, ◌-◌, [], length}
use Rattle.std.specs.List.{All}
use Rattle.game_save.specs.ActorReading.{next_build, IsProductOf}
use Rattle.game_save.specs.Fields.{each_after}
use Rattle.game_save.proofs.build_reading.read_each_build.Given as goal

abbrev pub invariant-loop : goal.invariant-loop
invariant-loop l =
    record {
      rest :
          each_after (next_build l.rules) l.builds (l.count - l.counter) l.c
          ≡ each_after (next_build l.rules) [] l.count l.fn.c;
      many : length l.builds ≡ l.counter;
      valid : All (IsProductOf l.rules) l.builds;
    }
