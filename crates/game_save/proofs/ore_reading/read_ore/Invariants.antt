-- What is still read after the ore of the first cells is what all of the bytes give.
use Rattle.std.proofs.Common.{◌≡◌, ◌-◌, ◌*◌, ◌≤◌, [], length, take}
use Rattle.std.specs.List.{All}
use Rattle.game_model.specs.declared.limits.TheConstants.{MAX_ORE}
use Rattle.game_model.specs.Grid.{HasSize}
use Rattle.game_save.specs.Fields.{each_after}
use Rattle.game_save.specs.WorldReading.{next_ore}
use Rattle.game_save.proofs.ore_reading.read_ore.Given as goal

abbrev pub invariant-loop-place : goal.invariant-loop-place
invariant-loop-place l =
    record {
      rest :
          each_after next_ore (take l.place l.ore.cells) (l.place-end - l.place) l.c
          ≡ each_after next_ore [] l.place-end l.fn.c;
      size : HasSize l.width l.height l.ore;
      whole : length l.ore.cells ≡ l.place-end;
      end : l.place-end ≡ l.width * l.height;
      most : All (λ bales. bales ≤ MAX_ORE) (take l.place l.ore.cells);
    }
