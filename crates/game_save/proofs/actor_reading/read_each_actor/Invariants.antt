-- What is still read after the held actors is what all of the bytes give.
use Rattle.std.proofs.Common.{◌≡◌, ◌-◌, [], length}
use Rattle.game_save.specs.ActorReading.{actor_in, id_from}
use Rattle.game_save.specs.Crew.{AreJoined}
use Rattle.game_save.specs.Fields.{each_after}
use Rattle.game_save.specs.ReadSave.{setup_with}
use Rattle.game_save.proofs.actor_reading.read_each_actor.Given as goal

abbrev pub invariant-loop : goal.invariant-loop
invariant-loop l =
    record {
      rest :
          each_after (actor_in (setup_with l.rules l.map) l.clients l.next_id) l.crew.actors
          (l.count - l.counter) l.c
          ≡ each_after (actor_in (setup_with l.rules l.map) l.clients l.next_id) [] l.count l.fn.c;
      many : length l.crew.actors ≡ l.counter;
      width : l.crew.width ≡ l.map.width;
      height : l.crew.height ≡ l.map.height;
      least : l.least ≡ id_from 1 l.crew.actors;
      joined : AreJoined (setup_with l.rules l.map) l.clients l.next_id l.crew.actors;
    }
