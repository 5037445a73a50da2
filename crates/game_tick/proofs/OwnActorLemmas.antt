-- Proofs about the living actor that a client owns, and valid worlds with other actors and cash.
use Rattle.std.specs.Prelude.{◌≡◌, ℕ, ◌==◌, ◌≤◌, Bool, true, false, if◌then◌else◌, List, Option}
use Rattle.std.specs.Prelude.{Some, None, refl}
use Rattle.std.specs.List.{All}
use Rattle.std.proofs.Common.{sym, ◌∙◌, ap, subst, arith}
use Rattle.std.proofs.lemmas.Bool.{eqb-true}
use Rattle.std.proofs.lemmas.List.Elements.{All-from_get_or}
use Rattle.game_model.specs.declared.actor.Actor.{Actor}
use Rattle.game_model.specs.declared.limits.TheConstants.{MAX_CASH}
use Rattle.game_model.specs.declared.world.World.{World}
use Rattle.game_model.specs.Setup.{Setup}
use Rattle.game_model.specs.ValidWorld.{IsHealthy, IsWorldWithin, StepReady}
use Rattle.game_model.specs.World.{clients_of, living_of}
use Rattle.game_tick.specs.Keeps.{KeepsCash}
use Rattle.game_tick.specs.Orders.{if_owned, own_of}
use Rattle.game_tick.proofs.ChangesLemmas.{Stands, living_stands}

-- The client's own living actor is the living actor of its id.
owned_by :
    (mine : Bool) (client : ℕ) (b a : Actor) → (b.body.owner == client) ≡ mine →
    (if mine then Some b else None) ≡ Some a → (b ≡ a) × (b.body.owner ≡ client)
owned_by true client b a is found = (grind arith, eqb-true b.body.owner client is)
owned_by false client b a is found = absurd cc

pub owned_living :
    (client : ℕ) (found : Option Actor) (a : Actor) → if_owned client found ≡ Some a →
    (found ≡ Some a) × (a.body.owner ≡ client)
owned_living client None a is = absurd cc
owned_living client (Some b) a is =
    let (same, owner) = owned_by (b.body.owner == client) client b a refl is in
    (ap Some same, subst (λ (c : Actor). c.body.owner ≡ client) same owner)

-- What stands in a valid world.
abbrev pub Lives : Setup → World → Actor → Type 0
Lives setup w a = Stands setup (clients_of w) w.next_id (IsHealthy setup.rules) w.actors a

pub own_lives :
    (setup : Setup) (least most draws : ℕ) (w : World) (client id : ℕ) (a : Actor) →
    IsWorldWithin setup least most draws w → own_of w.actors client id ≡ Some a →
    Lives setup w a × (a.body.owner ≡ client)
own_lives setup least most draws w client id a valid found =
    let (living, owner) = owned_living client (living_of w.actors id) a found in (
      living_stands setup (clients_of w) w.next_id (IsHealthy setup.rules) w.actors id a
          valid.actors valid.health living,
      owner,
    )

-- A valid world with other actors and other cash.
pub valid_with :
    (setup : Setup) (least most draws : ℕ) (w : World) (actors : List Actor) (cash : List ℕ) →
    IsWorldWithin setup least most draws w → KeepsCash w.cash cash →
    StepReady setup (clients_of w) w.next_id actors → All (IsHealthy setup.rules) actors →
    IsWorldWithin setup least most draws (record w { actors = actors; cash = cash })
valid_with setup least most draws w actors cash valid keeps ready healthy =
    record {
      ore = valid.ore;
      least_tick = valid.least_tick;
      most_tick = valid.most_tick;
      drawn = valid.drawn;
      pace = valid.pace;
      clients =
          record {
            least = omega (arith, valid.clients.least, keeps.clients);
            most = omega (arith, valid.clients.most, keeps.clients);
            flags = valid.clients.flags ∙ sym keeps.clients;
          };
      cash =
          All-from_get_or (λ c. c ≤ MAX_CASH) cash 0
          (λ k within.
          omega (arith, keeps.most k, valid.cash k 0 (omega (arith, within, keeps.clients))));
      actors = subst (λ c. StepReady setup c w.next_id actors) (sym keeps.clients) ready;
      health = healthy;
    }
