-- Actors that are read one after the other.
use Rattle.std.proofs.Common.{◌≡◌, ◌≢◌, ℕ, zero, suc, ◌+◌, ◌<◌, ◌≤◌, List, [], ◌∷◌, ◌++◌, get_or}
use Rattle.std.proofs.Common.{Bool, true, false, ◌||◌}
use Rattle.std.proofs.Common.{refl, sym, subst, length, arith, Some}
use Rattle.std.specs.List.{All}
use Rattle.std.proofs.lemmas.List.Elements.{All-nil, All-push}
use Rattle.std.proofs.lemmas.List.Quantifiers.{all_pairs_push}
use Rattle.world_units.specs.declared.cell.CPos.{CPos}
use Rattle.world_units.specs.Cells.{same_cell}
use Rattle.world_units.specs.CellEquality.{cell_decides}
use Rattle.rule_traits.specs.declared.kind.Kind.{Kind}
use Rattle.rule_traits.specs.Rules.{kind_at}
use Rattle.game_model.specs.declared.actor.Actor.{Actor}
use Rattle.game_model.specs.declared.actor.Body.{Body}
use Rattle.game_model.specs.declared.limits.TheConstants.{MAX_ACTORS}
use Rattle.game_model.specs.declared.world.Head.{Head}
use Rattle.game_model.specs.Grid.{Grid}
use Rattle.game_model.specs.Setup.{Setup}
use Rattle.game_model.specs.ValidMap.{IsOreOf}
use Rattle.game_model.specs.ValidWorld.{IsValidActor, IsValidWorld}
use Rattle.game_model.specs.World.{is_occupied, world_with}
use Rattle.game_save.specs.ActorReading.{id_from}
use Rattle.game_save.specs.Crew.{AreJoined, IsPlaced, MayJoin}
use Rattle.game_save.specs.Fields.{IsWithin}
use Rattle.game_save.specs.WorldReading.{IsHeadAfter}

-- The least id after one more actor.
pub id_after_one : (least : ℕ) (held : List Actor) (a : Actor) → id_from least (held ++ a ∷ []) ≡ a.id + 1
id_after_one least [] a = refl
id_after_one least (b ∷ held) a = id_after_one (b.id + 1) held a

-- Nobody.
pub joined_none : (setup : Setup) (clients next_id : ℕ) → AreJoined setup clients next_id []
joined_none setup clients next_id =
    record {
      valid = All-nil _;
      rise = λ i j d less within. absurd (omega arith);
      apart = λ i j d less within. absurd (omega arith);
      below = All-nil _;
    }

neither : (a b : Bool) → (a || b) ≡ false → (a ≡ false) × (b ≡ false)
neither true b is = absurd cc
neither false b is = (refl, is)

-- A free cell is that of none of them.
not_its_cell :
    (held : List Actor) (p : CPos) (k : ℕ) (d : Actor) → is_occupied held p ≡ false →
    k < length held → (get_or held k d).cell ≢ p
not_its_cell [] p k d free within = absurd (omega arith)
not_its_cell (a ∷ held) p zero d free within =
    λ same.
    let yes : same_cell a.cell p ≡ true = (cell_decides a.cell p).1 same in
    let no : same_cell a.cell p ≡ false =
    (neither (same_cell a.cell p) (is_occupied held p) free).0 in
    cc
not_its_cell (a ∷ held) p (suc k) d free within =
    not_its_cell held p k d (neither (same_cell a.cell p) (is_occupied held p) free).1
    (omega arith)

-- One more.
pub joined_more :
    (setup : Setup) (clients next_id : ℕ) (held : List Actor) (a : Actor) →
    AreJoined setup clients next_id held → MayJoin setup clients next_id held a →
    AreJoined setup clients next_id (held ++ a ∷ [])
joined_more setup clients next_id held a are may =
    record {
      valid = All-push (IsValidActor setup clients next_id) held a are.valid may.valid;
      rise =
          all_pairs_push (λ (b c : Actor). b.id < c.id) held a are.rise
          (λ k d within. omega (arith, are.below k d within, may.rises));
      apart =
          all_pairs_push (λ (b c : Actor). b.cell ≢ c.cell) held a are.apart
          (λ k d within. not_its_cell held a.cell k d may.free within);
      below =
          subst (λ (n : ℕ). All (λ (b : Actor). b.id < n) (held ++ a ∷ []))
          (sym (id_after_one 1 held a))
          (All-push (λ (b : Actor). b.id < a.id + 1) held a
          (λ k d within. omega (arith, are.below k d within, may.rises)) (omega arith));
    }

-- An actor that was read may follow.
least_id : (least : ℕ) (held : List Actor) → 1 ≤ least → 1 ≤ id_from least held
least_id least [] some = some
least_id least (a ∷ held) some = least_id (a.id + 1) held (omega arith)

pub may_join :
    (setup : Setup) (clients next_id : ℕ) (held : List Actor) (least id number : ℕ)
    (kind : Kind) (cell : CPos) (body : Body) → least ≡ id_from 1 held →
    kind_at setup.rules number ≡ Some kind → IsWithin least next_id id → IsPlaced setup clients kind held cell body →
    MayJoin setup clients next_id held (record { id = id; kind = number; cell = cell; body = body })
may_join setup clients next_id held least id number kind cell body is found within placed =
    record {
      valid =
          record {
            sound =
                record {
                  least_id = omega (arith, least_id 1 held (omega arith), within.from, is);
                  most_id = within.below;
                  owner = placed.owner;
                  cell = placed.on_map;
                  facing = placed.facing;
                  body = rw found placed.sound;
                };
            health = rw found placed.health;
          };
      rises = omega (arith, within.from, is);
      free = placed.free;
    }

-- A world with a head, actors and ore of a valid one.
pub valid_world :
    (setup : Setup) (frames : ℕ) (head : Head) (actors : List Actor) (ore : Grid ℕ) →
    IsHeadAfter frames head → AreJoined setup (length head.cash) head.next_id actors →
    length actors ≤ MAX_ACTORS → IsOreOf setup.map.width setup.map.height ore →
    IsValidWorld setup frames (world_with head actors ore)
valid_world setup frames head actors ore is are few whole =
    record {
      ore = whole;
      least_tick = is.least_tick;
      most_tick = is.most_tick;
      drawn = is.drawn;
      pace = is.pace;
      clients = is.clients;
      cash = is.cash;
      actors =
          record {
            each = λ k d within. (are.valid k d within).sound;
            rise = are.rise;
            apart = are.apart;
            count = few;
            next = is.next;
          };
      health = λ k d within. (are.valid k d within).health;
    }
