-- A part of an actor's body changed: the cells and the entries stay right.
use Rattle.std.proofs.Common.{◌≡◌, ℕ, eqb, Bool, true, false, List, set, Option, Some, None, is_some, refl, ap, arith}
use Rattle.std.specs.Option.{option_map}
use Rattle.std.proofs.lemmas.Bool.Decides.{nat_tests}
use Rattle.game_model.specs.declared.actor.Actor.{Actor}
use Rattle.game_model.specs.declared.actor.Body.{Body}
use Rattle.game_model.specs.Grid.{Grid}
use Rattle.game_model.specs.World.{actor_of}
use Rattle.game_model.specs.ActorChanges.{changed_at, with_body}
use Rattle.game_model.proofs.FoundLemmas.{IdsRise, changed_as}
use Rattle.actor_table.specs.Kinds.{MovesId, owner_and_kind_of}
use Rattle.actor_table.specs.Search.{IsAt}
use Rattle.actor_table.specs.Table.{IsTied}
use Rattle.actor_table.specs.declared.listed.Listed.{Listed}
use Rattle.actor_table.proofs.Holders.{ActorsRise}
use Rattle.actor_table.proofs.Rising.{rises_pair}
use Rattle.actor_table.proofs.TableCalls.{indexed_body}
use Rattle.actor_table.proofs.KindLists.{lists_body}
use Rattle.actor_table.proofs.IdleCalls.{idle_body}

-- The change of an actor makes another body of it, of the same owner.
pub record ChangesBody (f : Actor → Actor) : Type 0 where
  pub body : (a : Actor) → f a ≡ record a { body = (f a).body }
  pub owner : (a : Actor) → (f a).body.owner ≡ a.body.owner

all_rise : (actors : List Actor) → ActorsRise 0 actors → IdsRise actors
all_rise actors rises i j d lt within = rises_pair (λ (a : Actor). a.id) 0 actors i j d rises lt within

there : (found : Option Actor) → is_some found ≡ true → (a : Actor) × (found ≡ Some a)
there (Some a) is = (a, refl)
there None is = absurd cc

stays_listed :
    (entries : List Listed) (owner same kind id : ℕ) → same ≡ owner → MovesId entries entries owner same kind id
stays_listed entries owner same kind id is o k =
    let equal : eqb owner same ≡ true = grind (arith, nat_tests, is) in
    rw equal refl

pub tied_part :
    (cells : Grid (Option ℕ)) (entries : List Listed) (idle : List Bool) (actors : List Actor) (id at : ℕ)
    (f : Actor → Actor) → IsTied cells entries idle actors → ActorsRise 0 actors → IsAt actors id at →
    is_some (actor_of actors id) ≡ true → ChangesBody f → IsTied cells entries (set idle at false) (changed_at actors id f)
tied_part cells entries idle actors id at f tied rises stands is changes =
    let a = there (actor_of actors id) is in
    let body : Body = (f a.0).body in
    let same : changed_at actors id f ≡ with_body actors id body =
    changed_as actors id a.0 f (λ (x : Actor). record x { body = body }) (all_rise actors rises) a.1 (changes.body a.0) in
    rw same (record {
      indexed = indexed_body cells actors id body tied.indexed;
      listed = lists_body entries entries actors id body a.0.body.owner a.0.kind tied.listed rises
          (ap (option_map owner_and_kind_of) a.1) (omega arith)
          (stays_listed entries a.0.body.owner body.owner a.0.kind id (changes.owner a.0));
      marked = idle_body 0 idle actors id body at false rises stands tied.marked
          (λ x made no. absurd (let never : false ≡ true = no in cc));
    })
