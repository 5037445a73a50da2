-- Changes of one actor of a list whose ids rise.
use Rattle.std.specs.Option.{option_map}
use Rattle.std.proofs.Common.{◌≡◌, ℕ, Some, None, refl, sym, ap, ap₂, ◌∙◌}
use Rattle.world_units.specs.declared.cell.CPos.{CPos}
use Rattle.game_model.specs.declared.actor.Actor.{Actor}
use Rattle.game_model.specs.declared.actor.Body.{Body}
use Rattle.game_model.specs.ActorChanges.{changed_at, with_body, moved_to}
use Rattle.game_model.specs.Grid.{IsOn}
use Rattle.game_model.specs.World.{actor_of}
use Rattle.game_model.proofs.FoundLemmas.{found_id, found_changed, changed_as, found_all}
use Rattle.game_model.proofs.FoundLemmas.{changed_twice, changed_none}
use Rattle.actor_table.specs.Table.{Table, IsTable}

-- The same of a table: nothing changes without the actor, and another body of the actor is a change
-- that makes this body of it.
pub table_same : (t : Table) (id : ℕ) (f : Actor → Actor) → None ≡ actor_of t.actors id → t ≡ record t { actors = changed_at t.actors id f }
table_same t id f none = ap (λ xs. record { width = t.width; height = t.height; actors = xs }) (sym (changed_none t.actors id f (sym none)))

pub table_changed : (t new : Table) (id : ℕ) (a : Actor) (body : Body) (f : Actor → Actor) → IsTable t → Some a ≡ actor_of t.actors id → f a ≡ record a { body = body } → new ≡ record t { actors = with_body t.actors id body } → new ≡ record t { actors = changed_at t.actors id f }
table_changed t new id a body f valid found same given =
    given ∙ ap (λ xs. record { width = t.width; height = t.height; actors = xs }) (sym (changed_as t.actors id a f (λ (x : Actor). record x { body = body }) valid.rise (sym found) same))

-- Another body of the actor that is found, as one with its own id.
pub table_body : (t new : Table) (id : ℕ) (a : Actor) (body wanted : Body) → actor_of t.actors id ≡ Some a → body ≡ wanted → new ≡ record t { actors = with_body t.actors id body } → new ≡ record t { actors = with_body t.actors a.id wanted }
table_body t new id a body wanted found same given =
    given ∙ ap₂ (λ n b. record { width = t.width; height = t.height; actors = with_body t.actors n b }) (sym (found_id t.actors id a found)) same

-- The actor after a move to a cell, and another body of it after that.
pub found_moved : (t new : Table) (id : ℕ) (a : Actor) (to : CPos) → Some a ≡ actor_of t.actors id → new ≡ record t { actors = moved_to t.actors id to } → actor_of new.actors id ≡ Some (record a { cell = to })
found_moved t new id a to found moved =
    let at : actor_of (moved_to t.actors id to) id ≡ option_map (λ (x : Actor). record x { cell = to }) (actor_of t.actors id) = found_changed t.actors id (λ (x : Actor). record x { cell = to }) (λ x. refl) in
    ap (λ (x : Table). actor_of x.actors id) moved ∙ at ∙ ap (option_map (λ (x : Actor). record x { cell = to })) (sym found)

pub table_moved : (t mid new : Table) (id : ℕ) (a : Actor) (to : CPos) (body : Body) (f : Actor → Actor) → IsTable t → actor_of t.actors id ≡ Some a → f a ≡ record a { cell = to; body = body } → mid ≡ record t { actors = moved_to t.actors id to } → new ≡ record mid { actors = with_body mid.actors id body } → new ≡ record t { actors = changed_at t.actors id f }
table_moved t mid new id a to body f valid found same moved given =
    let twice : with_body (moved_to t.actors id to) id body ≡ changed_at t.actors id (λ (x : Actor). record x { cell = to; body = body }) =
    changed_twice t.actors id (λ (x : Actor). record x { cell = to }) (λ (x : Actor). record x { body = body }) (λ x. refl) in
    given ∙ ap (λ (x : Table). record { width = x.width; height = x.height; actors = with_body x.actors id body }) moved
    ∙ ap (λ xs. record { width = t.width; height = t.height; actors = xs }) (twice ∙ sym (changed_as t.actors id a f (λ (x : Actor). record x { cell = to; body = body }) valid.rise found same))

-- The same of a change that makes the same of this actor.
pub table_part :
    (t new : Table) (id : ℕ) (a : Actor) (g f : Actor → Actor) → IsTable t → Some a ≡ actor_of t.actors id →
    f a ≡ g a → new ≡ record t { actors = changed_at t.actors id g } →
    new ≡ record t { actors = changed_at t.actors id f }
table_part t new id a g f valid found same given =
    given ∙ ap (λ xs. record { width = t.width; height = t.height; actors = xs })
    (sym (changed_as t.actors id a f g valid.rise (sym found) same))

pub table_part_body :
    (t new : Table) (id : ℕ) (a : Actor) (g : Actor → Actor) (wanted : Body) → IsTable t →
    actor_of t.actors id ≡ Some a → g a ≡ record a { body = wanted } →
    new ≡ record t { actors = changed_at t.actors id g } →
    new ≡ record t { actors = with_body t.actors a.id wanted }
table_part_body t new id a g wanted valid found same given =
    table_body t new id a wanted wanted found refl
    (table_part t new id a g (λ (x : Actor). record x { body = wanted }) valid (sym found) (sym same) given)

pub table_part_moved :
    (t mid new : Table) (id : ℕ) (a : Actor) (to : CPos) (g f : Actor → Actor) → IsTable t →
    actor_of t.actors id ≡ Some a → f a ≡ g (record a { cell = to }) →
    mid ≡ record t { actors = moved_to t.actors id to } →
    new ≡ record mid { actors = changed_at mid.actors id g } →
    new ≡ record t { actors = changed_at t.actors id f }
table_part_moved t mid new id a to g f valid found same moved given =
    let twice : changed_at (moved_to t.actors id to) id g ≡ changed_at t.actors id (λ (x : Actor). g (record x { cell = to })) =
    changed_twice t.actors id (λ (x : Actor). record x { cell = to }) g (λ x. refl) in
    given ∙ ap (λ (x : Table). record { width = x.width; height = x.height; actors = changed_at x.actors id g }) moved
    ∙ ap (λ xs. record { width = t.width; height = t.height; actors = xs })
    (twice ∙ sym (changed_as t.actors id a f (λ (x : Actor). g (record x { cell = to })) valid.rise found same))

-- The actor of an id stands on the map of the table.
pub found_on : (t : Table) (id : ℕ) (a : Actor) → IsTable t → Some a ≡ actor_of t.actors id → IsOn t.width t.height a.cell
found_on t id a valid found = found_all (λ (x : Actor). IsOn t.width t.height x.cell) t.actors id a valid.on_map (sym found)
