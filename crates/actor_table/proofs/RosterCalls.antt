-- The calls of a roster, over its slots and its order.
use Rattle.std.proofs.Common.{◌≡◌, ℕ, suc, ◌+◌, ◌<◌, ◌≤◌, ◌≢◌, List, [], ◌∷◌, ◌++◌, length, get_or, map, take, Option, Some, None, is_some, Result, Ok, Err, IfOk, IfErr, slice_get, cond, refl, sym, ap, ap₂, ◌∙◌, arith}
use Rattle.std.specs.List.{AllByRecursion, All, remove}
use Rattle.std.specs.Option.{unwrap_or, option_map}
use Rattle.std.proofs.lemmas.List.Elements.{recursion_from_All}
use Rattle.std.proofs.lemmas.List.{length-map, length-append, map-append, take_more}
use Rattle.std.proofs.lemmas.List.Edits.{length-remove}
use Rattle.std.proofs.lemmas.List.Sums.{sum_by-set}
use Rattle.std.proofs.lemmas.Option.{slice_get-map, slice_get-get_or, slice_get_within, slice_get_past, same_Some}
use Rattle.slab.specs.Slab.{Slab, slab_len, get, with_value, Updates, ContainsKey}
use Rattle.slab.proofs.SlabLemmas.{Updates-with_value, ContainsKey-within}
use Rattle.game_model.specs.declared.actor.Actor.{Actor}
use Rattle.game_model.specs.declared.limits.TheConstants.{MAX_ACTORS}
use Rattle.game_model.specs.World.{actor_of, ids_of}
use Rattle.actor_table.specs.ActorList.{without_id}
use Rattle.game_model.specs.ActorChanges.{changed_at}
use Rattle.actor_table.specs.Places.{nobody, actor_in, actors_in, IsFiled, AreFiled, IsRoster}
use Rattle.actor_table.specs.Search.{IsAt, IsAbsent}
use Rattle.actor_table.specs.Order.{IsIndexOf, IsNowhere}
use Rattle.actor_table.specs.declared.place.Place.{Place}
use Rattle.actor_table.proofs.Rising.{rises_remove, rises_push}
use Rattle.actor_table.proofs.Places.{ids_along, filed_at, found_at, fresh_key, actors_stay, filed_stay, changes_at, removes_at}

-- the place that stands at an index
pub record Found (slots : Slab Actor) (order : List Place) (id at : ℕ) (p : Place) : Type 0 where
  pub within : at < length order
  pub is : slice_get order at ≡ Some p
  pub named : p.id ≡ id
  pub filed : IsFiled slots p

pub at_within : (slots : Slab Actor) (order : List Place) (id at : ℕ) → AreFiled slots order → IsAt (actors_in slots order) id at → at < length order
at_within slots order id at filed is_at =
    let along = slice_get_within _ at id (rw (ids_along slots order filed) at is_at) in
    omega (arith, along, length-map order (λ (p : Place). p.id))

pub found_place : (slots : Slab Actor) (order : List Place) (id at : ℕ) (p : Place) → AreFiled slots order → IsAt (actors_in slots order) id at → p ≡ get_or order at p → Found slots order id at p
found_place slots order id at p filed is_at read =
    let within = at_within slots order id at filed is_at in
    let is : slice_get order at ≡ Some p = slice_get-get_or order at p within ∙ ap Some (sym read) in
    let along : slice_get (map (λ (p : Place). p.id) order) at ≡ Some id = rw (ids_along slots order filed) at is_at in
    let mapped = slice_get-map (λ (p : Place). p.id) order at in
    record { within = within; is = is; named = same_Some p.id id (sym (mapped ∙ ap (option_map (λ (p : Place). p.id)) is) ∙ along); filed = filed_at slots order at p filed is }

-- the i-th place is filed
filed_index : (slots : Slab Actor) (order : List Place) (i : ℕ) (d : Place) → AreFiled slots order → i < length order → IsFiled slots (get_or order i d)
filed_index slots order i d filed within = filed_at slots order i _ filed (slice_get-get_or order i d within)

-- no place has the id, so no actor has it
absent_from : (slots : Slab Actor) (order : List Place) (id : ℕ) → AreFiled slots order → ((k : ℕ) (d : Place) → k < length order → (get_or order k d).id ≢ id) → IsAbsent (actors_in slots order) id
absent_from slots [] id filed none = tt
absent_from slots (p ∷ order) id filed none =
    (λ same. none 0 p (omega arith) (sym filed.0.named ∙ same), absent_from slots order id filed.1 (λ k d within. none (suc k) d (omega arith)))

pub record Searched (actors : List Actor) (id : ℕ) (r : Result ℕ ℕ) : Type 0 where
  pub found : IfOk r (IsAt actors id)
  pub absent : IfErr r (λ _. IsAbsent actors id)

pub searched : (slots : Slab Actor) (order : List Place) (id : ℕ) (r : Result ℕ ℕ) → AreFiled slots order → IfOk r (IsIndexOf order id) → IfErr r (λ _. IsNowhere order id) → Searched (actors_in slots order) id r
searched slots order id (Ok at) filed found absent = record { found = rw (ids_along slots order filed) found; absent = tt }
searched slots order id (Err at) filed found absent = record { found = tt; absent = absent_from slots order id filed absent }

-- what the slab holds at a found place is the actor of the id
pub found_actor : (slots : Slab Actor) (room : ℕ) (order : List Place) (id at : ℕ) (p : Place) → IsRoster slots room order → IsAt (actors_in slots order) id at → p ≡ get_or order at p → get slots p.key ≡ actor_of (actors_in slots order) id
found_actor slots room order id at p roster is_at read =
    let found = found_place slots order id at p roster.filed is_at read in
    found.filed.there ∙ sym (found_at slots 0 order at p roster.rises roster.filed found.is) ∙ ap (actor_of (actors_in slots order)) found.named

pub found_key : (slots : Slab Actor) (room : ℕ) (order : List Place) (id at : ℕ) (p : Place) → IsRoster slots room order → IsAt (actors_in slots order) id at → p ≡ get_or order at p → ContainsKey slots p.key
found_key slots room order id at p roster is_at read =
    let found = found_place slots order id at p roster.filed is_at read in
    rw found.filed.there refl

-- an actor more at the end
pub record Pushed (slots : Slab Actor) (order : List Place) (a : Actor) (new : Slab Actor) (room : ℕ) (p : Place) : Type 0 where
  pub roster : IsRoster new room (order ++ p ∷ [])
  pub actors : actors_in new (order ++ p ∷ []) ≡ actors_in slots order ++ a ∷ []

pub pushed : (slots : Slab Actor) (room : ℕ) (order : List Place) (a : Actor) (new : Slab Actor) (space : ℕ) (p : Place) → IsRoster slots room order → p.id ≡ a.id → length (actors_in slots order) < MAX_ACTORS → All (λ (other : Actor). other.id < a.id) (actors_in slots order) → get slots p.key ≡ None → Updates slots new p.key (Some a) → slab_len new ≡ slab_len slots + 1 → new.capacity ≡ slots.capacity → space ≡ room → Pushed slots order a new space p
pushed slots room order a new space p old named below above vacant updates len capacity same_room =
    let keys = fresh_key slots p.key order vacant old.filed in
    let stay = actors_stay slots new p.key updates.others order keys in
    let filed_old = filed_stay slots new p.key updates.others order keys old.filed in
    let here : actor_in new p ≡ a = ap (λ o. unwrap_or o nobody) updates.changed in
    let filed_new : IsFiled new p = record { there = updates.changed ∙ ap Some (sym here); named = ap (λ (x : Actor). x.id) here ∙ sym named } in
    let more = length-append order (p ∷ []) in
    let along = length-map order (actor_in slots) in
    let bound : length order + 1 ≤ MAX_ACTORS = omega arith in
    let lower : AllByRecursion (λ (q : Place). q.id < p.id) order = ids_below slots order a.id p.id named old.filed (recursion_from_All _ _ above) in
    record {
      roster = record {
        rises = rises_push (λ (q : Place). q.id) 0 order p old.rises (omega arith) lower;
        filed = filed_append new order (p ∷ []) filed_old (filed_new, tt);
        counted = omega (arith, old.counted);
        limit = omega arith;
        slots_room = omega (arith, old.slots_room);
        order_room = omega (arith, old.order_room);
      };
      actors = map-append (actor_in new) order (p ∷ []) ∙ ap₂ (λ xs x. xs ++ x ∷ []) stay here;
    }
  where
    ids_below : (slots : Slab Actor) (order : List Place) (bound id : ℕ) → id ≡ bound → AreFiled slots order → AllByRecursion (λ (other : Actor). other.id < bound) (actors_in slots order) → AllByRecursion (λ (q : Place). q.id < id) order
    ids_below slots [] bound id same filed above = tt
    ids_below slots (q ∷ order) bound id same filed above = (omega (arith, filed.0.named, above.0), ids_below slots order bound id same filed.1 above.1)

    filed_append : (slots : Slab Actor) (xs ys : List Place) → AreFiled slots xs → AreFiled slots ys → AreFiled slots (xs ++ ys)
    filed_append slots [] ys fx fy = fy
    filed_append slots (x ∷ xs) ys fx fy = (fx.0, filed_append slots xs ys fx.1 fy)

-- the actor of an id taken out
pub record Removed (slots : Slab Actor) (order : List Place) (id : ℕ) (new : Slab Actor) (room : ℕ) (at : ℕ) : Type 0 where
  pub roster : IsRoster new room (remove order at)
  pub actors : actors_in new (remove order at) ≡ without_id (actors_in slots order) id

pub removed : (slots : Slab Actor) (room : ℕ) (order : List Place) (id at : ℕ) (p : Place) (new : Slab Actor) (space : ℕ) → IsRoster slots room order → IsAt (actors_in slots order) id at → p ≡ get_or order at p → Updates slots new p.key None → slab_len new + 1 ≡ slab_len slots → new.capacity ≡ slots.capacity → space ≡ room → Removed slots order id new space at
removed slots room order id at p new space old is_at read updates len capacity same_room =
    let found = found_place slots order id at p old.filed is_at read in
    let gone = removes_at slots new p updates.others 0 order at old.rises old.filed found.is in
    let fewer = length-remove order at found.within in
    record {
      roster = record {
        rises = rises_remove (λ (q : Place). q.id) 0 order at old.rises;
        filed = gone.filed;
        counted = omega (arith, old.counted);
        limit = omega (arith, old.limit);
        slots_room = omega (arith, old.slots_room);
        order_room = omega (arith, old.order_room);
      };
      actors = gone.actors ∙ ap (without_id (actors_in slots order)) found.named;
    }

-- the actor of an id changed
pub record Changed (slots : Slab Actor) (room : ℕ) (order : List Place) (id : ℕ) (change : Actor → Actor) (new : Slab Actor) : Type 0 where
  pub roster : IsRoster new room order
  pub actors : actors_in new order ≡ changed_at (actors_in slots order) id change

same_count : (slots : Slab Actor) (key : ℕ) (x y : Actor) → get slots key ≡ Some x → slab_len (with_value slots key y) ≡ slab_len slots
same_count slots key x y there =
    let within = ContainsKey-within slots key (rw there refl) in
    let counts = sum_by-set (λ (o : Option Actor). cond (is_some o) 1 0) slots.slots key (Some y) None within in
    let one : ◌≡◌ {A = ℕ} (cond (is_some (get slots key)) 1 0) 1 = ap (λ (o : Option Actor). cond (is_some o) 1 0) there in
    omega (arith, counts, one)

pub changed : (slots : Slab Actor) (room : ℕ) (order : List Place) (id at : ℕ) (p : Place) (x : Actor) (change : Actor → Actor) → IsRoster slots room order → IsAt (actors_in slots order) id at → p ≡ get_or order at p → get slots p.key ≡ Some x → (change x).id ≡ x.id → Changed slots room order id change (with_value slots p.key (change x))
changed slots room order id at p x change old is_at read there kept =
    let found = found_place slots order id at p old.filed is_at read in
    let here : actor_in slots p ≡ x = ap (λ o. unwrap_or o nobody) there in
    let updates = Updates-with_value slots p.key (change x) (rw there refl) in
    let set : get (with_value slots p.key (change x)) p.key ≡ Some (change (actor_in slots p)) = updates.changed ∙ ap (λ a. Some (change a)) (sym here) in
    let same_id : (change (actor_in slots p)).id ≡ p.id = ap (λ (a : Actor). (change a).id) here ∙ kept ∙ sym (ap (λ (a : Actor). a.id) here) ∙ found.filed.named in
    let made = changes_at slots (with_value slots p.key (change x)) p updates.others change set same_id 0 order at old.rises old.filed found.is in
    record {
      roster = record {
        rises = old.rises;
        filed = made.filed;
        counted = same_count slots p.key x (change x) there ∙ old.counted;
        limit = old.limit;
        slots_room = old.slots_room;
        order_room = old.order_room;
      };
      actors = made.actors ∙ ap (λ i. changed_at (actors_in slots order) i change) found.named;
    }

-- the ids along the order, one by one
pub nth_id : (slots : Slab Actor) (order : List Place) (i : ℕ) → AreFiled slots order → slice_get (ids_of (actors_in slots order)) i ≡ option_map (λ (p : Place). p.id) (slice_get order i)
nth_id slots order i filed = rw (ids_along slots order filed) (slice_get-map (λ (p : Place). p.id) order i)

-- a place of the order has an actor
pub key_there : (slots : Slab Actor) (order : List Place) (i : ℕ) (d : Place) → AreFiled slots order → i < length order → ContainsKey slots (get_or order i d).key
key_there slots order i d filed within = ap is_some (filed_index slots order i d filed within).there

-- and that is the next of the actors along the order
pub next_actor : (slots : Slab Actor) (order : List Place) (i : ℕ) (d : Place) (a : Actor) → AreFiled slots order → i < length order → get slots (get_or order i d).key ≡ Some a → map (actor_in slots) (take (i + 1) order) ≡ map (actor_in slots) (take i order) ++ a ∷ []
next_actor slots order i d a filed within read =
    ap (map (actor_in slots)) (take_more order i d within) ∙ map-append (actor_in slots) (take i order) (get_or order i d ∷ []) ∙ ap (λ x. map (actor_in slots) (take i order) ++ x ∷ []) (ap (λ o. unwrap_or o nobody) read)

pub nth_here : (slots : Slab Actor) (order : List Place) (i : ℕ) (p : Place) → AreFiled slots order → i < length order → p ≡ get_or order i p → Some p.id ≡ slice_get (ids_of (actors_in slots order)) i
nth_here slots order i p filed within read =
    sym (nth_id slots order i filed ∙ ap (option_map (λ (q : Place). q.id)) (slice_get-get_or order i p within ∙ ap Some (sym read)))

pub nth_past : (slots : Slab Actor) (order : List Place) (i : ℕ) → AreFiled slots order → length order ≤ i → None ≡ slice_get (ids_of (actors_in slots order)) i
nth_past slots order i filed past = sym (nth_id slots order i filed ∙ ap (option_map (λ (q : Place). q.id)) (slice_get_past order i past))

-- the actor that stands at an index of the order
pub actor_here : (slots : Slab Actor) (order : List Place) (i : ℕ) (p : Place) (a : Actor) → i < length order → p ≡ get_or order i p → get slots p.key ≡ Some a → slice_get (actors_in slots order) i ≡ Some a
actor_here slots order i p a within read there =
    slice_get-map (actor_in slots) order i ∙ ap (option_map (actor_in slots)) (slice_get-get_or order i p within ∙ ap Some (sym read)) ∙ ap (λ o. Some (unwrap_or o nobody)) there

pub key_here : (slots : Slab Actor) (order : List Place) (i : ℕ) (p : Place) → AreFiled slots order → i < length order → p ≡ get_or order i p → ContainsKey slots p.key
key_here slots order i p filed within read =
    ap is_some (filed_at slots order i p filed (slice_get-get_or order i p within ∙ ap Some (sym read))).there

pub places_count : (slots : Slab Actor) (order : List Place) (i : ℕ) → i < length (actors_in slots order) → i < length order
places_count slots order i within = omega (arith, length-map order (actor_in slots))
