-- The calls of a table, over its cells and its actors.
use Rattle.std.proofs.Common.{◌≡◌, ℕ, zero, suc, ◌+◌, ◌*◌, ◌/◌, ◌%◌, ◌<◌, ◌≤◌, ◌≢◌, eqb, true, false, cond, List, [], ◌∷◌, ◌++◌, length, get_or, take, drop, set, replicate, Option, Some, None, slice_get, inl, inr, refl, sym, subst, ap, ap₂, ◌∙◌, arith}
use Rattle.std.specs.List.{filter, AllPairs, AllByRecursion}
use Rattle.std.specs.Option.{option_map}
use Rattle.std.proofs.lemmas.Bool.Decides.{eqb_tells, nat_tests}
use Rattle.std.proofs.lemmas.List.{get_or-replicate, length-replicate}
use Rattle.std.proofs.lemmas.List.Elements.{All-from_recursion, recursion_from_All, All-push, All-filter}
use Rattle.std.proofs.lemmas.Nat.{mul-add-lt, div-mul-add, mod-mul-add}
use Rattle.std.proofs.lemmas.Option.{slice_get-get_or}
use Rattle.world_units.specs.declared.cell.CPos.{CPos}
use Rattle.world_units.specs.Cells.{same_cell}
use Rattle.world_units.specs.CellEquality.{cell_decides}
use Rattle.game_model.specs.declared.actor.Actor.{Actor}
use Rattle.game_model.specs.declared.actor.Body.{Body}
use Rattle.game_model.specs.declared.limits.TheConstants.{MAX_ACTORS}
use Rattle.game_model.specs.Grid.{Grid, IsOn, place_of, with_cell as with_value}
use Rattle.game_model.specs.World.{actor_of, is_alive, is_occupied}
use Rattle.actor_table.specs.ActorList.{holder_of, without_id, without_dead_at, CellsDiffer}
use Rattle.game_model.specs.ActorChanges.{changed_at, with_body, moved_to}
use Rattle.actor_table.specs.Table.{Table, IsTable, IsIndexed}
use Rattle.actor_table.proofs.Rising.{rises_pair}
use Rattle.actor_table.proofs.Places.{without_absent}
use Rattle.actor_table.proofs.Holders.{bool_cases, or_false, true_false, cell_cases, ActorsRise, rising_absent, holder_push, holder_without, holder_moved, holder_body, differ_body, differ_push, differ_filter, differ_moved}

apart : (i j : ℕ) → i ≢ j → eqb i j ≡ false
apart i j differs = grind (arith, nat_tests)

next : (i j : ℕ) → eqb (suc i) (suc j) ≡ eqb i j
next i j = elim (eqb_tells i j) [
  | inl hit ↦ sym (rw hit.0 (rw hit.1 (self_same (suc j))))
  | inr miss ↦ rw miss.0 (apart (suc i) (suc j) (λ same. miss.1 (omega arith)))
]
  where
    self_same : (n : ℕ) → true ≡ eqb n n
    self_same n = grind (arith, nat_tests)

-- a read after a write
read_after_set : {T : Type 0} (xs : List T) (i j : ℕ) (v x y : T) → slice_get xs i ≡ Some x → slice_get xs j ≡ Some y → slice_get (set xs i v) j ≡ Some (cond (eqb i j) v y)
read_after_set [] i j v x y at_i at_j = absurd (cc)
read_after_set (z ∷ xs) zero zero v x y at_i at_j = refl
read_after_set {T} (z ∷ xs) zero (suc j) v x y at_i at_j = at_j ∙ ap (λ b. Some (cond b v y)) (sym (apart zero (suc j) (λ same. omega arith)))
read_after_set {T} (z ∷ xs) (suc i) zero v x y at_i at_j = at_j ∙ ap (λ b. Some (cond b v y)) (sym (apart (suc i) zero (λ same. omega arith)))
read_after_set {T} (z ∷ xs) (suc i) (suc j) v x y at_i at_j = read_after_set xs i j v x y at_i at_j ∙ ap (λ b. Some (cond b v y)) (sym (next i j))

-- two cells of the map have one place exactly where they are one cell
same_place : (w : ℕ) (q p : CPos) → q.x < w → p.x < w → eqb (place_of w q) (place_of w p) ≡ same_cell q p
same_place w q p q_on p_on = elim (cell_cases q p) [
  | inl same ↦ rw (same.0, same.1) (self_same (place_of w p))
  | inr other ↦ rw other (elim (eqb_tells (place_of w q) (place_of w p)) [
    | inl hit ↦ absurd (clash hit.1 other)
    | inr miss ↦ miss.0
  ])
]
  where
    self_same : (n : ℕ) → eqb n n ≡ true
    self_same n = grind (arith, nat_tests)

    clash : place_of w q ≡ place_of w p → same_cell q p ≡ false → ⊥
    clash hit other =
        let rows : q.y ≡ p.y = sym (div-mul-add q.y w q.x q_on) ∙ ap (λ n. n / w) hit ∙ div-mul-add p.y w p.x p_on in
        let columns : q.x ≡ p.x = sym (mod-mul-add q.y w q.x q_on) ∙ ap (λ n. n % w) hit ∙ mod-mul-add p.y w p.x p_on in
        let made : ℕ → ℕ → CPos = λ x y. record { x = x; y = y } in
        let same : q ≡ p = ap₂ made columns rows in
        let yes' : same_cell q p ≡ true = (cell_decides q p).1 same in
        absurd (cc)

-- the cells hold what this function says
abbrev pub IsHeld : Grid (Option ℕ) → (CPos → Option ℕ) → Type 0
IsHeld cells holder =
    (p : CPos) → IsOn cells.width cells.height p → slice_get cells.cells (place_of cells.width p) ≡ Some (holder p)

pub held_after_set : (cells : Grid (Option ℕ)) (holder : CPos → Option ℕ) (q : CPos) (v : Option ℕ) → IsHeld cells holder → IsOn cells.width cells.height q → IsHeld (with_value cells q v) (λ p. cond (same_cell q p) v (holder p))
held_after_set cells holder q v held q_on p p_on =
    read_after_set cells.cells (place_of cells.width q) (place_of cells.width p) v (holder q) (holder p) (held q q_on) (held p p_on)
    ∙ ap (λ b. Some (cond b v (holder p))) (same_place cells.width q p q_on.column p_on.column)

-- no cell is held at first
pub indexed_none : (w h : ℕ) → IsIndexed (record { width = w; height = h; cells = replicate (w * h) None }) []
indexed_none w h =
    record {
      on_map = λ k d within. absurd (omega arith);
      cells_differ = tt;
      held = λ p on. slice_get-get_or (replicate (w * h) None) (place_of w p) None (rw length-replicate (mul-add-lt p.y w p.x h on.row on.column)) ∙ ap Some (get_or-replicate (w * h) (place_of w p) None None (mul-add-lt p.y w p.x h on.row on.column));
    }

-- a fact of each actor holds of the one found
found_all : (P : Actor → Type 0) (actors : List Actor) (id : ℕ) (a : Actor) → AllByRecursion P actors → actor_of actors id ≡ Some a → P a
found_all P [] id a each found = absurd (cc)
found_all P (b ∷ actors) id a each found = elim (eqb_tells b.id id) [
  | inl hit ↦ subst P (here hit.0 found) each.0
  | inr miss ↦ found_all P actors id a each.1 (rw miss.0 at found)
]
  where
    here : eqb b.id id ≡ true → cond (eqb b.id id) (Some b) (actor_of actors id) ≡ Some a → b ≡ a
    here met found = let some : Some b ≡ Some a = rw met at found in cc

pub found_on : (cells : Grid (Option ℕ)) (actors : List Actor) (id : ℕ) (a : Actor) → IsIndexed cells actors → actor_of actors id ≡ Some a → IsOn cells.width cells.height a.cell
found_on cells actors id a indexed found =
    found_all (λ (x : Actor). IsOn cells.width cells.height x.cell) actors id a (recursion_from_All _ _ indexed.on_map) found

all_changed : (P : Actor → Type 0) (actors : List Actor) (id : ℕ) (change : Actor → Actor) → ((a : Actor) → P a → P (change a)) → AllByRecursion P actors → AllByRecursion P (changed_at actors id change)
all_changed P [] id change keeps each = tt
all_changed P (a ∷ actors) id change keeps each = elim (eqb_tells a.id id) [
  | inl hit ↦ rw hit.0 (keeps a each.0, all_changed P actors id change keeps each.1)
  | inr miss ↦ rw miss.0 (each.0, all_changed P actors id change keeps each.1)
]

pub indexed_push : (cells : Grid (Option ℕ)) (actors : List Actor) (a : Actor) → IsIndexed cells actors → IsOn cells.width cells.height a.cell → is_occupied actors a.cell ≡ false → IsIndexed (with_value cells a.cell (Some a.id)) (actors ++ a ∷ [])
indexed_push cells actors a indexed on free =
    record {
      on_map = All-push (λ (x : Actor). IsOn cells.width cells.height x.cell) actors a indexed.on_map on;
      cells_differ = differ_push actors a indexed.cells_differ free;
      held = λ p p_on. held_after_set cells (holder_of actors) a.cell (Some a.id) indexed.held on p p_on ∙ ap Some (sym (holder_push actors a p free));
    }

pub indexed_without : (cells : Grid (Option ℕ)) (actors : List Actor) (id : ℕ) (a : Actor) → IsIndexed cells actors → ActorsRise 0 actors → actor_of actors id ≡ Some a → IsIndexed (with_value cells a.cell None) (without_id actors id)
indexed_without cells actors id a indexed rises found =
    record {
      on_map = All-filter _ (λ (x : Actor). IsOn cells.width cells.height x.cell) actors indexed.on_map;
      cells_differ = differ_filter _ actors indexed.cells_differ;
      held = λ p p_on. held_after_set cells (holder_of actors) a.cell None indexed.held (found_on cells actors id a indexed found) p p_on ∙ ap Some (sym (holder_without 0 actors id a p rises indexed.cells_differ found));
    }

-- without an actor that is not there
pub without_none : (actors : List Actor) (id : ℕ) → actor_of actors id ≡ None → without_id actors id ≡ actors
without_none [] id none = refl
without_none (a ∷ actors) id none = elim (eqb_tells a.id id) [
  | inl hit ↦ absurd (clash hit.0 none)
  | inr miss ↦ rw miss.0 (ap (λ xs. a ∷ xs) (without_none actors id (rw miss.0 at none)))
]
  where
    clash : eqb a.id id ≡ true → cond (eqb a.id id) (Some a) (actor_of actors id) ≡ None → ⊥
    clash met none = let some : Some a ≡ None = rw met at none in absurd (cc)

pub indexed_body : (cells : Grid (Option ℕ)) (actors : List Actor) (id : ℕ) (body : Body) → IsIndexed cells actors → IsIndexed cells (with_body actors id body)
indexed_body cells actors id body indexed =
    record {
      on_map = All-from_recursion _ _ (all_changed (λ (x : Actor). IsOn cells.width cells.height x.cell) actors id _ (λ a on. on) (recursion_from_All _ _ indexed.on_map));
      cells_differ = differ_body actors id body indexed.cells_differ;
      held = λ p on. indexed.held p on ∙ ap Some (sym (holder_body actors id body p));
    }

pub indexed_moved : (cells : Grid (Option ℕ)) (actors : List Actor) (id : ℕ) (a : Actor) (to : CPos) → IsIndexed cells actors → ActorsRise 0 actors → actor_of actors id ≡ Some a → IsOn cells.width cells.height to → is_occupied actors to ≡ false → IsIndexed (with_value (with_value cells a.cell None) to (Some id)) (moved_to actors id to)
indexed_moved cells actors id a to indexed rises found on free =
    record {
      on_map = All-from_recursion _ _ (all_changed (λ (x : Actor). IsOn cells.width cells.height x.cell) actors id _ (λ a was. on) (recursion_from_All _ _ indexed.on_map));
      cells_differ = differ_moved 0 actors id to rises indexed.cells_differ free;
      held = λ p p_on. held_after_set (with_value cells a.cell None) _ to (Some id) (held_after_set cells (holder_of actors) a.cell None indexed.held (found_on cells actors id a indexed found)) on p p_on ∙ ap Some (sym (holder_moved 0 actors id a to p rises indexed.cells_differ found free));
    }

-- nobody holds a cell off the map
pub free_off : (w h : ℕ) (actors : List Actor) (p : CPos) → AllByRecursion (λ (a : Actor). IsOn w h a.cell) actors → (IsOn w h p → ⊥) → is_occupied actors p ≡ false
free_off w h [] p each off = refl
free_off w h (a ∷ actors) p each off = elim (cell_cases a.cell p) [
  | inl hit ↦ absurd (off (subst (IsOn w h) hit.1 each.0))
  | inr miss ↦ rw miss (free_off w h actors p each.1 off)
]

-- an actor without health taken out
pub dead_taken : (least : ℕ) (actors : List Actor) (i : ℕ) (a : Actor) → ActorsRise least actors → slice_get actors i ≡ Some a → is_alive a ≡ false → without_id actors a.id ≡ without_dead_at actors i
dead_taken least [] i a rises at dead = absurd (cc)
dead_taken least (b ∷ actors) zero a rises at dead =
    let same : b ≡ a = cc in
    subst (λ (x : Actor). is_alive x ≡ false → without_id (b ∷ actors) x.id ≡ without_dead_at (b ∷ actors) zero) same here dead
  where
    here : is_alive b ≡ false → without_id (b ∷ actors) b.id ≡ without_dead_at (b ∷ actors) zero
    here dead =
        let named : eqb b.id b.id ≡ true = grind (arith, nat_tests) in
        rw (named, dead) (without_absent actors b.id (rising_absent b.id (b.id + 1) actors (omega arith) rises.1))
dead_taken least (b ∷ actors) (suc i) a rises at dead = rw (passed b.id a.id (later (b.id + 1) actors i a rises.1 at)) (ap (λ xs. b ∷ xs) (dead_taken (b.id + 1) actors i a rises.1 at dead))
  where
    passed : (n m : ℕ) → n + 1 ≤ m → eqb n m ≡ false
    passed n m lt = grind (arith, nat_tests)

    later : (least : ℕ) (xs : List Actor) (i : ℕ) (x : Actor) → ActorsRise least xs → slice_get xs i ≡ Some x → least ≤ x.id
    later least [] i x rises at = absurd (cc)
    later least (y ∷ xs) zero x rises at = let same : y ≡ x = cc in subst (λ (z : Actor). least ≤ z.id) same rises.0
    later least (y ∷ xs) (suc i) x rises at = omega (arith, rises.0, later (y.id + 1) xs i x rises.1 at)

pub living_stays : (actors : List Actor) (i : ℕ) (a : Actor) → slice_get actors i ≡ Some a → is_alive a ≡ true → actors ≡ without_dead_at actors i
living_stays [] i a at living = absurd (cc)
living_stays (b ∷ actors) zero a at living =
    let same : b ≡ a = cc in
    let lives : is_alive b ≡ true = subst (λ (x : Actor). is_alive x ≡ true) (sym same) living in
    rw lives refl
living_stays (b ∷ actors) (suc i) a at living = ap (λ xs. b ∷ xs) (living_stays actors i a at living)

-- one step of a burial from the end
pub bury_step : (actors : List Actor) (k : ℕ) → k < length actors → without_dead_at (take (suc k) actors ++ filter is_alive (drop (suc k) actors)) k ≡ take k actors ++ filter is_alive (drop k actors)
bury_step [] k within = absurd (omega arith)
bury_step (a ∷ actors) zero within = elim (bool_cases (is_alive a)) [
  | inl living ↦ rw living refl
  | inr dead ↦ rw dead refl
]
bury_step (a ∷ actors) (suc k) within = ap (λ xs. a ∷ xs) (bury_step actors k (omega arith))

-- the facts of every table
differ_pairs : (actors : List Actor) → CellsDiffer actors → AllPairs (λ (a b : Actor). a.cell ≢ b.cell) actors
differ_pairs [] differ i j d lt within = absurd (omega arith)
differ_pairs (a ∷ actors) differ i zero d lt within = absurd (omega arith)
differ_pairs (a ∷ actors) differ zero (suc j) d lt within = off actors a.cell j d differ.0 (omega arith)
  where
    off : (xs : List Actor) (p : CPos) (j : ℕ) (d : Actor) → is_occupied xs p ≡ false → j < length xs → p ≢ (get_or xs j d).cell
    off [] p j d free within same = omega arith
    off (x ∷ xs) p zero d free within same = true_false ((cell_decides x.cell p).1 (sym same)) (or_false (same_cell x.cell p) (is_occupied xs p) free).0
    off (x ∷ xs) p (suc j) d free within same = off xs p j d (or_false (same_cell x.cell p) (is_occupied xs p) free).1 (omega arith) same
differ_pairs (a ∷ actors) differ (suc i) (suc j) d lt within = differ_pairs actors differ.1 i j d (omega arith) (omega arith)

pub table_facts : (cells : Grid (Option ℕ)) (actors : List Actor) → IsIndexed cells actors → ActorsRise 0 actors → length actors ≤ MAX_ACTORS → IsTable (record { width = cells.width; height = cells.height; actors = actors })
table_facts cells actors indexed rises limit =
    record {
      on_map = indexed.on_map;
      rise = λ i j d lt within. rises_pair (λ (a : Actor). a.id) 0 actors i j d rises lt within;
      apart = differ_pairs actors indexed.cells_differ;
      count = limit;
    }

-- the actor whose cell was read
pub actor_of_cell : (o : Option Actor) (q : CPos) → option_map (λ (a : Actor). a.cell) o ≡ Some q → (a : Actor) × (o ≡ Some a) × (a.cell ≡ q)
actor_of_cell None q read = absurd (cc)
actor_of_cell (Some a) q read = (a, refl, cc)

pub cell_on : (cells : Grid (Option ℕ)) (actors : List Actor) (id : ℕ) (q : CPos) → IsIndexed cells actors → option_map (λ (a : Actor). a.cell) (actor_of actors id) ≡ Some q → IsOn cells.width cells.height q
cell_on cells actors id q indexed read =
    let found = actor_of_cell (actor_of actors id) q read in
    subst (IsOn cells.width cells.height) found.2 (found_on cells actors id found.0 indexed found.1)

pub indexed_from : (cells : Grid (Option ℕ)) (actors : List Actor) (id : ℕ) (q to : CPos) → IsIndexed cells actors → ActorsRise 0 actors → option_map (λ (a : Actor). a.cell) (actor_of actors id) ≡ Some q → IsOn cells.width cells.height to → is_occupied actors to ≡ false → IsIndexed (with_value (with_value cells q None) to (Some id)) (moved_to actors id to)
indexed_from cells actors id q to indexed rises read on free =
    let found = actor_of_cell (actor_of actors id) q read in
    subst (λ c. IsIndexed (with_value (with_value cells c None) to (Some id)) (moved_to actors id to)) found.2 (indexed_moved cells actors id found.0 to indexed rises found.1 on free)

-- what the cells tell is whether a cell is occupied
pub told_occupied : (cells : Grid (Option ℕ)) (actors : List Actor) (p : CPos) (told : Option ℕ) → IsIndexed cells actors → IsOn cells.width cells.height p → slice_get cells.cells (place_of cells.width p) ≡ Some told → told ≡ holder_of actors p
told_occupied cells actors p told indexed on read =
    let both : Some told ≡ Some (holder_of actors p) = sym read ∙ indexed.held p on in cc

pub off_map_free : (cells : Grid (Option ℕ)) (actors : List Actor) (p : CPos) → IsIndexed cells actors → (IsOn cells.width cells.height p → ⊥) → is_occupied actors p ≡ false
off_map_free cells actors p indexed off =
    free_off cells.width cells.height actors p (recursion_from_All (λ (a : Actor). IsOn cells.width cells.height a.cell) actors indexed.on_map) off

-- a burial after one more step
pub bury_more : (first now new : Table) (left k : ℕ) → left ≡ suc k → left ≤ length first.actors → now ≡ record first { actors = take left first.actors ++ filter is_alive (drop left first.actors) } → new ≡ record now { actors = without_dead_at now.actors k } → new ≡ record first { actors = take k first.actors ++ filter is_alive (drop k first.actors) }
bury_more first now new left k is within done stepped =
    let before : now ≡ record first { actors = take (suc k) first.actors ++ filter is_alive (drop (suc k) first.actors) } =
    subst (λ n. now ≡ record first { actors = take n first.actors ++ filter is_alive (drop n first.actors) }) is done in
    stepped ∙ ap (λ (t : Table). record t { actors = without_dead_at t.actors k }) before ∙ ap (λ xs. record first { actors = xs }) (bury_step first.actors k (omega arith))
