-- Each difference is true of the two.
use Rattle.std.specs.Prelude.{◌≡◌, ℕ, zero, suc, ◌+◌, ◌==◌, ◌%◌, ◌/◌, min, max, Bool, true, false}
use Rattle.std.specs.Prelude.{List, [], ◌∷◌, ◌++◌, length, slice_get, Option, Some, None}
use Rattle.std.specs.Prelude.{if◌then◌else◌}
use Rattle.std.specs.List.{AllByRecursion}
use Rattle.std.proofs.Common.{refl, sym, ap, subst, ◌∙◌, arith}
use Rattle.std.proofs.lemmas.Bool.Decides.{nat_tests}
use Rattle.game_model.specs.declared.actor.Actor.{Actor}
use Rattle.game_model.specs.World.{actor_of, clients_of}
use Rattle.game_save.specs.declared.saved.Saved.{Saved}
use Rattle.replay_file.specs.declared.replay.Replay.{Replay}
use Rattle.replay_run.specs.Rerun.{frame_count, frame_in}
use Rattle.compare_command.specs.declared.subject.Field.{Field}
use Rattle.compare_command.specs.declared.subject.Field.TheVariants as field
use Rattle.compare_command.specs.declared.subject.Subject.{Subject}
use Rattle.compare_command.specs.declared.subject.Subject.TheVariants as subject
use Rattle.compare_command.specs.Difference.{Difference, Differs, Values, Numbers, Flags, Entries}
use Rattle.compare_command.specs.Difference.{Hashes, are_same, compared, compared_if}
use Rattle.compare_command.specs.Each.{each, least, or_else}
use Rattle.compare_command.specs.Laws.{AreEqual, IsTrueOfReplays, IsTrueOfSaves}
use Rattle.compare_command.specs.Laws.{field_values}
use Rattle.compare_command.specs.Replays.{common_frames, differences_in, entries_differences}
use Rattle.compare_command.specs.Replays.{entry_differences, mark_at, mark_differences}
use Rattle.compare_command.specs.Replays.{marks_differences, match_differences, replay_differences}
use Rattle.compare_command.specs.Saves.{actors_differences, beside, cell_of, client_differences}
use Rattle.compare_command.specs.Saves.{clients_differences, count_differences}
use Rattle.compare_command.specs.Saves.{field_differences, head_differences, id_differences}
use Rattle.compare_command.specs.Saves.{ore_differences, place_differences}
use Rattle.compare_command.specs.Saves.{plan_differences, save_differences}
use Rattle.compare_command.proofs.NoneLemmas.{same_decides}

-- ---- of all differences

all_both :
    (P : Difference → Type 0) (some more : List Difference) → AllByRecursion P some →
    AllByRecursion P more → AllByRecursion P (some ++ more)
all_both P [] more all all' = all'
all_both P (d ∷ some) more all all' = (all.0, all_both P some more all.1 all')

all_compared :
    (P : Difference → Type 0) (of : Subject) (v : Values) →
    ((AreEqual v → ⊥) → P (Differs of v)) → AllByRecursion P (compared of v)
all_compared P of v holds = by_test (are_same v) refl
  where
    by_test : (same : Bool) → are_same v ≡ same →
        AllByRecursion P (if same then [] else Differs of v ∷ [])
    by_test true is = tt
    by_test false is = (
      holds (λ equal. let same : are_same v ≡ true = (same_decides v).1 equal in
          absurd cc),
      tt,
    )

all_if :
    {T : Type 0} (P : Difference → Type 0) (of : Subject) (values : T → T → Values)
    (o o' : Option T) →
    ((a b : T) → o ≡ Some a → o' ≡ Some b → (AreEqual (values a b) → ⊥) →
    P (Differs of (values a b))) →
    AllByRecursion P (compared_if of values o o')
all_if P of values None None holds = tt
all_if P of values None (Some b) holds = tt
all_if P of values (Some a) None holds = tt
all_if P of values (Some a) (Some b) holds = all_compared P of (values a b) (holds a b refl refl)

all_each :
    (P : Difference → Type 0) (found : ℕ → List Difference) (from count : ℕ) →
    ((n : ℕ) → AllByRecursion P (found n)) → AllByRecursion P (each found from count)
all_each P found from zero all = tt
all_each P found from (suc count) all =
    all_both P (found from) (each found (from + 1) count) (all from)
    (all_each P found (from + 1) count all)

all_or_else :
    (P : Difference → Type 0) (some others : List Difference) → AllByRecursion P some →
    AllByRecursion P others → AllByRecursion P (or_else some others)
all_or_else P [] others all all' = all'
all_or_else P (d ∷ some) others all all' = all

all_least :
    (P : Difference → Type 0) (found : ℕ → List Difference) (from count : ℕ) →
    ((n : ℕ) → AllByRecursion P (found n)) → AllByRecursion P (least found from count)
all_least P found from zero all = tt
all_least P found from (suc count) all =
    all_or_else P (found from) (least found (from + 1) count) (all from)
    (all_least P found (from + 1) count all)

-- ---- saves

found_id : (actors : List Actor) (id : ℕ) (p : Actor) → actor_of actors id ≡ Some p → p.id ≡ id
found_id [] id p is = absurd cc
found_id (a ∷ actors) id p is = by_test (a.id == id) refl is (found_id actors id p)
  where
    by_test : (same : Bool) → (a.id == id) ≡ same →
        (if same then Some a else actor_of actors id) ≡ Some p →
        (actor_of actors id ≡ Some p → p.id ≡ id) → p.id ≡ id
    by_test true same found later =
        let one : a ≡ p = cc in
        let here : a.id ≡ id = grind (arith, nat_tests, same) in
        ap (λ (b : Actor). b.id) (sym one) ∙ here
    by_test false same found later = later found

-- The fields of an actor that both have.
field_true :
    (a b : Saved) (p q : Actor) (of : Field) → actor_of a.world.actors p.id ≡ Some p →
    actor_of b.world.actors p.id ≡ Some q →
    AllByRecursion (IsTrueOfSaves a b) (compared (subject.Actor p.id of) (field_values of p q))
field_true a b p q of here there =
    all_compared (IsTrueOfSaves a b) (subject.Actor p.id of) (field_values of p q)
    (λ differ. ((p, q, here, there, refl), differ))

fields_true :
    (a b : Saved) (p q : Actor) → actor_of a.world.actors p.id ≡ Some p →
    actor_of b.world.actors p.id ≡ Some q →
    AllByRecursion (IsTrueOfSaves a b) (field_differences p q)
fields_true a b p q here there =
    let P = IsTrueOfSaves a b in
    let line : Field → List Difference =
    λ of. compared (subject.Actor p.id of) (field_values of p q) in
    let each : (of : Field) → AllByRecursion (IsTrueOfSaves a b) (line of) =
    λ of. field_true a b p q of here there in
    let place = place_differences p.id p.body q.body in
    let count = count_differences p.id p.body q.body in
    let plan = plan_differences p.id p.body q.body in
    let places = all_both P (line field.Facing) (line field.Leg) (each field.Facing) (each field.Leg) in
    let counts =
    all_both P (line field.Health) (line field.Load ++ line field.Reload) (each field.Health)
    (all_both P (line field.Load) (line field.Reload) (each field.Load) (each field.Reload)) in
    let plans = all_both P (line field.Acts) (line field.Builds) (each field.Acts) (each field.Builds) in
    all_both P (line field.Kind) (line field.Owner ++ (line field.Cell ++ (place ++ (count ++ plan))))
    (each field.Kind)
    (all_both P (line field.Owner) (line field.Cell ++ (place ++ (count ++ plan)))
    (each field.Owner)
    (all_both P (line field.Cell) (place ++ (count ++ plan)) (each field.Cell)
    (all_both P place (count ++ plan) places (all_both P count plan counts plans))))

id_true :
    (a b : Saved) (id : ℕ) (o o' : Option Actor) → actor_of a.world.actors id ≡ o →
    actor_of b.world.actors id ≡ o' → AllByRecursion (IsTrueOfSaves a b) (beside id o o')
id_true a b id None None here there = tt
id_true a b id None (Some q) here there = ((q, here, there), tt)
id_true a b id (Some p) None here there = ((p, here, there), tt)
id_true a b id (Some p) (Some q) here there =
    let same : id ≡ p.id = sym (found_id a.world.actors id p here) in
    fields_true a b p q (subst (λ (n : ℕ). actor_of a.world.actors n ≡ Some p) same here)
    (subst (λ (n : ℕ). actor_of b.world.actors n ≡ Some q) same there)

client_true :
    (a b : Saved) (c : ℕ) →
    AllByRecursion (IsTrueOfSaves a b) (client_differences a.world b.world c)
client_true a b c =
    let w = a.world in
    let v = b.world in
    all_both (IsTrueOfSaves a b)
    (compared_if (subject.Cash c) Numbers (slice_get w.cash c) (slice_get v.cash c))
    (compared_if (subject.Gone c) Flags (slice_get w.gone c) (slice_get v.gone c))
    (all_if (IsTrueOfSaves a b) (subject.Cash c) Numbers (slice_get w.cash c) (slice_get v.cash c)
    (λ x y here there differ. ((x, y, here, there, refl), differ)))
    (all_if (IsTrueOfSaves a b) (subject.Gone c) Flags (slice_get w.gone c) (slice_get v.gone c)
    (λ x y here there differ. ((x, y, here, there, refl), differ)))

cell_true :
    (a b : Saved) (place : ℕ) →
    AllByRecursion (IsTrueOfSaves a b)
    (cell_of a.world.ore.width a.world.ore.cells b.world.ore.cells place)
cell_true a b place =
    let ore = a.world.ore in
    all_if (IsTrueOfSaves a b) (subject.Ore (place % ore.width) (place / ore.width)) Numbers
    (slice_get ore.cells place) (slice_get b.world.ore.cells place)
    (λ x y here there differ. ((place, refl, refl, (x, y, here, there, refl)), differ))

head_true : (a b : Saved) → AllByRecursion (IsTrueOfSaves a b) (head_differences a b)
head_true a b =
    let P = IsTrueOfSaves a b in
    let w = a.world in
    let v = b.world in
    let tick = compared subject.Tick (Numbers w.tick v.tick) in
    let seed = compared subject.Seed (Numbers w.seed v.seed) in
    let drawn = compared subject.Drawn (Numbers w.drawn v.drawn) in
    let next = compared subject.Next (Numbers w.next_id v.next_id) in
    let pace = compared subject.Pace (Numbers w.pace v.pace) in
    let count = compared subject.Clients (Numbers (clients_of w) (clients_of v)) in
    all_both P (compared subject.Frames (Numbers a.frames b.frames))
    (tick ++ ((seed ++ drawn) ++ (next ++ (pace ++ count))))
    (all_compared P subject.Frames (Numbers a.frames b.frames) (λ differ. (refl, differ)))
    (all_both P tick ((seed ++ drawn) ++ (next ++ (pace ++ count)))
    (all_compared P subject.Tick (Numbers w.tick v.tick) (λ differ. (refl, differ)))
    (all_both P (seed ++ drawn) (next ++ (pace ++ count))
    (all_both P seed drawn
    (all_compared P subject.Seed (Numbers w.seed v.seed) (λ differ. (refl, differ)))
    (all_compared P subject.Drawn (Numbers w.drawn v.drawn) (λ differ. (refl, differ))))
    (all_both P next (pace ++ count)
    (all_compared P subject.Next (Numbers w.next_id v.next_id) (λ differ. (refl, differ)))
    (all_both P pace count
    (all_compared P subject.Pace (Numbers w.pace v.pace) (λ differ. (refl, differ)))
    (all_compared P subject.Clients (Numbers (clients_of w) (clients_of v))
    (λ differ. (refl, differ)))))))

pub saves_true : (a b : Saved) → AllByRecursion (IsTrueOfSaves a b) (save_differences a b)
saves_true a b =
    let P = IsTrueOfSaves a b in
    let w = a.world in
    let v = b.world in
    let clients = clients_differences w v in
    let actors = actors_differences w v in
    let ore = ore_differences w.ore v.ore in
    all_both P (head_differences a b) (clients ++ (actors ++ ore)) (head_true a b)
    (all_both P clients (actors ++ ore)
    (all_each P (client_differences w v) 0 (min (clients_of w) (clients_of v)) (client_true a b))
    (all_both P actors ore
    (all_each P (id_differences w.actors v.actors) 0 (max w.next_id v.next_id)
    (λ id. id_true a b id (actor_of w.actors id) (actor_of v.actors id) refl refl))
    (all_each P (cell_of w.ore.width w.ore.cells v.ore.cells) 0 (length w.ore.cells)
    (cell_true a b))))

-- ---- replays

frame_true :
    (r s : Replay) (n : ℕ) → AllByRecursion (IsTrueOfReplays r s) (differences_in r s n)
frame_true r s n =
    let frame = frame_in r.parts n in
    let other = frame_in s.parts n in
    all_each (IsTrueOfReplays r s) (entry_differences n frame other) 0 r.clients
    (λ c. all_if (IsTrueOfReplays r s) (subject.Entry n c) Entries (slice_get frame c)
    (slice_get other c) (λ x y here there differ. ((x, y, here, there, refl), differ)))

mark_true :
    (r s : Replay) (n : ℕ) → AllByRecursion (IsTrueOfReplays r s) (mark_differences r s n)
mark_true r s n =
    all_if (IsTrueOfReplays r s) (subject.Mark n) Hashes (mark_at r.parts n) (mark_at s.parts n)
    (λ x y here there differ. ((x, y, here, there, refl), differ))

entries_true :
    (r s : Replay) (same : Bool) →
    AllByRecursion (IsTrueOfReplays r s)
    (if same then least (differences_in r s) 0 (common_frames r s) else [])
entries_true r s true =
    all_least (IsTrueOfReplays r s) (differences_in r s) 0 (common_frames r s) (frame_true r s)
entries_true r s false = tt

pub replays_true : (r s : Replay) → AllByRecursion (IsTrueOfReplays r s) (replay_differences r s)
replays_true r s =
    let P = IsTrueOfReplays r s in
    let seed = compared subject.Seed (Numbers r.seed s.seed) in
    let clients = compared subject.Clients (Numbers r.clients s.clients) in
    let frames = compared subject.Frames (Numbers (frame_count r) (frame_count s)) in
    all_both P (match_differences r s) (entries_differences r s ++ marks_differences r s)
    (all_both P seed (clients ++ frames)
    (all_compared P subject.Seed (Numbers r.seed s.seed) (λ differ. (refl, differ)))
    (all_both P clients frames
    (all_compared P subject.Clients (Numbers r.clients s.clients) (λ differ. (refl, differ)))
    (all_compared P subject.Frames (Numbers (frame_count r) (frame_count s))
    (λ differ. (refl, differ)))))
    (all_both P (entries_differences r s) (marks_differences r s)
    (entries_true r s (r.clients == s.clients))
    (all_least P (mark_differences r s) 0 (common_frames r s + 1) (mark_true r s)))
