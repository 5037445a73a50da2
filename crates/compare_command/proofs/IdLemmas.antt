-- Going over two lists at once is going over all ids.
use Rattle.std.specs.Prelude.{◌≡◌, ℕ, zero, suc, ◌+◌, ◌<◌, ◌≤◌, ◌==◌, nat_lt, Bool, true, false, max}
use Rattle.std.specs.Prelude.{List, [], ◌∷◌, ◌++◌, Option, Some, None, if◌then◌else◌, slice_index_or}
use Rattle.std.specs.Prelude.{length}
use Rattle.std.specs.List.{All, AllPairs}
use Rattle.std.proofs.Common.{refl, sym, ap, ap₂, subst, ◌∙◌, arith}
use Rattle.std.proofs.lemmas.Bool.Decides.{nat_tests}
use Rattle.game_model.specs.declared.actor.Actor.{Actor}
use Rattle.game_model.specs.declared.world.World.{World}
use Rattle.game_model.specs.World.{actor_of}
use Rattle.compare_command.specs.Difference.{Difference, OnlyFirst, OnlySecond}
use Rattle.compare_command.specs.Each.{each}
use Rattle.compare_command.specs.Found.{FoundState, with_found}
use Rattle.compare_command.specs.Merging.{merged, HasIds}
use Rattle.compare_command.specs.Saves.{actors_differences, beside}
use Rattle.compare_command.specs.Saves.{id_differences}

-- The ids rise from the least one on, and are below a bound.
abbrev RisesFrom : (least bound : ℕ) → List Actor → Type 0
RisesFrom least bound [] = Unit {0}
RisesFrom least bound (a ∷ actors) =
    (least ≤ a.id) × (a.id < bound) × RisesFrom (a.id + 1) bound actors

rises :
    (least bound : ℕ) (actors : List Actor) →
    AllPairs (λ (a b : Actor). a.id < b.id) actors → All (λ (a : Actor). a.id < bound) actors →
    All (λ (a : Actor). least ≤ a.id) actors → RisesFrom least bound actors
rises least bound [] pairs below from = tt
rises least bound (a ∷ actors) pairs below from =
    let some : 0 < length (a ∷ actors) = omega arith in (
      from 0 a some,
      below 0 a some,
      rises (a.id + 1) bound actors
          (λ i j d less within. pairs (suc i) (suc j) d (omega (arith, less)) (omega (arith, within)))
          (λ k d within. below (suc k) d (omega (arith, within)))
          (λ k d within. later k d (pairs 0 (suc k) d (omega arith) (omega (arith, within)))),
    )
  where
    later : (k : ℕ) (d : Actor) → a.id < (slice_index_or actors k d).id →
        a.id + 1 ≤ (slice_index_or actors k d).id
    later k d less = omega (arith, less)

-- The first actor, if it has this id, and the actors but that one.
abbrev head_at : ℕ → List Actor → Option Actor
head_at id [] = None
head_at id (a ∷ actors) = if a.id == id then Some a else None

abbrev rest_at : ℕ → List Actor → List Actor
rest_at id [] = []
rest_at id (a ∷ actors) = if a.id == id then actors else a ∷ actors

-- No actor has an id below the least.
none_below :
    (actors : List Actor) (least bound id : ℕ) → RisesFrom least bound actors → id < least →
    actor_of actors id ≡ None
none_below [] least bound id rise below = refl
none_below (a ∷ actors) least bound id rise below =
    let other : (a.id == id) ≡ false = grind (arith, nat_tests, rise.0, below) in
    rw other (none_below actors (a.id + 1) bound id rise.2 (omega (arith, rise.0, below)))

-- The actor of the least id is the first one, if it has it.
found_first :
    (actors : List Actor) (id bound : ℕ) → RisesFrom id bound actors →
    actor_of actors id ≡ head_at id actors
found_first [] id bound rise = refl
found_first (a ∷ actors) id bound rise = by_test (a.id == id) refl
  where
    by_test : (same : Bool) → (a.id == id) ≡ same →
        (if same then Some a else actor_of actors id) ≡ (if same then Some a else None)
    by_test true is = refl
    by_test false is =
        let later : id < a.id + 1 = omega (arith, rise.0) in
        none_below actors (a.id + 1) bound id rise.2 later

rest_rises :
    (actors : List Actor) (id bound : ℕ) → RisesFrom id bound actors →
    RisesFrom (id + 1) bound (rest_at id actors)
rest_rises [] id bound rise = tt
rest_rises (a ∷ actors) id bound rise = by_test (a.id == id) refl
  where
    by_test : (same : Bool) → (a.id == id) ≡ same →
        RisesFrom (id + 1) bound (if same then actors else a ∷ actors)
    by_test true is =
        let same : a.id ≡ id = grind (arith, nat_tests, is) in
        subst (λ (least : ℕ). RisesFrom (least + 1) bound actors) same rise.2
    by_test false is =
        let above : id + 1 ≤ a.id = grind (arith, nat_tests, is, rise.0) in
        (above, rise.1, rise.2)

-- Later ids are found among the rest.
rest_finds :
    (actors : List Actor) (id k : ℕ) → id < k → actor_of actors k ≡ actor_of (rest_at id actors) k
rest_finds [] id k later = refl
rest_finds (a ∷ actors) id k later = by_test (a.id == id) refl
  where
    by_test : (same : Bool) → (a.id == id) ≡ same →
        actor_of (a ∷ actors) k ≡ actor_of (if same then actors else a ∷ actors) k
    by_test true is =
        let other : (a.id == k) ≡ false = grind (arith, nat_tests, is, later) in
        rw other refl
    by_test false is = refl

-- The least id of two lists.
merged_least :
    (actors others : List Actor) (id bound limit : ℕ) → RisesFrom id bound actors →
    RisesFrom id limit others →
    merged actors others
    ≡ beside id (head_at id actors) (head_at id others)
    ++ merged (rest_at id actors) (rest_at id others)
merged_least [] [] id bound limit rise rise' = refl
merged_least [] (q ∷ others) id bound limit rise rise' = by_test (q.id == id) refl
  where
    by_test : (same : Bool) → (q.id == id) ≡ same →
        merged [] (q ∷ others)
        ≡ beside id None (if same then Some q else None)
        ++ merged [] (if same then others else q ∷ others)
    by_test true is =
        let same : q.id ≡ id = grind (arith, nat_tests, is) in
        ap (λ (n : ℕ). OnlySecond n ∷ merged [] others) same
    by_test false is = refl
merged_least (p ∷ actors) [] id bound limit rise rise' = by_test (p.id == id) refl
  where
    by_test : (same : Bool) → (p.id == id) ≡ same →
        merged (p ∷ actors) []
        ≡ beside id (if same then Some p else None) None
        ++ merged (if same then actors else p ∷ actors) []
    by_test true is =
        let same : p.id ≡ id = grind (arith, nat_tests, is) in
        ap (λ (n : ℕ). OnlyFirst n ∷ merged actors []) same
    by_test false is = refl
merged_least (p ∷ actors) (q ∷ others) id bound limit rise rise' =
    by_tests (p.id == id) (q.id == id) refl refl
  where
    by_tests : (one two : Bool) → (p.id == id) ≡ one → (q.id == id) ≡ two →
        merged (p ∷ actors) (q ∷ others)
        ≡ beside id (if one then Some p else None) (if two then Some q else None)
        ++ merged (if one then actors else p ∷ actors) (if two then others else q ∷ others)
    by_tests true true is is' =
        let less : nat_lt p.id q.id ≡ false = grind (arith, nat_tests, is, is') in
        let more : nat_lt q.id p.id ≡ false = grind (arith, nat_tests, is, is') in
        rw (less, more) refl
    by_tests true false is is' =
        let same : p.id ≡ id = grind (arith, nat_tests, is) in
        let less : nat_lt p.id q.id ≡ true = grind (arith, nat_tests, is, is', rise'.0) in
        rw less (ap (λ (n : ℕ). OnlyFirst n ∷ merged actors (q ∷ others)) same)
    by_tests false true is is' =
        let same : q.id ≡ id = grind (arith, nat_tests, is') in
        let less : nat_lt p.id q.id ≡ false = grind (arith, nat_tests, is, is', rise.0) in
        let more : nat_lt q.id p.id ≡ true = grind (arith, nat_tests, is, is', rise.0) in
        rw (less, more) (ap (λ (n : ℕ). OnlySecond n ∷ merged (p ∷ actors) others) same)
    by_tests false false is is' = refl

empty_within : (actors : List Actor) (id : ℕ) → RisesFrom id (id + 0) actors → actors ≡ []
empty_within [] id rise = refl
empty_within (a ∷ actors) id rise = absurd (omega (arith, rise.0, rise.1))

-- From an id on, where the lists are what is left of all actors.
ids_merged :
    (actors others all all' : List Actor) (id count : ℕ) →
    RisesFrom id (id + count) actors → RisesFrom id (id + count) others →
    ((k : ℕ) → id ≤ k → actor_of all k ≡ actor_of actors k) →
    ((k : ℕ) → id ≤ k → actor_of all' k ≡ actor_of others k) →
    merged actors others ≡ each (id_differences all all') id count
ids_merged actors others all all' id zero rise rise' finds finds' =
    ap₂ merged (empty_within actors id rise) (empty_within others id rise')
ids_merged actors others all all' id (suc count) rise rise' finds finds' =
    let bound : id + suc count ≡ (id + 1) + count = omega arith in
    let next = subst (λ (b : ℕ). RisesFrom (id + 1) b (rest_at id actors)) bound
    (rest_rises actors id (id + suc count) rise) in
    let next' = subst (λ (b : ℕ). RisesFrom (id + 1) b (rest_at id others)) bound
    (rest_rises others id (id + suc count) rise') in
    let here : actor_of all id ≡ head_at id actors =
    finds id (omega arith) ∙ found_first actors id (id + suc count) rise in
    let here' : actor_of all' id ≡ head_at id others =
    finds' id (omega arith) ∙ found_first others id (id + suc count) rise' in
    let later : merged (rest_at id actors) (rest_at id others)
    ≡ each (id_differences all all') (id + 1) count =
    ids_merged (rest_at id actors) (rest_at id others) all all' (id + 1) count next next'
    (λ k above. finds k (omega (arith, above)) ∙ rest_finds actors id k (omega (arith, above)))
    (λ k above. finds' k (omega (arith, above)) ∙ rest_finds others id k (omega (arith, above))) in
    merged_least actors others id (id + suc count) (id + suc count) rise rise'
    ∙ ap₂ (λ (p q : Option Actor). beside id p q ++ merged (rest_at id actors) (rest_at id others))
    (sym here) (sym here')
    ∙ ap (λ (rest : List Difference). id_differences all all' id ++ rest) later

below_more :
    (actors : List Actor) (bound more : ℕ) → bound ≤ more →
    All (λ (a : Actor). a.id < bound) actors → All (λ (a : Actor). a.id < more) actors
below_more actors bound more above below =
    λ k d within. omega (arith, below k d within, above)

-- Of two worlds.
pub all_merged :
    (a b : World) → HasIds a → HasIds b → merged a.actors b.actors ≡ actors_differences a b
all_merged a b ids ids' =
    let most : ℕ = max a.next_id b.next_id in
    let start : most ≡ 0 + most = omega arith in
    ids_merged a.actors b.actors a.actors b.actors 0 most
    (subst (λ (n : ℕ). RisesFrom 0 n a.actors) start
    (rises 0 most a.actors ids.rise
    (below_more a.actors a.next_id most (omega arith) ids.below) (λ k d within. omega arith)))
    (subst (λ (n : ℕ). RisesFrom 0 n b.actors) start
    (rises 0 most b.actors ids'.rise
    (below_more b.actors b.next_id most (omega arith) ids'.below) (λ k d within. omega arith)))
    (λ k above. refl) (λ k above. refl)

pub ids_found :
    (old new : FoundState) (a b : World) → HasIds a → HasIds b →
    new ≡ with_found old (merged a.actors b.actors) →
    new ≡ with_found old (actors_differences a b)
ids_found old new a b ids ids' found = found ∙ ap (with_found old) (all_merged a b ids ids')
