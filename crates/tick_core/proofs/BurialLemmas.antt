-- The numbers of the dead go one by one.
use Rattle.std.proofs.Common.{◌≡◌, ℕ, zero, suc, ◌+◌, ◌<◌, ◌==◌, Bool, true, false, List, [], ◌∷◌, ◌++◌}
use Rattle.std.proofs.Common.{length, take, drop, map, refl, sym, ap, ap₂, subst, ◌∙◌, arith, add-one, get_or, append_assoc, append-nil}
use Rattle.std.specs.Prelude.{Some, slice_get, not}
use Rattle.std.specs.List.{All, AllPairs, filter}
use Rattle.std.proofs.lemmas.Bool.Decides.{nat_tests}
use Rattle.std.proofs.lemmas.List.Elements.{All-nil, All-cons, All-head, All-tail, All-weaker, All-filter, filter-append}
use Rattle.std.proofs.lemmas.Option.{get_or_from_slice_get, slice_get_within}
use Rattle.game_model.specs.declared.actor.Actor.{Actor}
use Rattle.game_model.proofs.StartLemmas.{pairs_head, pairs_tail}
use Rattle.game_model.specs.World.{is_alive}
use Rattle.sync_hash.specs.declared.actor_number.ActorNumber.{ActorNumber}
use Rattle.sync_hash.specs.Kept.{Kept, numbered, without_number}
use Rattle.sync_hash.proofs.KeptLemmas.{without_numbered}
use Rattle.tick_core.specs.Burial.{without_dead}
use Rattle.tick_core.proofs.TickLemmas.{drop_at}

-- What holds of all pairs holds of the elements before one, and of those after it.
pub earlier :
    {X : Type 0} (R : X → X → Type 0) (xs : List X) (i : ℕ) (a : X) → i < length xs → a ≡ get_or xs i a →
    AllPairs R xs → All (λ x. R x a) (take i xs)
earlier R [] i a within is pairs = absurd (omega arith)
earlier R (x ∷ xs) zero a within is pairs = All-nil (λ y. R y a)
earlier R (x ∷ xs) (suc i) a within is pairs =
    All-cons (λ y. R y a) x (take i xs) (subst (R x) (sym is) (pairs 0 (suc i) a (omega arith) within))
    (earlier R xs i a (omega arith) is (pairs_tail R x xs pairs))

pub later :
    {X : Type 0} (R : X → X → Type 0) (xs : List X) (i : ℕ) (a : X) → i < length xs → a ≡ get_or xs i a →
    AllPairs R xs → All (R a) (drop (suc i) xs)
later R [] i a within is pairs = absurd (omega arith)
later R (x ∷ xs) zero a within is pairs =
    subst (λ y. All (R y) xs) (sym is) (pairs_head R x xs pairs)
later R (x ∷ xs) (suc i) a within is pairs = later R xs i a (omega arith) is (pairs_tail R x xs pairs)

-- A test that each element passes keeps the list.
pub filter_keeps : {X : Type 0} (p : X → Bool) (xs : List X) → All (λ x. p x ≡ true) xs → filter p xs ≡ xs
filter_keeps p [] all = refl
filter_keeps p (x ∷ xs) all =
    rw (All-head (λ y. p y ≡ true) x xs all) (ap (λ l. x ∷ l) (filter_keeps p xs (All-tail (λ y. p y ≡ true) x xs all)))

below_differs : (a x : Actor) → x.id < a.id → not (x.id == a.id) ≡ true
below_differs a x less = grind (arith, nat_tests)

above_differs : (a x : Actor) → a.id < x.id → not (x.id == a.id) ≡ true
above_differs a x more = grind (arith, nat_tests)

-- Of actors whose ids rise, without one.
remove_one :
    (front : List Actor) (a : Actor) (back : List Actor) → All (λ (x : Actor). x.id < a.id) front →
    All (λ (x : Actor). a.id < x.id) back →
    filter (λ (x : Actor). not (x.id == a.id)) (front ++ a ∷ back) ≡ front ++ back
remove_one front a back below above =
    let p : Actor → Bool = λ x. not (x.id == a.id) in
    let gone : p a ≡ false = grind (arith, nat_tests) in
    let first : filter p front ≡ front = filter_keeps p front (All-weaker (λ (x : Actor). x.id < a.id) (λ x. p x ≡ true) (below_differs a) front below) in
    let last : filter p back ≡ back = filter_keeps p back (All-weaker (λ (x : Actor). a.id < x.id) (λ x. p x ≡ true) (above_differs a) back above) in
    let rest : filter p (a ∷ back) ≡ back = rw gone last in
    filter-append p front (a ∷ back) ∙ ap₂ (λ (l r : List Actor). l ++ r) first rest

pub take_at : {A : Type 0} (xs : List A) (n : ℕ) (x : A) → slice_get xs n ≡ Some x → take (suc n) xs ≡ take n xs ++ x ∷ []
take_at [] n x at = absurd cc
take_at (y ∷ xs) zero x at = let same : y ≡ x = cc in ap (λ z. z ∷ []) same
take_at (y ∷ xs) (suc n) x at = ap (λ l. y ∷ l) (take_at xs n x at)

-- The living among the first actors, and those after them.
abbrev pub buried_up_to : List Actor → ℕ → List Actor
buried_up_to actors i = filter is_alive (take i actors) ++ drop i actors

-- What is kept, with the numbers of other actors.
abbrev with_actors : Kept → List ActorNumber → Kept
with_actors kept actors = record kept { actors = actors }

forgot_by_life :
    (actors : List Actor) (i : ℕ) (a : Actor) (numbers : List ActorNumber) (back : List Actor) →
    numbers ≡ map numbered (filter is_alive (take i actors) ++ a ∷ back) →
    buried_up_to actors (i + 1) ≡ filter is_alive (take i actors ++ a ∷ []) ++ back →
    All (λ (x : Actor). x.id < a.id) (filter is_alive (take i actors)) → All (λ (x : Actor). a.id < x.id) back →
    (alive : Bool) → is_alive a ≡ alive → without_dead numbers a ≡ map numbered (buried_up_to actors (i + 1))
forgot_by_life actors i a numbers back now next below above true life =
    let front : List Actor = filter is_alive (take i actors) in
    let one : filter is_alive (a ∷ []) ≡ a ∷ [] = rw life refl in
    let joined : filter is_alive (take i actors ++ a ∷ []) ++ back ≡ front ++ a ∷ back =
    ap (λ l. l ++ back) (filter-append is_alive (take i actors) (a ∷ []) ∙ ap (λ r. front ++ r) one)
    ∙ append_assoc front (a ∷ []) back in
    rw life (now ∙ ap (map numbered) (sym (next ∙ joined)))
forgot_by_life actors i a numbers back now next below above false life =
    let front : List Actor = filter is_alive (take i actors) in
    let one : filter is_alive (a ∷ []) ≡ [] = rw life refl in
    let joined : filter is_alive (take i actors ++ a ∷ []) ++ back ≡ front ++ back =
    ap (λ l. l ++ back) (filter-append is_alive (take i actors) (a ∷ []) ∙ ap (λ r. front ++ r) one ∙ append-nil front) in
    rw life (ap (λ l. without_number l a.id) now ∙ without_numbered (front ++ a ∷ back) a.id ∙ ap (map numbered) (remove_one front a back below above ∙ sym (next ∙ joined)))

forgot_next :
    (actors : List Actor) (i : ℕ) (a : Actor) (numbers : List ActorNumber) →
    AllPairs (λ (x y : Actor). x.id < y.id) actors → slice_get actors i ≡ Some a →
    numbers ≡ map numbered (buried_up_to actors i) →
    without_dead numbers a ≡ map numbered (buried_up_to actors (i + 1))
forgot_next actors i a numbers rise at is =
    let R : Actor → Actor → Type 0 = λ x y. x.id < y.id in
    let within : i < length actors = slice_get_within actors i a at in
    let here : a ≡ get_or actors i a = sym (get_or_from_slice_get actors i a a at) in
    let front : List Actor = filter is_alive (take i actors) in
    let back : List Actor = drop (suc i) actors in
    let below = All-filter is_alive (λ (x : Actor). x.id < a.id) (take i actors) (earlier R actors i a within here rise) in
    let above = later R actors i a within here rise in
    let now : numbers ≡ map numbered (front ++ a ∷ back) =
    is ∙ ap (λ l. map numbered (front ++ l)) (drop_at actors i a at) in
    let next : buried_up_to actors (i + 1) ≡ filter is_alive (take i actors ++ a ∷ []) ++ back =
    ap (buried_up_to actors) (add-one i) ∙ ap (λ l. filter is_alive l ++ back) (take_at actors i a at) in
    forgot_by_life actors i a numbers back now next below above (is_alive a) refl

pub kept_next :
    (start now new : Kept) (actors : List Actor) (i : ℕ) (a : Actor) →
    AllPairs (λ (x y : Actor). x.id < y.id) actors → slice_get actors i ≡ Some a →
    now ≡ record start { actors = map numbered (buried_up_to actors i) } →
    new ≡ record now { actors = without_dead now.actors a } →
    new ≡ record start { actors = map numbered (buried_up_to actors (i + 1)) }
kept_next start now new actors i a rise at is_now is_new =
    is_new ∙ ap (λ (k : Kept). record k { actors = without_dead k.actors a }) is_now
    ∙ ap (λ l. with_actors start l) (forgot_next actors i a (map numbered (buried_up_to actors i)) rise at refl)
