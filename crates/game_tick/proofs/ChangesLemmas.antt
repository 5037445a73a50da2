-- Proofs about lists of actors by rising id in which one actor has changed.
use Rattle.std.specs.Prelude.{◌≡◌, ◌≢◌, ℕ, zero, suc, ◌==◌, ◌<◌, ◌⊎◌, ◌&&◌, Bool, true, false}
use Rattle.std.specs.Prelude.{if◌then◌else◌, cond, List, [], ◌∷◌, length, get_or, Some, refl}
use Rattle.std.specs.List.{All, AllPairs, find}
use Rattle.std.proofs.Common.{sym, ◌∙◌, ap, subst, inl, inr, arith}
use Rattle.std.proofs.lemmas.Bool.{eqb-true, eqb-false, cases_order, and_parts}
use Rattle.world_units.specs.declared.cell.CPos.{CPos}
use Rattle.game_model.specs.declared.actor.Actor.{Actor}
use Rattle.game_model.specs.ActorChanges.{changed_at}
use Rattle.game_model.specs.Setup.{Setup}
use Rattle.game_model.specs.ValidWorld.{IsSoundActor, StepReady}
use Rattle.game_model.specs.World.{is_alive, living_of}

pub length-changed_at :
    (actors : List Actor) (id : ℕ) (change : Actor → Actor) →
    length (changed_at actors id change) ≡ length actors
length-changed_at [] id change = refl
length-changed_at (a ∷ actors) id change = ap suc (length-changed_at actors id change)

pub get_or-changed_at :
    (actors : List Actor) (id : ℕ) (change : Actor → Actor) (k : ℕ) (d : Actor) →
    k < length actors →
    get_or (changed_at actors id change) k d
    ≡ (if (get_or actors k d).id == id then change (get_or actors k d) else get_or actors k d)
get_or-changed_at [] id change k d within = absurd (omega arith)
get_or-changed_at (a ∷ actors) id change zero d within = refl
get_or-changed_at (a ∷ actors) id change (suc k) d within =
    get_or-changed_at actors id change k d (omega arith)

-- No other actor of the list has this actor's id.
abbrev pub IsOnly : List Actor → Actor → Type 0
IsOnly actors a = All (λ (b : Actor). b.id ≡ a.id → b ≡ a) actors

-- What stands at a place after the change of an actor to c: what stood there, with another id, or c
-- in place of the actor.
abbrev pub Becomes : (a c x y : Actor) → Type 0
Becomes a c x y = ((x.id ≢ a.id) × (y ≡ x)) ⊎ ((x ≡ a) × (y ≡ c))

becomes_by :
    (same : Bool) (a x : Actor) (change : Actor → Actor) → (x.id == a.id) ≡ same →
    (x.id ≡ a.id → x ≡ a) → Becomes a (change a) x (if same then change x else x)
becomes_by true a x change is only =
    let here : x ≡ a = only (eqb-true x.id a.id is) in
    inr (here, ap change here)
becomes_by false a x change is only = inl (eqb-false x.id a.id is, refl)

pub becomes :
    (actors : List Actor) (a : Actor) (change : Actor → Actor) → IsOnly actors a →
    (k : ℕ) (d : Actor) → k < length actors →
    Becomes a (change a) (get_or actors k d) (get_or (changed_at actors a.id change) k d)
becomes actors a change only k d within =
    subst (Becomes a (change a) (get_or actors k d))
    (sym (get_or-changed_at actors a.id change k d within))
    (becomes_by ((get_or actors k d).id == a.id) a (get_or actors k d) change refl
    (only k d within))

holds_after :
    (P : Actor → Type 0) (a c x y : Actor) → Becomes a c x y → P x → P c → P y
holds_after P a c x y (inl other) old new = subst P (sym other.1) old
holds_after P a c x y (inr here) old new = subst P (sym here.1) new

-- What holds of all, and of the changed actor, holds of all after the change.
pub All-changed :
    (P : Actor → Type 0) (actors : List Actor) (a : Actor) (change : Actor → Actor) →
    IsOnly actors a → All P actors → P (change a) → All P (changed_at actors a.id change)
All-changed P actors a change only all new = λ k d within.
    let inside : k < length actors = omega (arith, within, length-changed_at actors a.id change) in
    holds_after P a (change a) (get_or actors k d) (get_or (changed_at actors a.id change) k d)
    (becomes actors a change only k d inside) (all k d inside) new

-- A number that the change keeps is the same at each place.
number_after :
    {T : Type 0} (f : Actor → T) (a c x y : Actor) → Becomes a c x y → f c ≡ f a → f y ≡ f x
number_after f a c x y (inl other) same = ap f other.1
number_after f a c x y (inr here) same = ap f here.1 ∙ same ∙ sym (ap f here.0)

pub same_after :
    {T : Type 0} (f : Actor → T) (actors : List Actor) (a : Actor) (change : Actor → Actor) →
    IsOnly actors a → f (change a) ≡ f a → (k : ℕ) (d : Actor) → k < length actors →
    f (get_or (changed_at actors a.id change) k d) ≡ f (get_or actors k d)
same_after f actors a change only same k d within =
    number_after f a (change a) (get_or actors k d) (get_or (changed_at actors a.id change) k d)
    (becomes actors a change only k d within) same

-- Ids go on rising.
pub rise_after :
    (actors : List Actor) (a : Actor) (change : Actor → Actor) → IsOnly actors a →
    (change a).id ≡ a.id → AllPairs (λ (x y : Actor). x.id < y.id) actors →
    AllPairs (λ (x y : Actor). x.id < y.id) (changed_at actors a.id change)
rise_after actors a change only same rise = λ i j d less within.
    let inside : j < length actors = omega (arith, within, length-changed_at actors a.id change) in
    let low : i < length actors = omega arith in
    omega (
      arith,
      rise i j d less inside,
      same_after (λ (b : Actor). b.id) actors a change only same i d low,
      same_after (λ (b : Actor). b.id) actors a change only same j d inside,
    )

-- Nobody holds the cell, or the actor itself does.
abbrev pub IsFreeFor : List Actor → Actor → CPos → Type 0
IsFreeFor actors a p = (p ≡ a.cell) ⊎ All (λ (b : Actor). b.cell ≢ p) actors

cells_after :
    (a c x y u v : Actor) → Becomes a c x y → Becomes a c u v → x.id < u.id → x.cell ≢ u.cell →
    ((c.cell ≡ a.cell) ⊎ ((x.cell ≢ c.cell) × (u.cell ≢ c.cell))) → y.cell ≢ v.cell
cells_after a c x y u v (inl other) (inl next) less apart free =
    λ same.
    apart (sym (ap (λ (b : Actor). b.cell) other.1) ∙ same ∙ ap (λ (b : Actor). b.cell) next.1)
cells_after a c x y u v (inl other) (inr next) less apart (inl same) =
    λ is.
    apart
    (sym (ap (λ (b : Actor). b.cell) other.1) ∙ is ∙ ap (λ (b : Actor). b.cell) next.1 ∙ same ∙ sym
    (ap (λ (b : Actor). b.cell) next.0))
cells_after a c x y u v (inl other) (inr next) less apart (inr free) =
    λ is. free.0 (sym (ap (λ (b : Actor). b.cell) other.1) ∙ is ∙ ap (λ (b : Actor). b.cell) next.1)
cells_after a c x y u v (inr here) (inl next) less apart (inl same) =
    λ is.
    apart
    (ap (λ (b : Actor). b.cell) here.0 ∙ sym same ∙ sym (ap (λ (b : Actor). b.cell) here.1) ∙ is
    ∙ ap (λ (b : Actor). b.cell) next.1)
cells_after a c x y u v (inr here) (inl next) less apart (inr free) =
    λ is.
    free.1 (sym (ap (λ (b : Actor). b.cell) next.1) ∙ sym is ∙ ap (λ (b : Actor). b.cell) here.1)
cells_after a c x y u v (inr here) (inr next) less apart free =
    let first : x.id ≡ a.id = ap (λ (b : Actor). b.id) here.0 in
    let second : u.id ≡ a.id = ap (λ (b : Actor). b.id) next.0 in
    absurd (omega arith)

free_of_two :
    (actors : List Actor) (a : Actor) (p : CPos) (i j : ℕ) (d : Actor) → IsFreeFor actors a p →
    i < length actors → j < length actors →
    ((p ≡ a.cell) ⊎ (((get_or actors i d).cell ≢ p) × ((get_or actors j d).cell ≢ p)))
free_of_two actors a p i j d (inl same) low high = inl same
free_of_two actors a p i j d (inr free) low high = inr (free i d low, free j d high)

-- Cells stay apart.
pub apart_after :
    (actors : List Actor) (a : Actor) (change : Actor → Actor) → IsOnly actors a →
    IsFreeFor actors a (change a).cell → AllPairs (λ (x y : Actor). x.id < y.id) actors →
    AllPairs (λ (x y : Actor). x.cell ≢ y.cell) actors →
    AllPairs (λ (x y : Actor). x.cell ≢ y.cell) (changed_at actors a.id change)
apart_after actors a change only free rise apart = λ i j d less within.
    let inside : j < length actors = omega (arith, within, length-changed_at actors a.id change) in
    let low : i < length actors = omega arith in
    let after : List Actor = changed_at actors a.id change in
    cells_after a (change a) (get_or actors i d) (get_or after i d) (get_or actors j d)
    (get_or after j d)
    (becomes actors a change only i d low) (becomes actors a change only j d inside)
    (rise i j d less inside) (apart i j d less inside)
    (free_of_two actors a (change a).cell i j d free low inside)

-- The actors are ready for steps, this one is the only one of its id, and the two predicates of a
-- valid world hold of it.
pub record Stands
    (setup : Setup) (clients next_id : ℕ) (H : Actor → Type 0) (actors : List Actor) (a : Actor) :
    Type 0 where
  pub ready : StepReady setup clients next_id actors
  pub all : All H actors
  pub only : IsOnly actors a
  pub sound : IsSoundActor setup clients next_id a
  pub fine : H a

only_after :
    (a c x y : Actor) → Becomes a c x y → c.id ≡ a.id → y.id ≡ c.id → y ≡ c
only_after a c x y (inl other) same is =
    absurd (other.0 (sym (ap (λ (b : Actor). b.id) other.1) ∙ is ∙ same))
only_after a c x y (inr here) same is = here.1

-- The change of an actor to one that is as sound.
pub changed :
    (setup : Setup) (clients next_id : ℕ) (H : Actor → Type 0) (actors : List Actor) (a : Actor)
    (change : Actor → Actor) →
    Stands setup clients next_id H actors a → (change a).id ≡ a.id →
    IsFreeFor actors a (change a).cell → IsSoundActor setup clients next_id (change a) →
    H (change a) →
    Stands setup clients next_id H (changed_at actors a.id change) (change a)
changed setup clients next_id H actors a change stands same free sound fine =
    record {
      ready =
          record {
            each =
                All-changed (IsSoundActor setup clients next_id) actors a change stands.only
                stands.ready.each sound;
            rise = rise_after actors a change stands.only same stands.ready.rise;
            apart =
                apart_after actors a change stands.only free stands.ready.rise stands.ready.apart;
            count = omega (arith, stands.ready.count, length-changed_at actors a.id change);
            next = stands.ready.next;
          };
      all = All-changed H actors a change stands.only stands.all fine;
      only =
          λ k d within.
          let inside : k < length actors =
          omega (arith, within, length-changed_at actors a.id change) in
          only_after a (change a) (get_or actors k d) (get_or (changed_at actors a.id change) k d)
          (becomes actors a change stands.only k d inside) same;
      sound = sound;
      fine = fine;
    }

other_after :
    (a c x y b : Actor) → Becomes a c x y → c.id ≡ a.id → a.id ≢ b.id → (x.id ≡ b.id → x ≡ b) →
    y.id ≡ b.id → y ≡ b
other_after a c x y b (inl other) same differ only is =
    other.1 ∙ only (sym (ap (λ (e : Actor). e.id) other.1) ∙ is)
other_after a c x y b (inr here) same differ only is =
    absurd (differ (sym same ∙ sym (ap (λ (e : Actor). e.id) here.1) ∙ is))

-- Another actor stands after the change of one.
pub changed_other :
    (setup : Setup) (clients next_id : ℕ) (H : Actor → Type 0) (actors : List Actor) (a b : Actor)
    (change : Actor → Actor) →
    Stands setup clients next_id H actors a → Stands setup clients next_id H actors b →
    a.id ≢ b.id → (change a).id ≡ a.id →
    Stands setup clients next_id H (changed_at actors a.id change) (change a) →
    Stands setup clients next_id H (changed_at actors a.id change) b
changed_other setup clients next_id H actors a b change stands other differ same after =
    record {
      ready = after.ready;
      all = after.all;
      only =
          λ k d within.
          let inside : k < length actors =
          omega (arith, within, length-changed_at actors a.id change) in
          other_after a (change a) (get_or actors k d) (get_or (changed_at actors a.id change) k d)
          b
          (becomes actors a change stands.only k d inside) same differ (other.only k d inside);
      sound = other.sound;
      fine = other.fine;
    }

-- What a search finds stands at a place, and passes the test.
abbrev pub IsFound : {X : Type 0} → (X → Bool) → List X → X → Type 0
IsFound {X} test xs x =
    (k : ℕ) × (k < length xs) × ((d : X) → get_or xs k d ≡ x) × (test x ≡ true)

later_found :
    {X : Type 0} (test : X → Bool) (x : X) (xs : List X) (y : X) → IsFound test xs y →
    IsFound test (x ∷ xs) y
later_found test x xs y (k, within, at, passes) = (suc k, omega arith, at, passes)

found_first :
    {X : Type 0} (here : Bool) (test : X → Bool) (x : X) (xs : List X) (y : X) → test x ≡ here →
    (find test xs ≡ Some y → IsFound test xs y) → cond here (Some x) (find test xs) ≡ Some y →
    IsFound test (x ∷ xs) y
found_first true test x xs y is later found =
    let same : x ≡ y = grind arith in
    (0, omega arith, λ d. same, subst (λ z. test z ≡ true) same is)
found_first false test x xs y is later found = later_found test x xs y (later found)

pub found_in :
    {X : Type 0} (test : X → Bool) (xs : List X) (y : X) → find test xs ≡ Some y → IsFound test xs y
found_in test [] y found = absurd cc
found_in test (x ∷ xs) y found =
    found_first (test x) test x xs y refl (found_in test xs y) found

-- Of actors by rising id the one at a place is the only one of its id.
only_at :
    (actors : List Actor) (a : Actor) (k : ℕ) → k < length actors →
    ((d : Actor) → get_or actors k d ≡ a) → AllPairs (λ (x y : Actor). x.id < y.id) actors →
    IsOnly actors a
only_at actors a k inside at rise = λ j d within same.
    let here : (get_or actors k d).id ≡ a.id = ap (λ (b : Actor). b.id) (at d) in
    elim (cases_order j k) [
      | inl is ↦ subst (λ i. get_or actors i d ≡ a) (sym is) (at d)
      | inr (inl less) ↦ absurd (omega (arith, rise j k d less inside))
      | inr (inr more) ↦ absurd (omega (arith, rise k j d more within))
    ]

pub is_only :
    (actors : List Actor) (id : ℕ) (a : Actor) → AllPairs (λ (x y : Actor). x.id < y.id) actors →
    living_of actors id ≡ Some a → IsOnly actors a
is_only actors id a rise found =
    let (k, within, at, passes) =
    found_in (λ (b : Actor). (b.id == id) && is_alive b) actors a found in
    only_at actors a k within at rise

-- What holds of all holds of what a search finds.
pub All-found :
    {X : Type 0} (P : X → Type 0) (test : X → Bool) (xs : List X) (y : X) → All P xs →
    find test xs ≡ Some y → P y
All-found P test xs y all found =
    let (k, within, at, passes) = found_in test xs y found in
    subst P (at y) (all k y within)

-- The id of the living actor of an id.
pub id_of_living :
    (actors : List Actor) (id : ℕ) (a : Actor) → living_of actors id ≡ Some a → a.id ≡ id
id_of_living actors id a found =
    let (k, within, at, passes) =
    found_in (λ (b : Actor). (b.id == id) && is_alive b) actors a found in
    eqb-true a.id id (and_parts (a.id == id) (is_alive a) passes).0

pub living_stands :
    (setup : Setup) (clients next_id : ℕ) (H : Actor → Type 0) (actors : List Actor) (id : ℕ)
    (a : Actor) →
    StepReady setup clients next_id actors → All H actors → living_of actors id ≡ Some a →
    Stands setup clients next_id H actors a
living_stands setup clients next_id H actors id a ready all found =
    let test : Actor → Bool = λ b. (b.id == id) && is_alive b in
    record {
      ready = ready;
      all = all;
      only = is_only actors id a ready.rise found;
      sound = All-found (IsSoundActor setup clients next_id) test actors a ready.each found;
      fine = All-found H test actors a all found;
    }
