-- What holds of an outcome where it is not a fault.
use Rattle.std.proofs.Common.{◌≡◌, ℕ, Bool, true, false, cond, List, Result, Ok, Err, refl}
use Rattle.std.specs.Result.{IfOk}
use Rattle.base.specs.Steps.{◌>>=◌}
use Rattle.yaml_lines.specs.declared.place.Place.{Place}
use Rattle.yaml_lines.specs.Trees.{Trees, none, more}
use Rattle.map_grid.specs.declared.fault.MapFault.{MapFault}
use Rattle.map_grid.specs.Each.{Step, each}

-- What holds of both sides of a choice holds of the choice.
pub either : {A : Type 0} (P : A → Type 0) (test : Bool) (x y : Result A MapFault) → IfOk x P → IfOk y P → IfOk (cond test x y) P
either P true x y f g = f
either P false x y f g = g

-- A value where a test holds, and a fault where it doesn't.
pub checked : {A : Type 0} (P : A → Type 0) (test : Bool) (x : A) (fault : MapFault) → (test ≡ true → P x) → IfOk (cond test (Ok x) (Err fault)) P
checked P true x fault h = h refl
checked P false x fault h = tt

-- A fault where a test holds.
pub unless : {A : Type 0} (P : A → Type 0) (test : Bool) (fault : MapFault) (y : Result A MapFault) → (test ≡ false → IfOk y P) → IfOk (cond test (Err fault) y) P
unless P true fault y h = tt
unless P false fault y h = h refl

-- What holds after a step and what follows it.
pub followed : {A B : Type 0} (P : A → Type 0) (Q : B → Type 0) (outcome : Result A MapFault) (next : A → Result B MapFault) → IfOk outcome P →
    ((value : A) → P value → IfOk (next value) Q) → IfOk (outcome >>= next) Q
followed P Q (Ok value) next h n = n value h
followed P Q (Err fault) next h n = tt

pub any_outcome : {A : Type 0} (outcome : Result A MapFault) → IfOk outcome (λ _. Unit {0})
any_outcome (Ok value) = tt
any_outcome (Err fault) = tt

-- What each step keeps, all steps keep.
pub each_keeps :
    {S : Type 0} (P : S → Type 0) (step : Step S) →
    ((made : S) (key value : List ℕ) (place : Place) (children : Trees) → P made →
    IfOk (step made key value place children) P) →
    (made : S) (list : Trees) → P made → IfOk (each step made list) P
each_keeps P step keeps made none h = h
each_keeps P step keeps made (more key value place children rest) h =
    followed P P (step made key value place children) (λ next. each step next rest)
    (keeps made key value place children h) (λ next n. each_keeps P step keeps next rest n)
