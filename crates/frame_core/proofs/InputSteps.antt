-- One client more in the loop over what the clients have.
use Rattle.std.proofs.Common.{◌≡◌, ℕ, zero, suc, ◌+◌, ◌≤◌, Bool, true, List, [], ◌∷◌, length, drop}
use Rattle.std.proofs.Common.{refl, sym, ap, ◌∙◌, add-one, arith}
use Rattle.std.specs.Prelude.{Some, slice_get}
use Rattle.frame_core.specs.declared.input.Input.{Input}
use Rattle.frame_core.specs.declared.input.Input.TheVariants.{Missing, Played, Departed}
use Rattle.frame_core.specs.declared.ready.Ready.TheVariants.{NotYet}
use Rattle.frame_core.specs.Input.{ready_from, ready_of}

drop_suc : (inputs : List Input) (c : ℕ) (input : Input) → slice_get inputs c ≡ Some input → drop c inputs ≡ input ∷ drop (suc c) inputs
drop_suc [] c input at = absurd cc
drop_suc (first ∷ inputs) zero input at = cc
drop_suc (first ∷ inputs) (suc c) input at = drop_suc inputs c input at

drop_get : (inputs : List Input) (c : ℕ) (input : Input) → slice_get inputs c ≡ Some input → drop c inputs ≡ input ∷ drop (c + 1) inputs
drop_get inputs c input at = rw add-one (drop_suc inputs c input at)

-- The answer over all clients is that over those from c on, the ones before them having played or
-- not.
abbrev pub IsLeft : List Input → ℕ → Bool → Type 0
IsLeft inputs c played = ready_of inputs ≡ ready_from c played (drop c inputs)

pub missing_step :
    (inputs : List Input) (c : ℕ) (played : Bool) → IsLeft inputs c played → slice_get inputs c ≡ Some Missing →
    NotYet c ≡ ready_of inputs
missing_step inputs c played left at = sym (left ∙ ap (ready_from c played) (drop_get inputs c Missing at))

pub played_step :
    (inputs : List Input) (c : ℕ) (played : Bool) → IsLeft inputs c played → slice_get inputs c ≡ Some Played →
    IsLeft inputs (c + 1) true
played_step inputs c played left at = left ∙ ap (ready_from c played) (drop_get inputs c Played at)

pub departed_step :
    (inputs : List Input) (c : ℕ) (played : Bool) → IsLeft inputs c played → slice_get inputs c ≡ Some Departed →
    IsLeft inputs (c + 1) played
departed_step inputs c played left at = left ∙ ap (ready_from c played) (drop_get inputs c Departed at)

drop_all : (inputs : List Input) (c : ℕ) → length inputs ≤ c → drop c inputs ≡ []
drop_all [] zero past = refl
drop_all [] (suc c) past = refl
drop_all (first ∷ inputs) zero past = absurd (omega arith)
drop_all (first ∷ inputs) (suc c) past = drop_all inputs c (omega arith)

pub end_step :
    (inputs : List Input) (c : ℕ) (played : Bool) → IsLeft inputs c played → length inputs ≤ c →
    ready_from c played [] ≡ ready_of inputs
end_step inputs c played left past = sym (left ∙ ap (ready_from c played) (drop_all inputs c past))
