-- Steps that may fail: what follows one, and the fault with which a call fails.
use Rattle.std.specs.Prelude.{◌≡◌, ◌⊎◌, Result, Ok, Err}

-- A step that may fail, and what follows where it doesn't.
infixl 10 ◌>>=◌
abbrev pub ◌>>=◌ : {A B E : Type 0} → Result A E → (A → Result B E) → Result B E
(Ok value) >>= next = next value
(Err fault) >>= next = Err fault

-- A call fails with this fault: it is that of the outcome, or out of memory, which may take the
-- place of any answer.
abbrev pub IsFault : {A E : Type 0} → (no_memory fault : E) → (outcome : Result A E) → Type 0
IsFault no_memory fault outcome = (fault ≡ no_memory) ⊎ (outcome ≡ Err fault)
