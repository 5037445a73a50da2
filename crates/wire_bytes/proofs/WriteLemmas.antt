-- Writes one after the other.
use Rattle.std.specs.Prelude.{◌≡◌, ◌≤◌, ℕ, List, [], ◌++◌, length, take}
use Rattle.std.proofs.Common.{refl, sym, ap, subst, ◌∙◌, arith}
use Rattle.std.proofs.lemmas.List.{take_at, take-take, append-nil, length-append}
use Rattle.wire_bytes.specs.Write.{Extends}

-- Bytes that were added last.
extends_added : (old more : List ℕ) → Extends old (old ++ more)
extends_added old more = record { kept = take_at old more (length old) refl }

-- Nothing was written.
pub extends_same : (old new : List ℕ) → new ≡ old → Extends old new
extends_same old new is =
    subst (Extends old) (append-nil old ∙ sym is) (extends_added old [])

-- One write.
pub extends_once : (old new more : List ℕ) → new ≡ old ++ more → Extends old new
extends_once old new more is = subst (Extends old) (sym is) (extends_added old more)

-- A write after another.
pub extends_further :
    (old mid new more : List ℕ) → mid ≡ old ++ more → Extends mid new → Extends old new
extends_further old mid new more is further =
    let within : length old ≤ length mid =
    subst (λ (xs : List ℕ). length old ≤ length xs) (sym is)
    (omega (arith, length-append old more)) in
    record {
      kept =
          sym (take-take (length old) (length mid) new within)
          ∙ ap (take (length old)) (further.kept ∙ is)
          ∙ take_at old more (length old) refl;
    }

-- Two writes.
pub extends_twice :
    (old mid new more further : List ℕ) → mid ≡ old ++ more → new ≡ mid ++ further →
    Extends old new
extends_twice old mid new more further is also =
    extends_further old mid new more is (extends_once mid new further also)

pub ruleset written = (extends_same, extends_once, extends_twice, extends_further)
