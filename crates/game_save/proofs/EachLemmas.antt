-- Values that are read one after the other.
use Rattle.std.proofs.Common.{◌≡◌, ℕ, suc, ◌+◌, ◌-◌, ◌<◌, ◌≤◌, List, [], ◌∷◌, ◌++◌, Ok, Err}
use Rattle.std.proofs.Common.{refl, sym, ◌∙◌, arith}
use Rattle.game_save.specs.declared.save_fault.SaveFault.{SaveFault}
use Rattle.game_save.specs.Fields.{Left, SaveRead, each_after}

-- One more of so many was read.
pub each_step :
    {A : Type 0} (read : List A → Left → SaveRead A) (held : List A) (count i : ℕ)
    (left after : Left) (x : A) (all : SaveRead (List A)) → i < count →
    read held left ≡ Ok (x, after) → each_after read held (count - i) left ≡ all →
    each_after read (held ++ x ∷ []) (count - (i + 1)) after ≡ all
unfolding each_after
each_step read held count i left after x all some is so_far =
    let more : count - i ≡ suc (count - (i + 1)) = omega arith in
    let step : each_after read held (count - i) left
    ≡ each_after read (held ++ x ∷ []) (count - (i + 1)) after =
    rw (more, is) refl in
    sym step ∙ so_far

-- The next one is none.
pub each_bad :
    {A : Type 0} (read : List A → Left → SaveRead A) (held : List A) (count i : ℕ) (left : Left)
    (fault : SaveFault) (all : SaveRead (List A)) → i < count → read held left ≡ Err fault →
    each_after read held (count - i) left ≡ all → all ≡ Err fault
unfolding each_after
each_bad {A} read held count i left fault all some is so_far =
    let more : count - i ≡ suc (count - (i + 1)) = omega arith in
    let step : each_after read held (count - i) left ≡ Err fault = rw (more, is) refl in
    sym so_far ∙ step

-- All were read.
pub each_end :
    {A : Type 0} (read : List A → Left → SaveRead A) (held : List A) (count i : ℕ) (left : Left)
    (all : SaveRead (List A)) → count ≤ i → each_after read held (count - i) left ≡ all →
    all ≡ Ok (held, left)
unfolding each_after
each_end {A} read held count i left all past so_far =
    let none : count - i ≡ 0 = omega arith in
    let end : each_after read held (count - i) left ≡ Ok (held, left) = rw none refl in
    sym so_far ∙ end
