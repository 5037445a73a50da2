-- A block while it is refilled in place.
use Rattle.std.proofs.Common.{◌≡◌, ℕ, ◌+◌, ◌-◌, ◌<◌, ◌≤◌, ◌≢◌, inl, inr, List, length, get_or, set}
use Rattle.std.proofs.Common.{ap, ◌∙◌, arith, get_or-set_same, get_or-set_other}
use Rattle.std.proofs.lemmas.Bool.{cases_eq}
use Rattle.twister.specs.Sequence.{twisted_of, x_of}
use Rattle.twister.specs.Block.{HoldsFrom, IsRenewedTo}
use Rattle.twister.proofs.EarlierWords.{x_twist}

-- At the start nothing is renewed, and at the end all of the block.
pub renewed_none : (seed base : ℕ) (block : List ℕ) → HoldsFrom seed base block → IsRenewedTo seed base 0 block
renewed_none seed base block holds = record { done = λ j below. absurd (omega arith); left = λ j from within. holds.word j within }

pub renewed_all : (seed base : ℕ) (block : List ℕ) → IsRenewedTo seed base 624 block → HoldsFrom seed (base + 624) block
renewed_all seed base block renewed = record { word = renewed.done }

-- The word of a place under another name of the place.
at-place : (seed i j w : ℕ) → w ≡ x_of seed i → i ≡ j → w ≡ x_of seed j
at-place seed i j w is same = is ∙ ap (x_of seed) same

-- What stands at a place after a write of another.
pub after_write :
    (block : List ℕ) (k j w x : ℕ) → k < length block → (j ≡ k → w ≡ x) → (j ≢ k → get_or block j 0 ≡ x) →
    get_or (set block k w) j 0 ≡ x
after_write block k j w x within same other =
    elim (cases_eq j k) [
      | inl here ↦ ap (λ i. get_or (set block k w) i 0) here ∙ get_or-set_same block k w 0 within ∙ same here
      | inr away ↦ get_or-set_other block k j w 0 away ∙ other away
    ]

-- One more word is renewed.
pub renewed_more :
    (seed base k far next w : ℕ) (block : List ℕ) → k < length block → k < 624 → IsRenewedTo seed base k block →
    w ≡ twisted_of (get_or block far 0) (get_or block k 0) (get_or block next 0) →
    get_or block far 0 ≡ x_of seed (base + k + 397) → get_or block next 0 ≡ x_of seed (base + k + 1) →
    IsRenewedTo seed base (k + 1) (set block k w)
renewed_more seed base k far next w block inside within renewed is other lower =
    let upper : get_or block k 0 ≡ x_of seed (base + k) = renewed.left k (omega arith) within in
    let twist : x_of seed (base + k + 624) ≡ twisted_of (x_of seed (base + k + 397)) (x_of seed (base + k)) (x_of seed (base + k + 1)) = x_twist seed (base + k) in
    let value : w ≡ x_of seed (base + k + 624) = cc in
    record {
      done = λ j below.
          after_write block k j w (x_of seed (base + 624 + j)) inside
          (λ here. at-place seed (base + k + 624) (base + 624 + j) w value (omega arith))
          (λ away. renewed.done j (omega arith));
      left = λ j from room.
          after_write block k j w (x_of seed (base + j)) inside
          (λ here. absurd (omega arith))
          (λ away. renewed.left j (omega arith) room);
    }

-- While the other word is one of the old block.
pub renewed_front :
    (seed base k w : ℕ) (block : List ℕ) → k < length block → k < 227 → IsRenewedTo seed base k block →
    w ≡ twisted_of (get_or block (k + 397) 0) (get_or block k 0) (get_or block (k + 1) 0) →
    IsRenewedTo seed base (k + 1) (set block k w)
renewed_front seed base k w block inside within renewed is =
    renewed_more seed base k (k + 397) (k + 1) w block inside (omega arith) renewed is
    (at-place seed (base + (k + 397)) (base + k + 397) _ (renewed.left (k + 397) (omega arith) (omega arith)) (omega arith))
    (at-place seed (base + (k + 1)) (base + k + 1) _ (renewed.left (k + 1) (omega arith) (omega arith)) (omega arith))

-- While it is one of the new block.
pub renewed_middle :
    (seed base k w : ℕ) (block : List ℕ) → k < length block → 227 ≤ k → k < 623 → IsRenewedTo seed base k block →
    w ≡ twisted_of (get_or block (k - 227) 0) (get_or block k 0) (get_or block (k + 1) 0) →
    IsRenewedTo seed base (k + 1) (set block k w)
renewed_middle seed base k w block inside from within renewed is =
    renewed_more seed base k (k - 227) (k + 1) w block inside (omega arith) renewed is
    (at-place seed (base + 624 + (k - 227)) (base + k + 397) _ (renewed.done (k - 227) (omega arith)) (omega arith))
    (at-place seed (base + (k + 1)) (base + k + 1) _ (renewed.left (k + 1) (omega arith) (omega arith)) (omega arith))

-- The last word is made of the first of the new block.
pub renewed_last :
    (seed base w : ℕ) (block : List ℕ) → 623 < length block → IsRenewedTo seed base 623 block →
    w ≡ twisted_of (get_or block 396 0) (get_or block 623 0) (get_or block 0 0) →
    HoldsFrom seed (base + 624) (set block 623 w)
renewed_last seed base w block inside renewed is =
    renewed_all seed base (set block 623 w)
    (renewed_more seed base 623 396 0 w block inside (omega arith) renewed is
    (at-place seed (base + 624 + 396) (base + 623 + 397) _ (renewed.done 396 (omega arith)) (omega arith))
    (at-place seed (base + 624 + 0) (base + 623 + 1) _ (renewed.done 0 (omega arith)) (omega arith)))
