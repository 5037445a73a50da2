-- The index of a list that is held as slots.
use Rattle.std.proofs.Common.{◌≡◌, ℕ, zero, suc, ◌+◌, ◌<◌, true, false, ◌&&◌, cond, List, [], ◌∷◌, ◌++◌, length}
use Rattle.std.proofs.Common.{get_or, take, refl, sym, ap, ◌∙◌, arith, subst, Option, Some}
use Rattle.std.proofs.lemmas.List.{take_more, take_all}
use Rattle.std.specs.Str.{bytes_eq}
use Rattle.yaml_merge.specs.declared.growing_list.Slot.{Slot}
use Rattle.yaml_merge.specs.Slots.{LacksKey, StandsAt, IsFound, IsWhole, holds}
use Rattle.yaml_merge.proofs.SlotSteps.{found_added, found_more, lacks_before, lacks_more}

-- What finds the keys of the slots up to a place.
abbrev pub FindsUpTo : ℕ → List Slot → (List ℕ → Option ℕ) → Type 0
FindsUpTo at slots search = (key : List ℕ) → IsFound key (take at slots) (search key)

length_taken : (slots : List Slot) (at : ℕ) → at < length slots → length (take at slots) ≡ at
length_taken [] at h = absurd (omega arith)
length_taken (slot ∷ rest) zero h = refl
length_taken (slot ∷ rest) (suc at) h = ap suc (length_taken rest at (omega arith))

more_slots : (slots : List Slot) (at : ℕ) (slot : Slot) → at < length slots → slot ≡ get_or slots at slot → take (at + 1) slots ≡ take at slots ++ slot ∷ []
more_slots slots at slot h e = take_more slots at slot h ∙ ap (λ s. take at slots ++ s ∷ []) (sym e)

pub finds_live : (slots : List Slot) (at : ℕ) (slot : Slot) (old new : List ℕ → Option ℕ) → at < length slots → slot ≡ get_or slots at slot → slot.live ≡ true → IsWhole slots →
    ((key : List ℕ) → new key ≡ cond (bytes_eq slot.key key) (Some at) (old key)) → FindsUpTo at slots old → FindsUpTo (at + 1) slots new
finds_live slots at slot old new h e y w u k key =
    subst (λ l. IsFound key l (new key)) (sym (more_slots slots at slot h e))
    (subst (IsFound key (take at slots ++ slot ∷ [])) (sym (u key))
    (subst (λ i. IsFound key (take at slots ++ slot ∷ []) (cond (bytes_eq slot.key key) (Some i) (old key))) (length_taken slots at h)
    (found_added slot.key key (old key) (take at slots) slot y refl (lacks_before at slots slot h e y w) (k key))))

pub finds_dead : (slots : List Slot) (at : ℕ) (slot : Slot) (old : List ℕ → Option ℕ) → at < length slots → slot ≡ get_or slots at slot → slot.live ≡ false →
    FindsUpTo at slots old → FindsUpTo (at + 1) slots old
finds_dead slots at slot old h e n k key =
    subst (λ l. IsFound key l (old key)) (sym (more_slots slots at slot h e))
    (found_more key (old key) (take at slots) slot (ap (λ b. b && bytes_eq slot.key key) n) (k key))

pub lacks_one_more : (key : List ℕ) (slots : List Slot) (at : ℕ) (slot : Slot) → at < length slots → slot ≡ get_or slots at slot → holds key slot ≡ false → LacksKey key (take at slots) →
    LacksKey key (take (at + 1) slots)
lacks_one_more key slots at slot h e n l = subst (LacksKey key) (sym (more_slots slots at slot h e)) (lacks_more key (take at slots) slot n l)

pub stands_after : (key : List ℕ) (at : ℕ) (slots : List Slot) (slot : Slot) → at < length slots → slot ≡ get_or slots at slot → holds key slot ≡ true → LacksKey key (take at slots) → StandsAt key at slots
stands_after key at [] slot h e y l = absurd (omega arith)
stands_after key zero (first ∷ rest) slot h e y l = sym (ap (holds key) e) ∙ y
stands_after key (suc at) (first ∷ rest) slot h e y l = (l.0, stands_after key at rest slot (omega arith) e y l.1)

pub ruleset search_steps = (lacks_one_more, stands_after, take_all)

-- The search after one more key.
pub added_key : (slots : List Slot) (slot : Slot) (key copied : List ℕ) (old new : List ℕ → Option ℕ) → slot.key ≡ key → slot.live ≡ true → LacksKey key slots → copied ≡ key →
    ((q : List ℕ) → new q ≡ cond (bytes_eq copied q) (Some (length slots)) (old q)) → ((q : List ℕ) → IsFound q slots (old q)) → (q : List ℕ) → IsFound q (slots ++ slot ∷ []) (new q)
added_key slots slot key copied old new k y l c u f q =
    subst (IsFound q (slots ++ slot ∷ [])) (sym (u q ∙ ap (λ x. cond (bytes_eq x q) (Some (length slots)) (old q)) c)) (found_added key q (old q) slots slot y k l (f q))
