-- A list that is held as slots, changed at one of them.
use Rattle.std.proofs.Common.{◌≡◌, ℕ, zero, suc, ◌+◌, ◌<◌, Bool, true, false, ◌&&◌, cond, List, []}
use Rattle.std.proofs.Common.{◌∷◌, ◌++◌, length, get_or, set, take, refl, sym, ap, ◌∙◌, arith, subst}
use Rattle.std.proofs.Common.{Option, Some, None, inl, inr}
use Rattle.std.proofs.lemmas.Bool.{cases_Bool, cond-true, cond-false}
use Rattle.std.proofs.lemmas.Slice.Eq.{bytes_eq-Decides}
use Rattle.std.specs.Str.{bytes_eq}
use Rattle.yaml_lines.specs.declared.place.Place.{Place}
use Rattle.yaml_lines.specs.Trees.{Trees, none, more}
use Rattle.yaml_merge.specs.declared.growing_list.Slot.{Slot}
use Rattle.yaml_merge.specs.Places.{children_from, emptied_at, put_at, removed_from, width, Stands}
use Rattle.yaml_merge.specs.Merging.{Lacks, count, newer_value}
use Rattle.yaml_merge.specs.Resolving.{added}
use Rattle.yaml_merge.specs.Slots.{standing, holds, LacksKey, StandsAt, IsFound, IsWhole}
use Rattle.yaml_merge.proofs.KeySteps.{bytes_flip}

-- A slot before the nodes of the others, and the place of a node after it.
abbrev pub led : Slot → Trees → Trees
led slot rest = cond slot.live (more slot.key slot.value slot.place slot.children rest) rest

-- Among the nodes, the place of the node of a slot.
abbrev pub rank : ℕ → List Slot → ℕ
rank at [] = 0
rank zero (slot ∷ rest) = 0
rank (suc at) (slot ∷ rest) = cond slot.live (suc (rank at rest)) (rank at rest)

holds_live : (key : List ℕ) (slot : Slot) → slot.live ≡ true → holds key slot ≡ bytes_eq slot.key key
holds_live key slot y = ap (λ b. b && bytes_eq slot.key key) y

holds_dead : (key : List ℕ) (slot : Slot) → slot.live ≡ false → holds key slot ≡ false
holds_dead key slot n = ap (λ b. b && bytes_eq slot.key key) n

-- A slot that holds a key is live, and has this key.
and_parts : (one other : Bool) → one && other ≡ true → (one ≡ true) × (other ≡ true)
and_parts true other h = (refl, h)
and_parts false other h = cc

pub is_live : (key : List ℕ) (slot : Slot) → holds key slot ≡ true → slot.live ≡ true
is_live key slot h = (and_parts slot.live (bytes_eq slot.key key) h).0

pub has_key : (key : List ℕ) (slot : Slot) → holds key slot ≡ true → slot.key ≡ key
has_key key slot h = (bytes_eq-Decides slot.key key).0 (and_parts slot.live (bytes_eq slot.key key) h).1

pub stands_within : (key : List ℕ) (at : ℕ) (slots : List Slot) → StandsAt key at slots → at < length slots
stands_within key at [] h = absurd h
stands_within key zero (slot ∷ rest) h = omega arith
stands_within key (suc at) (slot ∷ rest) h = omega (arith, stands_within key at rest h.1)

pub stands_holds : (key : List ℕ) (at : ℕ) (slots : List Slot) (d : Slot) → StandsAt key at slots → d ≡ get_or slots at d → holds key d ≡ true
stands_holds key at [] d h e = absurd h
stands_holds key zero (slot ∷ rest) d h e = ap (holds key) e ∙ h
stands_holds key (suc at) (slot ∷ rest) d h e = stands_holds key at rest d h.1 e

-- The nodes of a list that lacks a key, or has it.
pub lacks_standing : (key : List ℕ) (slots : List Slot) → LacksKey key slots → Lacks key (standing slots)
lacks_standing key [] h = tt
lacks_standing key (slot ∷ rest) h = elim (cases_Bool slot.live) [
  | inl y ↦ subst (Lacks key) (sym (cond-true slot.live _ (standing rest) y)) (sym (holds_live key slot y) ∙ h.0, lacks_standing key rest h.1)
  | inr n ↦ subst (Lacks key) (sym (cond-false slot.live _ (standing rest) n)) (lacks_standing key rest h.1)
]

stands_led : (key : List ℕ) (at : ℕ) (slot : Slot) (rest : Trees) → holds key slot ≡ false → Stands key at rest →
    Stands key (cond slot.live (suc at) at) (led slot rest)
stands_led key at slot rest h s = elim (cases_Bool slot.live) [
  | inl y ↦
      subst (λ (i : ℕ). Stands key i (led slot rest)) (sym (cond-true slot.live (suc at) at y))
      (subst (Stands key (suc at)) (sym (cond-true slot.live _ rest y)) (sym (holds_live key slot y) ∙ h, s))
  | inr n ↦
      subst (λ (i : ℕ). Stands key i (led slot rest)) (sym (cond-false slot.live (suc at) at n))
      (subst (Stands key at) (sym (cond-false slot.live _ rest n)) s)
]

pub stands_standing : (key : List ℕ) (at : ℕ) (slots : List Slot) → StandsAt key at slots → Stands key (rank at slots) (standing slots)
stands_standing key at [] h = absurd h
stands_standing key zero (slot ∷ rest) h =
    subst (Stands key 0) (sym (cond-true slot.live _ (standing rest) (is_live key slot h))) (sym (holds_live key slot (is_live key slot h)) ∙ h)
stands_standing key (suc at) (slot ∷ rest) h = stands_led key (rank at rest) slot (standing rest) h.0 (stands_standing key at rest h.1)

-- Past a slot, live or dead.
past : {A : Type 0} (f : ℕ → Trees → A) (at : ℕ) (live : Bool) (key value : List ℕ) (place : Place) (children rest : Trees) (g : A) →
    f (suc at) (more key value place children rest) ≡ g → f at rest ≡ g → f (cond live (suc at) at) (cond live (more key value place children rest) rest) ≡ g
past f at true key value place children rest g h k = h
past f at false key value place children rest g h k = k

past_led : (f : ℕ → Trees → Trees) (at : ℕ) (live : Bool) (key value : List ℕ) (place : Place) (children rest next : Trees) →
    f (suc at) (more key value place children rest) ≡ more key value place children (f at rest) → next ≡ f at rest →
    cond live (more key value place children next) next ≡ f (cond live (suc at) at) (cond live (more key value place children rest) rest)
past_led f at true key value place children rest next h e = ap (more key value place children) e ∙ sym h
past_led f at false key value place children rest next h e = e

pub children_standing : (at : ℕ) (slots : List Slot) (d : Slot) → at < length slots → d ≡ get_or slots at d → d.live ≡ true →
    d.children ≡ children_from (rank at slots) (standing slots)
children_standing at [] d w e y = absurd (omega arith)
children_standing zero (slot ∷ rest) d w e y =
    ap (λ s. s.children) e ∙ sym (ap (children_from 0) (cond-true slot.live _ (standing rest) (sym (ap (λ s. s.live) e) ∙ y)))
children_standing (suc at) (slot ∷ rest) d w e y =
    sym (past children_from (rank at rest) slot.live slot.key slot.value slot.place slot.children (standing rest) _ refl refl
    ∙ sym (children_standing at rest d (omega arith) e y))

-- The slot with other children.
abbrev pub refilled : Slot → List ℕ → Place → Trees → Slot
refilled slot value place below = record slot { value = value; place = place; children = below }

pub put_standing : (at : ℕ) (slots : List Slot) (d : Slot) (fresh value : List ℕ) (place : Place) (below : Trees) → at < length slots → d ≡ get_or slots at d → d.live ≡ true →
    fresh ≡ newer_value d.value value → standing (set slots at (refilled d fresh place below)) ≡ put_at (rank at slots) value place below (standing slots)
put_standing at [] d fresh value place below w e y m = absurd (omega arith)
put_standing zero (slot ∷ rest) d fresh value place below w e y m =
    cond-true d.live _ (standing rest) y
    ∙ ap (λ v. more d.key v place below (standing rest)) m
    ∙ ap (λ s. more s.key (newer_value s.value value) place below (standing rest)) e
    ∙ sym (ap (put_at 0 value place below) (cond-true slot.live _ (standing rest) (sym (ap (λ s. s.live) e) ∙ y)))
put_standing (suc at) (slot ∷ rest) d fresh value place below w e y m =
    past_led (λ i. put_at i value place below) (rank at rest) slot.live slot.key slot.value slot.place slot.children (standing rest) _ refl
    (put_standing at rest d fresh value place below (omega arith) e y m)

pub emptied_standing : (at : ℕ) (slots : List Slot) (d : Slot) (below : Trees) → at < length slots → d ≡ get_or slots at d → d.live ≡ true → below ≡ none →
    standing (set slots at (record d { children = below })) ≡ emptied_at (rank at slots) (standing slots)
emptied_standing at [] d below w e y n = absurd (omega arith)
emptied_standing zero (slot ∷ rest) d below w e y n =
    cond-true d.live _ (standing rest) y
    ∙ ap (λ b. more d.key d.value d.place b (standing rest)) n
    ∙ ap (λ s. more s.key s.value s.place none (standing rest)) e
    ∙ sym (ap (emptied_at 0) (cond-true slot.live _ (standing rest) (sym (ap (λ s. s.live) e) ∙ y)))
emptied_standing (suc at) (slot ∷ rest) d below w e y n =
    past_led emptied_at (rank at rest) slot.live slot.key slot.value slot.place slot.children (standing rest) _ refl
    (emptied_standing at rest d below (omega arith) e y n)

pub removed_standing : (at : ℕ) (slots : List Slot) (d dead : Slot) → at < length slots → d ≡ get_or slots at d → d.live ≡ true → dead.live ≡ false →
    standing (set slots at dead) ≡ removed_from (rank at slots) (standing slots)
removed_standing at [] d dead w e y n = absurd (omega arith)
removed_standing zero (slot ∷ rest) d dead w e y n =
    cond-false dead.live _ (standing rest) n
    ∙ sym (ap (removed_from 0) (cond-true slot.live _ (standing rest) (sym (ap (λ s. s.live) e) ∙ y)))
removed_standing (suc at) (slot ∷ rest) d dead w e y n =
    past_led removed_from (rank at rest) slot.live slot.key slot.value slot.place slot.children (standing rest) _ refl
    (removed_standing at rest d dead (omega arith) e y n)

led_added : (live : Bool) (key value : List ℕ) (place : Place) (children rest next : Trees) (k v : List ℕ) (p : Place) (c : Trees) → next ≡ added k v p c rest →
    cond live (more key value place children next) next ≡ added k v p c (cond live (more key value place children rest) rest)
led_added true key value place children rest next k v p c e = ap (more key value place children) e
led_added false key value place children rest next k v p c e = e

pub added_standing : (slots : List Slot) (slot : Slot) → slot.live ≡ true → standing (slots ++ slot ∷ []) ≡ added slot.key slot.value slot.place slot.children (standing slots)
added_standing [] slot y = cond-true slot.live _ none y
added_standing (first ∷ slots) slot y =
    led_added first.live first.key first.value first.place first.children (standing slots) _ slot.key slot.value slot.place slot.children (added_standing slots slot y)

pub dead_standing : (slots : List Slot) (slot : Slot) → slot.live ≡ false → standing (slots ++ slot ∷ []) ≡ standing slots
dead_standing [] slot n = cond-false slot.live _ none n
dead_standing (first ∷ slots) slot n = ap (λ t. cond first.live (more first.key first.value first.place first.children t) t) (dead_standing slots slot n)

-- How many nodes a changed list has.
pub width_standing : (at : ℕ) (slots : List Slot) (d : Slot) → at < length slots → d ≡ get_or slots at d → d.live ≡ true → rank at slots < width (standing slots)
width_standing at [] d w e y = absurd (omega arith)
width_standing zero (slot ∷ rest) d w e y = omega (arith, ap width (cond-true slot.live (more slot.key slot.value slot.place slot.children (standing rest)) (standing rest) (sym (ap (λ s. s.live) e) ∙ y)))
width_standing (suc at) (slot ∷ rest) d w e y = elim (cases_Bool slot.live) [
  | inl l ↦
      omega (
        arith,
        width_standing at rest d (omega arith) e y,
        ap width (cond-true slot.live (more slot.key slot.value slot.place slot.children (standing rest)) (standing rest) l),
        cond-true slot.live (suc (rank at rest)) (rank at rest) l,
      )
  | inr l ↦
      omega (
        arith,
        width_standing at rest d (omega arith) e y,
        ap width (cond-false slot.live (more slot.key slot.value slot.place slot.children (standing rest)) (standing rest) l),
        cond-false slot.live (suc (rank at rest)) (rank at rest) l,
      )
]

pub count_put : (at : ℕ) (value : List ℕ) (place : Place) (below list : Trees) → at < width list →
    count (put_at at value place below list) + count (children_from at list) ≡ count list + count below
count_put at value place below none w = absurd (omega arith)
count_put zero value place below (more key old last children rest) w = omega arith
count_put (suc at) value place below (more key old last children rest) w = omega (arith, count_put at value place below rest (omega arith))

pub count_emptied : (at : ℕ) (list : Trees) → at < width list → count (emptied_at at list) + count (children_from at list) ≡ count list
count_emptied at none w = absurd (omega arith)
count_emptied zero (more key value place children rest) w = omega arith
count_emptied (suc at) (more key value place children rest) w = omega (arith, count_emptied at rest (omega arith))

pub count_added : (key value : List ℕ) (place : Place) (children list : Trees) → count (added key value place children list) ≡ count list + count children + 1
count_added key value place children none = omega arith
count_added key value place children (more first old last others rest) = omega (arith, count_added key value place children rest)

pub count_removed : (at : ℕ) (list : Trees) → at < width list → count (removed_from at list) + count (children_from at list) + 1 ≡ count list
count_removed at none w = absurd (omega arith)
count_removed zero (more key value place children rest) w = omega arith
count_removed (suc at) (more key value place children rest) w = omega (arith, count_removed at rest (omega arith))

-- Where a key is found in a changed list.
lacks_set : (key : List ℕ) (at : ℕ) (slots : List Slot) (d new : Slot) → d ≡ get_or slots at d → holds key new ≡ holds key d → LacksKey key slots → LacksKey key (set slots at new)
lacks_set key at [] d new e s h = tt
lacks_set key zero (slot ∷ rest) d new e s h = (s ∙ ap (holds key) e ∙ h.0, h.1)
lacks_set key (suc at) (slot ∷ rest) d new e s h = (h.0, lacks_set key at rest d new e s h.1)

stands_set : (key : List ℕ) (i at : ℕ) (slots : List Slot) (d new : Slot) → d ≡ get_or slots at d → holds key new ≡ holds key d → StandsAt key i slots → StandsAt key i (set slots at new)
stands_set key i at [] d new e s h = absurd h
stands_set key zero zero (slot ∷ rest) d new e s h = s ∙ ap (holds key) e ∙ h
stands_set key zero (suc at) (slot ∷ rest) d new e s h = h
stands_set key (suc i) zero (slot ∷ rest) d new e s h = (s ∙ ap (holds key) e ∙ h.0, h.1)
stands_set key (suc i) (suc at) (slot ∷ rest) d new e s h = (h.0, stands_set key i at rest d new e s h.1)

pub found_set : (key : List ℕ) (found : Option ℕ) (at : ℕ) (slots : List Slot) (d new : Slot) → d ≡ get_or slots at d → holds key new ≡ holds key d → IsFound key slots found →
    IsFound key (set slots at new) found
found_set key None at slots d new e s h = lacks_set key at slots d new e s h
found_set key (Some i) at slots d new e s h = stands_set key i at slots d new e s h

lacks_dead : (key : List ℕ) (at : ℕ) (slots : List Slot) (dead : Slot) → dead.live ≡ false → IsWhole slots → StandsAt key at slots → LacksKey key (set slots at dead)
lacks_dead key at [] dead n w h = absurd h
lacks_dead key zero (slot ∷ rest) dead n w h = (holds_dead key dead n, subst (λ k. LacksKey k rest) (has_key key slot h) (w.0 (is_live key slot h)))
lacks_dead key (suc at) (slot ∷ rest) dead n w h = (h.0, lacks_dead key at rest dead n w.2 h.1)

-- One who holds a key holds no other.
holds_other : (key other : List ℕ) (slot : Slot) → holds key slot ≡ true → bytes_eq key other ≡ false → holds other slot ≡ false
holds_other key other slot h n = holds_live other slot (is_live key slot h) ∙ ap (λ k. bytes_eq k other) (has_key key slot h) ∙ n

pub found_dead : (key other : List ℕ) (found : Option ℕ) (at : ℕ) (slots : List Slot) (d dead : Slot) → d ≡ get_or slots at d → dead.live ≡ false → IsWhole slots → StandsAt key at slots →
    IsFound other slots found → IsFound other (set slots at dead) (cond (bytes_eq key other) None found)
found_dead key other found at slots d dead e n w s h = elim (cases_Bool (bytes_eq key other)) [
  | inl y ↦
      subst (IsFound other (set slots at dead)) (sym (cond-true _ _ _ y))
      (subst (λ k. LacksKey k (set slots at dead)) ((bytes_eq-Decides key other).0 y) (lacks_dead key at slots dead n w s))
  | inr o ↦
      subst (IsFound other (set slots at dead)) (sym (cond-false _ _ _ o))
      (found_set other found at slots d dead e (holds_dead other dead n ∙ sym (holds_other key other d (stands_holds key at slots d s e) o)) h)
]

-- One more slot.
pub lacks_more : (key : List ℕ) (slots : List Slot) (slot : Slot) → holds key slot ≡ false → LacksKey key slots → LacksKey key (slots ++ slot ∷ [])
lacks_more key [] slot n h = (n, tt)
lacks_more key (first ∷ slots) slot n h = (h.0, lacks_more key slots slot n h.1)

stands_more : (key : List ℕ) (at : ℕ) (slots : List Slot) (slot : Slot) → StandsAt key at slots → StandsAt key at (slots ++ slot ∷ [])
stands_more key at [] slot h = absurd h
stands_more key zero (first ∷ slots) slot h = h
stands_more key (suc at) (first ∷ slots) slot h = (h.0, stands_more key at slots slot h.1)

stands_last : (key : List ℕ) (slots : List Slot) (slot : Slot) → holds key slot ≡ true → LacksKey key slots → StandsAt key (length slots) (slots ++ slot ∷ [])
stands_last key [] slot y h = y
stands_last key (first ∷ slots) slot y h = (h.0, stands_last key slots slot y h.1)

pub found_more : (key : List ℕ) (found : Option ℕ) (slots : List Slot) (slot : Slot) → holds key slot ≡ false → IsFound key slots found → IsFound key (slots ++ slot ∷ []) found
found_more key None slots slot n h = lacks_more key slots slot n h
found_more key (Some at) slots slot n h = stands_more key at slots slot h

pub found_added : (key other : List ℕ) (found : Option ℕ) (slots : List Slot) (slot : Slot) → slot.live ≡ true → slot.key ≡ key → LacksKey key slots → IsFound other slots found →
    IsFound other (slots ++ slot ∷ []) (cond (bytes_eq key other) (Some (length slots)) found)
found_added key other found slots slot y k l h = elim (cases_Bool (bytes_eq key other)) [
  | inl e ↦
      subst (IsFound other (slots ++ slot ∷ [])) (sym (cond-true _ _ _ e))
      (stands_last other slots slot (holds_live other slot y ∙ ap (λ x. bytes_eq x other) k ∙ e) (subst (λ x. LacksKey x slots) ((bytes_eq-Decides key other).0 e) l))
  | inr o ↦
      subst (IsFound other (slots ++ slot ∷ [])) (sym (cond-false _ _ _ o))
      (found_more other found slots slot (holds_live other slot y ∙ ap (λ x. bytes_eq x other) k ∙ o) h)
]

-- A changed list stays whole.
pub whole_set : (at : ℕ) (slots : List Slot) (d new : Slot) → d ≡ get_or slots at d → new.live ≡ d.live → new.key ≡ d.key → d.live ≡ true → IsWhole slots → IsWhole (set slots at new)
whole_set at [] d new e l k y w = tt
whole_set zero (slot ∷ rest) d new e l k y w =
    let live : slot.live ≡ true = sym (ap (λ s. s.live) e) ∙ y in
    let same : slot.key ≡ new.key = sym (ap (λ s. s.key) e) ∙ sym k in (
      λ _. subst (λ x. LacksKey x rest) same (w.0 live),
      λ n. let dead : true ≡ false = sym y ∙ sym l ∙ n in cc,
      w.2,
    )
whole_set (suc at) (slot ∷ rest) d new e l k y w = (
  λ live. lacks_set slot.key at rest d new e (ap (λ b. b && bytes_eq new.key slot.key) l ∙ ap (λ x. d.live && bytes_eq x slot.key) k) (w.0 live),
  w.1,
  whole_set at rest d new e l k y w.2,
)

lacks_emptied : (key : List ℕ) (at : ℕ) (slots : List Slot) (dead : Slot) → dead.live ≡ false → LacksKey key slots → LacksKey key (set slots at dead)
lacks_emptied key at [] dead n h = tt
lacks_emptied key zero (slot ∷ rest) dead n h = (holds_dead key dead n, h.1)
lacks_emptied key (suc at) (slot ∷ rest) dead n h = (h.0, lacks_emptied key at rest dead n h.1)

pub whole_dead : (at : ℕ) (slots : List Slot) (dead : Slot) → dead.live ≡ false → dead.children ≡ none → IsWhole slots → IsWhole (set slots at dead)
whole_dead at [] dead n c w = tt
whole_dead zero (slot ∷ rest) dead n c w = (λ y. let other : true ≡ false = sym y ∙ n in cc, λ _. c, w.2)
whole_dead (suc at) (slot ∷ rest) dead n c w = (λ y. lacks_emptied slot.key at rest dead n (w.0 y), w.1, whole_dead at rest dead n c w.2)

lacks_flipped : (slot new : Slot) → new.live ≡ true → slot.live ≡ true → holds new.key slot ≡ false → holds slot.key new ≡ false
lacks_flipped slot new y l h = holds_live slot.key new y ∙ bytes_flip new.key slot.key ∙ sym (holds_live new.key slot l) ∙ h

pub whole_added : (slots : List Slot) (slot : Slot) → slot.live ≡ true → LacksKey slot.key slots → IsWhole slots → IsWhole (slots ++ slot ∷ [])
whole_added [] slot y h w = (λ _. tt, λ n. let other : true ≡ false = sym y ∙ n in cc, tt)
whole_added (first ∷ slots) slot y h w = (
  λ l. lacks_more first.key slots slot (lacks_flipped first slot y l h.0) (w.0 l),
  w.1,
  whole_added slots slot y h.1 w.2,
)

lacks_at : (key : List ℕ) (at : ℕ) (slots : List Slot) (d : Slot) → at < length slots → d ≡ get_or slots at d → LacksKey key slots → holds key d ≡ false
lacks_at key at [] d l e h = absurd (omega arith)
lacks_at key zero (slot ∷ rest) d l e h = ap (holds key) e ∙ h.0
lacks_at key (suc at) (slot ∷ rest) d l e h = lacks_at key at rest d (omega arith) e h.1

-- The slots before one lack its key.
pub lacks_before : (at : ℕ) (slots : List Slot) (d : Slot) → at < length slots → d ≡ get_or slots at d → d.live ≡ true → IsWhole slots → LacksKey d.key (take at slots)
lacks_before at [] d l e y w = absurd (omega arith)
lacks_before zero (slot ∷ rest) d l e y w = tt
lacks_before (suc at) (slot ∷ rest) d l e y w = (
  elim (cases_Bool slot.live) [
    | inl live ↦ lacks_flipped d slot live y (lacks_at slot.key at rest d (omega arith) e (w.0 live))
    | inr dead ↦ holds_dead d.key slot dead
  ],
  lacks_before at rest d (omega arith) e y w.2,
)
