-- What a change of a list that grows leaves whole.
use Rattle.std.proofs.Common.{◌≡◌, ℕ, zero, suc, ◌+◌, ◌-◌, ◌<◌, true, false, cond, List, [], ◌∷◌, ◌++◌}
use Rattle.std.proofs.Common.{length, get_or, set, refl, sym, ap, ◌∙◌, arith, subst, Global}
use Rattle.std.proofs.Common.{Option, Some, None}
use Rattle.std.specs.HashMap.{HashMap, get}
use Rattle.std.specs.Prelude.{Box, MatchOption}
use Rattle.std.specs.Str.{bytes_eq}
use Rattle.yaml_lines.specs.declared.place.Place.{Place}
use Rattle.yaml_lines.specs.Trees.{Trees, none, more}
use Rattle.yaml_merge.specs.declared.growing_list.Slot.{Slot}
use Rattle.yaml_merge.specs.declared.index.Index.{Index}
use Rattle.yaml_merge.specs.declared.hashers.Hashers.{Hashers}
use Rattle.yaml_merge.specs.Places.{emptied}
use Rattle.yaml_merge.specs.Merging.{Lacks, count, children_at, joined, newer_value, without}
use Rattle.yaml_merge.specs.Resolving.{added}
use Rattle.yaml_merge.specs.Slots.{standing, LacksKey, StandsAt, IsFound, IsWhole, Finds, Forgets}
use Rattle.yaml_merge.specs.Slots.{NoneLeft}
use Rattle.yaml_merge.proofs.PlaceLaws.{stands_children, emptied_stands, put_joined, added_joined}
use Rattle.yaml_merge.proofs.PlaceLaws.{without_at, lacks_children, joined_below}
use Rattle.yaml_merge.proofs.SlotSteps.{rank, refilled, is_live, stands_within, stands_holds}
use Rattle.yaml_merge.proofs.SlotSteps.{stands_standing, lacks_standing, children_standing, put_standing}
use Rattle.yaml_merge.proofs.SlotSteps.{emptied_standing, removed_standing, added_standing}
use Rattle.yaml_merge.proofs.SlotSteps.{width_standing, count_put, count_emptied, count_added}
use Rattle.yaml_merge.proofs.SlotSteps.{count_removed, found_set, found_dead, whole_set, whole_dead}
use Rattle.yaml_merge.proofs.SlotSteps.{whole_added}

-- The slot at a place, which holds a key.
pub record IsAt (key : List ℕ) (at : ℕ) (slots : List Slot) (slot : Slot) : Type 0 where
  pub within : at < length slots
  pub is : slot ≡ get_or slots at slot
  pub stands : StandsAt key at slots
  pub live : slot.live ≡ true

pub is_at : (key : List ℕ) (at : ℕ) (slots searched : List Slot) (slot : Slot) → searched ≡ slots → StandsAt key at searched → slot ≡ get_or slots at slot → IsAt key at slots slot
is_at key at slots searched slot s h e =
    let stands = subst (StandsAt key at) s h in
    record { within = stands_within key at slots stands; is = e; stands = stands; live = is_live key slot (stands_holds key at slots slot stands e) }

pub at_within : (key : List ℕ) (at : ℕ) (slots searched : List Slot) → searched ≡ slots → StandsAt key at searched → at < length slots
at_within key at slots searched s h = stands_within key at slots (subst (StandsAt key at) s h)

-- A slot has fewer nodes below it than the list has.
pub below_less : (key : List ℕ) (at : ℕ) (slots : List Slot) (slot : Slot) (total : ℕ) → IsAt key at slots slot → total ≡ count (standing slots) → count slot.children < total
below_less key at slots slot total i t =
    omega (
      arith,
      ap count (children_standing at slots slot i.within i.is i.live),
      count_removed (rank at slots) (standing slots) (width_standing at slots slot i.within i.is i.live),
    )

finds_by : (places : Option (Box (HashMap (List ℕ) ℕ Hashers) Global)) (slots others : List Slot) → ((key : List ℕ) (found : Option ℕ) → IsFound key slots found → IsFound key others found) →
    MatchOption places (Unit {0}) (λ held. (key : List ℕ) → IsFound key slots (get bytes_eq held.value key)) →
    MatchOption places (Unit {0}) (λ held. (key : List ℕ) → IsFound key others (get bytes_eq held.value key))
finds_by None slots others f h = tt
finds_by (Some held) slots others f h = λ key. f key (get bytes_eq held.value key) (h key)

-- A list is whole: keys, count, index.
abbrev pub AllWhole : List Slot → ℕ → Index → Type 0
AllWhole slots total index = IsWhole slots × (total ≡ count (standing slots)) × Finds index slots × NoneLeft slots total

-- Some node is left.
none_left : (slots : List Slot) (total : ℕ) → 0 < total → NoneLeft slots total
none_left slots zero h e = absurd (omega arith)
none_left slots (suc total) h e = cc

-- The children of a slot are taken out.
pub taken_whole : (key : List ℕ) (at : ℕ) (slots : List Slot) (slot : Slot) (total n : ℕ) (index : Index) (below : Trees) → IsAt key at slots slot → AllWhole slots total index → below ≡ none →
    n ≡ count slot.children → AllWhole (set slots at (record slot { children = below })) (total - n) index
taken_whole key at slots slot total n index below i w b c =
    let new : Slot = record slot { children = below } in
    let r = rank at slots in
    let width = width_standing at slots slot i.within i.is i.live in (
      whole_set at slots slot new i.is refl refl i.live w.0,
      omega (
        arith,
        w.1,
        c,
        ap count (children_standing at slots slot i.within i.is i.live),
        count_emptied r (standing slots) width,
        ap count (emptied_standing at slots slot below i.within i.is i.live b),
      ),
      finds_by index.places slots (set slots at new) (λ k found. found_set k found at slots slot new i.is refl) w.2,
      none_left (set slots at new) (total - n) (
          omega (
            arith,
            w.1,
            c,
            ap count (children_standing at slots slot i.within i.is i.live),
            count_removed r (standing slots) width,
          )
          ),
    )

pub taken_children : (key : List ℕ) (at : ℕ) (slots : List Slot) (slot : Slot) (list : Trees) → IsAt key at slots slot → standing slots ≡ list → slot.children ≡ children_at key list
taken_children key at slots slot list i v =
    children_standing at slots slot i.within i.is i.live
    ∙ stands_children key (rank at slots) (standing slots) (stands_standing key at slots i.stands)
    ∙ ap (children_at key) v

pub taken_left : (key : List ℕ) (at : ℕ) (slots : List Slot) (slot : Slot) (below list : Trees) → IsAt key at slots slot → below ≡ none → standing slots ≡ list →
    standing (set slots at (record slot { children = below })) ≡ emptied key list
taken_left key at slots slot below list i b v =
    emptied_standing at slots slot below i.within i.is i.live b
    ∙ emptied_stands key (rank at slots) (standing slots) (stands_standing key at slots i.stands)
    ∙ ap (emptied key) v

pub lacks_list : (key : List ℕ) (slots searched : List Slot) (list : Trees) → searched ≡ slots → standing slots ≡ list → LacksKey key searched → Lacks key list
lacks_list key slots searched list s v h = subst (Lacks key) v (lacks_standing key slots (subst (LacksKey key) s h))

-- A slot is filled anew.
pub filled_whole : (key : List ℕ) (at : ℕ) (slots : List Slot) (slot : Slot) (total next : ℕ) (index : Index) (fresh value : List ℕ) (place : Place) (below : Trees) → IsAt key at slots slot →
    AllWhole slots total index → fresh ≡ newer_value slot.value value → next + count slot.children ≡ total + count below → AllWhole (set slots at (refilled slot fresh place below)) next index
filled_whole key at slots slot total next index fresh value place below i w f n =
    let new = refilled slot fresh place below in
    let r = rank at slots in
    let width = width_standing at slots slot i.within i.is i.live in (
      whole_set at slots slot new i.is refl refl i.live w.0,
      omega (
        arith,
        w.1,
        n,
        ap count (children_standing at slots slot i.within i.is i.live),
        count_put r value place below (standing slots) width,
        ap count (put_standing at slots slot fresh value place below i.within i.is i.live f),
      ),
      finds_by index.places slots (set slots at new) (λ k found. found_set k found at slots slot new i.is refl) w.2,
      none_left (set slots at new) next (
          omega (
            arith,
            w.1,
            n,
            ap count (children_standing at slots slot i.within i.is i.live),
            count_removed r (standing slots) width,
          )
          ),
    )

pub filled_joined : (key : List ℕ) (at : ℕ) (slots : List Slot) (slot : Slot) (fresh value : List ℕ) (place : Place) (below list : Trees) → IsAt key at slots slot → fresh ≡ newer_value slot.value value →
    standing slots ≡ list → standing (set slots at (refilled slot fresh place below)) ≡ joined key value place (λ _. below) list
filled_joined key at slots slot fresh value place below list i f v =
    put_standing at slots slot fresh value place below i.within i.is i.live f
    ∙ put_joined key value place below (rank at slots) (standing slots) (stands_standing key at slots i.stands)
    ∙ ap (joined key value place (λ _. below)) v

-- A slot is added.
pub added_whole : (slots more_slots : List Slot) (slot : Slot) (total next : ℕ) (index : Index) → more_slots ≡ slots ++ slot ∷ [] → slot.live ≡ true → LacksKey slot.key slots → IsWhole slots →
    total ≡ count (standing slots) → next ≡ total + count slot.children + 1 → Finds index (slots ++ slot ∷ []) → AllWhole more_slots next index
added_whole slots more_slots slot total next index m y l w t n f =
    subst (λ s. AllWhole s next index) (sym m) (
      whole_added slots slot y l w,
      omega (arith, count_added slot.key slot.value slot.place slot.children (standing slots), ap count (added_standing slots slot y)),
      f,
      none_left (slots ++ slot ∷ []) next (omega (arith, n)),
    )

pub added_list : (key value : List ℕ) (slots more_slots : List Slot) (slot : Slot) (list : Trees) → more_slots ≡ slots ++ slot ∷ [] → slot.live ≡ true → LacksKey key slots → slot.key ≡ key → slot.value ≡ value →
    standing slots ≡ list → standing more_slots ≡ joined key value slot.place (λ _. slot.children) list
added_list key value slots more_slots slot list m y l k v s =
    ap standing m
    ∙ added_standing slots slot y
    ∙ ap (λ x. added x slot.value slot.place slot.children (standing slots)) k
    ∙ ap (λ x. added key x slot.place slot.children (standing slots)) v
    ∙ added_joined key value slot.place slot.children (standing slots) (lacks_standing key slots l)
    ∙ ap (joined key value slot.place (λ _. slot.children)) s

-- A slot dies.
forgets_by : (key : List ℕ) (at : ℕ) (slots : List Slot) (slot dead : Slot) (old new : Option (Box (HashMap (List ℕ) ℕ Hashers) Global)) → IsAt key at slots slot → dead.live ≡ false → IsWhole slots →
    MatchOption old (new ≡ None)
    (λ held. (after : Box (HashMap (List ℕ) ℕ Hashers) Global) × (new ≡ Some after)
    × ((other : List ℕ) → get bytes_eq after.value other ≡ (cond (bytes_eq key other) None (get bytes_eq held.value other)))) →
    MatchOption old (Unit {0}) (λ held. (other : List ℕ) → IsFound other slots (get bytes_eq held.value other)) →
    MatchOption new (Unit {0}) (λ held. (other : List ℕ) → IsFound other (set slots at dead) (get bytes_eq held.value other))
forgets_by key at slots slot dead None new i n w f h =
    subst (λ p. MatchOption p (Unit {0}) (λ held. (other : List ℕ) → IsFound other (set slots at dead) (get bytes_eq held.value other))) (sym f) tt
forgets_by key at slots slot dead (Some held) new i n w f h =
    subst (λ p. MatchOption p (Unit {0}) (λ held. (other : List ℕ) → IsFound other (set slots at dead) (get bytes_eq held.value other))) (sym f.1)
    (λ other.
    subst (IsFound other (set slots at dead)) (sym (f.2 other))
    (found_dead key other (get bytes_eq held.value other) at slots slot dead i.is n w i.stands (h other)))

dead_whole : (key : List ℕ) (at : ℕ) (slots : List Slot) (slot : Slot) (total n : ℕ) (index next : Index) (dead : Slot) → IsAt key at slots slot → AllWhole slots total index → dead.live ≡ false →
    dead.children ≡ none → n ≡ count slot.children → Forgets key index next → IsWhole (set slots at dead) × (total - (1 + n) ≡ count (standing (set slots at dead))) × Finds next (set slots at dead)
dead_whole key at slots slot total n index next dead i w d b c f =
    let r = rank at slots in
    let width = width_standing at slots slot i.within i.is i.live in (
      whole_dead at slots dead d b w.0,
      omega (
        arith,
        w.1,
        c,
        ap count (children_standing at slots slot i.within i.is i.live),
        count_removed r (standing slots) width,
        ap count (removed_standing at slots slot dead i.within i.is i.live d),
      ),
      forgets_by key at slots slot dead index.places next.places i d w.0 f w.2,
    )

pub dead_left : (key : List ℕ) (at : ℕ) (slots : List Slot) (slot dead : Slot) (list : Trees) → IsAt key at slots slot → dead.live ≡ false → standing slots ≡ list →
    without key list ≡ Some (standing (set slots at dead))
dead_left key at slots slot dead list i d v =
    sym (ap (without key) v)
    ∙ without_at key (rank at slots) (standing slots) (stands_standing key at slots i.stands)
    ∙ ap Some (sym (removed_standing at slots slot dead i.within i.is i.live d))

-- What is left of the slots once the dead ones of an empty list are dropped.
pub record IsDropped (total : ℕ) (slots others : List Slot) (index next : Index) : Type 0 where
  pub empty : total ≡ 0 → (others ≡ []) × Finds next []
  pub same : 0 < total → (others ≡ slots) × (next ≡ index)

count_none : (list : Trees) → count list ≡ 0 → list ≡ none
count_none none h = refl
count_none (more key value place children rest) h = absurd (omega (arith, h))

dropped_list : (total : ℕ) (slots others : List Slot) (index next : Index) → IsDropped total slots others index next → total ≡ count (standing slots) → standing others ≡ standing slots
dropped_list zero slots others index next d t = ap standing (d.empty refl).0 ∙ sym (count_none (standing slots) (sym t))
dropped_list (suc total) slots others index next d t = ap standing (d.same (omega arith)).0

dropped_whole : (total : ℕ) (slots others : List Slot) (index next : Index) → IsDropped total slots others index next → IsWhole slots → total ≡ count (standing slots) → Finds index slots →
    AllWhole others total next
dropped_whole zero slots others index next d w t f =
    let e = d.empty refl in
    subst (λ s. AllWhole s 0 next) (sym e.0) (tt, refl, e.1, λ _. refl)
dropped_whole (suc total) slots others index next d w t f =
    let e = d.same (omega arith) in
    subst (λ s. AllWhole s (suc total) next) (sym e.0) (subst (λ x. AllWhole slots (suc total) x) (sym e.1) (w, t, f, none_left slots (suc total) (omega arith)))

-- A slot dies, and the list stays whole.
pub gone_whole : (key : List ℕ) (at : ℕ) (slots others : List Slot) (slot : Slot) (total n : ℕ) (index next last : Index) (dead : Slot) → IsAt key at slots slot → AllWhole slots total index → dead.live ≡ false →
    dead.children ≡ none → n ≡ count slot.children → Forgets key index next → IsDropped (total - (1 + n)) (set slots at dead) others next last → AllWhole others (total - (1 + n)) last
gone_whole key at slots others slot total n index next last dead i w d b c f r =
    let whole = dead_whole key at slots slot total n index next dead i w d b c f in
    dropped_whole (total - (1 + n)) (set slots at dead) others next last r whole.0 whole.1 whole.2

pub gone_list : (key : List ℕ) (at : ℕ) (slots others : List Slot) (slot : Slot) (total n : ℕ) (index next last : Index) (dead : Slot) (list : Trees) → IsAt key at slots slot → AllWhole slots total index → dead.live ≡ false →
    dead.children ≡ none → n ≡ count slot.children → Forgets key index next → IsDropped (total - (1 + n)) (set slots at dead) others next last → standing slots ≡ list → without key list ≡ Some (standing others)
gone_list key at slots others slot total n index next last dead list i w d b c f r v =
    let whole = dead_whole key at slots slot total n index next dead i w d b c f in
    dead_left key at slots slot dead list i d v ∙ ap Some (sym (dropped_list (total - (1 + n)) (set slots at dead) others next last r whole.1))

-- A node without children joins the list.
leaf_joined : (key value : List ℕ) (place : Place) (children list : Trees) → children ≡ children_at key list → joined key value place (λ _. children) list ≡ joined key value place (λ below. below) list
leaf_joined key value place children list c = ap (λ x. joined key value place (λ _. x) list) c ∙ joined_below key value place (λ below. below) list

pub filled_leaf : (key : List ℕ) (at : ℕ) (slots : List Slot) (slot : Slot) (fresh value : List ℕ) (place : Place) (list : Trees) → IsAt key at slots slot → fresh ≡ newer_value slot.value value →
    standing slots ≡ list → standing (set slots at (refilled slot fresh place slot.children)) ≡ joined key value place (λ below. below) list
filled_leaf key at slots slot fresh value place list i f v =
    filled_joined key at slots slot fresh value place slot.children list i f v
    ∙ leaf_joined key value place slot.children list (taken_children key at slots slot list i v)

pub added_leaf : (key value : List ℕ) (slots more_slots : List Slot) (slot : Slot) (list : Trees) → more_slots ≡ slots ++ slot ∷ [] → slot.live ≡ true → LacksKey key slots → slot.key ≡ key → slot.value ≡ value →
    slot.children ≡ none → standing slots ≡ list → standing more_slots ≡ joined key value slot.place (λ below. below) list
added_leaf key value slots more_slots slot list m y l k v c s =
    added_list key value slots more_slots slot list m y l k v s
    ∙ leaf_joined key value slot.place slot.children list (c ∙ lacks_children key list (subst (Lacks key) s (lacks_standing key slots l)))
