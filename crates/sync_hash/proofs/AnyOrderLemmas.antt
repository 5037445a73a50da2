-- The byte lists of a world tell all of it in any order.
use Rattle.std.proofs.Common.{◌≡◌, ◌≢◌, ℕ, ◌+◌, ◌*◌, ◌/◌, ◌%◌, ◌<◌, ◌==◌, ◌⊎◌, inl, inr, Bool, true, false, List, [], ◌∷◌, ◌++◌, length, map}
use Rattle.std.proofs.Common.{refl, sym, ap, ap₂, subst, ◌∙◌, arith, length-append}
use Rattle.std.specs.List.{All, AllByRecursion, AllPairs}
use Rattle.std.specs.List.Sorted.{IsPermutation}
use Rattle.std.proofs.lemmas.Bool.Decides.{nat_tests}
use Rattle.std.proofs.lemmas.List.Elements.{All-from_recursion, All-head, All-tail, recursion_from_All}
use Rattle.std.proofs.lemmas.List.Sorted.{All-permutation, IsPermutation-sym}
use Rattle.wire_bytes.specs.Field.{field_bytes}
use Rattle.wire_bytes.proofs.FieldLemmas.{field_length}
use Rattle.world_units.specs.declared.cell.CPos.{CPos}
use Rattle.game_model.specs.declared.actor.Actor.{Actor}
use Rattle.game_model.specs.declared.world.World.{World}
use Rattle.game_model.proofs.StartLemmas.{pairs_head, pairs_tail}
use Rattle.game_model.specs.World.{head_of, world_with}
use Rattle.sync_hash.specs.AnyOrder.{AreComparable, IsNoActorOf, header_of}
use Rattle.sync_hash.specs.FitsFields.{ActorFits}
use Rattle.sync_hash.specs.HashedBytes.{actor_bytes, cell_at, ore_bytes, ore_parts, parts_after_header, parts_of}
use Rattle.sync_hash.proofs.FitsFieldsLemmas.{from_owner, in_order, same_actor, same_cell_place, same_header, the_grid}

-- The item is one of the list.
abbrev In : {X : Type 0} → X → List X → Type 0
In x [] = ⊥
In x (y ∷ ys) = (x ≡ y) ⊎ In x ys

-- Each item of a list is one of another.
abbrev Each : {X : Type 0} → List X → List X → Type 0
Each xs ys = AllByRecursion (λ x. In x ys) xs

each_later : {X : Type 0} (y : X) (xs ys : List X) → Each xs ys → Each xs (y ∷ ys)
each_later y [] ys each = tt
each_later y (x ∷ xs) ys each = (inr each.0, each_later y xs ys each.1)

each_self : {X : Type 0} (xs : List X) → Each xs xs
each_self [] = tt
each_self (x ∷ xs) = (inl refl, each_later x xs xs (each_self xs))

-- A list has the items of one of which it is a permutation.
each_permuted : {X : Type 0} (xs ys : List X) → IsPermutation xs ys → Each ys xs
each_permuted xs ys permuted =
    recursion_from_All (λ x. In x xs) ys
    (All-permutation (λ x. In x xs) xs ys permuted (All-from_recursion (λ x. In x xs) xs (each_self xs)))

in_either : {X : Type 0} (x : X) (xs ys : List X) → In x (xs ++ ys) → In x xs ⊎ In x ys
in_either x [] ys found = inr found
in_either x (y ∷ xs) ys (inl same) = inl (inl same)
in_either x (y ∷ xs) ys (inr later) = also (in_either x xs ys later) where
  also : In x xs ⊎ In x ys → In x (y ∷ xs) ⊎ In x ys
  also (inl found) = inl (inr found)
  also (inr found) = inr found

each_first : {X : Type 0} (xs ys zs : List X) → Each (xs ++ ys) zs → Each xs zs
each_first [] ys zs each = tt
each_first (x ∷ xs) ys zs each = (each.0, each_first xs ys zs each.1)

each_second : {X : Type 0} (xs ys zs : List X) → Each (xs ++ ys) zs → Each ys zs
each_second [] ys zs each = each
each_second (x ∷ xs) ys zs each = each_second xs ys zs each.1

-- The same of two lists that are the same.
each_as : {X : Type 0} (ks bs cs ds : List X) → ks ≡ bs → cs ≡ ds → Each ks cs → Each bs ds
each_as ks bs cs ds first second each =
    subst (λ l. Each bs l) second (subst (λ l. Each l cs) first each)

-- An item that is not in a list can be left out of another.
each_without :
    {X : Type 0} (head : X) (xs later : List X) → (In head xs → ⊥) → Each xs (head ∷ later) → Each xs later
each_without head [] later none each = tt
each_without head (x ∷ xs) later none each =
    (one each.0, each_without head xs later (λ found. none (inr found)) each.1) where
      one : (x ≡ head) ⊎ In x later → In x later
      one (inl same) = absurd (none (inl (sym same)))
      one (inr found) = found

-- The bytes of an actor are those of no cell with ore.
actor_or_ore : (a : Actor) (p : CPos) (ore : ℕ) → actor_bytes a ≡ ore_bytes p ore → ⊥
actor_or_ore a p ore same =
    let rest = field_bytes 2 a.kind ++ from_owner a in
    let long : length (field_bytes 4 a.id ++ rest) ≡ 3 = ap length (sym (in_order a) ∙ same) in
    omega (arith, long, length-append (field_bytes 4 a.id) rest, field_length 4 a.id)

no_ore_in : (actors : List Actor) (p : CPos) (ore : ℕ) → In (ore_bytes p ore) (map actor_bytes actors) → ⊥
no_ore_in [] p ore found = found
no_ore_in (a ∷ actors) p ore (inl same) = actor_or_ore a p ore (sym same)
no_ore_in (a ∷ actors) p ore (inr later) = no_ore_in actors p ore later

-- What is the bytes of no cell with ore is none of these.
none_of_ore :
    (bytes : List ℕ) → ((p : CPos) (ore : ℕ) → bytes ≡ ore_bytes p ore → ⊥) → (width place : ℕ) (cells : List ℕ) →
    In bytes (ore_parts width place cells) → ⊥
none_of_ore bytes other width place [] found = found
none_of_ore bytes other width place (x ∷ cells) found =
    by_ore (x == 0) refl (none_of_ore bytes other width (place + 1) cells) found where
      by_ore :
          (none : Bool) → (x == 0) ≡ none → (In bytes (ore_parts width (place + 1) cells) → ⊥) →
          In bytes (ore_parts width place (x ∷ cells)) → ⊥
      by_ore true is again found = again (rw is at found)
      by_ore false is again found = one again (rw is at found) where
        one :
            (In bytes (ore_parts width (place + 1) cells) → ⊥) →
            (bytes ≡ ore_bytes (cell_at width place) x) ⊎ In bytes (ore_parts width (place + 1) cells) → ⊥
        one again (inl same) = other (cell_at width place) x same
        one again (inr later) = again later

-- Actors whose bytes are among those of others are among the others.
actor_in :
    (a : Actor) (ys : List Actor) → ActorFits a → AllByRecursion ActorFits ys →
    In (actor_bytes a) (map actor_bytes ys) → In a ys
actor_in a [] fits others found = found
actor_in a (y ∷ ys) fits others (inl same) = inl (same_actor a y fits others.0 same)
actor_in a (y ∷ ys) fits others (inr later) = inr (actor_in a ys fits others.1 later)

actors_in :
    (xs ys : List Actor) (width : ℕ) (cells : List ℕ) → AllByRecursion ActorFits xs → AllByRecursion ActorFits ys →
    Each (map actor_bytes xs) (map actor_bytes ys ++ ore_parts width 0 cells) → Each xs ys
actors_in [] ys width cells fits others each = tt
actors_in (x ∷ xs) ys width cells fits others each = (
  actor_in x ys fits.0 others (first (in_either (actor_bytes x) (map actor_bytes ys) (ore_parts width 0 cells) each.0)),
  actors_in xs ys width cells fits.1 others each.1,
) where
  first :
      In (actor_bytes x) (map actor_bytes ys) ⊎ In (actor_bytes x) (ore_parts width 0 cells) →
      In (actor_bytes x) (map actor_bytes ys)
  first (inl found) = found
  first (inr ore) = absurd (none_of_ore (actor_bytes x) (actor_or_ore x) width 0 cells ore)

-- An actor of a list of greater ids has a greater id.
above : (least : ℕ) (b : Actor) (l : List Actor) → All (λ (c : Actor). least < c.id) l → In b l → least < b.id
above least b [] all found = absurd found
above least b (c ∷ l) all (inl same) =
    subst (λ (d : Actor). least < d.id) (sym same) (All-head (λ (d : Actor). least < d.id) c l all)
above least b (c ∷ l) all (inr later) = above least b l (All-tail (λ (d : Actor). least < d.id) c l all) later

same_first :
    (x y : Actor) (xs ys : List Actor) → All (λ (b : Actor). x.id < b.id) xs → All (λ (b : Actor). y.id < b.id) ys →
    (x ≡ y) ⊎ In x ys → (y ≡ x) ⊎ In y xs → x ≡ y
same_first x y xs ys low high (inl same) back = same
same_first x y xs ys low high (inr later) (inl same) = sym same
same_first x y xs ys low high (inr later) (inr earlier) =
    absurd (omega (arith, above x.id y xs low earlier, above y.id x ys high later))

-- Actors with rising ids that are each among the others are the same list.
same_rising :
    (xs ys : List Actor) → AllPairs (λ (a b : Actor). a.id < b.id) xs → AllPairs (λ (a b : Actor). a.id < b.id) ys →
    Each xs ys → Each ys xs → xs ≡ ys
same_rising [] [] rise other each back = refl
same_rising [] (y ∷ ys) rise other each back = absurd back.0
same_rising (x ∷ xs) [] rise other each back = absurd each.0
same_rising (x ∷ xs) (y ∷ ys) rise other each back =
    let R : Actor → Actor → Type 0 = λ a b. a.id < b.id in
    let low = pairs_head R x xs rise in
    let high = pairs_head R y ys other in
    let first : x ≡ y = same_first x y xs ys low high each.0 back.0 in
    let ids : x.id ≡ y.id = ap (λ (a : Actor). a.id) first in
    let rest =
    same_rising xs ys (pairs_tail R x xs rise) (pairs_tail R y ys other)
    (each_without y xs ys (λ found. omega (arith, above x.id y xs low found, ids)) each.1)
    (each_without x ys xs (λ found. omega (arith, above y.id x ys high found, ids)) back.1) in
    ap₂ (λ a l. a ∷ l) first rest

-- No cell with ore among those after a place is that of the place.
not_later :
    (width place from ore : ℕ) (cells : List ℕ) → place < from →
    In (ore_bytes (cell_at width place) ore) (ore_parts width from cells) → ⊥
not_later width place from ore [] less found = found
not_later width place from ore (x ∷ cells) less found =
    by_ore (x == 0) refl (not_later width place (from + 1) ore cells (omega arith)) found where
      by_ore :
          (none : Bool) → (x == 0) ≡ none →
          (In (ore_bytes (cell_at width place) ore) (ore_parts width (from + 1) cells) → ⊥) →
          In (ore_bytes (cell_at width place) ore) (ore_parts width from (x ∷ cells)) → ⊥
      by_ore true is again found = again (rw is at found)
      by_ore false is again found = one again (rw is at found) where
        one :
            (In (ore_bytes (cell_at width place) ore) (ore_parts width (from + 1) cells) → ⊥) →
            (ore_bytes (cell_at width place) ore ≡ ore_bytes (cell_at width from) x)
            ⊎ In (ore_bytes (cell_at width place) ore) (ore_parts width (from + 1) cells) → ⊥
        one again (inl same) =
            let column : place % width ≡ from % width = cc in
            let row : place / width ≡ from / width = cc in
            omega (arith, less, same_cell_place width place from column row)
        one again (inr later) = again later

is_zero : (ore : ℕ) → (ore == 0) ≡ true → ore ≡ 0
is_zero ore is = grind (arith, nat_tests)

-- The ore of as many cells whose parts are each among the others is the same.
same_ore_in :
    (width place : ℕ) (xs ys : List ℕ) → length xs ≡ length ys → Each (ore_parts width place xs) (ore_parts width place ys) →
    Each (ore_parts width place ys) (ore_parts width place xs) → xs ≡ ys
same_ore_in width place [] [] many each back = refl
same_ore_in width place [] (y ∷ ys) many each back = absurd (omega arith)
same_ore_in width place (x ∷ xs) [] many each back = absurd (omega arith)
same_ore_in width place (x ∷ xs) (y ∷ ys) many each back =
    by_ore (x == 0) refl (y == 0) refl (same_ore_in width (place + 1) xs ys (omega arith)) each back where
      left : List (List ℕ)
      left = ore_parts width (place + 1) xs

      right : List (List ℕ)
      right = ore_parts width (place + 1) ys

      by_ore :
          (none : Bool) → (x == 0) ≡ none → (none_other : Bool) → (y == 0) ≡ none_other →
          (Each left right → Each right left → xs ≡ ys) →
          Each (ore_parts width place (x ∷ xs)) (ore_parts width place (y ∷ ys)) →
          Each (ore_parts width place (y ∷ ys)) (ore_parts width place (x ∷ xs)) → (x ∷ xs) ≡ (y ∷ ys)
      by_ore true is true other again each back =
          let lefts : ore_parts width place (x ∷ xs) ≡ left = rw is refl in
          let rights : ore_parts width place (y ∷ ys) ≡ right = rw other refl in
          ap₂ (λ a l. a ∷ l) (is_zero x is ∙ sym (is_zero y other))
          (again (each_as _ left _ right lefts rights each) (each_as _ right _ left rights lefts back))
      by_ore true is false other again each back =
          let q = ore_bytes (cell_at width place) y in
          let lefts : ore_parts width place (x ∷ xs) ≡ left = rw is refl in
          let rights : ore_parts width place (y ∷ ys) ≡ q ∷ right = rw other refl in
          let first : Each (q ∷ right) left = each_as _ (q ∷ right) _ left rights lefts back in
          absurd (not_later width place (place + 1) y xs (omega arith) first.0)
      by_ore false is true other again each back =
          let p = ore_bytes (cell_at width place) x in
          let lefts : ore_parts width place (x ∷ xs) ≡ p ∷ left = rw is refl in
          let rights : ore_parts width place (y ∷ ys) ≡ right = rw other refl in
          let first : Each (p ∷ left) right = each_as _ (p ∷ left) _ right lefts rights each in
          absurd (not_later width place (place + 1) x ys (omega arith) first.0)
      by_ore false is false other again each back =
          let p = ore_bytes (cell_at width place) x in
          let q = ore_bytes (cell_at width place) y in
          let lefts : ore_parts width place (x ∷ xs) ≡ p ∷ left = rw is refl in
          let rights : ore_parts width place (y ∷ ys) ≡ q ∷ right = rw other refl in
          let there : Each (p ∷ left) (q ∷ right) = each_as _ (p ∷ left) _ (q ∷ right) lefts rights each in
          let here : Each (q ∷ right) (p ∷ left) = each_as _ (q ∷ right) _ (p ∷ left) rights lefts back in
          ap₂ (λ a l. a ∷ l) (one there.0)
          (again (each_without q left right (not_later width place (place + 1) y xs (omega arith)) there.1)
          (each_without p right left (not_later width place (place + 1) x ys (omega arith)) here.1)) where
            one : (ore_bytes (cell_at width place) x ≡ ore_bytes (cell_at width place) y) ⊎ In (ore_bytes (cell_at width place) x) right → x ≡ y
            one (inl same) = cc
            one (inr later) = absurd (not_later width place (place + 1) x ys (omega arith) later)

-- Parts of cells with ore that are among those of actors and cells are among those of the cells.
ore_in :
    (width place : ℕ) (xs : List ℕ) (actors : List Actor) (others : List (List ℕ)) →
    Each (ore_parts width place xs) (map actor_bytes actors ++ others) → Each (ore_parts width place xs) others
ore_in width place [] actors others each = tt
ore_in width place (x ∷ xs) actors others each =
    by_ore (x == 0) refl (ore_in width (place + 1) xs actors others) each where
      by_ore :
          (none : Bool) → (x == 0) ≡ none →
          (Each (ore_parts width (place + 1) xs) (map actor_bytes actors ++ others) →
          Each (ore_parts width (place + 1) xs) others) →
          Each (ore_parts width place (x ∷ xs)) (map actor_bytes actors ++ others) →
          Each (ore_parts width place (x ∷ xs)) others
      by_ore true is again each =
          let parts : ore_parts width place (x ∷ xs) ≡ ore_parts width (place + 1) xs = rw is refl in
          let all = map actor_bytes actors ++ others in
          each_as _ _ others others (sym parts) refl (again (each_as _ _ all all parts refl each))
      by_ore false is again each =
          let p = ore_bytes (cell_at width place) x in
          let all = map actor_bytes actors ++ others in
          let parts : ore_parts width place (x ∷ xs) ≡ p ∷ ore_parts width (place + 1) xs = rw is refl in
          let both : Each (p ∷ ore_parts width (place + 1) xs) all = each_as _ _ all all parts refl each in
          each_as _ _ others others (sym parts) refl (one (in_either p (map actor_bytes actors) others both.0), again both.1) where
            one :
                In (ore_bytes (cell_at width place) x) (map actor_bytes actors)
                ⊎ In (ore_bytes (cell_at width place) x) others → In (ore_bytes (cell_at width place) x) others
            one (inl found) = absurd (no_ore_in actors (cell_at width place) x found)
            one (inr found) = found

-- Actors with rising ids, and the ore of as many cells, whose parts are each among the others.
record SameAfter (xs ys : List Actor) (cells others : List ℕ) : Type 0 where
  actors : xs ≡ ys
  ore : cells ≡ others

same_after :
    (width : ℕ) (xs ys : List Actor) (cells others : List ℕ) → All ActorFits xs → All ActorFits ys →
    AllPairs (λ (a b : Actor). a.id < b.id) xs → AllPairs (λ (a b : Actor). a.id < b.id) ys → length cells ≡ length others →
    Each (map actor_bytes xs ++ ore_parts width 0 cells) (map actor_bytes ys ++ ore_parts width 0 others) →
    Each (map actor_bytes ys ++ ore_parts width 0 others) (map actor_bytes xs ++ ore_parts width 0 cells) →
    SameAfter xs ys cells others
same_after width xs ys cells others fits other_fits rise other_rise many each back =
    let left = ore_parts width 0 cells in
    let right = ore_parts width 0 others in
    let fit = recursion_from_All ActorFits xs fits in
    let other_fit = recursion_from_All ActorFits ys other_fits in
    record {
      actors =
          same_rising xs ys rise other_rise
          (actors_in xs ys width others fit other_fit (each_first (map actor_bytes xs) left (map actor_bytes ys ++ right) each))
          (actors_in ys xs width cells other_fit fit (each_first (map actor_bytes ys) right (map actor_bytes xs ++ left) back));
      ore =
          same_ore_in width 0 cells others many
          (ore_in width 0 cells ys right (each_second (map actor_bytes xs) left (map actor_bytes ys ++ right) each))
          (ore_in width 0 others xs left (each_second (map actor_bytes ys) right (map actor_bytes xs ++ left) back));
    }

same_by_each :
    (w v : World) → AreComparable w v → header_of w ≡ header_of v → Each (parts_after_header w) (parts_after_header v) →
    Each (parts_after_header v) (parts_after_header w) → w ≡ v
same_by_each w v are first each back =
    let header = same_header w v are.fits are.other_fits first in
    let many : length w.ore.cells ≡ length v.ore.cells =
    are.fits.cells ∙ ap₂ (λ a b. a * b) are.width are.height ∙ sym are.other_fits.cells in
    let rest =
    same_after v.ore.width w.actors v.actors w.ore.cells v.ore.cells are.fits.actors are.other_fits.actors are.rise are.other_rise many
    (subst (λ n. Each (map actor_bytes w.actors ++ ore_parts n 0 w.ore.cells) (parts_after_header v)) are.width each)
    (subst (λ n. Each (parts_after_header v) (map actor_bytes w.actors ++ ore_parts n 0 w.ore.cells)) are.width back) in
    ap₂ (λ h l. world_with h l w.ore) header.head rest.actors
    ∙ ap (λ o. world_with (head_of v) v.actors o) (ap₂ (λ a b. the_grid a b w.ore.cells) are.width are.height ∙ ap (the_grid v.ore.width v.ore.height) rest.ore)

-- Two worlds of one size with the same header, whose other parts are the same in any order, are the
-- same world.
pub same_after_header :
    (w v : World) → AreComparable w v → header_of w ≡ header_of v →
    IsPermutation (parts_after_header w) (parts_after_header v) → w ≡ v
same_after_header w v are first permuted =
    let after = parts_after_header w in
    let other = parts_after_header v in
    same_by_each w v are first (each_permuted other after (IsPermutation-sym after other permuted))
    (each_permuted after other permuted)

-- A header has the bytes of no cell with ore, so it is no part after another header that has its
-- bytes at no actor.
header_or_ore : (w : World) (p : CPos) (ore : ℕ) → header_of w ≡ ore_bytes p ore → ⊥
unfolding field_bytes
header_or_ore w p ore same = absurd cc

no_actor_in :
    (bytes : List ℕ) (actors : List Actor) → AllByRecursion (λ (a : Actor). actor_bytes a ≢ bytes) actors →
    In bytes (map actor_bytes actors) → ⊥
no_actor_in bytes [] other found = found
no_actor_in bytes (a ∷ actors) other (inl same) = other.0 (sym same)
no_actor_in bytes (a ∷ actors) other (inr later) = no_actor_in bytes actors other.1 later

no_header_after : (w v : World) → IsNoActorOf (header_of w) v → In (header_of w) (parts_after_header v) → ⊥
no_header_after w v other found =
    either (in_either (header_of w) (map actor_bytes v.actors) (ore_parts v.ore.width 0 v.ore.cells) found) where
      either :
          In (header_of w) (map actor_bytes v.actors) ⊎ In (header_of w) (ore_parts v.ore.width 0 v.ore.cells) → ⊥
      either (inl actor) =
          no_actor_in (header_of w) v.actors
          (recursion_from_All (λ (a : Actor). actor_bytes a ≢ header_of w) v.actors other) actor
      either (inr ore) = none_of_ore (header_of w) (header_or_ore w) v.ore.width 0 v.ore.cells ore

-- Two worlds of one size whose parts are the same in any order are the same world, where neither
-- header has the bytes of an actor of the other world.
pub same_in_any_order :
    (w v : World) → AreComparable w v → IsNoActorOf (header_of w) v → IsNoActorOf (header_of v) w →
    IsPermutation (parts_of w) (parts_of v) → w ≡ v
same_in_any_order w v are other back permuted =
    let each = each_permuted (parts_of v) (parts_of w) (IsPermutation-sym (parts_of w) (parts_of v) permuted) in
    let again = each_permuted (parts_of w) (parts_of v) permuted in
    let first : header_of w ≡ header_of v = one each.0 in
    same_by_each w v are first
    (each_without (header_of v) (parts_after_header w) (parts_after_header v) (no_header_after v w back) each.1)
    (each_without (header_of w) (parts_after_header v) (parts_after_header w) (no_header_after w v other) again.1) where
      one : (header_of w ≡ header_of v) ⊎ In (header_of w) (parts_after_header v) → header_of w ≡ header_of v
      one (inl same) = same
      one (inr later) = absurd (no_header_after w v other later)
