-- The text of a world tells all of it.
use Rattle.std.proofs.Common.{◌≡◌, ◌<◌, ℕ, ◌+◌, ◌*◌, ◌/◌, ◌%◌, ◌==◌, Bool, true, false}
use Rattle.std.proofs.Common.{List, [], ◌∷◌, ◌++◌, length, drop}
use Rattle.std.proofs.Common.{refl, sym, ap, ap₂, subst, ◌∙◌, arith}
use Rattle.std.specs.Prelude.{codes}
use Rattle.std.specs.Fmt.{decimal}
use Rattle.std.specs.List.{AllByRecursion, flat_map}
use Rattle.std.proofs.lemmas.Bool.Decides.{nat_tests}
use Rattle.std.proofs.lemmas.List.{append_assoc}
use Rattle.std.proofs.lemmas.List.Elements.{recursion_from_All}
use Rattle.std.proofs.Common.{div-le_self}
use Rattle.std.proofs.Math.Nat.{mod-le}
use Rattle.std.proofs.lemmas.Nat.{div-add-mod'}
use Rattle.game_model.specs.declared.actor.Actor.{Actor}
use Rattle.game_model.specs.declared.world.Head.{Head}
use Rattle.game_model.specs.declared.world.World.{World}
use Rattle.game_model.specs.Grid.{Grid}
use Rattle.game_model.specs.World.{head_of, world_with}
use Rattle.world_text.specs.Numbers.{IsHeld, IsActorHeld, IsWorldHeld}
use Rattle.world_text.specs.WorldText.{turns_line, cash_line, gone_line, spaced_number, spaced_flag}
use Rattle.world_text.specs.WorldText.{head_text, actor_text, ore_line, ore_from}
use Rattle.world_text.specs.WorldText.{world_end, world_text}
use Rattle.world_text.proofs.FieldLemmas.{IsTold, stops, number_told, fields}
use Rattle.world_text.proofs.FieldLemmas.{fields_told, items_told}
use Rattle.world_text.proofs.FieldLemmas.{nth, regroup_3, regroup_7, regroup_11}
use Rattle.world_text.proofs.ActorTellingLemmas.{IsAfter, actor_begins, actor_after, actor_told}

-- The first line.
abbrev turn_words : List (List ℕ)
turn_words =
    codes "world tick " ∷ codes " seed " ∷ codes " drawn " ∷ codes " next " ∷ codes " pace " ∷ []

abbrev turn_numbers : Head → List ℕ
turn_numbers h = h.tick ∷ h.seed ∷ h.drawn ∷ h.next_id ∷ h.pace ∷ []

turn_fields :
    (h : Head) (r : List ℕ) → turns_line h ++ r ≡ fields turn_words (turn_numbers h) (codes "\n" ++ r)
unfolding turns_line
turn_fields h r =
    regroup_11 (codes "world tick ") (decimal h.tick) (codes " seed ") (decimal h.seed)
    (codes " drawn ") (decimal h.drawn) (codes " next ") (decimal h.next_id) (codes " pace ")
    (decimal h.pace) (codes "\n") r

turns_told :
    (h k : Head) (left right : List ℕ) → AllByRecursion IsHeld (turn_numbers h) →
    AllByRecursion IsHeld (turn_numbers k) → turns_line h ++ left ≡ turns_line k ++ right →
    IsTold (turn_numbers h) (turn_numbers k) left right
turns_told h k left right held held' same =
    let told =
    fields_told turn_words (turn_numbers h) (turn_numbers k) (codes "\n" ++ left)
    (codes "\n" ++ right) refl refl refl held held' refl refl
    (sym (turn_fields h left) ∙ same ∙ turn_fields k right) in
    record { same = told.same; rest = ap (drop 1) told.rest }

-- Cash.
spaced_told :
    (m n : ℕ) (left right : List ℕ) → IsHeld m → IsHeld n → stops left ≡ true →
    stops right ≡ true → spaced_number m ++ left ≡ spaced_number n ++ right →
    IsTold m n left right
spaced_told m n left right held held' is is' same =
    number_told m n left right held held' is is' (ap (drop 1) same)

cash_split :
    (cash r : List ℕ) →
    cash_line cash ++ r ≡ codes "cash" ++ (flat_map spaced_number cash ++ (codes "\n" ++ r))
unfolding cash_line
cash_split cash r = regroup_3 (codes "cash") (flat_map spaced_number cash) (codes "\n") r

cash_told :
    (xs ys left right : List ℕ) → AllByRecursion IsHeld xs → AllByRecursion IsHeld ys →
    cash_line xs ++ left ≡ cash_line ys ++ right → IsTold xs ys left right
cash_told xs ys left right held held' same =
    let none : (r : List ℕ) (x : ℕ) (rest : List ℕ) → spaced_number x ++ rest ≡ codes "\n" ++ r → ⊥ =
    λ r x rest is. (let no : 32 ≡ 10 = ap (nth 0) is in omega (arith, no)) in
    let told =
    items_told IsHeld spaced_number (λ (l : List ℕ). stops l ≡ true) (λ x rest. refl) spaced_told
    xs ys (codes "\n" ++ left) (codes "\n" ++ right) held held' refl refl (none left) (none right)
    (ap (drop 4) (sym (cash_split xs left) ∙ same ∙ cash_split ys right)) in
    record { same = told.same; rest = ap (drop 1) told.rest }

-- Departure flags.
flag_told :
    (a b : Bool) (left right : List ℕ) → spaced_flag a ++ left ≡ spaced_flag b ++ right →
    IsTold a b left right
flag_told true true left right same = record { same = refl; rest = ap (drop 2) same }
flag_told true false left right same =
    absurd (let no : 49 ≡ 48 = ap (nth 1) same in omega (arith, no))
flag_told false true left right same =
    absurd (let no : 48 ≡ 49 = ap (nth 1) same in omega (arith, no))
flag_told false false left right same = record { same = refl; rest = ap (drop 2) same }

gone_split :
    (gone : List Bool) (r : List ℕ) →
    gone_line gone ++ r ≡ codes "gone" ++ (flat_map spaced_flag gone ++ (codes "\n" ++ r))
unfolding gone_line
gone_split gone r = regroup_3 (codes "gone") (flat_map spaced_flag gone) (codes "\n") r

all_flags : (xs : List Bool) → AllByRecursion (λ (flag : Bool). Unit {0}) xs
all_flags [] = tt
all_flags (x ∷ xs) = (tt, all_flags xs)

gone_told :
    (xs ys : List Bool) (left right : List ℕ) → gone_line xs ++ left ≡ gone_line ys ++ right →
    IsTold xs ys left right
gone_told xs ys left right same =
    let none : (r : List ℕ) (x : Bool) (rest : List ℕ) → spaced_flag x ++ rest ≡ codes "\n" ++ r → ⊥ =
    λ r x rest is. no_flag r x rest is in
    let told =
    items_told (λ (flag : Bool). Unit {0}) spaced_flag (λ (l : List ℕ). Unit {0}) (λ x rest. tt)
    (λ a b l r held held' f f' is. flag_told a b l r is) xs ys (codes "\n" ++ left)
    (codes "\n" ++ right) (all_flags xs) (all_flags ys) tt tt (none left) (none right)
    (ap (drop 4) (sym (gone_split xs left) ∙ same ∙ gone_split ys right)) in
    record { same = told.same; rest = ap (drop 1) told.rest }
  where
    no_flag : (r : List ℕ) (x : Bool) (rest : List ℕ) → spaced_flag x ++ rest ≡ codes "\n" ++ r → ⊥
    no_flag r true rest is = (let no : 32 ≡ 10 = ap (nth 0) is in omega (arith, no))
    no_flag r false rest is = (let no : 32 ≡ 10 = ap (nth 0) is in omega (arith, no))

-- The line of a cell.
ore_fields :
    (column row bales : ℕ) (r : List ℕ) →
    ore_line column row bales ++ r
    ≡ fields (codes "ore " ∷ codes "," ∷ codes " " ∷ []) (column ∷ row ∷ bales ∷ [])
    (codes "\n" ++ r)
unfolding ore_line
ore_fields column row bales r =
    regroup_7 (codes "ore ") (decimal column) (codes ",") (decimal row) (codes " ")
    (decimal bales) (codes "\n") r

same_place : (width p q : ℕ) → p % width ≡ q % width → p / width ≡ q / width → p ≡ q
same_place width p q column row =
    sym (div-add-mod' p width) ∙ ap₂ (λ r c. r * width + c) row column ∙ div-add-mod' q width

cell_held : (width place : ℕ) → IsHeld place → IsHeld (place % width) × IsHeld (place / width)
cell_held width place held =
    (omega (arith, held, mod-le place width), omega (arith, held, div-le_self place width))

ore_told :
    (width p q m n : ℕ) (left right : List ℕ) → IsHeld p → IsHeld q → IsHeld m → IsHeld n →
    ore_line (p % width) (p / width) m ++ left ≡ ore_line (q % width) (q / width) n ++ right →
    (p ≡ q) × (m ≡ n) × (left ≡ right)
ore_told width p q m n left right hp hq hm hn same =
    let cell = cell_held width p hp in
    let cell' = cell_held width q hq in
    let told =
    fields_told (codes "ore " ∷ codes "," ∷ codes " " ∷ [])
    (p % width ∷ p / width ∷ m ∷ []) (q % width ∷ q / width ∷ n ∷ []) (codes "\n" ++ left)
    (codes "\n" ++ right) refl refl refl (cell.0, (cell.1, (hm, tt))) (cell'.0, (cell'.1, (hn, tt))) refl
    refl
    (sym (ore_fields (p % width) (p / width) m left) ∙ same
    ∙ ore_fields (q % width) (q / width) n right) in (
      same_place width p q (ap (nth 0) told.same) (ap (nth 1) told.same),
      ap (nth 2) told.same,
      ap (drop 1) told.rest,
    )

-- The text of ore and what follows it.
abbrev ore_left : ℕ → ℕ → List ℕ → List ℕ
ore_left width place cells = ore_from width place cells ++ world_end

end_begins : nth 0 world_end ≡ 101
unfolding world_end
end_begins = refl

ore_begins : (c r b : ℕ) (l : List ℕ) → nth 0 (ore_line c r b ++ l) ≡ 111
ore_begins c r b l = ap (nth 0) (ore_fields c r b l)

-- No line of a cell after a place is that of the place.
none_later :
    (width place from bales : ℕ) (cells rest : List ℕ) → IsHeld bales → place < from →
    IsHeld (from + length cells) → AllByRecursion IsHeld cells →
    ore_left width from cells ≡ ore_line (place % width) (place / width) bales ++ rest → ⊥
none_later width place from bales [] rest hb later few held same =
    let no : 101 ≡ 111 =
    sym end_begins ∙ ap (nth 0) same ∙ ore_begins (place % width) (place / width) bales rest in
    omega (arith, no)
none_later width place from bales (x ∷ cells) rest hb later few held same =
    by_ore (x == 0) refl
    (none_later width place (from + 1) bales cells rest hb (omega (arith, later))
    (omega (arith, few)) held.1)
  where
    by_ore :
        (none : Bool) → (x == 0) ≡ none →
        (ore_left width (from + 1) cells ≡ ore_line (place % width) (place / width) bales ++ rest → ⊥) →
        ⊥
    by_ore true is again = again (rw is at same)
    by_ore false is again =
        let line : (ore_line (from % width) (from / width) x ++ ore_from width (from + 1) cells) ++ world_end ≡ ore_line (place % width) (place / width) bales ++ rest = rw is at same in
        let told =
        ore_told width from place x bales (ore_left width (from + 1) cells) rest
        (omega (arith, few)) (omega (arith, few, later)) held.0 hb
        (sym (append_assoc (ore_line (from % width) (from / width) x) (ore_from width (from + 1) cells) world_end) ∙ line) in
        omega (arith, later, told.0)

is_none : (ore : ℕ) → (ore == 0) ≡ true → ore ≡ 0
is_none ore is = grind (arith, nat_tests)

same_ore :
    (width place : ℕ) (xs ys : List ℕ) → length xs ≡ length ys →
    IsHeld (place + length xs) → AllByRecursion IsHeld xs → AllByRecursion IsHeld ys →
    ore_left width place xs ≡ ore_left width place ys → xs ≡ ys
same_ore width place [] [] many few held held' same = refl
same_ore width place [] (y ∷ ys) many few held held' same = absurd (omega (arith, many))
same_ore width place (x ∷ xs) [] many few held held' same = absurd (omega (arith, many))
same_ore width place (x ∷ xs) (y ∷ ys) many few held held' same =
    by_ore (x == 0) refl (y == 0) refl
    (same_ore width (place + 1) xs ys (omega (arith, many)) (omega (arith, few)) held.1 held'.1)
  where
    split :
        (b : ℕ) (cells : List ℕ) →
        (ore_line (place % width) (place / width) b ++ ore_from width (place + 1) cells) ++ world_end
        ≡ ore_line (place % width) (place / width) b ++ ore_left width (place + 1) cells
    split b cells =
        append_assoc (ore_line (place % width) (place / width) b) (ore_from width (place + 1) cells)
        world_end

    by_ore :
        (none : Bool) → (x == 0) ≡ none → (none_other : Bool) → (y == 0) ≡ none_other →
        (ore_left width (place + 1) xs ≡ ore_left width (place + 1) ys → xs ≡ ys) →
        (x ∷ xs) ≡ (y ∷ ys)
    by_ore true is true other again =
        ap₂ (λ (a : ℕ) (l : List ℕ). a ∷ l) (is_none x is ∙ sym (is_none y other))
        (again (rw (is, other) at same))
    by_ore true is false other again =
        let line : ore_left width (place + 1) xs ≡ (ore_line (place % width) (place / width) y ++ ore_from width (place + 1) ys) ++ world_end = rw (is, other) at same in
        absurd (none_later width place (place + 1) y xs (ore_left width (place + 1) ys) held'.0
        (omega arith) (omega (arith, few)) held.1 (line ∙ split y ys))
    by_ore false is true other again =
        let line : (ore_line (place % width) (place / width) x ++ ore_from width (place + 1) xs) ++ world_end ≡ ore_left width (place + 1) ys = rw (is, other) at same in
        absurd (none_later width place (place + 1) x ys (ore_left width (place + 1) xs) held.0
        (omega arith) (omega (arith, few, many)) held'.1 (sym line ∙ split x xs))
    by_ore false is false other again =
        let line : (ore_line (place % width) (place / width) x ++ ore_from width (place + 1) xs) ++ world_end ≡ (ore_line (place % width) (place / width) y ++ ore_from width (place + 1) ys) ++ world_end = rw (is, other) at same in
        let told =
        ore_told width place place x y (ore_left width (place + 1) xs)
        (ore_left width (place + 1) ys) (omega (arith, few)) (omega (arith, few)) held.0 held'.0
        (sym (split x xs) ∙ line ∙ split y ys) in
        ap₂ (λ (a : ℕ) (l : List ℕ). a ∷ l) told.1 (again told.2)

line_after : (l : List ℕ) → nth 0 l ≡ 111 → IsAfter l
line_after l begins =
    record {
      no_build = λ is. (let no : 111 ≡ 98 = sym begins ∙ is in omega (arith, no));
      no_act = λ is third. (let no : 111 ≡ 97 = sym begins ∙ is in omega (arith, no));
    }

-- What follows the actors.
ore_after : (width place : ℕ) (cells : List ℕ) → IsAfter (ore_left width place cells)
ore_after width place [] =
    record {
      no_build = λ is. (let no : 101 ≡ 98 = sym end_begins ∙ is in omega (arith, no));
      no_act = λ is third. (let no : 101 ≡ 97 = sym end_begins ∙ is in omega (arith, no));
    }
ore_after width place (x ∷ cells) = by_ore (x == 0) refl (ore_after width (place + 1) cells)
  where
    by_ore :
        (none : Bool) → (x == 0) ≡ none → IsAfter (ore_left width (place + 1) cells) →
        IsAfter (ore_left width place (x ∷ cells))
    by_ore true is again = rw is again
    by_ore false is again =
        let begins =
        ap (nth 0) (append_assoc (ore_line (place % width) (place / width) x) (ore_from width (place + 1) cells) world_end)
        ∙ ore_begins (place % width) (place / width) x (ore_left width (place + 1) cells) in
        rw is (line_after ((ore_line (place % width) (place / width) x ++ ore_from width (place + 1) cells) ++ world_end) begins)

no_actor_left :
    (l : List ℕ) → (nth 0 l ≡ 97 → ⊥) → (x : Actor) (rest : List ℕ) → actor_text x ++ rest ≡ l → ⊥
no_actor_left l none x rest is =
    let begins = actor_begins x rest in
    none (sym (ap (nth 0) is) ∙ begins.0)

ore_no_actor : (width place : ℕ) (cells : List ℕ) → nth 0 (ore_left width place cells) ≡ 97 → ⊥
ore_no_actor width place [] is = (let no : 101 ≡ 97 = sym end_begins ∙ is in omega (arith, no))
ore_no_actor width place (x ∷ cells) is =
    by_ore (x == 0) refl (ore_no_actor width (place + 1) cells)
  where
    by_ore :
        (none : Bool) → (x == 0) ≡ none → (nth 0 (ore_left width (place + 1) cells) ≡ 97 → ⊥) → ⊥
    by_ore true none again = again (rw none at is)
    by_ore false none again =
        let first : nth 0 ((ore_line (place % width) (place / width) x ++ ore_from width (place + 1) cells) ++ world_end) ≡ 97 = rw none at is in
        let begins =
        ap (nth 0) (append_assoc (ore_line (place % width) (place / width) x) (ore_from width (place + 1) cells) world_end)
        ∙ ore_begins (place % width) (place / width) x (ore_left width (place + 1) cells) in
        let no : 111 ≡ 97 = sym begins ∙ first in
        omega (arith, no)

-- The lines of the head.
abbrev the_head : (tick seed drawn next pace : ℕ) → List ℕ → List Bool → Head
the_head tick seed drawn next pace cash gone =
    record {
      tick = tick;
      seed = seed;
      drawn = drawn;
      next_id = next;
      pace = pace;
      cash = cash;
      gone = gone;
    }

head_told :
    (h k : Head) (left right : List ℕ) → AllByRecursion IsHeld (turn_numbers h) →
    AllByRecursion IsHeld (turn_numbers k) → AllByRecursion IsHeld h.cash →
    AllByRecursion IsHeld k.cash → head_text h ++ left ≡ head_text k ++ right →
    IsTold h k left right
head_told h k left right held held' cash_held cash_held' same =
    let turns =
    turns_told h k (cash_line h.cash ++ (gone_line h.gone ++ left))
    (cash_line k.cash ++ (gone_line k.gone ++ right)) held held'
    (sym (regroup_3 (turns_line h) (cash_line h.cash) (gone_line h.gone) left) ∙ same
    ∙ regroup_3 (turns_line k) (cash_line k.cash) (gone_line k.gone) right) in
    let cash =
    cash_told h.cash k.cash (gone_line h.gone ++ left) (gone_line k.gone ++ right) cash_held
    cash_held' turns.rest in
    let gone = gone_told h.gone k.gone left right cash.rest in
    record {
      same =
          ap₂ (λ t s. the_head t s h.drawn h.next_id h.pace h.cash h.gone)
          (ap (nth 0) turns.same) (ap (nth 1) turns.same)
          ∙ ap₂ (λ d n. the_head k.tick k.seed d n h.pace h.cash h.gone)
          (ap (nth 2) turns.same) (ap (nth 3) turns.same)
          ∙ ap₂ (λ p c. the_head k.tick k.seed k.drawn k.next_id p c h.gone)
          (ap (nth 4) turns.same) cash.same
          ∙ ap (the_head k.tick k.seed k.drawn k.next_id k.pace k.cash) gone.same;
      rest = gone.rest;
    }

abbrev the_grid : ℕ → ℕ → List ℕ → Grid ℕ
the_grid width height cells = record { width = width; height = height; cells = cells }

-- Two worlds of one size with the same text are the same world.
pub same_worlds :
    (w v : World) → IsWorldHeld w → IsWorldHeld v → w.ore.width ≡ v.ore.width →
    w.ore.height ≡ v.ore.height → world_text w ≡ world_text v → w ≡ v
unfolding world_text
same_worlds w v held held' width height same =
    let rest_w : List ℕ = ore_left w.ore.width 0 w.ore.cells in
    let rest_v : List ℕ = ore_left v.ore.width 0 v.ore.cells in
    let head =
    head_told (head_of w) (head_of v) (flat_map actor_text w.actors ++ rest_w)
    (flat_map actor_text v.actors ++ rest_v)
    (held.tick, (held.seed, (held.drawn, (held.next_id, (held.pace, tt)))))
    (held'.tick, (held'.seed, (held'.drawn, (held'.next_id, (held'.pace, tt)))))
    (recursion_from_All IsHeld w.cash held.cash) (recursion_from_All IsHeld v.cash held'.cash) same in
    let actors =
    items_told IsActorHeld actor_text IsAfter actor_after actor_told w.actors v.actors rest_w rest_v
    (recursion_from_All IsActorHeld w.actors held.actors)
    (recursion_from_All IsActorHeld v.actors held'.actors)
    (ore_after w.ore.width 0 w.ore.cells) (ore_after v.ore.width 0 v.ore.cells)
    (no_actor_left rest_w (ore_no_actor w.ore.width 0 w.ore.cells))
    (no_actor_left rest_v (ore_no_actor v.ore.width 0 v.ore.cells)) head.rest in
    let many : length w.ore.cells ≡ length v.ore.cells =
    held.cells ∙ ap₂ (λ a b. a * b) width height ∙ sym held'.cells in
    let lines : ore_left v.ore.width 0 w.ore.cells ≡ ore_left v.ore.width 0 v.ore.cells =
    subst (λ (n : ℕ). ore_left n 0 w.ore.cells ≡ rest_v) width actors.rest in
    let cells =
    same_ore v.ore.width 0 w.ore.cells v.ore.cells many (omega (arith, held.few))
    (recursion_from_All IsHeld w.ore.cells held.ore)
    (recursion_from_All IsHeld v.ore.cells held'.ore) lines in
    ap₂ (λ h l. world_with h l w.ore) head.same actors.same
    ∙ ap (λ o. world_with (head_of v) v.actors o)
    (ap₂ (λ a b. the_grid a b w.ore.cells) width height
    ∙ ap (the_grid v.ore.width v.ore.height) cells)
