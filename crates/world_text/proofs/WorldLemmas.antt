-- The lines of a world, one after the other.
use Rattle.std.proofs.Common.{◌≡◌, ◌*◌, ℕ, ◌+◌, List, [], ◌∷◌, ◌++◌, length}
use Rattle.std.proofs.Common.{refl, ap, subst, ◌∙◌, arith}
use Rattle.std.specs.List.{flat_map}
use Rattle.std.specs.Prelude.{◌==◌, true}
use Rattle.game_model.specs.declared.world.Head.{Head}
use Rattle.game_model.specs.declared.world.World.{World}
use Rattle.game_model.specs.Grid.{Grid}
use Rattle.game_model.specs.World.{head_of, world_with}
use Rattle.world_text.specs.Printing.{PrintState, Prints, PrintsBut}
use Rattle.world_text.proofs.PrintingLemmas.{prints_last, prints_next, prints_none, prints_nothing}
use Rattle.world_text.specs.WorldText.{actor_text, head_text, ore_at, ore_from, ore_text}
use Rattle.world_text.specs.WorldText.{world_end, world_text}

-- A cell without ore has no line.
pub no_ore :
    (p : PrintState) (width place bales : ℕ) → (bales == 0) ≡ true →
    Prints p p (ore_at width place bales)
no_ore p width place bales none = rw none (prints_nothing p)

-- The next cell.
pub next_cell :
    (old now new : PrintState) (text : List ℕ) (width place bales : ℕ) (cells rest : List ℕ) →
    cells ≡ bales ∷ rest → PrintsBut old now text (ore_from width place cells) →
    Prints now new (ore_at width place bales) →
    PrintsBut old new text (ore_from width (place + 1) rest)
next_cell old now new text width place bales cells rest is so_far next =
    prints_next old now new text (ore_at width place bales) (ore_from width (place + 1) rest)
    (subst (λ (left : List ℕ). PrintsBut old now text (ore_from width place left)) is so_far) next

pub none_after :
    (width place : ℕ) {cells : List ℕ} → cells ≡ [] → ore_from width place cells ≡ []
none_after width place none = ap (ore_from width place) none

-- A map without columns has no cells.
pub no_cells :
    (p : PrintState) (ore : Grid ℕ) → length ore.cells ≡ ore.width * ore.height → ore.width ≡ 0 →
    Prints p p (ore_text ore)
no_cells p ore whole none = by_cells ore.cells (whole ∙ ap (λ (w : ℕ). w * ore.height) none ∙ omega arith) refl
  where
    by_cells : (cells : List ℕ) → length cells ≡ 0 → ore.cells ≡ cells → Prints p p (ore_text ore)
    by_cells [] empty is = rw is (prints_nothing p)
    by_cells (bales ∷ cells) empty is = absurd (omega arith)

-- All of a world was printed.
pub world_printed :
    (w : World) (head : Head) (a b c d e : PrintState) → world_with head w.actors w.ore ≡ w →
    Prints a b (head_text head) → Prints b c (flat_map actor_text w.actors) →
    Prints c d (ore_text w.ore) → Prints d e world_end → Prints a e (world_text w)
unfolding world_text
world_printed w head a b c d e is of_head of_actors of_ore of_end =
    let after_ore : List ℕ = ore_text w.ore ++ world_end in
    let after_actors : List ℕ = flat_map actor_text w.actors ++ after_ore in
    let same : head ≡ head_of w = ap head_of is in
    let all : Prints a e (head_text head ++ after_actors) =
    prints_last a d e (head_text head ++ after_actors) world_end
    (prints_next a c d (head_text head ++ after_actors) (ore_text w.ore) world_end
    (prints_next a b c (head_text head ++ after_actors) (flat_map actor_text w.actors) after_ore
    (prints_next a a b (head_text head ++ after_actors) (head_text head) after_actors
    (prints_none a (head_text head ++ after_actors)) of_head)
    of_actors)
    of_ore)
    of_end in
    subst (λ (h : Head). Prints a e (head_text h ++ after_actors)) same all
