-- A field that begins is right up to level 0.
use Rattle.std.proofs.Common.{◌≡◌, ℕ, ◌*◌, ◌%◌, ◌<◌, ◌≤◌, inl, inr, Bool, true, false, cond, length, [], replicate, get_or, Option, refl, ap, sym, ◌∙◌, arith, subst, length-set}
use Rattle.std.proofs.lemmas.List.Sums.{count_by-le-length}
use Rattle.std.proofs.lemmas.List.{get_or-replicate, length-replicate}
use Rattle.std.proofs.Math.ListN.{get_or-eq_default}
use Rattle.std.proofs.lemmas.Bool.{cases_lt}
use Rattle.world_units.specs.declared.cell.CPos.{CPos}
use Rattle.game_model.specs.Grid.{Grid, HasSize, IsOn, is_on, place_of}
use Rattle.grid_routes.specs.declared.field.TheConstants.{NONE}
use Rattle.grid_routes.specs.declared.reach.Reach.{Reach}
use Rattle.grid_routes.specs.Values.{value_in}
use Rattle.grid_routes.specs.Labels.{Distances, IsFull, begun, label_of, open_count}
use Rattle.grid_routes.specs.Held.{Shelves, IsHeld, IsWhole, len_of, pushed}
use Rattle.game_model.specs.Walks.{Land}
use Rattle.grid_routes.specs.Steps.{AreQueued, IsFair, IsGoing, IsSearch}
use Rattle.grid_routes.proofs.Cells.{placed, set-here, set-other}
use Rattle.grid_routes.proofs.Shelves.{pushed-fits, pushed-room}
use Rattle.grid_routes.proofs.Lowering.{one-or-not}
use Rattle.grid_routes.proofs.Advancing.{no-both}

same-replicate : (n : ℕ) (i d : ℕ) → get_or (replicate n d) i d ≡ d
same-replicate n i d =
    elim (cases_lt i n) [
      | inl below ↦ get_or-replicate n i d d below
      | inr past ↦ get_or-eq_default (replicate n d) d (omega (arith, length-replicate n d))
    ]

cond-same : (b : Bool) (x d : ℕ) → x ≡ d → cond b x d ≡ d
cond-same true x d same = same
cond-same false x d same = refl

unlabelled : (g : Grid ℕ) (p : CPos) → label_of (record g { cells = replicate (length g.cells) NONE }) p ≡ NONE
unfolding value_in
unlabelled g p = cond-same (is_on g.width g.height p) _ NONE (same-replicate (length g.cells) (place_of g.width p) NONE)

all-open : (g : Grid ℕ) → open_count 0 g ≤ length g.cells
unfolding open_count
all-open g = count_by-le-length _ g.cells

module _ (land : Land) (f : Distances) (s : Shelves) (w h : ℕ) (full : IsFull f.labels) (fair : IsFair land.entry_cost w h) (size : HasSize w h f.labels) (whole : IsWhole s) (empty : (b : ℕ) → len_of s b ≡ 0) (kept : s.lost ≡ false) (room : s.room ≡ w * h) (on : IsOn w h land.goal) (reach : Option Reach) where
  here : IsOn f.labels.width f.labels.height land.goal
  here = record { column = rw size.width on.column; row = rw size.height on.row }

  none : Grid ℕ
  none = record f.labels { cells = replicate (length f.labels.cells) NONE }

  at-goal : label_of (begun f land.goal reach).labels land.goal ≡ 0
  at-goal = set-here NONE (record f.labels { cells = replicate (length f.labels.cells) NONE }) land.goal 0 (length-replicate (length f.labels.cells) NONE ∙ full.size) here

  only-goal : (p : CPos) → label_of (begun f land.goal reach).labels p < NONE → p ≡ land.goal
  only-goal p less =
      elim (one-or-not p land.goal) [
        | inl same ↦ same
        | inr other ↦
            let stays = set-other NONE (record f.labels { cells = replicate (length f.labels.cells) NONE }) land.goal 0 p here.column other in
            let outside = unlabelled f.labels p in
            absurd (omega (arith, stays, outside))
      ]

  zero-there : (p : CPos) → label_of (begun f land.goal reach).labels p < NONE → label_of (begun f land.goal reach).labels p ≡ 0
  zero-there p less = ap (λ c. label_of (begun f land.goal reach).labels c) (only-goal p less) ∙ at-goal

  cells-same : length (begun f land.goal reach).labels.cells ≡ length f.labels.cells
  cells-same =
      length-set (replicate (length f.labels.cells) NONE) (place_of f.labels.width land.goal) 0 ∙ length-replicate (length f.labels.cells) NONE

  few : len_of s 0 < s.room
  few = omega (arith, empty 0, room, placed w h land.goal (w * h) refl on)

  held : IsHeld (pushed s 0 land.goal) 0 land.goal
  held = (pushed-fits s 0 land.goal whole (omega arith) few kept).1

  queued : AreQueued (begun f land.goal reach) (pushed s 0 land.goal)
  queued = record {
    each = λ p from to.
        subst (λ (n : ℕ). IsHeld (pushed s 0 land.goal) (n % 71) p) (sym (zero-there p to))
        (subst (λ (x : CPos). IsHeld (pushed s 0 land.goal) 0 x) (sym (only-goal p to)) held);
  }

  pub begins : IsSearch land (begun f land.goal reach) (pushed s 0 land.goal)
  begins = record {
    goal = here;
    full = record { size = cells-same ∙ full.size; wide = full.wide; high = full.high };
    room = pushed-room s 0 land.goal whole (omega arith) ∙ room ∙ ap (λ n. n * h) (sym size.width) ∙ ap (λ n. f.labels.width * n) (sym size.height) ∙ sym full.size ∙ sym cells-same;
    fair = record {
      inside = λ q some.
          let there = fair.inside q some in
          record { column = rw size.width there.column; row = rw size.height there.row };
      cheap = fair.cheap;
    };
    right = record {
      goal = at-goal;
      walks = λ p less. ([], (only-goal p less, zero-there p less));
      closed = λ p q d k on_map step below reached. absurd (omega arith);
      near = λ p less. omega (arith, zero-there p less);
      small = λ p less. omega (arith, zero-there p less);
      rises = λ less. omega (arith, all-open (begun f land.goal reach).labels);
    };
    queued = λ still. queued;
  }

-- A search that may go on later is one that goes on, once its buckets are to be filled again.
pub going-on :
    (land : Land) (f : Distances) (s : Shelves) (w h : ℕ) → HasSize w h f.labels → s.room ≡ w * h →
    IsGoing land f → IsSearch land f (record s { lost = true })
going-on land f s w h size room going = record {
  goal = going.goal;
  full = going.full;
  room = room ∙ ap (λ n. n * h) (sym size.width) ∙ ap (λ n. f.labels.width * n) (sym size.height) ∙ sym going.full.size;
  fair = going.fair;
  right = going.right;
  queued = λ still. absurd (no-both true still refl);
}

pub may-go-on : (land : Land) (f : Distances) (s : Shelves) → IsSearch land f s → IsGoing land f
may-go-on land f s search = record { goal = search.goal; full = search.full; fair = search.fair; right = search.right }

-- A field by itself, as that of a search whose buckets are lost.
abbrev pub no-shelves : Distances → Shelves
no-shelves f = record { room = length f.labels.cells; cells = []; lens = []; lost = true }

pub as-search : (land : Land) (f : Distances) → IsGoing land f → IsSearch land f (no-shelves f)
as-search land f going = record {
  goal = going.goal;
  full = going.full;
  room = refl;
  fair = going.fair;
  right = going.right;
  queued = λ still. absurd (no-both true still refl);
}
