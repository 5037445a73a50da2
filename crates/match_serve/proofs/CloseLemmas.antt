-- Passes that are joined back.
use Rattle.std.proofs.Common.{◌≡◌, ℕ, ◌+◌, ◌<◌, length, get_or, ap, ◌∙◌, arith}
use Rattle.frame_core.specs.Grows.{GrowsTo}
use Rattle.frame_table.specs.declared.view.View.{View}
use Rattle.frame_table.specs.declared.pass.Pass.{Pass}
use Rattle.frame_table.specs.declared.table.FrameTable.{FrameTable}
use Rattle.frame_table.specs.Part.{Part, part_of, part_in, no_mark}
use Rattle.frame_table.specs.Passes.{joined_mark, joined_view}
use Rattle.frame_table.proofs.PassesLemmas.{joined_at}
use Rattle.frame_table.specs.Calls.{plan_of, view_of, standing, IsPassOf}
use Rattle.match_serve.specs.declared.link_seat.LinkSeat.{LinkSeat}
use Rattle.match_serve.specs.Passes.{IsServePass}
use Rattle.match_serve.specs.Closed.{Closes}
use Rattle.match_serve.proofs.PassLemmas.{GrowsTo-trans}

-- One pass was joined into another.
module _ (clients : ℕ) (table : FrameTable) (p other q : Pass) (mine : IsServePass clients table p) (theirs : IsServePass clients table other) (is : IsPassOf table q) (joined : view_of q ≡ joined_view (view_of p) (view_of other)) where
  part_joined : (c : ℕ) → c < clients → standing q c ≡ part_in ((view_of p).share + (view_of other).share) (joined_mark (get_or (view_of p).marks c no_mark) (get_or (view_of other).marks c no_mark))
  part_joined c below =
      ap (part_of c) joined
      ∙ ap (part_in ((view_of p).share + (view_of other).share)) (joined_at (view_of p).marks (view_of other).marks c
      (let l = mine.of_table.marks in let m = mine.count in omega arith) (let l = theirs.of_table.marks in let m = theirs.count in omega arith))

  pub joined_pass : IsServePass clients table q
  joined_pass = record { of_table = is; count = mine.count; free = λ c below. ap (λ (r : Part). r.planned) (part_joined c below) ∙ mine.free c below }

  pub joined_share : (view_of q).share ≡ (view_of p).share + (view_of other).share
  joined_share = ap (λ (v : View). v.share) joined

  pub joined_made : (c : ℕ) → c < clients → (standing q c).made ≡ (standing p c).made + (standing other c).made
  joined_made c below = ap (λ (r : Part). r.made) (part_joined c below)

abbrev pub Grew : ℕ → Pass → Pass → Type 0
Grew clients old new = (c : ℕ) → c < clients → GrowsTo (standing old c).known (standing new c).known

pub closes : (clients : ℕ) (table : FrameTable) (seat : LinkSeat) (p mid q : Pass) → IsServePass clients table p → IsServePass clients table seat.reading.pass → IsServePass clients table seat.sending →
    IsPassOf table mid → view_of mid ≡ joined_view (view_of p) (view_of seat.reading.pass) → ((c : ℕ) → c < length (plan_of table) → GrowsTo (standing p c).known (standing mid c).known) → ((c : ℕ) → c < length (plan_of table) → GrowsTo (standing seat.reading.pass c).known (standing mid c).known) →
    IsPassOf table q → view_of q ≡ joined_view (view_of mid) (view_of seat.sending) → ((c : ℕ) → c < length (plan_of table) → GrowsTo (standing mid c).known (standing q c).known) → ((c : ℕ) → c < length (plan_of table) → GrowsTo (standing seat.sending c).known (standing q c).known) →
    Closes clients table seat p q
closes clients table seat p mid q pass reads sends of_mid first mine theirs of_q second mine_too theirs_too =
    let mid_is = joined_pass clients table p seat.reading.pass mid pass reads of_mid first in
    let count = pass.count in
    record {
      is = joined_pass clients table mid seat.sending q mid_is sends of_q second;
      share = (let a = joined_share clients table p seat.reading.pass mid pass reads of_mid first in let b = joined_share clients table mid seat.sending q mid_is sends of_q second in omega arith);
      made = λ c below. (let a = joined_made clients table p seat.reading.pass mid pass reads of_mid first c below in let b = joined_made clients table mid seat.sending q mid_is sends of_q second c below in omega arith);
      mine = λ c below. GrowsTo-trans (standing p c).known (standing mid c).known (standing q c).known (mine c (omega arith)) (mine_too c (omega arith));
      reads = λ c below. GrowsTo-trans (standing seat.reading.pass c).known (standing mid c).known (standing q c).known (theirs c (omega arith)) (mine_too c (omega arith));
      sends = λ c below. theirs_too c (omega arith);
    }
