-- What the calls of the table keep of a pass.
use Rattle.std.proofs.Common.{◌≡◌, ℕ, zero, suc, ◌-◌, ◌<◌, Bool, true, false, List, [], ◌∷◌, ◌++◌, length, map, get_or, refl, sym, ap, ◌∙◌, subst, ⊎_elim, arith, append_assoc}
use native.Mathlib.Decide.{ℕ_discrete}
use mathlib.Core.Logic.{dite}
use Rattle.frame_core.specs.Column.{Column, no_column}
use Rattle.frame_core.specs.Grows.{GrowsTo, Grows}
use Rattle.frame_core.proofs.GrowsLemmas.{GrowsTo-refl}
use Rattle.frame_table.specs.declared.view.View.{View}
use Rattle.frame_table.specs.declared.view.Mark.{Mark}
use Rattle.frame_table.specs.declared.pass.Pass.{Pass}
use Rattle.frame_table.specs.declared.table.FrameTable.{FrameTable}
use Rattle.frame_table.specs.Part.{Part, part_of, no_mark}
use Rattle.frame_table.specs.Passes.{known_in}
use Rattle.frame_table.specs.Word.{one_if}
use Rattle.frame_table.specs.Steps.{published}
use Rattle.frame_table.specs.Calls.{view_of, IsPassOf, Acted, IsLater, IsLaterPart}
use Rattle.match_serve.specs.Passes.{IsServePass, Learns, columns_known}

pub GrowsTo-trans : (a b c : Column) → GrowsTo a b → GrowsTo b c → GrowsTo a c
GrowsTo-trans a b c first second =
    record {
      more = first.more ++ second.more;
      plays = second.plays ∙ ap (λ p. p ++ second.more) first.plays ∙ append_assoc a.plays first.more second.more;
      closed = λ left. second.closed (ap (λ (k : Column). k.left) (first.closed left) ∙ left) ∙ first.closed left;
    }

pub learns_refl : (view : View) → Learns view view
learns_refl view = record { share = refl; planned = λ c. refl; made = λ c. refl; known = λ c. GrowsTo-refl (part_of c view).known }

pub learns_trans : (a b c : View) → Learns a b → Learns b c → Learns a c
learns_trans a b c first second =
    record {
      share = second.share ∙ first.share;
      planned = λ k. second.planned k ∙ first.planned k;
      made = λ k. second.made k ∙ first.made k;
      known = λ k. GrowsTo-trans (part_of k a).known (part_of k b).known (part_of k c).known (first.known k) (second.known k);
    }

-- A pass that learned.
pub learned_pass : (clients : ℕ) (table : FrameTable) (p q : Pass) → IsServePass clients table p → IsPassOf table q → Learns (view_of p) (view_of q) → IsServePass clients table q
learned_pass clients table p q pass is learns =
    record { of_table = is; count = pass.count; free = λ c below. learns.planned c ∙ pass.free c below }

same_if : (b : Bool) → one_if b - one_if b ≡ 0
same_if true = refl
same_if false = refl

abbrev LearnsPart : Part → Part → Type 0
LearnsPart old new = (new.planned ≡ old.planned) × (new.made ≡ old.made) × GrowsTo old.known new.known

published_learns : (old new : Part) (K : Column) → GrowsTo old.known K → new ≡ published old K K → LearnsPart old new
published_learns old new K grows is =
    (ap (λ (p : Part). p.planned) is, (ap (λ (p : Part). p.made) is ∙ (let same = same_if K.left in omega arith)), subst (λ (p : Part). GrowsTo old.known p.known) (sym is) grows)

-- A call that found a column and left it as it was.
pub acted_learns : (c : ℕ) (old new : View) (K : Column) → Acted c old new K K → Learns old new
acted_learns c old new K acted =
    let here = published_learns (part_of c old) (part_of c new) K acted.found.known acted.part in
    record {
      share = acted.others.0;
      planned = λ d. (each d here).0;
      made = λ d. (each d here).1;
      known = λ d. (each d here).2;
    }
  where
    each : (d : ℕ) → LearnsPart (part_of c old) (part_of c new) → LearnsPart (part_of d old) (part_of d new)
    each d here = dite (ℕ_discrete d c)
        (λ same. subst (λ e. LearnsPart (part_of e old) (part_of e new)) (sym same) here)
        (λ apart. subst (λ (p : Part). LearnsPart (part_of d old) p) (sym (acted.others.2 d apart)) (refl, refl, GrowsTo-refl (part_of d old).known))

-- A look at the columns' words.
later_part : (old new : Part) → IsLaterPart old new → LearnsPart old new
later_part old new later = (
  ⊎_elim (λ same. ap (λ (p : Part). p.planned) same) (λ once. ap (λ (p : Part). p.planned) once.0) later.exact,
  ⊎_elim (λ same. ap (λ (p : Part). p.made) same) (λ once. ap (λ (p : Part). p.made) once.0) later.exact,
  later.known,
)

pub later_learns : (old new : View) → IsLater old new → Learns old new
later_learns old new later =
    record {
      share = later.share;
      planned = λ c. (later_part (part_of c old) (part_of c new) (later.parts c)).0;
      made = λ c. (later_part (part_of c old) (part_of c new) (later.parts c)).1;
      known = later_known;
    }
  where
    later_known : (c : ℕ) → GrowsTo (part_of c old).known (part_of c new).known
    later_known c = (later.parts c).known

-- What is known of the columns grows.
marks_grow : (olds news : List Mark) → length news ≡ length olds → ((c : ℕ) → c < length olds → GrowsTo (known_in (get_or olds c no_mark)) (known_in (get_or news c no_mark))) → Grows (map known_in olds) (map known_in news)
marks_grow [] [] long each = tt
marks_grow [] (y ∷ ys) long each = absurd (omega arith)
marks_grow (x ∷ xs) [] long each = absurd (omega arith)
marks_grow (x ∷ xs) (y ∷ ys) long each = (each 0 (omega arith), marks_grow xs ys (omega arith) (λ c below. each (suc c) (omega arith)))

pub learns_grow : (old new : View) → length new.marks ≡ length old.marks → Learns old new → Grows (columns_known old) (columns_known new)
learns_grow old new long learns = marks_grow old.marks new.marks long (λ c below. learns.known c)

marks_column : (marks : List Mark) (c : ℕ) → get_or (map known_in marks) c no_column ≡ known_in (get_or marks c no_mark)
marks_column [] c = refl
marks_column (m ∷ marks) zero = refl
marks_column (m ∷ marks) (suc c) = marks_column marks c

-- The column of a client as it is known.
pub column_known : (view : View) (c : ℕ) → get_or (columns_known view) c no_column ≡ (part_of c view).known
column_known view c = marks_column view.marks c

pub length_known : (marks : List Mark) → length (map known_in marks) ≡ length marks
length_known [] = refl
length_known (m ∷ marks) = ap suc (length_known marks)
