use Rattle.std.proofs.Common.{◌≡◌, ℕ, ◌<◌, ◌∙◌, ap, sym, subst, length, arith, if◌then◌else◌}
use Rattle.frame_core.specs.declared.ready.Ready.TheVariants.{Yes, NotYet, Over}
use Rattle.frame_table.specs.Part.{part_of}
use Rattle.frame_table.specs.Calls.{view_of}
use Rattle.frame_table.proofs.Looking.{looked_played, looked_departed, not_yet, looked_all, loaded_more, seen_means}
use Rattle.frame_table.proofs.table.FrameTable.ready.Goals.{in-Played, in-Departed}
use Rattle.frame_table.proofs.table.FrameTable.ready.Goals as goal

pub returns-in-Missing-clause-value : goal.returns-in-Missing-clause-value
returns-in-Missing-clause-value c =
    let i = c.loop-c.invariant in
    let s = c.seen.ensures in
    let marks = i.0.marks in
    let end = i.2 in
    let test = c.loop-c-test.true in
    not_yet _ _ _ _ _ _ _ i.1 (omega arith) s.others s.part s.further s.known s.plan _ c.input.ensures c.in-Missing.is

pub loop-c-preserved : goal.loop-c-preserved
loop-c-preserved c =
    let i = c.loop-c.invariant in
    let s = c.seen.ensures in
    let marks = i.0.marks in
    let end = i.2 in
    let test = c.loop-c-test.true in
    let below : c.loop-c.c < length (view_of c.loop-c.pass).marks = omega arith in (
      s.pass,
      elim c.match-input.branch [
        | in-Played w ↦ looked_played _ _ _ _ _ _ _ i.1 below s.others s.part s.further s.known s.plan _ c.input.ensures w.in-Played.is s.limit _ w.played-is
        | in-Departed w ↦ looked_departed _ _ _ _ _ _ _ i.1 below s.others s.part s.further s.known s.plan _ c.input.ensures w.in-Departed.is _ w.played-is
      ],
      end,
    )

pub returns-then-played-clause-value : goal.returns-then-played-clause-value
returns-then-played-clause-value c =
    let i = c.loop-c.invariant in
    let marks = i.0.marks in
    let end = i.2 in
    let test = c.loop-c-test.false in
    sym (looked_all _ _ _ c.loop-c.c _ i.1 (omega arith) ∙ ap (λ b. if b then Yes else Over) c.if-played.true)

pub returns-else-played-clause-value : goal.returns-else-played-clause-value
returns-else-played-clause-value c =
    let i = c.loop-c.invariant in
    let marks = i.0.marks in
    let end = i.2 in
    let test = c.loop-c-test.false in
    sym (looked_all _ _ _ c.loop-c.c _ i.1 (omega arith) ∙ ap (λ b. if b then Yes else Over) c.if-played.false)

pub returns-in-Missing-clause-means : goal.returns-in-Missing-clause-means
returns-in-Missing-clause-means c = seen_means (view_of c.seen.new.pass) c.args.n _ (returns-in-Missing-clause-value c)

pub returns-then-played-clause-means : goal.returns-then-played-clause-means
returns-then-played-clause-means c = seen_means (view_of c.loop-c.pass) c.args.n _ (returns-then-played-clause-value c)

pub returns-else-played-clause-means : goal.returns-else-played-clause-means
returns-else-played-clause-means c = seen_means (view_of c.loop-c.pass) c.args.n _ (returns-else-played-clause-value c)

pub returns-in-Missing-clause-loaded : goal.returns-in-Missing-clause-loaded
returns-in-Missing-clause-loaded c =
    let i = c.loop-c.invariant in
    let s = c.seen.ensures in
    let marks = i.0.marks in
    let end = i.2 in
    let test = c.loop-c-test.true in
    let more : (part_of c.loop-c.c (view_of c.args.pass.now)).loads < (part_of c.loop-c.c (view_of c.seen.new.pass)).loads = loaded_more _ _ _ _ _ _ _ i.1 (omega arith) s.others s.part s.further s.known s.plan in
    λ d is. subst (λ e. (part_of e (view_of c.args.pass.now)).loads < (part_of e (view_of c.seen.new.pass)).loads) (not_yet_of c.loop-c.c d is) more
  where
    not_yet_of : (a b : ℕ) → NotYet a ≡ NotYet b → a ≡ b
    not_yet_of a b is = cc
