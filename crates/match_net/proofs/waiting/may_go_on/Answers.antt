use Rattle.std.proofs.Common.{ap, arith, inl, inr}
use Rattle.frame_table.specs.Part.{Part}
use Rattle.match_net.proofs.AheadLemmas.{seen_around, later_around, free_around, goes_ready, goes_left}
use Rattle.match_net.proofs.waiting.may_go_on.Goals as goal

pub returns-in-Yes-clause-goes : goal.returns-in-Yes-clause-goes
returns-in-Yes-clause-goes c =
    let look = c.seen-plays.ensures in
    let free = c.requires.may.planned in
    let first = seen_around _ _ _ _ free look.others look.part look.further look.known in
    let second = later_around _ _ _ (free_around _ _ _ first free) c.ready.ensures.later in
    let room = c.from-room.ensures in
    let more = c.if-plays-room.false in
    goes_ready _ _ _ _ _ _ _ _ first second c.requires.seen (ap (λ (p : Part). p.reach.plays) look.part) (omega arith) (inl c.in-Yes.is) c.ready.ensures.means

pub returns-in-NotYet-clause-goes : goal.returns-in-NotYet-clause-goes
returns-in-NotYet-clause-goes c =
    let look = c.seen-plays.ensures in
    let free = c.requires.may.planned in
    let first = seen_around _ _ _ _ free look.others look.part look.further look.known in
    let free_then = free_around _ _ _ first free in
    let second = later_around _ _ _ free_then c.ready.ensures.later in
    let last = c.seen.ensures in
    let third = seen_around _ _ _ _ (free_around _ _ _ second free_then) last.others last.part last.further last.known in
    let room = c.from-room.ensures in
    let more = c.if-plays-room.false in
    goes_left _ _ _ _ _ _ _ _ _ _ second third last.others last.part (ap (λ (p : Part). p.reach.plays) look.part) (omega arith) c.in-NotYet.is c.ready.ensures.means

pub returns-in-Over-clause-goes : goal.returns-in-Over-clause-goes
returns-in-Over-clause-goes c =
    let look = c.seen-plays.ensures in
    let free = c.requires.may.planned in
    let first = seen_around _ _ _ _ free look.others look.part look.further look.known in
    let second = later_around _ _ _ (free_around _ _ _ first free) c.ready.ensures.later in
    let room = c.from-room.ensures in
    let more = c.if-plays-room.false in
    goes_ready _ _ _ _ _ _ _ _ first second c.requires.seen (ap (λ (p : Part). p.reach.plays) look.part) (omega arith) (inr c.in-Over.is) c.ready.ensures.means
