use Rattle.std.proofs.Common.{◌≡◌, ◌<◌, [], ◌∷◌, ◌++◌, length, None, ap, sym, ◌∙◌, arith, subst}
use Rattle.peer_core.specs.Entries.{stored_plays, IsAbove, play_at, with_play}
use Rattle.std.specs.Ordering.{nat_cmp}
use Rattle.std.specs.BTreeMap.{insert_entry}
use Rattle.peer_core.proofs.PlaysLemmas.{kept_next, kept_early, early_above, after_gap}
use Rattle.peer_core.proofs.plays.Plays.keep.Goals as goal

pub returns-in_ok-add_early-clause-kept : goal.returns-in_ok-add_early-clause-kept
returns-in_ok-add_early-clause-kept c =
    let column = c.self.inside.column.items in
    let early = c.self.inside.early.entries in
    let free : play_at (stored_plays column early) c.args.n ≡ None =
    ap (λ plays. play_at plays c.args.n) c.self.view_is ∙ c.requires in
    let past : length column < c.args.n = after_gap column early c.args.n (omega arith) free in
    ap (stored_plays column) (c.in_ok-add_early.ensures.added ∙ ap
    (insert_entry nat_cmp early c.args.n) c.in_ok-stored.ensures)
    ∙ kept_early column early c.args.n c.args.orders.now (omega (arith, past)) free
    ∙ ap (with_play (record { frame = c.args.n; orders = c.args.orders.now })) c.self.view_is

pub returns-in_ok-reserve-clause-kept : goal.returns-in_ok-reserve-clause-kept
returns-in_ok-reserve-clause-kept c =
    let column = c.self.inside.column.items in
    let early = c.self.inside.early.entries in
    let here : length column ≡ c.args.n = omega arith in
    c.close_gap.ensures.plays
    ∙ ap (λ orders. stored_plays orders early) c.push_reserved.ensures.items
    ∙ ap (λ orders. stored_plays (orders ++ c.in_ok-stored.stored
    ∷ []) early) c.reserve.ensures.items
    ∙ ap (λ orders. stored_plays (column ++ orders ∷ []) early) c.in_ok-stored.ensures
    ∙ kept_next column early c.args.orders.now c.self.invariant
    ∙ ap (λ n. with_play (record { frame = n; orders = c.args.orders.now })
    (stored_plays column early)) here
    ∙ ap (with_play (record { frame = c.args.n; orders = c.args.orders.now })) c.self.view_is

-- What is after the gap stays so, also with one more play there.
pub invariant_of-self-in-Continue-branch-3 : goal.invariant_of-self-in-Continue-branch-3
invariant_of-self-in-Continue-branch-3 c =
    let column = c.self.inside.column.items in
    let early = c.self.inside.early.entries in
    let free : play_at (stored_plays column early) c.args.n ≡ None =
    ap (λ plays. play_at plays c.args.n) c.self.view_is ∙ c.requires in
    let past : length column < c.args.n = after_gap column early c.args.n (omega arith) free in
    subst (IsAbove (length column)) (sym (c.in_ok-add_early.ensures.added ∙ ap
    (insert_entry nat_cmp early c.args.n) c.in_ok-stored.ensures))
    (early_above column early c.args.n c.args.orders.now past c.self.invariant free)
