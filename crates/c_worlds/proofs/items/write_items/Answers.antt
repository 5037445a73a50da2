use Rattle.std.proofs.Common.{arith, ◌≡◌, ◌<◌, ◌≤◌, ◌++◌, ◌+◌, length, drop, ap, ◌∙◌}
use Rattle.c_worlds.specs.Items.{act_item, build_item, item_count, items_of}
use Rattle.c_worlds.proofs.WriteLemmas.{all_written, both_counted, one_more}
use Rattle.c_worlds.proofs.items.write_items.Goals as goal

pub loop-i-preserved : goal.loop-i-preserved
loop-i-preserved c =
    let actor = c.args.actor.now in
    let lt : c.loop-i.i < c.item_count-i-end.result = c.loop-i-test.true in
    let all : c.item_count-i-end.result ≡ item_count actor = c.item_count-i-end.ensures.value in
    let room : item_count actor ≤ length c.args.out.now = c.requires in
    one_more (items_of actor) c.args.out.now c.loop-i.out c.loop-i.i (c.loop-i.i + 1) c.item_at.result (omega arith)
    c.item_at.ensures (omega (arith, lt, all, room)) c.loop-i.invariant

pub returns : goal.returns
returns c =
    let actor = c.args.actor.now in
    let most : c.loop-i.i ≤ c.item_count-i-end.result = c.loop-i.auto.i-end in
    let past : c.item_count-i-end.result ≤ c.loop-i.i = c.loop-i-test.false in
    let all : c.item_count-i-end.result ≡ item_count actor = c.item_count-i-end.ensures.value in
    let count : length (items_of actor) ≡ item_count actor = both_counted act_item build_item actor.body.acts actor.body.builds in
    let end : c.loop-i.i ≡ length (items_of actor) = omega arith in
    all_written (items_of actor) c.args.out.now c.loop-i.out c.loop-i.i end c.loop-i.invariant
    ∙ ap (λ n. items_of actor ++ drop n c.args.out.now) count
