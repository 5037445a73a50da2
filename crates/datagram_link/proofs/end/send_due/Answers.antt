use Rattle.std.proofs.Common.{◌≡◌, ◌<◌, [], length, ap₂, sym, ◌∙◌, arith, slice_index_or}
use Rattle.std.proofs.lemmas.Result.{err_from_is_err_and}
use Rattle.datagram_link.specs.Grams.{data_bytes, data_grams}
use Rattle.datagram_link.proofs.SendingLemmas.{grams_length, grams_get, first_more, first_all, all_cut}
use Rattle.datagram_link.proofs.end.send_due.Goals as goal

pub returns-in_err-send_data-clause-sent : goal.returns-in_err-send_data-clause-sent
returns-in_err-send_data-clause-sent g c =
    let first = c.args.sender.now.acknowledged in
    let payloads = c.args.sender.now.waiting in
    let grams = data_grams first payloads in
    let end = c.waiting-i-end.ensures in
    let below = c.loop-i-test.true in
    let long = grams_length first payloads in
    let inside : c.loop-i.i < length payloads = omega arith in
    let gram = data_bytes c.due_at-number.result.0 c.due_at-number.result.1.now in
    let is : slice_index_or grams c.loop-i.i [] ≡ gram =
    grams_get first payloads c.loop-i.i inside
    ∙ ap₂ data_bytes (sym c.due_at-number.ensures.number) (sym c.due_at-number.ensures.payload) in
    let p = err_from_is_err_and c.from_residual.result c.from_residual.ensures.1 in
    rw (p.1, p.2)
    (all_cut grams c.loop-i.i gram (g.P.Post.state c.args.post.now) (g.P.Post.state c.loop-i.post)
    (g.P.Post.state c.send_data.new.post) c.in_err-send_data.field-0.0 (omega arith) is
    c.loop-i.invariant.sent c.loop-i.invariant.later c.in_err-send_data.ensures.sent)

pub loop-i-preserved : goal.loop-i-preserved
loop-i-preserved g c =
    let first = c.args.sender.now.acknowledged in
    let payloads = c.args.sender.now.waiting in
    let grams = data_grams first payloads in
    let end = c.waiting-i-end.ensures in
    let below = c.loop-i-test.true in
    let long = grams_length first payloads in
    let inside : c.loop-i.i < length payloads = omega arith in
    let gram = data_bytes c.due_at-number.result.0 c.due_at-number.result.1.now in
    let is : slice_index_or grams c.loop-i.i [] ≡ gram =
    grams_get first payloads c.loop-i.i inside
    ∙ ap₂ data_bytes (sym c.due_at-number.ensures.number) (sym c.due_at-number.ensures.payload) in
    let before = c.loop-i.invariant.later in
    let later = c.send_data.ensures.later in
    record {
      sent = first_more grams c.loop-i.i gram (g.P.Post.state c.args.post.now).held
          (g.P.Post.state c.loop-i.post).held (g.P.Post.state c.send_data.new.post).held (omega arith) is
          c.loop-i.invariant.sent c.in_ok-send_data.ensures.sent;
      later = omega arith;
    }

pub returns-clause-sent : goal.returns-clause-sent
returns-clause-sent g c =
    let first = c.args.sender.now.acknowledged in
    let payloads = c.args.sender.now.waiting in
    let end = c.waiting-i-end.ensures in
    let above = c.loop-i-test.false in
    let long = grams_length first payloads in
    first_all (data_grams first payloads) c.loop-i.i (g.P.Post.state c.args.post.now).held
    (g.P.Post.state c.loop-i.post).held (omega arith) c.loop-i.invariant.sent
