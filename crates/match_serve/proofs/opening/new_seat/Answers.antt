use Rattle.std.proofs.Common.{refl, ap, arith}
use Rattle.frame_core.specs.Column.{Column}
use Rattle.frame_table.specs.declared.view.View.{View}
use Rattle.match_serve.proofs.SplitLemmas.{opening_feeds, kept_opening, kept_serves, kept_fixed, given_first}
use Rattle.match_serve.proofs.opening.new_seat.Goals as goal

pub returns-clause-opening : goal.returns-clause-opening
returns-clause-opening c =
    let first = c.split-sending.ensures in
    kept_opening _ _ _ _ _ _ c.requires.client (opening_feeds _ _ _ _ c.requires.client c.requires.opening) first.pass first.kept first.other first.given c.requires.opening

pub returns-clause-seat : goal.returns-clause-seat
returns-clause-seat c =
    let first = c.split-sending.ensures in
    let next = c.split-reading.ensures in
    let told = c.client_invite.ensures in
    let client = c.requires.client in
    let sends = given_first _ _ _ _ _ _ client (opening_feeds _ _ _ _ client c.requires.opening) first.pass first.kept first.other first.given in
    let reads = given_first _ _ _ _ _ _ client sends next.pass next.kept next.other next.given in
    rw told (record {
      client = client;
      clients_are = refl;
      reads = reads.is;
      may = record { planned = reads.is.free _ client; feeds = reads.feeds_it };
      unplayed = ap (λ (k : Column). k.plays) (reads.unknown _);
      fixed_none = reads.fixed_none;
      sends = kept_serves _ _ _ _ _ _ client sends next.pass next.kept next.other next.given;
      sender_fixed_none = kept_fixed _ _ _ _ _ _ client sends next.pass next.kept next.other next.given;
      feeder = c.requires.unfed;
      unpushed = c.requires.unpushed;
      none_taken = refl;
    })

pub returns-clause-shares : goal.returns-clause-shares
returns-clause-shares c =
    let mine = ap (λ (v : View). v.share) c.split-sending.ensures.kept in
    let theirs = ap (λ (v : View). v.share) c.split-sending.ensures.given in
    let kept = ap (λ (v : View). v.share) c.split-reading.ensures.kept in
    let given = ap (λ (v : View). v.share) c.split-reading.ensures.given in
    omega arith

pub returns-clause-half : goal.returns-clause-half
returns-clause-half c =
    let mine = ap (λ (v : View). v.share) c.split-sending.ensures.kept in
    omega arith

pub split-reading-requires-clause-share : goal.split-reading-requires-clause-share
split-reading-requires-clause-share c =
    let theirs = ap (λ (v : View). v.share) c.split-sending.ensures.given in
    let four = c.requires.share in
    omega arith
