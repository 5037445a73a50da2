use Rattle.std.proofs.Common.{◌≡◌, ◌+◌, ◌-◌, ◌≤◌, ◌^◌, arith, subst}
use Rattle.match_run.proofs.Splitting.{power_more, others_feed, unused_long, unused_fed, unused_clients}
use Rattle.match_run.proofs.running.begin.Goals as goal

pub split_passes-requires-2-clause-share : goal.split_passes-requires-2-clause-share
split_passes-requires-2-clause-share c =
    let few = c.requires in
    let share = c.in_ok-table.ensures.share in
    let k = c.clients-clients.result + c.args.count - c.clients-clients.result in
    let all : 22 - k + (40 + k) ≡ 62 = omega arith in
    let within : 2 ^ (40 + k) ≤ 2 ^ 62 = subst (λ e. 2 ^ (40 + k) ≤ 2 ^ e) all (power_more (40 + k) (22 - k)) in
    c.in_ok-feeding.ensures.least 40 (omega arith)

pub returns-clause-fed : goal.returns-clause-fed
returns-clause-fed c =
    let made = c.in_ok-table.ensures in
    let first = c.clients-clients.ensures.value in
    let long = unused_long _ _ _ _ made.plan made.pass in
    unused_fed _ _ _ _ made.plan c.join_unused.ensures.unused
    (λ d past below.
    let rights = made.rights in
    let left = c.in_ok-feeding.ensures.rights in
    c.join_unused.ensures.feeds d below (others_feed c.split_passes.new.pass c.in_ok-feeding.feeding.items d (omega arith) (c.in_ok-feeding.ensures.feeds d (made.feeds d past (omega arith)))))

pub returns-clause-passes : goal.returns-clause-passes
returns-clause-passes c =
    let made = c.in_ok-table.ensures in
    let first = c.clients-clients.ensures.value in
    let count = c.in_ok-passes.ensures.count in
    unused_clients _ _ _ 0 _ made.plan c.in_ok-passes.ensures.unused.1 c.in_ok-passes.ensures.clients (omega arith)
