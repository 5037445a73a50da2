use Rattle.std.proofs.Common.{◌≡◌, ℕ, length, Some, subst, sym, ap, ◌∙◌, arith}
use Rattle.std.specs.Prelude.{List}
use Rattle.std.proofs.lemmas.Option.{slice_get-get_or}
use Rattle.rule_traits.specs.declared.kind.Kind.{Kind}
use Rattle.rule_traits.specs.Rules.{kind_at}
use Rattle.bot_player.proofs.ProductLemmas.{AreReadyBelow, all_ready, none_ready, one_more_ready}
use Rattle.bot_player.proofs.products.ready_products.Goals as goal

pub loop-number-init : goal.loop-number-init
loop-number-init c =
    rw c.none-ready.ensures (none_ready c.args.rules.now c.args.owned.now c.args.cash)

pub loop-number-preserved : goal.loop-number-preserved
loop-number-preserved c =
    let i = c.loop-number.number in
    let product : Kind = c.product-item.result in
    let kinds : List Kind = c.kinds-product-items.result.now in
    let found : kind_at c.args.rules.now i ≡ Some product =
    subst (λ (ks : List Kind). kind_at ks i ≡ Some product) c.kinds-product-items.ensures.value
    (slice_get-get_or kinds i product c.loop-number-test.true ∙ ap (λ (k : Kind). Some k) (sym c.product-item.is)) in
    rw (c.set_if.ensures, c.is_ready.ensures)
    (one_more_ready c.args.rules.now c.args.owned.now c.args.cash i c.loop-number.ready product found
    c.loop-number.invariant)

pub returns-clause-ready : goal.returns-clause-ready
returns-clause-ready c =
    let all : c.loop-number.number ≡ length c.args.rules.now =
    omega (arith, ap (λ (ks : List Kind). length ks) c.kinds-product-items.ensures.value) in
    all_ready c.args.rules.now c.args.owned.now c.args.cash c.loop-number.ready
    c.kinds-product-items.ensures.valid.limit
    (subst (λ (n : ℕ). AreReadyBelow c.args.rules.now c.args.owned.now c.args.cash n c.loop-number.ready)
    all c.loop-number.invariant)
