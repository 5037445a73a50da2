use Rattle.std.proofs.Common.{◌<◌, length, sym, ap, ◌∙◌, arith}
use Rattle.std.specs.Prelude.{List}
use Rattle.rule_traits.specs.declared.kind.Kind.{Kind}
use Rattle.bot_player.specs.Products.{is_product, ProductState}
use Rattle.bot_player.proofs.ListLemmas.{found_from, later_from}
use Rattle.bot_player.proofs.products.Products.search.Goals as goal

pub loop-number-preserved : goal.loop-number-preserved
loop-number-preserved c =
    let p : ProductState = c.args.self.now in
    let within : c.loop-number.number < length p.rules =
    omega (
      arith,
      ap (λ (q : ProductState). length q.rules) c.self.view_is,
      ap (λ (ks : List Kind). length ks) c.kinds.ensures.value,
      c.loop-number-test.true,
    ) in
    sym (later_from (is_product p c.args.builder) (length p.rules) c.loop-number.number within
    (sym c.is_product.ensures ∙ c.if-is_product.false))
    ∙ c.loop-number.invariant

pub returns-then-is_product : goal.returns-then-is_product
returns-then-is_product c =
    let p : ProductState = c.args.self.now in
    let within : c.loop-number.number < length p.rules =
    omega (
      arith,
      ap (λ (q : ProductState). length q.rules) c.self.view_is,
      ap (λ (ks : List Kind). length ks) c.kinds.ensures.value,
      c.loop-number-test.true,
    ) in
    sym (found_from (is_product p c.args.builder) (length p.rules) c.loop-number.number within
    (sym c.is_product.ensures ∙ c.if-is_product.true))
    ∙ c.loop-number.invariant
