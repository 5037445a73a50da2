use Rattle.std.proofs.Common.{ℕ, ◌∙◌, inl, inr, sym, ap, arith, subst}
use Rattle.std.proofs.lemmas.Bool.{cases_eq}
use Rattle.grid_routes.specs.Labels.{label_of}
use Rattle.grid_routes.specs.Held.{IsAt}
use Rattle.grid_routes.proofs.Shelves.{only-one}
use Rattle.grid_routes.proofs.search.Search.has_label.Goals as goal

pub loop-i-preserved : goal.loop-i-preserved
loop-i-preserved c = λ i p below at is.
    elim (cases_eq i c.loop-i.i) [
      | inl same ↦
          let here = subst (λ (n : ℕ). IsAt c.args.self.now.buckets c.args.bucket n p) same at in
          let one = only-one c.args.self.now.buckets c.args.bucket c.loop-i.i p c.get-p.result c.get-p.ensures.whole c.requires here c.get-p.ensures.here in
          c.if-label.false (c.label.ensures ∙ ap (λ x. label_of c.args.self.now.field.labels x) (sym one) ∙ is)
      | inr other ↦ c.loop-i.invariant i p (omega arith) at is
    ]
