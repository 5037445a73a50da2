use Rattle.std.proofs.Common.{List, drop, sym, ap, ◌∙◌}
use Rattle.std.proofs.lemmas.List.{drop-drop}
use Rattle.shroud.specs.Viewers.{Lists}
use Rattle.shroud.specs.declared.viewer.Viewer.{Viewer}
use Rattle.shroud.proofs.viewers.Viewers.pass.Goals as goal

abbrev lists : List Viewer → List Viewer → Lists
lists left fresh = record { left = left; fresh = fresh }

pub returns : goal.returns
returns c =
    let v = c.self.inside in
    ap (λ (left : List Viewer). lists left v.fresh.items)
    (sym (drop-drop 1 v.passed v.kept.items))
    ∙ ap (λ (state : Lists). lists (drop 1 state.left) state.fresh) c.self.view_is
