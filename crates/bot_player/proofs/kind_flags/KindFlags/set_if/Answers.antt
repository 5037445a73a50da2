use Rattle.std.proofs.Common.{rules, ◌≡◌, refl, subst, Bool, List, length, ap, ◌∙◌, arith}
use Rattle.std.specs.Prelude.{true, slice_set}
use Rattle.bot_player.specs.KindFlags.{with_flag}
use Rattle.bot_player.proofs.WordLemmas.{set_in, unset_in}
use Rattle.bot_player.proofs.kind_flags.KindFlags.set_if.Goals as goal
use Rattle.bot_player.proofs.kind_flags.KindFlags.set_if.Goals.{else-on-via-then-on+else-kind-lt-MAX_KINDS, else-on-via-else-on}

pub returns-then-kind-lt-MAX_KINDS : goal.returns-then-kind-lt-MAX_KINDS
returns-then-kind-lt-MAX_KINDS c =
    let size : length c.self.inside.words ≡ 16 = search rules in
    rw c.if-on.true
    (set_in c.self.inside.words c.args.kind c.from.result (omega (arith, c.if-kind-lt-MAX_KINDS.true))
    (omega (arith, c.from.ensures)) size
    ∙ ap (λ (flags : List Bool). slice_set flags c.args.kind true) c.self.view_is)

pub returns-else-on : goal.returns-else-on
returns-else-on c = elim c.else-on.branch [
  | else-on-via-then-on+else-kind-lt-MAX_KINDS w ↦
      subst (λ (flags : List Bool). flags ≡ with_flag flags c.args.kind c.args.on) c.self.view_is
      (unset_in c.self.inside.words c.args.kind c.args.on (omega (arith, w.if-kind-lt-MAX_KINDS.false)))
  | else-on-via-else-on w ↦ rw w.if-on.false refl
]
