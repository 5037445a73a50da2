use Rattle.std.proofs.Common.{◌≡◌, drop}
use Rattle.std.specs.List.{position_from}
use Rattle.std.specs.Str.{bytes_eq}
use Rattle.rule_traits.specs.declared.kind.Kind.{Kind}
use Rattle.rule_traits.specs.Rules.{number_named}
use Rattle.rule_traits.proofs.rules.Rules.number.Given as goal

abbrev pub invariant-loop-number : goal.invariant-loop-number
invariant-loop-number l =
    position_from (λ (kind : Kind). bytes_eq kind.name l.name) l.number (drop l.number l.kind-items) ≡ number_named l.self l.name
