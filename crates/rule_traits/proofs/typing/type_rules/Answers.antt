use Rattle.rule_traits.proofs.TypedLemmas.{described_told, keyed_told, valid_told}
use Rattle.rule_traits.proofs.typing.type_rules.Goals as goal

pub of-requires-2 : goal.of-requires-2
of-requires-2 c = valid_told c.args.forest.now _ _ _ c.in_ok-names.ensures c.in_ok-kinds.ensures.read

pub returns-clause-kinds : goal.returns-clause-kinds
returns-clause-kinds c = keyed_told c.args.forest.now _ _ _ _ c.in_ok-of.ensures c.in_ok-names.ensures c.in_ok-kinds.ensures.read

pub returns-clause-described : goal.returns-clause-described
returns-clause-described c = described_told c.args.forest.now _ _ _ _ c.in_ok-of.ensures c.in_ok-names.ensures c.in_ok-kinds.ensures.read
