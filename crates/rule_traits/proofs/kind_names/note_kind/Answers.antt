use Rattle.std.proofs.Common.{sym, ◌∙◌}
use Rattle.std.proofs.lemmas.Map.Text.{btree_map_updates_str}
use Rattle.rule_traits.specs.Numbered.{number_in}
use Rattle.rule_traits.proofs.KindsLemmas.{name_noted}
use Rattle.rule_traits.proofs.kind_names.note_kind.Goals as goal

pub returns-in_ok-insert : goal.returns-in_ok-insert
returns-in_ok-insert c = λ q.
    let old = c.args.numbers.now in
    let new = c.insert.new.self in
    name_noted (number_in old) (number_in new) c.args.name.now q c.args.number (sym c.contains_key.ensures ∙ c.if-not-contains_key.true)
    (btree_map_updates_str c.args.name.now old new _ c.in_ok-insert.ensures.updates q)
