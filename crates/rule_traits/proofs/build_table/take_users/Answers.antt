use Rattle.std.proofs.Common.{ap, ◌∙◌, None, nat_cmp}
use Rattle.std.proofs.lemmas.Map.Text.{btree_map_updates_str}
use Rattle.std.specs.BTreeMap.{get_by}
use Rattle.std.specs.Cmp.Lexicographic.{slice_cmp}
use Rattle.std.specs.Str.{bytes_eq}
use Rattle.rule_traits.specs.BuildTable.{users_or_none}
use Rattle.rule_traits.proofs.BuildTableLemmas.{users_taken}
use Rattle.rule_traits.proofs.build_table.take_users.Goals as goal

pub returns-in-Some-clause-rest : goal.returns-in-Some-clause-rest
returns-in-Some-clause-rest c = λ name.
    let old = c.args.users.now in
    let new = c.remove.new.self in
    ap users_or_none (btree_map_updates_str c.args.queue.now old new None c.remove.ensures.updates name)
    ∙ users_taken (bytes_eq c.args.queue.now name) (get_by (λ key. slice_cmp nat_cmp name key.now) old)
