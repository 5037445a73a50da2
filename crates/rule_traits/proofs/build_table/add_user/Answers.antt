use Rattle.std.proofs.Common.{ap, ◌∙◌, refl, nat_cmp}
use Rattle.std.proofs.lemmas.Map.Text.{btree_map_updates_str}
use Rattle.std.specs.BTreeMap.{get_by}
use Rattle.std.specs.Cmp.Lexicographic.{slice_cmp}
use Rattle.std.specs.Str.{bytes_eq}
use Rattle.rule_traits.specs.BuildTable.{users_in, users_or_none, with_user}
use Rattle.rule_traits.proofs.BuildTableLemmas.{user_added}
use Rattle.rule_traits.proofs.build_table.add_user.Goals as goal

pub returns : goal.returns
returns c = λ name.
    let old = c.args.users.now in
    let left = c.take_users-numbers.new.users in
    let new = c.insert.new.self in
    ap users_or_none (btree_map_updates_str c.args.queue.now left new _ c.in_ok-insert.ensures.updates name)
    ∙ user_added (users_in old) c.args.queue.now name c.args.number
    (get_by (λ key. slice_cmp nat_cmp name key.now) left) _ (bytes_eq c.args.queue.now name) refl
    (c.in_ok-push_user.ensures ∙ ap (with_user c.args.number) c.take_users-numbers.ensures.taken)
    (c.take_users-numbers.ensures.rest name)
