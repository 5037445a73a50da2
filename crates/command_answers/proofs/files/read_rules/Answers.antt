-- Files that were read, one after the other.
use Rattle.std.proofs.Common.{rules, ◌∷◌, [], map, refl, sym, ap, subst, ◌∙◌, arith}
use Rattle.std.proofs.lemmas.List.{drop_all, map-append}
use Rattle.command_answers.specs.WantedFiles.{rule_file}
use Rattle.command_answers.proofs.ContentsLemmas.{SoFar, all_given, next_read}
use Rattle.command_answers.proofs.files.read_rules.Goals as goal

pub loop-name-preserved : goal.loop-name-preserved
loop-name-preserved g c =
    let so_far = next_read ((g.D.Disk.state c.args.disk.now).files) ((g.D.Disk.state c.loop-name.disk).files) c.args.names.now c.loop-name.name-index _ _ _ _ c.in_ok-bytes.bytes.items
    c.loop-name.invariant.2 c.loop-name-test.true refl c.loop-name.invariant.0 c.in_ok-bytes.ensures.observable c.in_ok-bytes.ensures.opaque in
    (subst (SoFar _ _ _) (sym (ap (map (λ bytes. bytes.items)) c.in_ok-push.ensures.items ∙ map-append (λ bytes. bytes.items) c.loop-name.contents.items (c.in_ok-bytes.bytes ∷ []))) so_far, search rules, search rules, search rules)

pub returns-clause-opaque : goal.returns-clause-opaque
returns-clause-opaque g c =
    let all = map rule_file (map (λ name. name.now) c.args.names.now) in
    all_given ((g.D.Disk.state c.args.disk.now).files) all (map (λ bytes. bytes.items) c.loop-name.contents.items)
    (subst (λ left. SoFar ((g.D.Disk.state c.args.disk.now).files) all (map rule_file (map (λ name. name.now) left)) (map (λ bytes. bytes.items) c.loop-name.contents.items))
    (drop_all c.loop-name.name-index c.args.names.now (omega arith)) c.loop-name.invariant.0)
