-- A file that was not read, among rule files and a map.
use Rattle.std.proofs.Common.{map, option_map}
use Rattle.base.specs.Cause.{Increased}
use Rattle.command_answers.proofs.FilesLemmas.{rules_stop_opaque, map_stop_observable, map_stop_opaque, rose_later}
use Rattle.command_answers.proofs.files.read_files.Goals as goal

pub returns-in-Err-clause-opaque : goal.returns-in-Err-clause-opaque
returns-in-Err-clause-opaque g c =
    rules_stop_opaque (map (λ name. name.now) c.args.names.now) (option_map (λ name. name.now) c.args.map_file) c.in-Err.stop _ _ c.in-Err.ensures.opaque

pub returns-in-Err-read_named-clause-observable : goal.returns-in-Err-read_named-clause-observable
returns-in-Err-read_named-clause-observable g c =
    let d = g.D.Disk.state c.args.disk.now in
    let d1 = g.D.Disk.state c.read_rules.new.disk in
    let d2 = g.D.Disk.state c.read_named.new.disk in
    map_stop_observable (map (λ name. name.now) c.args.names.now) (map (λ bytes. bytes.items) c.in-Ok.rules.items) (option_map (λ name. name.now) c.args.map_file) c.in-Err-read_named.stop
    (Increased d1.faults d2.faults) (Increased d.faults d2.faults) d.files d1.files (rose_later d.faults d1.faults d2.faults c.in-Ok.ensures.later)
    c.in-Ok.ensures.files c.in-Ok.ensures.observable c.in-Err-read_named.ensures.observable

pub returns-in-Err-read_named-clause-opaque : goal.returns-in-Err-read_named-clause-opaque
returns-in-Err-read_named-clause-opaque g c =
    let d = g.D.Disk.state c.args.disk.now in
    let d1 = g.D.Disk.state c.read_rules.new.disk in
    let d2 = g.D.Disk.state c.read_named.new.disk in
    map_stop_opaque (map (λ name. name.now) c.args.names.now) (option_map (λ name. name.now) c.args.map_file) c.in-Err-read_named.stop
    (Increased d1.faults d2.faults) (Increased d.faults d2.faults) d.files d1.files (rose_later d.faults d1.faults d2.faults c.in-Ok.ensures.later)
    c.in-Ok.ensures.files c.in-Err-read_named.ensures.opaque
