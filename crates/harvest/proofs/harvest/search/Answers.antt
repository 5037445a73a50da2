use Rattle.std.proofs.Common.{◌≡◌, true, false, Some, sym, ◌∙◌, arith}
use Rattle.std.specs.Prelude.{nat_lt}
use Rattle.std.proofs.lemmas.Bool.Decides.{nat_tests}
use Rattle.game_model.specs.Grid.{IsOn}
use Rattle.motion.proofs.ChangeLemmas.{found_on}
use Rattle.harvest.proofs.StepCases.{search_turns, search_delivers, search_ends}
use Rattle.harvest.proofs.harvest.search.Goals as goal

pub nearest_ore-requires : goal.nearest_ore-requires
nearest_ore-requires c =
    let on : IsOn c.args.t.now.width c.args.t.now.height c.in-Some.a.now.cell = found_on c.args.t.now c.args.id c.in-Some.a.now c.len-on_map.ensures.list c.in-Some.ensures in
    rw (c.requires.width, c.requires.height) on

pub returns-then-load-gt0 : goal.returns-then-load-gt0
returns-then-load-gt0 c cash a found =
    let same : Some a ≡ Some c.in-Some.a.now = sym found ∙ sym c.in-Some.ensures in
    let is : a ≡ c.in-Some.a.now = cc in
    let some : nat_lt 0 c.in-Some.a.now.body.load ≡ true = grind (arith, nat_tests, c.if-load-gt0.true) in
    rw is (search_delivers c.args.t.now c.set_head.new.t c.args.ore.now cash c.args.id c.in-Some.a.now (sym c.in-Some.ensures) c.args.cell c.in_default-nearest_ore.ensures.value some c.set_head.ensures)

pub returns-else-load-gt0 : goal.returns-else-load-gt0
returns-else-load-gt0 c cash a found =
    let same : Some a ≡ Some c.in-Some.a.now = sym found ∙ sym c.in-Some.ensures in
    let is : a ≡ c.in-Some.a.now = cc in
    let none : nat_lt 0 c.in-Some.a.now.body.load ≡ false = grind (arith, nat_tests, c.if-load-gt0.false) in
    rw is (search_ends c.args.t.now c.pop_head.new.t c.args.ore.now cash c.args.id c.in-Some.a.now (sym c.in-Some.ensures) c.args.cell c.in_default-nearest_ore.ensures.value none c.pop_head.ensures)

pub returns : goal.returns
returns c cash a found =
    let same : Some a ≡ Some c.in-Some.a.now = sym found ∙ sym c.in-Some.ensures in
    let is : a ≡ c.in-Some.a.now = cc in
    rw is (search_turns c.args.t.now c.set_head-2.new.t c.args.ore.now cash c.args.id c.in-Some.a.now (sym c.in-Some.ensures) c.args.cell c.in-Some-nearest_ore.nearest c.in-Some-nearest_ore.ensures.value c.set_head-2.ensures)
