use Rattle.std.proofs.Common.{◌≡◌, ◌∙◌, ◌<◌, ◌-◌, length, take, ap, arith}
use Rattle.yaml_lines.specs.Blanks.{trim_end, last_blank_len}
use Rattle.yaml_lines.proofs.BlankEnds.{trim_end-take}
use Rattle.yaml_lines.proofs.blanks.trim_end.Goals as goal

pub loop-rest-preserved : goal.loop-rest-preserved
loop-rest-preserved c =
    let rest = c.loop-rest.rest.now in
    let len = c.last_blank_len-len.ensures ∙ ap last_blank_len c.as_bytes.ensures.value in
    let some : 0 < last_blank_len rest = omega (arith, len, c.if-len-eq0.false) in
    let upto : length rest - c.last_blank_len-len.result - 0 ≡ length rest - last_blank_len rest = omega (arith, len) in (
      c.range-rest.utf8,
      ap trim_end c.range-rest.ensures.value ∙ ap (λ i. trim_end (take i rest)) upto ∙ trim_end-take rest some ∙ c.loop-rest.invariant.1,
    )
