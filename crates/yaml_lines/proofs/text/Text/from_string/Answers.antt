use Rattle.std.proofs.Common.{◌≡◌, arith, length, subst, sym}
use Rattle.std.proofs.lemmas.Str.{IsCharBoundary-start, IsCharBoundary-end, IsUtf8-string_bytes}
use Rattle.std.specs.Str.{IsCharBoundary}
use Rattle.std.specs.Prelude.{string_bytes}
use Rattle.yaml_lines.proofs.text.Text.from_string.Goals as goal

pub invariant_of-result : goal.invariant_of-result
invariant_of-result c =
    let held = string_bytes c.args.held in
    let same = (c.in_ok-whole.ensures {u = tt}).ok in
    let long : c.in-Ok.end ≡ length held = omega (arith, c.in-Ok.ensures, c.len.ensures) in (
      omega arith,
      subst (λ bytes. IsCharBoundary bytes 0) (sym same) (IsCharBoundary-start held (IsUtf8-string_bytes c.args.held)),
      subst (λ bytes. IsCharBoundary bytes c.in-Ok.end) (sym same)
          (subst (λ at. IsCharBoundary held at) (sym long) (IsCharBoundary-end held)),
    )
