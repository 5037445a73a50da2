-- What a cut at the first separator gives.
use Rattle.std.proofs.Common.{◌≡◌, ℕ, ◌<◌, List, Option, Some, None, MatchOption, Bor, arith}
use Rattle.std.proofs.lemmas.Bool.Decides.{nat_tests}
use Rattle.std.proofs.lemmas.Str.Pattern.{IsSplitOnceResult, split_once_first}
use Rattle.rule_values.specs.Parts.{parts_at}

-- The texts that `split_once` gives at a byte are the parts there.
pub cut_parts :
    (c : ℕ) (text : List ℕ) (r : Option (Bor (List ℕ) × Bor (List ℕ))) → IsSplitOnceResult c text r → c < 128 →
    MatchOption r (parts_at c text ≡ None) (λ parts. parts_at c text ≡ Some (parts.0.now, parts.1.now))
unfolding parts_at
cut_parts c text None given ascii = let first = split_once_first c text None given ascii in grind (arith, nat_tests)
cut_parts c text (Some parts) given ascii =
    let first = split_once_first c text (Some parts) given ascii in
    grind (arith, nat_tests)
