-- Numbers as `u32` reads them, and as `clap`'s parser of them lets them through.
use Rattle.std.proofs.Common.{◌≡◌, ◌<◌, ◌≤◌, ℕ, Bool, true, false, cond, Option, Some, None, Result, Ok, Err, refl, ap, arith}
use Rattle.std.specs.Prelude.{◌^◌, pos, ⊤}
use Rattle.std.specs.Str.Parse.{IsNumeral, ParsesUnsigned, digits_value, without_leading_plus}
use Rattle.clap.specs.Lexer.{without_minus}
use Rattle.clap.specs.Matches.{ReadsOne}
use Rattle.clap.specs.ValueTests.{is_signed_in, is_unsigned_in}
use Rattle.clap.specs.Walk.{Text}
use Rattle.clap.specs.declared.builder.value_parser.ValueParser.TheVariants.{Signed, Unsigned}
use Rattle.clap.proofs.ValueTestLemmas.{accepts-Accepts, Accepts-accepts}
use Rattle.clap.proofs.CallerReads.{signed_reads}
use Rattle.command_words.specs.Reading.{number_of}

abbrev Fits : Text → Type 0
Fits text = IsNumeral 10 (without_leading_plus text) × (digits_value 10 (without_leading_plus text) < 2 ^ 32)

fits_where : (text : Text) → is_unsigned_in 0 4294967295 text ≡ true → Fits text
fits_where text is =
    let accepted = accepts-Accepts false (Unsigned 0 4294967295) text is in
    (accepted.0, omega (arith, accepted.3))

where_fits : (text : Text) → Fits text → is_unsigned_in 0 4294967295 text ≡ true
where_fits text fits = Accepts-accepts false (Unsigned 0 4294967295) text (fits.0, omega (arith, fits.1), omega arith, omega (arith, fits.1))

-- What a reading of a `u32` gives is the number that the text writes.
pub number_read : (E : Type 0) (G : Text → Result ℕ E → Type 0) → ((text : Text) (result : Result ℕ E) → G text result → ParsesUnsigned 32 10 text result)
    → (text : Text) (read : Option ℕ) → ReadsOne G text read → read ≡ number_of text
number_read E G parses text read reads = go (is_unsigned_in 0 4294967295 text) refl read reads
  where
    go : (b : Bool) → is_unsigned_in 0 4294967295 text ≡ b → (read : Option ℕ) → ReadsOne G text read → read ≡ cond b (Some (digits_value 10 (without_leading_plus text))) None
    go true is (Some number) reads = ap Some (parses text (Ok number) reads).1
    go true is None reads = absurd (parses text (Err reads.0) reads.1 (fits_where text is))
    go false is (Some number) reads =
        let fits = where_fits text (parses text (Ok number) reads).0 in
        cc
    go false is None reads = refl

reads_number : (text : Text) → ReadsOne {T = ℕ} {E = ⊤} (ParsesUnsigned 32 10) text (number_of text)
reads_number text = go (is_unsigned_in 0 4294967295 text) refl
  where
    go : (b : Bool) → is_unsigned_in 0 4294967295 text ≡ b → ReadsOne {T = ℕ} {E = ⊤} (ParsesUnsigned 32 10) text (cond b (Some (digits_value 10 (without_leading_plus text))) None)
    go true is = (fits_where text is, refl)
    go false is = (tt, λ fits. let met = where_fits text fits in cc)

-- A text that the parser of `u32` within these bounds lets through writes a number within them.
pub record Written (least most : ℕ) (number : Option ℕ) : Type 0 where
  pub value : ℕ
  pub is : number ≡ Some value
  pub above : least ≤ value
  pub below : value ≤ most

pub let_through :
    (least most : ℕ) (text : Text) → most < 2 ^ 32 → is_signed_in (pos least) (pos most) text ≡ true → Written least most (number_of (without_minus text))
let_through least most text fits passes =
    let read = signed_reads ⊤ (ParsesUnsigned 32 10) 32 least most text (number_of (without_minus text)) (reads_number (without_minus text)) (λ u x g. g) fits
    (accepts-Accepts false (Signed (pos least) (pos most)) text passes) in
    record { value = read.0; is = read.1; above = read.2; below = read.3 }
