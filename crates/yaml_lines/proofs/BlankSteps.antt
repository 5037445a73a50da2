-- One blank at the start of a text.
use Rattle.std.proofs.Common.{◌≡◌, ℕ, ◌<◌, true, false, ◌&&◌, List, [], ◌∷◌, drop, ◌==◌, ◌⊎◌, inl}
use Rattle.std.proofs.Common.{inr, refl, sym, ap, ◌∙◌, arith, eqb}
use Rattle.std.proofs.lemmas.Bool.{cases_Bool, cond-true, cond-false, and_parts, and_left}
use Rattle.std.proofs.lemmas.Bool.{and_right, and_cases, eqb-true}
use Rattle.std.proofs.lemmas.Bool.Decides.{nat_tests}
use Rattle.std.proofs.lemmas.Str.{IsCharBoundary-end, IsCharBoundary-start}
use Rattle.std.proofs.lemmas.Str.{IsCharBoundary-after_ascii, IsCharBoundary-past_char}
use lib.Utf8.{encode}
use Rattle.std.specs.Str.{IsUtf8, IsCharBoundary}
use Rattle.yaml_lines.specs.Blanks.{is_blank_byte, begins_191, begins_187_191, blank_len}
use Rattle.yaml_lines.specs.Blanks.{after_blanks, trim_start, only_blanks}

-- A blank byte is one of three.
pub blank_byte_small : (byte : ℕ) → is_blank_byte byte ≡ true → byte < 128
blank_byte_small byte h = grind (arith, nat_tests)

pub begins_191-cons : (xs : List ℕ) → begins_191 xs ≡ true → (r : List ℕ) × (xs ≡ 191 ∷ r)
begins_191-cons [] h = cc
begins_191-cons (x ∷ r) h = (r, ap (λ n. n ∷ r) (eqb-true x 191 h))

pub begins_187_191-cons : (xs : List ℕ) → begins_187_191 xs ≡ true → (r : List ℕ) × (xs ≡ 187 ∷ 191 ∷ r)
begins_187_191-cons [] h = cc
begins_187_191-cons (x ∷ rest) h =
    let p = and_parts (eqb x 187) (begins_191 rest) h in
    let q = begins_191-cons rest p.1 in
    (q.0, ap (λ n. n ∷ rest) (eqb-true x 187 p.0) ∙ ap (λ l. 187 ∷ l) q.1)

-- The text begins with a blank of one byte, with U+FEFF, or with no blank, and what each of the
-- functions makes of it.
pub record OneByte (byte : ℕ) (rest : List ℕ) : Type 0 where
  pub small : byte < 128
  pub len : blank_len (byte ∷ rest) ≡ 1
  pub trimmed : trim_start (byte ∷ rest) ≡ trim_start rest
  pub only : only_blanks [] (byte ∷ rest) ≡ only_blanks [] rest

pub record Mark (byte : ℕ) (rest : List ℕ) : Type 0 where
  pub after : List ℕ
  pub first : byte ≡ 239
  pub next : rest ≡ 187 ∷ 191 ∷ after
  pub len : blank_len (byte ∷ rest) ≡ 3
  pub trimmed : trim_start (byte ∷ rest) ≡ trim_start after
  pub only : only_blanks [] (byte ∷ rest) ≡ only_blanks [] after

pub record NoBlank (byte : ℕ) (rest : List ℕ) : Type 0 where
  pub len : blank_len (byte ∷ rest) ≡ 0
  pub trimmed : trim_start (byte ∷ rest) ≡ byte ∷ rest
  pub only : only_blanks [] (byte ∷ rest) ≡ false

not_mark : (rest : List ℕ) → begins_187_191 rest ≡ false → only_blanks (187 ∷ 191 ∷ []) rest ≡ false
not_mark [] h = refl
not_mark (x ∷ []) h = grind arith
not_mark (x ∷ y ∷ rest) h = elim (and_cases (eqb x 187) (eqb y 191) h) [ inl k ↦ and_left _ _ k | inr k ↦ and_right (eqb x 187) _ (and_left _ _ k) ]

pub front_cases : (byte : ℕ) (rest : List ℕ) → OneByte byte rest ⊎ (Mark byte rest ⊎ NoBlank byte rest)
front_cases byte rest =
    elim (cases_Bool (is_blank_byte byte)) [
      | inl h ↦ inl (record { small = blank_byte_small byte h; len = cond-true _ _ _ h; trimmed = cond-true _ _ _ h; only = cond-true _ _ _ h })
      | inr h ↦
          elim (cases_Bool (byte == 239 && begins_187_191 rest)) [
            | inl k ↦
                let p = and_parts (byte == 239) (begins_187_191 rest) k in
                let q = begins_187_191-cons rest p.1 in
                inr (inl (record {
                  after = q.0;
                  first = eqb-true byte 239 p.0;
                  next = q.1;
                  len = cond-false _ _ _ h ∙ cond-true _ _ _ k;
                  trimmed = cond-false _ _ _ h ∙ cond-true _ _ _ k ∙ ap (λ l. after_blanks 2 l) q.1;
                  only = cond-false _ _ _ h ∙ ap (λ b. b && only_blanks (187 ∷ 191 ∷ []) rest) p.0 ∙ ap (λ l. only_blanks (187 ∷ 191 ∷ []) l) q.1;
                }))
            | inr k ↦
                inr (inr (record {
                  len = cond-false _ _ _ h ∙ cond-false _ _ _ k;
                  trimmed = cond-false _ _ _ h ∙ cond-false _ _ _ k;
                  only = cond-false _ _ _ h ∙ elim (and_cases (byte == 239) (begins_187_191 rest) k) [ inl j ↦ and_left _ _ j | inr j ↦ and_right (byte == 239) _ (not_mark rest j) ];
                }))
          ]
    ]

-- Behind a blank a text may be cut.
pub blank_cut : (text : List ℕ) → IsUtf8 text → IsCharBoundary text (blank_len text)
unfolding encode
blank_cut [] u = IsCharBoundary-end []
blank_cut (byte ∷ rest) u =
    elim (front_cases byte rest) [
      | inl h ↦ rw h.len (IsCharBoundary-after_ascii (byte ∷ rest) 0 u (omega arith) h.small)
      | inr (inl h) ↦ rw h.len (IsCharBoundary-past_char (byte ∷ rest) h.after 0 65279 (omega arith) u (ap (λ n. n ∷ rest) h.first ∙ ap (λ l. 239 ∷ l) h.next))
      | inr (inr h) ↦ rw h.len (IsCharBoundary-start (byte ∷ rest) u)
    ]

-- A text that begins with no blank is trimmed at its start.
pub trim_start-none : (text : List ℕ) → blank_len text ≡ 0 → trim_start text ≡ text
trim_start-none [] h = refl
trim_start-none (byte ∷ rest) h =
    elim (front_cases byte rest) [
      | inl k ↦ absurd (omega (arith, k.len))
      | inr (inl k) ↦ absurd (omega (arith, k.len))
      | inr (inr k) ↦ k.trimmed
    ]

-- One blank less at the start leaves the same text.
pub trim_start-drop : (text : List ℕ) → 0 < blank_len text → trim_start (drop (blank_len text) text) ≡ trim_start text
trim_start-drop [] h = refl
trim_start-drop (byte ∷ rest) h =
    elim (front_cases byte rest) [
      | inl k ↦ rw k.len (sym k.trimmed)
      | inr (inl k) ↦ rw (k.len) (ap (λ l. trim_start (drop 2 l)) k.next ∙ sym k.trimmed)
      | inr (inr k) ↦ absurd (omega (arith, k.len))
    ]

pub ruleset start_steps = (trim_start-none, trim_start-drop, blank_cut)
