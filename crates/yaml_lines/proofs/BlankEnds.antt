-- The blanks at the end of a text.
use Rattle.std.proofs.Common.{◌≡◌, ℕ, ◌+◌, ◌-◌, ◌<◌, ◌≤◌, Bool, true, false, ◌&&◌, cond, List, []}
use Rattle.std.proofs.Common.{◌∷◌, ◌++◌, length, drop, take, ◌⊎◌, inl, inr, refl, sym, ap, ◌∙◌}
use Rattle.std.proofs.Common.{arith, eqb, ltb, leb, get_or}
use Rattle.std.proofs.lemmas.Bool.{cases_Bool, cond-true, cond-false, and_parts, and_right, or_from}
use Rattle.std.proofs.lemmas.Bool.{or_parts, or_left, or_right, eqb-true, leb-true, ltb-true}
use Rattle.std.proofs.lemmas.Bool.{le-leb, lt-ltb}
use Rattle.std.proofs.lemmas.Bool.Decides.{nat_tests}
use Rattle.std.proofs.lemmas.List.{take-append-drop, drop_more, drop_all}
use Rattle.std.proofs.lemmas.Str.{IsCharBoundary-end, IsCharBoundary-before_ascii}
use Rattle.std.specs.Str.{IsUtf8, IsCharBoundary}
use Rattle.yaml_lines.specs.Blanks.{is_blank_byte, only_blanks, is_blank_text, trim_end, ends_blank}
use Rattle.yaml_lines.specs.Blanks.{last_blank_len}
use Rattle.yaml_lines.proofs.BlankSteps.{blank_byte_small}

-- A tail that is not a rest of nothing but blanks, nor of a blank that has begun.
pub record NeverBlank (tail : List ℕ) : Type 0 where
  pub whole : only_blanks [] tail ≡ false
  pub mark : only_blanks (187 ∷ 191 ∷ []) tail ≡ false
  pub last : only_blanks (191 ∷ []) tail ≡ false

never_blank-cons : (byte : ℕ) (tail : List ℕ) → NeverBlank tail → NeverBlank (byte ∷ tail)
never_blank-cons byte tail h = record {
  whole = elim (cases_Bool (is_blank_byte byte)) [ inl k ↦ cond-true _ _ _ k ∙ h.whole | inr k ↦ cond-false _ _ _ k ∙ and_right (eqb byte 239) _ h.mark ];
  mark = and_right (eqb byte 187) _ h.last;
  last = and_right (eqb byte 191) _ h.whole;
}

pub never_blank-append : (front tail : List ℕ) → NeverBlank tail → NeverBlank (front ++ tail)
never_blank-append [] tail h = h
never_blank-append (byte ∷ front) tail h = never_blank-cons byte (front ++ tail) (never_blank-append front tail h)

pub ends_blank-append : (front tail : List ℕ) → NeverBlank tail → ends_blank tail ≡ false → ends_blank (front ++ tail) ≡ false
ends_blank-append [] tail h e = e
ends_blank-append (byte ∷ front) tail h e =
    or_from _ _ (never_blank-append (byte ∷ front) tail h).whole (ends_blank-append front tail h e)

-- One byte that is no blank, two, and three that are not U+FEFF.
one_byte : (c : ℕ) → is_blank_byte c ≡ false → only_blanks [] (c ∷ []) ≡ false
one_byte c h = cond-false _ _ _ h ∙ and_right (eqb c 239) _ refl

two_bytes : (b c : ℕ) → is_blank_byte c ≡ false → only_blanks [] (b ∷ c ∷ []) ≡ false
two_bytes b c h = elim (cases_Bool (is_blank_byte b)) [
  | inl k ↦ cond-true _ _ _ k ∙ one_byte c h
  | inr k ↦ cond-false _ _ _ k ∙ and_right (eqb b 239) _ (and_right (eqb c 187) _ refl)
]

and_true : (x : Bool) → (x && true) ≡ x
and_true true = refl
and_true false = refl

three_bytes : (a b c : ℕ) → is_blank_byte c ≡ false → (eqb a 239 && (eqb b 187 && eqb c 191)) ≡ false → only_blanks [] (a ∷ b ∷ c ∷ []) ≡ false
three_bytes a b c h e = elim (cases_Bool (is_blank_byte a)) [
  | inl k ↦ cond-true _ _ _ k ∙ two_bytes b c h
  | inr k ↦ cond-false _ _ _ k ∙ ap (λ t. eqb a 239 && (eqb b 187 && t)) (and_true (eqb c 191)) ∙ e
]

never_blank-three : (a b c : ℕ) → is_blank_byte c ≡ false → (eqb a 239 && (eqb b 187 && eqb c 191)) ≡ false → NeverBlank (a ∷ b ∷ c ∷ [])
never_blank-three a b c h e = record {
  whole = three_bytes a b c h e;
  mark = and_right (eqb a 187) _ (and_right (eqb b 191) _ (one_byte c h));
  last = and_right (eqb a 191) _ (two_bytes b c h);
}

ends_blank-three : (a b c : ℕ) → is_blank_byte c ≡ false → (eqb a 239 && (eqb b 187 && eqb c 191)) ≡ false → ends_blank (a ∷ b ∷ c ∷ []) ≡ false
ends_blank-three a b c h e = or_from _ _ (three_bytes a b c h e) (or_from _ _ (two_bytes b c h) (or_from _ _ (one_byte c h) refl))

-- The last three bytes of a text that has three.
last_three : (text : List ℕ) (k : ℕ) → length text ≡ k + 3 → text ≡ take k text ++ (get_or text k 0 ∷ get_or text (k + 1) 0 ∷ get_or text (k + 2) 0 ∷ [])
last_three text k h =
    sym (take-append-drop k text)
    ∙ ap (λ l. take k text ++ l)
    (drop_more text k 0 (omega arith)
    ∙ ap (λ l. get_or text k 0 ∷ l)
    (drop_more text (k + 1) 0 (omega arith)
    ∙ ap (λ l. get_or text (k + 1) 0 ∷ l)
    (ap (λ i. drop i text) (let e : k + 1 + 1 ≡ k + 2 = omega arith in e)
    ∙ drop_more text (k + 2) 0 (omega arith)
    ∙ ap (λ l. get_or text (k + 2) 0 ∷ l) (drop_all (k + 2 + 1) text (omega arith)))))

-- The last byte of a text that isn't empty.
pub last_one : (text : List ℕ) (k : ℕ) → length text ≡ k + 1 → text ≡ take k text ++ (get_or text k 0 ∷ [])
last_one text k h =
    sym (take-append-drop k text)
    ∙ ap (λ l. take k text ++ l) (drop_more text k 0 (omega arith) ∙ ap (λ l. get_or text k 0 ∷ l) (drop_all (k + 1) text (omega arith)))

-- A blank: nothing but blanks, and no end of a blank that has begun.
record BlankTail (tail : List ℕ) : Type 0 where
  whole : only_blanks [] tail ≡ true
  mark : only_blanks (187 ∷ 191 ∷ []) tail ≡ false
  last : only_blanks (191 ∷ []) tail ≡ false

record SameBlanks (text longer : List ℕ) : Type 0 where
  whole : only_blanks [] longer ≡ only_blanks [] text
  mark : only_blanks (187 ∷ 191 ∷ []) longer ≡ only_blanks (187 ∷ 191 ∷ []) text
  last : only_blanks (191 ∷ []) longer ≡ only_blanks (191 ∷ []) text

same_blanks : (text tail : List ℕ) → BlankTail tail → SameBlanks text (text ++ tail)
same_blanks [] tail h = record { whole = h.whole; mark = h.mark; last = h.last }
same_blanks (byte ∷ text) tail h =
    let e = same_blanks text tail h in
    record {
      whole = ap (λ x. cond (is_blank_byte byte) x (eqb byte 239 && only_blanks (187 ∷ 191 ∷ []) (text ++ tail))) e.whole
          ∙ ap (λ x. cond (is_blank_byte byte) (only_blanks [] text) (eqb byte 239 && x)) e.mark;
      mark = ap (λ x. eqb byte 187 && x) e.last;
      last = ap (λ x. eqb byte 191 && x) e.whole;
    }

-- One more blank at the end: the text without its last blanks stays.
trim_end-append : (text tail : List ℕ) → BlankTail tail → trim_end tail ≡ [] → trim_end (text ++ tail) ≡ trim_end text
trim_end-append [] tail h e = e
trim_end-append (byte ∷ text) tail h e =
    ap (λ b. cond b [] (byte ∷ trim_end (text ++ tail))) (same_blanks (byte ∷ text) tail h).whole
    ∙ ap (λ l. cond (is_blank_text (byte ∷ text)) [] (byte ∷ l)) (trim_end-append text tail h e)

ends_blank-after : (text tail : List ℕ) → ends_blank tail ≡ true → ends_blank (text ++ tail) ≡ true
ends_blank-after [] tail h = h
ends_blank-after (byte ∷ text) tail h = or_right _ _ (ends_blank-after text tail h)

-- A text that ends with no blank is trimmed at its end.
pub trim_end-none : (text : List ℕ) → ends_blank text ≡ false → trim_end text ≡ text
trim_end-none [] h = refl
trim_end-none (byte ∷ rest) h =
    let p = or_parts (is_blank_text (byte ∷ rest)) (ends_blank rest) h in
    cond-false _ _ _ p.0 ∙ ap (λ l. byte ∷ l) (trim_end-none rest p.1)

tail_of_byte : (b : ℕ) → is_blank_byte b ≡ true → BlankTail (b ∷ [])
tail_of_byte b h = record { whole = cond-true _ _ _ h; mark = and_right (eqb b 187) _ refl; last = grind (arith, nat_tests) }

tail_of_mark : BlankTail (239 ∷ 187 ∷ 191 ∷ [])
tail_of_mark = record { whole = refl; mark = refl; last = refl }

-- What the length of the last blank tells of the text.
pub record NoLastBlank (text : List ℕ) : Type 0 where
  pub len : last_blank_len text ≡ 0
  pub ends : ends_blank text ≡ false

pub record LastBlank (text : List ℕ) : Type 0 where
  pub some : 0 < last_blank_len text
  pub within : last_blank_len text ≤ length text
  pub ends : ends_blank text ≡ true
  pub trimmed : trim_end (take (length text - last_blank_len text) text) ≡ trim_end text
  pub cut : IsCharBoundary text (length text - last_blank_len text)

abbrev tests_byte : List ℕ → Bool
tests_byte text = ltb 0 (length text) && is_blank_byte (get_or text (length text - 1) 0)

abbrev tests_mark : List ℕ → Bool
tests_mark text =
    leb 3 (length text) && (eqb (get_or text (length text - 3) 0) 239 && (eqb (get_or text (length text - 2) 0) 187 && eqb (get_or text (length text - 1) 0) 191))

with_byte : (text : List ℕ) (k : ℕ) → length text ≡ k + 1 → is_blank_byte (get_or text k 0) ≡ true → last_blank_len text ≡ 1 → LastBlank text
with_byte text k n b e =
    let c = get_or text k 0 in
    let t : BlankTail (c ∷ []) = tail_of_byte c b in
    let split = last_one text k n in
    let at : length text - last_blank_len text ≡ k = omega arith in
    record {
      some = omega arith;
      within = omega arith;
      ends = ap ends_blank split ∙ ends_blank-after (take k text) (c ∷ []) (or_left _ _ t.whole);
      trimmed = ap (λ i. trim_end (take i text)) at ∙ sym (ap trim_end split ∙ trim_end-append (take k text) (c ∷ []) t (cond-true _ _ _ t.whole));
      cut = rw at (IsCharBoundary-before_ascii text k (omega arith) (blank_byte_small c b));
    }

with_mark : (text : List ℕ) (k : ℕ) → length text ≡ k + 3 → get_or text k 0 ≡ 239 → get_or text (k + 1) 0 ≡ 187 → get_or text (k + 2) 0 ≡ 191 → last_blank_len text ≡ 3 → LastBlank text
with_mark text k n a b c e =
    let split = last_three text k n ∙ ap (λ l. take k text ++ l) (ap (λ x. x ∷ get_or text (k + 1) 0 ∷ get_or text (k + 2) 0 ∷ []) a ∙ ap (λ x. 239 ∷ x ∷ get_or text (k + 2) 0 ∷ []) b ∙ ap (λ x. 239 ∷ 187 ∷ x ∷ []) c) in
    let at : length text - last_blank_len text ≡ k = omega arith in
    record {
      some = omega arith;
      within = omega arith;
      ends = ap ends_blank split ∙ ends_blank-after (take k text) (239 ∷ 187 ∷ 191 ∷ []) refl;
      trimmed = ap (λ i. trim_end (take i text)) at ∙ sym (ap trim_end split ∙ trim_end-append (take k text) (239 ∷ 187 ∷ 191 ∷ []) tail_of_mark refl);
      cut = rw at (omega arith, λ _ _. omega (arith, a));
    }

pub and_false_right : (x y : Bool) → x ≡ true → (x && y) ≡ false → y ≡ false
and_false_right true y e h = h
and_false_right false y e h = cc

no_blank-three : (text : List ℕ) (k : ℕ) → length text ≡ k + 3 → tests_byte text ≡ false → tests_mark text ≡ false → ends_blank text ≡ false
no_blank-three text k n f g =
    let e3 : length text - 3 ≡ k = omega arith in
    let e2 : length text - 2 ≡ k + 1 = omega arith in
    let e1 : length text - 1 ≡ k + 2 = omega arith in
    let some : ltb 0 (length text) ≡ true = lt-ltb 0 (length text) (omega arith) in
    let three : leb 3 (length text) ≡ true = le-leb 3 (length text) (omega arith) in
    let nb : is_blank_byte (get_or text (k + 2) 0) ≡ false = ap (λ i. is_blank_byte (get_or text i 0)) (sym e1) ∙ and_false_right _ _ some f in
    let nm : (eqb (get_or text k 0) 239 && (eqb (get_or text (k + 1) 0) 187 && eqb (get_or text (k + 2) 0) 191)) ≡ false =
    ap (λ i. eqb (get_or text i 0) 239 && (eqb (get_or text (k + 1) 0) 187 && eqb (get_or text (k + 2) 0) 191)) (sym e3)
    ∙ ap (λ i. eqb (get_or text (length text - 3) 0) 239 && (eqb (get_or text i 0) 187 && eqb (get_or text (k + 2) 0) 191)) (sym e2)
    ∙ ap (λ i. eqb (get_or text (length text - 3) 0) 239 && (eqb (get_or text (length text - 2) 0) 187 && eqb (get_or text i 0) 191)) (sym e1)
    ∙ and_false_right _ _ three g in
    ap ends_blank (last_three text k n)
    ∙ ends_blank-append (take k text) _
    (never_blank-three (get_or text k 0) (get_or text (k + 1) 0) (get_or text (k + 2) 0) nb nm)
    (ends_blank-three (get_or text k 0) (get_or text (k + 1) 0) (get_or text (k + 2) 0) nb nm)

no_blank : (text : List ℕ) → tests_byte text ≡ false → tests_mark text ≡ false → ends_blank text ≡ false
no_blank [] f g = refl
no_blank (c ∷ []) f g = or_from _ _ (one_byte c f) refl
no_blank (b ∷ c ∷ []) f g = or_from _ _ (two_bytes b c f) (or_from _ _ (one_byte c f) refl)
no_blank (x ∷ y ∷ z ∷ rest) f g = no_blank-three (x ∷ y ∷ z ∷ rest) (length rest) (omega arith) f g

last_blank_len_is : (text : List ℕ) → last_blank_len text ≡ cond (tests_byte text) 1 (cond (tests_mark text) 3 0)
unfolding last_blank_len
last_blank_len_is text = refl

byte_case : (text : List ℕ) → tests_byte text ≡ true → LastBlank text
byte_case text h =
    let p = and_parts (ltb 0 (length text)) (is_blank_byte (get_or text (length text - 1) 0)) h in
    let n : 0 < length text = ltb-true 0 (length text) p.0 in
    with_byte text (length text - 1) (omega arith) p.1 (last_blank_len_is text ∙ cond-true _ _ _ h)

mark_case : (text : List ℕ) → tests_byte text ≡ false → tests_mark text ≡ true → LastBlank text
mark_case text f h =
    let k = length text - 3 in
    let p = and_parts (leb 3 (length text)) _ h in
    let n : 3 ≤ length text = leb-true 3 (length text) p.0 in
    let q = and_parts (eqb (get_or text k 0) 239) _ p.1 in
    let r = and_parts (eqb (get_or text (length text - 2) 0) 187) _ q.1 in
    let e2 : k + 1 ≡ length text - 2 = omega arith in
    let e1 : k + 2 ≡ length text - 1 = omega arith in
    with_mark text k (omega arith) (eqb-true _ 239 q.0)
    (ap (λ i. get_or text i 0) e2 ∙ eqb-true _ 187 r.0)
    (ap (λ i. get_or text i 0) e1 ∙ eqb-true _ 191 r.1)
    (last_blank_len_is text ∙ cond-false _ _ _ f ∙ cond-true _ _ _ h)

pub last_blank_cases : (text : List ℕ) → NoLastBlank text ⊎ LastBlank text
last_blank_cases text =
    elim (cases_Bool (tests_byte text)) [
      | inl h ↦ inr (byte_case text h)
      | inr f ↦ elim (cases_Bool (tests_mark text)) [
        | inl h ↦ inr (mark_case text f h)
        | inr g ↦ inl (record { len = last_blank_len_is text ∙ cond-false _ _ _ f ∙ cond-false _ _ _ g; ends = no_blank text f g })
      ]
    ]

-- The cases as facts of their own.
pub ends_blank_is : (text : List ℕ) → ltb 0 (last_blank_len text) ≡ ends_blank text
ends_blank_is text = elim (last_blank_cases text) [ inl h ↦ ap (λ n. ltb 0 n) h.len ∙ sym h.ends | inr h ↦ lt-ltb _ _ h.some ∙ sym h.ends ]

pub trim_end_at_none : (text : List ℕ) → last_blank_len text ≡ 0 → trim_end text ≡ text
trim_end_at_none text e = elim (last_blank_cases text) [ inl h ↦ trim_end-none text h.ends | inr h ↦ absurd (omega (arith, h.some)) ]

pub trim_end-take : (text : List ℕ) → 0 < last_blank_len text → trim_end (take (length text - last_blank_len text) text) ≡ trim_end text
trim_end-take text e = elim (last_blank_cases text) [ inl h ↦ absurd (omega (arith, h.len)) | inr h ↦ h.trimmed ]

pub last_blank_len_within : (text : List ℕ) → last_blank_len text ≤ length text
last_blank_len_within text = elim (last_blank_cases text) [ inl h ↦ omega (arith, h.len) | inr h ↦ h.within ]

pub last_blank_cut : (text : List ℕ) → IsUtf8 text → IsCharBoundary text (length text - last_blank_len text)
last_blank_cut text u =
    elim (last_blank_cases text) [
      | inl h ↦ let e : length text - last_blank_len text ≡ length text = omega (arith, h.len) in rw e (IsCharBoundary-end text)
      | inr h ↦ h.cut
    ]

pub ruleset end_steps = (ends_blank_is, trim_end_at_none, trim_end-take, last_blank_len_within, last_blank_cut)
