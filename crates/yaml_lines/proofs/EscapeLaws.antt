-- What `escape` and `unescape` leave as it is.
use Rattle.std.proofs.Common.{◌≡◌, ℕ, true, false, not, ◌&&◌, ◌||◌, cond, List, [], ◌∷◌, ◌++◌, inl}
use Rattle.std.proofs.Common.{inr, refl, sym, ap, ◌∙◌, eqb, ltb}
use Rattle.std.proofs.lemmas.Bool.{cases_Bool, cond-true, cond-false, and_parts, and_right}
use Rattle.std.proofs.lemmas.Bool.{and_from, eqb-true}
use Rattle.yaml_lines.specs.Blanks.{is_blank_byte, begins_191, begins_187_191, blank_len}
use Rattle.yaml_lines.specs.Blanks.{begins_blank, only_blanks, ends_blank}
use Rattle.yaml_lines.specs.Reading.{begins_with, unescape}
use Rattle.yaml_lines.specs.Printed.{escape}
use Rattle.yaml_lines.specs.Readable.{lacks, begins_guarded}

-- `#` and what is written for it.
escape_sign : (byte : ℕ) (rest : List ℕ) → eqb byte 35 ≡ true → escape (byte ∷ rest) ≡ 92 ∷ 35 ∷ escape rest
escape_sign byte rest h = cond-true _ _ _ h

escape_other : (byte : ℕ) (rest : List ℕ) → eqb byte 35 ≡ false → escape (byte ∷ rest) ≡ byte ∷ escape rest
escape_other byte rest h = cond-false _ _ _ h

no_sign_first : (text : List ℕ) → begins_with 35 (escape text) ≡ false
no_sign_first [] = refl
no_sign_first (byte ∷ rest) =
    elim (cases_Bool (eqb byte 35)) [
      | inl h ↦ ap (begins_with 35) (escape_sign byte rest h)
      | inr h ↦ ap (begins_with 35) (escape_other byte rest h) ∙ h
    ]

-- What was escaped is read again as it was.
pub unescape-escape : (text : List ℕ) → unescape (escape text) ≡ text
unescape-escape [] = refl
unescape-escape (byte ∷ rest) =
    elim (cases_Bool (eqb byte 35)) [
      | inl h ↦ ap unescape (escape_sign byte rest h) ∙ ap (λ l. 35 ∷ l) (unescape-escape rest) ∙ ap (λ b. b ∷ rest) (sym (eqb-true byte 35 h))
      | inr h ↦
          ap unescape (escape_other byte rest h)
          ∙ cond-false _ _ _ (and_right (eqb byte 92) _ (no_sign_first rest))
          ∙ ap (λ l. byte ∷ l) (unescape-escape rest)
    ]

-- The first bytes of a blank.
begins_191-escape : (text : List ℕ) → begins_191 (escape text) ≡ begins_191 text
begins_191-escape [] = refl
begins_191-escape (byte ∷ rest) =
    elim (cases_Bool (eqb byte 35)) [
      | inl h ↦ ap begins_191 (escape_sign byte rest h) ∙ sym (ap (λ b. eqb b 191) (eqb-true byte 35 h))
      | inr h ↦ ap begins_191 (escape_other byte rest h)
    ]

begins_187_191-escape : (text : List ℕ) → begins_187_191 (escape text) ≡ begins_187_191 text
begins_187_191-escape [] = refl
begins_187_191-escape (byte ∷ rest) =
    elim (cases_Bool (eqb byte 35)) [
      | inl h ↦ ap begins_187_191 (escape_sign byte rest h) ∙ sym (ap (λ b. eqb b 187 && begins_191 rest) (eqb-true byte 35 h))
      | inr h ↦ ap begins_187_191 (escape_other byte rest h) ∙ ap (λ t. eqb byte 187 && t) (begins_191-escape rest)
    ]

pub blank_len-escape : (text : List ℕ) → blank_len (escape text) ≡ blank_len text
blank_len-escape [] = refl
blank_len-escape (byte ∷ rest) =
    elim (cases_Bool (eqb byte 35)) [
      | inl h ↦ ap blank_len (escape_sign byte rest h) ∙ sym (ap (λ b. blank_len (b ∷ rest)) (eqb-true byte 35 h))
      | inr h ↦ ap blank_len (escape_other byte rest h) ∙ ap (λ t. cond (is_blank_byte byte) 1 (cond (eqb byte 239 && t) 3 0)) (begins_187_191-escape rest)
    ]

-- Nothing but blanks, from the start of a blank or from within one.
pub record SameTests (one other : List ℕ) : Type 0 where
  pub whole : only_blanks [] one ≡ only_blanks [] other
  pub mark : only_blanks (187 ∷ 191 ∷ []) one ≡ only_blanks (187 ∷ 191 ∷ []) other
  pub last : only_blanks (191 ∷ []) one ≡ only_blanks (191 ∷ []) other

same_tests-cons : (byte : ℕ) (one other : List ℕ) → SameTests one other → SameTests (byte ∷ one) (byte ∷ other)
same_tests-cons byte one other e =
    record {
      whole = ap (λ x. cond (is_blank_byte byte) x (eqb byte 239 && only_blanks (187 ∷ 191 ∷ []) one)) e.whole
          ∙ ap (λ x. cond (is_blank_byte byte) (only_blanks [] other) (eqb byte 239 && x)) e.mark;
      mark = ap (λ x. eqb byte 187 && x) e.last;
      last = ap (λ x. eqb byte 191 && x) e.whole;
    }

pub same_tests-escape : (text : List ℕ) → SameTests (escape text) text
same_tests-escape [] = record { whole = refl; mark = refl; last = refl }
same_tests-escape (byte ∷ rest) =
    elim (cases_Bool (eqb byte 35)) [
      | inl h ↦
          let e = escape_sign byte rest h in
          let b = eqb-true byte 35 h in
          record {
            whole = ap (only_blanks []) e ∙ sym (ap (λ b. only_blanks [] (b ∷ rest)) b);
            mark = ap (only_blanks (187 ∷ 191 ∷ [])) e ∙ sym (ap (λ b. only_blanks (187 ∷ 191 ∷ []) (b ∷ rest)) b);
            last = ap (only_blanks (191 ∷ [])) e ∙ sym (ap (λ b. only_blanks (191 ∷ []) (b ∷ rest)) b);
          }
      | inr h ↦
          let e = escape_other byte rest h in
          let s = same_tests-cons byte (escape rest) rest (same_tests-escape rest) in
          record {
            whole = ap (only_blanks []) e ∙ s.whole;
            mark = ap (only_blanks (187 ∷ 191 ∷ [])) e ∙ s.mark;
            last = ap (only_blanks (191 ∷ [])) e ∙ s.last;
          }
    ]

pub ends_blank-escape : (text : List ℕ) → ends_blank (escape text) ≡ ends_blank text
ends_blank-escape [] = refl
ends_blank-escape (byte ∷ rest) =
    elim (cases_Bool (eqb byte 35)) [
      | inl h ↦ ap ends_blank (escape_sign byte rest h) ∙ ends_blank-escape rest ∙ sym (ap (λ b. ends_blank (b ∷ rest)) (eqb-true byte 35 h))
      | inr h ↦
          ap ends_blank (escape_other byte rest h)
          ∙ ap (λ x. x || ends_blank (escape rest)) (same_tests-cons byte (escape rest) rest (same_tests-escape rest)).whole
          ∙ ap (λ x. only_blanks [] (byte ∷ rest) || x) (ends_blank-escape rest)
    ]

-- The same of `unescape`.
unescape_sign : (byte : ℕ) (rest : List ℕ) → (eqb byte 92 && begins_with 35 rest) ≡ true → unescape (byte ∷ rest) ≡ unescape rest
unescape_sign byte rest h = cond-true _ _ _ h

unescape_other : (byte : ℕ) (rest : List ℕ) → (eqb byte 92 && begins_with 35 rest) ≡ false → unescape (byte ∷ rest) ≡ byte ∷ unescape rest
unescape_other byte rest h = cond-false _ _ _ h

-- A backslash that is dropped has a `#` after it, and neither begins a blank.
record Sign (byte : ℕ) (rest : List ℕ) : Type 0 where
  next : List ℕ
  slash : byte ≡ 92
  follows : rest ≡ 35 ∷ next
  dropped : unescape (byte ∷ rest) ≡ 35 ∷ unescape next

sign_at : (byte : ℕ) (rest : List ℕ) → (eqb byte 92 && begins_with 35 rest) ≡ true → Sign byte rest
sign_at byte [] h = let p = and_parts (eqb byte 92) false h in cc (p.1)
sign_at byte (first ∷ next) h =
    let p = and_parts (eqb byte 92) (eqb first 35) h in
    let f = eqb-true first 35 p.1 in
    record {
      next = next;
      slash = eqb-true byte 92 p.0;
      follows = ap (λ b. b ∷ next) f;
      dropped = unescape_sign byte (first ∷ next) h ∙ ap (λ b. unescape (b ∷ next)) f;
    }

begins_191-unescape : (text : List ℕ) → begins_191 (unescape text) ≡ begins_191 text
begins_191-unescape [] = refl
begins_191-unescape (byte ∷ rest) =
    elim (cases_Bool (eqb byte 92 && begins_with 35 rest)) [
      | inl h ↦ let s = sign_at byte rest h in ap begins_191 s.dropped ∙ sym (ap (λ b. eqb b 191) s.slash)
      | inr h ↦ ap begins_191 (unescape_other byte rest h)
    ]

begins_187_191-unescape : (text : List ℕ) → begins_187_191 (unescape text) ≡ begins_187_191 text
begins_187_191-unescape [] = refl
begins_187_191-unescape (byte ∷ rest) =
    elim (cases_Bool (eqb byte 92 && begins_with 35 rest)) [
      | inl h ↦ let s = sign_at byte rest h in ap begins_187_191 s.dropped ∙ sym (ap (λ b. eqb b 187 && begins_191 rest) s.slash)
      | inr h ↦ ap begins_187_191 (unescape_other byte rest h) ∙ ap (λ t. eqb byte 187 && t) (begins_191-unescape rest)
    ]

pub blank_len-unescape : (text : List ℕ) → blank_len (unescape text) ≡ blank_len text
blank_len-unescape [] = refl
blank_len-unescape (byte ∷ rest) =
    elim (cases_Bool (eqb byte 92 && begins_with 35 rest)) [
      | inl h ↦ let s = sign_at byte rest h in ap blank_len s.dropped ∙ sym (ap (λ b. blank_len (b ∷ rest)) s.slash)
      | inr h ↦ ap blank_len (unescape_other byte rest h) ∙ ap (λ t. cond (is_blank_byte byte) 1 (cond (eqb byte 239 && t) 3 0)) (begins_187_191-unescape rest)
    ]

pub same_tests-unescape : (text : List ℕ) → SameTests (unescape text) text
same_tests-unescape [] = record { whole = refl; mark = refl; last = refl }
same_tests-unescape (byte ∷ rest) =
    elim (cases_Bool (eqb byte 92 && begins_with 35 rest)) [
      | inl h ↦
          let s = sign_at byte rest h in
          record {
            whole = ap (only_blanks []) s.dropped ∙ sym (ap (λ b. only_blanks [] (b ∷ rest)) s.slash);
            mark = ap (only_blanks (187 ∷ 191 ∷ [])) s.dropped ∙ sym (ap (λ b. only_blanks (187 ∷ 191 ∷ []) (b ∷ rest)) s.slash);
            last = ap (only_blanks (191 ∷ [])) s.dropped ∙ sym (ap (λ b. only_blanks (191 ∷ []) (b ∷ rest)) s.slash);
          }
      | inr h ↦
          let e = unescape_other byte rest h in
          let s = same_tests-cons byte (unescape rest) rest (same_tests-unescape rest) in
          record {
            whole = ap (only_blanks []) e ∙ s.whole;
            mark = ap (only_blanks (187 ∷ 191 ∷ [])) e ∙ s.mark;
            last = ap (only_blanks (191 ∷ [])) e ∙ s.last;
          }
    ]

pub ends_blank-unescape : (text : List ℕ) → ends_blank (unescape text) ≡ ends_blank text
ends_blank-unescape [] = refl
ends_blank-unescape (byte ∷ rest) =
    elim (cases_Bool (eqb byte 92 && begins_with 35 rest)) [
      | inl h ↦ ap ends_blank (unescape_sign byte rest h) ∙ ends_blank-unescape rest ∙ sym (ap (λ b. ends_blank (b ∷ rest)) (sign_at byte rest h).slash)
      | inr h ↦
          ap ends_blank (unescape_other byte rest h)
          ∙ ap (λ x. x || ends_blank (unescape rest)) (same_tests-cons byte (unescape rest) rest (same_tests-unescape rest)).whole
          ∙ ap (λ x. only_blanks [] (byte ∷ rest) || x) (ends_blank-unescape rest)
    ]

-- A byte other than a backslash that doesn't stand in a text doesn't stand in what is written for
-- it, and one that doesn't stand in what is read doesn't stand in what it says.
pub lacks-escape : (byte : ℕ) (text : List ℕ) → eqb 92 byte ≡ false → eqb 35 byte ≡ false → lacks byte text ≡ true → lacks byte (escape text) ≡ true
lacks-escape byte [] s g h = refl
lacks-escape byte (first ∷ rest) s g h =
    let p = and_parts (not (eqb first byte)) (lacks byte rest) h in
    elim (cases_Bool (eqb first 35)) [
      | inl k ↦ ap (lacks byte) (escape_sign first rest k) ∙ and_from _ _ (ap not s) (and_from _ _ (ap not g) (lacks-escape byte rest s g p.1))
      | inr k ↦ ap (lacks byte) (escape_other first rest k) ∙ and_from _ _ p.0 (lacks-escape byte rest s g p.1)
    ]

pub lacks-unescape : (byte : ℕ) (text : List ℕ) → lacks byte text ≡ true → lacks byte (unescape text) ≡ true
lacks-unescape byte [] h = refl
lacks-unescape byte (first ∷ rest) h =
    let p = and_parts (not (eqb first byte)) (lacks byte rest) h in
    elim (cases_Bool (eqb first 92 && begins_with 35 rest)) [
      | inl k ↦ ap (lacks byte) (unescape_sign first rest k) ∙ lacks-unescape byte rest p.1
      | inr k ↦ ap (lacks byte) (unescape_other first rest k) ∙ and_from _ _ p.0 (lacks-unescape byte rest p.1)
    ]

-- A text that begins with no backslash and blank doesn't begin with them when it is escaped or
-- read.
pub begins_guarded-escape : (text : List ℕ) → begins_guarded (escape text) ≡ begins_guarded text
begins_guarded-escape [] = refl
begins_guarded-escape (byte ∷ rest) =
    elim (cases_Bool (eqb byte 35)) [
      | inl h ↦ ap begins_guarded (escape_sign byte rest h) ∙ sym (ap (λ b. eqb b 92 && begins_blank rest) (eqb-true byte 35 h))
      | inr h ↦ ap begins_guarded (escape_other byte rest h) ∙ ap (λ n. eqb byte 92 && ltb 0 n) (blank_len-escape rest)
    ]

pub begins_guarded-unescape : (text : List ℕ) → begins_guarded (unescape text) ≡ begins_guarded text
begins_guarded-unescape [] = refl
begins_guarded-unescape (byte ∷ rest) =
    elim (cases_Bool (eqb byte 92 && begins_with 35 rest)) [
      | inl h ↦
          let s = sign_at byte rest h in
          ap begins_guarded s.dropped ∙ sym (and_right (eqb byte 92) _ (ap begins_blank s.follows))
      | inr h ↦ ap begins_guarded (unescape_other byte rest h) ∙ ap (λ n. eqb byte 92 && ltb 0 n) (blank_len-unescape rest)
    ]

-- One more byte at the end.
pub escape-push : (text : List ℕ) (byte : ℕ) → eqb byte 35 ≡ false → escape (text ++ byte ∷ []) ≡ escape text ++ byte ∷ []
escape-push [] byte h = escape_other byte [] h
escape-push (first ∷ rest) byte h =
    elim (cases_Bool (eqb first 35)) [
      | inl k ↦ escape_sign first (rest ++ byte ∷ []) k ∙ ap (λ l. 92 ∷ 35 ∷ l) (escape-push rest byte h) ∙ sym (ap (λ l. l ++ byte ∷ []) (escape_sign first rest k))
      | inr k ↦ escape_other first (rest ++ byte ∷ []) k ∙ ap (λ l. first ∷ l) (escape-push rest byte h) ∙ sym (ap (λ l. l ++ byte ∷ []) (escape_other first rest k))
    ]

pub escape-push_sign : (text : List ℕ) → escape (text ++ 35 ∷ []) ≡ (escape text ++ 92 ∷ []) ++ 35 ∷ []
escape-push_sign [] = refl
escape-push_sign (first ∷ rest) =
    elim (cases_Bool (eqb first 35)) [
      | inl k ↦ escape_sign first (rest ++ 35 ∷ []) k ∙ ap (λ l. 92 ∷ 35 ∷ l) (escape-push_sign rest) ∙ sym (ap (λ l. (l ++ 92 ∷ []) ++ 35 ∷ []) (escape_sign first rest k))
      | inr k ↦ escape_other first (rest ++ 35 ∷ []) k ∙ ap (λ l. first ∷ l) (escape-push_sign rest) ∙ sym (ap (λ l. (l ++ 92 ∷ []) ++ 35 ∷ []) (escape_other first rest k))
    ]

begins_sign-push : (text : List ℕ) (byte : ℕ) → eqb byte 35 ≡ false → begins_with 35 (text ++ byte ∷ []) ≡ begins_with 35 text
begins_sign-push [] byte h = h
begins_sign-push (first ∷ rest) byte h = refl

pub unescape-push : (text : List ℕ) (byte : ℕ) → eqb byte 35 ≡ false → unescape (text ++ byte ∷ []) ≡ unescape text ++ byte ∷ []
unescape-push [] byte h = unescape_other byte [] (and_right (eqb byte 92) false refl)
unescape-push (first ∷ rest) byte h =
    let e = ap (λ t. eqb first 92 && t) (begins_sign-push rest byte h) in
    elim (cases_Bool (eqb first 92 && begins_with 35 rest)) [
      | inl k ↦ unescape_sign first (rest ++ byte ∷ []) (e ∙ k) ∙ unescape-push rest byte h ∙ sym (ap (λ l. l ++ byte ∷ []) (unescape_sign first rest k))
      | inr k ↦ unescape_other first (rest ++ byte ∷ []) (e ∙ k) ∙ ap (λ l. first ∷ l) (unescape-push rest byte h) ∙ sym (ap (λ l. l ++ byte ∷ []) (unescape_other first rest k))
    ]
