-- What a line says can be printed and read again.
use Rattle.std.proofs.Common.{◌≡◌, ℕ, zero, suc, ◌+◌, ◌-◌, ◌≤◌, Bool, true, false, not, ◌&&◌, ◌||◌}
use Rattle.std.proofs.Common.{cond, List, [], ◌∷◌, ◌++◌, length, take, get_or, inl, inr, refl, sym}
use Rattle.std.proofs.Common.{ap, subst, ◌∙◌, arith, eqb, ltb, append-nil, Option}
use Rattle.std.proofs.lemmas.Bool.{cases_Bool, cond-true, cond-false, and_parts, and_left}
use Rattle.std.proofs.lemmas.Bool.{and_right, and_cases, and_from, or_from, eqb-true, ltb-false}
use Rattle.yaml_lines.specs.declared.place.Place.{Place}
use Rattle.yaml_lines.specs.Blanks.{is_blank_byte, begins_191, begins_187_191, blank_len}
use Rattle.yaml_lines.specs.Blanks.{begins_blank, after_blanks, only_blanks, is_blank_text}
use Rattle.yaml_lines.specs.Blanks.{ends_blank, trim_start, trim_end, trim}
use Rattle.yaml_lines.specs.Reading.{Words, begins_with, ends_with, without_last, unescape}
use Rattle.yaml_lines.specs.Reading.{after_indent, level_of, without_comment, before_colon}
use Rattle.yaml_lines.specs.Reading.{after_colon, unguarded_start, unguarded_end, key_of, value_of}
use Rattle.yaml_lines.specs.Reading.{words_of}
use Rattle.std.specs.List.{onto_first}
use Rattle.base.specs.Lines.{lines_of}
use Rattle.yaml_lines.specs.Kept.{Kept, kept_of, kept_from, kept_lines}
use Rattle.yaml_lines.specs.Readable.{lacks, begins_guarded, ends_guarded, IsReadable, AllReadable}
use Rattle.yaml_lines.proofs.BlankSteps.{front_cases}
use Rattle.yaml_lines.proofs.BlankEnds.{ends_blank-append, last_one}
use Rattle.yaml_lines.proofs.EscapeLaws.{blank_len-unescape, ends_blank-unescape}
use Rattle.yaml_lines.proofs.EscapeLaws.{begins_guarded-unescape, lacks-unescape, unescape-push}
use Rattle.yaml_lines.proofs.ReadAgain.{ends_guarded-push}

-- Lines have no LF.
abbrev AllLines : List (List ℕ) → Type 0
AllLines [] = Unit {0}
AllLines (line ∷ rest) = (lacks 10 line ≡ true) × AllLines rest

longer_lacks : (byte : ℕ) (lines : List (List ℕ)) → eqb byte 10 ≡ false → AllLines lines → AllLines (onto_first byte lines)
longer_lacks byte [] h l = (and_from _ _ (ap not h) refl, tt)
longer_lacks byte (line ∷ rest) h l = (and_from _ _ (ap not h) l.0, l.1)

lines_lack : (bytes : List ℕ) → AllLines (lines_of bytes)
lines_lack [] = tt
lines_lack (byte ∷ rest) =
    elim (cases_Bool (eqb byte 10)) [
      | inl h ↦ subst AllLines (sym (cond-true _ _ _ h)) (refl, lines_lack rest)
      | inr h ↦ subst AllLines (sym (cond-false _ _ _ h)) (longer_lacks byte (lines_of rest) h (lines_lack rest))
    ]

-- A byte that a text lacks is lacked by each part of it.
lacks_cond : (b : Bool) (byte : ℕ) (one other : List ℕ) → lacks byte one ≡ true → lacks byte other ≡ true → lacks byte (cond b one other) ≡ true
lacks_cond true byte one other f g = f
lacks_cond false byte one other f g = g

tail_lacks : (byte first : ℕ) (rest : List ℕ) → lacks byte (first ∷ rest) ≡ true → lacks byte rest ≡ true
tail_lacks byte first rest h = (and_parts (not (eqb first byte)) (lacks byte rest) h).1

cons_lacks : (byte first : ℕ) (rest part : List ℕ) → lacks byte (first ∷ rest) ≡ true → lacks byte part ≡ true → lacks byte (first ∷ part) ≡ true
cons_lacks byte first rest part h p = and_from _ _ (and_parts (not (eqb first byte)) (lacks byte rest) h).0 p

lacks-after_indent : (byte : ℕ) (text : List ℕ) → lacks byte text ≡ true → lacks byte (after_indent text) ≡ true
lacks-after_indent byte [] h = refl
lacks-after_indent byte (first ∷ rest) h = lacks_cond (eqb first 9 || eqb first 32) byte _ _ (lacks-after_indent byte rest (tail_lacks byte first rest h)) h

lacks-without_comment : (byte before : ℕ) (text : List ℕ) → lacks byte text ≡ true → lacks byte (without_comment before text) ≡ true
lacks-without_comment byte before [] h = refl
lacks-without_comment byte before (first ∷ rest) h =
    lacks_cond (eqb first 35 && not (eqb before 92)) byte [] _ refl (cons_lacks byte first rest _ h (lacks-without_comment byte first rest (tail_lacks byte first rest h)))

lacks-before_colon : (byte : ℕ) (text : List ℕ) → lacks byte text ≡ true → lacks byte (before_colon text) ≡ true
lacks-before_colon byte [] h = refl
lacks-before_colon byte (first ∷ rest) h =
    lacks_cond (eqb first 58) byte [] _ refl (cons_lacks byte first rest _ h (lacks-before_colon byte rest (tail_lacks byte first rest h)))

lacks-after_colon : (byte : ℕ) (text : List ℕ) → lacks byte text ≡ true → lacks byte (after_colon text) ≡ true
lacks-after_colon byte [] h = refl
lacks-after_colon byte (first ∷ rest) h =
    lacks_cond (eqb first 58) byte _ _ (tail_lacks byte first rest h) (lacks-after_colon byte rest (tail_lacks byte first rest h))

no_colon : (text : List ℕ) → lacks 58 (before_colon text) ≡ true
no_colon [] = refl
no_colon (first ∷ rest) =
    elim (cases_Bool (eqb first 58)) [
      | inl h ↦ ap (lacks 58) (cond-true _ _ _ h)
      | inr h ↦ ap (lacks 58) (cond-false _ _ _ h) ∙ and_from _ _ (ap not h) (no_colon rest)
    ]

lacks-after_blanks : (byte skip : ℕ) (text : List ℕ) → lacks byte text ≡ true → lacks byte (after_blanks skip text) ≡ true
lacks-after_blanks byte skip [] h = refl
lacks-after_blanks byte (suc skip) (first ∷ rest) h = lacks-after_blanks byte skip rest (tail_lacks byte first rest h)
lacks-after_blanks byte zero (first ∷ rest) h =
    let t = tail_lacks byte first rest h in
    lacks_cond (is_blank_byte first) byte _ _ (lacks-after_blanks byte 0 rest t)
    (lacks_cond (eqb first 239 && begins_187_191 rest) byte _ _ (lacks-after_blanks byte 2 rest t) h)

lacks-trim_end : (byte : ℕ) (text : List ℕ) → lacks byte text ≡ true → lacks byte (trim_end text) ≡ true
lacks-trim_end byte [] h = refl
lacks-trim_end byte (first ∷ rest) h =
    lacks_cond (is_blank_text (first ∷ rest)) byte [] _ refl (cons_lacks byte first rest _ h (lacks-trim_end byte rest (tail_lacks byte first rest h)))

lacks-trim : (byte : ℕ) (text : List ℕ) → lacks byte text ≡ true → lacks byte (trim text) ≡ true
lacks-trim byte text h = lacks-trim_end byte (trim_start text) (lacks-after_blanks byte 0 text h)

lacks-take : (byte n : ℕ) (text : List ℕ) → lacks byte text ≡ true → lacks byte (take n text) ≡ true
lacks-take byte zero text h = refl
lacks-take byte (suc n) [] h = refl
lacks-take byte (suc n) (first ∷ rest) h = cons_lacks byte first rest _ h (lacks-take byte n rest (tail_lacks byte first rest h))

lacks-unguarded_start : (byte : ℕ) (text : List ℕ) → lacks byte text ≡ true → lacks byte (unguarded_start text) ≡ true
lacks-unguarded_start byte [] h = refl
lacks-unguarded_start byte (first ∷ rest) h = lacks_cond (eqb first 92 && begins_blank rest) byte _ _ (tail_lacks byte first rest h) h

lacks-unguarded_end : (byte : ℕ) (text : List ℕ) → lacks byte text ≡ true → lacks byte (unguarded_end text) ≡ true
unfolding unguarded_end
lacks-unguarded_end byte text h = lacks_cond (ends_guarded text) byte _ _ (lacks-take byte (length text - 1) text h) h

-- A trimmed text begins and ends with no blank.
start_trimmed : (n : ℕ) (text : List ℕ) → length text ≤ n → blank_len (trim_start text) ≡ 0
start_trimmed n [] h = refl
start_trimmed zero (byte ∷ rest) h = absurd (omega arith)
start_trimmed (suc n) (byte ∷ rest) h =
    elim (front_cases byte rest) [
      | inl k ↦ ap blank_len k.trimmed ∙ start_trimmed n rest (omega arith)
      | inr (inl k) ↦ ap blank_len k.trimmed ∙ start_trimmed n k.after (omega (arith, ap length k.next))
      | inr (inr k) ↦ ap blank_len k.trimmed ∙ k.len
    ]

begins_191-trim_end : (text : List ℕ) → begins_191 text ≡ false → begins_191 (trim_end text) ≡ false
begins_191-trim_end [] h = refl
begins_191-trim_end (byte ∷ rest) h =
    elim (cases_Bool (is_blank_text (byte ∷ rest))) [ inl k ↦ ap begins_191 (cond-true _ _ _ k) | inr k ↦ ap begins_191 (cond-false _ _ _ k) ∙ h ]

begins_187_191-trim_end : (text : List ℕ) → begins_187_191 text ≡ false → begins_187_191 (trim_end text) ≡ false
begins_187_191-trim_end [] h = refl
begins_187_191-trim_end (byte ∷ rest) h =
    elim (cases_Bool (is_blank_text (byte ∷ rest))) [
      | inl k ↦ ap begins_187_191 (cond-true _ _ _ k)
      | inr k ↦
          ap begins_187_191 (cond-false _ _ _ k)
          ∙ elim (and_cases (eqb byte 187) (begins_191 rest) h) [ inl j ↦ and_left _ _ j | inr j ↦ and_right (eqb byte 187) _ (begins_191-trim_end rest j) ]
    ]

no_blank_parts : (byte : ℕ) (rest : List ℕ) → blank_len (byte ∷ rest) ≡ 0 → (is_blank_byte byte ≡ false) × ((eqb byte 239 && begins_187_191 rest) ≡ false)
no_blank_parts byte rest h =
    elim (cases_Bool (is_blank_byte byte)) [
      | inl k ↦ let e : blank_len (byte ∷ rest) ≡ 1 = cond-true _ _ _ k in absurd (omega arith)
      | inr k ↦
          elim (cases_Bool (eqb byte 239 && begins_187_191 rest)) [
            | inl j ↦ let e : blank_len (byte ∷ rest) ≡ 3 = cond-false _ _ _ k ∙ cond-true _ _ _ j in absurd (omega arith)
            | inr j ↦ (k, j)
          ]
    ]

-- The first byte stays, and what follows it begins no better than before.
same_first : (byte : ℕ) (rest part : List ℕ) → (begins_187_191 rest ≡ false → begins_187_191 part ≡ false) → blank_len (byte ∷ rest) ≡ 0 → blank_len (byte ∷ part) ≡ 0
same_first byte rest part f h =
    let p = no_blank_parts byte rest h in
    cond-false _ _ _ p.0
    ∙ cond-false _ _ _ (elim (and_cases (eqb byte 239) (begins_187_191 rest) p.1) [ inl j ↦ and_left _ _ j | inr j ↦ and_right (eqb byte 239) _ (f j) ])

start_stays : (text : List ℕ) → blank_len text ≡ 0 → blank_len (trim_end text) ≡ 0
start_stays [] h = refl
start_stays (byte ∷ rest) h =
    elim (cases_Bool (is_blank_text (byte ∷ rest))) [
      | inl k ↦ ap blank_len (cond-true _ _ _ k)
      | inr k ↦ ap blank_len (cond-false _ _ _ k) ∙ same_first byte rest (trim_end rest) (begins_187_191-trim_end rest) h
    ]

-- Where the trimmed text is nothing but blanks, so is the text.
record BlankBack (text : List ℕ) : Type 0 where
  whole : only_blanks [] (trim_end text) ≡ true → only_blanks [] text ≡ true
  mark : only_blanks (187 ∷ 191 ∷ []) (trim_end text) ≡ true → only_blanks (187 ∷ 191 ∷ []) text ≡ true
  last : only_blanks (191 ∷ []) (trim_end text) ≡ true → only_blanks (191 ∷ []) text ≡ true

blank_back-cons : (byte : ℕ) (rest : List ℕ) → BlankBack rest → only_blanks [] (byte ∷ trim_end rest) ≡ true → only_blanks [] (byte ∷ rest) ≡ true
blank_back-cons byte rest b h =
    elim (cases_Bool (is_blank_byte byte)) [
      | inl k ↦ cond-true _ _ _ k ∙ b.whole (sym (cond-true _ _ _ k) ∙ h)
      | inr k ↦
          let p = and_parts (eqb byte 239) (only_blanks (187 ∷ 191 ∷ []) (trim_end rest)) (sym (cond-false _ _ _ k) ∙ h) in
          cond-false _ _ _ k ∙ and_from _ _ p.0 (b.mark p.1)
    ]

blank_back : (text : List ℕ) → BlankBack text
blank_back [] = record { whole = λ h. h; mark = λ h. h; last = λ h. h }
blank_back (byte ∷ rest) =
    let b = blank_back rest in
    elim (cases_Bool (is_blank_text (byte ∷ rest))) [
      | inl k ↦
          let e = cond-true (is_blank_text (byte ∷ rest)) [] (byte ∷ trim_end rest) k in
          record {
            whole = λ h. k;
            mark = λ h. let f : false ≡ true = sym (ap (only_blanks (187 ∷ 191 ∷ [])) e) ∙ h in cc;
            last = λ h. let f : false ≡ true = sym (ap (only_blanks (191 ∷ [])) e) ∙ h in cc;
          }
      | inr k ↦
          let e = cond-false (is_blank_text (byte ∷ rest)) [] (byte ∷ trim_end rest) k in
          record {
            whole = λ h. blank_back-cons byte rest b (sym (ap (only_blanks []) e) ∙ h);
            mark = λ h. let p = and_parts (eqb byte 187) (only_blanks (191 ∷ []) (trim_end rest)) (sym (ap (only_blanks (187 ∷ 191 ∷ [])) e) ∙ h) in and_from _ _ p.0 (b.last p.1);
            last = λ h. let p = and_parts (eqb byte 191) (only_blanks [] (trim_end rest)) (sym (ap (only_blanks (191 ∷ [])) e) ∙ h) in and_from _ _ p.0 (b.whole p.1);
          }
    ]

end_trimmed : (text : List ℕ) → ends_blank (trim_end text) ≡ false
end_trimmed [] = refl
end_trimmed (byte ∷ rest) =
    elim (cases_Bool (is_blank_text (byte ∷ rest))) [
      | inl k ↦ ap ends_blank (cond-true _ _ _ k)
      | inr k ↦
          ap ends_blank (cond-false _ _ _ k)
          ∙ or_from _ _
          (elim (cases_Bool (only_blanks [] (byte ∷ trim_end rest))) [
            | inl j ↦ let f : true ≡ false = sym (blank_back-cons byte rest (blank_back rest) j) ∙ k in cc
            | inr j ↦ j
          ])
          (end_trimmed rest)
    ]

-- A key.
key_readable : (text : List ℕ) → (begins_blank (unescape (trim text)) ≡ false) × (ends_blank (unescape (trim text)) ≡ false)
key_readable text = (
  ap (ltb 0) (blank_len-unescape (trim text) ∙ start_stays (trim_start text) (start_trimmed (length text) text (omega arith))),
  ends_blank-unescape (trim text) ∙ end_trimmed (trim_start text),
)

-- A value: at its start.
slash_no_blank : (byte : ℕ) (rest : List ℕ) → begins_blank (byte ∷ rest) ≡ true → eqb byte 92 ≡ false
slash_no_blank byte rest h =
    elim (cases_Bool (eqb byte 92)) [
      | inl k ↦ let f : false ≡ true = sym (ap (λ b. begins_blank (b ∷ rest)) (eqb-true byte 92 k)) ∙ h in cc
      | inr k ↦ k
    ]

blank_no_guard : (text : List ℕ) → begins_blank text ≡ true → begins_guarded text ≡ false
blank_no_guard [] h = refl
blank_no_guard (byte ∷ rest) h = and_left _ _ (slash_no_blank byte rest h)

start_unguarded : (text : List ℕ) → begins_guarded (unguarded_start text) ≡ false
start_unguarded [] = refl
start_unguarded (byte ∷ rest) =
    elim (cases_Bool (eqb byte 92 && begins_blank rest)) [
      | inl h ↦ ap begins_guarded (cond-true _ _ _ h) ∙ blank_no_guard rest (and_parts (eqb byte 92) (begins_blank rest) h).1
      | inr h ↦ ap begins_guarded (cond-false _ _ _ h) ∙ h
    ]

begins_191-take : (n : ℕ) (text : List ℕ) → begins_191 text ≡ false → begins_191 (take n text) ≡ false
begins_191-take zero text h = refl
begins_191-take (suc n) [] h = refl
begins_191-take (suc n) (byte ∷ rest) h = h

begins_187_191-take : (n : ℕ) (text : List ℕ) → begins_187_191 text ≡ false → begins_187_191 (take n text) ≡ false
begins_187_191-take zero text h = refl
begins_187_191-take (suc n) [] h = refl
begins_187_191-take (suc n) (byte ∷ rest) h =
    elim (and_cases (eqb byte 187) (begins_191 rest) h) [ inl j ↦ and_left _ _ j | inr j ↦ and_right (eqb byte 187) _ (begins_191-take n rest j) ]

no_len : (text : List ℕ) → begins_blank text ≡ false → blank_len text ≡ 0
no_len text h = let l : blank_len text ≤ 0 = ltb-false 0 (blank_len text) h in omega arith

begins_blank-take : (n : ℕ) (text : List ℕ) → begins_blank text ≡ false → begins_blank (take n text) ≡ false
begins_blank-take zero text h = refl
begins_blank-take (suc n) [] h = refl
begins_blank-take (suc n) (byte ∷ rest) h = ap (ltb 0) (same_first byte rest (take n rest) (begins_187_191-take n rest) (no_len (byte ∷ rest) h))

begins_guarded-take : (n : ℕ) (text : List ℕ) → begins_guarded text ≡ false → begins_guarded (take n text) ≡ false
begins_guarded-take zero text h = refl
begins_guarded-take (suc n) [] h = refl
begins_guarded-take (suc n) (byte ∷ rest) h =
    elim (and_cases (eqb byte 92) (begins_blank rest) h) [ inl j ↦ and_left _ _ j | inr j ↦ and_right (eqb byte 92) _ (begins_blank-take n rest j) ]

start_kept : (text : List ℕ) → begins_guarded text ≡ false → begins_guarded (unguarded_end text) ≡ false
unfolding unguarded_end
start_kept text h =
    elim (cases_Bool (ends_guarded text)) [
      | inl k ↦ ap begins_guarded (cond-true _ _ _ k) ∙ begins_guarded-take (length text - 1) text h
      | inr k ↦ ap begins_guarded (cond-false _ _ _ k) ∙ h
    ]

-- And at its end.
no_blank_slash : (text : List ℕ) → ends_blank (text ++ 92 ∷ []) ≡ false
no_blank_slash text = ends_blank-append text (92 ∷ []) (record { whole = refl; mark = refl; last = refl }) refl

blank_no_end-push : (text : List ℕ) (byte : ℕ) → ends_blank (text ++ byte ∷ []) ≡ true → ends_guarded (text ++ byte ∷ []) ≡ false
blank_no_end-push text byte h =
    ends_guarded-push text byte
    ∙ elim (cases_Bool (eqb byte 92)) [
      | inl k ↦ let f : false ≡ true = sym (ap (λ b. ends_blank (text ++ b ∷ [])) (eqb-true byte 92 k) ∙ no_blank_slash text) ∙ h in cc
      | inr k ↦ and_left _ _ k
    ]

blank_no_end : (text : List ℕ) → ends_blank text ≡ true → ends_guarded text ≡ false
blank_no_end [] h = refl
blank_no_end (byte ∷ rest) h =
    let text = byte ∷ rest in
    let split = last_one text (length rest) (omega arith) in
    ap ends_guarded split ∙ blank_no_end-push (take (length rest) text) (get_or text (length rest) 0) (sym (ap ends_blank split) ∙ h)

end_unguarded : (text : List ℕ) → ends_guarded (unguarded_end text) ≡ false
unfolding unguarded_end
end_unguarded text =
    elim (cases_Bool (ends_guarded text)) [
      | inl k ↦ ap ends_guarded (cond-true _ _ _ k) ∙ blank_no_end (without_last text) (and_parts (ends_with 92 text) (ends_blank (without_last text)) k).1
      | inr k ↦ ap ends_guarded (cond-false _ _ _ k) ∙ k
    ]

record EndsSign (text : List ℕ) : Type 0 where
  front : List ℕ
  split : unescape text ≡ front ++ 35 ∷ []

ends_sign : (text : List ℕ) → EndsSign (text ++ 35 ∷ [])
ends_sign [] = record { front = []; split = refl }
ends_sign (byte ∷ rest) =
    let s = ends_sign rest in
    elim (cases_Bool (eqb byte 92 && begins_with 35 (rest ++ 35 ∷ []))) [
      | inl h ↦ record { front = s.front; split = cond-true _ _ _ h ∙ s.split }
      | inr h ↦ record { front = byte ∷ s.front; split = cond-false _ _ _ h ∙ ap (λ l. byte ∷ l) s.split }
    ]

end_kept-push : (text : List ℕ) (byte : ℕ) → ends_guarded (text ++ byte ∷ []) ≡ false → ends_guarded (unescape (text ++ byte ∷ [])) ≡ false
end_kept-push text byte h =
    elim (cases_Bool (eqb byte 35)) [
      | inl k ↦
          let s = ends_sign text in
          ap (λ b. ends_guarded (unescape (text ++ b ∷ []))) (eqb-true byte 35 k) ∙ ap ends_guarded s.split ∙ ends_guarded-push s.front 35
      | inr k ↦
          ap ends_guarded (unescape-push text byte k)
          ∙ ends_guarded-push (unescape text) byte
          ∙ ap (λ t. eqb byte 92 && t) (ends_blank-unescape text)
          ∙ sym (ends_guarded-push text byte)
          ∙ h
    ]

end_kept : (text : List ℕ) → ends_guarded text ≡ false → ends_guarded (unescape text) ≡ false
end_kept [] h = refl
end_kept (byte ∷ rest) h =
    let text = byte ∷ rest in
    let split = last_one text (length rest) (omega arith) in
    ap (λ l. ends_guarded (unescape l)) split
    ∙ end_kept-push (take (length rest) text) (get_or text (length rest) 0) (sym (ap ends_guarded split) ∙ h)

-- A line.
text_readable : (level : ℕ) (text : List ℕ) → lacks 10 text ≡ true → IsReadable (record { level = level; key = key_of text; value = value_of text })
unfolding key_of value_of
text_readable level text h =
    let k = key_readable (before_colon text) in
    let v = unguarded_start (trim (after_colon text)) in
    record {
      key_in_line = lacks-unescape 10 (trim (before_colon text)) (lacks-trim 10 (before_colon text) (lacks-before_colon 10 text h));
      key_no_colon = lacks-unescape 58 (trim (before_colon text)) (lacks-trim 58 (before_colon text) (no_colon text));
      key_start = k.0;
      key_end = k.1;
      value_in_line = lacks-unescape 10 (unguarded_end v) (lacks-unguarded_end 10 v (lacks-unguarded_start 10 (trim (after_colon text)) (lacks-trim 10 (after_colon text) (lacks-after_colon 10 text h))));
      value_start = begins_guarded-unescape (unguarded_end v) ∙ start_kept v (start_unguarded (trim (after_colon text)));
      value_end = end_kept (unguarded_end v) (end_unguarded v);
    }

line_readable : (place : Place) (line : List ℕ) (rest : List Kept) → lacks 10 line ≡ true → AllReadable rest → AllReadable (kept_of place (words_of line) ++ rest)
unfolding words_of
line_readable place line rest h r =
    let text = without_comment 0 (after_indent line) in
    let P : Option Words → Type 0 = λ o. AllReadable (kept_of place o ++ rest) in
    elim (cases_Bool (is_blank_text text)) [
      | inl k ↦ subst P (sym (cond-true _ _ _ k)) r
      | inr k ↦ subst P (sym (cond-false _ _ _ k)) (text_readable (level_of line) text (lacks-without_comment 10 0 (after_indent line) (lacks-after_indent 10 line h)), r)
    ]

lines_readable : (file line : ℕ) (lines : List (List ℕ)) → AllLines lines → AllReadable (kept_from file line lines)
lines_readable file line [] h = tt
lines_readable file line (text ∷ rest) h = line_readable (record { file = file; line = line }) text _ h.0 (lines_readable file (line + 1) rest h.1)

-- What the kept lines of a file say can be printed and read again.
pub kept_readable : (file : ℕ) (bytes : List ℕ) → AllReadable (kept_lines file bytes)
kept_readable file bytes = lines_readable file 1 (lines_of bytes) (lines_lack bytes)

pub nodes_readable : (file line : ℕ) (bytes rest : List ℕ) (nodes grown : List Kept) → rest ≡ [] → nodes ≡ grown →
    grown ++ kept_from file line (lines_of rest) ≡ kept_lines file bytes → AllReadable nodes
nodes_readable file line bytes rest nodes grown e n h =
    subst AllReadable
    (sym (n ∙ sym (append-nil grown) ∙ ap (λ l. grown ++ kept_from file line (lines_of l)) (sym e) ∙ h))
    (kept_readable file bytes)
