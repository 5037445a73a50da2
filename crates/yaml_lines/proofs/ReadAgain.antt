-- A printed line says what its node says.
use Rattle.std.proofs.Common.{◌≡◌, ℕ, zero, suc, ◌+◌, ◌-◌, ◌/◌, ◌≤◌, Bool, true, false, not, ◌&&◌}
use Rattle.std.proofs.Common.{◌||◌, cond, List, [], ◌∷◌, ◌++◌, length, take, get_or, inl, inr, refl}
use Rattle.std.proofs.Common.{sym, ap, ◌∙◌, arith, eqb, ltb, append_assoc, append-nil, Some, None}
use Rattle.std.proofs.lemmas.Bool.{cases_Bool, cond-true, cond-false, and_parts, and_left, and_from}
use Rattle.std.proofs.lemmas.Bool.{or_from, or_parts, eqb-true, lt-ltb, ltb-false, not-true}
use Rattle.std.proofs.lemmas.List.{length_push, take_at, get_or_push}
use Rattle.yaml_lines.specs.Blanks.{is_blank_byte, begins_191, begins_187_191, blank_len}
use Rattle.yaml_lines.specs.Blanks.{begins_blank, is_blank_text, ends_blank, trim_end, trim}
use Rattle.yaml_lines.specs.Reading.{Words, without_last, unescape, after_indent, indent_tabs}
use Rattle.yaml_lines.specs.Reading.{indent_spaces, level_of, without_comment, before_colon}
use Rattle.yaml_lines.specs.Reading.{after_colon, unguarded_start, unguarded_end, key_of, value_of}
use Rattle.yaml_lines.specs.Reading.{words_of}
use Rattle.std.specs.List.{onto_first}
use Rattle.base.specs.Lines.{lines_of}
use Rattle.yaml_lines.specs.Kept.{Kept, kept_of, kept_from, kept_lines}
use Rattle.yaml_lines.specs.Printed.{escape, start_guard, end_guard, printed_value, printed_text}
use Rattle.yaml_lines.specs.Printed.{tabs, printed_line, printed}
use Rattle.yaml_lines.specs.Readable.{lacks, begins_guarded, ends_guarded, IsReadable, AllReadable}
use Rattle.yaml_lines.specs.Readable.{said}
use Rattle.yaml_lines.proofs.BlankSteps.{trim_start-none}
use Rattle.yaml_lines.proofs.BlankEnds.{NeverBlank, never_blank-append, ends_blank-append}
use Rattle.yaml_lines.proofs.BlankEnds.{trim_end-none, last_one}
use Rattle.yaml_lines.proofs.EscapeLaws.{unescape-escape, blank_len-escape, ends_blank-escape}
use Rattle.yaml_lines.proofs.EscapeLaws.{begins_guarded-escape, lacks-escape, escape-push}
use Rattle.yaml_lines.proofs.EscapeLaws.{escape-push_sign}

-- The lines of a text that begins with one.
pub lines_of-line : (line rest : List ℕ) → lacks 10 line ≡ true → lines_of (line ++ 10 ∷ rest) ≡ line ∷ lines_of rest
lines_of-line [] rest h = refl
lines_of-line (byte ∷ line) rest h =
    let p = and_parts (not (eqb byte 10)) (lacks 10 line) h in
    cond-false _ _ _ (not-true _ p.0) ∙ ap (onto_first byte) (lines_of-line line rest p.1)

-- Texts that lack a byte, joined.
lacks-append : (byte : ℕ) (xs ys : List ℕ) → lacks byte xs ≡ true → lacks byte ys ≡ true → lacks byte (xs ++ ys) ≡ true
lacks-append byte [] ys f g = g
lacks-append byte (x ∷ xs) ys f g =
    let p = and_parts (not (eqb x byte)) (lacks byte xs) f in and_from _ _ p.0 (lacks-append byte xs ys p.1 g)

lacks-tabs : (level : ℕ) → lacks 10 (tabs level) ≡ true
lacks-tabs zero = refl
lacks-tabs (suc level) = lacks-tabs level

lacks-guard : (b : Bool) → lacks 10 (cond b (92 ∷ []) []) ≡ true
lacks-guard true = refl
lacks-guard false = refl

lacks-value : (value : List ℕ) → lacks 10 value ≡ true → lacks 10 (printed_value value) ≡ true
lacks-value [] h = refl
lacks-value (byte ∷ rest) h =
    lacks-append 10 (start_guard (byte ∷ rest)) _ (lacks-guard (begins_blank (byte ∷ rest)))
    (lacks-append 10 (escape (byte ∷ rest)) (end_guard (byte ∷ rest)) (lacks-escape 10 (byte ∷ rest) refl refl h) (lacks-guard (ends_blank (byte ∷ rest))))

lacks-text : (key value : List ℕ) → lacks 10 key ≡ true → lacks 10 value ≡ true → lacks 10 (printed_text key value) ≡ true
lacks-text key value k v = lacks-append 10 (escape key) (58 ∷ printed_value value) (lacks-escape 10 key refl refl k) (lacks-value value v)

-- The indent: tabs, before a text that begins with no tab and no space.
abbrev no_indent : List ℕ → Bool
no_indent [] = true
no_indent (byte ∷ rest) = not (eqb byte 9 || eqb byte 32)

record Indented (level : ℕ) (text line : List ℕ) : Type 0 where
  rest : after_indent line ≡ text
  tabs_in : indent_tabs line ≡ level
  spaces_in : indent_spaces line ≡ 0

indented : (level : ℕ) (text : List ℕ) → no_indent text ≡ true → Indented level text (tabs level ++ text)
indented zero [] h = record { rest = refl; tabs_in = refl; spaces_in = refl }
indented zero (byte ∷ rest) h =
    let n = not-true _ h in
    let p = or_parts (eqb byte 9) (eqb byte 32) n in
    record {
      rest = cond-false _ _ _ n;
      tabs_in = cond-false _ _ _ p.0 ∙ cond-false _ _ _ p.1;
      spaces_in = cond-false _ _ _ p.1 ∙ cond-false _ _ _ p.0;
    }
indented (suc level) text h =
    let e = indented level text h in
    record { rest = e.rest; tabs_in = ap (λ n. n + 1) e.tabs_in ∙ (let s : level + 1 ≡ suc level = omega arith in s); spaces_in = e.spaces_in }

no_blank_byte : (byte : ℕ) (rest : List ℕ) → begins_blank (byte ∷ rest) ≡ false → is_blank_byte byte ≡ false
no_blank_byte byte rest h =
    elim (cases_Bool (is_blank_byte byte)) [
      | inl k ↦ let e : true ≡ false = sym (ap (ltb 0) (cond-true (is_blank_byte byte) 1 _ k)) ∙ h in cc
      | inr k ↦ k
    ]

no_indent-key : (key value : List ℕ) → begins_blank key ≡ false → no_indent (printed_text key value) ≡ true
no_indent-key [] value h = refl
no_indent-key (byte ∷ rest) value h =
    elim (cases_Bool (eqb byte 35)) [
      | inl k ↦ ap (λ l. no_indent (l ++ 58 ∷ printed_value value)) (cond-true _ _ _ k)
      | inr k ↦
          let b = no_blank_byte byte rest h in
          let p = or_parts (eqb byte 32 || eqb byte 9) (eqb byte 13) b in
          let q = or_parts (eqb byte 32) (eqb byte 9) p.0 in
          ap (λ l. no_indent (l ++ 58 ∷ printed_value value)) (cond-false _ _ _ k) ∙ ap not (or_from _ _ q.1 q.0)
    ]

-- No `#` without a backslash before it.
abbrev no_comment : ℕ → List ℕ → Bool
no_comment before [] = true
no_comment before (byte ∷ rest) = not (eqb byte 35 && not (eqb before 92)) && no_comment byte rest

without_comment-none : (before : ℕ) (text : List ℕ) → no_comment before text ≡ true → without_comment before text ≡ text
without_comment-none before [] h = refl
without_comment-none before (byte ∷ rest) h =
    let p = and_parts (not (eqb byte 35 && not (eqb before 92))) (no_comment byte rest) h in
    cond-false _ _ _ (not-true _ p.0) ∙ ap (λ l. byte ∷ l) (without_comment-none byte rest p.1)

no_comment-escape : (before : ℕ) (text tail : List ℕ) → ((b : ℕ) → no_comment b tail ≡ true) → no_comment before (escape text ++ tail) ≡ true
no_comment-escape before [] tail h = h before
no_comment-escape before (byte ∷ rest) tail h =
    elim (cases_Bool (eqb byte 35)) [
      | inl k ↦ ap (λ l. no_comment before (l ++ tail)) (cond-true _ _ _ k) ∙ no_comment-escape 35 rest tail h
      | inr k ↦
          ap (λ l. no_comment before (l ++ tail)) (cond-false _ _ _ k)
          ∙ and_from _ _ (ap not (and_left _ _ k)) (no_comment-escape byte rest tail h)
    ]

no_comment-end : (b : Bool) (before : ℕ) → no_comment before (cond b (92 ∷ []) []) ≡ true
no_comment-end true before = refl
no_comment-end false before = refl

no_comment-start : (b : Bool) (before : ℕ) (text : List ℕ) → ((c : ℕ) → no_comment c text ≡ true) → no_comment before (cond b (92 ∷ []) [] ++ text) ≡ true
no_comment-start true before text h = h 92
no_comment-start false before text h = h before

no_comment-value : (before : ℕ) (value : List ℕ) → no_comment before (printed_value value) ≡ true
no_comment-value before [] = refl
no_comment-value before (byte ∷ rest) =
    no_comment-start (begins_blank (byte ∷ rest)) 32 _ (λ c. no_comment-escape c (byte ∷ rest) (end_guard (byte ∷ rest)) (no_comment-end (ends_blank (byte ∷ rest))))

no_comment-text : (key value : List ℕ) → no_comment 0 (printed_text key value) ≡ true
no_comment-text key value = no_comment-escape 0 key (58 ∷ printed_value value) (λ b. no_comment-value 58 value)

-- A colon is no blank.
not_blank : (key value : List ℕ) → is_blank_text (printed_text key value) ≡ false
not_blank key value =
    let tail = 58 ∷ printed_value value in
    let n : NeverBlank tail = record { whole = refl; mark = refl; last = refl } in
    (never_blank-append (escape key) tail n).whole

-- The key.
before_colon-at : (text tail : List ℕ) → lacks 58 text ≡ true → before_colon (text ++ 58 ∷ tail) ≡ text
before_colon-at [] tail h = refl
before_colon-at (byte ∷ text) tail h =
    let p = and_parts (not (eqb byte 58)) (lacks 58 text) h in
    cond-false _ _ _ (not-true _ p.0) ∙ ap (λ l. byte ∷ l) (before_colon-at text tail p.1)

after_colon-at : (text tail : List ℕ) → lacks 58 text ≡ true → after_colon (text ++ 58 ∷ tail) ≡ tail
after_colon-at [] tail h = refl
after_colon-at (byte ∷ text) tail h =
    let p = and_parts (not (eqb byte 58)) (lacks 58 text) h in
    cond-false _ _ _ (not-true _ p.0) ∙ after_colon-at text tail p.1

no_blank_len : (text : List ℕ) → begins_blank text ≡ false → blank_len text ≡ 0
no_blank_len text h = let l : blank_len text ≤ 0 = ltb-false 0 (blank_len text) h in omega arith

trim-none : (text : List ℕ) → begins_blank text ≡ false → ends_blank text ≡ false → trim text ≡ text
trim-none text s e = ap trim_end (trim_start-none text (no_blank_len text s)) ∙ trim_end-none text e

key_again : (key value : List ℕ) → lacks 58 key ≡ true → begins_blank key ≡ false → ends_blank key ≡ false → key_of (printed_text key value) ≡ key
unfolding key_of
key_again key value c s e =
    ap (λ l. unescape (trim l)) (before_colon-at (escape key) (printed_value value) (lacks-escape 58 key refl refl c))
    ∙ ap unescape (trim-none (escape key) (ap (ltb 0) (blank_len-escape key) ∙ s) (ends_blank-escape key ∙ e))
    ∙ unescape-escape key

-- The value.
begins_191-push : (text : List ℕ) → begins_191 (text ++ 92 ∷ []) ≡ begins_191 text
begins_191-push [] = refl
begins_191-push (byte ∷ rest) = refl

begins_187_191-push : (text : List ℕ) → begins_187_191 (text ++ 92 ∷ []) ≡ begins_187_191 text
begins_187_191-push [] = refl
begins_187_191-push (byte ∷ rest) = ap (λ t. eqb byte 187 && t) (begins_191-push rest)

blank_len-push : (text : List ℕ) → blank_len (text ++ 92 ∷ []) ≡ blank_len text
blank_len-push [] = refl
blank_len-push (byte ∷ rest) = ap (λ t. cond (is_blank_byte byte) 1 (cond (eqb byte 239 && t) 3 0)) (begins_187_191-push rest)

blank_len-end : (text : List ℕ) (e : Bool) → blank_len (text ++ cond e (92 ∷ []) []) ≡ blank_len text
blank_len-end text true = blank_len-push text
blank_len-end text false = ap blank_len (append-nil text)

begins_guarded-end : (text : List ℕ) (e : Bool) → begins_guarded (text ++ cond e (92 ∷ []) []) ≡ begins_guarded text
begins_guarded-end [] true = refl
begins_guarded-end [] false = refl
begins_guarded-end (byte ∷ rest) e = ap (λ n. eqb byte 92 && ltb 0 n) (blank_len-end rest e)

pub unguarded_start-none : (text : List ℕ) → begins_guarded text ≡ false → unguarded_start text ≡ text
unguarded_start-none [] h = refl
unguarded_start-none (byte ∷ rest) h = cond-false _ _ _ h

-- What is between the space and the LF: `s` says that the value begins with a blank, `e` that it
-- ends with one.
abbrev guarded : Bool → Bool → List ℕ → List ℕ
guarded s e value = cond s (92 ∷ []) [] ++ (escape value ++ cond e (92 ∷ []) [])

starts_plain : (s e : Bool) (value : List ℕ) → begins_blank value ≡ s → begins_blank (guarded s e value) ≡ false
starts_plain true e value h = refl
starts_plain false e value h = ap (ltb 0) (blank_len-end (escape value) e ∙ blank_len-escape value) ∙ h

ends_behind : (s : Bool) (text : List ℕ) → ends_blank (cond s (92 ∷ []) [] ++ text) ≡ ends_blank text
ends_behind true text = refl
ends_behind false text = refl

ends_plain : (s e : Bool) (value : List ℕ) → ends_blank value ≡ e → ends_blank (guarded s e value) ≡ false
ends_plain s true value h =
    ends_behind s (escape value ++ 92 ∷ []) ∙ ends_blank-append (escape value) (92 ∷ []) (record { whole = refl; mark = refl; last = refl }) refl
ends_plain s false value h = ends_behind s (escape value ++ []) ∙ ap ends_blank (append-nil (escape value)) ∙ ends_blank-escape value ∙ h

start_dropped : (s e : Bool) (value : List ℕ) → begins_blank value ≡ s → begins_guarded value ≡ false →
    unguarded_start (guarded s e value) ≡ escape value ++ cond e (92 ∷ []) []
start_dropped true e value h g = cond-true _ _ _ (ap (ltb 0) (blank_len-end (escape value) e ∙ blank_len-escape value) ∙ h)
start_dropped false e value h g =
    unguarded_start-none (escape value ++ cond e (92 ∷ []) []) (begins_guarded-end (escape value) e ∙ begins_guarded-escape value ∙ g)

-- A text and its last byte.
pub ends_guarded-push : (text : List ℕ) (byte : ℕ) → ends_guarded (text ++ byte ∷ []) ≡ (eqb byte 92 && ends_blank text)
ends_guarded-push text byte =
    let long = length_push text byte in
    let at : length (text ++ byte ∷ []) - 1 ≡ length text = omega arith in
    let some : ltb 0 (length (text ++ byte ∷ [])) ≡ true = lt-ltb 0 _ (omega arith) in
    ap (λ b. (b && eqb (get_or (text ++ byte ∷ []) (length (text ++ byte ∷ []) - 1) 0) 92) && ends_blank (take (length (text ++ byte ∷ []) - 1) (text ++ byte ∷ []))) some
    ∙ ap (λ i. eqb (get_or (text ++ byte ∷ []) i 0) 92 && ends_blank (take i (text ++ byte ∷ []))) at
    ∙ ap (λ b. eqb b 92 && ends_blank (take (length text) (text ++ byte ∷ []))) (get_or_push text byte 0 (length text) refl)
    ∙ ap (λ l. eqb byte 92 && ends_blank l) (take_at text (byte ∷ []) (length text) refl)

pub without_last-push : (text : List ℕ) (byte : ℕ) → without_last (text ++ byte ∷ []) ≡ text
without_last-push text byte =
    let long = length_push text byte in
    let at : length (text ++ byte ∷ []) - 1 ≡ length text = omega arith in
    ap (λ i. take i (text ++ byte ∷ [])) at ∙ take_at text (byte ∷ []) (length text) refl

pub unguarded_end-push : (text : List ℕ) (byte : ℕ) → (eqb byte 92 && ends_blank text) ≡ true → unguarded_end (text ++ byte ∷ []) ≡ text
unfolding unguarded_end
unguarded_end-push text byte h = cond-true _ _ _ (ends_guarded-push text byte ∙ h) ∙ without_last-push text byte

pub unguarded_end-none : (text : List ℕ) → ends_guarded text ≡ false → unguarded_end text ≡ text
unfolding unguarded_end
unguarded_end-none text h = cond-false _ _ _ h

ends_guarded-escape_push : (front : List ℕ) (byte : ℕ) → ends_guarded (front ++ byte ∷ []) ≡ false → ends_guarded (escape (front ++ byte ∷ [])) ≡ false
ends_guarded-escape_push front byte h =
    let g = sym (ends_guarded-push front byte) ∙ h in
    elim (cases_Bool (eqb byte 35)) [
      | inl k ↦
          ap (λ b. ends_guarded (escape (front ++ b ∷ []))) (eqb-true byte 35 k)
          ∙ ap ends_guarded (escape-push_sign front)
          ∙ ends_guarded-push (escape front ++ 92 ∷ []) 35
      | inr k ↦
          ap ends_guarded (escape-push front byte k)
          ∙ ends_guarded-push (escape front) byte
          ∙ ap (λ t. eqb byte 92 && t) (ends_blank-escape front)
          ∙ g
    ]

ends_guarded-escape : (text : List ℕ) → ends_guarded text ≡ false → ends_guarded (escape text) ≡ false
ends_guarded-escape [] h = refl
ends_guarded-escape (byte ∷ rest) h =
    let text = byte ∷ rest in
    let split = last_one text (length rest) (omega arith) in
    ap (λ l. ends_guarded (escape l)) split
    ∙ ends_guarded-escape_push (take (length rest) text) (get_or text (length rest) 0) (sym (ap ends_guarded split) ∙ h)

end_dropped : (e : Bool) (value : List ℕ) → ends_blank value ≡ e → ends_guarded value ≡ false → unguarded_end (escape value ++ cond e (92 ∷ []) []) ≡ escape value
end_dropped true value h g = unguarded_end-push (escape value) 92 (ends_blank-escape value ∙ h)
end_dropped false value h g = ap unguarded_end (append-nil (escape value)) ∙ unguarded_end-none (escape value) (ends_guarded-escape value g)

-- A value as it was printed, read.
value_read : (value : List ℕ) → begins_guarded value ≡ false → ends_guarded value ≡ false →
    unescape (unguarded_end (unguarded_start (trim (printed_value value)))) ≡ value
value_read [] s e = ap unescape (unguarded_end-none [] refl)
value_read (byte ∷ rest) s e =
    let value = byte ∷ rest in
    let b = begins_blank value in
    let n = ends_blank value in
    ap (λ l. unescape (unguarded_end (unguarded_start l))) (trim-none (guarded b n value) (starts_plain b n value refl) (ends_plain b n value refl))
    ∙ ap (λ l. unescape (unguarded_end l)) (start_dropped b n value refl s)
    ∙ ap unescape (end_dropped n value refl e)
    ∙ unescape-escape value

value_again : (key value : List ℕ) → lacks 58 key ≡ true → begins_guarded value ≡ false → ends_guarded value ≡ false → value_of (printed_text key value) ≡ value
unfolding value_of
value_again key value c s e =
    ap (λ l. unescape (unguarded_end (unguarded_start (trim l)))) (after_colon-at (escape key) (printed_value value) (lacks-escape 58 key refl refl c))
    ∙ value_read value s e

-- A printed line says what it was printed for.
pub words_again : (words : Words) → IsReadable words → words_of (tabs words.level ++ printed_text words.key words.value) ≡ Some words
unfolding words_of
words_again words h =
    let text = printed_text words.key words.value in
    let line = tabs words.level ++ text in
    let i = indented words.level text (no_indent-key words.key words.value h.key_start) in
    let t : without_comment 0 (after_indent line) ≡ text = ap (without_comment 0) i.rest ∙ without_comment-none 0 text (no_comment-text words.key words.value) in
    let level : level_of line ≡ words.level =
    ap (λ n. n + indent_spaces line / 4) i.tabs_in ∙ ap (λ n. words.level + n / 4) i.spaces_in ∙ (let e : words.level + 0 ≡ words.level = omega arith in e) in
    ap (λ l. cond (is_blank_text l) None (Some (record { level = level_of line; key = key_of l; value = value_of l }))) t
    ∙ cond-false _ _ _ (not_blank words.key words.value)
    ∙ ap (λ n. Some (record { level = n; key = key_of text; value = value_of text })) level
    ∙ ap (λ k. Some (record { level = words.level; key = k; value = value_of text })) (key_again words.key words.value h.key_no_colon h.key_start h.key_end)
    ∙ ap (λ v. Some (record { level = words.level; key = words.key; value = v })) (value_again words.key words.value h.key_no_colon h.value_start h.value_end)

lines_of-printed : (words : Words) (rest : List ℕ) → IsReadable words →
    lines_of (printed_line words ++ rest) ≡ (tabs words.level ++ printed_text words.key words.value) ∷ lines_of rest
unfolding printed_line
lines_of-printed words rest h =
    let line = tabs words.level ++ printed_text words.key words.value in
    ap lines_of (append_assoc line (10 ∷ []) rest)
    ∙ lines_of-line line rest
    (lacks-append 10 (tabs words.level) (printed_text words.key words.value) (lacks-tabs words.level) (lacks-text words.key words.value h.key_in_line h.value_in_line))

read_from : (file line : ℕ) (nodes : List Kept) → AllReadable nodes → said (kept_from file line (lines_of (printed nodes))) ≡ said nodes
read_from file line [] h = refl
read_from file line (node ∷ rest) h =
    ap (λ l. said (kept_from file line l)) (lines_of-printed node.words (printed rest) h.0)
    ∙ ap (λ w. said (kept_of (record { file = file; line = line }) w ++ kept_from file (line + 1) (lines_of (printed rest)))) (words_again node.words h.0)
    ∙ ap (λ l. node.words ∷ l) (read_from file (line + 1) rest h.1)

-- What is printed of nodes that came out of lines is read again as they are.
pub read_again : (file : ℕ) (nodes : List Kept) → AllReadable nodes → said (kept_lines file (printed nodes)) ≡ said nodes
read_again file nodes h = read_from file 1 nodes h
