-- Texts that are written one after another.
use Rattle.std.specs.Prelude.{◌≡◌, ℕ, List, [], ◌++◌, Option, None, Some, refl}
use Rattle.std.specs.Option.{option_map}
use Rattle.std.proofs.Common.{sym, ap, ◌∙◌, append_assoc, append-nil}
use Rattle.base.specs.Written.{Wrote, WrotePrefix, WroteUpTo}

-- Nothing written is the empty text written.
pub Wrote-nil : (old : Option (List ℕ)) → Wrote old old []
Wrote-nil None = refl
Wrote-nil (Some held) = ap Some (sym (append-nil held))

-- Two texts written one after the other are their join.
pub Wrote-append :
    (old mid new : Option (List ℕ)) (xs ys : List ℕ) → Wrote old mid xs → Wrote mid new ys →
    Wrote old new (xs ++ ys)
Wrote-append None mid new xs ys first second = second ∙ ap (option_map (λ held. held ++ ys)) first
Wrote-append (Some held) mid new xs ys first second =
    second ∙ ap (option_map (λ bytes. bytes ++ ys)) first ∙ ap Some (append_assoc held xs ys)

-- Before the first piece everything is left.
pub nothing_yet : (old : Option (List ℕ)) (whole : List ℕ) → WroteUpTo old old whole whole
nothing_yet old whole = record { prefix = []; joined = refl; wrote = Wrote-nil old }

-- After one more piece the rest is shorter by it.
pub one_more :
    (old mid new : Option (List ℕ)) (piece rest whole : List ℕ) →
    WroteUpTo old mid (piece ++ rest) whole → Wrote mid new piece → WroteUpTo old new rest whole
one_more old mid new piece rest whole upto wrote =
    record {
      prefix = upto.prefix ++ piece;
      joined = append_assoc upto.prefix piece rest ∙ upto.joined;
      wrote = Wrote-append old mid new upto.prefix piece upto.wrote wrote;
    }

-- What was written so far is a prefix of the whole.
pub prefix_of :
    (old new : Option (List ℕ)) (rest whole : List ℕ) → WroteUpTo old new rest whole →
    WrotePrefix old new whole
prefix_of old new rest whole upto =
    record { prefix = upto.prefix; rest = rest; whole = upto.joined; wrote = upto.wrote }

-- A piece that was cut off leaves a prefix of the whole.
pub prefix_put :
    (old mid new : Option (List ℕ)) (piece rest whole : List ℕ) →
    WroteUpTo old mid (piece ++ rest) whole → WrotePrefix mid new piece → WrotePrefix old new whole
prefix_put old mid new piece rest whole upto part =
    record {
      prefix = upto.prefix ++ part.prefix;
      rest = part.rest ++ rest;
      whole =
          append_assoc upto.prefix part.prefix (part.rest ++ rest)
          ∙ ap (λ bytes. upto.prefix ++ bytes) (sym (append_assoc part.prefix part.rest rest) ∙ ap (λ bytes. bytes ++ rest) part.whole)
          ∙ upto.joined;
      wrote = Wrote-append old mid new upto.prefix part.prefix upto.wrote part.wrote;
    }

-- The last piece completes the whole.
pub last_piece :
    (old mid new : Option (List ℕ)) (piece whole : List ℕ) →
    WroteUpTo old mid piece whole → Wrote mid new piece → Wrote old new whole
last_piece old mid new piece whole upto wrote =
    Wrote-append old mid new upto.prefix piece upto.wrote wrote
    ∙ ap (λ bytes. option_map (λ held. held ++ bytes) old) upto.joined

-- A last piece that was cut off leaves a prefix of the whole.
pub last_prefix :
    (old mid new : Option (List ℕ)) (piece whole : List ℕ) →
    WroteUpTo old mid piece whole → WrotePrefix mid new piece → WrotePrefix old new whole
last_prefix old mid new piece whole upto part =
    record {
      prefix = upto.prefix ++ part.prefix;
      rest = part.rest;
      whole = append_assoc upto.prefix part.prefix part.rest
          ∙ ap (λ bytes. upto.prefix ++ bytes) part.whole ∙ upto.joined;
      wrote = Wrote-append old mid new upto.prefix part.prefix upto.wrote part.wrote;
    }

-- All of a text is a prefix of it.
pub whole_prefix :
    (old new : Option (List ℕ)) (whole : List ℕ) → Wrote old new whole → WrotePrefix old new whole
whole_prefix old new whole wrote =
    record { prefix = whole; rest = []; whole = append-nil whole; wrote = wrote }
