-- Nodes whose keys and values a line can give.
use Rattle.std.specs.Prelude.{◌≡◌, ℕ, Bool, true, false, ◌&&◌, not, List, [], ◌∷◌, ◌==◌, map}
use Rattle.yaml_lines.specs.Blanks.{begins_blank, ends_blank}
use Rattle.yaml_lines.specs.Reading.{Words, ends_with, without_last}
use Rattle.yaml_lines.specs.declared.forest.Forest.{Forest}
use Rattle.yaml_lines.specs.Kept.{Kept}
use Rattle.yaml_lines.specs.Trees.{trees_of, flat}

-- The byte doesn't stand in the text.
abbrev pub lacks : ℕ → List ℕ → Bool
lacks byte [] = true
lacks byte (first ∷ rest) = not (first == byte) && lacks byte rest

-- The text begins with a backslash and a blank, or ends with a blank and a backslash.
abbrev pub begins_guarded : List ℕ → Bool
begins_guarded [] = false
begins_guarded (byte ∷ rest) = byte == 92 && begins_blank rest

abbrev pub ends_guarded : List ℕ → Bool
ends_guarded text = ends_with 92 text && ends_blank (without_last text)

-- A key has no LF, no colon and no blank at its ends. A value has no LF, and no backslash before a
-- blank at its start or after one at its end.
pub record IsReadable (words : Words) : Type 0 where
  pub key_in_line : lacks 10 words.key ≡ true
  pub key_no_colon : lacks 58 words.key ≡ true
  pub key_start : begins_blank words.key ≡ false
  pub key_end : ends_blank words.key ≡ false
  pub value_in_line : lacks 10 words.value ≡ true
  pub value_start : begins_guarded words.value ≡ false
  pub value_end : ends_guarded words.value ≡ false

abbrev pub AllReadable : List Kept → Type 0
AllReadable [] = Unit {0}
AllReadable (node ∷ rest) = IsReadable node.words × AllReadable rest

-- Lines can give the nodes of the forest.
abbrev pub IsReadableForest : Forest → Type 0
IsReadableForest forest = AllReadable (flat 0 (trees_of forest))

-- What nodes say, wherever they stand.
abbrev pub said : List Kept → List Words
said nodes = map (λ (node : Kept). node.words) nodes
