-- Terrains by their numbers.
use Rattle.std.proofs.Common.{◌≡◌, ◌*◌, ℕ, zero, suc, List, ◌∷◌, map, replicate, set, refl, sym, ap, ◌∙◌}
use Rattle.std.proofs.lemmas.List.{length-set, length-replicate, map-set}
use Rattle.game_model.specs.declared.terrain.Terrain.{Terrain}
use Rattle.game_model.specs.declared.terrain.Terrain.TheVariants.{Clear, Road, Rough, Water, Rock}
use Rattle.game_model.specs.Packed.{AreTerrains}
use Rattle.game_model.specs.Terrain.{number_of, terrain_of}

pub terrain_told : (t : Terrain) → terrain_of (number_of t) ≡ t
terrain_told Clear = refl
terrain_told Road = refl
terrain_told Rough = refl
terrain_told Water = refl
terrain_told Rock = refl

pub clear_terrains : (n : ℕ) → map terrain_of (replicate n 0) ≡ replicate n Clear
clear_terrains zero = refl
clear_terrains (suc n) = ap (λ ts. Clear ∷ ts) (clear_terrains n)

zeros_told : (n : ℕ) → map number_of (replicate n Clear) ≡ replicate n 0
zeros_told zero = refl
zeros_told (suc n) = ap (λ ns. 0 ∷ ns) (zeros_told n)

pub clear_stored :
    (width height n : ℕ) → n ≡ width * height → AreTerrains width height (replicate n 0)
clear_stored width height n is =
    record {
      whole = length-replicate n 0 ∙ is;
      told = ap (map number_of) (clear_terrains n) ∙ zeros_told n;
    }

pub set_terrain :
    (numbers : List ℕ) (i : ℕ) (t : Terrain) →
    map terrain_of (set numbers i (number_of t)) ≡ set (map terrain_of numbers) i t
set_terrain numbers i t =
    map-set terrain_of numbers i (number_of t)
    ∙ ap (λ s. set (map terrain_of numbers) i s) (terrain_told t)

pub set_stored :
    (width height : ℕ) (numbers : List ℕ) (i : ℕ) (t : Terrain) → AreTerrains width height numbers →
    AreTerrains width height (set numbers i (number_of t))
set_stored width height numbers i t stored =
    record {
      whole = length-set numbers i (number_of t) ∙ stored.whole;
      told =
          ap (map number_of) (set_terrain numbers i t) ∙ map-set number_of (map terrain_of numbers) i t
          ∙ ap (λ ns. set ns i (number_of t)) stored.told;
    }

-- Numbers of the same terrains are the same.
pub numbers_told :
    (a b : List ℕ) → map number_of (map terrain_of a) ≡ a → map number_of (map terrain_of b) ≡ b →
    map terrain_of a ≡ map terrain_of b → a ≡ b
numbers_told a b first second same = sym first ∙ ap (map number_of) same ∙ second
