-- The laws of sound as bytes.
use Rattle.std.proofs.Common.{◌≡◌, ℕ, ℤ, ◌*◌, List, [], ◌∷◌, ◌++◌, length, take, drop, refl, sym, ap, ◌∙◌, arith, length-append}
use Rattle.std.proofs.lemmas.List.{take-append-drop}
use Rattle.std.proofs.lemmas.List.Concat.{flat_map-cons}
use Rattle.std.proofs.lemmas.Grind.{flat_map-append}
use Rattle.ft_out.specs.Wav.{number_bytes, sound_bytes}

-- some sound, and then other sound
pub sound_bytes-append : (first second : List ℤ)
    → sound_bytes (first ++ second) ≡ sound_bytes first ++ sound_bytes second
sound_bytes-append first second = flat_map-append number_bytes first second

-- two bytes for each number
pub length-sound_bytes : (sound : List ℤ) → length (sound_bytes sound) ≡ 2 * length sound
length-sound_bytes [] = refl
length-sound_bytes (number ∷ sound) =
    let two : length (number_bytes number) ≡ 2 = refl in
    let joined : sound_bytes (number ∷ sound) ≡ number_bytes number ++ sound_bytes sound =
    flat_map-cons number_bytes number sound in
    omega
    (arith, two, ap length joined, length-append (number_bytes number) (sound_bytes sound), length-sound_bytes sound)

-- the next piece, and then the rest
pub sound_bytes-piece : (sound : List ℤ) (n : ℕ)
    → sound_bytes sound ≡ sound_bytes (take n sound) ++ sound_bytes (drop n sound)
sound_bytes-piece sound n =
    ap sound_bytes (sym (take-append-drop n sound)) ∙ sound_bytes-append (take n sound) (drop n sound)
