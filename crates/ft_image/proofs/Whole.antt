-- Words in which a song was laid show it.
use Rattle.std.proofs.Common.{◌≡◌, ℕ, ◌*◌, ◌/◌, ◌≤◌, List, ◌++◌, length, take, sym, ap, subst, ◌∙◌, arith}
use Rattle.std.proofs.Math.Seq.{take-append_seam}
use Rattle.ft_types.specs.declared.module.Module.{Module}
use Rattle.ft_types.specs.Valid.{IsValid}
use Rattle.ft_types.specs.Blocks.{blocks_of}
use Rattle.ft_segments.specs.Walk.{SongIds, IsSound, walk}
use Rattle.ft_image.specs.Shown.{Shows, ShowsParts}
use Rattle.ft_image.specs.Laid.{song_laid}
use Rattle.ft_image.proofs.Sums.{laid_sound}
use Rattle.ft_image.proofs.Walks.{walks}

pub laid_walks : (pool : List ℕ) (m : Module) → IsValid m → blocks_of m ≤ 65535
    → ShowsParts pool m (song_laid m) → walk pool 0 ≡ song_laid m
laid_walks pool m valid few stands = walks pool m (song_laid m) (blocks_of m) valid (omega arith) (laid_sound m) stands

pub laid_shows : (pool : List ℕ) (m : Module) → IsValid m → blocks_of m ≤ 65535 → length pool ≡ 256 * blocks_of m
    → ShowsParts pool m (song_laid m) → Shows (record { root = 0; pool = pool }) m
laid_shows pool m valid few long stands =
    let is : walk pool 0 ≡ song_laid m = laid_walks pool m valid few stands in
    let segments : blocks_of m ≡ length pool / 256 = omega arith in
    record {
      valid = valid;
      sound = subst (λ (ids : SongIds). IsSound (length pool / 256) ids) (sym is) (subst (λ (n : ℕ). IsSound n (song_laid m)) segments
          (laid_sound m));
      stands = subst (λ (ids : SongIds). ShowsParts pool m ids) (sym is) stands;
    }

-- words that were written through a slice of all of them
pub written : (n : ℕ) (words rest : List ℕ) → n ≡ length words → take n (words ++ rest) ≡ words
written n words rest e = ap (λ (k : ℕ). take k (words ++ rest)) e ∙ take-append_seam words rest
