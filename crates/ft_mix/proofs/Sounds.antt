-- What is written frame by frame is the sound.
use Rattle.std.proofs.Common.{◌≡◌, ℕ, zero, suc, ◌+◌, ◌*◌, ◌≤◌, ◌<◌, ℤ, pos, Option, List, [], ◌∷◌, ◌++◌, length, get_or, take, add-one, subst, ◌-◌, refl, ap, sym, ◌∙◌, arith}
use Rattle.std.proofs.lemmas.List.{take_all}
use Rattle.ft_types.specs.declared.voice.Voice.{Voice}
use Rattle.ft_types.specs.Views.{Owned}
use Rattle.ft_replay.specs.Sound.{sound_of_voices, frame_of_voices, voices_sum, left_of, right_of, clipped}
use Rattle.ft_mix.specs.Mixing.{IsFrame, AreFrames}
use Rattle.ft_mix.proofs.Costs.{by_lt}

take_two : (xs : List ℤ) (n : ℕ) → suc n < length xs
    → take (suc (suc n)) xs ≡ take n xs ++ get_or xs n (pos 0) ∷ get_or xs (suc n) (pos 0) ∷ []
take_two [] n lt = absurd (omega arith)
take_two (x ∷ []) n lt = absurd (omega arith)
take_two (x ∷ y ∷ xs) zero lt = refl
take_two (x ∷ y ∷ xs) (suc n) lt = ap (λ (l : List ℤ). x ∷ l) (take_two (y ∷ xs) n (omega arith))

sound_of_frames : (kept : List (Option Owned)) (voices : List Voice) (frames : ℕ) (out : List ℤ)
    → 2 * frames ≤ length out → AreFrames kept voices frames out
    → take (2 * frames) out ≡ sound_of_voices kept voices frames
unfolding sound_of_voices frame_of_voices
sound_of_frames kept voices zero out room s = refl
sound_of_frames kept voices (suc frames) out room s =
    let before = sound_of_frames kept voices frames out (omega arith) (λ k lt. s k (omega arith)) in
    let here = s frames (omega arith) in
    let twice : 2 * suc frames ≡ suc (suc (2 * frames)) = omega arith in
    let even : get_or out (2 * frames) (pos 0) ≡ clipped (voices_sum (left_of frames) kept voices) = here.left in
    let odd : get_or out (suc (2 * frames)) (pos 0) ≡ clipped (voices_sum (right_of frames) kept voices) =
    ap (λ (n : ℕ). get_or out n (pos 0)) (sym (add-one (2 * frames))) ∙ here.right in
    rw twice (take_two out (2 * frames) (omega arith))
    ∙ ap (λ (l : List ℤ). l ++ get_or out (2 * frames) (pos 0) ∷ get_or out (suc (2 * frames)) (pos 0) ∷ []) before
    ∙ ap (λ (x : ℤ). sound_of_voices kept voices frames ++ x ∷ get_or out (suc (2 * frames)) (pos 0) ∷ []) even
    ∙ ap (λ (x : ℤ). sound_of_voices kept voices frames ++ clipped (voices_sum (left_of frames) kept voices) ∷ x ∷ [])
    odd

-- and where they are all frames
pub sound_is : (kept : List (Option Owned)) (voices : List Voice) (frames : ℕ) (out : List ℤ) → length out ≡ 2 * frames
    → AreFrames kept voices frames out
    → out ≡ sound_of_voices kept voices frames
sound_is kept voices frames out many s =
    sym (ap (λ (n : ℕ). take n out) (sym many) ∙ take_all (length out) out (omega arith))
    ∙ sound_of_frames kept voices frames out (omega arith) s

-- ---- block by block

-- a frame before those that are written stays
same_frame : (kept : List (Option Owned)) (voices : List Voice) (k first : ℕ) (out out_after : List ℤ) → k < first
    → ((j : ℕ) → j < 2 * first → get_or out_after j (pos 0) ≡ get_or out j (pos 0))
    → IsFrame (voices_sum (left_of k) kept voices) (voices_sum (right_of k) kept voices) k out
    → IsFrame (voices_sum (left_of k) kept voices) (voices_sum (right_of k) kept voices) k out_after
same_frame kept voices k first out out_after lt same is = record {
  left = same (2 * k) (omega arith) ∙ is.left;
  right = same (2 * k + 1) (omega arith) ∙ is.right;
}

-- and with those that are written there are more
pub more_frames : (kept : List (Option Owned)) (voices : List Voice) (first many : ℕ) (out out_after : List ℤ)
    → AreFrames kept voices first out
    → ((j : ℕ) → j < 2 * first → get_or out_after j (pos 0) ≡ get_or out j (pos 0))
    → ((k : ℕ) → k < many
    → IsFrame (voices_sum (left_of (first + k)) kept voices) (voices_sum (right_of (first + k)) kept voices)
    (first + k) out_after)
    → AreFrames kept voices (first + many) out_after
more_frames kept voices first many out out_after are same new k lt =
    by_lt k first (λ below. same_frame kept voices k first out out_after below same (are k below))
    (λ from.
    let here : first + (k - first) ≡ k = omega arith in
    subst (λ (n : ℕ). IsFrame (voices_sum (left_of n) kept voices) (voices_sum (right_of n) kept voices) n out_after)
    here (new (k - first) (omega arith)))

-- the end of a block of at most 512 frames
pub block_end : (first many frames n : ℕ) → many ≤ 512 → first + many ≤ frames → (many < 512 → first + many ≡ frames)
    → n ≤ first + 512 → (n < first + 512 → n ≡ frames) → n ≤ frames → n ≡ first + many
block_end first many frames n few within whole most rest le =
    by_lt many 512
    (λ lt. let e = whole lt in by_lt n (first + 512) (λ below. let f = rest below in omega arith) (λ from. omega arith))
    (λ from. by_lt n (first + 512) (λ below. let f = rest below in omega arith) (λ more. omega arith))

pub in_block : (first many frames k : ℕ) → (many < 512 → first + many ≡ frames) → k < first + 512 → k < frames
    → k < first + many
in_block first many frames k whole near lt =
    by_lt many 512 (λ less. let e = whole less in omega arith) (λ full. omega arith)

-- a block that the whole of a tick goes on after, and its last one
pub full_block : (first many frames : ℕ) → many ≤ 512 → (many < 512 → first + many ≡ frames) → first + 512 ≤ frames
    → many ≡ 512
full_block first many frames few whole le =
    by_lt many 512 (λ less. let e = whole less in omega arith) (λ full. omega arith)

pub last_block : (first many frames : ℕ) → first + many ≤ frames → (many < 512 → first + many ≡ frames)
    → frames ≤ first + 512 → first + many ≡ frames
last_block first many frames within whole le = by_lt many 512 (λ less. whole less) (λ full. omega arith)
