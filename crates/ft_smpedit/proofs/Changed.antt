-- The frames of a sample after an edit.
use Rattle.std.proofs.Common.{◌≡◌, ℕ, ◌-◌, Bool, true, false, ◌==◌, List, ◌++◌, length, take, drop, refl}
use Rattle.std.specs.Prelude.{min, if◌then◌else◌}
use Rattle.ft_types.specs.declared.sample.Sample.{Sample}
use Rattle.ft_edits.specs.Samples.{with_loop, with_frames, refitted, without_frames, with_new_frames}

frames_of_either : (b : Bool) (x y : Sample) → x.frames ≡ y.frames → (if b then x else y).frames ≡ y.frames
frames_of_either true x y same = same
frames_of_either false x y same = refl

refitted_frames : (x : Sample) → (refitted x).frames ≡ x.frames
refitted_frames x =
    let start = min (length x.frames) x.loop_start in
    let len = min (length x.frames - start) x.loop_len in
    frames_of_either (len == 0) (with_loop 0 0 0 x) (with_loop x.loop_kind start len x) refl

pub frames_of_cut : (from to : ℕ) (x : Sample) → (without_frames from to x).frames ≡ take from x.frames ++ drop to x.frames
frames_of_cut from to x = refitted_frames (with_frames (λ frames. take from frames ++ drop to frames) x)

pub frames_of_paste : (at : ℕ) (new : List Rattle.std.specs.Prelude.ℤ) (x : Sample) → (with_new_frames at new x).frames ≡ take at x.frames ++ (new ++ drop at x.frames)
frames_of_paste at new x = refitted_frames (with_frames (λ frames. take at frames ++ (new ++ drop at frames)) x)
