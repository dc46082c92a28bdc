-- How frames may differ after an edit of a sample's frames.
use Rattle.std.proofs.Common.{◌≡◌, ℕ, ◌+◌, ◌-◌, ◌/◌, ◌==◌, ◌<◌, ◌≤◌, Bool, true, false, List, ◌++◌, length, take, drop, map, min, refl, ap, sym, ◌∙◌, arith, inl, inr, ℤ, pos}
use Rattle.std.specs.Prelude.{◌*ℤ◌, reverse, get_or, if◌then◌else◌}
use Rattle.std.proofs.lemmas.List.{length-map, length-reverse, length-take, length-drop, length-append, get_or_past}
use Rattle.ft_types.specs.declared.sample.Sample.{Sample}
use Rattle.ft_types.specs.Blocks.{pieces_of, bodies_of}
use Rattle.ft_edits.specs.Lists.{stretch_of, with_stretch}
use Rattle.ft_edits.specs.Samples.{with_loop, refitted, with_frames, without_frames, with_new_frames, turned, scaled, scaled_frame, with_bits, widened, narrowed, floor_of}
use Rattle.ft_changes.specs.Reached.{IsFramesChange}
use Rattle.ft_changes.proofs.Places.{before_cut, behind_stretch, stretch_length, no_stretch}

stretch_len : (xs : List ℤ) (from to : ℕ) → from ≤ to → to ≤ length xs → from + length (stretch_of from to xs) ≡ to
stretch_len xs from to low high =
    let a = length-take (to - from) (drop from xs) in
    let b = length-drop from xs in
    omega (arith, a, b, low, high)

-- as many frames between two places
pub between : (a b : Sample) (from to : ℕ) (change : List ℤ → List ℤ) → from < to → to ≤ length a.frames
    → ((xs : List ℤ) → length (change xs) ≡ length xs) → b.frames ≡ with_stretch from to change a.frames
    → IsFramesChange (from / 1024) (pieces_of to 1024) (pieces_of to 1024) a b
between a b from to change lt high same is =
    let le : from ≤ to = omega (arith, lt) in
    let mid = change (stretch_of from to a.frames) in
    let n : from + length mid ≡ to = omega (arith, stretch_len a.frames from to le high, same (stretch_of from to a.frames)) in
    let len : length b.frames ≡ length a.frames = ap length is ∙ stretch_length a.frames mid from to le high n in
    let bodies : bodies_of b ≡ bodies_of a = ap (λ n. pieces_of n 1024) len in
    record {
      upward = omega (arith, le);
      gone_upward = omega (arith, le);
      within = omega (arith, high);
      count = omega (arith, bodies);
      all = inl refl;
      before = λ k lt.
          ap (λ fs. get_or fs k (pos 0)) is
          ∙ before_cut a.frames (mid ++ drop to a.frames) from k (pos 0) (omega (arith, lt)) (omega (arith, le, high));
      behind = λ k le2 same2.
          ap (λ fs. get_or fs k (pos 0)) is
          ∙ behind_stretch a.frames mid from to k (pos 0) le high (omega (arith, le2)) n;
    }

-- all frames from one on
pub all_from : (a b : Sample) (from now : ℕ) → from ≤ length a.frames → from ≤ now → length b.frames ≡ now
    → ((k : ℕ) → k < from → get_or b.frames k (pos 0) ≡ get_or a.frames k (pos 0))
    → IsFramesChange (from / 1024) (pieces_of now 1024) (pieces_of (length a.frames) 1024) a b
all_from a b from now low high len same =
    let bodies : bodies_of b ≡ pieces_of now 1024 = ap (λ n. pieces_of n 1024) len in
    record {
      upward = omega (arith, high);
      gone_upward = omega (arith, low);
      within = omega arith;
      count = omega (arith, bodies);
      all = inr refl;
      before = λ k lt. same k (omega (arith, lt));
      behind = λ k le gone.
          get_or_past b.frames k (pos 0) (omega (arith, le, len))
          ∙ sym (get_or_past a.frames k (pos 0) (omega (arith, le, gone)));
    }

-- ---- each edit

refitted_if : (test : Bool) (a b : Sample) → a.frames ≡ b.frames → (if test then a else b).frames ≡ b.frames
refitted_if true a b same = same
refitted_if false a b same = refl

pub refitted_frames : (x : Sample) → (refitted x).frames ≡ x.frames
refitted_frames x = refitted_if (min (length x.frames - min (length x.frames) x.loop_start) x.loop_len == 0) (with_loop 0 0 0 x)
    (with_loop x.loop_kind (min (length x.frames) x.loop_start) (min (length x.frames - min (length x.frames) x.loop_start) x.loop_len)
    x) refl

pub cut_changes : (a : Sample) (from to : ℕ) → from ≤ to → to ≤ length a.frames
    → IsFramesChange (from / 1024) (pieces_of (length a.frames - (to - from)) 1024) (pieces_of (length a.frames) 1024) a
    (without_frames from to a)
cut_changes a from to low high =
    let frames = take from a.frames ++ drop to a.frames in
    let is : (without_frames from to a).frames ≡ frames =
    refitted_frames (with_frames (λ frames. take from frames ++ drop to frames) a) in
    let len : length (without_frames from to a).frames ≡ length a.frames - (to - from) =
    let x = length-append (take from a.frames) (drop to a.frames) in
    let y = length-take from a.frames in
    let z = length-drop to a.frames in
    ap length is ∙ omega (arith, x, y, z, low, high) in
    all_from a (without_frames from to a) from (length a.frames - (to - from)) (omega (arith, low, high)) (omega (arith, low, high)) len
    (λ k lt. ap (λ fs. get_or fs k (pos 0)) is ∙ before_cut a.frames (drop to a.frames) from k (pos 0) lt (omega (arith, low, high)))

pub paste_changes : (a : Sample) (at : ℕ) (new : List ℤ) → at ≤ length a.frames
    → IsFramesChange (at / 1024) (pieces_of (length a.frames + length new) 1024) (pieces_of (length a.frames) 1024) a
    (with_new_frames at new a)
paste_changes a at new le =
    let frames = take at a.frames ++ (new ++ drop at a.frames) in
    let is : (with_new_frames at new a).frames ≡ frames =
    refitted_frames (with_frames (λ frames. take at frames ++ (new ++ drop at frames)) a) in
    let len : length (with_new_frames at new a).frames ≡ length a.frames + length new =
    let x = length-append (take at a.frames) (new ++ drop at a.frames) in
    let w = length-append new (drop at a.frames) in
    let y = length-take at a.frames in
    let z = length-drop at a.frames in
    ap length is ∙ omega (arith, x, y, z, w, le) in
    all_from a (with_new_frames at new a) at (length a.frames + length new) le (omega (arith, le)) len
    (λ k lt. ap (λ fs. get_or fs k (pos 0)) is ∙ before_cut a.frames (new ++ drop at a.frames) at k (pos 0) lt le)

bits_if : (test wide : Bool) (a : Sample)
    → length (if test then (if wide then a else widened a) else (if wide then narrowed a else a)).frames ≡ length a.frames
bits_if true true a = refl
bits_if true false a = length-map a.frames (λ frame. pos 256 *ℤ frame)
bits_if false true a = length-map a.frames (λ frame. floor_of frame 256)
bits_if false false a = refl

pub bits_change : (a : Sample) (b : ℕ)
    → IsFramesChange 0 (pieces_of (length a.frames) 1024) (pieces_of (length a.frames) 1024) a (with_bits b a)
bits_change a b =
    all_from a (with_bits b a) 0 (length a.frames) (omega arith) (omega arith) (bits_if (b == 16) a.wide a)
    (λ k lt. absurd (omega (arith, lt)))

pub turned_changes : (a : Sample) (from to : ℕ) → from < to → to ≤ length a.frames
    → IsFramesChange (from / 1024) (pieces_of to 1024) (pieces_of to 1024) a (turned from to a)
turned_changes a from to lt high = between a (turned from to a) from to reverse lt high (λ xs. length-reverse xs) refl

pub scaled_changes : (a : Sample) (from to : ℕ) (n : ℤ) (d : ℕ) → from < to → to ≤ length a.frames
    → IsFramesChange (from / 1024) (pieces_of to 1024) (pieces_of to 1024) a (scaled from to n d a)
scaled_changes a from to n d lt high =
    between a (scaled from to n d a) from to (map (scaled_frame a.wide n d)) lt high
    (λ xs. length-map xs (scaled_frame a.wide n d)) refl

-- nothing is turned or scaled between a place and itself
pub turned_none : (a : Sample) (at : ℕ) → (turned at at a).frames ≡ a.frames
turned_none a at = no_stretch a.frames reverse at refl

pub scaled_none : (a : Sample) (at : ℕ) (n : ℤ) (d : ℕ) → (scaled at at n d a).frames ≡ a.frames
scaled_none a at n d = no_stretch a.frames (map (scaled_frame a.wide n d)) at refl
