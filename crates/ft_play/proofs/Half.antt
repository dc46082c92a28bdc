-- The frames of a front of twice as many numbers.
use Rattle.std.proofs.Common.{◌≡◌, ℕ, ◌*◌, ◌/◌, ◌≤◌, ℤ, List, length, take, arith}
use Rattle.std.proofs.lemmas.List.{length-take}

pub half : (out : List ℤ) (frames : ℕ) → 2 * frames ≤ length out → length (take (2 * frames) out) / 2 ≡ frames
half out frames le =
    let e : length (take (2 * frames) out) ≡ 2 * frames = omega (arith, length-take (2 * frames) out) in
    omega (arith, e)
