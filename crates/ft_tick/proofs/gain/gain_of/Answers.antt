use Rattle.std.proofs.Common.{ℕ, ◌≤◌, ◌*◌, ◌/◌, arith}
use Rattle.std.proofs.lemmas.Nat.{mul-le}
use Rattle.std.proofs.Math.Nat.{div-le_of_le-mul}
use Rattle.ft_tick.proofs.gain.gain_of.Goals as goal

-- where all are full, the gain is 65,536
full : (volume global envelope fade : ℕ) → volume ≤ 64 → global ≤ 64 → envelope ≤ 64 → fade ≤ 32768
    → volume * global * envelope * fade / 131072 ≤ 65536
full volume global envelope fade v g e f =
    let one : volume * global ≤ 64 * 64 = mul-le volume global 64 64 v g in
    let two : volume * global * envelope ≤ 64 * 64 * 64 = mul-le (volume * global) envelope (64 * 64) 64 one e in
    let three : volume * global * envelope * fade ≤ 64 * 64 * 64 * 32768 =
    mul-le (volume * global * envelope) fade (64 * 64 * 64) 32768 two f in
    div-le_of_le-mul 131072 (omega arith)

pub overflow_cast-result : goal.overflow_cast-result
overflow_cast-result c =
    let bound =
    full c.from.result c.from-2.result c.from-3.result c.from-4.result (omega arith) (omega arith) (omega arith)
    (omega arith) in
    omega arith

pub returns-clause-bounded : goal.returns-clause-bounded
returns-clause-bounded c =
    full c.from.result c.from-2.result c.from-3.result c.from-4.result (omega arith) (omega arith) (omega arith)
    (omega arith)
