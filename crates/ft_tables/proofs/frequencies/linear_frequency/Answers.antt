use Rattle.std.proofs.Common.{◌≡◌, ℕ, ◌≤◌, ◌*◌, ◌/◌, ◌%◌, ◌^◌, ◌-◌, ◌∙◌, ap, arith}
use Rattle.std.proofs.Math.Nat.{div-le_of_le-mul, mod-eq_of_lt}
use Rattle.ft_tables.specs.Pitch.{power_at}
use Rattle.ft_tables.proofs.Octaves.{room, same_frequency}
use Rattle.ft_tables.proofs.frequencies.linear_frequency.Goals as goal

-- nothing of the power is lost
whole : (power octave : ℕ) → power ≤ 131072 → octave ≤ 41
    → 8363 * power * 2 ^ octave % 2 ^ 128 ≡ 8363 * power * 2 ^ octave
whole power octave p o =
    let fits = room power octave p o in
    mod-eq_of_lt (omega arith)

pub returns-clause-value : goal.returns-clause-value
returns-clause-value c =
    let period : c.from.result ≡ c.args.period = c.from.ensures in
    let power : c.from-power.result ≡ power_at ((32256 - c.args.period) % 768) =
    c.from-power.ensures ∙ c.power_at.ensures.value ∙ ap (λ (p : ℕ). power_at ((32256 - p) % 768)) period in
    let few : c.from-power.result ≤ 131072 = omega arith in
    let octave : (32256 - c.from.result) / 768 ≤ 41 = omega arith in
    ap (λ (n : ℕ). n / 2 ^ 36) (whole c.from-power.result ((32256 - c.from.result) / 768) few octave)
    ∙ ap (λ (p : ℕ). 8363 * c.from-power.result * 2 ^ ((32256 - p) / 768) / 2 ^ 36) period
    ∙ ap (λ (x : ℕ). 8363 * x * 2 ^ ((32256 - c.args.period) / 768) / 2 ^ 36) power
    ∙ same_frequency c.args.period c.requires.playable

pub returns-clause-bounded : goal.returns-clause-bounded
returns-clause-bounded c =
    let same = whole c.from-power.result ((32256 - c.from.result) / 768) (omega arith) (omega arith) in
    let fits = room c.from-power.result ((32256 - c.from.result) / 768) (omega arith) (omega arith) in
    let all : 8363 * c.from-power.result * 2 ^ ((32256 - c.from.result) / 768) / 68719476736 ≤ 35076964352 =
    div-le_of_le-mul 68719476736 (omega arith) in
    rw same (omega arith)
