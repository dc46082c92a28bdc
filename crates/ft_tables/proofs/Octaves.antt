-- Octaves counted from 36 below, so that none is negative, give the same frequencies.
use Rattle.std.proofs.Common.{◌≡◌, ℕ, ◌≤◌, ◌<◌, ◌+◌, ◌-◌, ◌*◌, ◌/◌, ◌%◌, ◌^◌, ℤ, pos, negsuc, refl, ap, sym, ◌∙◌, arith}
use Rattle.std.specs.Prelude.{◌-ℤ◌, ◌*ℤ◌, nat_abs}
use Rattle.std.proofs.lemmas.Int.{ints}
use Rattle.std.proofs.lemmas.Nat.{mul-le, pow-add}
use Rattle.std.proofs.Math.Nat.{mul-div_left, mul-div-mul_left, one-le-pow, pow-le-pow_right, mul_comm, mul_assoc}
use Rattle.ft_tables.specs.Pitch.{linear_frequency_of, by_octaves, power_at, floor_div}

-- above: what is multiplied by 2^36 and divided again
above : (n up : ℕ) → n * 2 ^ (up + 36) / 2 ^ 36 ≡ n * 2 ^ up
above n up =
    let split : n * 2 ^ (up + 36) ≡ n * 2 ^ up * 2 ^ 36 =
    ap (λ (x : ℕ). n * x) (pow-add 2 up 36) ∙ sym (mul_assoc n (2 ^ up) (2 ^ 36)) in
    ap (λ (x : ℕ). x / 2 ^ 36) split ∙ mul-div_left (n * 2 ^ up) (omega arith)

-- below: a division by as many octaves
below : (n down : ℕ) → down ≤ 35 → n * 2 ^ (35 - down) / 2 ^ 36 ≡ n / 2 ^ (down + 1)
below n down le =
    let whole : 36 ≡ (35 - down) + (down + 1) = omega arith in
    let some : 0 < 2 ^ (35 - down) = one-le-pow (35 - down) 2 (omega arith) in
    ap (λ (x : ℕ). n * 2 ^ (35 - down) / 2 ^ x) whole
    ∙ ap (λ (x : ℕ). n * 2 ^ (35 - down) / x) (pow-add 2 (35 - down) (down + 1))
    ∙ ap (λ (x : ℕ). x / (2 ^ (35 - down) * 2 ^ (down + 1))) (mul_comm n (2 ^ (35 - down)))
    ∙ mul-div-mul_left n (2 ^ (down + 1)) some

octaves_at : (period : ℕ) (d : ℤ) → period ≤ 31999 → d ≡ (pos 4608 -ℤ pos period)
    → 8363 * power_at ((32256 - period) % 768) * 2 ^ ((32256 - period) / 768) / 2 ^ 36
    ≡ by_octaves (8363 * power_at (nat_abs (d -ℤ (pos 768 *ℤ floor_div d 768)))) (floor_div d 768)
octaves_at period (pos a) le e =
    let up : 32256 - period ≡ a + 36 * 768 = omega (arith, ints) in
    let octave : (a + 36 * 768) / 768 ≡ a / 768 + 36 = omega arith in
    let part : (a + 36 * 768) % 768 ≡ a % 768 = omega arith in
    let rest : (pos a -ℤ (pos 768 *ℤ pos (a / 768))) ≡ pos (a % 768) = omega (arith, ints) in
    ap (λ (u : ℕ). 8363 * power_at (u % 768) * 2 ^ (u / 768) / 2 ^ 36) up
    ∙ ap (λ (o : ℕ). 8363 * power_at ((a + 36 * 768) % 768) * 2 ^ o / 2 ^ 36) octave
    ∙ ap (λ (p : ℕ). 8363 * power_at p * 2 ^ (a / 768 + 36) / 2 ^ 36) part
    ∙ above (8363 * power_at (a % 768)) (a / 768)
    ∙ ap (λ (r : ℤ). 8363 * power_at (nat_abs r) * 2 ^ (a / 768)) (sym rest)
octaves_at period (negsuc a) le e =
    let r = 768 * (a / 768 + 1) - (a + 1) in
    let up : 32256 - period ≡ 768 * (35 - a / 768) + r = omega (arith, ints) in
    let octave : (768 * (35 - a / 768) + r) / 768 ≡ 35 - a / 768 = omega arith in
    let part : (768 * (35 - a / 768) + r) % 768 ≡ r = omega arith in
    let rest : (negsuc a -ℤ (pos 768 *ℤ negsuc (a / 768))) ≡ pos r = omega (arith, ints) in
    let few : a / 768 ≤ 35 = omega (arith, ints) in
    ap (λ (u : ℕ). 8363 * power_at (u % 768) * 2 ^ (u / 768) / 2 ^ 36) up
    ∙ ap (λ (o : ℕ). 8363 * power_at ((768 * (35 - a / 768) + r) % 768) * 2 ^ o / 2 ^ 36) octave
    ∙ ap (λ (p : ℕ). 8363 * power_at p * 2 ^ (35 - a / 768) / 2 ^ 36) part
    ∙ below (8363 * power_at r) (a / 768) few
    ∙ ap (λ (x : ℤ). 8363 * power_at (nat_abs x) / 2 ^ (a / 768 + 1)) (sym rest)

-- the two countings are one
pub same_frequency : (period : ℕ) → period ≤ 31999
    → 8363 * power_at ((32256 - period) % 768) * 2 ^ ((32256 - period) / 768) / 2 ^ 36 ≡ linear_frequency_of period
unfolding linear_frequency_of
same_frequency period le = octaves_at period (pos 4608 -ℤ pos period) le refl

-- a power that is shifted by at most 41 octaves
pub room : (power octave : ℕ) → power ≤ 131072 → octave ≤ 41 → 8363 * power * 2 ^ octave ≤ 8363 * 131072 * 2 ^ 41
room power octave p o =
    let up : 2 ^ octave ≤ 2 ^ 41 = pow-le-pow_right (omega arith) o in
    mul-le (8363 * power) (2 ^ octave) (8363 * 131072) (2 ^ 41) (omega arith) up
