use Rattle.std.proofs.Common.{◌≡◌, ◌+◌, ◌*◌, ℕ, List, ap, ◌∙◌, arith}
use Rattle.std.specs.Prelude.{slice_index}
use Rattle.ft_segments.specs.Packing.{packed, bytes_word}
use Rattle.ft_image.proofs.Packed.{packed-same}
use Rattle.ft_image.proofs.values.bytes_word.Goals as goal

halves : (byte : ℕ → ℕ) → packed 256 4 byte + 4294967296 * packed 256 4 (λ i. byte (4 + i)) ≡ packed 256 8 byte
halves byte = omega arith

whole : (bytes : List ℕ) (k first second low high : ℕ) → first ≡ k * 8 → second ≡ first + 4
    → low ≡ packed 256 4 (λ i. slice_index bytes (first + i)) → high ≡ packed 256 4 (λ i. slice_index bytes (second + i))
    → low + 4294967296 * high ≡ bytes_word bytes k
unfolding bytes_word
whole bytes k first second low high f s l h =
    let a : low ≡ packed 256 4 (λ i. slice_index bytes (k * 8 + i))
    = l ∙ packed-same 256 4 (λ i. slice_index bytes (first + i)) (λ i. slice_index bytes (k * 8 + i))
    (λ i lt. ap (λ (n : ℕ). slice_index bytes n) (omega arith)) in
    let b : high ≡ packed 256 4 (λ i. slice_index bytes (k * 8 + (4 + i)))
    = h ∙ packed-same 256 4 (λ i. slice_index bytes (second + i)) (λ i. slice_index bytes (k * 8 + (4 + i)))
    (λ i lt. ap (λ (n : ℕ). slice_index bytes n) (omega arith)) in
    let e = halves (λ i. slice_index bytes (k * 8 + i)) in
    omega arith

pub returns : goal.returns
returns c = whole c.args.bytes.now c.args.k (c.from-first.result * 8) (c.from-first.result * 8 + 4) c.half_word.result c.half_word-2.result
    (omega (arith, c.from-first.ensures)) (omega arith) c.half_word.ensures.value c.half_word-2.ensures.value
