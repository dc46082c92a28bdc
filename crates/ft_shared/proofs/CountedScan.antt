-- The count of what a scan found says which segments it found.
use Rattle.std.proofs.Common.{◌≡◌, ◌↔◌, inl, inr, ℕ, zero, suc, ◌+◌, ◌≤◌, nat_lt, refl, ap, subst, arith, Option, Some, None, IsSomeAnd, lt-ltb}
use Rattle.std.specs.List.{Contains}
use mathlib.Core.Logic.{dite}
use native.Mathlib.Decide.{dec_le}
use Rattle.ft_segments.specs.Walk.{IsOf, sample_walk, sample_uses}
use Rattle.ft_shared.specs.declared.law.PlacedVersion.{PlacedVersion}
use Rattle.ft_shared.specs.declared.law.PinAnswer.{PinAnswer}
use Rattle.ft_shared.specs.declared.law.Account.{Account}
use Rattle.ft_shared.specs.Counts.{bit, total, sum_below}
use Rattle.ft_shared.specs.History.{placed_at, root_and_pool, IsOfVersion}
use Rattle.ft_shared.specs.Account.{IsAnswered, IsPinAnswer, pin_answer, Found}
use Rattle.ft_shared.specs.Free.{uses_placed, answer_uses, root_uses, pin_uses, finds, is_found, found_in_pool, free_in_pool}
use Rattle.ft_shared.proofs.Sums.{bit-le, sum_below-le}
use Rattle.ft_shared.proofs.Exact.{counts_in, one_counts}

low : (n : ℕ) → (1 ≤ n → ⊥) → n ≡ 0
low zero h = refl
low (suc n) h = absurd (h (omega arith))

-- ---- a segment is counted exactly where it was found

of_uses : (o : Option PlacedVersion) (s : ℕ) → 1 ≤ uses_placed s o → IsSomeAnd o (λ placed. IsOf (root_and_pool placed) s)
of_uses None s l = absurd (omega arith)
of_uses (Some placed) s l = l

uses_of : (o : Option PlacedVersion) (s : ℕ) → IsSomeAnd o (λ placed. IsOf (root_and_pool placed) s) → 1 ≤ uses_placed s o
uses_of None s l = absurd l
uses_of (Some placed) s l = l

answered : (a : Account) (s : ℕ) (o : Option ℕ) → Contains a.scan o → 1 ≤ answer_uses a.history s o
    → (version : ℕ) × IsAnswered a version × IsOfVersion a.history version s
answered a s None there l = absurd (omega arith)
answered a s (Some version) there l = (version, there, of_uses (placed_at a.history version) s l)

pinned : (a : Account) (s : ℕ) (x : PinAnswer) (o : Option ℕ) → x.root ≡ o → Contains a.pin_scan x → 1 ≤ root_uses a.pool s o
    → (reader channel root : ℕ) × IsPinAnswer a reader channel (Some root) × (1 ≤ sample_uses s (sample_walk a.pool root))
pinned a s x None e there l = absurd (omega arith)
pinned a s x (Some root) e there l = (
  x.reader,
  x.channel,
  root,
  subst (Contains a.pin_scan) (λ i. pin_answer x.reader x.channel (e i)) there,
  l,
)

pub counted_found : (a : Account) (s : ℕ) → 1 ≤ finds a s → Found a s
counted_found a s l = dite (dec_le 1 (uses_placed s (placed_at a.history a.version)))
    (λ (now : 1 ≤ uses_placed s (placed_at a.history a.version)). inl (of_uses (placed_at a.history a.version) s now))
    (λ (none : 1 ≤ uses_placed s (placed_at a.history a.version) → ⊥).
    let z = low (uses_placed s (placed_at a.history a.version)) none in
    dite (dec_le 1 (total (answer_uses a.history s) a.scan))
    (λ (some : 1 ≤ total (answer_uses a.history s) a.scan).
    let one = one_counts (answer_uses a.history s) a.scan some in
    inr (inl (answered a s one.0 one.1 one.2)))
    (λ (none : 1 ≤ total (answer_uses a.history s) a.scan → ⊥).
    let y = low (total (answer_uses a.history s) a.scan) none in
    let one = one_counts (pin_uses a.pool s) a.pin_scan (omega arith) in
    inr (inr (pinned a s one.0 (one.0).root refl one.1 one.2))))

pub found_counted : (a : Account) (s : ℕ) → Found a s → 1 ≤ finds a s
found_counted a s (inl now) = let l = uses_of (placed_at a.history a.version) s now in omega arith
found_counted a s (inr (inl (version, there, of))) =
    let l = uses_of (placed_at a.history version) s of in
    let c = counts_in (answer_uses a.history s) a.scan (Some version) there in omega arith
found_counted a s (inr (inr (reader, channel, root, there, names))) =
    let c = counts_in (pin_uses a.pool s) a.pin_scan (pin_answer reader channel (Some root)) there in
    let names' : 1 ≤ pin_uses a.pool s (pin_answer reader channel (Some root)) = names in omega arith

-- ---- the sum over the pool

below-all : (f : ℕ → ℕ) (n : ℕ) → ((k : ℕ) → f k ≤ 1) → sum_below f n ≤ n
unfolding sum_below
below-all f zero le = omega arith
below-all f (suc n) le = let a = le n in let b = below-all f n le in omega arith

pub free_and_found : (a : Account) → free_in_pool a + found_in_pool a ≡ a.sizes.segments
free_and_found a = let l = below-all (is_found a) a.sizes.segments (λ k. bit-le (nat_lt 0 (finds a k))) in omega arith

positive-bit : (n : ℕ) → 1 ≤ bit (nat_lt 0 n) → 1 ≤ n
positive-bit zero l = absurd (omega arith)
positive-bit (suc n) l = omega arith

bit-positive : (n : ℕ) → 1 ≤ n → bit (nat_lt 0 n) ≡ 1
bit-positive zero l = absurd (omega arith)
bit-positive (suc n) l = ap bit (lt-ltb 0 (suc n) (omega arith))

-- what counts a segment exactly where it was found adds up to as many
pub found_as : (a : Account) (held : ℕ → ℕ) → ((s : ℕ) → held s ≤ 1) → ((s : ℕ) → 1 ≤ held s ↔ Found a s)
    → free_in_pool a + sum_below held a.sizes.segments ≡ a.sizes.segments
found_as a held few same =
    let all = free_and_found a in
    let less = sum_below-le held (is_found a) a.sizes.segments (λ k _. up k) in
    let more = sum_below-le (is_found a) held a.sizes.segments (λ k _. down k) in omega arith
  where
    up : (k : ℕ) → held k ≤ is_found a k
    up k = dite (dec_le 1 (held k))
        (λ (l : 1 ≤ held k). let f = bit-positive (finds a k) (found_counted a k ((same k).0 l)) in let le = few k in omega arith)
        (λ (none : 1 ≤ held k → ⊥). let z = low (held k) none in omega arith)

    down : (k : ℕ) → is_found a k ≤ held k
    down k = dite (dec_le 1 (is_found a k))
        (λ (l : 1 ≤ is_found a k). let h = (same k).1 (counted_found a k (positive-bit (finds a k) l)) in
        let le = bit-le (nat_lt 0 (finds a k)) in omega arith)
        (λ (none : 1 ≤ is_found a k → ⊥). let z = low (is_found a k) none in omega arith)
