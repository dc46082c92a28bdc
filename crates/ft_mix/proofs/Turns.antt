-- The places that a voice reaches past the end of a loop.
use Rattle.std.proofs.Common.{◌≡◌, ◌<◌, ◌≤◌, ◌+◌, ◌-◌, ◌%◌, ◌==◌, ℕ, Bool, Option, None, Some, lt-ltb, le-ltb, if◌then◌else◌, ap, sym, ◌∙◌, arith}
use Rattle.std.proofs.Math.Nat.{mod-add-mod, mod-eq_of_lt}
use Rattle.std.proofs.lemmas.Bool.{ne_eqb}
use Rattle.ft_types.specs.declared.voice.SampleHead.{SampleHead}
use Rattle.ft_replay.specs.Sound.{end_of, place_of, reflected, loop_turn}

-- the end of a loop
pub end_is : (head : SampleHead) → 1 ≤ head.loop_kind → end_of head ≡ head.loop_start + head.loop_len
end_is head looped =
    ap (λ (b : Bool). if b then head.frames else head.loop_start + head.loop_len)
    (ne_eqb head.loop_kind 0 (λ e. absurd (omega (arith, e, looped))))

-- some steps on in the same turn
mod_on : (n k t : ℕ) → n % t + k < t → (n + k) % t ≡ n % t + k
mod_on n k t lt = sym (mod-add-mod n t k) ∙ mod-eq_of_lt lt

-- the frame that many steps into a turn
abbrev in_turn : SampleHead → ℕ → Option ℕ
in_turn head steps = Some (head.loop_start + reflected head steps)

turned : (head : SampleHead) (i : ℕ) → 1 ≤ head.loop_kind → end_of head ≤ i
    → place_of head i ≡ in_turn head ((i - head.loop_start) % loop_turn head)
unfolding place_of
turned head i looped past =
    ap
    (λ (b : Bool).
    if b then Some i
    else
    (if head.loop_kind == 0 then None
    else in_turn head ((i - head.loop_start) % loop_turn head)))
    (le-ltb i (end_of head) past)
    ∙ ap (λ (b : Bool). if b then None else in_turn head ((i - head.loop_start) % loop_turn head))
    (ne_eqb head.loop_kind 0 (λ e. absurd (omega (arith, e, looped))))

-- a piece of a turn, from that many steps into it on
in_piece : (head : SampleHead) (at k : ℕ) → 1 ≤ head.loop_kind → end_of head ≤ at → head.loop_start ≤ at
    → (at - head.loop_start) % loop_turn head + k < loop_turn head
    → place_of head (at + k) ≡ in_turn head ((at - head.loop_start) % loop_turn head + k)
in_piece head at k looped past from lt =
    let same : at + k - head.loop_start ≡ (at - head.loop_start) + k = omega arith in
    turned head (at + k) looped (omega arith)
    ∙ ap (λ (n : ℕ). in_turn head (n % loop_turn head)) same
    ∙ ap (in_turn head) (mod_on (at - head.loop_start) k (loop_turn head) lt)

-- it goes up before the end of the loop
pub goes_up : (head : SampleHead) (at k : ℕ) → 1 ≤ head.loop_kind → end_of head ≤ at → head.loop_start ≤ at
    → (at - head.loop_start) % loop_turn head + k < loop_turn head
    → (at - head.loop_start) % loop_turn head + k < head.loop_len
    → place_of head (at + k) ≡ Some (head.loop_start + (at - head.loop_start) % loop_turn head + k)
goes_up head at k looped past from lt up =
    let steps = (at - head.loop_start) % loop_turn head in
    in_piece head at k looped past from lt
    ∙ ap (λ (b : Bool). Some (head.loop_start + (if b then steps + k else loop_turn head - (steps + k))))
    (lt-ltb (steps + k) head.loop_len up)
    ∙ ap (λ (n : ℕ). Some n) (omega arith)

-- and down behind it
pub goes_down : (head : SampleHead) (at k : ℕ) → 1 ≤ head.loop_kind → end_of head ≤ at → head.loop_start ≤ at
    → k < loop_turn head - (at - head.loop_start) % loop_turn head
    → head.loop_len ≤ (at - head.loop_start) % loop_turn head
    → place_of head (at + k)
    ≡ Some (head.loop_start + (loop_turn head - (at - head.loop_start) % loop_turn head) - k)
goes_down head at k looped past from lt down =
    let steps = (at - head.loop_start) % loop_turn head in
    in_piece head at k looped past from (omega arith)
    ∙ ap (λ (b : Bool). Some (head.loop_start + (if b then steps + k else loop_turn head - (steps + k))))
    (le-ltb (steps + k) head.loop_len (omega arith))
    ∙ ap (λ (n : ℕ). Some n) (omega arith)
