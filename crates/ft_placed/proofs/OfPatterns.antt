-- The ids of patterns, by their words.
use Rattle.std.proofs.Common.{◌≡◌, ℕ, ◌+◌, ◌*◌, ◌/◌, ◌%◌, ◌<◌, ◌≤◌, Option, Some, None, min, length, refl, sym, ap, subst, ◌∙◌, arith}
use Rattle.std.specs.Prelude.{MatchOption}
use Rattle.std.specs.List.{slice_get}
use Rattle.std.proofs.lemmas.Nat.{mul-le}
use Rattle.std.proofs.lemmas.Option.{slice_get_past, slice_get_within, get_or_from_slice_get}
use Rattle.ft_types.specs.declared.module.Module.{Module}
use Rattle.ft_types.specs.Blocks.{pieces_of}
use Rattle.ft_types.specs.Valid.{IsValidPattern}
use Rattle.ft_segments.specs.Packing.{digit, word_at, id_at}
use Rattle.ft_segments.specs.Walk.{PatternIds, Placed, ids_of, walk, pattern_walk, channels_in, patterns_in, rows_in}
use Rattle.ft_changes.specs.Ids.{bodies_if, bodies_at}
use Rattle.ft_image.specs.Shown.{Shows}
use Rattle.ft_image.specs.Read.{HasPattern}
use Rattle.ft_placed.specs.Roots.{pattern_root_in}
use Rattle.ft_placed.proofs.Lists.{stored, below_at, length_below, root_there, root_absent, of_root, of_no_root, made_of_root}
use Rattle.ft_placed.proofs.Walked.{root_walk}
use Rattle.ft_placed.proofs.Measured.{head_back}

abbrev pub root_of : PatternIds → ℕ
root_of pattern = pattern.root

pub pattern_read : (p : Placed) (m : Module) (k : ℕ) (o : Option ℕ) → Shows p m
    → MatchOption o (length m.patterns ≤ k) (HasPattern p m k) → o ≡ pattern_root_in (ids_of p) k
pattern_read p m k None shows le =
    sym (root_absent root_of (ids_of p).patterns k
    (slice_get_past (ids_of p).patterns k (omega (arith, le, shows.stands.patterns.count))))
pattern_read p m k (Some r) shows has =
    sym (root_there root_of (ids_of p).patterns k (pattern_walk p.pool m.channels r) has.named)

pub channels_read : (p : Placed) (m : Module) (root : ℕ) → Shows p m → p.root ≡ root
    → digit 256 (word_at p.pool root 0) 4 ≡ m.channels
channels_read p m root shows here =
    let at_root : root ≡ (ids_of p).root = sym here ∙ sym (root_walk p) in
    (head_back m (word_at p.pool root 0) shows.valid (ap (λ (r : ℕ). word_at p.pool r 0) at_root ∙ shows.stands.root.head)).0

pub pattern_made : (p : Placed) (k : ℕ) (x : PatternIds) → slice_get (ids_of p).patterns k ≡ Some x
    → x ≡ pattern_walk p.pool (channels_in p.pool p.root) x.root
unfolding walk
pattern_made p k x is =
    made_of_root root_of (pattern_walk p.pool (channels_in p.pool p.root)) (λ i. id_at p.pool p.root 40 i)
    (patterns_in p.pool p.root) k x (λ r. refl) is

-- a pattern of the song, by its root among the ids
pub pattern_of : (p : Placed) (m : Module) (k r : ℕ) → Shows p m → Some r ≡ pattern_root_in (ids_of p) k → HasPattern p m k r
pattern_of p m k r shows is =
    let one = of_root root_of (ids_of p).patterns k r (sym is) in
    let x = one.0 in
    let within = slice_get_within (ids_of p).patterns k x one.1 in
    let y = stored m.patterns k (omega (arith, within, shows.stands.patterns.count)) in
    let made : x ≡ pattern_walk p.pool m.channels r
    = pattern_made p k x one.1 ∙ ap (λ (c : ℕ). pattern_walk p.pool c x.root) (channels_read p m p.root shows refl)
    ∙ ap (λ (s : ℕ). pattern_walk p.pool m.channels s) one.2 in
    let named : slice_get (ids_of p).patterns k ≡ Some (pattern_walk p.pool m.channels r)
    = one.1 ∙ ap (λ (z : PatternIds). Some z) made in
    record {
      pattern = y.0;
      stored = y.1;
      named = named;
      shown = shows.stands.patterns.each k y.0 (pattern_walk p.pool m.channels r) y.1 named;
    }

pattern_valid : (p : Placed) (m : Module) (k r : ℕ) → Shows p m → (has : HasPattern p m k r) → IsValidPattern m.channels has.pattern
pattern_valid p m k r shows has =
    subst (IsValidPattern m.channels) (get_or_from_slice_get m.patterns k has.pattern has.pattern has.stored)
    (shows.valid.patterns k has.pattern (slice_get_within m.patterns k has.pattern has.stored))

pub count_read : (p : Placed) (m : Module) (k root r word head channels : ℕ) → Shows p m → p.root ≡ root → HasPattern p m k r
    → word ≡ word_at p.pool r 0 → head ≡ word_at p.pool root 0 → channels ≡ digit 256 head 4
    → min ((word % 65536 * channels + 255) / 256) 32 ≡ length (pattern_walk p.pool m.channels r).bodies
count_read p m k root r word head channels shows here has w h c =
    let valid = pattern_valid p m k r shows has in
    let few : has.pattern.rows ≤ 256 = valid.few_rows in
    let rows : word % 65536 ≡ has.pattern.rows = omega (arith, w, has.shown.rows, few) in
    let chans : channels ≡ m.channels = c ∙ ap (λ (n : ℕ). digit 256 n 4) h ∙ channels_read p m root shows here in
    let cells : word % 65536 * channels ≡ has.pattern.rows * m.channels = rw (rows, chans) refl in
    let low : has.pattern.rows * m.channels ≤ 8192 = mul-le has.pattern.rows m.channels 256 32 few shows.valid.few_channels in
    omega (arith, has.shown.count, cells, low)

bodies_are : (p : Placed) (m : Module) (k r : ℕ) → HasPattern p m k r
    → bodies_at (ids_of p) k ≡ (pattern_walk p.pool m.channels r).bodies
bodies_are p m k r has = ap bodies_if has.named

pub body_read : (p : Placed) (m : Module) (k r b id : ℕ) → HasPattern p m k r
    → b < length (pattern_walk p.pool m.channels r).bodies → id ≡ id_at p.pool r 1 b
    → Some id ≡ slice_get (bodies_at (ids_of p) k) b
body_read p m k r b id has lt is =
    let n = pieces_of (rows_in p.pool r * m.channels) 256 in
    let named = below_at n (λ i. id_at p.pool r 1 i) b (omega (arith, lt, length_below n (λ i. id_at p.pool r 1 i))) in
    ap (λ (s : ℕ). Some s) is ∙ sym named ∙ sym (ap (λ (xs : Rattle.std.proofs.Common.List ℕ). slice_get xs b) (bodies_are p m k r has))

pub body_absent : (p : Placed) (m : Module) (k r b : ℕ) → HasPattern p m k r
    → length (pattern_walk p.pool m.channels r).bodies ≤ b → slice_get (bodies_at (ids_of p) k) b ≡ None
body_absent p m k r b has le =
    ap (λ (xs : Rattle.std.proofs.Common.List ℕ). slice_get xs b) (bodies_are p m k r has)
    ∙ slice_get_past (pattern_walk p.pool m.channels r).bodies b le

pub no_bodies : (p : Placed) (k b : ℕ) → None ≡ pattern_root_in (ids_of p) k → slice_get (bodies_at (ids_of p) k) b ≡ None
no_bodies p k b none =
    ap (λ (o : Option PatternIds). slice_get (bodies_if o) b) (of_no_root root_of (ids_of p).patterns k (sym none))
