use Rattle.std.proofs.Common.{◌≡◌, ◌+◌, ◌<◌, ℕ, ℤ, ◌+ℤ◌, List, Option, None, get_or, length, drop, ap, subst, ◌≤◌, ◌∙◌, arith}
use Rattle.std.proofs.lemmas.List.Sums.{sum_by-drop_more}
use Rattle.ft_types.specs.declared.voice.Voice.{Voice}
use Rattle.ft_types.specs.Views.{Owned, Shown}
use Rattle.ft_replay.specs.Sound.{voices_sum, left_of, right_of}
use Rattle.ft_mix.specs.Mixing.{block_cost}
use Rattle.ft_mix.proofs.Sums.{no_voice, next_voice, sum_on}
use Rattle.ft_mix.proofs.block.add_voices.Goals as goal

-- a side's sum of a frame goes on by one voice
next_sum : (side : Option Owned → Voice → ℤ) (kept : List (Option Owned)) (shown : Shown) (voices : List Voice) (i : ℕ)
    (old new : ℤ) → i < length voices
    → shown.kept ≡ kept
    → new ≡ (old +ℤ side (get_or shown.kept (get_or voices i no_voice).channel None) (get_or voices i no_voice))
    → (old +ℤ voices_sum side kept (drop i voices)) ≡ voices_sum side kept voices
    → (new +ℤ voices_sum side kept (drop (i + 1) voices)) ≡ voices_sum side kept voices
next_sum side kept shown voices i old new lt same now so_far =
    let voice : Voice = get_or voices i no_voice in
    let here : new ≡ (old +ℤ side (get_or kept voice.channel None) voice) =
    now ∙ ap (λ (l : List (Option Owned)). old +ℤ side (get_or l voice.channel None) voice) same in
    ap (λ (z : ℤ). z +ℤ voices_sum side kept (drop (i + 1) voices)) here
    ∙ sum_on old (side (get_or kept voice.channel None) voice) _ _ _ (next_voice side kept voices i no_voice lt) so_far

pub loop-voice-preserved : goal.loop-voice-preserved
loop-voice-preserved g c =
    let many = c.loop-voice.invariant.many in
    let voices = c.args.voices.now in
    let i = c.loop-voice.voice-index in
    record {
      sums = λ w is.
          let a = c.add_voice.ensures.sums w is in
          let b = c.loop-voice.invariant.sums w a.0 in
          let kept = (g.V.SongView.shown c.args.view.now w).kept in
          let shown = g.V.SongView.shown c.loop-voice.view w in
          let same : shown.kept ≡ kept = ap (λ (s : Shown). s.kept) b.1 in (
            b.0,
            a.1 ∙ b.1,
            λ k lt.
                let now = a.2 k (omega arith) in
                let so_far = b.2 k lt in (
                  next_sum (left_of (c.args.first + k)) kept shown voices i _ _ c.loop-voice-test.true same now.0
                      so_far.0,
                  next_sum (right_of (c.args.first + k)) kept shown voices i _ _ c.loop-voice-test.true same now.1
                      so_far.1,
                ),
          );
      left = λ k lt. c.add_voice.ensures.left i (λ j less. c.loop-voice.invariant.left j (omega arith)) k (omega arith);
      right =
          λ k lt. c.add_voice.ensures.right i (λ j less. c.loop-voice.invariant.right j (omega arith)) k (omega arith);
      many = c.add_voice.ensures.many ∙ many;
      both = c.add_voice.ensures.both ∙ c.loop-voice.invariant.both;
      values = c.add_voice.ensures.values ∙ c.loop-voice.invariant.values;
      room = c.add_voice.ensures.room ∙ c.loop-voice.invariant.room;
      holds = c.add_voice.ensures.holds ∙ c.loop-voice.invariant.holds;
      keeps = λ k h s. c.add_voice.ensures.keeps k h (c.loop-voice.invariant.keeps k h s);
      work = omega arith;
      cost =
          let left = sum_by-drop_more (block_cost (length c.args.left.now)) voices i no_voice c.loop-voice-test.true in
          let more =
          subst
          (λ (n : ℕ).
          g.V.SongView.work c.add_voice.new.view
          ≤ g.V.SongView.work c.loop-voice.view + block_cost n (get_or voices i no_voice)) many
          c.add_voice.ensures.cost in
          let so_far = c.loop-voice.invariant.cost in
          omega arith;
      same = g.met.V.SongView.same_through _ _ _ c.loop-voice.invariant.same c.add_voice.ensures.same;
    }
