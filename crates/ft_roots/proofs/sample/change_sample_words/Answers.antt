use Rattle.std.proofs.Common.{◌≡◌, ℕ, ℤ, List, ◌++◌, length, take, drop, reverse, map, refl, ap, inl, inr, sym, subst, ◌∙◌}
use Rattle.std.specs.Int.{w8}
use Rattle.std.proofs.lemmas.Int.{to_z-of_z}
use Rattle.std.proofs.lemmas.List.{length-reverse, length-map}
use Rattle.ft_types.specs.declared.module.Module.{Module}
use Rattle.ft_types.specs.declared.sample.Sample.{Sample}
use Rattle.ft_types.specs.declared.edit.Edit.{Edit}
use Rattle.ft_types.specs.declared.edit.Edit.TheVariants as edits
use Rattle.ft_edits.specs.Allowed.{Allows}
use Rattle.ft_edits.specs.Changes.{sample_changed}
use Rattle.ft_edits.specs.Lists.{with_stretch}
use Rattle.ft_edits.specs.Samples.{scaled_frame, with_bits}
use Rattle.ft_roots.specs.RootWords.{HasSampleWords}
use Rattle.ft_roots.proofs.Samples.{frames_same, stretch_long, refitted_frames, bits_done, bits_count}
use Rattle.ft_roots.proofs.sample.change_sample_words.Goals as goal

pub returns-in-Smpname-clause-changed : goal.returns-in-Smpname-clause-changed
returns-in-Smpname-clause-changed c = λ m x ids of valid allowed has. rw c.in-Smpname.is (c.put_sample_name.ensures x ids has)

pub returns-in-Smp-clause-changed : goal.returns-in-Smp-clause-changed
returns-in-Smp-clause-changed c = λ m x ids of valid allowed has.
    let fields = rw c.in-Smp.is at c.holds_fields.ensures in
    let fine = to_z-of_z w8 c.in-Smp.fine fields.0 in
    let rel = to_z-of_z w8 c.in-Smp.rel fields.1 in
    rw c.in-Smp.is (rw (fine, rel) at (c.put_sound.ensures x ids valid has))

pub returns-in-Loop-clause-changed : goal.returns-in-Loop-clause-changed
returns-in-Loop-clause-changed c = λ m x ids of valid allowed has.
    let wide : c.wide_in-wide.result ≡ x.wide = c.wide_in-wide.ensures x ids valid has in
    let count = sym (c.frames_in-frames.ensures x ids valid has) in
    let put = c.put_loop.ensures x ids x.frames valid count has in
    rw c.in-Loop.is (rw wide at put)

pub returns-in-Cut-clause-changed : goal.returns-in-Cut-clause-changed
returns-in-Cut-clause-changed c = λ m x ids of valid allowed has.
    let wide : c.wide_in-wide.result ≡ x.wide = c.wide_in-wide.ensures x ids valid has in
    let behind : c.frames_behind.result ≡ length (sample_changed c.args.e.now x).frames
    = c.frames_behind.ensures m x of allowed (sym (c.frames_in-frames.ensures x ids valid has)) in
    elim c.in-Cut.is [
      | inl cut ↦
          let new = take cut.2 x.frames ++ drop cut.3 x.frames in
          let s : Sample = record x { frames = new } in
          let count : length new ≡ c.frames_behind.result = sym (rw cut.4 at behind ∙ ap length (refitted_frames s)) in
          rw cut.4 (rw wide at (c.set_frames-in-Cut.ensures x ids new valid count has))
      | inr paste ↦
          let new = take paste.2 x.frames ++ (paste.3 ++ drop paste.2 x.frames) in
          let s : Sample = record x { frames = new } in
          let count : length new ≡ c.frames_behind.result = sym (rw paste.4 at behind ∙ ap length (refitted_frames s)) in
          rw paste.4 (rw wide at (c.set_frames-in-Cut.ensures x ids new valid count has))
    ]

pub returns-in-Bits-clause-changed : goal.returns-in-Bits-clause-changed
returns-in-Bits-clause-changed c = λ m x ids of valid allowed has.
    let b = c.in-Bits.b in
    let count = bits_count x b ∙ sym (c.frames_in-frames.ensures x ids valid has) in
    rw c.in-Bits.is
    (subst (λ (y : Sample). HasSampleWords c.set_frames.new.words y ids) (bits_done x b valid)
    (c.set_frames.ensures x ids (with_bits b x).frames valid count has))

-- an edit that is none of these
none_of : (m : Module) (e : Edit) (x : Sample) (words ids : List ℕ)
    → ((i s : ℕ) (name : List ℕ) → e ≡ edits.Smpname i s name → ⊥)
    → ((i s vol : ℕ) (fine rel : ℤ) (pan : ℕ) → e ≡ edits.Smp i s vol fine rel pan → ⊥)
    → ((i s kind start len : ℕ) → e ≡ edits.Loop i s kind start len → ⊥)
    → ((i s from to : ℕ) → e ≡ edits.Cut i s from to → ⊥)
    → ((i s at : ℕ) (new : List ℤ) → e ≡ edits.Paste i s at new → ⊥)
    → ((i s b : ℕ) → e ≡ edits.Bits i s b → ⊥)
    → Allows m e → HasSampleWords words x ids → HasSampleWords words (sample_changed e x) ids
none_of m (edits.Smpname i s name) x words ids p q r t u v allows has = absurd (p i s name refl)
none_of m (edits.Smp i s vol fine rel pan) x words ids p q r t u v allows has = absurd (q i s vol fine rel pan refl)
none_of m (edits.Loop i s kind start len) x words ids p q r t u v allows has = absurd (r i s kind start len refl)
none_of m (edits.Cut i s from to) x words ids p q r t u v allows has = absurd (t i s from to refl)
none_of m (edits.Paste i s at new) x words ids p q r t u v allows has = absurd (u i s at new refl)
none_of m (edits.Bits i s b) x words ids p q r t u v allows has = absurd (v i s b refl)
none_of m (edits.Reverse i s from to) x words ids p q r t u v allows has =
    frames_same words x ids (with_stretch from to reverse x.frames)
    (stretch_long from to reverse x.frames (λ part. length-reverse part) allows.1) has
none_of m (edits.Scale i s from to n d) x words ids p q r t u v allows has =
    frames_same words x ids (with_stretch from to (map (scaled_frame x.wide n d)) x.frames)
    (stretch_long from to (map (scaled_frame x.wide n d)) x.frames (λ part. length-map part (scaled_frame x.wide n d)) allows.0.1) has
none_of m _ x words ids p q r t u v allows has = has

pub returns-in_default : goal.returns-in_default
returns-in_default c =
    let d = c.in_default in
    record {
      changed = λ m x ids of valid allowed has.
          none_of m c.args.e.now x c.args.words.now ids d.not-Smpname d.not-Smp d.not-Loop d.not-Cut d.not-Paste d.not-Bits
          (c.allowed_edits_name_what_is_there.ensures m c.args.e.now allowed) has;
      others = λ other. refl;
    }
