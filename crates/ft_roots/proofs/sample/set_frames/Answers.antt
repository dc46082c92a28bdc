use Rattle.std.proofs.Common.{◌≡◌, ◌-◌, length, subst, sym}
use Rattle.std.specs.Prelude.{min}
use Rattle.ft_types.specs.declared.sample.Sample.{Sample}
use Rattle.ft_roots.specs.RootWords.{HasSampleWords}
use Rattle.ft_roots.proofs.Samples.{refitted_none, refitted_some}
use Rattle.ft_roots.proofs.sample.set_frames.Goals as goal

pub returns-then-len-eq0 : goal.returns-then-len-eq0
returns-then-len-eq0 c = λ x ids new valid many has.
    let s : Sample = record x { wide = c.args.wide; frames = new } in
    let start : c.min-start.result ≡ min (length new) x.loop_start
    = rw (many, sym (c.loop_start_in.ensures x ids valid has)) c.min-start.ensures in
    let len : c.min-len.result ≡ min (length new - c.min-start.result) x.loop_len
    = rw (many, sym (c.loop_len_in.ensures x ids valid has)) c.min-len.ensures in
    subst (λ (y : Sample). HasSampleWords c.put_loop.new.words y ids)
    (sym (refitted_none s c.min-start.result c.min-len.result start len c.if-len-eq0.true))
    (c.put_loop.ensures x ids new valid many has)

pub returns-else-len-eq0 : goal.returns-else-len-eq0
returns-else-len-eq0 c = λ x ids new valid many has.
    let s : Sample = record x { wide = c.args.wide; frames = new } in
    let start : c.min-start.result ≡ min (length new) x.loop_start
    = rw (many, sym (c.loop_start_in.ensures x ids valid has)) c.min-start.ensures in
    let len : c.min-len.result ≡ min (length new - c.min-start.result) x.loop_len
    = rw (many, sym (c.loop_len_in.ensures x ids valid has)) c.min-len.ensures in
    let kind = c.loop_kind_in-kind.ensures x ids valid has in
    subst (λ (y : Sample). HasSampleWords c.put_loop-else-len-eq0.new.words y ids)
    (sym (refitted_some s c.min-start.result c.min-len.result start len c.if-len-eq0.false))
    (rw kind at (c.put_loop-else-len-eq0.ensures x ids new valid many has))
