use Rattle.std.proofs.Common.{rules}
use Rattle.ft_tick.proofs.hear.fade.Goals as goal

pub returns-then-channel-eq0-clause-range : goal.returns-then-channel-eq0-clause-range
returns-then-channel-eq0-clause-range c = λ k r.
    let remembered = r.memory in
    c.end_after_tick.ensures.range k (record { memory = search rules; voice = r.voice; home = r.home })
