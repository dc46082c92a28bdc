use Rattle.std.proofs.Common.{◌≡◌, ◌∙◌, ℕ, ap, sym, arith}
use Rattle.ft_replay.specs.Envelopes.{last_by}
use Rattle.ft_channel.proofs.Lines.{last_found}
use Rattle.ft_channel.proofs.envelope.last_point.Goals as goal

pub returns-clause-found : goal.returns-clause-found
returns-clause-found c = λ k is.
    let end : c.loop-k.k ≡ c.args.count = omega arith in
    let value = c.loop-k.invariant ∙ ap (λ (n : ℕ). last_by c.args.position c.args.points.now n) end in
    last_found c.args.position c.args.points.now c.args.count k (sym value ∙ is)
