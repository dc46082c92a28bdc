use Rattle.std.proofs.Common.{rules, ◌≡◌, ◌∙◌, length, replicate}
use Rattle.std.proofs.lemmas.List.{take_at}
use Rattle.ft_retire.specs.Lives.{never, born_at}
use Rattle.ft_retire.proofs.Opening.{first_and_others}
use Rattle.ft_retire.proofs.life.first_lives.Goals as goal

pub returns : goal.returns
returns c =
    let many : length c.bear_first.new.segments ≡ c.in_ok-made.made.len = search rules in
    let begun : c.in_ok-made.made.items ≡ replicate c.args.segments never = search rules in
    take_at c.bear_first.new.segments _ c.in_ok-made.made.len many
    ∙ first_and_others c.args.live c.from-2.result c.args.segments (born_at c.args.version) never
    c.bear_first.new.segments c.deref_mut.result.now c.in_ok-made.made.items c.from-2.ensures
    c.bear_first.ensures c.deref_mut.ensures.value begun
