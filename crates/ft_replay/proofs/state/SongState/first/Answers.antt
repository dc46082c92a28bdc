use Rattle.std.proofs.Common.{ap, sym, subst, ◌∙◌, List, [], take, replicate}
use Rattle.ft_types.specs.declared.voice.Voice.{Voice}
use Rattle.ft_replay.specs.declared.state.Channel.{Channel}
use Rattle.ft_replay.specs.declared.state.Control.{Control}
use Rattle.ft_replay.specs.State.{first_channel, first_control}
use Rattle.ft_replay.specs.Range.{IsBetweenTicks}
use Rattle.ft_replay.specs.Standing.{state_of, seated}
use Rattle.ft_replay.proofs.Firsts.{first_stands, first_in_range}
use Rattle.ft_replay.proofs.state.SongState.first.Goals as goal

pub returns-clause-state : goal.returns-clause-state
returns-clause-state c = λ shown none.
    let n = c.args.channels in
    ap (λ (x : Control). state_of x (seated (take n (replicate 32 c.first-2.result)) c.new.result.items) shown)
    c.first.ensures
    ∙ ap (λ (x : Channel). state_of first_control (seated (take n (replicate 32 x)) c.new.result.items) shown)
    c.first-2.ensures
    ∙ ap (λ (l : List Voice). state_of first_control (seated (take n (replicate 32 first_channel)) l) shown)
    c.new.ensures
    ∙ first_stands shown n c.requires none

pub returns-clause-range : goal.returns-clause-range
returns-clause-range c =
    let n = c.args.channels in
    subst (λ (l : List Voice). IsBetweenTicks n c.first.result (replicate 32 c.first-2.result) l) (sym c.new.ensures)
    (subst (λ (x : Channel). IsBetweenTicks n c.first.result (replicate 32 x) []) (sym c.first-2.ensures)
    (subst (λ (x : Control). IsBetweenTicks n x (replicate 32 first_channel) []) (sym c.first.ensures) (first_in_range n c.requires)))
