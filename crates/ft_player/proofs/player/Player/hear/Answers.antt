use Rattle.std.proofs.Common.{ap, ◌∙◌}
use Rattle.ft_shared.specs.Pass.{ReaderState}
use Rattle.ft_player.specs.Inner.{player_state}
use Rattle.ft_player.specs.Player.{IsAsBefore}
use Rattle.ft_player.proofs.Ordered.{as_before}
use Rattle.ft_player.proofs.player.Player.hear.Goals as goal

pub invariant_of-self : goal.invariant_of-self
invariant_of-self c =
    let heard = c.hear.ensures in
    let before : IsAsBefore c.self.inside.pass c.hear.new.pass = record {
      register = ap (λ (x : ReaderState). x.register) heard;
      number = ap (λ (x : ReaderState). x.notes.number) heard;
      held = ap (λ (x : ReaderState). x.notes.held) heard;
      pins = ap (λ (x : ReaderState). x.notes.pins) heard;
      looks = ap (λ (x : ReaderState). x.notes.looks) heard;
      takes = ap (λ (x : ReaderState). x.notes.takes) heard;
      reads = ap (λ (x : ReaderState). x.notes.reads) heard;
    } in
    record {
      held = before.held ∙ c.self.invariant.held;
      order = as_before (player_state c.self.inside) c.hear.new.pass c.self.invariant.order before;
    }

pub returns-clause-order : goal.returns-clause-order
returns-clause-order c =
    let heard = c.hear.ensures in
    as_before (player_state c.self.inside) c.hear.new.pass c.self.invariant.order
    (record {
      register = ap (λ (x : ReaderState). x.register) heard;
      number = ap (λ (x : ReaderState). x.notes.number) heard;
      held = ap (λ (x : ReaderState). x.notes.held) heard;
      pins = ap (λ (x : ReaderState). x.notes.pins) heard;
      looks = ap (λ (x : ReaderState). x.notes.looks) heard;
      takes = ap (λ (x : ReaderState). x.notes.takes) heard;
      reads = ap (λ (x : ReaderState). x.notes.reads) heard;
    })
