use Rattle.std.proofs.Common.{rules, ◌∙◌, to_z, of_z}
use Rattle.std.specs.Prelude.{FitsSigned}
use Rattle.std.specs.Int.{w16}
use Rattle.std.proofs.lemmas.Int.{to_z-of_z}
use Rattle.ft_xmwrite.specs.Generate.{drawn_frame, drawn}
use Rattle.ft_xmwrite.proofs.Drawn.{goes_on, is_done}
use Rattle.ft_xmwrite.proofs.generator.instrument.frames.Goals as goal

pub loop-preserved : goal.loop-preserved
loop-preserved c =
    let fits : FitsSigned w16 c.frame.result = search rules in
    let same = to_z-of_z w16 c.frame.result fits in
    record {
      front = rw c.push_reserved.ensures.items
          (goes_on drawn_frame (drawn 16384 drawn_frame c.args.draws.now) c.loop.frames.items 16384 c.loop.counter c.loop.draws (to_z w16 (of_z w16 c.frame.result)) c.frame.new.draws c.loop-test.true (same ∙ c.frame.ensures.value) c.frame.ensures.state c.loop.invariant.front);
      len = search rules;
      room = search rules;
    }

pub returns-clause-value : goal.returns-clause-value
returns-clause-value c =
    (is_done drawn_frame (drawn 16384 drawn_frame c.args.draws.now) c.loop.frames.items 16384 c.loop.counter c.loop.draws c.loop-test.false c.loop.invariant.front).0

pub returns-clause-state : goal.returns-clause-state
returns-clause-state c =
    (is_done drawn_frame (drawn 16384 drawn_frame c.args.draws.now) c.loop.frames.items 16384 c.loop.counter c.loop.draws c.loop-test.false c.loop.invariant.front).1
