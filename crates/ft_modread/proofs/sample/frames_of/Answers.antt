use Rattle.std.proofs.Common.{◌++◌, ◌∷◌, [], List, ℤ, pos, length, map, ◌∙◌, ap, arith, rules}
use Rattle.std.specs.Int.{w8, cast_signed}
use Rattle.ft_modread.proofs.Frames.{padded_frames, one_more_zero}
use Rattle.ft_modread.proofs.sample.frames_of.Goals as goal

pub loop-preserved : goal.loop-preserved
loop-preserved c = record {
  items = c.push_reserved-in-loop.ensures.items
      ∙ ap (λ (xs : List ℤ). xs ++ pos 0 ∷ []) c.loop.invariant.items
      ∙ one_more_zero (map (cast_signed w8) c.args.bytes.now) c.loop.counter (length c.args.bytes.now) c.loop.auto.counter;
  len = search rules;
  room = search rules;
}

pub returns : goal.returns
returns c =
    c.loop.invariant.items
    ∙ padded_frames c.args.size c.loop.counter c.args.bytes.now (omega (arith, c.loop.auto.counter-end, c.requires))
