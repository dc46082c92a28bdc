use Rattle.std.proofs.Common.{◌∙◌, sym}
use Rattle.ft_xmread.proofs.Identified.{differs, agrees, all_agree}
use Rattle.ft_xmread.proofs.identification.first_wrong.Goals as goal

pub returns-then-not-stands_at-clause-first : goal.returns-then-not-stands_at-clause-first
returns-then-not-stands_at-clause-first c =
    sym (differs c.args.piece.now c.loop-k.k c.loop-k-test.true (sym c.stands_at.ensures ∙ c.if-not-stands_at.true))
    ∙ c.loop-k.invariant

pub loop-k-preserved : goal.loop-k-preserved
loop-k-preserved c =
    sym (agrees c.args.piece.now c.loop-k.k c.loop-k-test.true (sym c.stands_at.ensures ∙ c.if-not-stands_at.false))
    ∙ c.loop-k.invariant

pub returns-clause-first : goal.returns-clause-first
returns-clause-first c = sym (all_agree c.args.piece.now c.loop-k.k c.loop-k-test.false) ∙ c.loop-k.invariant
