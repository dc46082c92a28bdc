use Rattle.std.proofs.Common.{◌<◌, sym, subst, arith}
use Rattle.ft_shared.specs.Pass.{WriterState}
use Rattle.ft_image.specs.Drafts.{IsFillable, MayShowDrafted}
use Rattle.ft_image.proofs.DraftFills.{fillable-after, drafted-before, filled-on}
use Rattle.ft_image.proofs.draft_words.draft_word.Goals as goal

pub returns-clause-may : goal.returns-clause-may
returns-clause-may c s may =
    let low : c.args.at < 256 = let r = c.ranges.at.fits in omega arith in
    subst (λ (x : WriterState). IsFillable x s) (sym c.fill.ensures)
    (fillable-after c.sample_stays.ensures c.args.pass.now c.args.seg c.args.at c.args.w low c.requires.may s may)

pub returns-clause-narrows : goal.returns-clause-narrows
returns-clause-narrows c p s shown =
    let low : c.args.at < 256 = let r = c.ranges.at.fits in omega arith in
    drafted-before c.sample_stays.ensures c.args.pass.now c.args.seg c.args.at c.args.w low c.requires.may p s
    (subst (λ (x : WriterState). MayShowDrafted x p s) c.fill.ensures shown)

pub returns-clause-rest : goal.returns-clause-rest
returns-clause-rest c = filled-on c.args.pass.now c.fill.new.pass c.args.seg c.args.at c.args.w c.fill.ensures
