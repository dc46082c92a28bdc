use Rattle.ft_text.proofs.Cuts.{not_cut, first_cut}
use Rattle.std.proofs.Common.{◌∙◌, sym, arith, refl}
use Rattle.ft_text.proofs.ledger_words.cut_at.Goals as goal

pub returns-then-i-bytes-clause-parts : goal.returns-then-i-bytes-clause-parts
returns-then-i-bytes-clause-parts c =
    not_cut c.args.by c.args.bytes.now (sym c.place_of-i.ensures.value ∙ c.if-i-bytes.true)

pub returns-clause-parts : goal.returns-clause-parts
returns-clause-parts c =
    first_cut c.args.by c.args.bytes.now c.place_of-i.result c.split_at.result.0.now c.split_at.result.1.now _
    (sym c.place_of-i.ensures.value) (omega arith) c.split_at.ensures.front c.split_at.ensures.back refl
