use Rattle.std.proofs.Common.{◌+◌, ◌/◌, sym, subst, set, ◌∙◌, arith}
use Rattle.ft_image.specs.Changed.{IsOneChanged}
use Rattle.ft_songedit.proofs.Placing.{set_is_one}
use Rattle.ft_songedit.proofs.RootPut.{root_put, row_of, in_ids}
use Rattle.ft_songedit.proofs.cell_edit.put_body_id.Goals as goal

pub returns : goal.returns
returns c = λ x bodies few within read j lt.
    let b = c.args.body in
    let one = subst (λ n. IsOneChanged n c.args.id bodies (set bodies b c.args.id)) (sym (row_of b))
    (set_is_one b c.args.id bodies within) in
    let word = c.with_id.ensures bodies (set bodies b c.args.id) (b / 4) few one
    (read (1 + b / 4) (omega (arith, c.requires)) ∙ in_ids x bodies (b / 4) (omega (arith, c.requires))) in
    root_put c.other_words_stay.ensures.ids c.args.words.now x bodies b c.args.id c.with_id.result j
    c.told-words c.requires within (read j) word lt
