use Rattle.std.proofs.Common.{◌≡◌, rules}
use Rattle.std.specs.Int.{w8, cast_unsigned}
use Rattle.ft_roots.proofs.Samples.{sound_put}
use Rattle.ft_roots.proofs.sample.put_sound.Goals as goal

pub returns : goal.returns
returns c = λ x ids valid has.
    let fine : c.from-fine.result ≡ cast_unsigned w8 c.args.finetune = search rules in
    let rel : c.from-3.result ≡ cast_unsigned w8 c.args.relative = search rules in
    rw (c.from.ensures, c.from-2.ensures)
    (sound_put c.args.words.now x ids c.args.volume c.args.panning c.args.finetune c.args.relative c.from-fine.result c.from-3.result
    c.told-words valid fine rel has)
