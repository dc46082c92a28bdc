use Rattle.std.proofs.Common.{◌≡◌, rules}
use Rattle.ft_image.specs.Values.{bit}
use Rattle.ft_roots.proofs.Samples.{numbers_put}
use Rattle.ft_roots.proofs.sample.put_numbers.Goals as goal

pub returns : goal.returns
returns c = λ x ids new valid many has.
    let flag : c.from-2.result ≡ bit c.args.wide = search rules in
    rw (c.from.ensures, c.from-3.ensures, c.from-4.ensures, c.from-5.ensures)
    (numbers_put c.args.words.now x ids c.args.wide c.args.kind c.args.start c.args.len new c.args.frames c.from-2.result
    c.told-words valid many flag has)
