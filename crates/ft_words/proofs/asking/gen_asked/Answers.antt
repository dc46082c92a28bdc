use Rattle.std.proofs.Common.{arith, [], map, string_bytes, refl}
use Rattle.std.specs.Str.Parse.{ExplainsUnsignedError, HasUnsignedDigitsIfOk, ParsesUnsigned}
use Rattle.ft_words.specs.Commands.{gen_app}
use Rattle.ft_words.proofs.Arguments.{gen_number, number_is, number_never_none}
use Rattle.ft_words.proofs.asking.gen_asked.Goals as goal

pub unreachable-requires : goal.unreachable-requires
unreachable-requires c =
    number_never_none _ (λ bs r. ParsesUnsigned 32 10 bs r × ExplainsUnsignedError 10 bs r × HasUnsignedDigitsIfOk bs r) 32
    (λ u x y. y.0) gen_app _ _ [] c.in_ok-matches.matches 0 4294967295 gen_number c.in_ok-matches.ensures.parse refl
    (omega arith) c.get_one.result c.get_one.ensures.value c.in_default.is

pub returns-clause-asked : goal.returns-clause-asked
returns-clause-asked c =
    let ws = map string_bytes c.args.words.now in
    let exact = c.in_ok-matches.ensures.exact in
    let number =
    number_is _ (λ bs r. ParsesUnsigned 32 10 bs r × ExplainsUnsignedError 10 bs r × HasUnsignedDigitsIfOk bs r) 32
    (λ u x y. y.0) gen_app _ _ ws c.in_ok-matches.matches 0 4294967295 gen_number c.in_ok-matches.ensures.parse refl
    (omega arith) c.get_one.result c.get_one.ensures.value c.in-Some.number exact c.in-Some.is in
    record { taken = exact.0; number = number.0 }
