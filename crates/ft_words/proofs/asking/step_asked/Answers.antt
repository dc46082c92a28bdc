use Rattle.std.proofs.Common.{arith, [], map, string_bytes, refl}
use Rattle.std.specs.Str.Parse.{ExplainsUnsignedError, HasUnsignedDigitsIfOk, ParsesUnsigned}
use Rattle.ft_words.specs.Commands.{step_app}
use Rattle.ft_words.proofs.Arguments.{step_rate, step_seconds, step_segments, number_is, number_never_none}
use Rattle.ft_words.proofs.asking.step_asked.Goals as goal

pub unreachable-requires : goal.unreachable-requires
unreachable-requires c =
    number_never_none _ (λ bs r. ParsesUnsigned 32 10 bs r × ExplainsUnsignedError 10 bs r × HasUnsignedDigitsIfOk bs r) 32
    (λ u x y. y.0) step_app _ _ [] c.in_ok-matches.matches 8000 48000 step_rate c.in_ok-matches.ensures.parse refl
    (omega arith) c.get_one.result c.get_one.ensures.value c.in_default.is

pub unreachable-requires-in_default-get_one : goal.unreachable-requires-in_default-get_one
unreachable-requires-in_default-get_one c =
    number_never_none _ (λ bs r. ParsesUnsigned 32 10 bs r × ExplainsUnsignedError 10 bs r × HasUnsignedDigitsIfOk bs r) 32
    (λ u x y. y.0) step_app _ _ [] c.in_ok-matches.matches 1 1200 step_seconds c.in_ok-matches.ensures.parse refl
    (omega arith) c.get_one-2.result c.get_one-2.ensures.value c.in_default-get_one.is

pub unreachable-requires-in_default-get_one-2 : goal.unreachable-requires-in_default-get_one-2
unreachable-requires-in_default-get_one-2 c =
    number_never_none _ (λ bs r. ParsesUnsigned 16 10 bs r × ExplainsUnsignedError 10 bs r × HasUnsignedDigitsIfOk bs r) 16
    (λ u x y. y.0) step_app _ _ [] c.in_ok-matches.matches 64 65535 step_segments c.in_ok-matches.ensures.parse refl
    (omega arith) c.get_one-3.result c.get_one-3.ensures.value c.in_default-get_one-2.is

pub returns-clause-asked : goal.returns-clause-asked
returns-clause-asked c =
    let ws = map string_bytes c.args.words.now in
    let exact = c.in_ok-matches.ensures.exact in
    let rate =
    number_is _ (λ bs r. ParsesUnsigned 32 10 bs r × ExplainsUnsignedError 10 bs r × HasUnsignedDigitsIfOk bs r) 32
    (λ u x y. y.0) step_app _ _ ws c.in_ok-matches.matches 8000 48000 step_rate c.in_ok-matches.ensures.parse refl
    (omega arith) c.get_one.result c.get_one.ensures.value c.in-Some.rate exact c.in-Some.is in
    let seconds =
    number_is _ (λ bs r. ParsesUnsigned 32 10 bs r × ExplainsUnsignedError 10 bs r × HasUnsignedDigitsIfOk bs r) 32
    (λ u x y. y.0) step_app _ _ ws c.in_ok-matches.matches 1 1200 step_seconds c.in_ok-matches.ensures.parse refl
    (omega arith) c.get_one-2.result c.get_one-2.ensures.value c.in-Some-get_one.seconds exact c.in-Some-get_one.is
    in
    let segments =
    number_is _ (λ bs r. ParsesUnsigned 16 10 bs r × ExplainsUnsignedError 10 bs r × HasUnsignedDigitsIfOk bs r) 16
    (λ u x y. y.0) step_app _ _ ws c.in_ok-matches.matches 64 65535 step_segments c.in_ok-matches.ensures.parse refl
    (omega arith) c.get_one-3.result c.get_one-3.ensures.value c.in-Some-get_one-2.segments exact c.in-Some-get_one-2.is
    in
    record {
      taken = exact.0;
      rate = rate.0;
      low_rate = rate.1;
      high_rate = rate.2;
      seconds = seconds.0;
      some_seconds = seconds.1;
      few_seconds = seconds.2;
      segments = segments.0;
      some_segments = segments.1;
      few_segments = segments.2;
    }
