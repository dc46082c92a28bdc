use Rattle.std.proofs.Common.{rules, refl}
use Rattle.ft_channel.proofs.anew.take_levels.Goals as goal

pub returns-clause-stays : goal.returns-clause-stays
returns-clause-stays c = record {
  range = λ k r.
      let remembered = r.memory in
      let sample = (r.voice c.in-Some.voice c.in-Some.is).head in
      record { memory = search rules; voice = r.voice; home = r.home };
  sample = refl;
}
