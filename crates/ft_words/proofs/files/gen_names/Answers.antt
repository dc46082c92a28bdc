use Rattle.std.proofs.Common.{rules, map, string_bytes, codes}
use Rattle.ft_words.specs.Commands.{gen_app}
use Rattle.ft_words.proofs.Arguments.{gen_out, named_is, text_never_none}
use Rattle.ft_words.proofs.files.gen_names.Goals as goal

pub unreachable-requires : goal.unreachable-requires
unreachable-requires c =
    text_never_none gen_app _ _ c.in_ok-matches.matches c.get_str.result gen_out c.in_ok-matches.ensures.parse
    c.get_str.ensures c.in_default.is

pub returns-clause-files : goal.returns-clause-files
returns-clause-files c =
    let ws = map string_bytes c.args.words.now in
    let exact = c.in_ok-matches.ensures.exact in
    record {
      taken = exact.0;
      song = search rules;
      wav =
          named_is gen_app ws c.in_ok-matches.matches (codes "out") _ c.in-Some.out exact c.in-Some.ensures
          c.in_ok-list_of.ensures.text;
      ledger = search rules;
      scripts = search rules;
    }
