use Rattle.std.proofs.Common.{rules, map, string_bytes, codes}
use Rattle.ft_words.specs.Commands.{import_app}
use Rattle.ft_words.proofs.Arguments.{import_mod, import_out, named_is, text_never_none}
use Rattle.ft_words.proofs.files.import_names.Goals as goal

pub unreachable-requires : goal.unreachable-requires
unreachable-requires c =
    text_never_none import_app _ _ c.in_ok-matches.matches c.get_str.result import_mod c.in_ok-matches.ensures.parse
    c.get_str.ensures c.in_default.is

pub unreachable-requires-in_default-get_str : goal.unreachable-requires-in_default-get_str
unreachable-requires-in_default-get_str c =
    text_never_none import_app _ _ c.in_ok-matches.matches c.get_str-2.result import_out c.in_ok-matches.ensures.parse
    c.get_str-2.ensures c.in_default-get_str.is

pub returns-clause-files : goal.returns-clause-files
returns-clause-files c =
    let ws = map string_bytes c.args.words.now in
    let exact = c.in_ok-matches.ensures.exact in
    record {
      taken = exact.0;
      song =
          named_is import_app ws c.in_ok-matches.matches (codes "mod") _ c.in-Some.module exact c.in-Some.ensures
          c.in_ok-list_of.ensures.text;
      wav =
          named_is import_app ws c.in_ok-matches.matches (codes "out") _ c.in-Some-get_str.out exact
          c.in-Some-get_str.ensures c.in_ok-list_of-2.ensures.text;
      ledger = search rules;
      scripts = search rules;
    }
