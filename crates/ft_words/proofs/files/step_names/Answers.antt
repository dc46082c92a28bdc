use Rattle.std.proofs.Common.{rules, map, string_bytes, codes}
use Rattle.ft_words.specs.Commands.{step_app}
use Rattle.ft_words.proofs.Arguments.{step_song, step_wav, step_ledger, named_is, text_never_none}
use Rattle.ft_words.proofs.files.step_names.Goals as goal

pub unreachable-requires : goal.unreachable-requires
unreachable-requires c =
    text_never_none step_app _ _ c.in_ok-matches.matches c.get_str.result step_song c.in_ok-matches.ensures.parse
    c.get_str.ensures c.in_default.is

pub unreachable-requires-in_default-get_str : goal.unreachable-requires-in_default-get_str
unreachable-requires-in_default-get_str c =
    text_never_none step_app _ _ c.in_ok-matches.matches c.get_str-2.result step_wav c.in_ok-matches.ensures.parse
    c.get_str-2.ensures c.in_default-get_str.is

pub unreachable-requires-in_default-get_str-2 : goal.unreachable-requires-in_default-get_str-2
unreachable-requires-in_default-get_str-2 c =
    text_never_none step_app _ _ c.in_ok-matches.matches c.get_str-3.result step_ledger c.in_ok-matches.ensures.parse
    c.get_str-3.ensures c.in_default-get_str-2.is

pub returns-clause-files : goal.returns-clause-files
returns-clause-files c =
    let ws = map string_bytes c.args.words.now in
    let exact = c.in_ok-matches.ensures.exact in
    record {
      taken = exact.0;
      song =
          named_is step_app ws c.in_ok-matches.matches (codes "song") _ c.in-Some.song exact c.in-Some.ensures
          c.in_ok-list_of.ensures.text;
      wav =
          named_is step_app ws c.in_ok-matches.matches (codes "wav") _ c.in-Some-get_str.wav exact
          c.in-Some-get_str.ensures c.in_ok-list_of-2.ensures.text;
      ledger =
          named_is step_app ws c.in_ok-matches.matches (codes "ledger") _ c.in-Some-get_str-2.ledger exact
          c.in-Some-get_str-2.ensures c.in_ok-list_of-3.ensures.text;
      scripts = search rules;
    }
