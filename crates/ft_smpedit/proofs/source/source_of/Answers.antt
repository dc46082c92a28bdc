use Rattle.std.proofs.Common.{◌∙◌, ◌<◌, List, ℤ, pos, ◌++◌, length, take, drop, get_or, subst, sym, ap, arith}
use Rattle.ft_types.specs.declared.edit.Edit.{Edit}
use Rattle.ft_edits.specs.Changes.{sample_changed}
use Rattle.ft_smpedit.specs.Sources.{HasNamedFrames}
use Rattle.ft_smpedit.proofs.Places.{cut_length, paste_length, stretched_length}
use Rattle.ft_smpedit.proofs.Changed.{frames_of_cut, frames_of_paste}
use Rattle.ft_smpedit.proofs.source.source_of.Goals as goal
use Rattle.std.proofs.lemmas.List.{length-reverse}
use Rattle.std.specs.Prelude.{reverse}
use Rattle.ft_edits.specs.Lists.{stretch_of}

pub returns-in-Cut-clause-there : goal.returns-in-Cut-clause-there
returns-in-Cut-clause-there c = λ x few named lt.
    let named2 = subst (λ (e : Edit). HasNamedFrames (length x.frames) e) c.in-Cut.is named in
    let lt2 = subst (λ (e : Edit). c.args.i < length (sample_changed e x).frames) c.in-Cut.is lt in
    let same = ap (λ (fs : List ℤ). length fs) (frames_of_cut c.in-Cut.from c.in-Cut.to x) in
    let count = cut_length x.frames c.in-Cut.from c.in-Cut.to named2.0 named2.1 in
    c.place_before_cut.ensures.there (length x.frames) named2.0 named2.1 few (omega (arith, lt2, same, count))

pub returns-in-Cut-clause-frame : goal.returns-in-Cut-clause-frame
returns-in-Cut-clause-frame c = λ x few named lt.
    let named2 = subst (λ (e : Edit). HasNamedFrames (length x.frames) e) c.in-Cut.is named in
    let lt2 = subst (λ (e : Edit). c.args.i < length (sample_changed e x).frames) c.in-Cut.is lt in
    let same = ap (λ (fs : List ℤ). length fs) (frames_of_cut c.in-Cut.from c.in-Cut.to x) in
    let count = cut_length x.frames c.in-Cut.from c.in-Cut.to named2.0 named2.1 in
    ap (λ (e : Edit). get_or (sample_changed e x).frames c.args.i (pos 0)) c.in-Cut.is
    ∙ ap (λ (fs : List ℤ). get_or fs c.args.i (pos 0)) (frames_of_cut c.in-Cut.from c.in-Cut.to x)
    ∙ c.place_before_cut.ensures.frame x.frames named2.0 named2.1 few (omega (arith, lt2, same, count))

pub returns-in-Paste-clause-there : goal.returns-in-Paste-clause-there
returns-in-Paste-clause-there c = λ x few named lt.
    let named2 = subst (λ (e : Edit). HasNamedFrames (length x.frames) e) c.in-Paste.is named in
    let lt2 = subst (λ (e : Edit). c.args.i < length (sample_changed e x).frames) c.in-Paste.is lt in
    let same = ap (λ (fs : List ℤ). length fs) (frames_of_paste c.in-Paste.at c.in-Paste.frames x) in
    let count = paste_length x.frames c.in-Paste.frames c.in-Paste.at named2.0 in
    let new = ap (λ (fs : List ℤ). length fs) c.as_slice.ensures in
    c.source_after_paste.ensures.there (length x.frames) named2.0 (omega (arith, lt2, same, count, new))

pub returns-in-Paste-clause-frame : goal.returns-in-Paste-clause-frame
returns-in-Paste-clause-frame c = λ x few named lt.
    let named2 = subst (λ (e : Edit). HasNamedFrames (length x.frames) e) c.in-Paste.is named in
    ap (λ (e : Edit). get_or (sample_changed e x).frames c.args.i (pos 0)) c.in-Paste.is
    ∙ ap (λ (fs : List ℤ). get_or fs c.args.i (pos 0)) (frames_of_paste c.in-Paste.at c.in-Paste.frames x)
    ∙ ap (λ (new : List ℤ). get_or (take c.in-Paste.at x.frames ++ (new ++ drop c.in-Paste.at x.frames)) c.args.i (pos 0)) (sym c.as_slice.ensures)
    ∙ c.source_after_paste.ensures.frame c.args.e.now x.wide x.frames named2.0

pub returns-in-Reverse-clause-there : goal.returns-in-Reverse-clause-there
returns-in-Reverse-clause-there c = λ x few named lt.
    let named2 = subst (λ (e : Edit). HasNamedFrames (length x.frames) e) c.in-Reverse.is named in
    let lt2 = subst (λ (e : Edit). c.args.i < length (sample_changed e x).frames) c.in-Reverse.is lt in
    let count = stretched_length x.frames reverse c.in-Reverse.from c.in-Reverse.to named2.0 named2.1
    (length-reverse (stretch_of c.in-Reverse.from c.in-Reverse.to x.frames)) in
    c.place_before_turn.ensures.there (length x.frames) named2.0 named2.1 (omega (arith, lt2, count))
