use Rattle.std.proofs.Common.{◌≡◌, ◌+◌, ℕ, List, length, sym, subst}
use Rattle.std.specs.Prelude.{IfErr, IfOk, IfSome, Result}
use Rattle.ft_types.specs.declared.module.Module.{Module}
use Rattle.ft_types.specs.Valid.{IsValid}
use Rattle.ft_format.specs.Spelling.{Spells}
use Rattle.ft_outer.specs.Pieces.{GivesAll}
use Rattle.ft_run.specs.declared.status.Status.{Status}
use Rattle.ft_run.specs.Songs.{IsReadAs, IsSongFile, ReadsSong, ending}
use Rattle.ft_run.specs.Statuses.{IsUnread}
use Rattle.ft_run.proofs.Songs.{tells, tells_kind, tells_only, tells_song, tells_valid}
use Rattle.ft_run.proofs.song.read_song.Goals as goal

pub returns-clause-valid : goal.returns-clause-valid
returns-clause-valid g c =
    subst (λ (r : Result Module Status). IfOk r IsValid) (sym c.song_or_status.ensures)
    (tells_valid c.read_xm.result c.read_xm.ensures.valid)

pub returns-clause-told : goal.returns-clause-told
returns-clause-told g c =
    let source = g.S.Source in
    let same = sym c.deref.ensures.value in
    subst (λ (r : Result Module Status). IfOk r (λ song. IfSome (source.left c.args.source.now) (λ file. Spells file song)))
    (sym c.song_or_status.ensures)
    (tells_song source.left source.given source.faults c.args.source.now c.read_all.new.source c.deref.result.now
    (c.in-Ok.ensures.kept (λ e. cc)) (c.in-Ok.ensures.within (λ e. cc))
    (subst (λ (b : List ℕ). source.given c.read_all.new.source ≡ source.given c.args.source.now + length b) same c.in-Ok.ensures.gave)
    (subst (GivesAll (source.left c.args.source.now) (source.left c.read_all.new.source)) same c.in-Ok.ensures.whole)
    c.read_xm.result c.read_xm.ensures.found)

pub returns-clause-read : goal.returns-clause-read
returns-clause-read g c =
    let source = g.S.Source in
    let same = sym c.deref.ensures.value in
    subst
    (λ (r : Result Module Status).
    ReadsSong source.left source.given source.faults c.args.source.now c.read_all.new.source (ending r))
    (sym c.song_or_status.ensures)
    (tells source.left source.given source.faults c.args.source.now c.read_all.new.source c.deref.result.now
    (c.in-Ok.ensures.kept (λ e. cc)) (c.in-Ok.ensures.within (λ e. cc))
    (subst (λ (b : List ℕ). source.given c.read_all.new.source ≡ source.given c.args.source.now + length b) same c.in-Ok.ensures.gave)
    (subst (GivesAll (source.left c.args.source.now) (source.left c.read_all.new.source)) same c.in-Ok.ensures.whole)
    c.read_xm.result c.read_xm.ensures.fault c.read_xm.ensures.refused c.read_xm.ensures.only)

pub returns-clause-only : goal.returns-clause-only
returns-clause-only g c =
    let source = g.S.Source in
    let same = sym c.deref.ensures.value in
    subst
    (λ (r : Result Module Status). (file : List ℕ) (song : Module) → IsSongFile (source.left c.args.source.now) file
    → Spells file song → IsReadAs r song)
    (sym c.song_or_status.ensures)
    (tells_only source.left source.given source.faults c.args.source.now c.read_all.new.source c.deref.result.now
    (c.in-Ok.ensures.kept (λ e. cc)) (c.in-Ok.ensures.within (λ e. cc))
    (subst (λ (b : List ℕ). source.given c.read_all.new.source ≡ source.given c.args.source.now + length b) same c.in-Ok.ensures.gave)
    (subst (GivesAll (source.left c.args.source.now) (source.left c.read_all.new.source)) same c.in-Ok.ensures.whole)
    c.read_xm.result c.read_xm.ensures.only)

pub returns-clause-kinds : goal.returns-clause-kinds
returns-clause-kinds g c =
    subst (λ (r : Result Module Status). IfErr r IsUnread) (sym c.song_or_status.ensures) (tells_kind c.read_xm.result)
