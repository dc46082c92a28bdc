use Rattle.std.proofs.Common.{◌≡◌, ◌+◌, ℕ, List, length, sym, subst}
use Rattle.std.specs.Prelude.{IfErr, IfOk, IfSome, Result}
use Rattle.ft_types.specs.declared.module.Module.{Module}
use Rattle.ft_types.specs.Valid.{IsValid}
use Rattle.ft_modread.specs.Songs.{SpellsMod}
use Rattle.ft_outer.specs.Pieces.{GivesAll}
use Rattle.ft_run.specs.declared.status.Status.{Status}
use Rattle.ft_run.specs.Songs.{IsReadAs, IsSongFile, ReadsMod, ending}
use Rattle.ft_run.specs.Statuses.{IsUnreadMod}
use Rattle.ft_run.proofs.Mods.{mod_tells, mod_tells_kind, mod_tells_only, mod_tells_song, mod_tells_valid}
use Rattle.ft_run.proofs.importing.read_module.Goals as goal

pub returns-clause-valid : goal.returns-clause-valid
returns-clause-valid g c =
    subst (λ (r : Result Module Status). IfOk r IsValid) (sym c.mod_or_status.ensures)
    (mod_tells_valid c.read_mod.result c.read_mod.ensures.valid)

pub returns-clause-told : goal.returns-clause-told
returns-clause-told g c =
    let source = g.S.Source in
    let same = sym c.deref.ensures.value in
    subst (λ (r : Result Module Status). IfOk r (λ song. IfSome (source.left c.args.source.now) (λ file. SpellsMod file song)))
    (sym c.mod_or_status.ensures)
    (mod_tells_song source.left source.given source.faults c.args.source.now c.read_all.new.source c.deref.result.now
    (c.in-Ok.ensures.kept (λ e. cc)) (c.in-Ok.ensures.within (λ e. cc))
    (subst (λ (b : List ℕ). source.given c.read_all.new.source ≡ source.given c.args.source.now + length b) same c.in-Ok.ensures.gave)
    (subst (GivesAll (source.left c.args.source.now) (source.left c.read_all.new.source)) same c.in-Ok.ensures.whole)
    c.read_mod.result c.read_mod.ensures.found)

pub returns-clause-read : goal.returns-clause-read
returns-clause-read g c =
    let source = g.S.Source in
    let same = sym c.deref.ensures.value in
    subst
    (λ (r : Result Module Status).
    ReadsMod source.left source.given source.faults c.args.source.now c.read_all.new.source (ending r))
    (sym c.mod_or_status.ensures)
    (mod_tells source.left source.given source.faults c.args.source.now c.read_all.new.source c.deref.result.now
    (c.in-Ok.ensures.kept (λ e. cc)) (c.in-Ok.ensures.within (λ e. cc))
    (subst (λ (b : List ℕ). source.given c.read_all.new.source ≡ source.given c.args.source.now + length b) same c.in-Ok.ensures.gave)
    (subst (GivesAll (source.left c.args.source.now) (source.left c.read_all.new.source)) same c.in-Ok.ensures.whole)
    c.read_mod.result c.read_mod.ensures.fault c.read_mod.ensures.refused c.read_mod.ensures.only)

pub returns-clause-only : goal.returns-clause-only
returns-clause-only g c =
    let source = g.S.Source in
    let same = sym c.deref.ensures.value in
    subst
    (λ (r : Result Module Status). (file : List ℕ) (song : Module) → IsSongFile (source.left c.args.source.now) file
    → SpellsMod file song → IsReadAs r song)
    (sym c.mod_or_status.ensures)
    (mod_tells_only source.left source.given source.faults c.args.source.now c.read_all.new.source c.deref.result.now
    (c.in-Ok.ensures.kept (λ e. cc)) (c.in-Ok.ensures.within (λ e. cc))
    (subst (λ (b : List ℕ). source.given c.read_all.new.source ≡ source.given c.args.source.now + length b) same c.in-Ok.ensures.gave)
    (subst (GivesAll (source.left c.args.source.now) (source.left c.read_all.new.source)) same c.in-Ok.ensures.whole)
    c.read_mod.result c.read_mod.ensures.only)

pub returns-clause-kinds : goal.returns-clause-kinds
returns-clause-kinds g c =
    subst (λ (r : Result Module Status). IfErr r IsUnreadMod) (sym c.mod_or_status.ensures) (mod_tells_kind c.read_mod.result)
