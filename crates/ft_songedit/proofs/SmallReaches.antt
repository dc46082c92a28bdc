-- What an edit reaches has a number that a song may have, and the fresh root comes first.
use Rattle.std.proofs.Common.{◌≡◌, ℕ, List, length, refl, ap, arith, eq-eqb}
use Rattle.std.specs.Prelude.{slice_index}
use Rattle.std.proofs.lemmas.Option.{slice_get_within}
use Rattle.ft_types.specs.declared.module.Module.{Module}
use Rattle.ft_types.specs.Valid.{IsValid}
use Rattle.ft_segments.specs.Walk as walking
use Rattle.ft_segments.specs.Walk.{SongIds, Placed, IsOf, ids_of, is_it}
use Rattle.ft_changes.specs.declared.reach.Reach.{Reach}
use Rattle.ft_changes.specs.declared.reach.Reach.TheVariants as reaches
use Rattle.ft_changes.specs.Reached.{IsReached}
use Rattle.ft_changes.specs.Ids.{ids_after}
use Rattle.ft_songedit.specs.Small.{IsSmallReach}
use Rattle.ft_songedit.proofs.Roots.{put_length}

pub small_reach : (reach : Reach) (m n : Module) → IsValid m → IsValid n → IsReached reach m n → IsSmallReach reach
small_reach reaches.Song m n valid next reached = tt
small_reach reaches.LastPattern m n valid next reached = tt
small_reach (reaches.Cell p b) m n valid next reached =
    let w = slice_get_within m.patterns p reached.before reached.there in omega (arith, w, valid.few_patterns)
small_reach (reaches.Pattern p b) m n valid next reached =
    let l = put_length p reached.after m.patterns reached.there in
    let e = ap length reached.all.patterns in
    omega (arith, l, e, next.few_patterns)
small_reach (reaches.Instrument at) m n valid next reached =
    let w = slice_get_within m.instruments at reached.before reached.there in omega (arith, w, valid.few_instruments)
small_reach (reaches.Bare at) m n valid next reached =
    let l = put_length at reached.after m.instruments reached.there in
    let e = ap length reached.all.instruments in
    omega (arith, l, e, next.few_instruments)
small_reach (reaches.LastSample at) m n valid next reached =
    let w = slice_get_within m.instruments at reached.before reached.there in omega (arith, w, valid.few_instruments)
small_reach (reaches.Sample at s) m n valid next reached =
    let w = slice_get_within m.instruments at reached.before reached.there in omega (arith, w, valid.few_instruments)
small_reach (reaches.Frames at s first last gone) m n valid next reached =
    let w = slice_get_within m.instruments at reached.before reached.there in omega (arith, w, valid.few_instruments)

pub first_is_root : (reach : Reach) (fresh : List ℕ) (ids : SongIds) → (ids_after reach fresh ids).root ≡ slice_index fresh 0
first_is_root reaches.Song fresh ids = refl
first_is_root reaches.LastPattern fresh ids = refl
first_is_root (reaches.Cell p b) fresh ids = refl
first_is_root (reaches.Pattern p b) fresh ids = refl
first_is_root (reaches.Instrument at) fresh ids = refl
first_is_root (reaches.Bare at) fresh ids = refl
first_is_root (reaches.LastSample at) fresh ids = refl
first_is_root (reaches.Sample at s) fresh ids = refl
first_is_root (reaches.Frames at s first last gone) fresh ids = refl

pub is_itself : (s : ℕ) → is_it s s ≡ 1
is_itself s = rw (eq-eqb s s refl) refl

pub root_is_of_it : (p : Placed) → IsOf p p.root
unfolding walking.walk
root_is_of_it p = omega (arith, is_itself p.root)
