-- The songs of a desk: each version of its history, with the module of its journal at it.
use Rattle.std.proofs.Common.{◌≡◌, ℕ, List, [], ◌∷◌, Bool, true, false, cond, eqb, Option, Some, None, IsSome, map, refl, sym, ap, subst, ◌∙◌}
use Rattle.std.specs.Prelude.{All, IsSomeAnd, slice_index_or}
use Rattle.std.proofs.lemmas.Bool.{eqb-true, eq-eqb}
use Rattle.std.proofs.lemmas.List.Elements.{All-nil, All-cons, All-head, All-tail, All-map}
use Rattle.std.proofs.lemmas.Option.{none-some, same_Some}
use Rattle.ft_edits.specs.Versions.{IsCommitted, module_at}
use Rattle.ft_shared.specs.declared.law.PlacedVersion.{PlacedVersion}
use Rattle.ft_shared.specs.declared.law.Notes.{Notes}
use Rattle.ft_shared.specs.History.{placed_at, Agrees, HasVersion, HasTakenVersion, HasRead}
use Rattle.ft_shared.specs.Pass.{RegisterId, ReaderState}
use Rattle.ft_image.specs.Passes.{IsAmong}
use Rattle.ft_desk.specs.Desk.{DeskState, IsDesk}
use Rattle.ft_player.specs.declared.songs.Songs.{Songs}
use Rattle.ft_player.specs.declared.songs.SongVersion.{SongVersion}
use Rattle.ft_player.specs.Songs.{placed_of, history_of, song_at, song_of, version_among}
use Rattle.ft_player.specs.Behind.{IsShown, AreSongsBehind}

-- what follows for each follows for all
pub all_too : {X : Type 0} (P Q : X → Type 0) (xs : List X) → ((x : X) → P x → Q x) → All P xs → All Q xs
all_too P Q xs too all = λ k d within. too (slice_index_or xs k d) (all k d within)

-- ---- a history by its numbers

-- what is found by a number has this number
is_numbered : (history : List PlacedVersion) (n : ℕ) (q : PlacedVersion) → placed_at history n ≡ Some q → q.version ≡ n
is_numbered [] n q is = absurd (none-some q is)
is_numbered (p ∷ history) n q is = at (eqb p.version n) refl is (λ f. is_numbered history n q f)
  where
    at : (b : Bool) → eqb p.version n ≡ b → cond b (Some p) (placed_at history n) ≡ Some q
        → (placed_at history n ≡ Some q → q.version ≡ n) → q.version ≡ n
    at true e f rest = ap (λ (x : PlacedVersion). x.version) (sym (same_Some p q f)) ∙ eqb-true p.version n e
    at false e f rest = rest f

-- a version is found by the number of this one
abbrev IsFound : List PlacedVersion → PlacedVersion → Type 0
IsFound history placed = (q : PlacedVersion) × (placed_at history placed.version ≡ Some q)

found_behind : (p : PlacedVersion) (history : List PlacedVersion) (n : ℕ) (q : PlacedVersion) → placed_at history n ≡ Some q
    → (r : PlacedVersion) × (placed_at (p ∷ history) n ≡ Some r)
found_behind p history n q is = at (eqb p.version n)
  where
    at : (b : Bool) → (r : PlacedVersion) × (cond b (Some p) (placed_at history n) ≡ Some r)
    at true = (p, refl)
    at false = (q, is)

each_found : (history : List PlacedVersion) → All (IsFound history) history
each_found [] = All-nil (IsFound [])
each_found (p ∷ history) =
    All-cons (IsFound (p ∷ history)) p history
    (p, ap (λ (b : Bool). cond b (Some p) (placed_at history p.version)) (eq-eqb p.version p.version refl))
    (all_too (IsFound history) (IsFound (p ∷ history)) history (λ x f. found_behind p history x.version f.0 f.1)
    (each_found history))

-- ---- the songs

abbrev found_or : Option PlacedVersion → PlacedVersion → PlacedVersion
found_or None other = other
found_or (Some placed) other = placed

-- the version that is found by the number of one of the history, with the desk's song at it
abbrev version_by : DeskState → List PlacedVersion → PlacedVersion → SongVersion
version_by desk history placed = record {
  placed = found_or (placed_at history placed.version) placed;
  song = module_at desk.opening desk.journal.entries placed.version;
}

abbrev pub desk_songs : DeskState → Songs
desk_songs desk = record { versions = map (version_by desk desk.writer.account.history) desk.writer.account.history }

-- a version of the history, with its song
abbrev with_song : DeskState → ℕ → PlacedVersion → SongVersion
with_song desk n placed = record { placed = placed; song = module_at desk.opening desk.journal.entries n }

song_found : (desk : DeskState) (history some : List PlacedVersion) (n : ℕ) (q p : PlacedVersion) → placed_at history n ≡ Some q
    → All (IsFound history) some → placed_at some n ≡ Some p
    → version_among (map (version_by desk history) some) n ≡ Some (with_song desk n q)
song_found desk history [] n q p is all e = absurd (none-some p e)
song_found desk history (x ∷ some) n q p is all e =
    let f = All-head (IsFound history) x some all in
    let same : (version_by desk history x).placed.version ≡ x.version
    = ap (λ (o : Option PlacedVersion). (found_or o x).version) f.1 ∙ is_numbered history x.version f.0 f.1 in
    ap (λ (k : ℕ). cond (eqb k n) (Some (version_by desk history x)) (version_among (map (version_by desk history) some) n)) same
    ∙ at (eqb x.version n) refl e (λ g. song_found desk history some n q p is (All-tail (IsFound history) x some all) g)
  where
    at : (b : Bool) → eqb x.version n ≡ b → cond b (Some x) (placed_at some n) ≡ Some p
        → (placed_at some n ≡ Some p → version_among (map (version_by desk history) some) n ≡ Some (with_song desk n q))
        → cond b (Some (version_by desk history x)) (version_among (map (version_by desk history) some) n)
        ≡ Some (with_song desk n q)
    at true e f rest =
        let number = eqb-true x.version n e in
        let placed : found_or (placed_at history x.version) x ≡ q
        = ap (λ (o : Option PlacedVersion). found_or o x) (ap (placed_at history) number ∙ is) in
        ap (λ (k : ℕ). Some (with_song desk k (found_or (placed_at history x.version) x))) number
        ∙ ap (λ (y : PlacedVersion). Some (with_song desk n y)) placed
    at false e f rest = rest f

has_placed : (versions : List SongVersion) (n : ℕ) (v : SongVersion) → version_among versions n ≡ Some v
    → placed_at (placed_of versions) n ≡ Some v.placed
has_placed [] n v e = absurd (none-some v e)
has_placed (x ∷ versions) n v e = at (eqb x.placed.version n) e (λ f. has_placed versions n v f)
  where
    at : (b : Bool) → cond b (Some x) (version_among versions n) ≡ Some v
        → (version_among versions n ≡ Some v → placed_at (placed_of versions) n ≡ Some v.placed)
        → cond b (Some x.placed) (placed_at (placed_of versions) n) ≡ Some v.placed
    at true f rest = ap (λ (y : SongVersion). Some y.placed) (same_Some x v f)
    at false f rest = rest f

song_of_found : (desk : DeskState) (n : ℕ) (q : PlacedVersion) → placed_at desk.writer.account.history n ≡ Some q
    → version_among (desk_songs desk).versions n ≡ Some (with_song desk n q)
song_of_found desk n q is =
    let history = desk.writer.account.history in song_found desk history history n q q is (each_found history) is

placed_found : (desk : DeskState) (n : ℕ) (q : PlacedVersion) → placed_at desk.writer.account.history n ≡ Some q
    → placed_at (history_of (desk_songs desk)) n ≡ Some q
placed_found desk n q is = has_placed (desk_songs desk).versions n (with_song desk n q) (song_of_found desk n q is)

-- ---- they agree, and are shown

known_too : (P : PlacedVersion → Type 0) (o other : Option PlacedVersion) → ((q : PlacedVersion) → o ≡ Some q → other ≡ Some q)
    → IsSomeAnd o P → IsSomeAnd other P
known_too P None other too some = absurd some
known_too P (Some q) other too some = subst (λ (x : Option PlacedVersion). IsSomeAnd x P) (sym (too q refl)) some

there_too : (o other : Option PlacedVersion) → ((q : PlacedVersion) → o ≡ Some q → other ≡ Some q) → IsSome o → IsSome other
there_too None other too some = absurd cc
there_too (Some q) other too some = subst (λ (x : Option PlacedVersion). IsSome x) (sym (too q refl)) refl

agree_too : (desk : DeskState) (notes : Notes) → Agrees desk.writer.account.history notes
    → Agrees (history_of (desk_songs desk)) notes
agree_too desk notes a =
    let history = desk.writer.account.history in
    let songs = history_of (desk_songs desk) in
    record {
      looks = all_too (HasVersion history) (HasVersion songs) notes.looks
          (λ x has. there_too (placed_at history x) (placed_at songs x) (placed_found desk x) has) a.looks;
      takes = all_too (HasTakenVersion history) (HasTakenVersion songs) notes.takes
          (λ x has. known_too (λ placed. placed.root ≡ x.root) (placed_at history x.version) (placed_at songs x.version)
          (placed_found desk x.version) has) a.takes;
      held = λ t e.
          known_too (λ placed. placed.root ≡ t.root) (placed_at history t.version) (placed_at songs t.version)
          (placed_found desk t.version) (a.held t e);
      reads = all_too (HasRead history) (HasRead songs) notes.reads
          (λ x has. known_too _
          (placed_at history x.version) (placed_at songs x.version) (placed_found desk x.version) has) a.reads;
    }

shown_by_desk : (desk : DeskState) (pass : ReaderState) (p q : PlacedVersion) → IsDesk desk → pass.register ≡ desk.writer.register
    → placed_at desk.writer.account.history p.version ≡ Some q
    → IsShown pass.register.sizes (version_by desk desk.writer.account.history p)
shown_by_desk desk pass p q is here found =
    let s = is.shown p.version q found in
    let first : found_or (placed_at desk.writer.account.history p.version) p ≡ q
    = ap (λ (o : Option PlacedVersion). found_or o p) found in
    let same : desk.writer.register ≡ pass.register = sym here in
    subst (λ (x : PlacedVersion). IsShown pass.register.sizes (with_song desk p.version x)) (sym first) (record {
      among = subst (λ (r : RegisterId). IsAmong r.sizes.segments (record { root = q.root; pool = q.pool })) same s.among;
      shows = s.shows;
      channels = s.channels ∙ ap (λ (r : RegisterId). r.sizes.channels) same;
    })

pub stand_behind : (desk : DeskState) (pass : ReaderState) → IsDesk desk → pass.register ≡ desk.writer.register
    → Agrees desk.writer.account.history pass.notes → AreSongsBehind (desk_songs desk) pass
stand_behind desk pass is here agrees =
    let history = desk.writer.account.history in
    record {
      agrees = agree_too desk pass.notes agrees;
      shown = All-map (IsShown pass.register.sizes) (version_by desk history) history
          (all_too (IsFound history) (λ y. IsShown pass.register.sizes (version_by desk history y)) history
          (λ x f. shown_by_desk desk pass x f.0 is here f.1) (each_found history));
    }

some_found : (o : Option PlacedVersion) → IsSome o → (q : PlacedVersion) × (o ≡ Some q)
some_found None some = absurd cc
some_found (Some q) some = (q, refl)

-- the song at a committed version is that of the journal
pub each_committed : (desk : DeskState) → IsDesk desk → (version : ℕ) → IsCommitted desk.first desk.journal.entries version
    → song_at (desk_songs desk) version ≡ module_at desk.opening desk.journal.entries version
each_committed desk is version committed =
    let f = some_found (placed_at desk.writer.account.history version) ((is.committed version).1 committed) in
    ap song_of (song_of_found desk version f.0 f.1)
