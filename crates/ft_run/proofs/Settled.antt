-- What a player played for a stage, once its pass is settled: ticks of the stage's song.
use Rattle.std.proofs.Common.{◌≡◌, ◌⊎◌, inl, inr, ℕ, List, [], ◌∷◌, Option, Some, None, IsSome, length, replicate, refl, sym, ap, subst, ◌∙◌}
use Rattle.std.specs.Prelude.{◌↔◌, All, IsSomeAnd}
use Rattle.std.specs.List.{Contains}
use Rattle.std.proofs.lemmas.List.Elements.{All-contains, All-head, All-tail}
use Rattle.ft_types.specs.declared.module.Module.{Module}
use Rattle.ft_types.specs.declared.journal.Entry.{Entry}
use Rattle.ft_edits.specs.Versions.{IsCommitted, module_at}
use Rattle.ft_replay.specs.State.{SequentialState, first_state}
use Rattle.ft_replay.specs.Replay.{ticks_from}
use Rattle.ft_replay.specs.Tick.{Tick, seq_tick}
use Rattle.ft_shared.specs.declared.law.Account.{Account}
use Rattle.ft_shared.specs.declared.law.PlacedVersion.{PlacedVersion}
use Rattle.ft_shared.specs.declared.law.TakenVersion.{TakenVersion}
use Rattle.ft_shared.specs.History.{placed_at, Agrees, HasTakenVersion}
use Rattle.ft_shared.specs.Pass.{ReaderState, WriterState}
use Rattle.ft_desk.specs.Desk.{DeskState, IsDesk}
use Rattle.ft_player.specs.declared.songs.Songs.{Songs}
use Rattle.ft_player.specs.Songs.{song_at}
use Rattle.ft_player.specs.Behind.{AreSongsBehind}
use Rattle.ft_player.specs.Player.{PlayerState, HasClosed, stood_by}
use Rattle.ft_run.specs.declared.stage.Stage.{Stage}
use Rattle.ft_run.specs.Stage.{IsSet}
use Rattle.ft_run.specs.Ticks.{HaveLooked, HasPlayedTicks, HasTakenNumber}
use Rattle.ft_run.proofs.DeskSongs.{all_too, desk_songs, stand_behind, each_committed}
use Rattle.ft_run.proofs.Missing.{song_ticks}

abbrev pub SameSongsClosed : Type 0
SameSongsClosed = (songs : Songs) (old new : ReaderState) → HasClosed old new → AreSongsBehind songs new ↔ AreSongsBehind songs old

there : (P : PlacedVersion → Type 0) (o : Option PlacedVersion) → IsSomeAnd o P → IsSome o
there P None some = absurd some
there P (Some placed) some = refl

-- each version that was reported is committed in the journal
pub versions_committed : (desk : DeskState) (old new closed : ReaderState) (versions : List ℕ) → IsDesk desk → HasClosed new closed
    → Agrees desk.writer.account.history closed.notes → HaveLooked old.notes new.notes versions
    → All (IsCommitted desk.first desk.journal.entries) versions
versions_committed desk old new closed versions is unpinned agrees looked =
    all_too (HasTakenNumber new.notes.takes) (IsCommitted desk.first desk.journal.entries) versions (λ x t.
    let history = desk.writer.account.history in
    let takes : new.notes.takes ≡ closed.notes.takes = sym (ap (λ (r : ReaderState). r.notes.takes) unpinned.is) in
    let has = All-contains (HasTakenVersion history) closed.notes.takes t.0 agrees.takes
    (subst (λ (l : List TakenVersion). Contains l t.0) takes t.1) in
    let some = there (λ placed. placed.root ≡ t.0.root) (placed_at history t.0.version) has in
    subst (IsCommitted desk.first desk.journal.entries) t.2 ((is.committed t.0.version).0 some)) looked.taken

-- equal songs play equal ticks
pub same_ticks : (f g : ℕ → Module) (versions : List ℕ) (rate : ℕ) (state : SequentialState) → All (λ v. f v ≡ g v) versions
    → ticks_from f versions rate state ≡ ticks_from g versions rate state
same_ticks f g [] rate state all = refl
same_ticks f g (v ∷ versions) rate state all =
    ap (λ (m : Module). seq_tick v m rate state ∷ ticks_from f versions rate (seq_tick v m rate state).state)
    (All-head (λ (v : ℕ). f v ≡ g v) v versions all)
    ∙ ap (λ (l : List Tick). seq_tick v (g v) rate state ∷ l)
    (same_ticks f g versions rate (seq_tick v (g v) rate state).state (All-tail (λ (v : ℕ). f v ≡ g v) v versions all))

-- what is true of the ticks of a player is true of the ticks of its desk's songs
pub of_desk : (True : List Tick → Type 0) (desk : DeskState) (old new : PlayerState) (closed : ReaderState) (versions : List ℕ)
    → SameSongsClosed → IsDesk desk → old.pass.register ≡ desk.writer.register → HasClosed new.pass closed
    → Agrees desk.writer.account.history closed.notes → (first : SequentialState)
    → ((songs : Songs) → stood_by songs old ≡ first) → HasPlayedTicks old new versions True
    → True (ticks_from (module_at desk.opening desk.journal.entries) versions old.rate first)
of_desk True desk old new closed versions same is here unpinned agrees first begins p =
    let songs = desk_songs desk in
    let register = ap (λ (x : ReaderState). x.register) unpinned.is ∙ p.register ∙ here in
    let behind = (same songs new.pass closed unpinned).0 (stand_behind desk closed is register agrees) in
    let b = p.behind songs behind in
    let committed = versions_committed desk old.pass new.pass closed versions is unpinned agrees p.looked in
    subst True
    (ap (λ (s : SequentialState). ticks_from (song_at songs) versions old.rate s) (begins songs)
    ∙ same_ticks (song_at songs) (module_at desk.opening desk.journal.entries) versions old.rate first
    (all_too (IsCommitted desk.first desk.journal.entries)
    (λ (v : ℕ). song_at songs v ≡ module_at desk.opening desk.journal.entries v) versions
    (λ x has. each_committed desk is x has) committed))
    b.1.ticks

-- ---- a stage has one version alone

only_first : (first : ℕ) (entries : List Entry) (n : ℕ) → entries ≡ [] → IsCommitted first entries n → n ≡ first
only_first first entries n none committed = at (subst (λ (x : List Entry). IsCommitted first x n) none committed)
  where
    at : (n ≡ first) ⊎ ⊥ → n ≡ first
    at (inl e) = e
    at (inr bad) = absurd bad

all_zero : (versions : List ℕ) → All (λ v. v ≡ 0) versions → versions ≡ replicate (length versions) 0
all_zero [] all = refl
all_zero (v ∷ versions) all =
    ap (λ (n : ℕ). n ∷ versions) (All-head (λ (n : ℕ). n ≡ 0) v versions all)
    ∙ ap (λ (l : List ℕ). 0 ∷ l) (all_zero versions (All-tail (λ (n : ℕ). n ≡ 0) v versions all))

-- the desk with other accounts
abbrev with_account : DeskState → Account → DeskState
with_account desk account = record desk { writer = record desk.writer { account = account } }

pub of_stage : (True : List Tick → Type 0) (song : Module) (stage : Stage) (set : IsSet song stage) (desk : DeskState) (account : Account)
    (old new : PlayerState) (closed : ReaderState) (versions : List ℕ) (rate : ℕ)
    → SameSongsClosed → IsDesk desk → desk ≡ with_account stage.desk account → HasClosed new.pass closed
    → Agrees desk.writer.account.history closed.notes → old.pass ≡ stage.pass → old.rate ≡ rate
    → ((songs : Songs) → stood_by songs old ≡ first_state song.channels) → HasPlayedTicks old new versions True
    → True (song_ticks song rate (first_state song.channels) (length versions))
of_stage True song stage set desk account old new closed versions rate same is settled unpinned agrees pass rated begins p =
    let first = first_state song.channels in
    let entries : desk.journal.entries ≡ [] = ap (λ (d : DeskState). d.journal.entries) settled ∙ set.opened.entries in
    let opening : desk.opening ≡ song = ap (λ (d : DeskState). d.opening) settled ∙ set.opened.opening in
    let number : desk.first ≡ 0 = ap (λ (d : DeskState). d.first) settled ∙ set.opened.first in
    let here : old.pass.register ≡ desk.writer.register
    = ap (λ (x : ReaderState). x.register) (pass ∙ set.pass)
    ∙ sym (ap (λ (d : DeskState). d.writer.register) settled ∙ ap (λ (w : WriterState). w.register) set.opened.writer) in
    let committed = versions_committed desk old.pass new.pass closed versions is unpinned agrees p.looked in
    let zeros = all_zero versions
    (all_too (IsCommitted desk.first desk.journal.entries) (λ (v : ℕ). v ≡ 0) versions
    (λ x has. only_first desk.first desk.journal.entries x entries has ∙ number) committed) in
    subst True
    (same_ticks (module_at desk.opening desk.journal.entries) (λ version. song) versions old.rate first
    (all_too (IsCommitted desk.first desk.journal.entries)
    (λ (v : ℕ). module_at desk.opening desk.journal.entries v ≡ song) versions
    (λ x has. ap (λ (es : List Entry). module_at desk.opening es x) entries ∙ opening) committed)
    ∙ ap (λ (r : ℕ). ticks_from (λ version. song) versions r first) rated
    ∙ ap (λ (l : List ℕ). ticks_from (λ version. song) l rate first) zeros)
    (of_desk True desk old new closed versions same is here unpinned agrees first begins p)
