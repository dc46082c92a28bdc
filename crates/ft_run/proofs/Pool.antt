-- What `step` says of its pool, wherever it ends.
use Rattle.std.proofs.Common.{◌≡◌, ◌≢◌, ◌<◌, ◌≤◌, ℕ, List, Option, sym, ap, ◌∙◌, refl, subst, arith, inl, inr, Ok, Err}
use Rattle.std.specs.Prelude.{IfSome}
use Rattle.std.specs.Result.{IsErrOf}
use Rattle.std.proofs.lemmas.Bool.{cases_lt}
use Rattle.ft_types.specs.declared.module.Module.{Module}
use Rattle.ft_types.specs.Blocks.{blocks_of}
use Rattle.ft_types.specs.Valid.{IsValid}
use Rattle.ft_format.specs.Spelling.{Spells}
use Rattle.ft_shared.specs.declared.shared.OpenFault.{OpenFault}
use Rattle.ft_shared.specs.declared.shared.OpenFault.TheVariants as faults
use Rattle.ft_run.specs.Pool.{HoldsSong, TellsPool}
use Rattle.ft_run.specs.Songs.{IsSongFile}
use Rattle.ft_run.specs.Statuses.{IsAccepted, IsDone, IsUnread, RefusesPool}
use Rattle.ft_run.specs.declared.status.Status.{Status}
use Rattle.ft_run.specs.declared.status.Status.TheVariants as statuses

-- a song that is spelled and not read: its source failed, or memory ran out
unread_refuses : (status : Status) (blocks segments : ℕ) → IsUnread status → IsAccepted status → RefusesPool status blocks segments
unread_refuses statuses.SongRead blocks segments unread accepted = tt
unread_refuses statuses.NoMemory blocks segments unread accepted = tt
unread_refuses (statuses.Song fault) blocks segments unread accepted = absurd accepted
unread_refuses status blocks segments unread accepted = absurd unread

pub unread_done : (status : Status) → IsUnread status → IsAccepted status → (status ≡ statuses.SongRead → ⊥) → IsDone status
unread_done statuses.SongRead unread accepted sure = sure refl
unread_done statuses.NoMemory unread accepted sure = tt
unread_done (statuses.Song fault) unread accepted sure = absurd accepted
unread_done status unread accepted sure = absurd unread

unread_kept : (status : Status) (need had : ℕ) → IsUnread status → status ≢ statuses.PoolSmall need had
unread_kept (statuses.PoolSmall a b) need had unread e = unread
unread_kept status need had unread e = cc

-- a stage was set only where the pool has room
pub fits : {T : Type 0} → (segments blocks : ℕ) (stage : T) (fault : OpenFault)
    → (segments < blocks → IsErrOf {T = T} (Ok stage) fault) → blocks ≤ segments
fits segments blocks stage fault small = elim (cases_lt segments blocks) [
  | inl lt ↦ let bad : ⊥ = let e = small lt in cc in absurd bad
  | inr le ↦ le
]

-- and is refused for its pool only where that has no room, with both numbers
pub is_small : {T : Type 0} → (segments blocks need had : ℕ) (fault : OpenFault) → fault ≡ faults.PoolSmall need had
    → (segments < blocks → IsErrOf {T = T} (Err fault) (faults.PoolSmall blocks segments))
    → (blocks ≤ segments → fault ≡ faults.NoMemory) → (segments < blocks) × (need ≡ blocks) × (had ≡ segments)
is_small segments blocks need had fault is small memory = elim (cases_lt segments blocks) [
  | inl lt ↦ let e = small lt in (lt, cc, cc)
  | inr le ↦ let bad : ⊥ = let e = memory le in cc in absurd bad
]

module _ (held : Option (List ℕ)) (segments : ℕ) where
  -- the song isn't read
  pub unread_tells : (status : Status) → IsUnread status
      → ((file : List ℕ) (song : Module) → IsSongFile held file → Spells file song → IsAccepted status)
      → TellsPool held segments status
  unread_tells status unread accepted = record {
    small = λ need had e. absurd (unread_kept status need had unread e);
    over = λ song holds more. unread_refuses status (blocks_of song) segments unread (accepted holds.0 song holds.1 holds.2);
    fits = λ song holds few need had. unread_kept status need had unread;
  }

  module _ (read : Module) (only : (file : List ℕ) (song : Module) → IsSongFile held file → Spells file song → read ≡ song) where
    same_blocks : (song : Module) → HoldsSong held song → blocks_of read ≡ blocks_of song
    same_blocks song holds = ap blocks_of (only holds.0 song holds.1 holds.2)

    -- it wants more segments than the pool has
    pub small_tells : (need : ℕ) → IsValid read → IfSome held (λ file. Spells file read) → need ≡ blocks_of read → segments < need
        → TellsPool held segments (statuses.PoolSmall need segments)
    small_tells need valid told is more = record {
      small = λ asked had e. record {
        song = read;
        valid = valid;
        told = told;
        wants = let same : need ≡ asked = cc in sym same ∙ is;
        has = let same : segments ≡ had = cc in sym same;
        over = omega (arith, is, more);
      };
      over = λ song holds wide. (is ∙ same_blocks song holds, refl);
      fits = λ song holds few need had e. let same = same_blocks song holds in omega (arith, is, more, same, few);
    }

    -- and both numbers are named
    pub small_told : (need had a b : ℕ) → IsValid read → IfSome held (λ file. Spells file read) → segments < blocks_of read
        → need ≡ blocks_of read → had ≡ segments → a ≡ need → b ≡ had → TellsPool held segments (statuses.PoolSmall a b)
    small_told need had a b valid told more is same x y =
        let tells = small_tells need valid told is (omega (arith, more, is)) in
        subst (λ (n : ℕ). TellsPool held segments (statuses.PoolSmall n b)) (sym x)
        (subst (λ (n : ℕ). TellsPool held segments (statuses.PoolSmall need n)) (sym (y ∙ same)) tells)

    -- the pool has room for it
    pub wide_tells : (status : Status) → blocks_of read ≤ segments → ((need had : ℕ) → status ≢ statuses.PoolSmall need had)
        → TellsPool held segments status
    wide_tells status few kept = record {
      small = λ need had e. absurd (kept need had e);
      over = λ song holds more. let same = same_blocks song holds in absurd (omega (arith, few, more, same));
      fits = λ song holds room. kept;
    }
