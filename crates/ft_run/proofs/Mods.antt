-- What `import` says of its module, wherever it ends.
use Rattle.std.proofs.Common.{◌≡◌, ◌≢◌, ℕ, ◌+◌, ◌<◌, ◌≤◌, List, length, Option, Some, None, inl, inr, refl, sym, subst, arith}
use Rattle.std.specs.Prelude.{IfErr, IfOk, IfSome, Result, Ok, Err}
use Rattle.ft_types.specs.Valid.{IsValid}
use Rattle.ft_types.specs.declared.module.Module.{Module}
use Rattle.ft_modread.specs.declared.fault.ModFault.{ModFault}
use Rattle.ft_modread.specs.declared.fault.ModFault.TheVariants as mods
use Rattle.ft_modread.specs.Songs.{SpellsMod}
use Rattle.ft_modread.specs.Answers.{HasModFault, IsModFaultOf, IsThisMod}
use Rattle.ft_outer.specs.Counts.{Rose}
use Rattle.ft_outer.specs.Pieces.{GivesAll, HasMore}
use Rattle.ft_run.specs.declared.song.TheConstants.{MOST_BYTES}
use Rattle.ft_run.specs.declared.status.Status.{Status}
use Rattle.ft_run.specs.declared.status.Status.TheVariants as statuses
use Rattle.ft_run.specs.declared.status.SongFault.TheVariants.{Mod, TooBig}
use Rattle.ft_run.specs.Songs.{IsReadAs, IsSongFile, ReadsMod, ending}
use Rattle.ft_run.specs.Statuses.{IsAccepted, IsAfterReading, IsDone, IsOfImport, IsUnreadMod, RefusesSong, mod_refusal_of, mod_or_status}
use Rattle.ft_run.proofs.Songs.{told_end, told_file, told_more}

-- ---- faults

same_fault : (found fault : ModFault) → mod_refusal_of found ≡ statuses.Song (Mod fault) → found ≡ fault
same_fault mods.NoMemory fault e = absurd cc
same_fault found fault e = cc

never_memory : (found : ModFault) → mod_refusal_of found ≢ statuses.Song (Mod mods.NoMemory)
never_memory mods.NoMemory e = cc
never_memory found e = cc

-- the fault of the status is the bytes' own
is_fault : (file : List ℕ) (found fault : ModFault) → mod_refusal_of found ≡ statuses.Song (Mod fault)
    → IsModFaultOf file found → HasModFault file fault
is_fault file found fault e (inl given) = subst (λ (f : ModFault). HasModFault file f) (same_fault found fault e) given
is_fault file found fault e (inr wanting) =
    let other : statuses.NoMemory ≡ statuses.Song (Mod fault) =
    subst (λ (f : ModFault). mod_refusal_of f ≡ statuses.Song (Mod fault)) wanting.0 e in
    absurd cc

accepts : (found : ModFault) → found ≡ mods.NoMemory → IsAccepted (mod_refusal_of found)
accepts found wanting = subst (λ (f : ModFault). IsAccepted (mod_refusal_of f)) (sym wanting) tt

refuses_own : (fault : ModFault) → RefusesSong (mod_refusal_of fault) (Mod fault)
refuses_own mods.NoMemory = tt
refuses_own fault = refl

refuses : (found fault : ModFault) → found ≡ fault → RefusesSong (mod_refusal_of found) (Mod fault)
refuses found fault e = subst (λ (f : ModFault). RefusesSong (mod_refusal_of found) (Mod f)) e (refuses_own found)

refusal_kept : (found : ModFault) → mod_refusal_of found ≢ statuses.SongRead
refusal_kept mods.NoMemory e = cc
refusal_kept found e = cc

refusal_small : (found : ModFault) → mod_refusal_of found ≢ statuses.Song TooBig
refusal_small mods.NoMemory e = cc
refusal_small found e = cc

refusal_early : (found : ModFault) → IsAfterReading (mod_refusal_of found) → ⊥
refusal_early mods.NoMemory h = h
refusal_early found h = h

abbrev fails_as : ModFault → Result Module ModFault
fails_as fault = Err fault

err_same : (found fault : ModFault) → fails_as found ≡ fails_as fault → found ≡ fault
err_same found fault e = cc

ok_never : (song : Module) (fault : ModFault) → Ok song ≡ fails_as fault → ⊥
ok_never song fault e = absurd cc

-- `import` refuses no module that is spelled
pub of_import : (r : Result Module Status) (status : Status) → r ≡ Err status → IsUnreadMod status → IsOfImport status
of_import r (statuses.Song (Mod fault)) e kind = tt
of_import r (statuses.Song TooBig) e kind = tt
of_import r statuses.SongRead e kind = tt
of_import r statuses.NoMemory e kind = tt
of_import r status e kind = absurd kind

pub mod_done : (status : Status) → IsUnreadMod status → IsAccepted status → (status ≡ statuses.SongRead → ⊥) → IsDone status
mod_done statuses.SongRead unread accepted sure = sure refl
mod_done statuses.NoMemory unread accepted sure = tt
mod_done (statuses.Song fault) unread accepted sure = absurd accepted
mod_done status unread accepted sure = absurd unread

-- ---- where a run ends

module _ {Source : Type 0} (left : Source → Option (List ℕ)) (given failed : Source → ℕ) (old new : Source) where
  abbrev Reads : Status → Type 0
  Reads status = ReadsMod left given failed old new status

  -- the source failed
  pub mod_source_failed : Rose (failed old) (failed new) → given new ≤ given old + MOST_BYTES → Reads statuses.SongRead
  mod_source_failed rose few = record {
    count = record { told = λ _. rose; kept = λ other. absurd (other refl) };
    too_big = (λ e. absurd cc, λ more. absurd (omega (arith, more, few)));
    held_more = λ file told e. absurd cc;
    told_more = λ file told more. tt;
    fault = λ file fault told e. absurd cc;
    refused = λ file fault told has. tt;
    never_memory = λ e. cc;
    accepted = λ file song told spelled. tt;
    whole = λ after. absurd after;
  }

  -- memory ran out
  pub mod_memory_wanted : failed new ≡ failed old → given new ≤ given old + MOST_BYTES → Reads statuses.NoMemory
  mod_memory_wanted kept few = record {
    count = record { told = λ e. absurd cc; kept = λ _. kept };
    too_big = (λ e. absurd cc, λ more. absurd (omega (arith, more, few)));
    held_more = λ file told e. absurd cc;
    told_more = λ file told more. tt;
    fault = λ file fault told e. absurd cc;
    refused = λ file fault told has. tt;
    never_memory = λ e. cc;
    accepted = λ file song told spelled. tt;
    whole = λ after. absurd after;
  }

  -- the source gave too much
  pub mod_gave_more : failed new ≡ failed old → given old + MOST_BYTES < given new → HasMore (left old) MOST_BYTES
      → Reads (statuses.Song TooBig)
  mod_gave_more kept more held = record {
    count = record { told = λ e. absurd cc; kept = λ _. kept };
    too_big = (λ _. more, λ _. refl);
    held_more = λ file told _. told_more (left old) file MOST_BYTES told held;
    told_more = λ file told longer. refl;
    fault = λ file fault told e. absurd cc;
    refused = λ file fault told has. absurd (omega (arith, told.1, told_more (left old) file MOST_BYTES told.0 held));
    never_memory = λ e. cc;
    accepted =
        λ file song told spelled. absurd (omega (arith, told.1, told_more (left old) file MOST_BYTES told.0 held));
    whole = λ after. absurd after;
  }

  module _ (bytes : List ℕ) (kept : failed new ≡ failed old) (few : given new ≤ given old + MOST_BYTES)
      (some : given new ≡ given old + length bytes) (all : GivesAll (left old) (left new) bytes) where
    whole_of : (file : List ℕ) → left old ≡ Some file → bytes ≡ file
    whole_of file told = told_file (left old) (left new) file bytes told all

    not_longer : (file : List ℕ) → left old ≡ Some file → MOST_BYTES < length file → ⊥
    not_longer file told longer =
        let same : MOST_BYTES < length bytes =
        subst (λ (it : List ℕ). MOST_BYTES < length it) (sym (whole_of file told)) longer in
        omega (arith, few, some, same)

    faults_of : (file : List ℕ) (fault : ModFault) → left old ≡ Some file → HasModFault file fault → HasModFault bytes fault
    faults_of file fault told has = subst (λ (it : List ℕ). HasModFault it fault) (sym (whole_of file told)) has

    -- all was read, and spells a module
    pub mod_read : ((fault : ModFault) → HasModFault bytes fault → ⊥) → Reads statuses.Done
    mod_read sound = record {
      count = record { told = λ e. absurd cc; kept = λ _. kept };
      too_big = (λ e. absurd cc, λ more. absurd (omega (arith, more, few)));
      held_more = λ file told e. absurd cc;
      told_more = λ file told longer. absurd (not_longer file told longer);
      fault = λ file fault told e. absurd cc;
      refused = λ file fault told has. sound fault (faults_of file fault told.0 has);
      never_memory = λ e. cc;
      accepted = λ file song told spelled. tt;
      whole = λ _. told_end (left old) (left new) bytes all;
    }

    -- all was read, and has a fault
    pub mod_refused : (found : ModFault) → IsModFaultOf bytes found
        → ((fault : ModFault) → HasModFault bytes fault → found ≡ fault)
        → ((song : Module) → SpellsMod bytes song → found ≡ mods.NoMemory) → Reads (mod_refusal_of found)
    mod_refused found is first only = record {
      count = record { told = λ e. absurd (refusal_kept found e); kept = λ _. kept };
      too_big = (λ e. absurd (refusal_small found e), λ more. absurd (omega (arith, more, few)));
      held_more = λ file told e. absurd (refusal_small found e);
      told_more = λ file told longer. absurd (not_longer file told longer);
      fault =
          λ file fault told e.
          is_fault file found fault e (subst (λ (it : List ℕ). IsModFaultOf it found) (whole_of file told) is);
      refused = λ file fault told has. refuses found fault (first fault (faults_of file fault told.0 has));
      never_memory = never_memory found;
      accepted =
          λ file song told spelled.
          accepts found (only song (subst (λ (it : List ℕ). SpellsMod it song) (sym (whole_of file told.0)) spelled));
      whole = λ after. absurd (refusal_early found after);
    }

-- ---- all bytes were read

module _ {Source : Type 0} (left : Source → Option (List ℕ)) (given failed : Source → ℕ) (old new : Source)
    (bytes : List ℕ) (kept : failed new ≡ failed old) (few : given new ≤ given old + MOST_BYTES)
    (some : given new ≡ given old + length bytes) (all : GivesAll (left old) (left new) bytes) where
  pub mod_tells : (read : Result Module ModFault) → IfErr read (IsModFaultOf bytes)
      → ((fault : ModFault) → HasModFault bytes fault → read ≡ fails_as fault)
      → ((song : Module) → SpellsMod bytes song → IsThisMod read song)
      → ReadsMod left given failed old new (ending (mod_or_status read))
  mod_tells (Ok song) is refused only =
      mod_read left given failed old new bytes kept few some all (λ fault has. ok_never song fault (refused fault has))
  mod_tells (Err found) is refused only =
      mod_refused left given failed old new bytes kept few some all found is
      (λ fault has. err_same found fault (refused fault has)) (λ song spelled. only song spelled)

  pub mod_tells_only : (read : Result Module ModFault) → ((song : Module) → SpellsMod bytes song → IsThisMod read song)
      → (file : List ℕ) (song : Module) → IsSongFile (left old) file → SpellsMod file song → IsReadAs (mod_or_status read) song
  mod_tells_only (Ok found) only file song held spelled =
      let whole : bytes ≡ file = told_file (left old) (left new) file bytes held.0 all in
      only song (subst (λ (it : List ℕ). SpellsMod it song) (sym whole) spelled)
  mod_tells_only (Err found) only file song held spelled =
      let whole : bytes ≡ file = told_file (left old) (left new) file bytes held.0 all in
      accepts found (only song (subst (λ (it : List ℕ). SpellsMod it song) (sym whole) spelled))

  pub mod_tells_song : (read : Result Module ModFault) → IfOk read (SpellsMod bytes)
      → IfOk (mod_or_status read) (λ song. IfSome (left old) (λ file. SpellsMod file song))
  mod_tells_song (Err found) spelled = tt
  mod_tells_song (Ok song) spelled = at (left old) refl
    where
      at : (held : Option (List ℕ)) → left old ≡ held → IfSome held (λ file. SpellsMod file song)
      at None e = tt
      at (Some file) e =
          subst (λ (it : List ℕ). SpellsMod it song) (told_file (left old) (left new) file bytes e all) spelled

pub mod_tells_valid : (read : Result Module ModFault) → IfOk read IsValid → IfOk (mod_or_status read) IsValid
mod_tells_valid (Ok song) valid = valid
mod_tells_valid (Err found) valid = tt

unread_refusal : (found : ModFault) → IsUnreadMod (mod_refusal_of found)
unread_refusal mods.NoMemory = tt
unread_refusal found = tt

pub mod_tells_kind : (read : Result Module ModFault) → IfErr (mod_or_status read) IsUnreadMod
mod_tells_kind (Ok song) = tt
mod_tells_kind (Err found) = unread_refusal found
