-- What a run says of its song, wherever it ends.
use Rattle.std.proofs.Common.{◌≡◌, ◌≢◌, ℕ, ◌+◌, ◌<◌, ◌≤◌, List, [], length, Option, Some, None, inl, inr, ◌⊎◌, refl, sym, subst, arith}
use Rattle.std.specs.Prelude.{IfErr, IfOk, IfSome, Result, Ok, Err}
use Rattle.ft_types.specs.Valid.{IsValid}
use Rattle.ft_types.specs.declared.module.Module.{Module}
use Rattle.ft_format.specs.Spelling.{Spells}
use Rattle.ft_outer.specs.Counts.{Rose}
use Rattle.ft_outer.specs.Pieces.{GivesAll, HasMore}
use Rattle.ft_xmread.specs.declared.fault.XmFault.{XmFault}
use Rattle.ft_xmread.specs.declared.fault.XmFault.TheVariants as faults
use Rattle.ft_xmread.specs.Song.{HasFault, IsFaultOf, IsRefusedBy, IsThisSong}
use Rattle.ft_run.specs.declared.song.TheConstants.{MOST_BYTES}
use Rattle.ft_run.specs.declared.status.Status.{Status}
use Rattle.ft_run.specs.declared.status.Status.TheVariants as statuses
use Rattle.ft_run.specs.declared.status.SongFault.{SongFault}
use Rattle.ft_run.specs.declared.status.SongFault.TheVariants.{Xm, TooBig}
use Rattle.ft_run.specs.Songs.{IsReadAs, IsSongFile, ReadsSong, ending}
use Rattle.ft_run.specs.Statuses.{IsAccepted, IsAfterReading, IsOfCopy, IsUnread, RefusesSong, refusal_of, song_or_status}

-- ---- sources

-- a source that is known gave all that it held
pub told_file : (old new : Option (List ℕ)) (file bytes : List ℕ) → old ≡ Some file → GivesAll old new bytes
    → bytes ≡ file
told_file old new file bytes e all =
    let told : GivesAll (Some file) new bytes = subst (λ (held : Option (List ℕ)). GivesAll held new bytes) e all in
    told.0

pub told_more : (old : Option (List ℕ)) (file : List ℕ) (most : ℕ) → old ≡ Some file → HasMore old most → most < length file
told_more old file most e more = subst (λ (held : Option (List ℕ)). HasMore held most) e more

pub told_end : (old new : Option (List ℕ)) (bytes : List ℕ) → GivesAll old new bytes → IfSome old (λ _. new ≡ Some [])
told_end (Some file) new bytes all = all.1
told_end old new bytes all = tt

-- ---- faults

same_fault : (found fault : XmFault) → refusal_of found ≡ statuses.Song (Xm fault) → found ≡ fault
same_fault faults.NoMemory fault e = absurd cc
same_fault found fault e = cc

never_memory : (found : XmFault) → refusal_of found ≢ statuses.Song (Xm faults.NoMemory)
never_memory faults.NoMemory e = cc
never_memory found e = cc

-- the fault of the status is the bytes' own
is_fault : (file : List ℕ) (found fault : XmFault) → refusal_of found ≡ statuses.Song (Xm fault) → IsFaultOf file found
    → HasFault file fault
is_fault file found fault e (inr given) = subst (λ (f : XmFault). HasFault file f) (same_fault found fault e) given
is_fault file found fault e (inl wanting) =
    let other : statuses.NoMemory ≡ statuses.Song (Xm fault) =
    subst (λ (f : XmFault). refusal_of f ≡ statuses.Song (Xm fault)) wanting e in
    absurd cc

-- no song is read where memory runs out
pub accepts : (found : XmFault) → found ≡ faults.NoMemory → IsAccepted (refusal_of found)
accepts found wanting = subst (λ (f : XmFault). IsAccepted (refusal_of f)) (sym wanting) tt

refuses_own : (fault : XmFault) → RefusesSong (refusal_of fault) (Xm fault)
refuses_own faults.NoMemory = tt
refuses_own fault = refl

-- a fault of the bytes is the status's, unless memory ran out
refuses : (found fault : XmFault) → (found ≡ fault) ⊎ (found ≡ faults.NoMemory)
    → RefusesSong (refusal_of found) (Xm fault)
refuses found fault (inl e) = subst (λ (f : XmFault). RefusesSong (refusal_of found) (Xm f)) e (refuses_own found)
refuses found fault (inr e) = subst (λ (f : XmFault). RefusesSong (refusal_of f) (Xm fault)) (sym e) tt

-- a run that refused its song read no other, so it isn't counted, and isn't too big
refusal_kept : (found : XmFault) → refusal_of found ≢ statuses.SongRead
refusal_kept faults.NoMemory e = cc
refusal_kept found e = cc

refusal_small : (found : XmFault) → refusal_of found ≢ statuses.Song TooBig
refusal_small faults.NoMemory e = cc
refusal_small found e = cc

refusal_early : (found : XmFault) → IsAfterReading (refusal_of found) → ⊥
refusal_early faults.NoMemory h = h
refusal_early found h = h

refuses_big : (found : XmFault) → found ≡ faults.NoMemory → RefusesSong (refusal_of found) TooBig
refuses_big found wanting = subst (λ (f : XmFault). RefusesSong (refusal_of f) TooBig) (sym wanting) tt

done_small : statuses.Done ≢ statuses.Song TooBig
done_small e = cc

-- `copy` refuses no song that is spelled
pub of_copy : (r : Result Module Status) (status : Status) → r ≡ Err status → IsUnread status → IsOfCopy status
of_copy r (statuses.Song (Xm fault)) e kind = tt
of_copy r (statuses.Song TooBig) e kind = tt
of_copy r statuses.SongRead e kind = tt
of_copy r statuses.NoMemory e kind = tt
of_copy r status e kind = absurd kind

-- ---- where a run ends

module _ {Source : Type 0} (left : Source → Option (List ℕ)) (given failed : Source → ℕ) (old new : Source) where
  abbrev Reads : Status → Type 0
  Reads status = ReadsSong left given failed old new status

  -- the source failed
  pub source_failed : Rose (failed old) (failed new) → given new ≤ given old + MOST_BYTES → Reads statuses.SongRead
  source_failed rose few = record {
    count = record { told = λ _. rose; kept = λ other. absurd (other refl) };
    too_big = (λ e. absurd cc, λ more. absurd (omega (arith, more, few)));
    held_more = λ file told e. absurd cc;
    told_more = λ file told more. tt;
    fault = λ file fault told e. absurd cc;
    refused = λ file fault told has. tt;
    never_memory = λ e. cc;
    accepted = λ file song told spelled. tt;
    whole = λ after. absurd after;
  }

  -- memory ran out
  pub memory_wanted : failed new ≡ failed old → given new ≤ given old + MOST_BYTES → Reads statuses.NoMemory
  memory_wanted kept few = record {
    count = record { told = λ e. absurd cc; kept = λ _. kept };
    too_big = (λ e. absurd cc, λ more. absurd (omega (arith, more, few)));
    held_more = λ file told e. absurd cc;
    told_more = λ file told more. tt;
    fault = λ file fault told e. absurd cc;
    refused = λ file fault told has. tt;
    never_memory = λ e. cc;
    accepted = λ file song told spelled. tt;
    whole = λ after. absurd after;
  }

  -- the source gave too much
  pub gave_more : failed new ≡ failed old → given old + MOST_BYTES < given new → HasMore (left old) MOST_BYTES
      → Reads (statuses.Song TooBig)
  gave_more kept more held = record {
    count = record { told = λ e. absurd cc; kept = λ _. kept };
    too_big = (λ _. more, λ _. refl);
    held_more = λ file told _. told_more (left old) file MOST_BYTES told held;
    told_more = λ file told longer. refl;
    fault = λ file fault told e. absurd cc;
    refused = λ file fault told has. absurd (omega (arith, told.1, told_more (left old) file MOST_BYTES told.0 held));
    never_memory = λ e. cc;
    accepted =
        λ file song told spelled. absurd (omega (arith, told.1, told_more (left old) file MOST_BYTES told.0 held));
    whole = λ after. absurd after;
  }

  module _ (bytes : List ℕ) (kept : failed new ≡ failed old) (few : given new ≤ given old + MOST_BYTES)
      (some : given new ≡ given old + length bytes) (all : GivesAll (left old) (left new) bytes) where
    whole_of : (file : List ℕ) → left old ≡ Some file → bytes ≡ file
    whole_of file told = told_file (left old) (left new) file bytes told all

    not_longer : (file : List ℕ) → left old ≡ Some file → MOST_BYTES < length file → ⊥
    not_longer file told longer =
        let same : MOST_BYTES < length bytes =
        subst (λ (it : List ℕ). MOST_BYTES < length it) (sym (whole_of file told)) longer in
        omega (arith, few, some, same)

    -- all was read, and is a song
    pub song_read : ((fault : XmFault) → HasFault bytes fault → ⊥) → Reads statuses.Done
    song_read sound = record {
      count = record { told = λ e. absurd cc; kept = λ _. kept };
      too_big = (λ e. absurd cc, λ more. absurd (omega (arith, more, few)));
      held_more = λ file told e. absurd cc;
      told_more = λ file told longer. absurd (not_longer file told longer);
      fault = λ file fault told e. absurd cc;
      refused =
          λ file fault told has.
          sound fault (subst (λ (it : List ℕ). HasFault it fault) (sym (whole_of file told.0)) has);
      never_memory = λ e. cc;
      accepted = λ file song told spelled. tt;
      whole = λ _. told_end (left old) (left new) bytes all;
    }

    -- all was read, and has a fault
    pub song_refused : (found : XmFault) → IsFaultOf bytes found
        → ((fault : XmFault) → HasFault bytes fault → (found ≡ fault) ⊎ (found ≡ faults.NoMemory))
        → ((song : Module) → Spells bytes song → found ≡ faults.NoMemory) → Reads (refusal_of found)
    song_refused found is first only = record {
      count = record { told = λ e. absurd (refusal_kept found e); kept = λ _. kept };
      too_big = (λ e. absurd (refusal_small found e), λ more. absurd (omega (arith, more, few)));
      held_more = λ file told e. absurd (refusal_small found e);
      told_more = λ file told longer. absurd (not_longer file told longer);
      fault =
          λ file fault told e.
          is_fault file found fault e (subst (λ (it : List ℕ). IsFaultOf it found) (whole_of file told) is);
      refused = λ file fault told has.
          refuses found fault
          (first fault (subst (λ (it : List ℕ). HasFault it fault) (sym (whole_of file told.0)) has));
      never_memory = never_memory found;
      accepted =
          λ file song told spelled.
          accepts found (only song (subst (λ (it : List ℕ). Spells it song) (sym (whole_of file told.0)) spelled));
      whole = λ after. absurd (refusal_early found after);
    }

  -- what follows once the song is read changes nothing of this
  pub goes_on : (status : Status) → status ≢ statuses.SongRead → ((fault : SongFault) → status ≢ statuses.Song fault)
      → IsAccepted status → Reads statuses.Done → Reads status
  goes_on status not_read not_refused accepted read = record {
    count = record { told = λ e. absurd (not_read e); kept = λ _. read.count.kept (λ e. cc) };
    too_big = (λ e. absurd (not_refused TooBig e), λ more. absurd (done_small (read.too_big.1 more)));
    held_more = λ file told e. absurd (not_refused TooBig e);
    told_more = λ file told longer. absurd (read.told_more file told longer);
    fault = λ file fault told e. absurd (not_refused (Xm fault) e);
    refused = λ file fault told has. absurd (read.refused file fault told has);
    never_memory = not_refused (Xm faults.NoMemory);
    accepted = λ file song told spelled. accepted;
    whole = λ _. read.whole tt;
  }

-- ---- all bytes were read

-- what is known of the answer that a song was read by
abbrev IsFaultKnown : List ℕ → Result Module XmFault → Type 0
IsFaultKnown bytes read = (fault : XmFault) → HasFault bytes fault → IsRefusedBy read fault

module _ {Source : Type 0} (left : Source → Option (List ℕ)) (given failed : Source → ℕ) (old new : Source)
    (bytes : List ℕ) (kept : failed new ≡ failed old) (few : given new ≤ given old + MOST_BYTES)
    (some : given new ≡ given old + length bytes) (all : GivesAll (left old) (left new) bytes) where
  pub tells : (read : Result Module XmFault) → IfErr read (IsFaultOf bytes) → IsFaultKnown bytes read
      → ((song : Module) → Spells bytes song → IsThisSong read song)
      → ReadsSong left given failed old new (ending (song_or_status read))
  tells (Ok song) is refused only =
      song_read left given failed old new bytes kept few some all (λ fault has. refused fault has)
  tells (Err found) is refused only =
      song_refused left given failed old new bytes kept few some all found is (λ fault has. refused fault has)
      (λ song spelled. only song spelled)

  pub tells_only : (read : Result Module XmFault) → ((song : Module) → Spells bytes song → IsThisSong read song)
      → (file : List ℕ) (song : Module) → IsSongFile (left old) file → Spells file song → IsReadAs (song_or_status read) song
  tells_only (Ok found) only file song held spelled =
      let whole : bytes ≡ file = told_file (left old) (left new) file bytes held.0 all in
      only song (subst (λ (it : List ℕ). Spells it song) (sym whole) spelled)
  tells_only (Err found) only file song held spelled =
      let whole : bytes ≡ file = told_file (left old) (left new) file bytes held.0 all in
      accepts found (only song (subst (λ (it : List ℕ). Spells it song) (sym whole) spelled))

  pub tells_song : (read : Result Module XmFault) → IfOk read (Spells bytes)
      → IfOk (song_or_status read) (λ song. IfSome (left old) (λ file. Spells file song))
  tells_song (Err found) spelled = tt
  tells_song (Ok song) spelled = at (left old) refl
    where
      at : (held : Option (List ℕ)) → left old ≡ held → IfSome held (λ file. Spells file song)
      at None e = tt
      at (Some file) e =
          subst (λ (it : List ℕ). Spells it song) (told_file (left old) (left new) file bytes e all) spelled

pub tells_valid : (read : Result Module XmFault) → IfOk read IsValid → IfOk (song_or_status read) IsValid
tells_valid (Ok song) valid = valid
tells_valid (Err found) valid = tt

unread_refusal : (found : XmFault) → IsUnread (refusal_of found)
unread_refusal faults.NoMemory = tt
unread_refusal found = tt

pub tells_kind : (read : Result Module XmFault) → IfErr (song_or_status read) IsUnread
tells_kind (Ok song) = tt
tells_kind (Err found) = unread_refusal found
