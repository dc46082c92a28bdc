-- How `step` ends, by what was read and how it was played.
use Rattle.std.proofs.Common.{◌≡◌, ◌≢◌, inl, inr, ℕ, List, Option, refl, sym, ap, subst, ◌∙◌, arith, Ok, Err}
use Rattle.std.specs.Prelude.{IfErr, IfOk, IfSome, Result}
use Rattle.std.specs.Io.KnownBytes.{Appends}
use Rattle.std.proofs.lemmas.Bool.{cases_lt}
use Rattle.ft_types.specs.declared.module.Module.{Module}
use Rattle.ft_types.specs.Blocks.{blocks_of}
use Rattle.ft_types.specs.Valid.{IsValid}
use Rattle.ft_format.specs.Spelling.{Spells}
use Rattle.ft_outer.specs.Pieces.{TakesFront}
use Rattle.ft_words.specs.declared.answer.Asked.TheVariants as ask
use Rattle.ft_words.specs.declared.answer.Step.{Step}
use Rattle.ft_run.specs.Pool.{CanBeDone, NeverRose, PlaysSong, TellsPool}
use Rattle.ft_run.specs.Run.{IsOutput, wav_of}
use Rattle.ft_run.specs.Songs.{IsReadAs, IsSongFile, ReadsSong, ending}
use Rattle.ft_run.specs.Statuses.{IsAccepted, IsCounted, IsDone, IsOfStep, IsPlayEnd, IsUnread}
use Rattle.ft_run.specs.declared.status.Status.{Status}
use Rattle.ft_run.specs.declared.status.SongFault.{SongFault}
use Rattle.ft_run.specs.declared.status.SongFault.TheVariants.{Xm, TooBig}
use Rattle.ft_run.specs.declared.status.Status.TheVariants as statuses
use Rattle.ft_run.proofs.Pool.{small_tells, unread_done, unread_tells, wide_tells}
use Rattle.ft_run.proofs.Songs.{goes_on}

-- ---- statuses

unread_of_step : (status : Status) → IsUnread status → IsOfStep status
unread_of_step (statuses.Song (Xm fault)) unread = tt
unread_of_step (statuses.Song TooBig) unread = tt
unread_of_step statuses.SongRead unread = tt
unread_of_step statuses.NoMemory unread = tt
unread_of_step status unread = absurd unread

played_of_step : (status : Status) → IsPlayEnd status → IsOfStep status
played_of_step statuses.Done played = tt
played_of_step statuses.WavWrite played = tt
played_of_step statuses.NoMemory played = tt
played_of_step status played = absurd played

played_accepted : (status : Status) → IsPlayEnd status → IsAccepted status
played_accepted statuses.Done played = tt
played_accepted statuses.WavWrite played = tt
played_accepted statuses.NoMemory played = tt
played_accepted status played = absurd played

played_not_read : (status : Status) → IsPlayEnd status → status ≢ statuses.SongRead
played_not_read statuses.SongRead played e = played
played_not_read status played e = cc

played_not_refused : (status : Status) → IsPlayEnd status → (fault : SongFault) → status ≢ statuses.Song fault
played_not_refused (statuses.Song other) played fault e = played
played_not_refused status played fault e = cc

played_not_small : (status : Status) → IsPlayEnd status → (need had : ℕ) → status ≢ statuses.PoolSmall need had
played_not_small (statuses.PoolSmall a b) played need had e = played
played_not_small status played need had e = cc

played_done : (status : Status) → IsPlayEnd status → (status ≡ statuses.WavWrite → ⊥) → IsDone status
played_done statuses.Done played sure = tt
played_done statuses.WavWrite played sure = sure refl
played_done statuses.NoMemory played sure = tt
played_done status played sure = absurd played

-- ---- by what was read

module _ {Source Sink : Type 0} (left : Source → Option (List ℕ)) (given failed : Source → ℕ) (held : Sink → Option (List ℕ))
    (faults : Sink → ℕ) (step : Step) (old new : Source) (wav wav_after : Sink) (result : Status) where
  abbrev pub Known : Result Module Status → Type 0
  Known read =
      IfOk read IsValid
      × IfOk read (λ song. IfSome (left old) (λ file. Spells file song))
      × ReadsSong left given failed old new (ending read)
      × ((file : List ℕ) (song : Module) → IsSongFile (left old) file → Spells file song → IsReadAs read song)
      × IfErr read IsUnread
      × IfErr read (λ status. result ≡ status)
      × IfErr read (λ _. wav_after ≡ wav)
      × IfOk read (λ song. PlaysSong song step (held wav) (held wav_after) (faults wav) (faults wav_after) result)

  pub end_kinds : (read : Result Module Status) → Known read → IsOfStep result
  end_kinds (Err status) k = subst IsOfStep (sym k.5) (unread_of_step status k.4)
  end_kinds (Ok song) k = elim (cases_lt step.segments (blocks_of song)) [
    | inl lt ↦ subst IsOfStep (sym (k.7.small lt)) tt
    | inr le ↦ played_of_step result (k.7.wide le)
  ]

  pub end_read : (read : Result Module Status) → Known read → ReadsSong left given failed old new result
  end_read (Err status) k = subst (ReadsSong left given failed old new) (sym k.5) k.2
  end_read (Ok song) k = elim (cases_lt step.segments (blocks_of song)) [
    | inl lt ↦
        subst (ReadsSong left given failed old new) (sym (k.7.small lt))
        (goes_on left given failed old new (statuses.PoolSmall (blocks_of song) step.segments) (λ e. cc) (λ fault e. cc) tt k.2)
    | inr le ↦
        let played = k.7.wide le in
        goes_on left given failed old new result (played_not_read result played) (played_not_refused result played)
        (played_accepted result played) k.2
  ]

  unread_not : (status other : Status) → IsUnread status → result ≡ status → result ≡ other → IsUnread other
  unread_not status other unread is e = subst IsUnread (sym is ∙ e) unread

  pub end_done : (read : Result Module Status) → Known read → result ≡ statuses.Done
      → (bytes : List ℕ) × IsOutput step (left old) bytes × Appends (held wav) (held wav_after) bytes
  end_done (Err status) k e = absurd (unread_not status statuses.Done k.4 k.5 e)
  end_done (Ok song) k e =
      (wav_of song step, record { song = song; valid = k.0; told = k.1; wav = refl }, k.7.done e)

  pub end_count : (read : Result Module Status) → Known read → IsCounted statuses.WavWrite result (faults wav) (faults wav_after)
  end_count (Err status) k = record {
    told = λ e. absurd (unread_not status statuses.WavWrite k.4 k.5 e);
    kept = λ _. ap faults k.6;
  }
  end_count (Ok song) k = k.7.count

  pub end_front : (read : Result Module Status) → Known read → result ≡ statuses.WavWrite
      → (bytes : List ℕ) × IsOutput step (left old) bytes × TakesFront (held wav) (held wav_after) bytes
  end_front (Err status) k e = absurd (unread_not status statuses.WavWrite k.4 k.5 e)
  end_front (Ok song) k e =
      (wav_of song step, record { song = song; valid = k.0; told = k.1; wav = refl }, k.7.front e)

  pub end_pool : (read : Result Module Status) → Known read → TellsPool (left old) step.segments result
  end_pool (Err status) k =
      subst (TellsPool (left old) step.segments) (sym k.5) (unread_tells (left old) step.segments status k.4 k.3)
  end_pool (Ok song) k = elim (cases_lt step.segments (blocks_of song)) [
    | inl lt ↦
        subst (TellsPool (left old) step.segments) (sym (k.7.small lt))
        (small_tells (left old) step.segments song k.3 (blocks_of song) k.0 k.1 refl lt)
    | inr le ↦ wide_tells (left old) step.segments song k.3 result le (played_not_small result (k.7.wide le))
  ]

  pub end_complete : (read : Result Module Status) → Known read → CanBeDone (ask.Step step) (left old)
      → NeverRose (failed old) (failed new) → NeverRose (faults wav) (faults wav_after) → IsDone result
  end_complete (Err status) k can sure written =
      let has = can.1 in
      subst IsDone (sym k.5) (unread_done status k.4 (k.3 has.0 can.0 has.1 has.2) (λ e. sure (k.2.count.told e)))
  end_complete (Ok song) k can sure written =
      let has = can.1 in
      let same = ap blocks_of (k.3 has.0 can.0 has.1 has.2) in
      let few = can.2 in
      let played = k.7.wide (omega (arith, same, few)) in
      played_done result played (λ e. written (k.7.count.told e))
