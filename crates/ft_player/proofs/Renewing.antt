-- A pass that has looked and taken: what is behind it was behind it before.
use Rattle.std.proofs.Common.{◌≡◌, ◌⊎◌, inl, inr, List, [], ◌∷◌, ◌++◌, length, All, Some, sym, subst, ◌∙◌}
use Rattle.std.specs.List.{Contains}
use Rattle.std.proofs.Math.Seq.{take-append_seam}
use Rattle.std.proofs.lemmas.List.Elements.{All-take, All-contains, Contains-push}
use Rattle.std.proofs.lemmas.Option.{same_Some}
use Rattle.ft_shared.specs.declared.law.Notes.{Notes}
use Rattle.ft_shared.specs.declared.law.PlacedVersion.{PlacedVersion}
use Rattle.ft_shared.specs.declared.law.TakenVersion.{TakenVersion}
use Rattle.ft_shared.specs.declared.reader.Held.{Held}
use Rattle.ft_shared.specs.History.{Agrees, HasVersion, HasTakenVersion, HasRead}
use Rattle.ft_shared.specs.Pass.{ReaderState, RegisterId}
use Rattle.ft_player.specs.declared.songs.Songs.{Songs}
use Rattle.ft_player.specs.Songs.{history_of}
use Rattle.ft_player.specs.Behind.{IsShown, AreSongsBehind}
use Rattle.ft_player.specs.Player.{IsRenewed, TakesAreOf, taken_of}

front : {A : Type 0} (P : A → Type 0) (xs ys zs : List A) → zs ≡ xs ++ ys → All P zs → All P xs
front P xs ys zs is all =
    rw take-append_seam at (All-take P (length xs) (xs ++ ys) (subst (All P) is all))

-- what a pass holds was taken
abbrev pub WasTaken : Notes → Type 0
WasTaken notes = (taken : TakenVersion) → notes.held ≡ Some taken → Contains notes.takes taken

takes_before : (h : List PlacedVersion) (old new : Notes) (held : Held)
    → TakesAreOf old new (taken_of held) → All (HasTakenVersion h) new.takes → All (HasTakenVersion h) old.takes
takes_before h old new held (inl same) all = subst (All (HasTakenVersion h)) same.0 all
takes_before h old new held (inr more) all = front (HasTakenVersion h) old.takes (taken_of held ∷ []) new.takes more all

pub agreed : (h : List PlacedVersion) (old new : Notes) (held : Held) → IsRenewed old new held → WasTaken old
    → Agrees h new → Agrees h old
agreed h old new held r taken a =
    let takes = takes_before h old new held r.takes a.takes in
    record {
      looks = front (HasVersion h) old.looks (r.look ∷ []) new.looks r.once a.looks;
      takes = takes;
      held = λ t e. All-contains (HasTakenVersion h) old.takes t takes (taken t e);
      reads = subst (All (HasRead h)) r.reads a.reads;
    }

pub stood : (songs : Songs) (old new : ReaderState) (held : Held) → new.register ≡ old.register
    → IsRenewed old.notes new.notes held → WasTaken old.notes → AreSongsBehind songs new → AreSongsBehind songs old
stood songs old new held same r taken s = record {
  agrees = agreed (history_of songs) old.notes new.notes held r taken s.agrees;
  shown = subst (λ (x : RegisterId). All (IsShown x.sizes) songs.versions) same s.shown;
}

-- what it holds now was taken
pub still_taken : (old new : Notes) (held : Held) → TakesAreOf old new (taken_of held)
    → WasTaken old → Contains new.takes (taken_of held)
still_taken old new held (inl same) taken =
    subst (λ (l : List TakenVersion). Contains l (taken_of held)) (sym same.0) (taken (taken_of held) same.1)
still_taken old new held (inr more) taken =
    subst (λ (l : List TakenVersion). Contains l (taken_of held)) (sym more) (Contains-push old.takes (taken_of held))

pub is_taken : (old new : Notes) (held : Held) → IsRenewed old new held → WasTaken old → WasTaken new
is_taken old new held r taken t e =
    subst (Contains new.takes) (same_Some (taken_of held) t (sym r.holds ∙ e)) (still_taken old new held r.takes taken)
