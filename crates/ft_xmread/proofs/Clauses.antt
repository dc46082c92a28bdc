-- What an answer says of a file.
use Rattle.std.proofs.Common.{◌≡◌, ℕ, List, refl, sym, subst, ◌∙◌, Result, Ok, Err, inl, inr}
use Rattle.std.specs.Prelude.{IfOk, IfErr, ◌⊎◌}
use Rattle.ft_types.specs.declared.module.Module.{Module}
use Rattle.ft_types.specs.Valid.{IsValid}
use Rattle.ft_format.specs.Fields.{AreBytes}
use Rattle.ft_format.specs.Canon.{canon}
use Rattle.ft_format.specs.Spelling.{Spells}
use Rattle.ft_xmread.specs.declared.fault.XmFault.{XmFault}
use Rattle.ft_xmread.specs.declared.fault.XmFault.TheVariants as faults
use Rattle.ft_xmread.specs.File.{song_in, Answers}
use Rattle.ft_xmread.specs.Song.{IsFirstWrong, HasFault, IsFaultOf, IsThisSong, IsRefusedBy}
use Rattle.ft_xmread.proofs.FileLaws.{gives_song, song_gives, gives_wrong}

abbrev read_as : Module → Result Module XmFault
read_as song = Ok song

abbrev fails_as : XmFault → Result Module XmFault
fails_as f = Err f

same_song : (a b : Module) → read_as a ≡ read_as b → a ≡ b
same_song a b e = cc

same_fault : (a b : XmFault) → fails_as a ≡ fails_as b → a ≡ b
same_fault a b e = cc

not_both : (a : Module) (f : XmFault) → read_as a ≡ fails_as f → ⊥
not_both a f e = absurd cc

pub found : (file : List ℕ) (r : Result Module XmFault) → AreBytes file → Answers r (song_in file)
    → IfOk r (Spells file)
found file (Ok song) bytes a = gives_song file song bytes a
found file (Err f) bytes a = tt

pub valid : (file : List ℕ) (r : Result Module XmFault) → AreBytes file → Answers r (song_in file)
    → ((bytes : List ℕ) (song : Module) → Spells bytes song → IsValid song) → IfOk r IsValid
valid file (Ok song) bytes a law = law file song (gives_song file song bytes a)
valid file (Err f) bytes a law = tt

abbrev IsWanting : XmFault → Type 0
IsWanting f = f ≡ faults.NoMemory

-- a fault that is answered is given by the file, or memory runs out
given_fault : (file : List ℕ) (f : XmFault) → Answers (Err f) (song_in file) → IsWanting f ⊎ (song_in file ≡ Err f)
given_fault file (faults.NotXm at) a = inr a
given_fault file (faults.Version found) a = inr a
given_fault file (faults.Short at need) a = inr a
given_fault file (faults.Count at found) a = inr a
given_fault file (faults.Packing pattern found) a = inr a
given_fault file (faults.CellOverrun pattern at) a = inr a
given_fault file (faults.Stereo instrument sample) a = inr a
given_fault file (faults.TooLong instrument sample frames) a = inr a
given_fault file faults.NoMemory a = inl refl

pub only : (file : List ℕ) (r : Result Module XmFault) → Answers r (song_in file) → (song : Module) → Spells file song
    → IsThisSong r song
only file (Ok read) a song s = same_song read song (sym a ∙ song_gives file song s)
only file (Err f) a song s = elim (given_fault file f a) [
  | inl wanting ↦ wanting
  | inr given ↦ absurd (not_both song f (sym (song_gives file song s) ∙ given))
]

pub canonical : (file : List ℕ) (r : Result Module XmFault) → Answers r (song_in file) → (song : Module)
    → file ≡ canon song → Spells (canon song) song → IsThisSong r song
canonical file r a song e s = only file r a song (subst (λ (bytes : List ℕ). Spells bytes song) (sym e) s)

pub fault : (file : List ℕ) (r : Result Module XmFault) → Answers r (song_in file) → IfErr r (IsFaultOf file)
fault file (Ok read) a = tt
fault file (Err f) a = given_fault file f a

pub refused : (file : List ℕ) (r : Result Module XmFault) → Answers r (song_in file) → (f : XmFault) → HasFault file f
    → IsRefusedBy r f
refused file (Ok song) a f h = not_both song f (sym a ∙ h)
refused file (Err g) a f h = elim (given_fault file g a) [
  | inl wanting ↦ inr wanting
  | inr given ↦ inl (same_fault g f (sym given ∙ h))
]

pub is_wrong : (file : List ℕ) (r : Result Module XmFault) (at : ℕ) → Answers r (song_in file)
    → r ≡ Err (faults.NotXm at) → IsFirstWrong file at
is_wrong file r at a e = gives_wrong file at (subst (λ (x : Result Module XmFault). Answers x (song_in file)) e a)

-- ---- each file has one answer

either_step : (file : List ℕ) (r : Result Module XmFault) → AreBytes file → song_in file ≡ r
    → ((song : Module) × Spells file song) ⊎ ((f : XmFault) × HasFault file f)
either_step file (Ok song) bytes e = inl (song, gives_song file song bytes e)
either_step file (Err f) bytes e = inr (f, e)

pub either : (file : List ℕ) → AreBytes file → ((song : Module) × Spells file song) ⊎ ((f : XmFault) × HasFault file f)
either file bytes = either_step file (song_in file) bytes refl

pub one_song : (file : List ℕ) (a b : Module) → Spells file a → Spells file b → a ≡ b
one_song file a b s t = same_song a b (sym (song_gives file a s) ∙ song_gives file b t)

pub one_fault : (file : List ℕ) (a b : XmFault) → HasFault file a → HasFault file b → a ≡ b
one_fault file a b s t = same_fault a b (sym s ∙ t)

pub no_fault : (file : List ℕ) (song : Module) (f : XmFault) → Spells file song → HasFault file f → ⊥
no_fault file song f s h = not_both song f (sym (song_gives file song s) ∙ h)
