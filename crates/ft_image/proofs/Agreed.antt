-- What a history that agrees with a pass's notes lets a view show.
use Rattle.std.proofs.Common.{◌≡◌, ◌≢◌, ◌+◌, ◌*◌, ◌<◌, ◌≤◌, ◌++◌, get_or-set_other, ℕ, List, length, Option, Some, IsSomeAnd, ◌∙◌, refl, subst, arith, sym, ap}
use Rattle.ft_types.specs.declared.module.Module.{Module}
use Rattle.ft_types.specs.declared.sample.Sample.{Sample}
use Rattle.ft_types.specs.Valid.{IsValidSample}
use Rattle.ft_types.specs.Blocks.{indexes_of}
use Rattle.ft_segments.specs.Packing.{word_at}
use Rattle.ft_segments.specs.Pins.{index_room, PinHolds}
use Rattle.ft_segments.specs.Walk.{Placed, IsOf, sample_uses, sample_walk}
use Rattle.ft_shared.specs.declared.law.Pin.{Pin}
use Rattle.ft_shared.specs.declared.law.PlacedVersion.{PlacedVersion}
use Rattle.ft_shared.specs.declared.law.TakenVersion.{TakenVersion}
use Rattle.ft_shared.specs.Account.{after_fill}
use Rattle.ft_shared.specs.Counts.{pin_of}
use Rattle.ft_shared.specs.History.{placed_at, root_and_pool, Agrees}
use Rattle.ft_shared.specs.Pass.{ReaderState, WriterState}
use Rattle.ft_image.specs.Shown.{Shows}
use Rattle.ft_image.specs.Read.{MayShowAll, MayShowSample, IsRootOf}
use Rattle.ft_image.specs.Passes.{IsAmong, MayShowHeld, MayShowPinned, StandsWritten, MayShowWritten, HasReadOn}
use Rattle.ft_image.proofs.Samples.{sample_found}
use Rattle.ft_image.proofs.Noted.{AgreesWithFewer}

-- the law of the walk: where a sample's segments are the version's, a pin of its root holds them
abbrev pub PinHoldsSample : Type 0
PinHoldsSample = (placed : Placed) (root segment : ℕ)
    → length (sample_walk placed.pool root).indexes ≤ index_room
    → ((named : ℕ) → 1 ≤ sample_uses named (sample_walk placed.pool root) → IsOf placed named)
    → 1 ≤ sample_uses segment (sample_walk placed.pool root) → PinHolds placed root segment

pub agreed-before : AgreesWithFewer → (h : List PlacedVersion) (old new : ReaderState) → HasReadOn old new → Agrees h new.notes
    → Agrees h old.notes
agreed-before fewer h old new on a =
    fewer h old.notes on.reads (old.notes.steps ++ on.steps) (subst (λ (x : ReaderState). Agrees h x.notes) on.is a)

pub held-shown : (pass : ReaderState) (h : List PlacedVersion) (taken : TakenVersion) (placed : PlacedVersion)
    → Agrees h pass.notes → pass.notes.held ≡ Some taken → placed_at h taken.version ≡ Some placed
    → IsAmong pass.register.sizes.segments (root_and_pool placed) → MayShowAll MayShowHeld pass (root_and_pool placed)
held-shown pass h taken placed a held found among = λ s of. (
  among,
  record {
    taken = taken;
    held = held;
    agreed = record { history = h; agrees = a; version = placed; found = found; is = refl };
  },
  of,
)

pub held-root : (pass : ReaderState) (h : List PlacedVersion) (taken : TakenVersion) (placed : PlacedVersion)
    → Agrees h pass.notes → pass.notes.held ≡ Some taken → placed_at h taken.version ≡ Some placed → placed.root ≡ taken.root
held-root pass h taken placed a held found =
    subst (λ (o : Option PlacedVersion). IsSomeAnd o (λ q. q.root ≡ taken.root)) found (a.held taken held)

few-indexes : (x : Sample) → IsValidSample x → indexes_of x ≤ index_room
few-indexes x valid = let few = valid.few_frames in omega arith

pub pin-shown : PinHoldsSample → (pass : ReaderState) (channel : ℕ) (h : List PlacedVersion) (pin : Pin) (placed : PlacedVersion)
    (song : Module) (x : Sample) → Agrees h pass.notes → pin_of pass.notes channel ≡ Some pin
    → placed_at h pin.version ≡ Some placed → IsAmong pass.register.sizes.segments (root_and_pool placed)
    → Shows (root_and_pool placed) song → IsRootOf (root_and_pool placed) song pin.root x
    → MayShowSample (λ view. MayShowPinned view channel) pass (root_and_pool placed) pin.root
pin-shown law pass channel h pin placed song x a stands found among shows of = λ s is used.
    let p : Placed = root_and_pool placed in
    let sample = sample_found p song pin.root x shows of in
    let few = few-indexes x sample.valid in
    let count = sample.shown.count in (
      among,
      record {
        pin = pin;
        stands = stands;
        agreed = record { history = h; agrees = a; version = placed; found = found; is = refl };
        holds = law p pin.root s (omega arith) sample.within used;
      },
    )

pub written-shown : (pass : WriterState) (placed : Placed) → IsAmong pass.register.sizes.segments placed
    → StandsWritten pass placed → MayShowAll MayShowWritten pass placed
written-shown pass placed among stands = λ s of. (among, stands, of)

pub these-stand : (pass : WriterState) (placed : Placed) → placed.pool ≡ pass.account.pool → StandsWritten pass placed
these-stand pass placed e = λ s of j l. ap (λ (pool : List ℕ). word_at pool s j) (sym e)

-- a version that doesn't have the segment stays while that is filled
pub filled-stands : (pass : WriterState) (placed : Placed) (segment at word : ℕ) → StandsWritten pass placed
    → (IsOf placed segment → ⊥) → at < 256 → StandsWritten (record pass { account = after_fill pass.account segment at word }) placed
filled-stands pass placed segment at word stands none low = λ s of j l.
    let other : s ≢ segment = λ e. none (subst (IsOf placed) e of) in
    let apart : s * 256 + j ≢ segment * 256 + at = λ e. other (omega arith) in
    get_or-set_other pass.account.pool (segment * 256 + at) (s * 256 + j) word 0 apart ∙ stands s of j l
