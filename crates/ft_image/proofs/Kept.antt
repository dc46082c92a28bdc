-- What a version shows it shows in all pools that have the same words in its segments.
use Rattle.std.proofs.Common.{◌≡◌, ℕ, ◌+◌, ◌/◌, ◌<◌, ◌≤◌, List, Some, length, refl, sym, ap, subst, ◌∙◌, arith}
use Rattle.std.specs.Prelude.{slice_index}
use Rattle.std.specs.List.{slice_get}
use Rattle.std.proofs.lemmas.Option.{get_or_from_slice_get}
use Rattle.ft_types.specs.declared.module.Module.{Module}
use Rattle.ft_types.specs.declared.pattern.Pattern.{Pattern}
use Rattle.ft_types.specs.declared.instrument.Instrument.{Instrument}
use Rattle.ft_types.specs.declared.sample.Sample.{Sample}
use Rattle.ft_segments.specs.Packing.{word_at}
use Rattle.ft_segments.specs.Walk.{PatternIds, IndexIds, SampleIds, InstrumentIds, SongIds, Placed, IsOf, IsSound, SameWords, ids_of, walk, pattern_uses, index_uses, sample_uses, instrument_uses}
use Rattle.ft_image.specs.Shown.{ShowsPattern, ShowsIndex, ShowsSample, ShowsInstrument, ShowsSong, ShowsParts, Shows}
use Rattle.ft_image.proofs.Lists.{stored}
use Rattle.ft_image.proofs.Walked.{root_is, root_walk, of_pattern, pattern_root_of, pattern_body_of, of_instrument, instrument_root_of, of_sample, sample_root_of, of_index, index_root_of, index_body_of}
use Rattle.ft_image.proofs.Walks.{walks}

-- a word of a body that a list of ids names
body_kept : (old new bodies : List ℕ) (b j : ℕ) → b < length bodies → j < 256
    → ((s : ℕ) → slice_get bodies b ≡ Some s → SameWords old new s)
    → word_at new (slice_index bodies b) j ≡ word_at old (slice_index bodies b) j
body_kept old new bodies b j lt l same =
    let one = stored bodies b lt in
    let is : slice_index bodies b ≡ one.0 = get_or_from_slice_get bodies b one.0 0 one.1 in
    ap (λ (s : ℕ). word_at new s j) is ∙ same one.0 one.1 j l ∙ sym (ap (λ (s : ℕ). word_at old s j) is)

pattern_kept : (old new : List ℕ) (channels : ℕ) (x : Pattern) (q : PatternIds)
    → ((s : ℕ) → 1 ≤ pattern_uses s q → SameWords old new s) → ShowsPattern old channels x q → ShowsPattern new channels x q
pattern_kept old new channels x q same shown =
    let root = same q.root (pattern_root_of q.root q refl) in
    record {
      count = shown.count;
      rows = root 0 (omega arith) ∙ shown.rows;
      bodies = λ k lt. root (1 + k) (omega arith) ∙ shown.bodies k lt;
      others = λ k ge lt. root k lt ∙ shown.others k ge lt;
      cells = λ b j lt l.
          body_kept old new q.bodies b j lt l (λ s is. same s (pattern_body_of s b q is)) ∙ shown.cells b j lt l;
    }

index_kept : (old new : List ℕ) (x : Sample) (k : ℕ) (q : IndexIds)
    → ((s : ℕ) → 1 ≤ index_uses s q → SameWords old new s) → ShowsIndex old x k q → ShowsIndex new x k q
index_kept old new x k q same shown =
    let root = same q.root (index_root_of q.root q refl) in
    record {
      count = shown.count;
      bodies = λ j lt. root j lt ∙ shown.bodies j lt;
      frames = λ b j lt l.
          body_kept old new q.bodies b j lt l (λ s is. same s (index_body_of s b q is)) ∙ shown.frames b j lt l;
    }

sample_kept : (old new : List ℕ) (x : Sample) (q : SampleIds)
    → ((s : ℕ) → 1 ≤ sample_uses s q → SameWords old new s) → ShowsSample old x q → ShowsSample new x q
sample_kept old new x q same shown =
    let root = same q.root (sample_root_of q.root q refl) in
    record {
      count = shown.count;
      lengths = root 0 (omega arith) ∙ shown.lengths;
      loops = root 1 (omega arith) ∙ shown.loops;
      tuning = root 2 (omega arith) ∙ shown.tuning;
      name = λ k lt. root (3 + k) (omega arith) ∙ shown.name k lt;
      indexes = root 16 (omega arith) ∙ shown.indexes;
      others = λ k ge ne lt. root k lt ∙ shown.others k ge ne lt;
      each = λ k index is.
          index_kept old new x k index (λ s one. same s (of_index s k q index is one)) (shown.each k index is);
    }

instrument_kept : (old new : List ℕ) (x : Instrument) (q : InstrumentIds)
    → ((s : ℕ) → 1 ≤ instrument_uses s q → SameWords old new s) → ShowsInstrument old x q → ShowsInstrument new x q
instrument_kept old new x q same shown =
    let root = same q.root (instrument_root_of q.root q refl) in
    record {
      counts = root 0 (omega arith) ∙ shown.counts;
      envelopes = root 1 (omega arith) ∙ shown.envelopes;
      fadeout = root 2 (omega arith) ∙ shown.fadeout;
      name = λ k lt. root (3 + k) (omega arith) ∙ shown.name k lt;
      notes = λ k lt. root (6 + k) (omega arith) ∙ shown.notes k lt;
      volume = λ k lt. root (18 + k) (omega arith) ∙ shown.volume k lt;
      panning = λ k lt. root (24 + k) (omega arith) ∙ shown.panning k lt;
      samples = λ k lt. root (30 + k) (omega arith) ∙ shown.samples k lt;
      others = λ k ge lt. root k lt ∙ shown.others k ge lt;
      each = record {
        count = shown.each.count;
        each = λ k sample ids is at.
            sample_kept old new sample ids (λ s one. same s (of_sample s k q ids at one)) (shown.each.each k sample ids is at);
      };
    }

song_kept : (old new : List ℕ) (m : Module) (ids : SongIds) → SameWords old new ids.root → ShowsSong old m ids → ShowsSong new m ids
song_kept old new m ids root shown = record {
  head = root 0 (omega arith) ∙ shown.head;
  counts = root 1 (omega arith) ∙ shown.counts;
  name = λ k lt. root (2 + k) (omega arith) ∙ shown.name k lt;
  tracker = λ k lt. root (5 + k) (omega arith) ∙ shown.tracker k lt;
  orders = λ k lt. root (8 + k) (omega arith) ∙ shown.orders k lt;
  patterns = λ k lt. root (40 + k) (omega arith) ∙ shown.patterns k lt;
  instruments = λ k lt. root (104 + k) (omega arith) ∙ shown.instruments k lt;
  others = λ k ge lt. root k lt ∙ shown.others k ge lt;
}

pub stands_kept : (p : Placed) (m : Module) (new : List ℕ)
    → ((s : ℕ) → IsOf p s → SameWords p.pool new s) → ShowsParts p.pool m (ids_of p) → ShowsParts new m (ids_of p)
stands_kept p m new same stands =
    let ids = ids_of p in
    record {
      root = song_kept p.pool new m ids (same ids.root (root_is p ids.root (sym (root_walk p)))) stands.root;
      patterns = record {
        count = stands.patterns.count;
        each = λ k x q is at.
            pattern_kept p.pool new m.channels x q (λ s one. same s (of_pattern p k s q at one)) (stands.patterns.each k x q is at);
      };
      instruments = record {
        count = stands.instruments.count;
        each = λ k x q is at.
            instrument_kept p.pool new x q (λ s one. same s (of_instrument p k s q at one)) (stands.instruments.each k x q is at);
      };
    }

pub shows_kept : (p : Placed) (m : Module) (new : List ℕ) → Shows p m → length p.pool ≤ 16777216 → length p.pool ≤ length new
    → ((s : ℕ) → IsOf p s → SameWords p.pool new s)
    → (walk new p.root ≡ ids_of p) × Shows (record { root = p.root; pool = new }) m
shows_kept p m new shows few long same =
    let stands = stands_kept p m new same shows.stands in
    let n = length p.pool / 256 in
    let is : walk new p.root ≡ ids_of p
    = ap (λ (r : ℕ). walk new r) (sym (root_walk p)) ∙ walks new m (ids_of p) n shows.valid (omega arith) shows.sound stands in
    let more : n ≤ length new / 256 = omega arith in (
      is,
      record {
        valid = shows.valid;
        sound = subst (λ (ids : SongIds). IsSound (length new / 256) ids) (sym is) (record {
          once = shows.sound.once;
          within = λ s one. let lt = shows.sound.within s one in omega arith;
        });
        stands = subst (λ (ids : SongIds). ShowsParts new m ids) (sym is) stands;
      },
    )
