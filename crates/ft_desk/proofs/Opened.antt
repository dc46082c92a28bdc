-- A desk that was just opened.
use Rattle.std.proofs.Common.{◌≡◌, ℕ, zero, suc, ◌+◌, ◌-◌, ◌*◌, ◌/◌, ◌<◌, ◌≤◌, Bool, true, false, cond, eqb, List, [], ◌∷◌, ◌++◌, length, get_or, replicate, Option, Some, None, IsSome, IsSomeAnd, IfSome, refl, sym, ap, subst, ◌∙◌, arith, inl, inr, length-append, eq-eqb, lt_of_not-le}
use Rattle.std.specs.Prelude.{slice_index, slice_index_or, is_some, sum_by}
use Rattle.std.specs.List.{range_with_len}
use native.Mathlib.Decide.{dec_le}
use mathlib.Core.Logic.{dite}
use Rattle.std.proofs.lemmas.Bool.{cases_eq, ne_eqb}
use Rattle.std.proofs.lemmas.List.{get_or_append_left, get_or-append_right, get_or-replicate}
use Rattle.std.proofs.lemmas.List.Sums.{sum_by-cons}
use Rattle.std.proofs.lemmas.List.FromFn.{length-range_with_len, get_or-range_with_len, length-map-range_with_len, get_or-map-range_with_len, fill_by_all}
use Rattle.std.proofs.lemmas.Option.{cond_some}
use lib.ListN.{length-replicate}
use Rattle.ft_types.specs.declared.module.Module.{Module}
use Rattle.ft_types.specs.declared.journal.Entry.{Entry}
use Rattle.ft_types.specs.Journals.{JournalState}
use Rattle.ft_types.specs.Blocks.{blocks_of}
use Rattle.ft_edits.specs.Versions.{IsLawful, IsEntrys, module_at}
use Rattle.ft_segments.specs.Walk.{SongIds, IsOf, each_below, uses, walk}
use Rattle.ft_shared.specs.declared.law.Account.{Account}
use Rattle.ft_shared.specs.declared.law.PlacedVersion.{PlacedVersion}
use Rattle.ft_shared.specs.Account.{pool_of}
use Rattle.ft_shared.specs.History.{placed_at, root_and_pool, HasVersion}
use Rattle.ft_shared.specs.Pass.{RegisterId, WriterState, opening_writer}
use Rattle.ft_shared.specs.Segments.{IsAsPlaced}
use Rattle.ft_image.specs.Laws.{ShownStays, ShownHasBlocks}
use Rattle.ft_image.specs.Shown.{Shows}
use Rattle.ft_retire.specs.declared.life.Life.{Life}
use Rattle.ft_retire.specs.Lives.{never, lives_at, born_at as life_from}
use Rattle.ft_retire.specs.Laws.{GivenLive}
use Rattle.ft_desk.specs.Desk.{IsEntryOf, AreBornFor, IsVersionShown, IsDesk, desk_of, opening_births, last_version}
use Rattle.ft_desk.specs.Parts.{Part, BornPart, part_of, part_born_at, born_in, entry_of, opening_parts}
use Rattle.ft_desk.proofs.Named.{segments_are_parts}

pool-length : (segments : ℕ) (words : List ℕ) → length words ≤ 256 * segments → length (pool_of segments words) ≡ 256 * segments
pool-length segments words fits = let z : ℕ = 0 in let a = length-append words (replicate (256 * segments - length words) z) in
    let b : length (replicate (256 * segments - length words) z) ≡ 256 * segments - length words = length-replicate
    (256 * segments - length words) z in omega arith

-- words that are filled up to a pool show what they showed
pub filled_up : ShownStays → (segments : ℕ) (words : List ℕ) (song : Module) → Shows (record { root = 0; pool = words }) song
    → length words ≤ 256 * segments → segments < 65536
    → (walk (pool_of segments words) 0 ≡ walk words 0) × Shows (record { root = 0; pool = pool_of segments words }) song
filled_up stays segments words song shows fits few =
    let z : ℕ = 0 in
    let long = pool-length segments words fits in
    stays (record { root = 0; pool = words }) song (pool_of segments words) shows (omega arith) (omega arith)
    (λ segment of place lt.
    let within = shows.sound.within segment of in
    get_or_append_left words (replicate (256 * segments - length words) z) z (segment * 256 + place) (omega arith))

abbrev first_of : ℕ → List ℕ → PlacedVersion
first_of version pool = record { version = version; root = 0; pool = pool }

first_is : (version number : ℕ) (pool : List ℕ) (placed : PlacedVersion) → placed_at (first_of version pool ∷ []) number ≡ Some placed
    → first_of version pool ≡ placed
first_is version number pool placed is =
    (cond_some (eqb version number) (first_of version pool) placed is).1

first_committed : (version number : ℕ) (pool : List ℕ) → HasVersion (first_of version pool ∷ []) number → number ≡ version
first_committed version number pool has = elim (cases_eq version number) [
  | inl e ↦ sym e
  | inr ne ↦
      let no : is_some (placed_at (first_of version pool ∷ []) number) ≡ is_some (let n : Option PlacedVersion = None in n)
      = ap (λ (b : Bool). is_some (cond b (Some (first_of version pool)) None)) (ne_eqb version number ne) in
      let bad : ⊥ = cc in absurd bad
]

first_has : (version number : ℕ) (pool : List ℕ) → number ≡ version → HasVersion (first_of version pool ∷ []) number
first_has version number pool e =
    ap (λ (b : Bool). is_some (cond b (Some (first_of version pool)) None)) (eq-eqb version number (sym e))

-- ---- the segments of a song in words of its own are all of them

sum-le : (f : ℕ → ℕ) → ((x : ℕ) → f x ≤ 1) → (l : List ℕ) → sum_by f l ≤ length l
sum-le f few [] = omega arith
sum-le f few (x ∷ l) = let a = few x in let b = sum-le f few l in let c = sum_by-cons f x l in omega arith

sum-all : (f : ℕ → ℕ) → ((x : ℕ) → f x ≤ 1) → (l : List ℕ) (i d : ℕ) → length l ≤ sum_by f l → i < length l → f (get_or l i d) ≡ 1
sum-all f few [] i d le lt = absurd (omega arith)
sum-all f few (x ∷ l) zero d le lt =
    let a = few x in let b = sum-le f few l in let c = sum_by-cons f x l in omega arith
sum-all f few (x ∷ l) (suc i) d le lt =
    let a = few x in let c = sum_by-cons f x l in sum-all f few l i d (omega arith) (omega arith)

each_used : ShownHasBlocks → (words : List ℕ) (song : Module) → Shows (record { root = 0; pool = words }) song
    → length words ≡ 256 * blocks_of song → (segment : ℕ) → segment < blocks_of song → 1 ≤ uses segment (walk words 0)
each_used blocks words song shows size segment lt =
    let f : ℕ → ℕ = λ s. uses s (walk words 0) in
    let n : ℕ = length words / 256 in
    let range = range_with_len 0 n in
    let long : length range ≡ n = length-range_with_len 0 n in
    let sum = blocks (record { root = 0; pool = words }) song shows in
    let one = sum-all f shows.sound.once range segment 0 (omega arith) (omega arith) in
    let same : 0 + segment ≡ segment = omega arith in
    let at : f (get_or range segment 0) ≡ f segment = ap f (get_or-range_with_len 0 n segment 0 (omega arith) ∙ same) in omega arith

-- ---- births of the opening version

life_at : (live n version segment : ℕ) → segment < live
    → slice_index_or (replicate live (life_from version) ++ replicate (n - live) never) segment never ≡ life_from version
life_at live n version segment lt =
    get_or_append_left (replicate live (life_from version)) (replicate (n - live) never) never segment
    (let l = length-replicate live (life_from version) in omega arith)
    ∙ get_or-replicate live segment (life_from version) never lt

no_life : (m k : ℕ) → slice_index_or (replicate m never) k never ≡ never
no_life zero k = refl
no_life (suc m) zero = refl
no_life (suc m) (suc k) = no_life m k

life_past : (live n version segment : ℕ) → live ≤ segment
    → slice_index_or (replicate live (life_from version) ++ replicate (n - live) never) segment never ≡ never
life_past live n version segment le =
    get_or-append_right (replicate live (life_from version)) (replicate (n - live) never) live segment never
    (length-replicate live (life_from version)) le ∙ no_life (n - live) (segment - live)

-- ---- the desk

filled-at : (v n k : ℕ) → slice_index (replicate n v) k ≤ v
filled-at v zero k = omega arith
filled-at v (suc n) zero = omega arith
filled-at v (suc n) (suc k) = filled-at v n k

filled-is : (v n k : ℕ) → k < n → slice_index (replicate n v) k ≡ v
filled-is v zero k lt = absurd (omega arith)
filled-is v (suc n) zero lt = refl
filled-is v (suc n) (suc k) lt = filled-is v n k (omega arith)

entry-made : (version : ℕ) (o : Option Part) → IsSome o
    → IsSomeAnd (part_born_at version o) (λ entry. (o ≡ Some entry.part) × (entry.birth ≡ version))
entry-made version None some = absurd (let e : is_some (let n : Option Part = None in n) ≡ true = some in cc)
entry-made version (Some part) some = (refl, refl)

pub opened_desk : ShownStays → ShownHasBlocks → GivenLive → (register : RegisterId) (song : Module) (version : ℕ) (words : List ℕ)
    (journal : JournalState) → Shows (record { root = 0; pool = words }) song → length words ≡ 256 * blocks_of song
    → length words ≤ 256 * register.sizes.segments → register.sizes.segments < 65536
    → song.channels ≡ register.sizes.channels → journal.entries ≡ []
    → IsDesk (desk_of (opening_writer register version 0 (pool_of register.sizes.segments words)) journal
    (opening_births register.sizes.segments (blocks_of song) version) register.sizes.segments song version)
opened_desk stays blocks given register song version words journal shows size fits few channels none =
    let segments = register.sizes.segments in
    let pool = pool_of segments words in
    let there = filled_up stays segments words song shows fits few in
    let long = pool-length segments words fits in
    let live : ℕ = blocks_of song in
    let desk = desk_of (opening_writer register version 0 pool) journal (opening_births segments live version) segments song version in
    let account : Account = desk.writer.account in
    let same : (number : ℕ) → song ≡ module_at song journal.entries number
    = λ number. ap (λ (es : List Entry). module_at song es number) (sym none) in
    let here : placed_at account.history version ≡ Some (first_of version pool)
    = ap (λ (b : Bool). cond b (Some (first_of version pool)) None) (eq-eqb version version refl) in
    let within : (segment : ℕ) → 1 ≤ uses segment (walk pool 0) → segment < live
    = λ segment of. let lt = shows.sound.within segment (subst (λ (ids : SongIds). 1 ≤ uses segment ids) there.0 of) in omega arith in
    record {
      sizes = refl;
      inside = omega arith;
      lawful = subst (λ (es : List Entry). IsLawful song version es) (sym none) tt;
      current = ap (λ (es : List Entry). last_version version es) (sym none);
      committed = λ number. (
        λ has. inl (first_committed version number pool has),
        λ is. first_has version number pool (elim is [
          | inl e ↦ e
          | inr e ↦ absurd (subst (λ (es : List Entry). IsEntrys number es) none e)
        ]),
      );
      shown = λ number placed is.
          subst (λ (p : PlacedVersion). IsVersionShown desk number p) (first_is version number pool placed is) (record {
            among = λ segment of. let lt = there.1.sound.within segment of in omega arith;
            shows = subst (λ (m : Module). Shows (record { root = 0; pool = pool }) m) (same number) there.1;
            channels = subst (λ (m : Module). m.channels ≡ register.sizes.channels) (same number) channels;
          });
      written = subst (λ (o : Option PlacedVersion). IfSome o
          (λ placed. (segment : ℕ) → IsOf (root_and_pool placed) segment → IsAsPlaced account placed segment)) (sym here)
          (λ segment of. ((λ place l. refl), filled-at version segments segment));
      entries = λ number placed segment is of kept.
          let first : first_of version pool ≡ placed = first_is version number pool placed is in
          subst (λ (p : PlacedVersion). IsOf (root_and_pool p) segment → IsEntryOf account p segment) first
          (λ of. let lt = within segment of in
          let filled : slice_index account.filled segment ≡ version = filled-is version segments segment (omega arith) in
          let entry : part_born_at version (part_of (walk pool 0) segment) ≡ entry_of account segment
          = sym (ap (λ (v : ℕ). born_in (placed_at account.history v) segment) filled
          ∙ ap (λ (o : Option PlacedVersion). born_in o segment) here) in
          subst (λ (z : Option BornPart × ℕ). IsSomeAnd z.0
          (λ entry. (part_of (walk pool 0) segment ≡ Some entry.part) × (entry.birth ≡ z.1))) (λ i. (entry i, sym filled i))
          (entry-made version (part_of (walk pool 0) segment)
          ((segments_are_parts (record { root = 0; pool = pool }) segment).0 of))) of;
      born = λ number placed is unwritten.
          let first : first_of version pool ≡ placed = first_is version number pool placed is in
          let at : number ≡ version = first_committed version number pool (ap is_some is) in
          subst (λ (z : PlacedVersion × ℕ). AreBornFor desk z.1 z.0) (λ i. (first i, sym at i))
          (λ segment lt. (
            λ lives. dite (dec_le live segment)
                (λ (past : live ≤ segment).
                let dead : lives_at never version ≡ true = subst (λ (life : Life). lives_at life version ≡ true)
                (life_past live segments version segment past) lives in
                let no : ⊥ = cc in absurd no)
                (λ (before : live ≤ segment → ⊥). subst (λ (ids : SongIds). 1 ≤ uses segment ids) (sym there.0)
                (each_used blocks words song shows size segment (lt_of_not-le before))),
            λ of. subst (λ (life : Life). lives_at life version ≡ true)
                (sym (life_at live segments version segment (within segment of)))
                ((given version version).1 (omega arith)),
          ));
      reserved = record {
        lives = length-append (replicate live (life_from version)) (replicate (segments - live) never)
            ∙ (let a = length-replicate live (life_from version) in let b = length-replicate (segments - live) never in omega arith);
        marks = length-replicate segments false;
        room = omega arith;
      };
    }

-- the writer's pass of the register that was opened on the words of an image
pub writer_is : (register : RegisterId) (writer : WriterState) (version root segments : ℕ) (words image : List ℕ)
    → writer ≡ opening_writer register version root (pool_of segments words) → root ≡ 0 → words ≡ image
    → register.sizes.segments ≡ segments
    → writer ≡ opening_writer register version 0 (pool_of register.sizes.segments image)
writer_is register writer version root segments words image is at_zero same long =
    is ∙ (ap (λ (n : ℕ). opening_writer register version n (pool_of segments words)) at_zero
    ∙ (ap (λ (w : List ℕ). opening_writer register version 0 (pool_of segments w)) same
    ∙ ap (λ (n : ℕ). opening_writer register version 0 (pool_of n image)) (sym long)))

-- ---- the list of parts

all_same : (n value k : ℕ) → k < n → slice_index (replicate n value) k ≡ value
all_same zero value k lt = absurd (omega arith)
all_same (suc n) value zero lt = refl
all_same (suc n) value (suc k) lt = all_same n value k (omega arith)

pub opened_parts : (register : RegisterId) (version : ℕ) (pool : List ℕ) (ids : SongIds) (writer : WriterState)
    → walk pool 0 ≡ ids → writer ≡ opening_writer register version 0 pool
    → each_below writer.register.sizes.segments (entry_of writer.account) ≡ opening_parts register.sizes.segments version ids
opened_parts register version pool ids writer laid is =
    let n = register.sizes.segments in
    let account : Account = (opening_writer register version 0 pool).account in
    let f : ℕ → Option BornPart = λ segment. part_born_at version (part_of ids segment) in
    let one : (k : ℕ) → k < n → entry_of account k ≡ f k
    = λ k lt.
    ap (λ (v : ℕ). born_in (placed_at account.history v) k) (all_same n version k lt)
    ∙ (ap (λ (b : Bool). born_in (cond b (Some (first_of version pool)) None) k) (eq-eqb version version refl)
    ∙ ap (λ (i : SongIds). part_born_at version (part_of i k)) laid) in
    ap (λ (w : WriterState). each_below w.register.sizes.segments (entry_of w.account)) is
    ∙ fill_by_all f (each_below n (entry_of account)) n None (length-map-range_with_len (entry_of account) 0 n)
    (λ k lt. get_or-map-range_with_len (entry_of account) 0 n k k None lt (omega arith) ∙ one k lt)

-- what is behind the song is no part of it
pub unplaced : (words : List ℕ) (ids : SongIds) (song : Module) → Shows (record { root = 0; pool = words }) song → walk words 0 ≡ ids
    → (segment : ℕ) → length words / 256 ≤ segment → part_of ids segment ≡ None
unplaced words ids song shows laid segment past =
    subst (λ (i : SongIds). part_of i segment ≡ None) laid (at (part_of (walk words 0) segment) (λ some.
    let lt = shows.sound.within segment ((segments_are_parts (record { root = 0; pool = words }) segment).1 some) in
    let no : ⊥ = omega arith in no))
  where
    at : (o : Option Part) → (IsSome o → ⊥) → o ≡ None
    at None none = refl
    at (Some part) none = absurd (none refl)
