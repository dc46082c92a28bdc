-- A song root in which the head or the counts are another, or nothing is.
use Rattle.std.proofs.Common.{◌≡◌, ◌≢◌, ℕ, zero, suc, ◌+◌, ◌*◌, ◌/◌, ◌<◌, List, [], ◌∷◌, length, set, refl, ap, sym, subst, ◌∙◌, arith, inl, inr}
use Rattle.ft_types.specs.declared.module.Module.{Module}
use Rattle.ft_types.specs.declared.pattern.Pattern.{Pattern}
use Rattle.ft_types.specs.declared.instrument.Instrument.{Instrument}
use Rattle.ft_segments.specs.Packing.{bytes_word, ids_word}
use Rattle.ft_edits.specs.Lists.{changed_at}
use Rattle.ft_image.specs.Values as values
use Rattle.ft_image.specs.Values.{head_word, counts_word}
use Rattle.ft_image.specs.Changed.{IsOneChanged}
use Rattle.ft_roots.specs.RootWords.{HasRow, HasSongWords}
use Rattle.ft_roots.proofs.Rows.{one_stays, one_put, row_stays, zeros_stay, row_put}

-- the head is another; name, tracker name, orders and counts stay
pub head_put : (words : List ℕ) (m n : Module) (ps is : List ℕ) (w : ℕ) → length words ≡ 256 → w ≡ head_word n
    → counts_word n ≡ counts_word m → n.name ≡ m.name → n.tracker ≡ m.tracker → n.orders ≡ m.orders
    → HasSongWords words m ps is → HasSongWords (set words 0 w) n ps is
head_put words m n ps is w long head counts name tracker orders has = record {
  head = one_put words 0 w (omega (arith, long)) ∙ head;
  counts = one_stays words 0 w 1 (λ e. absurd (omega (arith, e))) ∙ has.counts ∙ sym counts;
  name = subst (λ xs. HasRow (set words 0 w) 2 3 (bytes_word xs)) (sym name)
      (row_stays words 0 w 2 3 (bytes_word m.name) (inl (omega arith)) has.name);
  tracker = subst (λ xs. HasRow (set words 0 w) 5 3 (bytes_word xs)) (sym tracker)
      (row_stays words 0 w 5 3 (bytes_word m.tracker) (inl (omega arith)) has.tracker);
  orders = subst (λ xs. HasRow (set words 0 w) 8 32 (bytes_word xs)) (sym orders)
      (row_stays words 0 w 8 32 (bytes_word m.orders) (inl (omega arith)) has.orders);
  pattern_ids = row_stays words 0 w 40 64 (ids_word ps) (inl (omega arith)) has.pattern_ids;
  instrument_ids = row_stays words 0 w 104 32 (ids_word is) (inl (omega arith)) has.instrument_ids;
  others = zeros_stay words 0 w 136 (omega arith) has.others;
}

-- the counts are others
pub counts_put : (words : List ℕ) (m n : Module) (ps is : List ℕ) (w : ℕ) → length words ≡ 256 → w ≡ counts_word n
    → head_word n ≡ head_word m → n.name ≡ m.name → n.tracker ≡ m.tracker → n.orders ≡ m.orders
    → HasSongWords words m ps is → HasSongWords (set words 1 w) n ps is
counts_put words m n ps is w long counts head name tracker orders has = record {
  head = one_stays words 1 w 0 (λ e. absurd (omega (arith, e))) ∙ has.head ∙ sym head;
  counts = one_put words 1 w (omega (arith, long)) ∙ counts;
  name = subst (λ xs. HasRow (set words 1 w) 2 3 (bytes_word xs)) (sym name)
      (row_stays words 1 w 2 3 (bytes_word m.name) (inl (omega arith)) has.name);
  tracker = subst (λ xs. HasRow (set words 1 w) 5 3 (bytes_word xs)) (sym tracker)
      (row_stays words 1 w 5 3 (bytes_word m.tracker) (inl (omega arith)) has.tracker);
  orders = subst (λ xs. HasRow (set words 1 w) 8 32 (bytes_word xs)) (sym orders)
      (row_stays words 1 w 8 32 (bytes_word m.orders) (inl (omega arith)) has.orders);
  pattern_ids = row_stays words 1 w 40 64 (ids_word ps) (inl (omega arith)) has.pattern_ids;
  instrument_ids = row_stays words 1 w 104 32 (ids_word is) (inl (omega arith)) has.instrument_ids;
  others = zeros_stay words 1 w 136 (omega arith) has.others;
}

-- another song has the same root, where all that the root says of it is the same
pub same_root : (words : List ℕ) (m n : Module) (ps is : List ℕ)
    → head_word n ≡ head_word m → counts_word n ≡ counts_word m → n.name ≡ m.name → n.tracker ≡ m.tracker → n.orders ≡ m.orders
    → HasSongWords words m ps is → HasSongWords words n ps is
same_root words m n ps is head counts name tracker orders has = record {
  head = has.head ∙ sym head;
  counts = has.counts ∙ sym counts;
  name = subst (λ xs. HasRow words 2 3 (bytes_word xs)) (sym name) has.name;
  tracker = subst (λ xs. HasRow words 5 3 (bytes_word xs)) (sym tracker) has.tracker;
  orders = subst (λ xs. HasRow words 8 32 (bytes_word xs)) (sym orders) has.orders;
  pattern_ids = has.pattern_ids;
  instrument_ids = has.instrument_ids;
  others = has.others;
}

pub changed_length : {X : Type 0} (k : ℕ) (change : X → X) (xs : List X) → length (changed_at k change xs) ≡ length xs
changed_length k change [] = refl
changed_length zero change (x ∷ xs) = refl
changed_length (suc k) change (x ∷ xs) = ap suc (changed_length k change xs)

-- patterns or instruments are others, and as many
pub patterns_same : (words : List ℕ) (m : Module) (xs : List Pattern) (ps is : List ℕ) → length xs ≡ length m.patterns
    → HasSongWords words m ps is → HasSongWords words (record m { patterns = xs }) ps is
unfolding values.head_word values.counts_word
patterns_same words m xs ps is same has =
    same_root words m (record m { patterns = xs }) ps is refl (ap (λ n. n + 65536 * length m.instruments) same) refl refl refl has

pub instruments_same : (words : List ℕ) (m : Module) (xs : List Instrument) (ps is : List ℕ) → length xs ≡ length m.instruments
    → HasSongWords words m ps is → HasSongWords words (record m { instruments = xs }) ps is
unfolding values.head_word values.counts_word
instruments_same words m xs ps is same has =
    same_root words m (record m { instruments = xs }) ps is refl (ap (λ n. length m.patterns + 65536 * n) same) refl refl refl has

-- an order is another
pub order_put : ((at number k : ℕ) (row new : List ℕ) → IsOneChanged at number row new → k ≢ at / 8 → bytes_word new k ≡ bytes_word row k)
    → (words : List ℕ) (m : Module) (ps is new : List ℕ) (pos p w : ℕ) → length words ≡ 256 → pos < 256
    → length new ≡ length m.orders → IsOneChanged pos p m.orders new → w ≡ bytes_word new (pos / 8)
    → HasSongWords words m ps is → HasSongWords (set words (8 + pos / 8) w) (record m { orders = new }) ps is
unfolding values.head_word values.counts_word
order_put stay words m ps is new pos p w long lt same changed word has = record {
  head = one_stays words (8 + pos / 8) w 0 (λ e. absurd (omega (arith, e))) ∙ has.head
      ∙ ap (λ n. n + 65536 * (m.restart + 65536 * (m.channels + 256 * (values.bit m.linear + 256 * (m.tempo + 256 * m.bpm))))) (sym same);
  counts = one_stays words (8 + pos / 8) w 1 (λ e. absurd (omega (arith, e))) ∙ has.counts;
  name = row_stays words (8 + pos / 8) w 2 3 (bytes_word m.name) (inr (omega arith)) has.name;
  tracker = row_stays words (8 + pos / 8) w 5 3 (bytes_word m.tracker) (inr (omega arith)) has.tracker;
  orders = row_put words 8 32 (pos / 8) w (bytes_word m.orders) (bytes_word new) (omega (arith, long, lt)) has.orders word
      (λ k ne. stay pos p k m.orders new changed ne);
  pattern_ids = row_stays words (8 + pos / 8) w 40 64 (ids_word ps) (inl (omega (arith, lt))) has.pattern_ids;
  instrument_ids = row_stays words (8 + pos / 8) w 104 32 (ids_word is) (inl (omega (arith, lt))) has.instrument_ids;
  others = zeros_stay words (8 + pos / 8) w 136 (omega (arith, lt)) has.others;
}
