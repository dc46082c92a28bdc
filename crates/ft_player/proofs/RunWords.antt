-- What asking for one word, and for the words after it, leaves of a seat.
use Rattle.std.proofs.Common.{◌≡◌, ◌≢◌, ℕ, ◌<◌, ◌≤◌, ◌+◌, ◌-◌, ◌*◌, ◌%◌, ◌==◌, if◌then◌else◌, Bool, true, false, List, [], ◌∷◌, Option, None, Some, get_or, eq-eqb, ne_eqb, refl, ap, sym, ◌∙◌, arith}
use Rattle.std.proofs.lemmas.Bool.{eqb-true}
use Rattle.ft_types.specs.Work.{word_of, body_of, asked, asked_all, last_word, frame_cost, run_cost}
use Rattle.ft_shared.specs.Pass.{ReaderState}
use Rattle.ft_image.specs.Passes.{AreCounted, HasReadOn}
use Rattle.ft_player.specs.declared.seat.KeptWord.{KeptWord}
use Rattle.ft_player.specs.declared.seat.KeptWords.{KeptWords}
use Rattle.ft_player.specs.declared.seat.Seat.{Seat}
use Rattle.ft_player.specs.declared.songs.Songs.{Songs}
use Rattle.ft_player.specs.Seats.{numbers_in, numbers_of, IsSeatOf}
use Rattle.ft_player.specs.Behind.{AreSongsBehind}
use Rattle.ft_player.specs.Asked.{HasAsked}
use Rattle.ft_player.specs.Runs.{HasFollowed, HasAskedAll}

-- ---- numbers of words

either : (b : Bool) (n m : ℕ) (ms : List ℕ) → (b ≡ true → n ≡ m) → get_or (if b then m ∷ ms else n ∷ m ∷ []) 0 0 ≡ n
either true n m ms same = sym (same refl)
either false n m ms same = refl

asked_newest : (n : ℕ) (ns : List ℕ) → get_or (asked n ns) 0 0 ≡ n
asked_newest n [] = refl
asked_newest n (m ∷ ms) = either (n == m) n m ms (eqb-true n m)

newest_in : (older : Option KeptWord) (word : KeptWord) → get_or (numbers_in (Some word) older) 0 0 ≡ word.number
newest_in None word = refl
newest_in (Some older) word = refl

-- the newest word is the one that was asked for
pub newest_number : (words : KeptWords) (word : KeptWord) (n : ℕ) (ns : List ℕ) → words.newest ≡ Some word
    → numbers_of words ≡ asked n ns → word.number ≡ n
newest_number words word n ns newest numbers =
    sym (newest_in words.older word) ∙ ap (λ (o : Option KeptWord). get_or (numbers_in o words.older) 0 0) (sym newest)
    ∙ ap (λ (l : List ℕ). get_or l 0 0) numbers ∙ asked_newest n ns

asked_same : (from to : ℕ) (words : List ℕ) → to ≡ from → asked_all from to words ≡ asked from words
asked_same from to words e =
    ap (λ (b : Bool). if b then asked to words else to ∷ (to - 1) ∷ []) (eq-eqb to from e)
    ∙ ap (λ (n : ℕ). asked n words) e

asked_other : (from to : ℕ) (words : List ℕ) → to ≢ from → asked_all from to words ≡ to ∷ (to - 1) ∷ []
asked_other from to words ne =
    ap (λ (b : Bool). if b then asked to words else to ∷ (to - 1) ∷ []) (ne_eqb to from ne)

-- ---- what they cost

few_words : (first many : ℕ) → 1 ≤ many → last_word first many - word_of first ≤ many - 1
few_words first many some = omega (arith, some)

few_bodies : (from to : ℕ) → from ≤ to → body_of to - body_of from ≤ to - from
few_bodies from to le = omega (arith, le)

ordered : (first many : ℕ) → 1 ≤ many → word_of first ≤ last_word first many
ordered first many some = omega (arith, some)

bounded : (many words bodies old mid new : ℕ) → 1 ≤ many → words ≤ many - 1 → bodies ≤ words → mid ≤ old + 3
    → new ≤ mid + words + 2 * bodies → new ≤ old + 3 * many
bounded many words bodies old mid new some a b c d = omega (arith, some, a, b, c, d)

costs_all : (from to : ℕ) (words : List ℕ) (old mid new : ℕ) → mid ≤ old + frame_cost from words
    → new ≤ mid + (to - from) + 2 * (body_of to - body_of from) → new ≤ old + run_cost from to words
unfolding run_cost
costs_all from to words old mid new one more = omega (arith, one, more)

-- ---- one word, and the words after it

pub asked_one : (first many : ℕ) (old new : ReaderState) (seat seat_new : Seat) (steps steps_new : ℕ) → 1 ≤ many
    → first % 4 + many ≤ 4 → HasAsked first old new seat seat_new steps steps_new
    → HasAskedAll first many old new seat seat_new steps steps_new
asked_one first many old new seat seat_new steps steps_new some few has =
    let same : last_word first many ≡ word_of first = omega (arith, some, few) in record {
      seated = has.seated;
      rest = has.rest;
      words = has.words ∙ sym (asked_same (word_of first) (last_word first many) (numbers_of seat.words) same);
      run = record {
        on = has.on;
        counted = has.counted;
        work = (has.work.0, omega (arith, some, has.work.1));
        cost = costs_all (word_of first) (last_word first many) (numbers_of seat.words) steps steps_new steps_new has.cost
            (omega arith);
      };
    }

pub asked_more : (first many : ℕ) (old mid new : ReaderState) (seat seat_mid : Seat) (words : KeptWords)
    (steps steps_mid steps_new : ℕ) → 1 ≤ many → 4 < first % 4 + many
    → HasAsked first old mid seat seat_mid steps steps_mid
    → ((songs : Songs) → AreSongsBehind songs new → IsSeatOf songs seat → IsSeatOf songs (record seat_mid { words = words }))
    → numbers_of words ≡ last_word first many ∷ (last_word first many - 1) ∷ []
    → HasFollowed (word_of first) (last_word first many) mid new steps_mid steps_new
    → HasReadOn old new → AreCounted old new steps steps_new
    → HasAskedAll first many old new seat (record seat_mid { words = words }) steps steps_new
asked_more first many old mid new seat seat_mid words steps steps_mid steps_new some behind has seated numbers followed on counted =
    let from = word_of first in
    let to = last_word first many in
    let ne : to ≢ from = omega (arith, some, behind) in record {
      seated = seated;
      rest = ap (λ (s : Seat). record s { words = words }) has.rest;
      words = numbers ∙ sym (asked_other from to (numbers_of seat.words) ne);
      run = record {
        on = on;
        counted = counted;
        work = (
          omega (arith, has.work.0, followed.work.0),
          bounded many (to - from) (body_of to - body_of from) steps steps_mid steps_new some (few_words first many some)
              (few_bodies from to (ordered first many some)) has.work.1 followed.work.1,
        );
        cost = costs_all from to (numbers_of seat.words) steps steps_mid steps_new has.cost followed.work.1;
      };
    }
