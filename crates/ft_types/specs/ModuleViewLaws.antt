-- Laws of what a view over one module keeps.
use Rattle.std.proofs.Common.{◌≡◌, ℕ, zero, suc, List, [], ◌∷◌, true, false, Option, None, Some, length, map, get_or, set, is_some, refl, sym, ap, ◌∙◌}
use Rattle.std.proofs.lemmas.List.{length-map, map-set}
use Rattle.ft_types.specs.declared.kept.Kept.{Kept}
use Rattle.ft_types.specs.declared.module.Module.{Module}
use Rattle.ft_types.specs.declared.voice.SampleHead.{SampleHead}
use Rattle.ft_types.specs.Views.{Owned, Shown, begun, head_of_owned, instrument_at, keeping, number_in, sample_of}
use Rattle.ft_types.specs.ModuleViews.{owned_in, shown_of, words_kept}

pub wide : (version : ℕ) (song : Module) (kept : List (Option Kept))
    → length (shown_of version song kept).kept ≡ length (map (is_some {T = Kept}) kept)
wide version song kept =
    length-map kept (owned_in version) ∙ sym (length-map kept (is_some {T = Kept}))

pub worded : (kept : List (Option Kept))
    → length (map words_kept kept) ≡ length (map (is_some {T = Kept}) kept)
worded kept = length-map kept words_kept ∙ sym (length-map kept (is_some {T = Kept}))

pub channels : (song : Module) (kept : List (Option Kept)) → length kept ≡ song.channels
    → song.channels ≡ length (map (is_some {T = Kept}) kept)
channels song kept many = sym many ∙ sym (length-map kept (is_some {T = Kept}))

-- what is kept of a channel
pub at_kept : (version : ℕ) (kept : List (Option Kept)) (c : ℕ)
    → get_or (map (owned_in version) kept) c None ≡ owned_in version (get_or kept c None)
at_kept version [] c = refl
at_kept version (k ∷ kept) zero = refl
at_kept version (k ∷ kept) (suc c) = at_kept version kept c

pub words_at : (kept : List (Option Kept)) (c : ℕ)
    → get_or (map words_kept kept) c [] ≡ words_kept (get_or kept c None)
words_at [] c = refl
words_at (k ∷ kept) zero = refl
words_at (k ∷ kept) (suc c) = words_at kept c

-- the head of a kept sample is that of any version
pub any_head : (u v : ℕ) (k : Option Kept)
    → head_of_owned (owned_in u k) ≡ head_of_owned (owned_in v k)
any_head u v None = refl
any_head u v (Some k) = refl

pub of_head : (version : ℕ) (song : Module) (kept : List (Option Kept)) (c : ℕ) (h : SampleHead)
    → head_of_owned (owned_in 0 (get_or kept c None)) ≡ Some h
    → head_of_owned (get_or (shown_of version song kept).kept c None) ≡ Some h
of_head version song kept c h e =
    ap head_of_owned (at_kept version kept c) ∙ any_head version 0 (get_or kept c None) ∙ e

nothing : (h : SampleHead) → None ≡ Some h → ⊥
nothing h e = absurd cc

pub held : (kept : List (Option Kept)) (c : ℕ) (h : SampleHead)
    → head_of_owned (owned_in 0 (get_or kept c None)) ≡ Some h
    → get_or (map (is_some {T = Kept}) kept) c false ≡ true
held [] c h e = absurd (nothing h e)
held (None ∷ kept) zero h e = absurd (nothing h e)
held (Some k ∷ kept) zero h e = refl
held (k ∷ kept) (suc c) h e = held kept c h e

pub sets : (version : ℕ) (song : Module) (kept : List (Option Kept)) (c : ℕ) (k : Option Kept)
    → shown_of version song (set kept c k)
    ≡ keeping c (owned_in version k) (shown_of version song kept)
sets version song kept c k =
    ap (λ (l : List (Option Owned)). record { version = version; song = song; kept = l })
    (map-set (owned_in version) kept c k)

-- what is kept stays the same sample
pub stays : (version : ℕ) (song : Module) (kept : List (Option Kept)) (c : ℕ) (k : Option Kept)
    → owned_in version k ≡ owned_in version (get_or kept c None)
    → shown_of version song (set kept c k) ≡ shown_of version song kept
stays version song [] c k e = refl
stays version song (old ∷ kept) zero k e =
    ap (λ (o : Option Owned). record {
      version = version;
      song = song;
      kept = o ∷ map (owned_in version) kept;
    }) e
stays version song (old ∷ kept) (suc c) k e =
    ap (λ (s : Shown). record {
      version = version;
      song = song;
      kept = owned_in version old ∷ s.kept;
    }) (stays version song kept c k e)

-- the sample that a note begins is the one of its number
pub begins : (version : ℕ) (song : Module) (instrument note number : ℕ)
    → number ≡ number_in (instrument_at song instrument) note
    → sample_of version song instrument number ≡ begun version song instrument note
unfolding begun
begins version song instrument note number e = ap (sample_of version song instrument) e

-- there is a head where there is a sample
pub has_head : (k : Option Kept) → is_some (head_of_owned (owned_in 0 k)) ≡ is_some k
has_head None = refl
has_head (Some k) = refl

-- where all keep the same samples, they have the same heads
pub same_heads : (old new : List (Option Kept)) (c : ℕ)
    → map (owned_in 0) new ≡ map (owned_in 0) old
    → head_of_owned (owned_in 0 (get_or new c None))
    ≡ head_of_owned (owned_in 0 (get_or old c None))
same_heads old new c e = ap head_of_owned
    (sym (at_kept 0 new c) ∙ ap (λ (l : List (Option Owned)). get_or l c None) e
    ∙ at_kept 0 old c)
