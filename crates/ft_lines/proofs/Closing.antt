-- The words behind the numbers, by what they are.
use Rattle.std.proofs.Common.{◌≡◌, ℕ, List, [], ◌∷◌, ◌++◌, ℤ, ap, ◌∙◌, append-nil}
use Rattle.hex.specs.Hex.{encode_lower}
use Rattle.ft_types.specs.declared.edit_kind.LastType.{LastType}
use Rattle.ft_types.specs.declared.edit_kind.LastType.TheVariants.{Nothing, Title, Name, Frames}
use Rattle.ft_lines.specs.Words.{closing_words, frame_bytes}

pub none_close : (words : List (List ℕ)) (t : LastType) (name : List ℕ) (frames : List ℤ) → t ≡ Nothing
    → words ++ closing_words t name frames ≡ words
none_close words t name frames is = ap (λ t. words ++ closing_words t name frames) is ∙ append-nil words

pub title_closes : (t : LastType) (name : List ℕ) (frames : List ℤ) → t ≡ Title → closing_words t name frames ≡ encode_lower name ∷ []
title_closes t name frames is = ap (λ t. closing_words t name frames) is

pub name_closes : (t : LastType) (name : List ℕ) (frames : List ℤ) → t ≡ Name → closing_words t name frames ≡ encode_lower name ∷ []
name_closes t name frames is = ap (λ t. closing_words t name frames) is

pub frames_close : (t : LastType) (name : List ℕ) (frames : List ℤ) → t ≡ Frames
    → closing_words t name frames ≡ encode_lower (frame_bytes frames) ∷ []
frames_close t name frames is = ap (λ t. closing_words t name frames) is
