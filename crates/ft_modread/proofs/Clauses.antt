-- What an answer says of a file.
use Rattle.std.proofs.Common.{◌≡◌, ℕ, List, refl, sym, subst, ◌∙◌, Option, Some, None, inl, inr}
use Rattle.std.specs.Prelude.{◌⊎◌}
use Rattle.ft_types.specs.declared.module.Module.{Module}
use Rattle.ft_types.specs.Valid.{IsValid}
use Rattle.ft_format.specs.Fields.{AreBytes}
use Rattle.ft_modread.specs.declared.fault.ModFault.{ModFault}
use Rattle.ft_modread.specs.Songs.{mod_song, SpellsMod}
use Rattle.ft_modread.specs.ModFields.{first_mod_fault}
use Rattle.ft_modread.specs.Answers.{HasModFault}
use Rattle.ft_modread.proofs.Passes.{spelled, no_fault}
use Rattle.ft_modread.proofs.Valids.{song_valid}

abbrev some : ModFault → Option ModFault
some fault = Some fault

same_some : (a b : ModFault) → some a ≡ some b → a ≡ b
same_some a b e = cc

none_some : (a : ModFault) → some a ≡ None → ⊥
none_some a e = absurd cc

pub one_fault : (file : List ℕ) (a b : ModFault) → HasModFault file a → HasModFault file b → a ≡ b
one_fault file a b ha hb = same_some a b (sym ha ∙ hb)

pub not_both : (file : List ℕ) (song : Module) (fault : ModFault) → SpellsMod file song → HasModFault file fault → ⊥
not_both file song fault s h = none_some fault (sym h ∙ no_fault file song s)

pub one_song : (file : List ℕ) (a b : Module) → SpellsMod file a → SpellsMod file b → a ≡ b
one_song file a b sa sb = sym sa.means ∙ sb.means

either_step : (file : List ℕ) (o : Option ModFault) → first_mod_fault file ≡ o
    → ((song : Module) × SpellsMod file song) ⊎ ((fault : ModFault) × HasModFault file fault)
either_step file None e = inl (mod_song file, spelled file e)
either_step file (Some fault) e = inr (fault, e)

pub either : (file : List ℕ) → AreBytes file
    → ((song : Module) × SpellsMod file song) ⊎ ((fault : ModFault) × HasModFault file fault)
either file bytes = either_step file (first_mod_fault file) refl

-- ---- of what was read

pub found : (file : List ℕ) (song : Module) → first_mod_fault file ≡ None → song ≡ mod_song file → SpellsMod file song
found file song e same = subst (SpellsMod file) (sym same) (spelled file e)

pub valid : (file : List ℕ) (song : Module) → AreBytes file → first_mod_fault file ≡ None → song ≡ mod_song file → IsValid song
valid file song bytes e same = subst IsValid (sym same) (song_valid file bytes (spelled file e))

pub is_long : (file : List ℕ) → first_mod_fault file ≡ None → SpellsMod file (mod_song file)
is_long file e = spelled file e
