-- Edits of parts leave the root of a song, but for the roots that it names.
use Rattle.std.proofs.Common.{◌≢◌, ℕ, ◌-◌, List, refl}
use Rattle.ft_types.specs.declared.module.Module.{Module}
use Rattle.ft_types.specs.declared.edit.Edit.{Edit}
use Rattle.ft_types.specs.declared.edit.Edit.TheVariants as edits
use Rattle.ft_edits.specs.declared.group.Group.TheVariants.{Song}
use Rattle.ft_edits.specs.Groups.{group_of}
use Rattle.ft_edits.specs.Edited.{edited}
use Rattle.ft_roots.specs.RootWords.{HasSongWords}
use Rattle.ft_roots.proofs.SongSame.{changed_length, patterns_same, instruments_same}

pub parts_alone : (words : List ℕ) (m : Module) (ps is : List ℕ) (e : Edit) → group_of e ≢ Song → e ≢ edits.Newins
    → HasSongWords words m ps is → HasSongWords words (edited m e) ps is
parts_alone words m ps is (edits.Cell p r c note ins vol eff par) song new has =
    patterns_same words m _ ps is (changed_length p _ m.patterns) has
parts_alone words m ps is (edits.Rows p n) song new has =
    patterns_same words m _ ps is (changed_length p _ m.patterns) has
parts_alone words m ps is (edits.Insrow p r) song new has =
    patterns_same words m _ ps is (changed_length p _ m.patterns) has
parts_alone words m ps is (edits.Delrow p r) song new has =
    patterns_same words m _ ps is (changed_length p _ m.patterns) has
parts_alone words m ps is (edits.Clear p r c h w) song new has =
    patterns_same words m _ ps is (changed_length p _ m.patterns) has
parts_alone words m ps is (edits.Transpose p r c h w d) song new has =
    patterns_same words m _ ps is (changed_length p _ m.patterns) has
parts_alone words m ps is (edits.Copy p r c h w q r2 c2) song new has =
    patterns_same words m _ ps is (changed_length q _ m.patterns) has
parts_alone words m ps is (edits.Order position p) song new has =
    absurd (song refl)
parts_alone words m ps is (edits.Insorder position p) song new has =
    absurd (song refl)
parts_alone words m ps is (edits.Delorder position) song new has =
    absurd (song refl)
parts_alone words m ps is (edits.Restart position) song new has =
    absurd (song refl)
parts_alone words m ps is (edits.Tempo n) song new has =
    absurd (song refl)
parts_alone words m ps is (edits.Bpm n) song new has =
    absurd (song refl)
parts_alone words m ps is (edits.Title name) song new has =
    absurd (song refl)
parts_alone words m ps is (edits.Newpat n) song new has =
    absurd (song refl)
parts_alone words m ps is edits.Delpat song new has =
    absurd (song refl)
parts_alone words m ps is edits.Newins song new has =
    absurd (new refl)
parts_alone words m ps is (edits.Clearins i) song new has =
    instruments_same words m _ ps is (changed_length (i - 1) _ m.instruments) has
parts_alone words m ps is (edits.Insname i name) song new has =
    instruments_same words m _ ps is (changed_length (i - 1) _ m.instruments) has
parts_alone words m ps is (edits.Map i n k) song new has =
    instruments_same words m _ ps is (changed_length (i - 1) _ m.instruments) has
parts_alone words m ps is (edits.Env i w count sus ls le flags) song new has =
    instruments_same words m _ ps is (changed_length (i - 1) _ m.instruments) has
parts_alone words m ps is (edits.Point i w k x y) song new has =
    instruments_same words m _ ps is (changed_length (i - 1) _ m.instruments) has
parts_alone words m ps is (edits.Vib i kind sweep depth rate) song new has =
    instruments_same words m _ ps is (changed_length (i - 1) _ m.instruments) has
parts_alone words m ps is (edits.Fade i n) song new has =
    instruments_same words m _ ps is (changed_length (i - 1) _ m.instruments) has
parts_alone words m ps is (edits.Newsmp i) song new has =
    instruments_same words m _ ps is (changed_length (i - 1) _ m.instruments) has
parts_alone words m ps is (edits.Delsmp i) song new has =
    instruments_same words m _ ps is (changed_length (i - 1) _ m.instruments) has
parts_alone words m ps is (edits.Smpname i s name) song new has =
    instruments_same words m _ ps is (changed_length (i - 1) _ m.instruments) has
parts_alone words m ps is (edits.Smp i s vol fine rel pan) song new has =
    instruments_same words m _ ps is (changed_length (i - 1) _ m.instruments) has
parts_alone words m ps is (edits.Loop i s kind start len) song new has =
    instruments_same words m _ ps is (changed_length (i - 1) _ m.instruments) has
parts_alone words m ps is (edits.Cut i s from to) song new has =
    instruments_same words m _ ps is (changed_length (i - 1) _ m.instruments) has
parts_alone words m ps is (edits.Paste i s at frames) song new has =
    instruments_same words m _ ps is (changed_length (i - 1) _ m.instruments) has
parts_alone words m ps is (edits.Reverse i s from to) song new has =
    instruments_same words m _ ps is (changed_length (i - 1) _ m.instruments) has
parts_alone words m ps is (edits.Scale i s from to n d) song new has =
    instruments_same words m _ ps is (changed_length (i - 1) _ m.instruments) has
parts_alone words m ps is (edits.Bits i s b) song new has =
    instruments_same words m _ ps is (changed_length (i - 1) _ m.instruments) has
