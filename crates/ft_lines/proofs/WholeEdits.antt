-- An edit is the edit of its parts, and parts that follow the table are those of their edit.
use Rattle.std.proofs.Common.{◌≡◌, ℕ, ◌+◌, ◌^◌, ◌≤◌, List, [], ◌∷◌, length, replicate, ℤ, pos, negsuc, refl, sym, ap, ◌∙◌, arith}
use Rattle.std.proofs.lemmas.Bool.{cond-true, le-leb}
use Rattle.std.proofs.lemmas.List.{take-append-le, take_all}
use Rattle.ft_types.specs.declared.edit.Edit.{Edit}
use Rattle.ft_types.specs.declared.edit.Edit.TheVariants as edits
use Rattle.ft_types.specs.declared.edit_kind.EditKind.{EditKind}
use Rattle.ft_types.specs.declared.edit_kind.EditKind.TheVariants as kinds
use Rattle.ft_types.specs.declared.edit_kind.NumberType.{NumberType}
use Rattle.ft_types.specs.declared.edit_kind.NumberType.TheVariants.{U8, U16, U32, I8, I16}
use Rattle.ft_types.specs.declared.edit_kind.LastType.{LastType}
use Rattle.ft_types.specs.declared.edit_kind.LastType.TheVariants.{Nothing, Title, Name, Frames}
use Rattle.ft_types.specs.Edits.{IsGivable}
use Rattle.ft_types.specs.Signatures.{signature, IsOfType, AreOfTypes, IsNaturalBelow, natural_to, signed_to, clip, clipped_numbers, first_number, later_numbers, natural, at, padded}
use Rattle.ft_types.specs.EditParts.{InParts, edit_parts, edit_with, edit_of, IsLastPart, FollowsTable, EditHasRanges, AreGiven}

-- ---- numbers

natural_kept : (most limit : ℕ) (z : ℤ) → limit ≡ most + 1 → IsNaturalBelow limit z → natural_to most z ≡ z
natural_kept most limit (pos n) e is = cond-true _ (pos n) (pos 0) (le-leb n most (omega (arith, e, is)))
natural_kept most limit (negsuc n) e is = absurd is

pos_kept : (most n : ℕ) → n ≤ most → signed_to most (pos n) ≡ pos n
pos_kept most n is = cond-true _ (pos n) (pos 0) (le-leb n most is)

negsuc_kept : (most n : ℕ) → n ≤ most → signed_to most (negsuc n) ≡ negsuc n
negsuc_kept most n is = cond-true _ (negsuc n) (pos 0) (le-leb n most is)

clip_kept : (t : NumberType) (z : ℤ) → IsOfType t z → clip t z ≡ z
clip_kept U8 z is = natural_kept 255 (2 ^ 8) z (omega arith) is
clip_kept U16 z is = natural_kept 65535 (2 ^ 16) z (omega arith) is
clip_kept U32 z is = natural_kept 4294967295 (2 ^ 32) z (omega arith) is
clip_kept I8 (pos n) is = pos_kept 127 n (omega (arith, is.sfits))
clip_kept I8 (negsuc n) is = negsuc_kept 127 n (omega (arith, is.sfits))
clip_kept I16 (pos n) is = pos_kept 32767 n (omega (arith, is.sfits))
clip_kept I16 (negsuc n) is = negsuc_kept 32767 n (omega (arith, is.sfits))

clipped_kept : (ts : List NumberType) (ns : List ℤ) → AreOfTypes ts ns → clipped_numbers ts ns ≡ ns
clipped_kept [] [] are = refl
clipped_kept [] (n ∷ ns) are = absurd are
clipped_kept (t ∷ ts) [] are = absurd are
clipped_kept (t ∷ ts) (n ∷ ns) are = cc (clip_kept t n are.0, clipped_kept ts ns are.1)

padded_whole : (size : ℕ) (name : List ℕ) → length name ≡ size → padded size name ≡ name
padded_whole size name e = take-append-le size name (replicate size 0) (omega (arith, e)) ∙ take_all size name (omega (arith, e))

-- ---- an edit from its parts

whole_plain : (e : Edit) → EditHasRanges e
    → edit_with (edit_parts e).kind (edit_parts e).numbers (edit_parts e).name (edit_parts e).frames ≡ e
whole_plain (edits.Cell p r c note ins vol eff par) is = refl
whole_plain (edits.Rows p n) is = refl
whole_plain (edits.Insrow p r) is = refl
whole_plain (edits.Delrow p r) is = refl
whole_plain (edits.Clear p r c h w) is = refl
whole_plain (edits.Transpose p r c h w d) is = refl
whole_plain (edits.Copy p r c h w q r2 c2) is = refl
whole_plain (edits.Order position p) is = refl
whole_plain (edits.Insorder position p) is = refl
whole_plain (edits.Delorder position) is = refl
whole_plain (edits.Restart position) is = refl
whole_plain (edits.Tempo n) is = refl
whole_plain (edits.Bpm n) is = refl
whole_plain (edits.Title name) is = ap (λ bytes. edits.Title bytes) (padded_whole 20 name is.1.0.len)
whole_plain (edits.Newpat n) is = refl
whole_plain edits.Delpat is = refl
whole_plain edits.Newins is = refl
whole_plain (edits.Clearins i) is = refl
whole_plain (edits.Insname i name) is = ap (λ bytes. edits.Insname i bytes) (padded_whole 22 name is.1.0.len)
whole_plain (edits.Map i n k) is = refl
whole_plain (edits.Env i w count sus ls le flags) is = refl
whole_plain (edits.Point i w k x y) is = refl
whole_plain (edits.Vib i kind sweep depth rate) is = refl
whole_plain (edits.Fade i n) is = refl
whole_plain (edits.Newsmp i) is = refl
whole_plain (edits.Delsmp i) is = refl
whole_plain (edits.Smpname i s name) is = ap (λ bytes. edits.Smpname i s bytes) (padded_whole 22 name is.1.0.len)
whole_plain (edits.Smp i s vol fine rel pan) is = refl
whole_plain (edits.Loop i s kind start len) is = refl
whole_plain (edits.Cut i s from to) is = refl
whole_plain (edits.Paste i s at frames) is = refl
whole_plain (edits.Reverse i s from to) is = refl
whole_plain (edits.Scale i s from to n d) is = refl
whole_plain (edits.Bits i s b) is = refl

pub is_whole : (e : Edit) → EditHasRanges e → edit_of (edit_parts e) ≡ e
is_whole e has =
    let p : InParts = edit_parts e in
    ap (λ ns. edit_with p.kind ns p.name p.frames) (clipped_kept (signature p.kind).numbers p.numbers has.0) ∙ whole_plain e has

-- ---- parts from their edit

-- a number as an edit holds it
abbrev held : NumberType → ℤ → ℤ
held U8 z = pos (natural z)
held U16 z = pos (natural z)
held U32 z = pos (natural z)
held I8 z = z
held I16 z = z

abbrev all_held : List NumberType → List ℤ → List ℤ
all_held [] ns = []
all_held (t ∷ ts) ns = held t (first_number ns) ∷ all_held ts (later_numbers ns)

natural_held : (limit : ℕ) (z : ℤ) → IsNaturalBelow limit z → pos (natural z) ≡ z
natural_held limit (pos n) is = refl
natural_held limit (negsuc n) is = absurd is

held_kept : (t : NumberType) (z : ℤ) → IsOfType t z → held t z ≡ z
held_kept U8 z is = natural_held (2 ^ 8) z is
held_kept U16 z is = natural_held (2 ^ 16) z is
held_kept U32 z is = natural_held (2 ^ 32) z is
held_kept I8 z is = refl
held_kept I16 z is = refl

all_kept : (ts : List NumberType) (ns : List ℤ) → AreOfTypes ts ns → all_held ts ns ≡ ns
all_kept [] [] are = refl
all_kept [] (n ∷ ns) are = absurd are
all_kept (t ∷ ts) [] are = absurd are
all_kept (t ∷ ts) (n ∷ ns) are = cc (held_kept t n are.0, all_kept ts ns are.1)

abbrev last_name : LastType → List ℕ → List ℕ
last_name Nothing name = []
last_name Title name = padded 20 name
last_name Name name = padded 22 name
last_name Frames name = []

abbrev last_frames : LastType → List ℤ → List ℤ
last_frames Nothing frames = []
last_frames Title frames = []
last_frames Name frames = []
last_frames Frames frames = frames

name_kept : (t : LastType) (name : List ℕ) (frames : List ℤ) → IsLastPart t name frames → last_name t name ≡ name
name_kept Nothing name frames is = sym is.0
name_kept Title name frames is = padded_whole 20 name is.0.len
name_kept Name name frames is = padded_whole 22 name is.0.len
name_kept Frames name frames is = sym is.0

frames_kept : (t : LastType) (name : List ℕ) (frames : List ℤ) → IsLastPart t name frames → last_frames t frames ≡ frames
frames_kept Nothing name frames is = sym is.1
frames_kept Title name frames is = sym is.1
frames_kept Name name frames is = sym is.1
frames_kept Frames name frames is = refl

abbrev parts : EditKind → List ℤ → List ℕ → List ℤ → InParts
parts kind numbers name frames = record { kind = kind; numbers = numbers; name = name; frames = frames }

parts_held : (k : EditKind) (ns : List ℤ) (name : List ℕ) (frames : List ℤ)
    → edit_parts (edit_with k ns name frames)
    ≡ parts k (all_held (signature k).numbers ns) (last_name (signature k).last name) (last_frames (signature k).last frames)
parts_held kinds.Cell ns name frames = refl
parts_held kinds.Rows ns name frames = refl
parts_held kinds.Insrow ns name frames = refl
parts_held kinds.Delrow ns name frames = refl
parts_held kinds.Clear ns name frames = refl
parts_held kinds.Transpose ns name frames = refl
parts_held kinds.Copy ns name frames = refl
parts_held kinds.Order ns name frames = refl
parts_held kinds.Insorder ns name frames = refl
parts_held kinds.Delorder ns name frames = refl
parts_held kinds.Restart ns name frames = refl
parts_held kinds.Tempo ns name frames = refl
parts_held kinds.Bpm ns name frames = refl
parts_held kinds.Title ns name frames = refl
parts_held kinds.Newpat ns name frames = refl
parts_held kinds.Delpat ns name frames = refl
parts_held kinds.Newins ns name frames = refl
parts_held kinds.Clearins ns name frames = refl
parts_held kinds.Insname ns name frames = refl
parts_held kinds.Map ns name frames = refl
parts_held kinds.Env ns name frames = refl
parts_held kinds.Point ns name frames = refl
parts_held kinds.Vib ns name frames = refl
parts_held kinds.Fade ns name frames = refl
parts_held kinds.Newsmp ns name frames = refl
parts_held kinds.Delsmp ns name frames = refl
parts_held kinds.Smpname ns name frames = refl
parts_held kinds.Smp ns name frames = refl
parts_held kinds.Loop ns name frames = refl
parts_held kinds.Cut ns name frames = refl
parts_held kinds.Paste ns name frames = refl
parts_held kinds.Reverse ns name frames = refl
parts_held kinds.Scale ns name frames = refl
parts_held kinds.Bits ns name frames = refl

pub are_kept : (p : InParts) → FollowsTable p → edit_parts (edit_of p) ≡ p
are_kept p follows =
    let clip_is = clipped_kept (signature p.kind).numbers p.numbers follows.0 in
    let held_is = all_kept (signature p.kind).numbers p.numbers follows.0 in
    let name_is = name_kept (signature p.kind).last p.name p.frames follows.1 in
    let frames_is = frames_kept (signature p.kind).last p.name p.frames follows.1 in
    ap (λ ns. edit_parts (edit_with p.kind ns p.name p.frames)) clip_is
    ∙ parts_held p.kind p.numbers p.name p.frames
    ∙ ap (λ ns. parts p.kind ns (last_name (signature p.kind).last p.name) (last_frames (signature p.kind).last p.frames)) held_is
    ∙ ap (λ name. parts p.kind p.numbers name (last_frames (signature p.kind).last p.frames)) name_is
    ∙ ap (λ frames. parts p.kind p.numbers p.name frames) frames_is

-- ---- frames that can be given

pub frames_given : (e : Edit) → IsGivable e → AreGiven (signature (edit_parts e).kind).last (edit_parts e).frames
frames_given (edits.Cell p r c note ins vol eff par) is = tt
frames_given (edits.Rows p n) is = tt
frames_given (edits.Insrow p r) is = tt
frames_given (edits.Delrow p r) is = tt
frames_given (edits.Clear p r c h w) is = tt
frames_given (edits.Transpose p r c h w d) is = tt
frames_given (edits.Copy p r c h w q r2 c2) is = tt
frames_given (edits.Order position p) is = tt
frames_given (edits.Insorder position p) is = tt
frames_given (edits.Delorder position) is = tt
frames_given (edits.Restart position) is = tt
frames_given (edits.Tempo n) is = tt
frames_given (edits.Bpm n) is = tt
frames_given (edits.Title name) is = tt
frames_given (edits.Newpat n) is = tt
frames_given edits.Delpat is = tt
frames_given edits.Newins is = tt
frames_given (edits.Clearins i) is = tt
frames_given (edits.Insname i name) is = tt
frames_given (edits.Map i n k) is = tt
frames_given (edits.Env i w count sus ls le flags) is = tt
frames_given (edits.Point i w k x y) is = tt
frames_given (edits.Vib i kind sweep depth rate) is = tt
frames_given (edits.Fade i n) is = tt
frames_given (edits.Newsmp i) is = tt
frames_given (edits.Delsmp i) is = tt
frames_given (edits.Smpname i s name) is = tt
frames_given (edits.Smp i s vol fine rel pan) is = tt
frames_given (edits.Loop i s kind start len) is = tt
frames_given (edits.Cut i s from to) is = tt
frames_given (edits.Paste i s at frames) is = is
frames_given (edits.Reverse i s from to) is = tt
frames_given (edits.Scale i s from to n d) is = tt
frames_given (edits.Bits i s b) is = tt

pub given_frames : (e : Edit) → AreGiven (signature (edit_parts e).kind).last (edit_parts e).frames → IsGivable e
given_frames (edits.Cell p r c note ins vol eff par) is = tt
given_frames (edits.Rows p n) is = tt
given_frames (edits.Insrow p r) is = tt
given_frames (edits.Delrow p r) is = tt
given_frames (edits.Clear p r c h w) is = tt
given_frames (edits.Transpose p r c h w d) is = tt
given_frames (edits.Copy p r c h w q r2 c2) is = tt
given_frames (edits.Order position p) is = tt
given_frames (edits.Insorder position p) is = tt
given_frames (edits.Delorder position) is = tt
given_frames (edits.Restart position) is = tt
given_frames (edits.Tempo n) is = tt
given_frames (edits.Bpm n) is = tt
given_frames (edits.Title name) is = tt
given_frames (edits.Newpat n) is = tt
given_frames edits.Delpat is = tt
given_frames edits.Newins is = tt
given_frames (edits.Clearins i) is = tt
given_frames (edits.Insname i name) is = tt
given_frames (edits.Map i n k) is = tt
given_frames (edits.Env i w count sus ls le flags) is = tt
given_frames (edits.Point i w k x y) is = tt
given_frames (edits.Vib i kind sweep depth rate) is = tt
given_frames (edits.Fade i n) is = tt
given_frames (edits.Newsmp i) is = tt
given_frames (edits.Delsmp i) is = tt
given_frames (edits.Smpname i s name) is = tt
given_frames (edits.Smp i s vol fine rel pan) is = tt
given_frames (edits.Loop i s kind start len) is = tt
given_frames (edits.Cut i s from to) is = tt
given_frames (edits.Paste i s at frames) is = is
given_frames (edits.Reverse i s from to) is = tt
given_frames (edits.Scale i s from to n d) is = tt
given_frames (edits.Bits i s b) is = tt
