-- The kind of a name, and the reading of what follows it.
use Rattle.std.proofs.Common.{◌≡◌, ℕ, Bool, true, false, cond, List, [], ◌∷◌, map, Option, Some, refl, sym}
use Rattle.std.specs.Prelude.{option_map, bytes_eq}
use Rattle.ft_types.specs.declared.edit.Edit.{Edit}
use Rattle.ft_types.specs.declared.edit_kind.EditKind.{EditKind}
use Rattle.ft_types.specs.Signatures.{signature, kind_among, kind_named, every_kind}
use Rattle.ft_lines.specs.Reading.{Reading}
use Rattle.ft_lines.specs.Edits.{kind_reading, named_reading, named, readings}

chosen : (b : Bool) (k : EditKind) (o : Option EditKind) (r : Option (Reading Edit)) → option_map kind_reading o ≡ r
    → option_map kind_reading (cond b (Some k) o) ≡ cond b (Some (kind_reading k)) r
chosen true k o r e = refl
chosen false k o r e = e

among : (ks : List EditKind) (name : List ℕ) → option_map kind_reading (kind_among ks name) ≡ named (map named_reading ks) name
among [] name = refl
among (k ∷ ks) name = chosen (bytes_eq name (signature k).name) k (kind_among ks name) (named (map named_reading ks) name) (among ks name)

pub reading_named : (name : List ℕ) → named readings name ≡ option_map kind_reading (kind_named name)
unfolding readings kind_named
reading_named name = sym (among every_kind name)
