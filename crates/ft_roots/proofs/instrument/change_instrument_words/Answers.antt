use Rattle.std.proofs.Common.{◌≡◌, ℕ, List, refl}
use Rattle.ft_types.specs.declared.edit.Edit.{Edit}
use Rattle.ft_types.specs.declared.edit.Edit.TheVariants as edits
use Rattle.ft_edits.specs.Allowed.{Allows}
use Rattle.ft_roots.specs.PartEdits.{ChangesInstrumentAlone}
use Rattle.ft_roots.proofs.instrument.change_instrument_words.Goals as goal

pub returns-in-Insname-clause-changed : goal.returns-in-Insname-clause-changed
returns-in-Insname-clause-changed c = λ m x ids alone valid allowed has. rw c.in-Insname.is (c.put_instrument_name.ensures x ids has)

pub returns-in-Map-clause-changed : goal.returns-in-Map-clause-changed
returns-in-Map-clause-changed c = λ m x ids alone valid allowed has.
    let there : Allows m c.args.e.now = c.allowed_edits_name_what_is_there.ensures m c.args.e.now allowed in
    rw c.in-Map.is (c.put_note.ensures x ids valid (rw c.in-Map.is at there) has)

pub returns-in-Env-clause-changed : goal.returns-in-Env-clause-changed
returns-in-Env-clause-changed c = λ m x ids alone valid allowed has. rw c.in-Env.is (c.put_envelope.ensures x ids valid has)

pub returns-in-Point-clause-changed : goal.returns-in-Point-clause-changed
returns-in-Point-clause-changed c = λ m x ids alone valid allowed has.
    let there : Allows m c.args.e.now = c.allowed_edits_name_what_is_there.ensures m c.args.e.now allowed in
    let same : c.from.result ≡ c.in-Point.y = c.from.ensures in
    let put = c.put_point.ensures x ids valid (rw c.in-Point.is at there) has in
    rw c.in-Point.is (rw same at put)

pub returns-in-Vib-clause-changed : goal.returns-in-Vib-clause-changed
returns-in-Vib-clause-changed c = λ m x ids alone valid allowed has. rw c.in-Vib.is (c.put_vibrato.ensures x ids valid has)

pub returns-in-Fade-clause-changed : goal.returns-in-Fade-clause-changed
returns-in-Fade-clause-changed c = λ m x ids alone valid allowed has. rw c.in-Fade.is (c.put_fadeout.ensures x ids has)

-- an edit that is none of these
none_of : (e : Edit) → ((i : ℕ) (name : List ℕ) → e ≡ edits.Insname i name → ⊥) → ((i n k : ℕ) → e ≡ edits.Map i n k → ⊥)
    → ((i w count sus ls le flags : ℕ) → e ≡ edits.Env i w count sus ls le flags → ⊥)
    → ((i w k x y : ℕ) → e ≡ edits.Point i w k x y → ⊥)
    → ((i kind sweep depth rate : ℕ) → e ≡ edits.Vib i kind sweep depth rate → ⊥)
    → ((i n : ℕ) → e ≡ edits.Fade i n → ⊥) → ChangesInstrumentAlone e → ⊥
none_of (edits.Insname i name) a b c d f g alone = a i name refl
none_of (edits.Map i n k) a b c d f g alone = b i n k refl
none_of (edits.Env i w count sus ls le flags) a b c d f g alone = c i w count sus ls le flags refl
none_of (edits.Point i w k x y) a b c d f g alone = d i w k x y refl
none_of (edits.Vib i kind sweep depth rate) a b c d f g alone = f i kind sweep depth rate refl
none_of (edits.Fade i n) a b c d f g alone = g i n refl
none_of _ a b c d f g alone = alone

pub returns-in_default : goal.returns-in_default
returns-in_default c =
    let d = c.in_default in
    record {
      changed = λ m x ids alone valid allowed has.
          absurd (none_of c.args.e.now d.not-Insname d.not-Map d.not-Env d.not-Point d.not-Vib d.not-Fade alone);
      others = λ no. refl;
    }
