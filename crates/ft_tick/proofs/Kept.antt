-- What channels keep, through the calls of a tick.
use Rattle.std.proofs.Common.{◌≡◌, ◌≢◌, ℕ, ◌<◌, Bool, false, Option, None, Some, List, length, get_or, set, is_some, eqb, refl, ap, sym, subst, ◌∙◌, arith}
use Rattle.std.proofs.lemmas.Bool.{cond_both, eqb-true, eqb-false}
use Rattle.std.proofs.lemmas.List.{length-set, get_or-set_same, get_or-set_other}
use Rattle.ft_types.specs.declared.voice.SampleHead.{SampleHead}
use Rattle.ft_types.specs.declared.voice.Voice.{Voice}
use Rattle.ft_replay.specs.declared.state.Channel.{Channel}
use Rattle.ft_replay.specs.State.{blank_channel}
use Rattle.ft_replay.specs.Calls.{IsExact, IsKept, KeepsFor, KeepsForAll}
use Rattle.ft_replay.specs.Range.{IsChannelInRange, AreInRange}

-- a number is another, or it isn't
pub either : (c d : ℕ) (P : Type 0) → (d ≡ c → P) → (d ≢ c → P) → P
either c d P same other =
    cond_both (eqb d c) tt tt (λ (x : Unit {0}). P) (λ is. same (eqb-true d c is)) (λ is. other (eqb-false d c is))

-- one channel of all is as a rule leaves it
pub set_in_range : (channels : List Channel) (c : ℕ) (channel : Channel) → c < length channels
    → IsChannelInRange c channel → AreInRange channels → AreInRange (set channels c channel)
set_in_range channels c channel lt p all d within =
    either c d (IsChannelInRange d (get_or (set channels c channel) d blank_channel))
    (λ is. subst (λ (e : ℕ). IsChannelInRange e (get_or (set channels c channel) e blank_channel)) (sym is)
    (subst (IsChannelInRange c) (sym (get_or-set_same channels c channel blank_channel lt)) p))
    (λ ne.
    subst (IsChannelInRange d) (sym (get_or-set_other channels c d channel blank_channel ne))
    (all d (omega (arith, length-set channels c channel))))

stays : (before after : ℕ → SampleHead → Type 0) (d : ℕ) (voice : Option Voice)
    → ((h : SampleHead) → before d h → after d h) → IsKept before d voice → IsKept after d voice
stays before after d None on kept = tt
stays before after d (Some voice) on kept = on voice.head kept

-- a call for one channel, among all
pub keeps_one :
    (before after : ℕ → SampleHead → Type 0) (held held_after : List Bool) (channels : List Channel) (c : ℕ)
    (channel : Channel)
    → c < length channels
    → KeepsFor c before after held held_after (get_or channels c blank_channel).voice channel.voice
    → KeepsForAll before after held held_after channels (set channels c channel)
keeps_one before after held held_after channels c channel lt k =
    let here = get_or-set_same channels c channel blank_channel lt in
    record {
      kept = λ p d within. either c d (IsKept after d (get_or (set channels c channel) d blank_channel).voice)
          (λ is. subst (λ (e : ℕ). IsKept after e (get_or (set channels c channel) e blank_channel).voice) (sym is)
          (subst (λ (x : Channel). IsKept after c x.voice) (sym here) (k.kept (p c lt))))
          (λ ne. subst (λ (x : Channel). IsKept after d x.voice)
          (sym (get_or-set_other channels c d channel blank_channel ne))
          (stays before after d (get_or channels d blank_channel).voice (λ h. k.others d h ne) (p d (omega (arith, length-set channels c channel)))));
      exact = λ d within p. either c d (IsExact held_after (set channels c channel) d)
          (λ is. subst (IsExact held_after (set channels c channel)) (sym is)
          (k.exact (subst (IsExact held channels) is p) ∙ ap (λ (x : Channel). is_some x.voice) (sym here)))
          (λ ne. ap (λ (l : List Bool). get_or l d false) k.alone
          ∙ get_or-set_other held c d (get_or held_after c false) false ne
          ∙ p
          ∙ ap (λ (x : Channel). is_some x.voice) (sym (get_or-set_other channels c d channel blank_channel ne)));
      many = length-set channels c channel;
      wide = ap (λ (l : List Bool). length l) k.alone ∙ length-set held c (get_or held_after c false);
    }

pub keeps_then : (a b c : ℕ → SampleHead → Type 0) (h k l : List Bool) (x y z : List Channel) → KeepsForAll a b h k x y
    → KeepsForAll b c k l y z → KeepsForAll a c h l x z
keeps_then a b c h k l x y z p q = record {
  kept = λ s. q.kept (p.kept s);
  exact = λ c lt s. q.exact c (omega (arith, p.many)) (p.exact c lt s);
  many = q.many ∙ p.many;
  wide = q.wide ∙ p.wide;
}

-- a call that keeps all that was kept, and after which one voice of the same head may be there
pub keeps_voice :
    (before after : ℕ → SampleHead → Type 0) (held held_after : List Bool) (c : ℕ) (voice voice_after : Option Voice)
    → held_after ≡ held → ((d : ℕ) (h : SampleHead) → before d h → after d h)
    → (IsKept before c voice → IsKept after c voice_after) → is_some voice_after ≡ is_some voice
    → held ≡ set held c (get_or held c false) → KeepsFor c before after held held_after voice voice_after
keeps_voice before after held held_after c voice voice_after same on kept sounds back = record {
  kept = kept;
  exact = λ p. ap (λ (l : List Bool). get_or l c false) same ∙ p ∙ sym sounds;
  others = λ d h ne. on d h;
  alone = same ∙ back ∙ ap (λ (l : List Bool). set held c (get_or l c false)) (sym same);
}

-- a call before, which keeps all that was kept
pub keeps_lead : (a b c : ℕ → SampleHead → Type 0) (h k l : List Bool) (x y : List Channel)
    → ((d : ℕ) (head : SampleHead) → a d head → b d head) → k ≡ h
    → KeepsForAll b c k l x y → KeepsForAll a c h l x y
keeps_lead a b c h k l x y on same p = record {
  kept = λ s. p.kept (λ d lt. stays a b d (get_or x d blank_channel).voice (on d) (s d lt));
  exact = λ d lt s. p.exact d lt (ap (λ (m : List Bool). get_or m d false) same ∙ s);
  many = p.many;
  wide = p.wide ∙ ap (λ (m : List Bool). length m) same;
}

-- channels whose voices are the same
pub keeps_same : (a c : ℕ → SampleHead → Type 0) (h l : List Bool) (x y z : List Channel) → length y ≡ length x
    → ((d : ℕ) → d < length x → (get_or y d blank_channel).voice ≡ (get_or x d blank_channel).voice)
    → KeepsForAll a c h l y z → KeepsForAll a c h l x z
keeps_same a c h l x y z many voices p = record {
  kept = λ s. p.kept (λ d lt. subst (IsKept a d) (sym (voices d (omega arith))) (s d (omega arith)));
  exact = λ d lt s. p.exact d (omega arith) (s ∙ ap is_some (sym (voices d lt)));
  many = p.many ∙ many;
  wide = p.wide;
}

pub keeps_after : (a c : ℕ → SampleHead → Type 0) (h l : List Bool) (x y z : List Channel) → length z ≡ length y
    → ((d : ℕ) → d < length y → (get_or z d blank_channel).voice ≡ (get_or y d blank_channel).voice)
    → KeepsForAll a c h l x y → KeepsForAll a c h l x z
keeps_after a c h l x y z many voices p = record {
  kept =
      λ s d lt.
      let inside : d < length y = omega arith in subst (IsKept c d) (sym (voices d inside)) (p.kept s d inside);
  exact = λ d lt s. p.exact d lt s ∙ ap is_some (sym (voices d (omega (arith, p.many))));
  many = many ∙ p.many;
  wide = p.wide;
}

pub keeps_here : (a : ℕ → SampleHead → Type 0) (h : List Bool) (x : List Channel) → KeepsForAll a a h h x x
keeps_here a h x = record { kept = λ s. s; exact = λ c lt s. s; many = refl; wide = refl }
