use Rattle.std.proofs.Common.{rules, ◌≡◌, ◌≤◌, ◌+◌, ◌-◌, ◌∙◌, ℕ, Bool, true, List, Option, IfSome, length, set, ap, sym, subst, arith}
use Rattle.std.proofs.lemmas.List.{take_at}
use Rattle.ft_retire.specs.Births.{BirthsState, HasCounts}
use Rattle.ft_retire.specs.Marks.{unmarked_in, looked_at, IsLeastUnmarked}
use Rattle.ft_retire.proofs.Counting.{counted_full, counted_given}
use Rattle.ft_retire.proofs.Marking.{some_unmarked}
use Rattle.ft_retire.proofs.births.Births.give.Goals as goal

pub invariant_of-self : goal.invariant_of-self
invariant_of-self c =
    let marks : List Bool = c.self.inside.marks.items in
    let none : unmarked_in marks ≡ 0 =
    subst (λ (ms : List Bool). unmarked_in ms ≡ 0) c.deref.ensures.value (c.first_unmarked-found.ensures.none c.in_default.is) in
    let looked : c.self.inside.looked + c.first_unmarked-found.result.1 ≡ length marks = c.first_unmarked-found.ensures.looked
    ∙ (λ i. looked_at (c.deref.ensures.value i) (c.in_default.is i)) in
    counted_full c.self.inside.lives.items marks c.self.inside.free c.self.inside.looked _ c.self.invariant none (omega (arith, looked))

pub invariant_of-self-2 : goal.invariant_of-self-2
invariant_of-self-2 c =
    let many : length c.mark.new.marks ≡ c.self.inside.marks.len = search rules in
    let found : IfSome c.first_unmarked-found.result.0 (λ (s : ℕ). IsLeastUnmarked c.self.inside.marks.items s) =
    subst (λ (ms : List Bool). IfSome c.first_unmarked-found.result.0 (λ (s : ℕ). IsLeastUnmarked ms s)) c.deref.ensures.value
    c.first_unmarked-found.ensures.found in
    let least : IsLeastUnmarked c.self.inside.marks.items c.in-Some.segment =
    subst (λ (o : Option ℕ). IfSome o (λ (s : ℕ). IsLeastUnmarked c.self.inside.marks.items s)) c.in-Some.is found in
    let looked : c.self.inside.looked + c.first_unmarked-found.result.1 ≡ c.in-Some.segment + 1 = c.first_unmarked-found.ensures.looked
    ∙ ap (looked_at c.deref.result.now) c.in-Some.is in
    let set_one : c.mark.new.marks ≡ set c.self.inside.marks.items c.in-Some.segment true = search rules in
    let count : unmarked_in c.mark.new.marks + c.mark.result ≡ unmarked_in c.self.inside.marks.items = search rules in
    subst (λ (ms : List Bool). HasCounts (set c.self.inside.lives.items c.in-Some.segment c.from_version.result) ms
    (c.self.inside.free - c.mark.result) (c.self.inside.looked + c.first_unmarked-found.result.1))
    (sym (take_at c.mark.new.marks _ c.self.inside.marks.len many))
    (subst (λ (n : ℕ). HasCounts (set c.self.inside.lives.items c.in-Some.segment c.from_version.result) c.mark.new.marks
    (c.self.inside.free - c.mark.result) n) (sym looked)
    (counted_given c.self.inside.lives.items c.self.inside.marks.items c.mark.new.marks c.self.inside.free
    c.self.inside.looked c.in-Some.segment c.mark.result c.from_version.result c.self.invariant least set_one
    count c.mark.ensures.marked))

pub returns-clause-none : goal.returns-clause-none
returns-clause-none c =
    let found : IfSome c.first_unmarked-found.result.0 (λ (s : ℕ). IsLeastUnmarked c.self.inside.marks.items s) =
    subst (λ (ms : List Bool). IfSome c.first_unmarked-found.result.0 (λ (s : ℕ). IsLeastUnmarked ms s)) c.deref.ensures.value
    c.first_unmarked-found.ensures.found in
    let least : IsLeastUnmarked c.self.inside.marks.items c.in-Some.segment =
    subst (λ (o : Option ℕ). IfSome o (λ (s : ℕ). IsLeastUnmarked c.self.inside.marks.items s)) c.in-Some.is found in
    let some : 1 ≤ unmarked_in c.self.inside.marks.items =
    some_unmarked c.self.inside.marks.items c.in-Some.segment least.unmarked in
    let same : unmarked_in c.self.inside.marks.items ≡ unmarked_in c.args.self.now.marks =
    ap (λ (b : BirthsState). unmarked_in b.marks) c.self.view_is in
    ((λ e. absurd cc), λ empty. absurd (omega (arith, some, same, empty)))
