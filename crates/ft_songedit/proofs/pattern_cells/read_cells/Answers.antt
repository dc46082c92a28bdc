use Rattle.std.proofs.Common.{◌≡◌, ℕ, ◌+◌, ◌-◌, ◌*◌, ◌<◌, ◌≤◌, ap, sym, subst, refl, ◌∙◌, arith, inl, inr, get_or}
use Rattle.std.proofs.lemmas.Bool.{cases_lt}
use Rattle.ft_types.specs.Views.{empty_cell}
use Rattle.ft_types.specs.Blocks.{pieces_of}
use Rattle.ft_segments.specs.Walk.{IsOf}
use Rattle.ft_songedit.proofs.Stored.{is_stored, rows_are, few_cells, buffer_is}
use Rattle.ft_songedit.proofs.pattern_cells.read_cells.Goals as goal

pub returns-then-count-gt8192-clause-answer : goal.returns-then-count-gt8192-clause-answer
returns-then-count-gt8192-clause-answer g c = λ p m x may shows is wide there.
    let rows = c.rows-rows.ensures.answer p m may shows is ∙ rows_are m c.args.pattern x there in
    let few = few_cells p m c.args.pattern x (is_stored p m c.args.pattern x shows there) shows in
    let count : c.from.result * c.from-2.result ≡ x.rows * m.channels = rw (c.from.ensures, c.from-2.ensures, rows, wide) refl in
    let test = c.if-count-gt8192.true in
    absurd (omega (arith, count, few, test))

in_body : (n b j : ℕ) → b * 256 ≤ n → j ≡ n - b * 256 → b * 256 + j ≡ n
in_body n b j le is = omega arith

pub loop-body-preserved : goal.loop-body-preserved
loop-body-preserved g c =
    let made = c.loop-body.invariant in
    let b = c.loop-body.body in
    let next = c.read_numbered_body.ensures in
    record {
      long = c.read_numbered_body.array_long;
      narrows = λ p s may. made.narrows p s (next.narrows p s may);
      read = λ p m x may shows is wide there rows n lt.
          let before = λ (s : ℕ) (of : IsOf p s). next.narrows p s (may s of) in
          let count : c.from.result * c.from-2.result ≡ x.rows * m.channels = rw (c.from.ensures, c.from-2.ensures, rows, wide) refl in
          let here : b < pieces_of (x.rows * m.channels) 256 = omega (arith, c.loop-body-test.true, c.div_ceil-body-end.ensures, count) in
          elim (cases_lt n (b * 256)) [
            | inl less ↦ next.before n less ∙ made.read p m x before shows is wide there rows n less
            | inr more ↦
                let j : ℕ = n - b * 256 in
                let e : b * 256 + j ≡ n = in_body n b j more refl in
                ap (λ k. get_or c.read_numbered_body.new.cells k empty_cell) (sym e)
                ∙ next.read p m x may shows is there here j (omega (arith, lt, more))
                ∙ ap (λ k. get_or x.cells k empty_cell) e
          ];
      same = g.met.V.WordView.same_through c.args.view.now c.loop-body.view c.read_numbered_body.new.view made.same next.same;
    }

pub returns-clause-answer : goal.returns-clause-answer
returns-clause-answer g c = λ p m x may shows is wide there.
    let made = c.loop-body.invariant in
    let before = λ (s : ℕ) (of : IsOf p s). made.narrows p s (may s of) in
    let rows = c.rows-rows.ensures.answer p m before shows is ∙ rows_are m c.args.pattern x there in
    let stored = is_stored p m c.args.pattern x shows there in
    let few = few_cells p m c.args.pattern x stored shows in
    let channels : c.args.channels ≡ m.channels = wide in
    let count : c.rows-rows.result * c.args.channels ≡ x.rows * m.channels = rw (rows, wide) refl in
    let given : c.from.result * c.from-2.result ≡ x.rows * m.channels = rw (c.from.ensures, c.from-2.ensures, rows, wide) refl in
    buffer_is c.rows-rows.result c.args.channels c.loop-body.cells x rows
    (subst (λ (n : ℕ). Rattle.ft_types.specs.Valid.IsValidPattern n x) (sym wide) stored.valid) (omega (arith, made.long, count, few))
    (λ n lt. made.read p m x may shows is wide there rows n
    (omega (arith, lt, count, given, c.loop-body-test.false, c.div_ceil-body-end.ensures)))
