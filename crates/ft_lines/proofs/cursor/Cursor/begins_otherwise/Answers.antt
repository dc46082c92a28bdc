use Rattle.std.proofs.Common.{rules, ◌≡◌, ◌-◌, ◌≤◌, ℕ, List, length, take, drop, refl}
use Rattle.std.proofs.lemmas.List.{take_rest}
use Rattle.ft_lines.specs.Reading.{spaces}
use Rattle.ft_lines.proofs.FirstByte.{otherwise}
use Rattle.ft_lines.proofs.cursor.Cursor.begins_otherwise.Goals as goal

pub returns-then-not-is_empty-2 : goal.returns-then-not-is_empty-2
returns-then-not-is_empty-2 c =
    let s = c.spaces_of.result in
    let left = c.self.inside.left.now in
    let rest : List ℕ = take (length left - s) (drop s left) in
    let all : drop (spaces c.args.self.now.left) c.args.self.now.left ≡ rest = rw
    (← c.self.view_is, c.spaces_of.ensures.value, take_rest left (spaces left)) refl in
    let some : 1 ≤ length rest = search (rules, c) in
    let more : 1 ≤ length c.args.wanted.now = search (rules, c) in
    otherwise c.args.self.now rest c.args.wanted.now all some more
