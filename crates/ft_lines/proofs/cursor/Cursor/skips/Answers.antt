use Rattle.ft_lines.proofs.ReadingLaws.{wrong_place}
use Rattle.ft_lines.proofs.cursor.Cursor.skips.Goals as goal

pub returns-in-Err-clause-no : goal.returns-in-Err-clause-no
returns-in-Err-clause-no c =
    rw (← c.self.view_is) (wrong_place c.in-Err.field-0 _ c.in-Err.ensures.value c.in-Err.ensures.memory)
