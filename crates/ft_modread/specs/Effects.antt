-- Effects. What ProTracker doesn't do at parameter 0 an Extended Module would do with the last
-- parameter that wasn't 0, so it becomes nothing.
use Rattle.std.specs.Prelude.{ℕ, ◌+◌, ◌%◌, ◌/◌, Bool, ◌==◌, ◌&&◌, ◌||◌, if◌then◌else◌}

-- slides up and down and volume slides by 0; fine slides by 0
abbrev pub is_idle : ℕ → ℕ → Bool
is_idle effect parameter =
    (((effect == 1) || (effect == 2) || (effect == 10)) && (parameter == 0))
    || ((effect == 14) && ((parameter == 0x10) || (parameter == 0x20) || (parameter == 0xA0) || (parameter == 0xB0)))

-- tone portamento or vibrato with a volume slide by 0 is that without it
abbrev pub is_slideless : ℕ → ℕ → Bool
is_slideless effect parameter = ((effect == 5) || (effect == 6)) && (parameter == 0)

-- effect 14 with 0x5y sets the finetune y, which ProTracker counts from 0 up to 7 and then from -8 on
abbrev pub is_finetune : ℕ → ℕ → Bool
is_finetune effect parameter = (effect == 14) && (parameter / 16 == 5)

abbrev pub mod_effect : ℕ → ℕ → ℕ
mod_effect effect parameter =
    if is_idle effect parameter then 0
    else (if is_slideless effect parameter then (if effect == 5 then 3 else 4) else effect)

-- -8 is the lowest finetune of an Extended Module, and 0 its 8
abbrev pub mod_parameter : ℕ → ℕ → ℕ
mod_parameter effect parameter =
    if is_idle effect parameter then 0
    else (if is_finetune effect parameter then 0x50 + (parameter + 8) % 16 else parameter)
