-- What a channel remembers of the parameters of its effects: fifteen numbers.
use Rattle.std.specs.Prelude.{ℕ, ◌==◌, set, slice_index, if◌then◌else◌}
use Rattle.ft_replay.specs.declared.state.Channel.{Channel}

-- a parameter other than 0 is remembered
abbrev pub with_memory : ℕ → ℕ → Channel → Channel
with_memory place parameter channel =
    if parameter == 0 then channel
    else record channel { memory = set channel.memory place parameter }

abbrev pub remembered : ℕ → Channel → ℕ
remembered place channel = slice_index channel.memory place

-- ---- the index of each effect that has a memory

abbrev pub portamento_up_index : ℕ
portamento_up_index = 0

abbrev pub portamento_down_index : ℕ
portamento_down_index = 1

abbrev pub sample_offset_index : ℕ
sample_offset_index = 2

-- of A, and of 5 and 6
abbrev pub volume_slide_index : ℕ
volume_slide_index = 3

abbrev pub fine_portamento_up_index : ℕ
fine_portamento_up_index = 4

abbrev pub fine_portamento_down_index : ℕ
fine_portamento_down_index = 5

abbrev pub fine_volume_up_index : ℕ
fine_volume_up_index = 6

abbrev pub fine_volume_down_index : ℕ
fine_volume_down_index = 7

abbrev pub global_slide_index : ℕ
global_slide_index = 8

abbrev pub panning_slide_index : ℕ
panning_slide_index = 9

-- R has one for each digit
abbrev pub retrigger_change_index : ℕ
retrigger_change_index = 10

abbrev pub retrigger_interval_index : ℕ
retrigger_interval_index = 11

abbrev pub tremor_index : ℕ
tremor_index = 12

abbrev pub extra_fine_up_index : ℕ
extra_fine_up_index = 13

abbrev pub extra_fine_down_index : ℕ
extra_fine_down_index = 14
