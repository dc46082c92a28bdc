-- What a player is, from its fields.
use Rattle.std.specs.Prelude.{◌≡◌}
use Rattle.ft_player.specs.declared.player.Player.TheInside.{Inside as PlayerInside}
use Rattle.ft_player.specs.declared.idle.Idle.TheInside.{Inside as IdleInside}
use Rattle.ft_player.specs.Player.{PlayerState, IsInOrder, held_in}

abbrev pub player_state : PlayerInside → PlayerState
player_state player = record {
  pass = player.pass;
  song = player.song;
  seats = player.seats.items;
  mixed = player.mixed.items;
  rate = player.rate;
}

pub record IsPlayer (player : PlayerInside) : Type 0 where
  pub held : player.pass.notes.held ≡ held_in player.held
  pub order : IsInOrder (player_state player)

-- with the pass that was handed out as it was
abbrev pub idle_state : IdleInside → PlayerState
idle_state idle = record {
  pass = idle.pass.value;
  song = idle.song;
  seats = idle.seats.items;
  mixed = idle.mixed.items;
  rate = idle.rate;
}

pub record IsIdle (idle : IdleInside) : Type 0 where
  pub held : idle.pass.value.notes.held ≡ held_in idle.held
  pub order : IsInOrder (idle_state idle)
