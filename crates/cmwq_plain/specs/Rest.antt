-- A machine at rest.
use Rattle.std.specs.List.{list_all}
use Rattle.std.specs.Prelude.{Bool, ◌&&◌, is_none}
use Rattle.cmwq_table.specs.State.{State}

-- nothing is pending, and nothing runs
abbrev pub is_at_rest : State → Bool
is_at_rest s = list_all is_none s.pending && list_all is_none s.running
