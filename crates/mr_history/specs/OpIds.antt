-- When two names of requests are the same.
use Rattle.std.specs.Prelude.{◌&&◌, ◌==◌, Bool}
use Rattle.mr_history.specs.declared.op_id.OpId.{OpId}

-- two names of requests are the same: in proxy, incarnation and number
abbrev pub is_same_op : OpId → OpId → Bool
is_same_op a b = (a.proxy == b.proxy) && (a.incarnation == b.incarnation) && (a.number == b.number)
