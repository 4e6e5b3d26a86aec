-- What is known of a socket.
use Rattle.std.specs.Prelude.{Bool, true, false, ◌||◌, ◌&&◌, not, nat_lt}
use Rattle.mr_driver.specs.declared.flow.Flow.{Flow}
use Rattle.mr_driver.specs.declared.flow.Signs.{Signs}
use Rattle.mr_driver.specs.declared.reading.Got.{Got}
use Rattle.mr_driver.specs.declared.writing.Put.{Put}

-- nothing was told of it yet
abbrev pub still : Flow
still = record { has_more = false; to_end = false; is_blocked = false }

-- it may be read where it sends or ends, is read to its end from then on, and takes more where it says so
abbrev pub after_signs : Signs → Flow → Flow
after_signs signs f = record {
  has_more = f.has_more || (signs.sends || signs.ends);
  to_end = f.to_end || signs.ends;
  is_blocked = f.is_blocked && not signs.takes;
}

-- whether there may be more after a read
abbrev pub is_more_after : Got → Flow → Bool
is_more_after (Got.All count) f = f.to_end && nat_lt 0 count
is_more_after (Got.Some count) f = f.has_more
is_more_after Got.End f = false
is_more_after Got.Broken f = false

-- what is known after a read that gave this
abbrev pub after_reading : Got → Flow → Flow
after_reading got f = record f { has_more = is_more_after got f }

-- whether it takes no more after a write
abbrev pub is_blocked_after : Put → Flow → Bool
is_blocked_after (Put.All count) f = f.is_blocked
is_blocked_after (Put.Some count) f = true
is_blocked_after Put.Broken f = f.is_blocked

-- what is known after a write that took this
abbrev pub after_writing : Put → Flow → Flow
after_writing put f = record f { is_blocked = is_blocked_after put f }
