-- How far a link is, and when its node is dialled.
use Rattle.std.specs.Prelude.{ℕ, ◌+◌, ◌-◌, ◌^◌, Bool, true, false, nat_le, min, if◌then◌else◌, Option, Some, None}
use Rattle.mr_driver.specs.declared.hearing.LinkTrouble.{LinkTrouble}
use Rattle.mr_driver.specs.declared.stages.Stage.{Stage}
use Rattle.mr_driver.specs.declared.stages.Progress.{Progress}
use Rattle.mr_driver.specs.Times.{pause_after, has_passed}

-- its node may be dialled at once, and nothing was heard of it
abbrev pub begun : Progress
begun = record { stage = Stage.Down 0; pause = 0; is_told = false }

-- its node isn't dialled before this pause is over
abbrev pub paused : ℕ → ℕ → Progress → Progress
paused now pause p = record p { stage = Stage.Down (min (now + pause) (2 ^ 64 - 1)); pause = pause }

-- its node is dialled
abbrev pub dialed_at : ℕ → Progress → Progress
dialed_at now p = record p { stage = Stage.Dialed now }

-- there is a connection, so that it is news where there is none any more
abbrev pub up_at : ℕ → Progress → Progress
up_at now p = record p { stage = Stage.Up now; is_told = false }

-- its node couldn't be dialled, or didn't answer
abbrev pub refused_at : ℕ → Progress → Progress
refused_at now p = paused now (pause_after p.pause 0) p

-- how it is after an end at one of the stages
abbrev pub ended_in : ℕ → Progress → Stage → Progress
ended_in now p (Stage.Down until) = p
ended_in now p (Stage.Dialed since) = refused_at now p
ended_in now p (Stage.Up since) = paused now (pause_after p.pause (now - since)) p

-- it has ended: the longer it stood, the shorter the pause; one that is down stays as it is
abbrev pub ended_at : ℕ → Progress → Progress
ended_at now p = ended_in now p p.stage

-- there is a connection at this stage
abbrev pub is_up_at_stage : Stage → Bool
is_up_at_stage (Stage.Down until) = false
is_up_at_stage (Stage.Dialed since) = false
is_up_at_stage (Stage.Up since) = true

-- there is a connection
abbrev pub is_up_in : Progress → Bool
is_up_in p = is_up_at_stage p.stage

-- the node was dialled at this stage, and hasn't answered
abbrev pub is_dialed_at_stage : Stage → Bool
is_dialed_at_stage (Stage.Down until) = false
is_dialed_at_stage (Stage.Dialed since) = true
is_dialed_at_stage (Stage.Up since) = false

-- its node was dialled, and hasn't answered
abbrev pub is_dialed_in : Progress → Bool
is_dialed_in p = is_dialed_at_stage p.stage

-- the node is to be dialled at this stage: its pause is over
abbrev pub is_due_in : ℕ → Stage → Bool
is_due_in now (Stage.Down until) = nat_le until now
is_due_in now (Stage.Dialed since) = false
is_due_in now (Stage.Up since) = false

-- its node is to be dialled
abbrev pub is_due_at : ℕ → Progress → Bool
is_due_at now p = is_due_in now p.stage

-- what ends a link at this stage: a dial that was unanswered for too long, or a machine that has no connection any more
abbrev pub trouble_in : Bool → ℕ → ℕ → Stage → Option LinkTrouble
trouble_in is_up bound now (Stage.Down until) = None
trouble_in is_up bound now (Stage.Dialed since) = if has_passed bound since now then Some LinkTrouble.NotReached else None
trouble_in is_up bound now (Stage.Up since) = if is_up then None else Some LinkTrouble.Silent

-- a dial was unanswered for longer than the bound allows, or the machine has no connection any more
abbrev pub trouble_at : Bool → ℕ → ℕ → Progress → Option LinkTrouble
trouble_at is_up bound now p = trouble_in is_up bound now p.stage
