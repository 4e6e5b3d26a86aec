-- The replies of the two sides of a migration.
use Rattle.std.specs.Prelude.{List, [], ◌∷◌, ◌++◌, Option, Some, None, option_to_list}
use Rattle.mr_phases.specs.declared.side.Side.{Side}
use Rattle.mr_phases.specs.declared.side.Side.TheVariants.{Old, New}
use Rattle.mr_join.specs.declared.leg_reply.LegReply.{LegReply}

-- what each side answered, as far as it did
pub record SideReplies : Type 0 where
  pub old : Option LegReply
  pub new : Option LegReply

-- neither side has answered
abbrev pub no_replies : SideReplies
no_replies = record { old = None; new = None }

-- the replies with one more of this side
abbrev pub with_side_reply : SideReplies → Side → LegReply → SideReplies
with_side_reply replies Old reply = record { old = Some reply; new = replies.new }
with_side_reply replies New reply = record { old = replies.old; new = Some reply }

-- in order of place: the old side's first, whichever came first
abbrev pub in_order : SideReplies → List LegReply
in_order replies = option_to_list replies.old ++ option_to_list replies.new

-- the side across
abbrev pub other_side : Side → Side
other_side Old = New
other_side New = Old

-- a join under way: the sides that are to answer yet, and what came
pub record JoiningView : Type 0 where
  pub awaits : List Side
  pub came : SideReplies

-- what this side answered, if it did
abbrev pub came_from : Side → Option LegReply → SideReplies
came_from side None = no_replies
came_from side (Some reply) = with_side_reply no_replies side reply
