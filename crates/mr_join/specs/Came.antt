-- What the replies that are kept stand for.
use Rattle.std.specs.Prelude.{Some}
use Rattle.mr_join.specs.declared.joined.Came.{Came}
use Rattle.mr_join.specs.declared.joined.Came.TheVariants.{OneSide, BothSides}
use Rattle.mr_join.specs.Sides.{SideReplies, no_replies, with_side_reply}

-- the replies of both sides, by those that came
abbrev pub replies_in : Came → SideReplies
replies_in (OneSide side reply) = with_side_reply no_replies side reply
replies_in (BothSides old new) = record { old = Some old; new = Some new }
