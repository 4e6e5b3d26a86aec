-- A carrier that performs legs on a cache of the same process.
use Rattle.std.specs.Prelude.{◌≡◌, ℕ, ◌⊎◌, Option, Some, None}
use Rattle.mr_text.specs.declared.cause.Cause.TheVariants.{ClockFault}
use Rattle.mr_join.specs.declared.leg_reply.LegReply.{LegReply}
use Rattle.mr_join.specs.declared.leg_reply.LegReply.TheVariants.{Failed}
use Rattle.mr_node.specs.Kinds.{IsOfKind}
use Rattle.mr_proxy.specs.declared.sheet.LegSheet.{LegSheet}
use Rattle.mr_desks.specs.Issuing.{ClockRelation}

-- the reply is of the kind of the leg's command
abbrev pub IsReplyOfKind : LegSheet → LegReply → Type 0
IsReplyOfKind sheet reply = IsOfKind sheet.command reply

-- The clock was read once, and there is a reply: of the command's kind where there was a reading, else that the clock failed.
abbrev pub CarriesLocally : {K : Type 0} → ClockRelation K → K → LegSheet → Option LegReply → K → Type 0
CarriesLocally reads clock sheet None clock' = ⊥
CarriesLocally reads clock sheet (Some reply) clock' =
    ((t : ℕ) × reads clock (Some t) clock' × IsReplyOfKind sheet reply) ⊎ (reads clock None clock' × (reply ≡ Failed ClockFault))
