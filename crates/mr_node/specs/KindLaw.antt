-- A cache answers each command by a reply of its kind.
use Rattle.std.proofs.Common.{ℕ, List, Bool, true, false, cond, Option, Some, None, is_some, sym, subst}
use Rattle.mr_join.specs.declared.leg_reply.LegReply.{LegReply}
use Rattle.mr_join.specs.declared.leg_reply.LegReply.TheVariants.{Deleted, NotFound}
use Rattle.mr_node.specs.Items.{NamedItem}
use Rattle.mr_node.specs.declared.command.NodeCommand.{NodeCommand}
use Rattle.mr_node.specs.declared.command.NodeCommand.TheVariants.{Get, Set, Delete}
use Rattle.mr_node.specs.Kinds.{IsOfKind}
use Rattle.mr_node.specs.Recency.{CacheView, RecencyStep, live_item, hit_or_miss, reply_to}

found-IsOfKind : (key : List ℕ) (found : Option NamedItem) → IsOfKind (Get key) (hit_or_miss found)
found-IsOfKind key None = tt
found-IsOfKind key (Some named) = tt

deleted-IsOfKind : (key : List ℕ) (found : Bool) → IsOfKind (Delete key) (cond found Deleted NotFound)
deleted-IsOfKind key true = tt
deleted-IsOfKind key false = tt

reply-IsOfKind : (now : ℕ) (command : NodeCommand) (items : List NamedItem) → IsOfKind command (reply_to now command items)
reply-IsOfKind now (Get key) items = found-IsOfKind key (live_item now key items)
reply-IsOfKind now (Set key flags exptime block) items = tt
reply-IsOfKind now (Delete key) items = deleted-IsOfKind key (is_some (live_item now key items))

-- a cache's step gives a reply of its command's kind
pub step-IsOfKind : (old : CacheView) (now : ℕ) (command : NodeCommand) (reply : LegReply) (new : CacheView)
    → RecencyStep old now command reply new → IsOfKind command reply
step-IsOfKind old now command reply new step =
    subst (IsOfKind command) (sym step.answers) (reply-IsOfKind now command old.items)
