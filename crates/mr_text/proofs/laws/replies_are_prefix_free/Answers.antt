use Rattle.mr_text.specs.Replies.{SpellsReply, RefusesReply}
use Rattle.mr_text.specs.steps.ReplyReading.{reply_reading}
use Rattle.mr_text.proofs.OneReading.{prefix_free}
use Rattle.mr_text.proofs.ReplyReading.{reply_found, reply_refusal_found}
use Rattle.mr_text.proofs.laws.replies_are_prefix_free.Goals as goal

pub returns : goal.returns
returns c = prefix_free SpellsReply RefusesReply reply_reading reply_found reply_refusal_found
