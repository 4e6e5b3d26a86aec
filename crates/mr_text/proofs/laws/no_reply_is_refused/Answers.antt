use Rattle.mr_text.specs.Replies.{SpellsReply, RefusesReply}
use Rattle.mr_text.specs.steps.ReplyReading.{reply_reading}
use Rattle.mr_text.proofs.OneReading.{not_refused}
use Rattle.mr_text.proofs.ReplyReading.{reply_found, reply_refusal_found}
use Rattle.mr_text.proofs.laws.no_reply_is_refused.Goals as goal

pub returns : goal.returns
returns c = not_refused SpellsReply RefusesReply reply_reading reply_found reply_refusal_found
