use Rattle.mr_text.specs.Replies.{SpellsReply, RefusesReply}
use Rattle.mr_text.specs.steps.ReplyReading.{reply_reading}
use Rattle.mr_text.proofs.OneReading.{one_refusal}
use Rattle.mr_text.proofs.ReplyReading.{reply_found, reply_refusal_found}
use Rattle.mr_text.proofs.laws.replies_have_one_refusal.Goals as goal

pub returns : goal.returns
returns c = one_refusal SpellsReply RefusesReply reply_reading reply_found reply_refusal_found
